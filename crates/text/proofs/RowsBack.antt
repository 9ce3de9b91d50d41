-- Rows are read as they were written.
-- Assumes nothing.
use mathlib.Core.Path.{◌≡◌, refl, sym, ap, ◌∙◌}
use mathlib.Core.Bool.{Bool, true, false}
use mathlib.Core.List.{List, [], ◌∷◌, ◌++◌}
use Rattle.std.specs.Prelude.{None, Option, Some}
use Prim.Native.Nat.{ℕ, suc, ◌<◌}
use native.Mathlib.Omega.{arith}
use lib.Dec.{T, eqb, leb→le, lit<}
use lib.ListN.{length}
use Rattle.base.specs.Tests.{all}
use Rattle.base.proofs.Bools.{and_left, and_right, and_both, T_true, clash}
use Rattle.op.specs.Opcodes.{table}
use Rattle.op.proofs.Listed.{known_row}
use lib.IntN.{ℤ, pos, negsuc}
use lib.Seq.{append_snoc}
use borrow.Author.Tests.{ne_eqb}
use Rattle.text.specs.Decimal.{decimal, whole_text}
use Rattle.text.specs.Number.{digit, natural, value}
use Rattle.text.specs.Parts.{join, split}
use Rattle.text.proofs.ReadBack.{natural_decimal, value_decimal, natural_digits, digit_low, all_append}
use Rattle.text.proofs.Splitting.{other, Free, AllFree, split_join, split_onto}
use Rattle.op.specs.Names.{name_of}
use Rattle.text.specs.Reading.{same}
use Rattle.text.proofs.Opcodes.{named, late, names_late, yes_same}
use Rattle.text.specs.Listing.{line}
use Rattle.text.specs.Row.{Row, dash, whole_texts, operand_column, target_column, row_text}
use Rattle.text.specs.Reading.{read_whole, read_all, read_operands, read_target, read_fields, read_row}

first_digit : (c : ℕ) (t : List ℕ) → T (natural (c ∷ t)) → eqb c 45 ≡ false
first_digit c t n =
    let low = digit_low c (and_left (digit c) (all digit t) (natural_digits (c ∷ t) n)) in
    ne_eqb c 45 (λ e. omega arith)

positive_is : (t : List ℕ) → T (natural t) → read_whole t ≡ Some (pos (value t))
positive_is [] n = absurd n
positive_is (c ∷ t) n = rw (first_digit c t n, T_true (natural (c ∷ t)) n)

-- a whole number
pub whole_back : (z : ℤ) → read_whole (whole_text z) ≡ Some z
whole_back (pos n) = positive_is (decimal n) (natural_decimal n) ∙ ap (λ (m : ℕ). Some (pos m)) (value_decimal n)
whole_back (negsuc n) = rw (
  T_true (natural (decimal (suc n))) (natural_decimal (suc n)),
  value_decimal (suc n),
  ne_eqb (suc n) 0 (λ e. omega arith),
) (ap (λ (m : ℕ). Some (negsuc m)) (omega arith))

all_back : (zs : List ℤ) → read_all (whole_texts zs) ≡ Some zs
all_back [] = refl
all_back (z ∷ zs) = rw (whole_back z, all_back zs)

-- which characters stand in no field
all_mono : (f g : ℕ → Bool) → ((x : ℕ) → T (f x) → T (g x)) → (t : List ℕ) → T (all f t) → T (all g t)
all_mono f g h [] a = tt
all_mono f g h (x ∷ t) a =
    and_both (g x) (all g t) (h x (and_left (f x) (all f t) a)) (all_mono f g h t (and_right (f x) (all f t) a))

is_other : (s x : ℕ) → (x ≡ s → ⊥) → T (other s x)
is_other s x n = rw (ne_eqb x s n) tt

free_decimal : (s n : ℕ) → s < 48 → Free s (decimal n)
free_decimal s n h = all_mono digit (other s) (λ x d. is_other s x (λ e. omega (arith, digit_low x d))) (decimal n)
    (natural_digits (decimal n) (natural_decimal n))

free_whole : (s : ℕ) (z : ℤ) → s < 45 → Free s (whole_text z)
free_whole s (pos n) h = free_decimal s n (omega arith)
free_whole s (negsuc n) h = and_both (other s 45) (all (other s) (decimal (suc n))) (is_other s 45 (λ e. omega arith))
    (free_decimal s (suc n) (omega arith))

free_name : (s op : ℕ) → s < 48 → op < length table → Free s (name_of op)
free_name s op h o = all_mono late (other s) (λ x d. is_other s x (λ e. omega (arith, leb→le 48 x d))) (name_of op)
    (names_late op o)

free_wholes : (s : ℕ) (zs : List ℤ) → s < 45 → AllFree s (whole_texts zs)
free_wholes s [] h = tt
free_wholes s (z ∷ zs) h = (free_whole s z h, free_wholes s zs h)

free_join : (s q : ℕ) (ps : List (List ℕ)) → (q ≡ s → ⊥) → AllFree s ps → Free s (join q ps)
free_join s q [] n f = tt
free_join s q (p ∷ []) n f = f.0
free_join s q (p ∷ r ∷ ps) n f =
    all_append (other s) p (q ∷ join q (r ∷ ps)) f.0
    (and_both (other s q) (all (other s) (join q (r ∷ ps))) (is_other s q n) (free_join s q (r ∷ ps) n f.1))

free_operands : (s : ℕ) (zs : List ℤ) → s < 44 → Free s (operand_column zs)
free_operands s [] h = and_both (other s 45) true (is_other s 45 (λ e. omega arith)) tt
free_operands s (z ∷ zs) h = free_join s 44 (whole_text z ∷ whole_texts zs) (λ e. omega arith)
    (free_whole s z (omega arith), free_wholes s zs (omega arith))

free_target : (s : ℕ) (z : Option ℤ) → s < 45 → Free s (target_column z)
free_target s None h = and_both (other s 45) true (is_other s 45 (λ e. omega arith)) tt
free_target s (Some z) h = free_whole s z h

-- no whole number, and no row of them, is written `-`
not_same : (t : List ℕ) → (t ≡ dash → ⊥) → same t dash ≡ false
not_same t n = go (same t dash) refl
  where
    go : (b : Bool) → same t dash ≡ b → same t dash ≡ false
    go true e = absurd (n (yes_same t dash e))
    go false e = e

dash_none : read_all (split 44 dash) ≡ None
unfolding split
dash_none = refl

some-none : {A : Type 0} (a : A) → None ≡ Some a → ⊥
some-none a e = clash cc

pub operands_back : (zs : List ℤ) → read_operands (operand_column zs) ≡ Some zs
operands_back [] = refl
operands_back (z ∷ zs) =
    let s = split_join 44 (whole_text z) (whole_texts zs) (free_whole 44 z (lit< tt), free_wholes 44 zs (lit< tt)) in
    let a = ap read_all s ∙ all_back (z ∷ zs) in
    let n = not_same (operand_column (z ∷ zs))
    (λ e. some-none (z ∷ zs) (sym (ap (λ (t : List ℕ). read_all (split 44 t)) e ∙ dash_none) ∙ a)) in
    rw n a

pub target_back : (z : Option ℤ) → read_target (target_column z) ≡ Some z
target_back None = refl
target_back (Some z) =
    let n = not_same (whole_text z) (λ e. some-none z (sym (ap read_whole e) ∙ whole_back z)) in
    rw (n, whole_back z)

-- a row is read as it was written
pub row_back : (r : Row) → r.opcode < length table → read_row (row_text r) ≡ Some r
unfolding read_row row_text
row_back r h =
    ap read_fields
    (split_join 9 (decimal r.offset)
    (name_of r.opcode ∷ operand_column r.operands ∷ target_column r.target ∷ []) (
      free_decimal 9 r.offset (lit< tt),
      (
        free_name 9 r.opcode (lit< tt) h,
        (free_operands 9 r.operands (lit< tt), (free_target 9 r.target (lit< tt), tt)),
      ),
    ))
    ∙ rw (T_true (natural (decimal r.offset)) (natural_decimal r.offset), value_decimal r.offset, named r.opcode h, (known_row r.opcode).1 h, operands_back r.operands, target_back r.target)

-- and no line's end stands in it
pub row_free : (r : Row) → r.opcode < length table → Free 10 (row_text r)
unfolding row_text
row_free r h =
    free_join 10 9 (decimal r.offset ∷ name_of r.opcode ∷ operand_column r.operands ∷ target_column r.target ∷ []) (λ e. omega arith)
    (free_decimal 10 r.offset (lit< tt), (free_name 10 r.opcode (lit< tt) h, (free_operands 10 r.operands (lit< tt), (free_target 10 r.target (lit< tt), tt))))

-- so a line is found again in front of other lines
pub line_found : (r : Row) (rest : List ℕ) → r.opcode < length table
    → split 10 (line (row_text r) ++ rest) ≡ row_text r ∷ split 10 rest
line_found r rest h = ap (split 10) (append_snoc (row_text r) 10 rest) ∙ split_onto 10 (row_text r) rest (row_free r h)
