-- A text that is read as a row is that row's text.
-- Assumes nothing.
use mathlib.Core.Path.{◌≡◌, refl, sym, ap, ◌∙◌, subst}
use mathlib.Core.Bool.{Bool, true, false, cond, not, ◌&&◌}
use mathlib.Core.List.{List, [], ◌∷◌}
use Rattle.std.specs.Prelude.{None, Option, Some}
use Prim.Native.Nat.{ℕ, suc, ◌-◌, ◌<◌}
use native.Mathlib.Omega.{arith}
use lib.Dec.{eqb}
use lib.ListN.{length}
use Rattle.base.proofs.Bools.{true_t, and_true, clash}
use Rattle.op.specs.Opcodes.{table, known}
use Rattle.op.proofs.Listed.{known_row}
use lib.IntN.{ℤ, pos, negsuc}
use borrow.Author.Tests.{eqb-true, eqb-false, not-true}
use Rattle.text.specs.Decimal.{decimal, whole_text}
use Rattle.text.specs.Number.{natural, value}
use Rattle.text.specs.Parts.{join, split}
use Rattle.text.proofs.ReadBack.{decimal_value}
use Rattle.text.proofs.Splitting.{join_split, split_some}
use Rattle.op.specs.Names.{name_of}
use Rattle.text.specs.Reading.{same, opcode_of}
use Rattle.text.proofs.Opcodes.{read, yes_same}
use Rattle.text.specs.Row.{Row, dash, whole_texts, operand_column, target_column, row_text}
use Rattle.text.specs.Reading.{only_if, positive, negative, read_whole, both, read_all, read_operands, present}
use Rattle.text.specs.Reading.{read_target, row, read_fields, read_row}

nothing : {A : Type 0} {a : A} → None ≡ Some a → ⊥
nothing {a} e = clash cc

only : {A : Type 0} (b : Bool) (a r : A) → only_if b a ≡ Some r → (b ≡ true) × (a ≡ r)
only true a r e = (refl, cc)
only false a r e = absurd (nothing e)

negative_text : (t : List ℕ) (z : ℤ) → negative t ≡ Some z → 45 ∷ t ≡ whole_text z
negative_text t z e =
    let o = only (natural t && not (eqb (value t) 0)) (negsuc (value t - 1)) z e in
    let a = and_true (natural t) (not (eqb (value t) 0)) o.0 in
    let ne = eqb-false (value t) 0 (not-true (eqb (value t) 0) a.1) in
    let s : suc (value t - 1) ≡ value t = omega arith in
    sym (ap whole_text (sym o.1) ∙ ap (λ (n : ℕ). 45 ∷ decimal n) s ∙ ap (λ (l : List ℕ). 45 ∷ l) (decimal_value t (true_t (natural t) a.0)))

positive_text : (t : List ℕ) (z : ℤ) → positive t ≡ Some z → t ≡ whole_text z
positive_text t z e =
    let o = only (natural t) (pos (value t)) z e in
    sym (ap whole_text (sym o.1) ∙ decimal_value t (true_t (natural t) o.0))

pub whole_text_lem : (t : List ℕ) (z : ℤ) → read_whole t ≡ Some z → t ≡ whole_text z
whole_text_lem [] z e = absurd (nothing e)
whole_text_lem (c ∷ t) z e = go (eqb c 45) refl e
  where
    go : (b : Bool) → eqb c 45 ≡ b → cond b (negative t) (positive (c ∷ t)) ≡ Some z → c ∷ t ≡ whole_text z
    go true q e = ap (λ (x : ℕ). x ∷ t) (eqb-true c 45 q) ∙ negative_text t z e
    go false q e = positive_text (c ∷ t) z e

all_text : (ts : List (List ℕ)) (zs : List ℤ) → read_all ts ≡ Some zs → ts ≡ whole_texts zs
all_text [] zs e = let q : [] ≡ zs = cc in ap whole_texts q
all_text (t ∷ ts) zs e = go (read_whole t) refl (read_all ts) refl (λ zs' q. all_text ts zs' q) e
  where
    go : (a : Option ℤ) → read_whole t ≡ a → (b : Option (List ℤ)) → read_all ts ≡ b
        → ((zs' : List ℤ) → read_all ts ≡ Some zs' → ts ≡ whole_texts zs') → both a b ≡ Some zs → t ∷ ts ≡ whole_texts zs
    go None p b q f e = absurd (nothing e)
    go (Some z) p None q f e = absurd (nothing e)
    go (Some z) p (Some zs') q f e =
        let h : z ∷ zs' ≡ zs = cc in
        let x = whole_text_lem t z p in
        let y = f zs' q in
        ap (λ (l : List ℕ). l ∷ ts) x ∙ ap (λ (l : List (List ℕ)). whole_text z ∷ l) y ∙ ap whole_texts h

joined : (t : List ℕ) (zs : List ℤ) → split 44 t ≡ whole_texts zs → t ≡ operand_column zs
joined t [] e = absurd (split_some 44 t e)
joined t (z ∷ zs) e = sym (join_split 44 t) ∙ ap (join 44) e

operands_text : (t : List ℕ) (zs : List ℤ) → read_operands t ≡ Some zs → t ≡ operand_column zs
operands_text t zs e = go (same t dash) refl e
  where
    go : (b : Bool) → same t dash ≡ b → cond b (Some []) (read_all (split 44 t)) ≡ Some zs → t ≡ operand_column zs
    go true q e = let h : [] ≡ zs = cc in yes_same t dash q ∙ ap operand_column h
    go false q e = joined t zs (all_text (split 44 t) zs e)

target_text : (t : List ℕ) (z : Option ℤ) → read_target t ≡ Some z → t ≡ target_column z
target_text t z e = go (same t dash) refl e
  where
    inner : (w : Option ℤ) → read_whole t ≡ w → present w ≡ Some z → t ≡ target_column z
    inner None p e = absurd (nothing e)
    inner (Some x) p e = let h : Some x ≡ z = cc in whole_text_lem t x p ∙ ap target_column h

    go : (b : Bool) → same t dash ≡ b → cond b (Some None) (present (read_whole t)) ≡ Some z → t ≡ target_column z
    go true q e = let h : None ≡ z = cc in yes_same t dash q ∙ ap target_column h
    go false q e = inner (read_whole t) refl e

record Said (a b c d : List ℕ) (r : Row) : Type 0 where
  offset_is : a ≡ decimal r.offset
  name_is : b ≡ name_of r.opcode
  known : r.opcode < length table
  operands_are : c ≡ operand_column r.operands
  target_is : d ≡ target_column r.target

said : (a b c d : List ℕ) (r : Row) (n : Bool) → natural a ≡ n → (k : Bool) → known (opcode_of b) ≡ k
    → (zs : Option (List ℤ)) → read_operands c ≡ zs → (z : Option (Option ℤ)) → read_target d ≡ z
    → row n (value a) k (opcode_of b) zs z ≡ Some r → Said a b c d r
said a b c d r false e₁ k e₂ zs e₃ z e₄ e = absurd (nothing e)
said a b c d r true e₁ false e₂ zs e₃ z e₄ e = absurd (nothing e)
said a b c d r true e₁ true e₂ None e₃ z e₄ e = absurd (nothing e)
said a b c d r true e₁ true e₂ (Some zs) e₃ None e₄ e = absurd (nothing e)
said a b c d r true e₁ true e₂ (Some zs) e₃ (Some z) e₄ e =
    let s : Row = record { offset = value a; opcode = opcode_of b; operands = zs; target = z } in
    let q : s ≡ r = cc in
    let k = (known_row (opcode_of b)).0 e₂ in
    subst (λ (x : Row). Said a b c d x) q
    (record {
      offset_is = sym (decimal_value a (true_t (natural a) e₁));
      name_is = sym (read b k);
      known = k;
      operands_are = operands_text c zs e₃;
      target_is = target_text d z e₄;
    })

fields_text_lem : (fs : List (List ℕ)) (r : Row) → read_fields fs ≡ Some r
    → (join 9 fs ≡ row_text r) × (r.opcode < length table)
unfolding row_text
fields_text_lem [] r e = absurd (nothing e)
fields_text_lem (a ∷ []) r e = absurd (nothing e)
fields_text_lem (a ∷ b ∷ []) r e = absurd (nothing e)
fields_text_lem (a ∷ b ∷ c ∷ []) r e = absurd (nothing e)
fields_text_lem (a ∷ b ∷ c ∷ d ∷ []) r e =
    let s = said a b c d r (natural a) refl (known (opcode_of b)) refl (read_operands c) refl (read_target d) refl e in
    (rw (s.offset_is, s.name_is, s.operands_are, s.target_is), s.known)
fields_text_lem (a ∷ b ∷ c ∷ d ∷ x ∷ ts) r e = absurd (nothing e)

-- what is read as a row is that row's text
pub row_text_lem : (t : List ℕ) (r : Row) → read_row t ≡ Some r → (t ≡ row_text r) × (r.opcode < length table)
unfolding read_row
row_text_lem t r e = let f = fields_text_lem (split 9 t) r e in (sym (join_split 9 t) ∙ f.0, f.1)
