-- A shape by its number, and the size by it.
-- Assumes nothing.
use Rattle.op.specs.declared.Refusal.{Refusal}
use Rattle.op.specs.declared.shapes.NoShape.{NoShape}
use Rattle.base.proofs.Numbered.{numbered_one}
use native.Mathlib.Omega.{arith}
use Rattle.std.specs.Prelude.{Ok, Err, Result}
use mathlib.Core.Path.{◌≡◌, refl, sym, ap, ◌∙◌}
use mathlib.Core.Bool.{Bool, true, false, cond, ◌||◌}
use native.Mathlib.Nat.{add-zero}
use lib.Dec.{eqb}
use borrow.Author.Tests.{ne_eqb}
use mathlib.Core.List.{List, [], ◌∷◌}
use Prim.Native.Nat.{ℕ, ◌+◌, ◌*◌, ◌/◌, ◌%◌, ◌^◌, ◌≤◌}
use lib.ListN.{get_or, get_or-eq_default}
use Rattle.op.specs.Opcodes.{known, row_of}
use Rattle.op.specs.Shapes.{shape_number, shape_in, shape_of, shape_no, size_of, Numbers}
use Rattle.op.specs.declared.Refusal.TheVariants.{UnknownOpcode}
use Rattle.op.specs.declared.Shape.{Shape}
use Rattle.op.specs.declared.Shape.TheVariants.{None, U8, I8, U16, Offset, U8U8, U16U8, U16U16, U16U8U8, CallKw, CallAttrKw, U16U16U8}

-- the shapes in the order of their numbers
abbrev shapes : List (Result Shape Refusal)
shapes =
    Ok None ∷ Ok U8 ∷ Ok I8 ∷ Ok U16 ∷ Ok Offset ∷ Ok U8U8 ∷ Ok U16U8 ∷ Ok U16U16 ∷ Ok U16U8U8 ∷ Ok CallKw ∷ Ok CallAttrKw ∷
    Ok U16U16U8 ∷ []

-- the shape of a number; past the twelve there is none
abbrev pub shape_at : ℕ → Result Shape Refusal
shape_at n = get_or shapes n (Err UnknownOpcode)

pub shape_at_lem : (s : Shape) → shape_at (shape_number s) ≡ Ok s
shape_at_lem None = refl
shape_at_lem U8 = refl
shape_at_lem I8 = refl
shape_at_lem U16 = refl
shape_at_lem Offset = refl
shape_at_lem U8U8 = refl
shape_at_lem U16U8 = refl
shape_at_lem U16U16 = refl
shape_at_lem U16U8U8 = refl
shape_at_lem CallKw = refl
shape_at_lem CallAttrKw = refl
shape_at_lem U16U16U8 = refl

-- a shape's number says which it is
pub same_shape : (s t : Shape) → shape_number s ≡ shape_number t → s ≡ t
same_shape s t e = let same : Ok s ≡ Ok t = sym (shape_at_lem s) ∙ ap shape_at e ∙ shape_at_lem t in cc

-- a number and its shape: one answer
number_low : (s : Shape) → shape_number s ≤ 11
number_low None = omega arith
number_low U8 = omega arith
number_low I8 = omega arith
number_low U16 = omega arith
number_low Offset = omega arith
number_low U8U8 = omega arith
number_low U16U8 = omega arith
number_low U16U16 = omega arith
number_low U16U8U8 = omega arith
number_low CallKw = omega arith
number_low CallAttrKw = omega arith
number_low U16U16U8 = omega arith

pub shape_one : (n : ℕ) (r s : Result Shape NoShape) → Numbers n r → Numbers n s → r ≡ s
shape_one n r s =
    numbered_one shape_number (λ (e : NoShape). e.0) 11 n r s same_shape
    (λ (d e : NoShape) (p : d.0 ≡ e.0). ap (λ (k : ℕ). record { 0 = k }) p) number_low

-- an opcode's shape is that of its number
pub by_number : (k : ℕ) → shape_at (shape_no k) ≡ shape_of k
unfolding shape_no shape_of
by_number k = go (known k)
  where
    go : (b : Bool) → shape_at (cond b (shape_number (shape_in (row_of k))) 12) ≡ cond b (Ok (shape_in (row_of k))) (Err UnknownOpcode)
    go true = shape_at_lem (shape_in (row_of k))
    go false = refl

-- the number n, answered for opcode k, in an arm of number m
pub shape_arm : (k n m : ℕ) → n ≡ shape_no k → n ≡ m → shape_at m ≡ shape_of k
shape_arm k n m e is = ap shape_at (sym is ∙ e) ∙ by_number k

pub shape_none : (k n : ℕ) → n ≡ shape_no k → 12 ≤ n → Err UnknownOpcode ≡ shape_of k
shape_none k n e h = sym (get_or-eq_default shapes (Err UnknownOpcode) {n = n} h) ∙ ap shape_at e ∙ by_number k

-- the size by a shape's number, without keyword names: half a byte of the row
abbrev pub least_size : ℕ → ℕ
least_size n = 0x6535_5433_3221 / 2 ^ (4 * n) % 16

-- with them, which two shapes have
abbrev size_by : ℕ → ℕ → ℕ
size_by n names = least_size n + cond (eqb n 9 || eqb n 10) (2 * names) 0

size_by_lem : (s : Shape) (names : ℕ) → size_by (shape_number s) names ≡ size_of s names
unfolding size_of
size_by_lem None names = refl
size_by_lem U8 names = refl
size_by_lem I8 names = refl
size_by_lem U16 names = refl
size_by_lem Offset names = refl
size_by_lem U8U8 names = refl
size_by_lem U16U8 names = refl
size_by_lem U16U16 names = refl
size_by_lem U16U8U8 names = refl
size_by_lem CallKw names = refl
size_by_lem CallAttrKw names = refl
size_by_lem U16U16U8 names = refl

-- of the number n, which is that of the shape s and is m
pub size_arm : (s : Shape) (n m names : ℕ) → n ≡ shape_number s → n ≡ m → size_by m names ≡ size_of s names
size_arm s n m names e is = ap (λ (x : ℕ). size_by x names) (sym is ∙ e) ∙ size_by_lem s names

-- of neither of the two
pub size_plain : (s : Shape) (n names : ℕ) → n ≡ shape_number s → (n ≡ 9 → ⊥) → (n ≡ 10 → ⊥) → least_size n ≡ size_of s names
size_plain s n names e kw attr =
    let none : least_size n ≡ size_by n names = rw (ne_eqb n 9 kw, ne_eqb n 10 attr) (sym (add-zero (least_size n))) in
    none ∙ size_arm s n n names e refl

-- the same by the shape
pub sized_kw : (s : Shape) (n names : ℕ) → n ≡ shape_number s → s ≡ CallKw → least_size n + 2 * names ≡ size_of s names
unfolding size_of
sized_kw s n names e is = rw (e, is) refl

pub sized_attr_kw : (s : Shape) (n names : ℕ) → n ≡ shape_number s → s ≡ CallAttrKw → least_size n + 2 * names ≡ size_of s names
unfolding size_of
sized_attr_kw s n names e is = rw (e, is) refl

pub sized_plain : (s : Shape) (n names : ℕ) → n ≡ shape_number s → (s ≡ CallKw → ⊥) → (s ≡ CallAttrKw → ⊥) → least_size n ≡ size_of s names
unfolding size_of
sized_plain None n names e kw attr = rw e refl
sized_plain U8 n names e kw attr = rw e refl
sized_plain I8 n names e kw attr = rw e refl
sized_plain U16 n names e kw attr = rw e refl
sized_plain Offset n names e kw attr = rw e refl
sized_plain U8U8 n names e kw attr = rw e refl
sized_plain U16U8 n names e kw attr = rw e refl
sized_plain U16U16 n names e kw attr = rw e refl
sized_plain U16U8U8 n names e kw attr = rw e refl
sized_plain CallKw n names e kw attr = absurd (kw refl)
sized_plain CallAttrKw n names e kw attr = absurd (attr refl)
sized_plain U16U16U8 n names e kw attr = rw e refl
