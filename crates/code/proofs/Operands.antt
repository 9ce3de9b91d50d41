-- Sizes and shapes of the operands that are read: an instruction is a fixed part, and two bytes for each keyword name.
-- Assumes nothing.
use mathlib.Core.Path.{◌≡◌, refl, sym, ◌∙◌}
use mathlib.Core.Bool.{cond}
use mathlib.Core.List.{List}
use Prim.Native.Nat.{ℕ, ◌+◌, ◌*◌, ◌<◌}
use native.Mathlib.Omega.{arith}
use lib.Dec.{eqb}
use lib.ListN.{get_or}
use borrow.Author.Tests.{eq-eqb, ne_eqb}
use Rattle.op.specs.Shapes.{shape_number, operand_shape, size_of}
use Rattle.op.specs.declared.Operand.{Operand}
use Rattle.op.specs.declared.Operand.TheVariants as O
use Rattle.op.specs.declared.Shape.{Shape}
use Rattle.op.specs.declared.Shape.TheVariants as S
use Rattle.code.specs.Decode.{operand_in, names_in}

-- the operand that is read has the shape by which it is read
pub shape_in_lem : (s : Shape) (u : List ℕ) → operand_shape (operand_in s u) ≡ s
unfolding operand_in
shape_in_lem S.None u = refl
shape_in_lem S.U8 u = refl
shape_in_lem S.I8 u = refl
shape_in_lem S.U16 u = refl
shape_in_lem S.Offset u = refl
shape_in_lem S.U8U8 u = refl
shape_in_lem S.U16U8 u = refl
shape_in_lem S.U16U16 u = refl
shape_in_lem S.U16U8U8 u = refl
shape_in_lem S.CallKw u = refl
shape_in_lem S.CallAttrKw u = refl
shape_in_lem S.U16U16U8 u = refl

-- an instruction is its fixed part and two bytes for each name
pub size_by_names_lem : (o : Operand) → size_of (operand_shape o) (names_in o) ≡ size_of (operand_shape o) 0 + 2 * names_in o
unfolding size_of
size_by_names_lem O.None = refl
size_by_names_lem (O.U8 a) = refl
size_by_names_lem (O.I8 z) = refl
size_by_names_lem (O.U16 a) = refl
size_by_names_lem (O.Offset z) = refl
size_by_names_lem (O.U8U8 a b) = refl
size_by_names_lem (O.U16U8 a b) = refl
size_by_names_lem (O.U16U16 a b) = refl
size_by_names_lem (O.U16U8U8 a b c) = refl
size_by_names_lem (O.CallKw positional names) = omega arith
size_by_names_lem (O.CallAttrKw attribute positional names) = omega arith
size_by_names_lem (O.U16U16U8 a b c) = refl

-- the fixed part has 1 to 6 bytes
pub fixed_part : (s : Shape) → (0 < size_of s 0) × (size_of s 0 < 7)
unfolding size_of
fixed_part S.None = (omega arith, omega arith)
fixed_part S.U8 = (omega arith, omega arith)
fixed_part S.I8 = (omega arith, omega arith)
fixed_part S.U16 = (omega arith, omega arith)
fixed_part S.Offset = (omega arith, omega arith)
fixed_part S.U8U8 = (omega arith, omega arith)
fixed_part S.U16U8 = (omega arith, omega arith)
fixed_part S.U16U16 = (omega arith, omega arith)
fixed_part S.U16U8U8 = (omega arith, omega arith)
fixed_part S.CallKw = (omega arith, omega arith)
fixed_part S.CallAttrKw = (omega arith, omega arith)
fixed_part S.U16U16U8 = (omega arith, omega arith)

-- the names' count, by the shape's number
names_by_lem : (x : Shape) (u : List ℕ)
    → names_in (operand_in x u) ≡ cond (eqb (shape_number x) 9) (get_or u 2 0) (cond (eqb (shape_number x) 10) (get_or u 4 0) 0)
unfolding operand_in
names_by_lem S.None u = refl
names_by_lem S.U8 u = refl
names_by_lem S.I8 u = refl
names_by_lem S.U16 u = refl
names_by_lem S.Offset u = refl
names_by_lem S.U8U8 u = refl
names_by_lem S.U16U8 u = refl
names_by_lem S.U16U16 u = refl
names_by_lem S.U16U8U8 u = refl
names_by_lem S.CallKw u = refl
names_by_lem S.CallAttrKw u = refl
names_by_lem S.U16U16U8 u = refl

module _ (u : List ℕ) (x : Shape) (n : ℕ) (is : n ≡ shape_number x) where
  pub names_kw : n ≡ 9 → get_or u 2 0 ≡ names_in (operand_in x u)
  names_kw e = sym (names_by_lem x u ∙ rw (eq-eqb (shape_number x) 9 (sym is ∙ e)) refl)

  pub names_attr_kw : (n ≡ 9 → ⊥) → n ≡ 10 → get_or u 4 0 ≡ names_in (operand_in x u)
  names_attr_kw d e = sym (names_by_lem x u
      ∙ rw (ne_eqb (shape_number x) 9 (λ z. d (is ∙ z)), eq-eqb (shape_number x) 10 (sym is ∙ e)) refl)

  pub names_none : (n ≡ 9 → ⊥) → (n ≡ 10 → ⊥) → 0 ≡ names_in (operand_in x u)
  names_none d e = sym (names_by_lem x u
      ∙ rw (ne_eqb (shape_number x) 9 (λ z. d (is ∙ z)), ne_eqb (shape_number x) 10 (λ z. e (is ∙ z))) refl)
