-- `text::row::target` meets its contract: a displacement's target is signed, and any other operand has none.
-- Assumes nothing.
use mathlib.Core.Path.{◌≡◌, refl, sym, ap, ◌∙◌}
use Prim.Native.Nat.{ℕ, ◌+◌}
use native.Mathlib.Omega.{arith}
use lib.IntN.{ℤ, pos, ◌+ℤ◌}
use lib.ListN.{length}
use mir.Syntax.{w16, w64}
use mir.Val.{SFits, to_z, of_z}
use mir.ValLaws.{to_z-of_z}
use Rattle.op.specs.declared.Operand.{Operand}
use Rattle.op.specs.declared.Operand.TheVariants as O
use Rattle.text.specs.Decimal.{whole_text}
use Rattle.text.specs.Row.{dash, target_of, target_column}
use Rattle.text.proofs.Putting.{same_text}
use Rattle.text.proofs.row.target.Goals as goal

no_target : (at : ℕ) (o : Operand) → ((z : ℤ) → o ≡ O.Offset z → ⊥) → target_column (target_of at o) ≡ dash
no_target at O.None t = refl
no_target at (O.U8 a) t = refl
no_target at (O.I8 z) t = refl
no_target at (O.U16 a) t = refl
no_target at (O.Offset z) t = absurd (t z refl)
no_target at (O.U8U8 a b) t = refl
no_target at (O.U16U8 a b) t = refl
no_target at (O.U16U16 a b) t = refl
no_target at (O.U16U8U8 a b c) t = refl
no_target at (O.CallKw p n) t = refl
no_target at (O.CallAttrKw a p n) t = refl
no_target at (O.U16U16U8 a b c) t = refl

pub byte-requires : goal.byte-requires
byte-requires c = omega (arith, ap length (no_target c.args.at c.args.operand c.in_default.not-Offset))

pub returns-in_default : goal.returns-in_default
returns-in_default c = same_text (sym (no_target c.args.at c.args.operand c.in_default.not-Offset)) c.byte.ensures

some : (at : ℕ) (o : Operand) (z r : ℤ) → o ≡ O.Offset z → SFits w16 z → SFits w64 r
    → r ≡ pos (at + 3) +ℤ to_z w16 (of_z w16 z)
    → whole_text (to_z w64 (of_z w64 r)) ≡ target_column (target_of at o)
some at o z r is small wide e =
    ap whole_text (to_z-of_z w64 r wide ∙ e ∙ ap (λ (x : ℤ). pos (at + 3) +ℤ x) (to_z-of_z w16 z small))
    ∙ ap (λ (x : Operand). target_column (target_of at x)) (sym is)

pub signed-requires : goal.signed-requires
signed-requires c =
    omega (
      arith,
      ap length
          (some c.args.at c.args.operand c.in-Offset.displacement c.jump_target.result c.in-Offset.is (record { sfits = omega arith })
          (record { sfits = c.jump_target.type_inv }) c.jump_target.ensures),
    )

pub returns : goal.returns
returns c =
    same_text
    (some c.args.at c.args.operand c.in-Offset.displacement c.jump_target.result c.in-Offset.is (record { sfits = omega arith })
    (record { sfits = c.jump_target.type_inv }) c.jump_target.ensures) c.signed.ensures
