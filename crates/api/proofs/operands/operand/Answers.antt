-- `api::operands::operand` meets its contract: a signed byte, shape 2; the check finds the other shapes.
-- Assumes nothing.
use mathlib.Core.Path.{◌≡◌, refl, sym, ap, ◌∙◌}
use mathlib.Core.Bool.{Bool, true, false, cond}
use Prim.Native.Nat.{ℕ}
use lib.IntN.{ℤ}
use lib.Dec.{ltb}
use mir.Syntax.{w8}
use mir.Facts.{to_z-of_z}
use Rattle.std.specs.Prelude.{Option, Some, None}
use Rattle.std.proofs.lemmas.Option.{cond_some}
use Rattle.code.specs.Bytes.{signed}
use Rattle.op.specs.declared.Operand.{Operand}
use Rattle.op.specs.declared.Operand.TheVariants.{I8}
use Rattle.api.specs.Given.{given_of}
use Rattle.api.proofs.operands.operand.Goals as goal

no_byte : (t : Bool) (x : ℕ) (o : Option Operand) → cond t (Some x) None ≡ None → None ≡ cond t o None
no_byte true x o e = cc
no_byte false x o e = refl

pub returns-in_err-byte-in-2 : goal.returns-in_err-byte-in-2
unfolding given_of
returns-in_err-byte-in-2 c =
    let e = sym c.byte-in-2.ensures ∙ c.in_err-byte-in-2.was in
    rw (c.from_residual-in_err-byte-in-2.ensures, c.in-2.is) (no_byte _ _ _ e)

pub returns-in_ok-byte-in-2 : goal.returns-in_ok-byte-in-2
unfolding given_of
returns-in_ok-byte-in-2 c =
    let h = cond_some (ltb c.args.a 256) c.args.a _ (sym c.byte-in-2.ensures ∙ c.in_ok-byte-in-2.was) in
    rw (c.in-2.is, h.0)
    (ap (λ (z : ℤ). Some (I8 z))
    (to_z-of_z {w = w8} (record { sfits = c.to_i8.type_inv }) ∙ c.to_i8.ensures ∙ ap (signed 256) (sym h.1)))
