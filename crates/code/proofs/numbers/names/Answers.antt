-- `code::numbers::names` meets its contract: the shape tells where the count stands.
-- Assumes nothing.
use mathlib.Core.Path.{refl, ap, ◌∙◌}
use native.Mathlib.Omega.{arith}
use Rattle.op.proofs.Shaping.{same_shape}
use Rattle.op.specs.Shapes.{shape_number}
use Rattle.code.proofs.Operands.{names_kw, names_attr_kw, names_none}
use Rattle.code.proofs.numbers.names.Goals as goal

pub returns-in-CallKw : goal.returns-in-CallKw
returns-in-CallKw c = c.byte.ensures ∙ names_kw _ _ _ refl (ap shape_number c.in-CallKw.is)

pub returns-in-CallAttrKw : goal.returns-in-CallAttrKw
returns-in-CallAttrKw c =
    let number = ap shape_number c.in-CallAttrKw.is in
    c.byte-in-CallAttrKw.ensures ∙ names_attr_kw _ _ _ refl (λ e. omega (arith, number, e)) number

pub returns-in_default : goal.returns-in_default
returns-in_default c =
    names_none _ _ _ refl (λ e. c.in_default.not-CallKw (same_shape _ _ e)) (λ e. c.in_default.not-CallAttrKw (same_shape _ _ e))
