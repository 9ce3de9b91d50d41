-- `op::shapes::instruction_size` meets its contract: the row of sizes has each shape's, and only calls with keyword names
-- have more.
-- Assumes nothing.
use Rattle.op.proofs.Shaping.{sized_kw, sized_attr_kw, sized_plain}
use Rattle.op.proofs.shapes.instruction_size.Goals as goal

pub returns-in-CallKw : goal.returns-in-CallKw
returns-in-CallKw c = sized_kw _ _ _ c.number.ensures c.in-CallKw.is

pub returns-in-CallAttrKw : goal.returns-in-CallAttrKw
returns-in-CallAttrKw c = sized_attr_kw _ _ _ c.number.ensures c.in-CallAttrKw.is

pub returns-in_default : goal.returns-in_default
returns-in_default c = sized_plain _ _ _ c.number.ensures c.in_default.not-CallKw c.in_default.not-CallAttrKw
