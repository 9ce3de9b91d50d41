-- `op::refusals::named` meets its contract: each arm has its case's number.
-- Assumes nothing.
use mathlib.Core.Path.{◌∙◌, sym, ap}
use Rattle.op.specs.Refusals.{named_of}
use Rattle.op.proofs.refusals.named.Goals as goal

pub returns-in-UnknownOpcode : goal.returns-in-UnknownOpcode
returns-in-UnknownOpcode c = sym (ap named_of c.in-UnknownOpcode.is)

pub returns-in-UnknownOpcodeAt : goal.returns-in-UnknownOpcodeAt
returns-in-UnknownOpcodeAt c = c.low.ensures ∙ sym (ap named_of c.in-UnknownOpcodeAt.is)

pub returns-in-WrongShape : goal.returns-in-WrongShape
returns-in-WrongShape c = sym (ap named_of c.in-WrongShape.is)

pub returns-in-NotAJump : goal.returns-in-NotAJump
returns-in-NotAJump c = sym (ap named_of c.in-NotAJump.is)

pub returns-in-DepthBelowZero : goal.returns-in-DepthBelowZero
returns-in-DepthBelowZero c = sym (ap named_of c.in-DepthBelowZero.is)

pub returns-in-DepthTooLarge : goal.returns-in-DepthTooLarge
returns-in-DepthTooLarge c = sym (ap named_of c.in-DepthTooLarge.is)

pub returns-in-JumpTooFar : goal.returns-in-JumpTooFar
returns-in-JumpTooFar c = sym (ap named_of c.in-JumpTooFar.is)

pub returns-in-TooManyKeywords : goal.returns-in-TooManyKeywords
returns-in-TooManyKeywords c = sym (ap named_of c.in-TooManyKeywords.is)

pub returns-in-NameTooLarge : goal.returns-in-NameTooLarge
returns-in-NameTooLarge c = sym (ap named_of c.in-NameTooLarge.is)

pub returns-in-TooManyConstants : goal.returns-in-TooManyConstants
returns-in-TooManyConstants c = sym (ap named_of c.in-TooManyConstants.is)

pub returns-in-TooLarge : goal.returns-in-TooLarge
returns-in-TooLarge c = sym (ap named_of c.in-TooLarge.is)

pub returns-in-DepthsDiffer : goal.returns-in-DepthsDiffer
returns-in-DepthsDiffer c = sym (ap named_of c.in-DepthsDiffer.is)

pub returns-in-DeadTarget : goal.returns-in-DeadTarget
returns-in-DeadTarget c = sym (ap named_of c.in-DeadTarget.is)

pub returns-in-NoSuchMark : goal.returns-in-NoSuchMark
returns-in-NoSuchMark c = sym (ap named_of c.in-NoSuchMark.is)

pub returns-in-AlreadyPatched : goal.returns-in-AlreadyPatched
returns-in-AlreadyPatched c = sym (ap named_of c.in-AlreadyPatched.is)

pub returns-in-RegionWhileLive : goal.returns-in-RegionWhileLive
returns-in-RegionWhileLive c = sym (ap named_of c.in-RegionWhileLive.is)

pub returns-in-NamesHeld : goal.returns-in-NamesHeld
returns-in-NamesHeld c = sym (ap named_of c.in-NamesHeld.is)

pub returns-in-OpenLabel : goal.returns-in-OpenLabel
returns-in-OpenLabel c = sym (ap named_of c.in-OpenLabel.is)

pub returns-in-Full : goal.returns-in-Full
returns-in-Full c = c.table_number.ensures ∙ sym (ap named_of c.in-Full.is)

pub returns-in-Unsound : goal.returns-in-Unsound
returns-in-Unsound c = sym (ap named_of c.in-Unsound.is)

pub returns-in-BadStarts : goal.returns-in-BadStarts
returns-in-BadStarts c = sym (ap named_of c.in-BadStarts.is)

pub returns-in-ShortDepths : goal.returns-in-ShortDepths
returns-in-ShortDepths c = sym (ap named_of c.in-ShortDepths.is)

pub returns-in-CutShort : goal.returns-in-CutShort
returns-in-CutShort c = c.low-in-CutShort.ensures ∙ sym (ap named_of c.in-CutShort.is)

pub returns-in-NoDepths : goal.returns-in-NoDepths
returns-in-NoDepths c = sym (ap named_of c.in-NoDepths.is)

pub returns-in-NotALine : goal.returns-in-NotALine
returns-in-NotALine c = sym (ap named_of c.in-NotALine.is)

pub returns-in-Disagrees : goal.returns-in-Disagrees
returns-in-Disagrees c = sym (ap named_of c.in-Disagrees.is)

pub returns-in-TooFewValues : goal.returns-in-TooFewValues
returns-in-TooFewValues c = c.low-in-TooFewValues.ensures ∙ sym (ap named_of c.in-TooFewValues.is)
