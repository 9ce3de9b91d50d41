-- The numbers of the refusals, R27's table, and what each names.
-- Assumes nothing.
use Rattle.std.specs.Prelude.{ℕ, ◌+◌, ◌*◌, ◌%◌}
use Rattle.op.specs.declared.Refusal.{Refusal}
use Rattle.op.specs.declared.Refusal.TheVariants as R
use Rattle.op.specs.declared.Table.{Table}
use Rattle.op.specs.declared.Table.TheVariants as T

-- R27, one line for each of its lines
abbrev pub number_of : Refusal → ℕ
number_of R.UnknownOpcode = 1
number_of (R.UnknownOpcodeAt offset) = 1
number_of R.WrongShape = 2
number_of R.NotAJump = 3
number_of R.DepthBelowZero = 4
number_of R.DepthTooLarge = 5
number_of R.JumpTooFar = 6
number_of R.TooManyKeywords = 7
number_of R.NameTooLarge = 8
number_of R.TooManyConstants = 9
number_of R.TooLarge = 10
number_of R.DepthsDiffer = 11
number_of R.DeadTarget = 12
number_of R.NoSuchMark = 13
number_of R.AlreadyPatched = 14
number_of R.RegionWhileLive = 15
number_of R.NamesHeld = 16
number_of R.OpenLabel = 17
number_of (R.Full table) = 18
number_of R.Unsound = 19
number_of R.BadStarts = 20
number_of R.ShortDepths = 21
number_of (R.CutShort offset) = 22
number_of R.NoDepths = 23
number_of R.NotALine = 24
number_of R.Disagrees = 25
number_of (R.TooFewValues offset) = 26

-- the tables by number (R62)
abbrev pub table_number : Table → ℕ
table_number T.Code = 1
table_number T.Locations = 2
table_number T.Exceptions = 3
table_number T.Constants = 4
table_number T.Names = 5
table_number T.Marks = 6
table_number T.Starts = 7
table_number T.Text = 8

-- 2^32
abbrev pub half : ℕ
half = 4294967296

-- what a refusal names: 18 its table; 1 read from code, 22 and 26 the offset, modulo 2^32; any other nothing (R62)
abbrev pub named_of : Refusal → ℕ
named_of R.UnknownOpcode = 0
named_of (R.UnknownOpcodeAt offset) = offset % half
named_of R.WrongShape = 0
named_of R.NotAJump = 0
named_of R.DepthBelowZero = 0
named_of R.DepthTooLarge = 0
named_of R.JumpTooFar = 0
named_of R.TooManyKeywords = 0
named_of R.NameTooLarge = 0
named_of R.TooManyConstants = 0
named_of R.TooLarge = 0
named_of R.DepthsDiffer = 0
named_of R.DeadTarget = 0
named_of R.NoSuchMark = 0
named_of R.AlreadyPatched = 0
named_of R.RegionWhileLive = 0
named_of R.NamesHeld = 0
named_of R.OpenLabel = 0
named_of (R.Full table) = table_number table
named_of R.Unsound = 0
named_of R.BadStarts = 0
named_of R.ShortDepths = 0
named_of (R.CutShort offset) = offset % half
named_of R.NoDepths = 0
named_of R.NotALine = 0
named_of R.Disagrees = 0
named_of (R.TooFewValues offset) = offset % half

-- a refusal as one answer: its number, and below it what it names (R62)
abbrev pub answer_of : Refusal → ℕ
answer_of refusal = number_of refusal * half + named_of refusal
