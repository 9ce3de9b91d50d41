-- `text::write::decimal` meets its contract: the digits of n / 10, then the last one. The measure is n.
use native.Mathlib.Omega.{arith}
use mathlib.Core.Path.{ap}
use lib.ListN.{length}
use Rattle.text.proofs.Decimals.{decimal_small, decimal_more, decimal_length_more}
use Rattle.text.proofs.Putting.{then}
use Rattle.text.proofs.write.+decimal.Goals as goal

pub byte-requires : goal.byte-requires
byte-requires t c = omega (arith, ap length (decimal_small c.args.n c.if-n-lt10.true))

pub returns-then-n-lt10 : goal.returns-then-n-lt10
returns-then-n-lt10 t c = rw (decimal_small c.args.n c.if-n-lt10.true) c.byte.ensures

pub decimal-o-requires : goal.decimal-o-requires
decimal-o-requires t c = (omega arith, omega (arith, decimal_length_more c.args.n c.if-n-lt10.false))

pub byte-requires-2 : goal.byte-requires-2
byte-requires-2 t c = omega (arith, decimal_length_more c.args.n c.if-n-lt10.false)

pub returns : goal.returns
returns t c = rw (decimal_more c.args.n c.if-n-lt10.false) (then c.decimal-o.ensures c.byte-2.ensures)
