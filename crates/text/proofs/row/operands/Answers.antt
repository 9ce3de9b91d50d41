-- `text::row::operands` meets its contract: each arm writes the text of what the operand is found to be.
-- Assumes nothing.
use mathlib.Core.Path.{refl}
use native.Mathlib.Omega.{arith}
use lib.Dec.{lit≤}
use lib.ListN.{drop}
use mir.Syntax.{w8, w16}
use Rattle.text.proofs.Operands.{arm_fits, arm_put, call_text_lem, attr_text}
use Rattle.text.proofs.Targets.{handed}
use Rattle.text.proofs.row.operands.Goals as goal

pub byte-requires : goal.byte-requires
byte-requires c =
    omega (arith, arm_fits (drop c.args.at c.args.code.now) _ c.in-None.is refl c.requires)

pub decimal-requires : goal.decimal-requires
decimal-requires c =
    arm_fits (drop c.args.at c.args.code.now) _ c.in-U8.is refl c.requires

pub signed-requires : goal.signed-requires
signed-requires c =
    arm_fits (drop c.args.at c.args.code.now) _ c.in-I8.is
    (handed w8 c.in-I8.z (lit≤ tt) (record { sfits = omega arith })) c.requires

pub decimal-requires-in-U16 : goal.decimal-requires-in-U16
decimal-requires-in-U16 c =
    arm_fits (drop c.args.at c.args.code.now) _ c.in-U16.is refl c.requires

pub signed-requires-in-Offset : goal.signed-requires-in-Offset
signed-requires-in-Offset c =
    arm_fits (drop c.args.at c.args.code.now) _ c.in-Offset.is
    (handed w16 c.in-Offset.z (lit≤ tt) (record { sfits = omega arith })) c.requires

pub two-requires : goal.two-requires
two-requires c =
    arm_fits (drop c.args.at c.args.code.now) _ c.in-U8U8.is refl c.requires

pub two-requires-in-U16U8 : goal.two-requires-in-U16U8
two-requires-in-U16U8 c =
    arm_fits (drop c.args.at c.args.code.now) _ c.in-U16U8.is refl c.requires

pub two-requires-in-U16U16 : goal.two-requires-in-U16U16
two-requires-in-U16U16 c =
    arm_fits (drop c.args.at c.args.code.now) _ c.in-U16U16.is refl c.requires

pub three-requires : goal.three-requires
three-requires c =
    arm_fits (drop c.args.at c.args.code.now) _ c.in-U16U8U8.is refl c.requires

pub call-requires : goal.call-requires
call-requires c =
    arm_fits (drop c.args.at c.args.code.now) _ c.in-CallKw.is
    (call_text_lem (drop c.args.at c.args.code.now) _ c.in-CallKw.positional c.in-CallKw.names c.names_at-bytes.ensures) c.requires

pub attr_call-requires : goal.attr_call-requires
attr_call-requires c =
    arm_fits (drop c.args.at c.args.code.now) _ c.in-CallAttrKw.is
    (attr_text (drop c.args.at c.args.code.now) _ c.in-CallAttrKw.attribute c.in-CallAttrKw.positional c.in-CallAttrKw.names c.names_at-bytes-in-CallAttrKw.ensures) c.requires

pub three-requires-in-U16U16U8 : goal.three-requires-in-U16U16U8
three-requires-in-U16U16U8 c =
    arm_fits (drop c.args.at c.args.code.now) _ c.in-U16U16U8.is refl c.requires

pub returns-in-None : goal.returns-in-None
returns-in-None c =
    arm_put (drop c.args.at c.args.code.now) c.in-None.is refl c.byte.ensures

pub returns-in-U8 : goal.returns-in-U8
returns-in-U8 c =
    arm_put (drop c.args.at c.args.code.now) c.in-U8.is refl c.decimal.ensures

pub returns-in-I8 : goal.returns-in-I8
returns-in-I8 c =
    arm_put (drop c.args.at c.args.code.now) c.in-I8.is
    (handed w8 c.in-I8.z (lit≤ tt) (record { sfits = omega arith }))
    c.signed.ensures

pub returns-in-U16 : goal.returns-in-U16
returns-in-U16 c =
    arm_put (drop c.args.at c.args.code.now) c.in-U16.is refl c.decimal-in-U16.ensures

pub returns-in-Offset : goal.returns-in-Offset
returns-in-Offset c =
    arm_put (drop c.args.at c.args.code.now) c.in-Offset.is
    (handed w16 c.in-Offset.z (lit≤ tt) (record { sfits = omega arith }))
    c.signed-in-Offset.ensures

pub returns-in-U8U8 : goal.returns-in-U8U8
returns-in-U8U8 c =
    arm_put (drop c.args.at c.args.code.now) c.in-U8U8.is refl c.two.ensures

pub returns-in-U16U8 : goal.returns-in-U16U8
returns-in-U16U8 c =
    arm_put (drop c.args.at c.args.code.now) c.in-U16U8.is refl c.two-in-U16U8.ensures

pub returns-in-U16U16 : goal.returns-in-U16U16
returns-in-U16U16 c =
    arm_put (drop c.args.at c.args.code.now) c.in-U16U16.is refl c.two-in-U16U16.ensures

pub returns-in-U16U8U8 : goal.returns-in-U16U8U8
returns-in-U16U8U8 c =
    arm_put (drop c.args.at c.args.code.now) c.in-U16U8U8.is refl c.three.ensures

pub returns-in-CallKw : goal.returns-in-CallKw
returns-in-CallKw c =
    arm_put (drop c.args.at c.args.code.now) c.in-CallKw.is
    (call_text_lem (drop c.args.at c.args.code.now) _ c.in-CallKw.positional c.in-CallKw.names c.names_at-bytes.ensures)
    c.call.ensures

pub returns-in-CallAttrKw : goal.returns-in-CallAttrKw
returns-in-CallAttrKw c =
    arm_put (drop c.args.at c.args.code.now) c.in-CallAttrKw.is
    (attr_text (drop c.args.at c.args.code.now) _ c.in-CallAttrKw.attribute c.in-CallAttrKw.positional c.in-CallAttrKw.names c.names_at-bytes-in-CallAttrKw.ensures)
    c.attr_call.ensures

pub returns-in-U16U16U8 : goal.returns-in-U16U16U8
returns-in-U16U16U8 c =
    arm_put (drop c.args.at c.args.code.now) c.in-U16U16U8.is refl c.three-in-U16U16U8.ensures
