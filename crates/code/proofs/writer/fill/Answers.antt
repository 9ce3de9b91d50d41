-- `code::writer::fill` meets its contract: in each arm the shape's size is the room, and the front is the arm's bytes.
-- Assumes nothing.
use mathlib.Core.Path.{refl}
use mir.Syntax.{w8, w16}
use mir.Facts.{to_z-of_z}
use Rattle.op.specs.Shapes.{size_of}
use Rattle.code.specs.Encode.{encode}
use Rattle.code.proofs.Writing.{plain_arm, names_arm, arm_room}
use Rattle.code.proofs.writer.fill.Goals as goal

pub put-requires : goal.put-requires
unfolding size_of
put-requires c = arm_room _ _ _ _ c.requires c.in-None.is

pub put-requires-in-U8 : goal.put-requires-in-U8
unfolding size_of
put-requires-in-U8 c = arm_room _ _ _ _ c.requires c.in-U8.is

pub put-requires-in-I8 : goal.put-requires-in-I8
unfolding size_of
put-requires-in-I8 c = arm_room _ _ _ _ c.requires c.in-I8.is

pub put-requires-in-U16 : goal.put-requires-in-U16
unfolding size_of
put-requires-in-U16 c = arm_room _ _ _ _ c.requires c.in-U16.is

pub put-requires-in-Offset : goal.put-requires-in-Offset
unfolding size_of
put-requires-in-Offset c = arm_room _ _ _ _ c.requires c.in-Offset.is

pub put-requires-in-U8U8 : goal.put-requires-in-U8U8
unfolding size_of
put-requires-in-U8U8 c = arm_room _ _ _ _ c.requires c.in-U8U8.is

pub put-requires-in-U16U8 : goal.put-requires-in-U16U8
unfolding size_of
put-requires-in-U16U8 c = arm_room _ _ _ _ c.requires c.in-U16U8.is

pub put-requires-in-U16U16 : goal.put-requires-in-U16U16
unfolding size_of
put-requires-in-U16U16 c = arm_room _ _ _ _ c.requires c.in-U16U16.is

pub put-requires-in-U16U8U8 : goal.put-requires-in-U16U8U8
unfolding size_of
put-requires-in-U16U8U8 c = arm_room _ _ _ _ c.requires c.in-U16U8U8.is

pub write_call-requires : goal.write_call-requires
unfolding size_of
write_call-requires c = arm_room _ _ _ _ c.requires c.in-CallKw.is

pub write_attr_call-requires : goal.write_attr_call-requires
unfolding size_of
write_attr_call-requires c = arm_room _ _ _ _ c.requires c.in-CallAttrKw.is

pub put-requires-in-U16U16U8 : goal.put-requires-in-U16U16U8
unfolding size_of
put-requires-in-U16U16U8 c = arm_room _ _ _ _ c.requires c.in-U16U16U8.is

pub returns-in-None : goal.returns-in-None
returns-in-None c = plain_arm _ _ _ _ _ _ c.requires c.in-None.is refl c.put.ensures

pub returns-in-U8 : goal.returns-in-U8
returns-in-U8 c = plain_arm _ _ _ _ _ _ c.requires c.in-U8.is refl c.put-in-U8.ensures

pub returns-in-I8 : goal.returns-in-I8
returns-in-I8 c =
    plain_arm _ _ _ _ _ _ c.requires c.in-I8.is refl
    (rw (c.byte_of.ensures, to_z-of_z {w = w8} (record { sfits = c.in-I8.known_told-in-I8-1-own.given.0.1 })) at c.put-in-I8.ensures)

pub returns-in-U16 : goal.returns-in-U16
returns-in-U16 c = plain_arm _ _ _ _ _ _ c.requires c.in-U16.is refl (rw c.halves.ensures at c.put-in-U16.ensures)

pub returns-in-Offset : goal.returns-in-Offset
returns-in-Offset c =
    plain_arm _ _ _ _ _ _ c.requires c.in-Offset.is refl
    (rw (
      c.halves-in-Offset.ensures,
      c.word_of.ensures,
      to_z-of_z {w = w16} (record { sfits = c.in-Offset.known_told-in-Offset-1-own.given.0.1 }),
    ) at c.put-in-Offset.ensures)

pub returns-in-U8U8 : goal.returns-in-U8U8
returns-in-U8U8 c = plain_arm _ _ _ _ _ _ c.requires c.in-U8U8.is refl c.put-in-U8U8.ensures

pub returns-in-U16U8 : goal.returns-in-U16U8
returns-in-U16U8 c = plain_arm _ _ _ _ _ _ c.requires c.in-U16U8.is refl (rw c.halves-in-U16U8.ensures at c.put-in-U16U8.ensures)

pub returns-in-U16U16 : goal.returns-in-U16U16
returns-in-U16U16 c = plain_arm _ _ _ _ _ _ c.requires c.in-U16U16.is refl (rw (c.halves-in-U16U16.ensures, c.halves-in-U16U16-2.ensures) at c.put-in-U16U16.ensures)

pub returns-in-U16U8U8 : goal.returns-in-U16U8U8
returns-in-U16U8U8 c = plain_arm _ _ _ _ _ _ c.requires c.in-U16U8U8.is refl (rw c.halves-in-U16U8U8.ensures at c.put-in-U16U8U8.ensures)

pub returns-in-CallKw : goal.returns-in-CallKw
unfolding encode
returns-in-CallKw c = names_arm c.args.opcode c.args.names.now c.args.out.now _ _ _ c.in-CallKw.is c.write_call.ensures

pub returns-in-CallAttrKw : goal.returns-in-CallAttrKw
unfolding encode
returns-in-CallAttrKw c = names_arm c.args.opcode c.args.names.now c.args.out.now _ _ _ c.in-CallAttrKw.is c.write_attr_call.ensures

pub returns-in-U16U16U8 : goal.returns-in-U16U16U8
returns-in-U16U16U8 c = plain_arm _ _ _ _ _ _ c.requires c.in-U16U16U8.is refl (rw (c.halves-in-U16U16U8.ensures, c.halves-in-U16U16U8-2.ensures) at c.put-in-U16U16U8.ensures)
