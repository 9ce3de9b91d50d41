-- `readback::numbers::narrow` meets its contract: a case for each kind of number.
-- Assumes nothing.
use Rattle.words.specs.declared.Signed.TheVariants as W
use Rattle.std.proofs.Common.{◌≡◌, Ok}
use borrow.Author.Tests.{eq-eqb, ne_eqb, le-leb, lt-leb}
use Rattle.readback.specs.Inner.{narrow_of}
use Rattle.readback.proofs.numbers.narrow.Goals as goal

pub returns-then-v-gt65535 : goal.returns-then-v-gt65535
unfolding narrow_of
returns-then-v-gt65535 c =
    let e : c.args.z ≡ Ok c.in-Ok-Plus.field-0 = c.in-Ok-Plus.is in
    let f : c.in-Ok-Plus.field-0 ≡ W.Plus c.in-Ok-Plus.v = rw c.in-Ok-Plus.is at c.in-Ok-Plus.field-0-is in
    simp (e, f, lt-leb _ _ c.if-v-gt65535.true)

pub returns-then-v-gt65536 : goal.returns-then-v-gt65536
unfolding narrow_of
returns-then-v-gt65536 c =
    let e : c.args.z ≡ Ok c.in-Ok-Minus.field-0 = c.in-Ok-Minus.is in
    let f : c.in-Ok-Minus.field-0 ≡ W.Minus c.in-Ok-Minus.v = rw c.in-Ok-Minus.is at c.in-Ok-Minus.field-0-is in
    simp (e, f, lt-leb _ _ c.if-v-gt65536.true)

pub returns-then-v-eq0 : goal.returns-then-v-eq0
unfolding narrow_of
returns-then-v-eq0 c =
    let e : c.args.z ≡ Ok c.in-Ok-Minus.field-0 = c.in-Ok-Minus.is in
    let f : c.in-Ok-Minus.field-0 ≡ W.Minus c.in-Ok-Minus.v = rw c.in-Ok-Minus.is at c.in-Ok-Minus.field-0-is in
    simp (e, f, le-leb _ _ c.if-v-gt65536.false, eq-eqb _ _ c.if-v-eq0.true)

pub returns-else-v-gt65535 : goal.returns-else-v-gt65535
unfolding narrow_of
returns-else-v-gt65535 c =
    let e : c.args.z ≡ Ok c.in-Ok-Plus.field-0 = c.in-Ok-Plus.is in
    let f : c.in-Ok-Plus.field-0 ≡ W.Plus c.in-Ok-Plus.v = rw c.in-Ok-Plus.is at c.in-Ok-Plus.field-0-is in
    simp (e, f, le-leb _ _ c.if-v-gt65535.false)

pub returns-else-v-eq0 : goal.returns-else-v-eq0
unfolding narrow_of
returns-else-v-eq0 c =
    let e : c.args.z ≡ Ok c.in-Ok-Minus.field-0 = c.in-Ok-Minus.is in
    let f : c.in-Ok-Minus.field-0 ≡ W.Minus c.in-Ok-Minus.v = rw c.in-Ok-Minus.is at c.in-Ok-Minus.field-0-is in
    simp (e, f, le-leb _ _ c.if-v-gt65536.false, ne_eqb _ _ c.if-v-eq0.false)

pub returns-in-Err : goal.returns-in-Err
unfolding narrow_of
returns-in-Err c = simp c.in-Err.is
