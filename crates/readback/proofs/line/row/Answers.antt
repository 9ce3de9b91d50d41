-- `readback::line::row` meets its contract: the instruction, then its place, then its bytes.
-- Assumes nothing.
use Rattle.std.proofs.lemmas.Grind.{common_steps}
use Rattle.std.specs.Prelude.{Err}
use Rattle.op.specs.declared.Refusal.{Refusal}
use Rattle.readback.specs.declared.line.Told.{Told}
use Rattle.std.specs.Prelude.{Result, Option as Maybe}
use mathlib.Core.List.{[], ◌∷◌}
use mathlib.Core.Path.{◌≡◌, sym, ap, ◌∙◌, subst}
use Prim.Native.Nat.{ℕ, ◌-◌}
use native.Mathlib.Omega.{arith}
use lib.ListN.{length, take, drop}
use Rattle.code.specs.Encode.{encode}
use Rattle.text.specs.Reading.{read_fields, opcode_of, read_operands}
use Rattle.readback.specs.Operands.{and_then, said}
use Rattle.readback.specs.Formed.{formed_row, judge_by, Judged}
use Rattle.readback.specs.declared.placing.Met.{Met}
use Rattle.readback.specs.Lined.{offset_of, verdict_of, Tells, Instructs, Lays, Storable}
use Rattle.readback.proofs.Lining.{judged_as, lays_bad, judge_said, judge_unsaid}
use Rattle.readback.proofs.Telling.{saying}
use Rattle.readback.proofs.line.row.Goals as goal

pub returns-in_default : goal.returns-in_default
returns-in_default c =
    let a = c.args in
    let unsaid = subst (λ (r : Maybe Told). Tells a.name.now a.column.now r
    c.instruction.new.cells) c.in_default.is
    c.instruction.ensures in
    lays_bad _ _ a.out.now
    (judge_unsaid a.at (length a.out.now) a.offset.now a.name.now a.column.now a.target.now
    unsaid)

pub offset_bounds-cells-told : goal.offset_bounds-cells-told
offset_bounds-cells-told c =
    let told_is : Instructs c.args.name.now c.args.column.now c.in-Some.told.opcode c.in-Some.told.operand
    c.in-Some.told.names c.in-Some.told.count c.instruction.new.cells = let a = c.args in
    subst (λ (r : Maybe Told). Tells a.name.now a.column.now r c.instruction.new.cells) c.in-Some.is
    c.instruction.ensures in
    omega (arith, told_is.ordered, told_is.few)

pub slice_bounds-store-count : goal.slice_bounds-store-count
slice_bounds-store-count c =
    let told_is : Instructs c.args.name.now c.args.column.now c.in-Some.told.opcode c.in-Some.told.operand
    c.in-Some.told.names c.in-Some.told.count c.instruction.new.cells = let a = c.args in
    subst (λ (r : Maybe Told). Tells a.name.now a.column.now r c.instruction.new.cells) c.in-Some.is
    c.instruction.ensures in
    told_is.ordered

pub slice_bounds-store-start : goal.slice_bounds-store-start
slice_bounds-store-start c =
    let told_is : Instructs c.args.name.now c.args.column.now c.in-Some.told.opcode c.in-Some.told.operand
    c.in-Some.told.names c.in-Some.told.count c.instruction.new.cells = let a = c.args in
    subst (λ (r : Maybe Told). Tells a.name.now a.column.now r c.instruction.new.cells) c.in-Some.is
    c.instruction.ensures in
    told_is.ordered

pub slice_bounds-store-end : goal.slice_bounds-store-end
slice_bounds-store-end c =
    let told_is : Instructs c.args.name.now c.args.column.now c.in-Some.told.opcode c.in-Some.told.operand
    c.in-Some.told.names c.in-Some.told.count c.instruction.new.cells = let a = c.args in
    subst (λ (r : Maybe Told). Tells a.name.now a.column.now r c.instruction.new.cells) c.in-Some.is
    c.instruction.ensures in
    omega (arith, told_is.few, c.requires.1)

pub store-requires : goal.store-requires
store-requires c =
    let told_is : Instructs c.args.name.now c.args.column.now c.in-Some.told.opcode c.in-Some.told.operand
    c.in-Some.told.names c.in-Some.told.count c.instruction.new.cells = let a = c.args in
    subst (λ (r : Maybe Told). Tells a.name.now a.column.now r c.instruction.new.cells) c.in-Some.is
    c.instruction.ensures in
    let a = c.args in
    let w = told_is in
    let s = (saying (opcode_of a.name.now) (read_operands a.column.now) _ w.says).storable in
    subst (λ (k : ℕ). Storable k c.in-Some.told.operand (let from = c.in-Some.told.names in take (c.in-Some.told.count - from) (drop from c.instruction.new.cells))) (sym w.opcode) s

pub returns : goal.returns
unfolding judged_as
returns c =
    let told_is : Instructs c.args.name.now c.args.column.now c.in-Some.told.opcode c.in-Some.told.operand
    c.in-Some.told.names c.in-Some.told.count c.instruction.new.cells = let a = c.args in
    subst (λ (r : Maybe Told). Tells a.name.now a.column.now r c.instruction.new.cells) c.in-Some.is
    c.instruction.ensures in
    let judged : (let a = c.args in
    judge_by a.at (length a.out.now)
    (and_then (read_fields (a.offset.now ∷ a.name.now ∷ a.column.now ∷ a.target.now ∷ [])) formed_row)
    ≡ judged_as c.verdict_on.result (encode c.in-Some.told.opcode c.in-Some.told.operand (let from = c.in-Some.told.names in take (c.in-Some.told.count - from) (drop from c.instruction.new.cells)))
    (length a.out.now)) = let a = c.args in
    let w = told_is in
    let operand = c.in-Some.told.operand in
    let room = length a.out.now in
    let bytes = encode (opcode_of a.name.now) operand (let from = c.in-Some.told.names in take (c.in-Some.told.count - from) (drop from c.instruction.new.cells)) in
    let placed = c.verdict_on.ensures
    ∙ ap (λ (m : Met). verdict_of m c.target.result) c.offset.ensures
    ∙ ap (verdict_of (offset_of a.at a.offset.now)) c.target.ensures in
    judge_said a.at room a.offset.now a.name.now a.column.now a.target.now
    (said operand (let from = c.in-Some.told.names in take (c.in-Some.told.count - from) (drop from c.instruction.new.cells))) w.says
    ∙ ap (λ (v : Result Unit Refusal). judged_as v bytes room) (sym placed)
    ∙ ap (λ (k : ℕ). judged_as c.verdict_on.result (encode k operand (let from = c.in-Some.told.names in take (c.in-Some.told.count - from) (drop from c.instruction.new.cells))) room) (sym w.opcode) in
    let a = c.args in
    let bytes = encode c.in-Some.told.opcode c.in-Some.told.operand (let from = c.in-Some.told.names in take (c.in-Some.told.count - from) (drop from c.instruction.new.cells)) in
    let is = judged
    ∙ ap (λ (x : Result Unit Refusal). judged_as x bytes (length a.out.now)) c.in_ok-verdict_on.was in
    subst (λ (j : Judged). Lays j a.out.now c.store.result c.store.new.out) (sym is)
    c.store.ensures

pub returns-in_err-verdict_on : goal.returns-in_err-verdict_on
unfolding judged_as
returns-in_err-verdict_on c =
    let told_is : Instructs c.args.name.now c.args.column.now c.in-Some.told.opcode c.in-Some.told.operand
    c.in-Some.told.names c.in-Some.told.count c.instruction.new.cells = let a = c.args in
    subst (λ (r : Maybe Told). Tells a.name.now a.column.now r c.instruction.new.cells) c.in-Some.is
    c.instruction.ensures in
    let judged : (let a = c.args in
    judge_by a.at (length a.out.now)
    (and_then (read_fields (a.offset.now ∷ a.name.now ∷ a.column.now ∷ a.target.now ∷ [])) formed_row)
    ≡ judged_as c.verdict_on.result (encode c.in-Some.told.opcode c.in-Some.told.operand (let from = c.in-Some.told.names in take (c.in-Some.told.count - from) (drop from c.instruction.new.cells)))
    (length a.out.now)) = let a = c.args in
    let w = told_is in
    let operand = c.in-Some.told.operand in
    let room = length a.out.now in
    let bytes = encode (opcode_of a.name.now) operand (let from = c.in-Some.told.names in take (c.in-Some.told.count - from) (drop from c.instruction.new.cells)) in
    let placed = c.verdict_on.ensures
    ∙ ap (λ (m : Met). verdict_of m c.target.result) c.offset.ensures
    ∙ ap (verdict_of (offset_of a.at a.offset.now)) c.target.ensures in
    judge_said a.at room a.offset.now a.name.now a.column.now a.target.now
    (said operand (let from = c.in-Some.told.names in take (c.in-Some.told.count - from) (drop from c.instruction.new.cells))) w.says
    ∙ ap (λ (v : Result Unit Refusal). judged_as v bytes room) (sym placed)
    ∙ ap (λ (k : ℕ). judged_as c.verdict_on.result (encode k operand (let from = c.in-Some.told.names in take (c.in-Some.told.count - from) (drop from c.instruction.new.cells))) room) (sym w.opcode) in
    let a = c.args in
    let bytes = encode c.in-Some.told.opcode c.in-Some.told.operand (let from = c.in-Some.told.names in take (c.in-Some.told.count - from) (drop from c.instruction.new.cells)) in
    let bad : c.from_residual.result ≡ Err c.in_err-verdict_on.field-0.0 = grind (arith, common_steps) in
    rw bad (
    lays_bad _ _ a.out.now (judged
    ∙ ap (λ (x : Result Unit Refusal). judged_as x bytes (length a.out.now)) c.in_err-verdict_on.was))
