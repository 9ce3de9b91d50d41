-- `text::row::names` meets its contract: at each turn what is left is the names behind the words so far.
-- Assumes nothing.
use Rattle.std.proofs.Common.{◌≡◌, ◌+◌, ◌*◌, ◌∷◌, drop, ◌∙◌, arith}
use Rattle.text.specs.Decimal.{decimal}
use Rattle.text.specs.Fields.{names_text}
use Rattle.text.proofs.Names.{word_is, names_turn, names_done}
use Rattle.text.proofs.Putting.{next, part_fits}
use Rattle.text.proofs.row.names.Goals as goal

pub more-o-requires : goal.more-o-requires
more-o-requires c =
    let s = c.args.bytes.now in
    let i = c.loop-word.word-index in
    let w = c.from.result in
    let front = c.as_chunks.ensures.front in
    let word = word_is _ s i w front (omega arith) (c.from.ensures ∙ c.from_le_bytes.ensures) in
    part_fits (44 ∷ decimal w) (names_text (drop (2 * i + 2) s))
    (names_turn s (2 * i) w (omega arith) word c.loop-word.invariant) c.requires

pub loop-word-preserved : goal.loop-word-preserved
loop-word-preserved c =
    let s = c.args.bytes.now in
    let i = c.loop-word.word-index in
    let w = c.from.result in
    let front = c.as_chunks.ensures.front in
    let word = word_is _ s i w front (omega arith) (c.from.ensures ∙ c.from_le_bytes.ensures) in
    let e : 2 * i + 2 ≡ 2 * (i + 1) = omega arith in
    rw e at (next (names_turn s (2 * i) w (omega arith) word c.loop-word.invariant) c.more-o.ensures)

pub returns : goal.returns
returns c = names_done c.args.bytes.now (2 * c.loop-word.word-index) (omega arith) c.loop-word.invariant
