-- What a check of the bytes and the starts answers and leaves.
-- Assumes nothing.
use Rattle.std.specs.Prelude.{Ok, Result, None, Option, Some}
use mathlib.Core.Path.{◌≡◌, refl, ap, ◌∙◌}
use mathlib.Core.Bool.{true}
use mathlib.Core.Logic.{◌↔◌}
use mathlib.Core.List.{List, Memᴰ as Mem}
use Prim.Native.Nat.{ℕ, suc, ◌*◌, ◌/◌, ◌≤◌, ◌<◌}
use native.Mathlib.Decide.{dec_le}
use native.Mathlib.Omega.{arith}
use lib.ListN.{length, take, drop, get_or, get_or-append}
use borrow.Author.Tests.{le-leb}
use Rattle.base.proofs.Bools.{clash}
use Rattle.op.specs.Opcodes.{last_opcode}
use Rattle.op.specs.declared.Refusal.{Refusal}
use Rattle.code.specs.Depths.{Smallest, Derived}
use Rattle.code.proofs.Assigning.{smallest_agree}
use Rattle.code.proofs.Counting.{counts_one}
use Rattle.code.specs.Tables.{code_limit, start_cells}
use Rattle.builder.specs.declared.Builder.{Builder}
use Rattle.checker.specs.Cells.{cell, depth_in}
use Rattle.checker.specs.Promise.{Promise, stops, passes, built_sound, BuiltPromise}
use Rattle.checker.specs.declared.Assignment.{Assignment}
use Rattle.checker.proofs.Deepest.{greatest_one, assignment_one}
use Rattle.checker.proofs.Holding.{depth_in_lem, in_depth}
use Rattle.checker.proofs.Promising.{accepted_when}
use Rattle.demand.specs.Machine.{isa}
use Rattle.demand.specs.History.{Row, depth_at}
use Rattle.demand.specs.Demand.{cells, cell_of, deepest_seen}
use Rattle.demand.proofs.Book.{Book, Good}
use Rattle.demand.proofs.Bytes.{bytes_of, Closed}
use Rattle.demand.proofs.Deepest.{greatest_seen}
use Rattle.demand.proofs.Machining.{laws}
use Rattle.demand.proofs.Standing.{code_length, whole}
use Rattle.demand.proofs.Finish.{depths, assigned, least, derives, listed, counted}

-- an assignment of so many instructions, with a greatest depth
abbrev assigning : ℕ → ℕ → Assignment
assigning k g = record { count = k; greatest = g }

cell_of_lem : (c : List ℕ) (o : ℕ) (x : Option ℕ) → depth_in c o ≡ x → cell c o ≤ 65536 → cell c o ≡ cell_of x
cell_of_lem c o (Some d) e l = (in_depth c o d e).0
cell_of_lem c o None e l = elim (dec_le (cell c o) 65535) [
  | yes h ↦ (let q = depth_in_lem c o (cell c o) refl h in clash cc)
  | no h ↦ omega arith
]

module _ (b : Book isa) (g : Good isa laws b)
    (closed : (r : Row isa) → Mem r b.rows → Closed isa laws r.offset r.what) where
  checked : b.len ≤ code_limit → (d d' w w' : List ℕ) (r : Result Assignment Refusal) → b.len < length d → b.len < length w
      → Promise last_opcode (bytes_of isa b.rows) (cells b.starts) d d' w w' r
      → (r ≡ Ok (assigning (length b.rows) (deepest_seen b.rows b.cur)))
      × ((o : ℕ) → o ≤ b.len → cell d' o ≡ cell_of (depths b g closed o))
  checked short d d' w w' r room space P =
      let z : length (bytes_of isa b.rows) ≡ b.len = code_length b.rows b.len g.chain closed in
      let a = accepted_when P (omega arith) (omega arith) (omega arith) (whole b.rows b.len g.chain closed)
      (listed b g closed) (depths b g closed) (assigned b g closed) in
      let c = a.cells in
      let s = a.solution in
      let same = smallest_agree s.smallest (least b g closed) in
      let count = counts_one same s.count (counted b g closed) in
      let greatest = greatest_one same s.greatest (greatest_seen b.rows b.len b.cur g.chain) in (
        a.answer ∙ ap Ok (assignment_one count greatest),
        λ o l. ap (λ (x : List ℕ). get_or x o 65536) a.became
            ∙ get_or-append c (drop (suc (length (bytes_of isa b.rows))) d) 65536 o (omega (arith, s.size, z))
            ∙ cell_of_lem c o (depths b g closed o) (same o) (s.others o),
      )

  -- the same of any names for the bytes, the starts' cells and the length
  module _ (s st : List ℕ) (n : ℕ) (es : s ≡ bytes_of isa b.rows) (et : st ≡ cells b.starts) (en : n ≡ b.len)
    where
      pub smallest_at : Smallest last_opcode s st (λ o. depth_at isa b.rows n b.cur o)
      smallest_at = rw (es, et, en) (least b g closed)

      pub derived_at : (o d : ℕ) → (depth_at isa b.rows n b.cur o ≡ Some d) ↔ Derived last_opcode s st o d
      derived_at o d = rw (es, et, en) (derives b g closed o d)

      pub checked_at : b.len ≤ code_limit → (d d' w w' : List ℕ) (r : Result Assignment Refusal) → n < length d → n < length w
          → Promise last_opcode s st d d' w w' r
          → (r ≡ Ok (assigning (length b.rows) (deepest_seen b.rows b.cur)))
          × ((o : ℕ) → o ≤ n → cell d' o ≡ cell_of (depth_at isa b.rows n b.cur o))
      checked_at short = rw (es, et, en) (checked short)

-- a builder whose counts are sound is checked by its used code and starts

built_sound_lem : (b : Builder) (s st : List ℕ) → b.core.code ≤ length s → b.core.code ≤ code_limit
    → b.starts * start_cells ≤ length st
    → built_sound b (length s) (length st) ≡ true
unfolding built_sound
built_sound_lem b s st c l h =
    rw (
      le-leb b.core.code (length s) c,
      le-leb b.core.code code_limit l,
      le-leb b.starts (length st / start_cells) (omega arith),
    ) refl

pub built_promise : (b : Builder) (s st d d' w w' : List ℕ) (r : Result Assignment Refusal) → b.core.code ≤ length s
    → b.core.code ≤ code_limit
    → b.starts * start_cells ≤ length st → BuiltPromise b s st d d' w w' r
    → Promise last_opcode (take b.core.code s) (take (b.starts * start_cells) st) d d' w w' r
unfolding BuiltPromise
built_promise b s st d d' w w' r c l h (stops q p a) =
    let t = built_sound_lem b s st c l h in
    let f = p.1 in
    clash cc
built_promise b s st d d' w w' r c l h (passes n P) = P
