-- The third demand (R59): "Any calls on a fresh builder, refusals among them, state and tables handed on unaltered,
-- `build` accepted at the end: reading the finished bytes gives exactly the instructions accepted while live, in order,
-- each jump with its final displacement; and the depths derived from those bytes and the region starts alone are the
-- builder's: one at each instruction and at a live end, none at a dead end."
-- Assumes nothing.
use Rattle.std.specs.Prelude.{◌≡◌, ◌↔◌, ℕ, ◌*◌, ◌≤◌, ◌<◌, max, length, take, Ok, Result, Some, None, Option}
use mathlib.Core.List.{List, [], ◌∷◌, Memᴰ}
use contract.Lifetimes.{Lfts}
use Rattle.op.specs.Opcodes.{last_opcode}
use Rattle.op.specs.declared.Refusal.{Refusal}
use Rattle.code.specs.Depths.{Smallest, Derived}
use Rattle.code.specs.Reading.{instructions_in}
use Rattle.code.specs.Tables.{no_depth, start_cells}
use Rattle.builder.proofs.Builder.new.Reads.{Learnt as new_says}
use Rattle.checker.specs.Cells.{cell}
use Rattle.checker.specs.declared.Assignment.{Assignment}
use Rattle.checker.proofs.check.Reads.{Learnt as check_says}
use Rattle.checker.proofs.check_built.Reads.{Learnt as check_built_says}
use Rattle.demand.specs.Machine.{isa}
use Rattle.demand.specs.History.{ok, waits, leap, Row, program, depth_at, History, blank}
use Rattle.demand.specs.Calls.{U16, build}
use Rattle.demand.specs.World.{World, Slice, Holding, Made, Run, Taken}

-- the depth that a new builder is told
abbrev pub InDepth : Option ℕ → Type 0
InDepth None = Unit {0}
InDepth (Some d) = U16 d

-- "a fresh builder": what `new` answers and leaves by its contract, and any other tables
pub record Fresh (told : Option ℕ) (w : World) : Type 0 where
  pub fits : InDepth told
  pub lifetimes : Lfts 1
  pub entry : Slice
  pub exit : Slice
  pub keeps : new_says lifetimes (told, (entry, tt)) (Ok w.state) (told, (exit, tt))
  pub starts : exit.now ≡ w.starts

-- a run that begins with it
abbrev pub begun : Option ℕ → World → Run
begun told w = record { world = w; history = blank told }

-- "the finished bytes"
abbrev pub finished : World → List ℕ
finished w = take w.state.core.code w.code

-- "the region starts alone": the used cells of the starts
abbrev pub region_starts : World → List ℕ
region_starts w = take (w.state.starts * start_cells) w.starts

-- pairs as cells
abbrev pub cells : List (ℕ × ℕ) → List ℕ
cells [] = []
cells (x ∷ l) = x.0 ∷ x.1 ∷ cells l

-- "the builder's: one at each instruction and at a live end, none at a dead end"
abbrev pub depths : World → History → ℕ → Option ℕ
depths w h o = depth_at isa h.rows (length (finished w)) w.state.core.depth o

-- a depth's cell: "65,536 where there is no depth"
abbrev pub cell_of : Option ℕ → ℕ
cell_of None = no_depth
cell_of (Some d) = d

-- the greatest depth that a history shows: before an instruction, or at a live end; 0 where it shows none
abbrev pub deepest_seen : List (Row isa) → Option ℕ → ℕ
deepest_seen [] None = 0
deepest_seen [] (Some d) = d
deepest_seen (r ∷ rs) here = max r.depth (deepest_seen rs here)

-- as many instructions as the history has, and the greatest depth that it shows
abbrev pub seen_in : World → History → Assignment
seen_in w h = record { count = length h.rows; greatest = deepest_seen h.rows w.state.core.depth }

-- a check accepts, with these depths in its cells, and answers what the history has
abbrev pub AcceptsAs : World → History → Result Assignment Refusal → List ℕ → Type 0
AcceptsAs w h r checked =
    (r ≡ Ok (seen_in w h)) × ((o : ℕ) → o ≤ length (finished w) → cell checked o ≡ cell_of (depths w h o))

-- of the world w that the calls left, the world w' behind `build`, and the history h of the calls
pub record Demand (w w' : World) (h : History) : Type 0 where
  -- `build` leaves the state, the code and the starts as they were
  pub unchanged : (w'.state ≡ w.state) × (w'.code ≡ w.code) × (w'.starts ≡ w.starts)
  -- "reading the finished bytes gives exactly the instructions accepted while live, in order, each jump with its final
  -- displacement"
  pub reads : instructions_in last_opcode (finished w')
      ≡ record { spots = program h.rows; stop = length (finished w'); fault = None }
  -- every jump has its place: none waits for its label
  pub settled : (r : Row isa) → Memᴰ r h.rows → (k l : ℕ) → r.what ≡ leap k (waits l) → ⊥
  -- the starts are a live new builder's and the regions' opened, no others
  pub starts : region_starts w' ≡ cells h.starts
  -- "one at each instruction": the depth that the builder had before it
  pub before : (r : Row isa) → Memᴰ r h.rows → depths w' h r.offset ≡ Some r.depth
  -- "the depths derived from those bytes and the region starts alone": the smallest assignment, and just what paths
  -- from the starts lead to
  pub smallest : Smallest last_opcode (finished w') (region_starts w') (depths w' h)
  pub derived : (o d : ℕ) → (depths w' h o ≡ Some d) ↔ Derived last_opcode (finished w') (region_starts w') o d
  -- so `check` of those bytes and starts accepts where its two slices have room, by its contract
  pub checks : (κs : Lfts 4) (code : Holding (finished w')) (starts : Holding (region_starts w'))
      (entry exit work left : Slice) (r : Result Assignment Refusal)
      → check_says κs (code.slice, (starts.slice, (entry, (work, tt)))) r
      (code.slice, (starts.slice, (exit, (left, tt))))
      → length (finished w') < length entry.now → length (finished w') < length work.now
      → AcceptsAs w' h r exit.now
  -- and so does `check_built` of the builder and its tables
  pub checks_built : (κs : Lfts 4) (code : Holding w'.code) (starts : Holding w'.starts)
      (entry exit work left : Slice) (r : Result Assignment Refusal)
      → check_built_says κs (w'.state, (code.slice, (starts.slice, (entry, (work, tt))))) r
      (w'.state, (code.slice, (starts.slice, (exit, (left, tt)))))
      → length (finished w') < length entry.now → length (finished w') < length work.now
      → AcceptsAs w' h r exit.now

-- the demand: of every fresh builder, all calls taken from there, and a `build` that is accepted (R59)
abbrev pub Demanded : Type 0
Demanded =
    (told : Option ℕ) (w : World) → Fresh told w → (x : Run) → Taken (begun told w) x
    → (fill : ℕ) (w' : World) → Made (build fill) x.world ok w' → Demand x.world w' x.history
