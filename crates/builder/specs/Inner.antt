-- What the private functions promise each other. No reader has to believe it: the calls promise the models alone.
-- Assumes nothing.
use Rattle.builder.specs.Plan.{planned}
use Rattle.builder.specs.Plan.{Decision}
use Rattle.builder.specs.declared.Location.{Location}
use Rattle.op.specs.declared.Refusal.{Refusal}
use Rattle.std.specs.Prelude.{◌≡◌, Bool, true, List, [], ℕ, ◌+◌, ◌-◌, ◌*◌, ◌/◌, ◌≤◌, ◌<◌, leb, eqb, set, Ok, Err, Some, None, Result, Option}
use Rattle.op.specs.Depths.{after_of}
use Rattle.op.specs.Shapes.{operand_shape, size_of}
use Rattle.op.specs.declared.Operand.{Operand}
use Rattle.op.specs.declared.Refusal.TheVariants.{WrongShape, TooManyKeywords, Full}
use Rattle.op.specs.declared.Table.{Table}
use Rattle.op.specs.declared.Table.TheVariants.{Code}
use Rattle.code.specs.Bytes.{word_bytes}
use Rattle.code.specs.Decode.{names_in}
use Rattle.code.specs.Encode.{encode, written_of}
use Rattle.builder.specs.declared.Core.{Core}
use Rattle.code.specs.Tables.{code_limit, location_cells, mark_cells, push, put}
use Rattle.builder.specs.State.{with_depth, with_marks}
use Rattle.builder.specs.Locations.{locations_after, row_fits, rows_after}
use Rattle.builder.specs.Marks.{mark_row, open_kind, patched_kind}
use Rattle.builder.specs.Plan.{Asked, ask_sound, behind, enter_of, guard}
use Rattle.builder.specs.Emission.{core_after}
use Rattle.builder.specs.Forward.{unpatched}

-- deciding

-- the call has entered, live at this depth
abbrev pub Lives : Asked → ℕ → Type 0
Lives asked here = enter_of (ask_sound asked) asked.opcode asked.name asked.core.depth ≡ Ok (Some here)

-- 18 of the code
unfoldable pub room_of : (at size : ℕ) (after : Option ℕ) (word code : ℕ) → Decision
room_of at size after word code =
    guard (leb size (code - at)) (Full Code)
    (guard (leb size (code_limit - at)) (Full Code)
    (Ok (Some (planned after word size))))

-- 2, 4, 5, then 18 of the code
abbrev pub fallen_of : Result ℕ Refusal → (at opcode size word code : ℕ) → Decision
fallen_of (Err r) at opcode size word code = Err r
fallen_of (Ok next) at opcode size word code = room_of at size (behind opcode next) word code

-- live at a depth: 7, 2, 4, 5, then 18 of the code
unfoldable pub bytes_of : (at here opcode : ℕ) (operand : Operand) (names word code : ℕ) → Decision
bytes_of at here opcode operand names word code =
    guard (leb names 255) TooManyKeywords
    (guard (eqb (names_in operand) names) WrongShape
    (fallen_of (after_of here opcode operand) at opcode (size_of (operand_shape operand) names) word code))

-- 18 of a row that goes with an instruction: of its location, of a jump's mark
abbrev pub also_row : Decision → Bool → Table → Decision
also_row (Ok None) free table = Ok None
also_row (Err r) free table = Err r
also_row (Ok (Some plan)) free table = guard free (Full table) (Ok (Some plan))

-- the counts are sound
pub record Sound (c : Core) (cl ll : ℕ) : Type 0 where
  pub code : c.code ≤ cl
  pub limit : c.code ≤ code_limit
  pub rows : c.locations ≤ ll / location_cells

-- the same of a call that is lent code and marks
pub record Markable (c : Core) (cl ml : ℕ) : Type 0 where
  pub code : c.code ≤ cl
  pub limit : c.code ≤ code_limit
  pub rows : c.marks ≤ ml / mark_cells

-- what is known where a plan goes ahead
pub record Goes (c : Core) (l : Option Location) (k : ℕ) (o : Operand) (n cl ll : ℕ) : Type 0 where
  pub sound : Sound c cl ll
  pub count : names_in o ≡ n
  pub written : written_of k o n (cl - c.code) ≡ Ok (size_of (operand_shape o) n)
  pub code : size_of (operand_shape o) n ≤ cl - c.code
  pub limit : size_of (operand_shape o) n ≤ code_limit - c.code
  pub row : row_fits l c.locations ll ≡ true

-- and where a jump forward does
pub record JumpGoes (c : Core) (l : Option Location) (k cl ll ml s : ℕ) : Type 0 where
  pub goes : Goes c l k unpatched 0 cl ll
  pub size : s ≡ size_of (operand_shape unpatched) 0
  pub mark : c.marks < ml / mark_cells

-- writing

-- what writing one instruction leaves
pub record Committed (c : Core) (l : Option Location) (k : ℕ) (o : Operand) (ns code locs : List ℕ)
    (used : ℕ) (code' locs' : List ℕ) : Type 0 where
  pub count : used ≡ rows_after l c.locations
  pub bytes : code' ≡ put c.code (encode k o ns) code
  pub rows : locs' ≡ locations_after l c.locations c.code locs

-- what writing a jump and its mark leaves
pub record JumpCommitted (c : Core) (l : Option Location) (k size : ℕ) (after : Option ℕ) (t : ℕ) (code locs marks : List ℕ)
    (next : Core) (code' locs' marks' : List ℕ) : Type 0 where
  pub state : next ≡ with_marks (core_after c l size after) (c.marks + 1)
  pub bytes : code' ≡ put c.code (encode k unpatched []) code
  pub rows : locs' ≡ locations_after l c.locations c.code locs
  pub mark : marks' ≡ push mark_cells c.marks (mark_row open_kind c.code t) marks

-- what writing a patch leaves
pub record PatchCommitted (c : Core) (i offset w : ℕ) (after : Option ℕ) (code marks : List ℕ)
    (next : Core) (code' marks' : List ℕ) : Type 0 where
  pub state : next ≡ with_depth c after
  pub bytes : code' ≡ put (offset + 1) (word_bytes w) code
  pub kind : marks' ≡ set marks (i * mark_cells) patched_kind
