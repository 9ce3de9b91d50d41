-- What is recorded is found: an emission keeps the location rows behind the code's end, and its own location is found.
-- Assumes nothing.
use Rattle.builder.specs.Plan.{planned}
use Rattle.builder.specs.Plan.{Decision}
use Rattle.builder.specs.declared.Location.{Location}
use Rattle.std.specs.Prelude.{Ok, Err, Some, None, Option}
use mathlib.Core.Path.{◌≡◌, refl, ap, sym, subst, ◌∙◌}
use mathlib.Core.Bool.{true}
use mathlib.Core.List.{List}
use Prim.Native.Nat.{ℕ, ◌+◌, ◌*◌, ◌/◌, ◌≤◌, ◌<◌}
use native.Mathlib.Omega.{arith}
use borrow.Author.Count.{below_more}
use borrow.Author.Tests.{ltb-true}
use lib.ListN.{length, get_or}
use lib.Seq.{get_or-take}
use Rattle.base.proofs.Bools.{clash}
use Rattle.op.specs.declared.Operand.{Operand}
use Rattle.code.specs.Encode.{encode}
use Rattle.code.specs.Tables.{code_limit, location_cells}
use Rattle.code.specs.Locations.{location_at, location_numbers, location_row, push_location, used_locations}
use Rattle.code.specs.Lookups.{location_of}
use Rattle.code.specs.declared.CodeRange.{CodeRange}
use Rattle.code.specs.declared.LocationRow.{LocationRow}
use Rattle.code.proofs.Putting.{take_put}
use Rattle.code.proofs.Recorded.{pushed_row, recorded_is_found}
use Rattle.builder.specs.declared.Builder.{Builder}
use Rattle.builder.specs.declared.Core.{Core}
use Rattle.builder.specs.State.{with_core}
use Rattle.builder.specs.Locations.{locations_after, row_fits, rows_after}
use Rattle.builder.specs.Plan.{plain_asked, plan_of}
use Rattle.builder.specs.Emission.{commit_of, core_after, emit_core, emit_named, outcome_by}
use Rattle.builder.specs.Recorded.{Behind, EmittedIsFound, EmittedStaysBehind, Finds}
use Rattle.builder.proofs.Plans.{goes, line_idle}

-- a pushed row

module _ (locations : List ℕ) (rows : ℕ) (row : LocationRow)
    (free : rows * location_cells + location_cells ≤ length locations) where
  abbrev pushed : List ℕ
  pushed = push_location rows row locations

  earlier : (i : ℕ) → i < rows → (location_row pushed i).offset ≡ (location_row locations i).offset
  earlier i lt =
      let k : ℕ = i * location_cells + 0 in
      sym (get_or-take (rows * location_cells) pushed k 0 (omega arith))
      ∙ ap (λ (l : List ℕ). get_or l k 0) (take_put (rows * location_cells) (location_numbers row) locations (omega arith))
      ∙ get_or-take (rows * location_cells) locations k 0 (omega arith)

  last : (location_row pushed rows).offset ≡ row.offset
  last =
      sym (get_or-take ((rows + 1) * location_cells) pushed (rows * location_cells + 0) 0 (omega arith))
      ∙ ap (λ (r : LocationRow). r.offset) (pushed_row locations rows row free)

  pushed_behind : ((i : ℕ) → i < rows → (location_row locations i).offset ≤ row.offset)
      → (i : ℕ) → i < rows + 1 → (location_row pushed i).offset ≤ row.offset
  pushed_behind before =
      below_more (λ i. (location_row pushed i).offset ≤ row.offset) rows
      (λ i lt. omega (arith, earlier i lt, before i lt)) (omega (arith, last))

-- the location of an instruction

module _ (core : Core) (locations : List ℕ) (before : Behind core locations) where
  stays : (location : Option Location) (size : ℕ) → row_fits location core.locations (length locations) ≡ true
      → (i : ℕ) → i < rows_after location core.locations
      → (location_row (locations_after location core.locations core.code locations) i).offset ≤ core.code + size
  stays None size has i lt = omega (arith, before i lt)
  stays (Some set) size has i lt =
      let free : core.locations < length locations / location_cells = ltb-true _ _ has in
      omega (
        arith,
        pushed_behind locations core.locations (location_at core.code set.range set.focus) (omega arith) before i lt,
      )

  found : (location : Option Location) (range : CodeRange) (focus : Option CodeRange) → location ≡ Some (record { range = range; focus = focus })
      → core.code ≤ code_limit → row_fits location core.locations (length locations) ≡ true
      → location_of (used_locations (rows_after location core.locations)
      (locations_after location core.locations core.code locations)) core.code
      ≡ Some (core.locations, (location_at core.code range focus))
  found location range focus e small =
      subst
      (λ (l : Option Location). row_fits l core.locations (length locations) ≡ true
      → location_of (used_locations (rows_after l core.locations)
      (locations_after l core.locations core.code locations)) core.code
      ≡ Some (core.locations, (location_at core.code range focus)))
      (sym e)
      (λ has. recorded_is_found locations core.locations (location_at core.code range focus) has (omega arith)
      before)

-- an emission

module _ (b next : Builder) (k name : ℕ) (o : Operand) (ns code locs : List ℕ) (before : Behind b.core locs) where
  stays_by : (p : Decision) → plan_of b.core b.location k name o (length ns) (length code) (length locs) ≡ p
      → (outcome_by b (commit_of p b.core b.location (encode k o ns) code locs)).answer ≡ Ok next
      → Behind next.core (commit_of p b.core b.location (encode k o ns) code locs).locations
  stays_by (Ok None) e a =
      let same : with_core b b.core ≡ next = cc in
      subst (λ (n : Builder). Behind n.core locs) same before
  stays_by (Err r) e a = clash cc
  stays_by (Ok (Some plan)) e a =
      let d = plan.after in
      let w = plan.word in
      let s = plan.size in
      let g = goes b.core b.location k name o (length ns) (length code) (length locs) s w d e in
      let same : with_core b (core_after b.core b.location s d) ≡ next = cc in
      subst
      (λ (n : Builder). Behind n.core (locations_after b.location b.core.locations b.core.code locs)) same
      (stays b.core locs before b.location s g.row)

  idle_dead : plan_of b.core b.location k name o (length ns) (length code) (length locs) ≡ (Ok None)
      → b.core.depth ≡ None
  unfolding plan_of
  idle_dead e = line_idle (plain_asked b.core b.location k name o (length ns) (length code) (length locs)) e

  module _ (here : ℕ) (range : CodeRange) (focus : Option CodeRange) (live : b.core.depth ≡ Some here)
      (is : b.location ≡ Some (record { range = range; focus = focus })) where
    found_by : (p : Decision) → plan_of b.core b.location k name o (length ns) (length code) (length locs) ≡ p
        → (outcome_by b (commit_of p b.core b.location (encode k o ns) code locs)).answer ≡ Ok next
        → Finds b.core next.core range focus
        (commit_of p b.core b.location (encode k o ns) code locs).locations
    found_by (Ok None) e a =
        let dead = idle_dead e in
        clash cc
    found_by (Err r) e a = clash cc
    found_by (Ok (Some plan)) e a =
        let d = plan.after in
        let w = plan.word in
        let s = plan.size in
        let g = goes b.core b.location k name o (length ns) (length code) (length locs) s w d e in
        let same : with_core b (core_after b.core b.location s d) ≡ next = cc in
        subst
        (λ (n : Builder). Finds b.core n.core range focus
        (locations_after b.location b.core.locations b.core.code locs))
        same
        (found b.core locs before b.location range focus is g.sound.limit g.row)

pub emitted_stays_behind : EmittedStaysBehind
unfolding emit_named emit_core
emitted_stays_behind b next k name o ns code locs before e =
    stays_by b next k name o ns code locs before
    (plan_of b.core b.location k name o (length ns) (length code) (length locs)) refl e

pub emitted_is_found : EmittedIsFound
unfolding emit_named emit_core
emitted_is_found b next here range focus k name o ns code locs live is before e =
    found_by b next k name o ns code locs before here range focus live is
    (plan_of b.core b.location k name o (length ns) (length code) (length locs)) refl e
