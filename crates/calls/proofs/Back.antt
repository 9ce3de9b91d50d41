-- A state that was written is the one that is read.
-- Assumes nothing.
use Rattle.code.specs.Locations.{focused, focus_start_of, focus_end_of}
use Rattle.code.specs.declared.CodeRange.{CodeRange}
use Rattle.calls.specs.Back.{FocusFits}
use Rattle.builder.specs.declared.Location.{Location}
use Rattle.std.specs.Prelude.{Some, None, Option}
use mathlib.Core.Path.{◌≡◌, refl, ap}
use mathlib.Core.List.{List}
use Prim.Native.Nat.{ℕ, ◌≤◌}
use native.Mathlib.Omega.{arith}
use lib.ListN.{length, get_or, length-drop}
use lib.Seq.{get_or-drop}
use borrow.Author.Tests.{lt-ltb, le-leb}
use Rattle.code.specs.Bytes.{front}
use Rattle.builder.specs.Answers.{dead_depth, depth_number}
use Rattle.builder.specs.State.{with_core}
use Rattle.builder.specs.declared.Builder.{Builder}
use Rattle.builder.specs.declared.Core.{Core}
use Rattle.calls.specs.Back.{CoreBack, DepthFits, LocationFits, StateBack}
use Rattle.calls.specs.State.{cells_of, core_of, depth_in, focus_in, location_in, offset_max, place_of, state_cells}
use Rattle.calls.specs.State.{state_in, state_with}
use Rattle.calls.proofs.Held.{enough}

depth_back : (d : Option ℕ) → DepthFits d → depth_in (depth_number d) ≡ Some d
depth_back None h = refl
depth_back (Some d) h = simp (lt-ltb d dead_depth h)

abbrev read : Option Location → Option (Option Location)
read l =
    let p = place_of l in
    location_in p.set p.start p.end (focus_in p.focus p.from p.to)

focus_back : (f : Option CodeRange) → FocusFits f → focus_in (focused f) (focus_start_of f) (focus_end_of f) ≡ Some f
focus_back None h = refl
focus_back (Some f) h = simp (le-leb f.start offset_max h.0, le-leb f.end offset_max h.1)

location_back : (l : Option Location) → LocationFits l → read l ≡ Some l
location_back None h = refl
location_back (Some set) h =
    rw (focus_back set.focus h.1, le-leb set.range.start offset_max h.0.0, le-leb set.range.end offset_max h.0.1) refl

pub state_back : StateBack
unfolding state_in
state_back b value cells h d l =
    let after = front (cells_of b value) cells in
    let longer : state_cells ≤ length after = simp length-drop (omega arith) in
    rw (
      le-leb state_cells (length after) longer,
      depth_back b.core.depth d,
      location_back b.location l,
    )

-- a call of the core changes its cells alone
module _ (b : Builder) (k : Core) (value : ℕ) (cells : List ℕ) where
  abbrev after : List ℕ
  after = front (core_of k value) cells

  abbrev over : Option Builder → Option Builder
  over None = None
  over (Some x) = Some (with_core x k)

  other : (d : Option (Option ℕ)) (l : Option (Option Location)) → state_with d l cells ≡ Some b
      → state_with (Some k.depth) l after ≡ Some (with_core b k)
  other None l e =
      let z : ◌≡◌ {A = ℕ} 0 1 = cc in
      let n : ⊥ = omega arith in
      absurd n
  other (Some d) None e = ap over e
  other (Some d) (Some l) e = simp get_or-drop (ap over e)

  back : DepthFits k.depth → state_in cells ≡ Some b → state_in after ≡ Some (with_core b k)
  unfolding state_in
  back fits e =
      let h : state_cells ≤ length cells = enough cells b e in
      let w = rw (le-leb state_cells (length cells) h) at e in
      let longer : state_cells ≤ length after = simp length-drop (omega arith) in
      rw (le-leb state_cells (length after) longer, depth_back k.depth fits)
      (simp get_or-drop
      (other
      (depth_in (get_or cells 4 0))
      (location_in (get_or cells 9 0) (get_or cells 10 0) (get_or cells 11 0)
      (focus_in (get_or cells 12 0) (get_or cells 13 0) (get_or cells 14 0)))
      w))

pub core_back : CoreBack
core_back builder core value cells fits e = back builder core value cells fits e
