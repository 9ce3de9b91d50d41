-- Laws of the model of emission: what a plan comes to, what the writer leaves of the lent code, and a location's row.
-- Assumes nothing.
use Rattle.builder.specs.Plan.{Decision}
use Rattle.builder.specs.declared.Location.{Location}
use Rattle.op.specs.declared.Refusal.{Refusal}
use Rattle.std.specs.Prelude.{Ok, Some, Result, Option}
use mathlib.Core.Path.{◌≡◌, sym, ap, ◌∙◌}
use mathlib.Core.List.{List}
use Prim.Native.Nat.{ℕ, ◌+◌, ◌-◌, ◌≤◌}
use borrow.Rule.Slice.PartMut.{put_mid}
use lib.ListN.{length, take, drop}
use Rattle.op.specs.declared.Operand.{Operand}
use Rattle.code.specs.Bytes.{front}
use Rattle.code.specs.Encode.{encode, written_of, filled, Writes}
use Rattle.code.specs.declared.CodeRange.{CodeRange}
use Rattle.builder.specs.declared.Core.{Core}
use Rattle.code.specs.Locations.{location_at, push_location}
use Rattle.code.specs.Tables.{put}
use Rattle.builder.specs.Locations.{locations_after, rows_after}
use Rattle.builder.specs.Plan.{plan_of}
use Rattle.builder.specs.Emission.{commit_of, emit_core}
use Rattle.code.proofs.Putting.{put_lent, length_lent}

-- what a plan comes to
pub emitted : (c : Core) (l : Option Location) (k name : ℕ) (o : Operand) (ns code locs : List ℕ) (p : Decision)
    → plan_of c l k name o (length ns) (length code) (length locs) ≡ p
    → commit_of p c l (encode k o ns) code locs ≡ emit_core c l k name o ns code locs
unfolding emit_core
emitted c l k name o ns code locs p e = sym (ap (λ (q : Decision). commit_of q c l (encode k o ns) code locs) e)

-- the writer was lent the code from `at` on, and said that it wrote
pub written_put : (k : ℕ) (o : Operand) (ns code : List ℕ) (at s : ℕ) (answer : Result ℕ Refusal) (part : List ℕ)
    → Writes k o ns (take (length code - at) (drop at code)) answer part
    → written_of k o (length ns) (length code - at) ≡ Ok s
    → at + length (encode k o ns) ≤ length code → put_mid at (length code - at) code part ≡ put at (encode k o ns) code
written_put k o ns code at s answer part w e h =
    let rest : List ℕ = take (length code - at) (drop at code) in
    let is : written_of k o (length ns) (length rest) ≡ Ok s =
    ap (written_of k o (length ns)) (length_lent at code) ∙ e in
    let f : part ≡ front (encode k o ns) rest = w.cells ∙ ap (λ (x : Result ℕ Refusal). filled x (encode k o ns) rest) is in
    ap (put_mid at (length code - at) code) f ∙ put_lent at (encode k o ns) code h

-- a location that is set
pub set_arm : (l : Option Location) (r : CodeRange) (f : Option CodeRange) (rows at : ℕ) (old new : List ℕ) → l ≡ Some (record { range = r; focus = f })
    → new ≡ push_location rows (location_at at r f) old
    → (rows + 1 ≡ rows_after l rows) × (new ≡ locations_after l rows at old)
set_arm l r f rows at old new e h =
    (sym (ap (λ (x : Option Location). rows_after x rows) e), h ∙ sym (ap (λ (x : Option Location). locations_after x rows at old) e))
