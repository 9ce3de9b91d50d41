-- Laws of the one reading: how it goes on by a step, and an induction along it. Who tells something of what is read
-- uses these and not the definition's text.
-- Assumes nothing.
use Rattle.code.specs.Decode.{instr}
use Rattle.code.specs.Decode.{Step}
use Rattle.std.specs.Prelude.{Ok, Err, Some, None}
use mathlib.Core.Path.{◌≡◌, refl, sym, ap, subst, ◌∙◌}
use mathlib.Core.List.{List, [], ◌∷◌}
use Prim.Native.Nat.{ℕ, zero, suc, ◌+◌, ◌≤◌, ◌<◌}
use native.Mathlib.Omega.{arith}
use lib.ListN.{length, drop, length-drop}
use lib.Seq.{drop-drop}
use Rattle.op.specs.declared.Operand.{Operand}
use Rattle.op.specs.declared.Refusal.{Refusal}
use Rattle.code.specs.Decode.{decode}
use Rattle.code.specs.Reading.{Read, before, stops_at, spot_at, read_by, read_up_to, instructions_from}
use Rattle.code.proofs.Decoding.{decoded, decoded_ends, decode_past}

module _ (last : ℕ) where
  -- behind a step less is left, so two that read alike what is shorter read alike
  same_rest : (f g : ℕ → List ℕ → Read) (at : ℕ) (u : List ℕ)
      → ((at' : ℕ) (v : List ℕ) → length v < length u → f at' v ≡ g at' v) → (t : Step) → decode last at u ≡ t
      → read_by last f at u t ≡ read_by last g at u t
  same_rest f g at u same (Ok (Some i)) e =
      let z = i.size in
      let d = decoded last at u i.opcode i.operand z e in
      ap (before (spot_at last at u i.opcode i.operand z)) (same (at + z) (drop z u) (omega (arith, d.some, d.fits, length-drop z u)))
  same_rest f g at u same (Ok None) e = refl
  same_rest f g at u same (Err r) e = refl

  read_nothing : (n at : ℕ) (u : List ℕ) → length u ≤ 0 → read_up_to last n at u ≡ stops_at at None
  unfolding read_up_to decode
  read_nothing zero at u h = refl
  read_nothing (suc n) at [] h = refl
  read_nothing (suc n) at (k ∷ u) h = absurd (omega arith)

  -- no more instructions are read than there are bytes
  enough : (n m at : ℕ) (u : List ℕ) → length u ≤ n → length u ≤ m → read_up_to last n at u ≡ read_up_to last m at u
  unfolding read_up_to
  enough zero m at u h g = sym (read_nothing m at u h)
  enough (suc n) zero at u h g = read_nothing (suc n) at u g
  enough (suc n) (suc m) at u h g =
      same_rest (read_up_to last n) (read_up_to last m) at u (λ at' v l. enough n m at' v (omega arith) (omega arith))
      (decode last at u) refl

  -- what is read is what the first step gives, and what is read behind it
  pub instructions_step : (at : ℕ) (u : List ℕ)
      → instructions_from last at u ≡ read_by last (instructions_from last) at u (decode last at u)
  unfolding instructions_from read_up_to decode
  instructions_step at [] = refl
  instructions_step at (k ∷ u) =
      same_rest (read_up_to last (length u)) (instructions_from last) at (k ∷ u)
      (λ at' v l. enough (length u) (length v) at' v (omega arith) (omega arith)) (decode last at (k ∷ u)) refl

-- the same in a code

module _ (last : ℕ) (s : List ℕ) where
  -- the code read from an offset on
  abbrev pub read_from : ℕ → Read
  read_from at = instructions_from last at (drop at s)

  pub reads_on : (at k : ℕ) (o : Operand) (z : ℕ) → decode last at (drop at s) ≡ Ok (Some (instr k o z))
      → read_from at ≡ before (spot_at last at (drop at s) k o z) (read_from (at + z))
  reads_on at k o z e =
      let u = drop at s in
      instructions_step last at u ∙ ap (read_by last (instructions_from last) at u) e
      ∙ ap (λ (v : List ℕ). before (spot_at last at u k o z) (instructions_from last (at + z) v)) (drop-drop z at s)

  pub reads_end : (at : ℕ) → decode last at (drop at s) ≡ (Ok None) → read_from at ≡ stops_at at None
  reads_end at e = instructions_step last at (drop at s) ∙ ap (read_by last (instructions_from last) at (drop at s)) e

  pub reads_fault : (at : ℕ) (r : Refusal) → decode last at (drop at s) ≡ Err r → read_from at ≡ stops_at at (Some r)
  reads_fault at r e = instructions_step last at (drop at s) ∙ ap (read_by last (instructions_from last) at (drop at s)) e

  -- what holds where reading stops, and in front of an instruction if behind it, holds of what is read
  module _ (M : ℕ → Read → Type 0)
      (on : (at k : ℕ) (o : Operand) (z : ℕ) → decode last at (drop at s) ≡ Ok (Some (instr k o z)) → M (at + z) (read_from (at + z))
      → M at (before (spot_at last at (drop at s) k o z) (read_from (at + z))))
      (over : (at : ℕ) → decode last at (drop at s) ≡ (Ok None) → M at (stops_at at None))
      (fault : (at : ℕ) (r : Refusal) → decode last at (drop at s) ≡ Err r → M at (stops_at at (Some r))) where
    by_step : (at : ℕ) → ((z : ℕ) → 0 < z → M (at + z) (read_from (at + z))) → (t : Step)
        → decode last at (drop at s) ≡ t
        → M at (read_from at)
    by_step at later (Ok (Some i)) e =
        let k = i.opcode in
        let o = i.operand in
        let z = i.size in
        subst (M at) (sym (reads_on at k o z e)) (on at k o z e (later z (decoded_ends last at s k o z e).0))
    by_step at later (Ok None) e = subst (M at) (sym (reads_end at e)) (over at e)
    by_step at later (Err r) e = subst (M at) (sym (reads_fault at r e)) (fault at r e)

    by_length : (n at : ℕ) → length s ≤ at + n → M at (read_from at)
    by_length zero at h = let e = decode_past last at s (omega arith) in subst (M at) (sym (reads_end at e)) (over at e)
    by_length (suc n) at h = by_step at (λ z l. by_length n (at + z) (omega arith)) (decode last at (drop at s)) refl

    pub read_ind : (at : ℕ) → M at (read_from at)
    read_ind at = by_length (length s) at (omega arith)
