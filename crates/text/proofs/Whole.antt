-- The lines from offset 0 on, one behind the other behind the first, are the listing.
-- Assumes nothing.
use Rattle.code.specs.Decode.{instr}
use Rattle.code.specs.Decode.{Step}
use Rattle.std.specs.Prelude.{Ok, Err, Some, None, Option}
use mathlib.Core.Path.{◌≡◌, refl, sym, ap, ◌∙◌}
use mathlib.Core.Bool.{Bool, true, false, cond}
use mathlib.Core.List.{List, [], ◌∷◌, ◌++◌, append-nil, append_assoc}
use Prim.Native.Nat.{ℕ, ◌+◌, ◌≤◌, ◌<◌}
use native.Mathlib.Omega.{arith}
use lib.Dec.{leb}
use lib.ListN.{length, drop}
use borrow.Author.Tests.{le-leb, lt-leb}
use Rattle.base.proofs.Bools.{clash}
use Rattle.op.specs.Names.{name_of}
use Rattle.op.specs.Opcodes.{last_opcode}
use Rattle.op.specs.declared.Operand.{Operand}
use Rattle.op.specs.declared.Refusal.{Refusal}
use Rattle.op.specs.declared.Refusal.TheVariants.{TooLarge}
use Rattle.code.specs.Decode.{decode}
use Rattle.code.specs.Reading.{Spot, Read, before, stops_at, spot_at, instructions_in}
use Rattle.code.proofs.Instructions.{read_from, reads_on, reads_end, reads_fault}
use Rattle.text.specs.Listing.{most, header, fault_line, first_line, spot_line, spot_lines, stop_line, line_by, line_of}
use Rattle.text.specs.Listing.{lines_of, listing_of, rest_of}

-- where a fault is, there is a byte
pub faulted : (at : ℕ) (u : List ℕ) (r : Refusal) → decode last_opcode at u ≡ Err r → 0 < length u
unfolding decode
faulted at [] r e = clash cc
faulted at (k ∷ u) r e = omega arith

-- the listing is its first line and the lines from 0 on
pub listing_begins : (code : List ℕ) → listing_of code ≡ first_line (length code) ++ rest_of code 0
unfolding listing_of first_line rest_of
listing_begins code = by (leb (length code) most)
  where
    lines : List ℕ
    lines = lines_of (instructions_in last_opcode code)

    by : (b : Bool) → cond b (header ++ lines) (fault_line 0 TooLarge) ≡ cond b header (fault_line 0 TooLarge)
        ++ cond b lines []
    by true = refl
    by false = sym (append-nil (fault_line 0 TooLarge))

-- the lines of what is read from a step on

line_before : (spot : Spot) (more : Read) → lines_of (before spot more) ≡ spot_line name_of spot ++ lines_of more
unfolding lines_of
line_before spot more =
    append_assoc (spot_line name_of spot) (spot_lines more.spots) (stop_line more.stop more.fault)

lines_stop : (at : ℕ) (fault : Option Refusal) → lines_of (stops_at at fault) ≡ stop_line at fault
unfolding lines_of
lines_stop at fault = refl

line_is : (at : ℕ) (u : List ℕ) (s : Step) → decode last_opcode at u ≡ s → line_of name_of at u ≡ line_by name_of at u s
unfolding line_of
line_is at u s e = ap (line_by name_of at u) e

rest_is : (code : List ℕ) (at : ℕ) → length code ≤ most → rest_of code at ≡ lines_of (read_from last_opcode code at)
unfolding rest_of
rest_is code at small = rw (le-leb (length code) most small)

module _ (code : List ℕ) (at : ℕ) (small : length code ≤ most) where
  -- an instruction's line, and the lines behind it
  pub rest_line : (k : ℕ) (o : Operand) (z : ℕ) → decode last_opcode at (drop at code) ≡ Ok (Some (instr k o z))
      → rest_of code at ≡ line_of name_of at (drop at code) ++ rest_of code (at + z)
  rest_line k o z e =
      let u = drop at code in
      let more = read_from last_opcode code (at + z) in
      let here = line_is at u (Ok (Some (instr k o z))) e in
      let later = rest_is code (at + z) small in
      rest_is code at small ∙ ap lines_of (reads_on last_opcode code at k o z e)
      ∙ line_before (spot_at last_opcode at u k o z) more
      ∙ sym (ap (λ (l : List ℕ). l ++ rest_of code (at + z)) here
      ∙ ap (λ (l : List ℕ). line_by name_of at u (Ok (Some (instr k o z))) ++ l) later)

  -- a fault's line is the last
  pub rest_fault : (r : Refusal) → decode last_opcode at (drop at code) ≡ Err r
      → rest_of code at ≡ line_of name_of at (drop at code)
  rest_fault r e =
      rest_is code at small ∙ ap lines_of (reads_fault last_opcode code at r e) ∙ lines_stop at (Some r)
      ∙ sym (line_is at (drop at code) (Err r) e)

  -- at the end there is none
  pub rest_end : decode last_opcode at (drop at code) ≡ (Ok None) → rest_of code at ≡ []
  rest_end e = rest_is code at small ∙ ap lines_of (reads_end last_opcode code at e) ∙ lines_stop at None

-- and in code that is too long
pub rest_large : (code : List ℕ) (at : ℕ) → most < length code → rest_of code at ≡ []
unfolding rest_of
rest_large code at h = rw (lt-leb (length code) most h)
