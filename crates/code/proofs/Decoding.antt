-- What it says that some bytes begin with an instruction. Callers use these laws and never open `decode`.
-- Assumes nothing.
use Rattle.code.specs.Decode.{instr}
use Rattle.code.specs.declared.Instr.{Instr}
use Rattle.code.specs.Decode.{Step}
use Rattle.std.specs.Prelude.{Ok, Err, Some, None, Result}
use mathlib.Core.Path.{◌≡◌, refl, sym, ap, ◌∙◌}
use mathlib.Core.Bool.{Bool, true, false, cond}
use mathlib.Core.List.{List, [], ◌∷◌}
use Prim.Native.Nat.{ℕ, ◌+◌, ◌-◌, ◌*◌, ◌<◌, ◌≤◌}
use native.Mathlib.Omega.{arith}
use lib.Dec.{leb}
use lib.ListN.{length, get_or, take, drop, length-drop, drop_of_length-le}
use lib.Seq.{drop-drop, get_or-drop}
use borrow.Author.Tests.{leb-true, le-leb, lt-leb}
use Rattle.base.proofs.Bools.{clash}
use Rattle.op.specs.Opcodes.{last_opcode, known}
use Rattle.op.specs.Shapes.{shape_of, operand_shape, size_of}
use Rattle.op.specs.declared.Operand.{Operand}
use Rattle.op.specs.declared.Refusal.{Refusal}
use Rattle.op.specs.declared.Refusal.TheVariants.{UnknownOpcode, UnknownOpcodeAt, CutShort}
use Rattle.op.specs.declared.Shape.{Shape}
use Rattle.code.specs.Decode.{operand_in, names_in, size_by_names, step_in, whole, shape_up_to, decode, names_by, names_at}
use Rattle.code.proofs.Operands.{shape_in_lem, size_by_names_lem, fixed_part}

-- shapes under a table

chosen : (b : Bool) (p : Result Shape Refusal) (r : Refusal) (s : Shape) → cond b p (Err r) ≡ Ok s → (b ≡ true) × (p ≡ Ok s)
chosen true p r s e = (refl, e)
chosen false p r s e = clash cc

-- an opcode that has a shape is at most the last
pub shape_below : (last k : ℕ) (s : Shape) → shape_up_to last k ≡ Ok s → (k ≤ last) × (shape_of k ≡ Ok s)
unfolding shape_up_to
shape_below last k s e = let q = chosen (leb k last) (shape_of k) UnknownOpcode s e in (leb-true k last q.0, q.1)

pub below_shape : (last k : ℕ) → k ≤ last → shape_up_to last k ≡ shape_of k
unfolding shape_up_to
below_shape last k h = rw (le-leb k last h)

-- today's own table has every opcode that has a shape
same_choice : (b : Bool) (p : Result Shape Refusal) (r : Refusal)
    → cond b (cond b p (Err r)) (Err r) ≡ cond b p (Err r)
same_choice true p r = refl
same_choice false p r = refl

pub shape_last : (k : ℕ) → shape_up_to last_opcode k ≡ shape_of k
unfolding shape_up_to shape_of known
shape_last k = same_choice (leb k last_opcode) _ UnknownOpcode

pub shape_known : (k : ℕ) (s : Shape) → shape_of k ≡ Ok s → k ≤ last_opcode
shape_known k s e = (shape_below last_opcode k s (shape_last k ∙ e)).0

-- an instruction of a shape

module _ (at : ℕ) (s : Shape) (u : List ℕ) (z : ℕ) (ez : z ≡ size_by_names s u) where
  pub step_cut : length u < z → Err (CutShort at) ≡ step_in at s u
  unfolding step_in
  step_cut l = rw (lt-leb (size_by_names s u) (length u) (omega (arith, ez)))

  pub step_instr : (o : Operand) → o ≡ operand_in s u → z ≤ length u → Ok (Some (instr (get_or u 0 0) o z)) ≡ step_in at s u
  unfolding step_in
  step_instr o eo l = rw (eo, ez, le-leb (size_by_names s u) (length u) (omega (arith, ez)))

-- the cases of the code, at bytes that are there

by_first : (last at : ℕ) (u : List ℕ) → 0 < length u → whole at (shape_up_to last (get_or u 0 0)) u ≡ decode last at u
unfolding decode
by_first last at [] h = absurd (omega arith)
by_first last at (k ∷ t) h = refl

module _ (last at : ℕ) (u : List ℕ) (h : 0 < length u) where
  pub decode_unknown : (r : Refusal) → shape_up_to last (get_or u 0 0) ≡ Err r
      → Err (UnknownOpcodeAt at) ≡ decode last at u
  decode_unknown r e = ap (λ (p : Result Shape Refusal). whole at p u) (sym e) ∙ by_first last at u h

  pub decode_shaped : (s : Shape) → shape_up_to last (get_or u 0 0) ≡ Ok s → step_in at s u ≡ decode last at u
  decode_shaped s e = ap (λ (p : Result Shape Refusal). whole at p u) (sym e) ∙ by_first last at u h

-- what `decode last at u ≡ Instr k o z` says
pub record Decoded (last : ℕ) (u : List ℕ) (k : ℕ) (o : Operand) (z : ℕ) : Type 0 where
  pub opcode : k ≡ get_or u 0 0
  pub known : k ≤ last
  pub shape : shape_of k ≡ Ok (operand_shape o)
  pub operand : o ≡ operand_in (operand_shape o) u
  pub size : z ≡ size_of (operand_shape o) (names_in o)
  -- it has a byte, its names' bytes are its last, and it stands in u
  pub some : 0 < z
  pub base : z ≡ size_of (operand_shape o) 0 + 2 * names_in o
  pub fits : z ≤ length u

picked : (t : Bool) (a b x : Step) → cond t a b ≡ x → (b ≡ x → ⊥) → (t ≡ true) × (a ≡ x)
picked true a b x e n = (refl, e)
picked false a b x e n = absurd (n e)

-- an instruction that is there decodes
pub decode_whole : (last at k : ℕ) (t : List ℕ) (s : Shape) (o : Operand) → k ≤ last → shape_of k ≡ Ok s
    → operand_in s (k ∷ t) ≡ o
    → size_of s (names_in o) ≤ length (k ∷ t) → decode last at (k ∷ t) ≡ Ok (Some (instr k o (size_of s (names_in o))))
unfolding decode step_in
decode_whole last at k t s o l e eo h =
    rw (below_shape last k l, e, eo, le-leb (size_of s (names_in o)) (length (k ∷ t)) h)

-- what it says that they decode

no_fault : {k : ℕ} {o : Operand} {z : ℕ} {r : Refusal} → Err r ≡ Ok (Some (instr k o z)) → ⊥
no_fault q = clash cc

module _ (last : ℕ) (u : List ℕ) (k : ℕ) (s : Shape) (l : k ≤ last) (e : shape_of k ≡ Ok s) (ek : k ≡ get_or u 0 0)
    (h : size_by_names s u ≤ length u) where
  read : Decoded last u k (operand_in s u) (size_by_names s u)
  read =
      let o = operand_in s u in
      let es : s ≡ operand_shape o = sym (shape_in_lem s u) in
      let ez : size_by_names s u ≡ size_of (operand_shape o) (names_in o) = ap (λ (x : Shape). size_of x (names_in o)) es in
      let eb : size_by_names s u ≡ size_of (operand_shape o) 0 + 2 * names_in o = ez ∙ size_by_names_lem o in
      record {
        opcode = ek;
        known = l;
        shape = e ∙ ap Ok es;
        operand = ap (λ (x : Shape). operand_in x u) es;
        size = ez;
        some = omega (arith, (fixed_part (operand_shape o)).0, eb);
        base = eb;
        fits = h;
      }

module _ (last at k' : ℕ) (t : List ℕ) (k : ℕ) (o : Operand) (z : ℕ) where
  by_shape : (p : Result Shape Refusal) → shape_up_to last k' ≡ p → whole at p (k' ∷ t) ≡ Ok (Some (instr k o z)) → Decoded last (k' ∷ t) k o z
  unfolding step_in
  by_shape (Err r) ep e = absurd (no_fault e)
  by_shape (Ok s) ep e =
      let u : List ℕ = k' ∷ t in
      let f = picked (leb (size_by_names s u) (length u)) (Ok (Some (instr k' (operand_in s u) (size_by_names s u))))
      (Err (CutShort at)) (Ok (Some (instr k o z))) e no_fault in
      let i : Ok (Some (instr k' (operand_in s u) (size_by_names s u))) ≡ Ok (Some (instr k o z)) = f.1 in
      let j : instr k o z ≡ instr k' (operand_in s u) (size_by_names s u) = cc in
      let ek : k ≡ k' = ap (λ (x : Instr). x.opcode) j in
      let eo : o ≡ operand_in s u = ap (λ (x : Instr). x.operand) j in
      let ez : z ≡ size_by_names s u = ap (λ (x : Instr). x.size) j in
      let b = shape_below last k' s ep in
      rw (ek, eo, ez) (read last u k' s b.0 b.1 refl (leb-true (size_by_names s u) (length u) f.0))

-- an instruction that decodes is there
pub decoded : (last at : ℕ) (u : List ℕ) (k : ℕ) (o : Operand) (z : ℕ) → decode last at u ≡ Ok (Some (instr k o z))
    → Decoded last u k o z
unfolding decode
decoded last at [] k o z e = clash cc
decoded last at (k' ∷ t) k o z e = by_shape last at k' t k o z (shape_up_to last k') refl e

-- the other way: `Decoded` says all of it
pub decodes : (last at : ℕ) (u : List ℕ) (k : ℕ) (o : Operand) (z : ℕ) → Decoded last u k o z
    → decode last at u ≡ Ok (Some (instr k o z))
decodes last at [] k o z d = absurd (omega (arith, d.some, d.fits))
decodes last at (k' ∷ t) k o z d =
    let e : shape_of k' ≡ Ok (operand_shape o) = ap shape_of (sym d.opcode) ∙ d.shape in
    rw (d.opcode, d.size)
    (decode_whole last at k' t (operand_shape o) o (omega (arith, d.opcode, d.known)) e (sym d.operand)
    (omega (arith, d.size, d.fits)))

-- the offset names a fault's place, and nothing else goes by it
pub decode_anywhere : (last at at' : ℕ) (u : List ℕ) (k : ℕ) (o : Operand) (z : ℕ) → decode last at u ≡ Ok (Some (instr k o z))
    → decode last at' u ≡ Ok (Some (instr k o z))
decode_anywhere last at at' u k o z e = decodes last at' u k o z (decoded last at u k o z e)

-- an instruction is the same under every table that has its opcode
pub decode_under : (last last' at : ℕ) (u : List ℕ) (k : ℕ) (o : Operand) (z : ℕ) → decode last at u ≡ Ok (Some (instr k o z))
    → k ≤ last'
    → decode last' at u ≡ Ok (Some (instr k o z))
decode_under last last' at u k o z e l =
    let d = decoded last at u k o z e in
    decodes last' at u k o z (record {
      opcode = d.opcode;
      known = l;
      shape = d.shape;
      operand = d.operand;
      size = d.size;
      some = d.some;
      base = d.base;
      fits = d.fits;
    })

-- so what decodes under a table decodes the same under a longer one
pub decode_longer : (last last' at : ℕ) (u : List ℕ) (k : ℕ) (o : Operand) (z : ℕ) → last ≤ last'
    → decode last at u ≡ Ok (Some (instr k o z))
    → decode last' at u ≡ Ok (Some (instr k o z))
decode_longer last last' at u k o z l e =
    decode_under last last' at u k o z e (omega (arith, (decoded last at u k o z e).known))

-- at or past the end, and only there, stands End
pub decode_past : (last at : ℕ) (s : List ℕ) → length s ≤ at → decode last at (drop at s) ≡ (Ok None)
unfolding decode
decode_past last at s h = rw (drop_of_length-le s {i = at} h)

no_end : (b : Bool) (k : ℕ) (o : Operand) (z : ℕ) (r : Refusal) (n : ℕ) → cond b (Ok (Some (instr k o z))) (Err r) ≡ (Ok None) → n ≡ 0
no_end true k o z r n e = cc
no_end false k o z r n e = cc

not_ended : (at k : ℕ) (t : List ℕ) (p : Result Shape Refusal) → whole at p (k ∷ t) ≡ (Ok None) → length (k ∷ t) ≡ 0
unfolding step_in
not_ended at k t (Err r) e = cc
not_ended at k t (Ok s) e =
    let u : List ℕ = k ∷ t in
    no_end (leb (size_by_names s u) (length u)) k (operand_in s u) (size_by_names s u) (CutShort at) (length u) e

pub decode_end : (last at : ℕ) (u : List ℕ) → decode last at u ≡ (Ok None) → length u ≡ 0
unfolding decode
decode_end last at [] e = refl
decode_end last at (k ∷ t) e = not_ended at k t (shape_up_to last k) e

-- the names' bytes are the last of the instruction
pub names_part : (last : ℕ) (u : List ℕ) (k : ℕ) (o : Operand) (z : ℕ) → Decoded last u k o z
    → names_at last u ≡ take (2 * names_in o) (drop (size_of (operand_shape o) 0) u)
unfolding names_at
names_part last u k o z d =
    let e : z - 2 * names_in o ≡ size_of (operand_shape o) 0 = omega (arith, d.base) in
    ap (λ (x : Step). names_by x u) (decodes last 0 u k o z d) ∙ ap (λ (i : ℕ). take (2 * names_in o) (drop i u)) e

-- the names do not go by the offset either
same_names : (b : Bool) (k : ℕ) (o : Operand) (z : ℕ) (r r' : Refusal) (u : List ℕ)
    → names_by (cond b (Ok (Some (instr k o z))) (Err r)) u ≡ names_by (cond b (Ok (Some (instr k o z))) (Err r')) u
same_names true k o z r r' u = refl
same_names false k o z r r' u = refl

names_by_shape : (at : ℕ) (u : List ℕ) (p : Result Shape Refusal) → names_by (whole 0 p u) u ≡ names_by (whole at p u) u
unfolding step_in
names_by_shape at u (Err r) = refl
names_by_shape at u (Ok s) = same_names (leb (size_by_names s u) (length u)) (get_or u 0 0) (operand_in s u)
    (size_by_names s u) (CutShort 0) (CutShort at) u

pub names_anywhere : (last at : ℕ) (u : List ℕ) → names_at last u ≡ names_by (decode last at u) u
unfolding names_at decode
names_anywhere last at [] = refl
names_anywhere last at (k ∷ t) = names_by_shape at (k ∷ t) (shape_up_to last k)

-- an instruction of the code stands in it
pub decoded_ends : (last at : ℕ) (s : List ℕ) (k : ℕ) (o : Operand) (z : ℕ) → decode last at (drop at s) ≡ Ok (Some (instr k o z))
    → (0 < z) × (at + z ≤ length s)
decoded_ends last at s k o z e =
    let d = decoded last at (drop at s) k o z e in
    (d.some, omega (arith, d.some, d.fits, length-drop at s))

-- the part of the code that holds the names
pub names_in_code : (last : ℕ) (s : List ℕ) (at k : ℕ) (o : Operand) (z n : ℕ)
    → decode last at (drop at s) ≡ Ok (Some (instr k o z)) → n ≡ names_in o
    → take (at + z - (at + z - 2 * n)) (drop (at + z - 2 * n) s) ≡ names_at last (drop at s)
names_in_code last s at k o z n e en =
    let d = decoded last at (drop at s) k o z e in
    let l : 2 * n ≤ z = omega (arith, d.base) in
    let a : at + z - (at + z - 2 * n) ≡ 2 * names_in o = omega arith in
    let b : at + z - 2 * n ≡ at + size_of (operand_shape o) 0 = omega (arith, d.base) in
    rw (a, b, ← drop-drop (size_of (operand_shape o) 0) at s) (sym (names_part last (drop at s) k o z d))

-- the same cases at an offset of the code, by the shape of the opcode there

module _ (s : List ℕ) (at : ℕ) (inside : at < length s) where
  front : get_or (drop at s) 0 0 ≡ get_or s at 0
  front = get_or-drop at s 0 0 ∙ ap (λ (i : ℕ). get_or s i 0) (let e : at + 0 ≡ at = omega arith in e)

  left : length (drop at s) ≡ length s - at
  left = length-drop at s

  pub at_unknown : {r : Refusal} → shape_of (get_or s at 0) ≡ Err r
      → decode last_opcode at (drop at s) ≡ Err (UnknownOpcodeAt at)
  at_unknown {r} e = sym (decode_unknown last_opcode at (drop at s) (omega (arith, left)) r
      (shape_last _ ∙ ap shape_of front ∙ e))

  module _ (x : Shape) (e : shape_of (get_or s at 0) ≡ Ok x) (z : ℕ) (is : z ≡ size_by_names x (drop at s)) where
    shaped : step_in at x (drop at s) ≡ decode last_opcode at (drop at s)
    shaped = decode_shaped last_opcode at (drop at s) (omega (arith, left)) x (shape_last _ ∙ ap shape_of front ∙ e)

    pub at_cut : length s - at < z → decode last_opcode at (drop at s) ≡ Err (CutShort at)
    at_cut l = sym (step_cut at x (drop at s) z is (omega (arith, left)) ∙ shaped)

    pub at_whole : z ≤ length s - at → decode last_opcode at (drop at s) ≡ Ok (Some (instr (get_or s at 0) (operand_in x (drop at s)) z))
    at_whole l = sym (ap (λ (k : ℕ). Ok (Some (instr k (operand_in x (drop at s)) z))) (sym front)
        ∙ step_instr at x (drop at s) z is _ refl (omega (arith, left)) ∙ shaped)
