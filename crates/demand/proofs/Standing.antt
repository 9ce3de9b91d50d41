-- Rows in their bytes: where no jump waits, each row's instruction stands at its offset, and reading meets the rows,
-- the end and no fault.
-- Assumes nothing.
use Rattle.code.specs.Decode.{instr}
use Rattle.std.specs.Prelude.{Ok, Some, None}
use mathlib.Core.Path.{◌≡◌, refl, sym, ap, ◌∙◌}
use mathlib.Core.List.Memᴰ.{head as mhead}
use mathlib.Core.List.{List, [], ◌∷◌, ◌++◌, map, append_assoc, Memᴰ as Mem}
use mathlib.Core.List.Memᴰ
use mathlib.Core.List.Memᴰ.{tail as mtail}
use Prim.Native.Nat.{ℕ, suc, ◌+◌, ◌≤◌}
use native.Mathlib.Omega.{arith}
use lib.IntN.{pos}
use lib.ListN.{length, drop, length-append}
use lib.Seq.{drop_at}
use Rattle.base.proofs.Bools.{clash}
use Rattle.op.specs.Opcodes.{last_opcode}
use Rattle.op.specs.Depths.{after_of}
use Rattle.op.specs.Effects.{dead_maker}
use Rattle.op.specs.declared.Refusal.{Refusal}
use Rattle.code.specs.Decode.{decode}
use Rattle.code.specs.Depths.{Stands, Place, Faulty, Rising}
use Rattle.code.specs.Encode.{encode, Formed}
use Rattle.code.specs.Flow.{flow_by}
use Rattle.code.specs.Reading.{Instruction, Spot, Read, before, instructions_from, instructions_in, places_in}
use Rattle.code.specs.declared.Flow.{Flow}
use Rattle.code.proofs.Moving.{flow_op}
use Rattle.code.proofs.Inverse.{decode_encode}
use Rattle.code.proofs.Instructions.{instructions_step}
use Rattle.code.proofs.Places.{stands_size}
use Rattle.demand.specs.Machine.{isa}
use Rattle.demand.specs.History.{waits, to, What, one, leap, Row, size, final, spot_of, program}
use Rattle.base.proofs.Lists.{mem_map}
use Rattle.demand.proofs.Book.{net, stops, Chain}
use Rattle.demand.proofs.Bytes.{bytes_at, bytes_of, length_bytes, bytes_length, size_some, Closed}
use Rattle.demand.proofs.Machining.{formed_known, read_formed, depth_is, jump_net, jump_bytes, jump_formed, laws}

-- what a row says

abbrev pub said : ℕ → What isa → Instruction
said o w = final isa o w

said_formed : (o : ℕ) (w : What isa) → Closed isa laws o w
    → Formed (said o w).opcode (said o w).operand (said o w).names
said_formed o (one i) v = v.formed
said_formed o (leap j (waits l)) v = absurd v
said_formed o (leap j (to t)) v = jump_formed o t v.1 j v.0

said_bytes : (o : ℕ) (w : What isa) → Closed isa laws o w
    → encode (said o w).opcode (said o w).operand (said o w).names ≡ bytes_at isa o w
said_bytes o (one i) v = refl
said_bytes o (leap j (waits l)) v = absurd v
said_bytes o (leap j (to t)) v = jump_bytes o t v.1 j

pub said_net : (o : ℕ) (w : What isa) (d e : ℕ) → net isa w d ≡ Some e
    → after_of d (said o w).opcode (said o w).operand ≡ Ok e
said_net o (one i) d e h = depth_is _ e h
said_net o (leap j (waits l)) d e h = depth_is _ e h
said_net o (leap j (to t)) d e h = jump_net d j _ (pos 0) ∙ depth_is _ e h

pub said_stops : (o : ℕ) (w : What isa) → dead_maker (said o w).opcode ≡ stops isa w
said_stops o (one i) = refl
said_stops o (leap j (waits l)) = refl
said_stops o (leap j (to t)) = refl

-- how a row moves on in code of so many bytes
abbrev pub flow_at : ℕ → ℕ → What isa → Flow
flow_at n o w = flow_by (o + size isa w) n (said o w).opcode (said o w).operand (size isa w)

decode_row : (o : ℕ) (w : What isa) → Closed isa laws o w → (rest : List ℕ)
    → decode last_opcode o (bytes_at isa o w ++ rest) ≡ Ok (Some (instr (said o w).opcode (said o w).operand (size isa w)))
decode_row o w v rest =
    let b = said_bytes o w v in
    let d = decode_encode last_opcode (said o w).opcode (said o w).operand (said o w).names rest
    (formed_known (said_formed o w v)) (said_formed o w v) o in
    ap (λ (l : List ℕ). decode last_opcode o (l ++ rest)) (sym b) ∙ d
    ∙ ap (λ (size : ℕ). Ok (Some (instr (said o w).opcode (said o w).operand size)))
    (ap length b ∙ length_bytes isa o w)

pub stands_by : (s : List ℕ) (o : ℕ) (w : What isa) (rest : List ℕ) → Closed isa laws o w
    → drop o s ≡ bytes_at isa o w ++ rest → Stands last_opcode s o (flow_at (length s) o w)
stands_by s o w rest v e = record {
  is = sym (flow_op last_opcode o s (said o w).opcode (said o w).operand (size isa w)
      (ap (decode last_opcode o) e ∙ decode_row o w v rest));
}

-- a row's bytes stand at its offset
at_row : (o n : ℕ) (pre : List ℕ) (rs : List (Row isa)) (r : Row isa) → length pre ≡ o → Chain isa o rs n → Mem r rs
    → (rest : List ℕ) × (drop r.offset (pre ++ bytes_of isa rs) ≡ bytes_at isa r.offset r.what ++ rest)
at_row o n pre [] r l h m = elim m [ ]
at_row o n pre (x ∷ rs) r l h (mhead e) =
    let q : r.offset ≡ o = ap (λ (y : Row isa). y.offset) e ∙ h.0 in (
      bytes_of isa rs,
      ap (λ (i : ℕ). drop i (pre ++ bytes_of isa (x ∷ rs))) q ∙ drop_at pre (bytes_of isa (x ∷ rs)) o l
          ∙ ap (λ (y : Row isa). bytes_at isa y.offset y.what ++ bytes_of isa rs) (sym e),
    )
at_row o n pre (x ∷ rs) r l h (mtail m) =
    let b = bytes_at isa x.offset x.what in
    let k = at_row (o + size isa x.what) n (pre ++ b) rs r (length-append pre b ∙ (let z = length_bytes isa x.offset x.what in omega arith)) h.1 m in
    (k.0, ap (drop r.offset) (sym (append_assoc pre b (bytes_of isa rs))) ∙ k.1)

-- the rows are what is read of their bytes

read_row_lem : (o : ℕ) (w : What isa) → Closed isa laws o w → (rest : List ℕ)
    → instructions_from last_opcode o (bytes_at isa o w ++ rest)
    ≡ before (record { offset = o; what = said o w; size = size isa w })
    (instructions_from last_opcode (o + size isa w) rest)
read_row_lem o w v rest =
    let b = said_bytes o w v in
    let z : length (isa.bytes (said o w)) ≡ size isa w = ap length b ∙ length_bytes isa o w in
    ap (λ (l : List ℕ). instructions_from last_opcode o (l ++ rest)) (sym b)
    ∙ read_formed o (said o w) (said_formed o w v) rest
    ∙ ap (λ (m : ℕ). before (record { offset = o; what = said o w; size = m })
    (instructions_from last_opcode (o + m) rest)) z

abbrev pub read_rows : ℕ → List (Row isa) → Read
read_rows n rows = record { spots = program rows; stop = n; fault = None }

read_rows_lem : (o n : ℕ) (rs : List (Row isa)) → Chain isa o rs n
    → ((r : Row isa) → Mem r rs → Closed isa laws r.offset r.what)
    → instructions_from last_opcode o (bytes_of isa rs) ≡ read_rows n rs
unfolding decode
read_rows_lem o n [] h v = instructions_step last_opcode o [] ∙ ap (λ (x : ℕ). read_rows x []) h
read_rows_lem o n (r ∷ rs) h v =
    let more = read_rows_lem (o + size isa r.what) n rs h.1 (λ q m. v q (mtail m)) in
    let one = read_row_lem r.offset r.what (v r (mhead refl)) (bytes_of isa rs) in
    let at = h.0 in
    ap (λ (x : ℕ). instructions_from last_opcode x (bytes_of isa (r ∷ rs))) (sym at) ∙ one
    ∙ ap (before (spot_of r)) (ap (λ (x : ℕ). instructions_from last_opcode (x + size isa r.what) (bytes_of isa rs)) at
    ∙ more)

module _ (rows : List (Row isa)) (n : ℕ) (chain : Chain isa 0 rows n)
    (closed : (r : Row isa) → Mem r rows → Closed isa laws r.offset r.what) where
  abbrev pub code : List ℕ
  code = bytes_of isa rows

  pub code_length : length code ≡ n
  code_length = omega (arith, bytes_length isa 0 n rows chain)

  pub row_stands : (r : Row isa) → Mem r rows
      → Stands last_opcode code r.offset (flow_at (length code) r.offset r.what)
  row_stands r m = let k = at_row 0 n [] rows r refl chain m in stands_by code r.offset r.what k.0 (closed r m) k.1

  -- nothing stands at the end
  pub end_stands : {o : ℕ} {f : Flow} → n ≡ o → Stands last_opcode code o f → ⊥
  end_stands {o} {f} e h = let z = stands_size h in omega (arith, z.0, z.1, code_length)

  -- reading gives the rows and no fault; places are the rows' offsets and the end

  pub reads_rows : instructions_in last_opcode code ≡ read_rows n rows
  reads_rows = read_rows_lem 0 n rows chain closed

  at_place : (o : ℕ) → Mem o (places_in (read_rows n rows)) → Place last_opcode code o
  at_place o m = record { is = rw reads_rows m }

  pub row_place : (r : Row isa) → Mem r rows → Place last_opcode code r.offset
  row_place r m = at_place r.offset
      (Memᴰ.append_left (n ∷ []) (mem_map (λ (x : Spot). x.offset) (mem_map spot_of m)))

  pub end_place : Place last_opcode code n
  end_place = at_place n (Memᴰ.append_right (map (λ (x : Spot). x.offset) (program rows)) (mhead refl))

  pub whole : (q : Refusal) → Faulty last_opcode code q → ⊥
  whole q a =
      let e : None ≡ Some q = sym (ap (λ (read : Read). read.fault) reads_rows) ∙ a.is in
      clash cc

  -- the rows' offsets rise
  rising_from : (o : ℕ) (rs : List (Row isa)) → Chain isa o rs n → Rising o (map (λ (r : Row isa). r.offset) rs)
  rising_from o [] h = tt
  rising_from o (x ∷ rs) h = (omega (arith, h.0), lower (map (λ (r : Row isa). r.offset) rs) (omega (arith, h.0, size_some isa laws x.what)) (rising_from (o + size isa x.what) rs h.1))
    where
      lower : (xs : List ℕ) → suc x.offset ≤ o + size isa x.what → Rising (o + size isa x.what) xs
          → Rising (suc x.offset) xs
      lower [] l r = tt
      lower (y ∷ ys) l r = (omega (arith, r.0), r.1)

  pub rising : Rising 0 (map (λ (r : Row isa). r.offset) rows)
  rising = rising_from 0 rows chain
