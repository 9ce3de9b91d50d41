-- Laws of instruction starts: they are in the code, none lies inside an instruction, and reading meets one fault at
-- most.
-- Assumes nothing.
use Rattle.code.specs.Decode.{instr}
use Rattle.code.specs.declared.Instr.{Instr}
use Rattle.code.specs.Decode.{Step}
use Rattle.std.specs.Prelude.{Ok, Err, Some, None}
use mathlib.Core.Path.{◌≡◌, refl, sym, ap, subst, ◌∙◌}
use mathlib.Core.List.Memᴰ
use mathlib.Core.List.Memᴰ.{head as mhead}
use mathlib.Core.List.Memᴰ.{tail as mtail}
use mathlib.Core.List.{List, Memᴰ as Mem}
use mathlib.Core.Logic.{◌⊎◌, ⊎_elim, inl, inr}
use Prim.Native.Nat.{ℕ, ◌+◌, ◌≤◌, ◌<◌}
use native.Mathlib.Omega.{arith}
use native.Mathlib.Decide.{dec_lt}
use lib.ListN.{length, drop, length-drop}
use Rattle.base.proofs.Bools.{clash}
use Rattle.op.specs.declared.Operand.{Operand}
use Rattle.op.specs.declared.Refusal.{Refusal}
use Rattle.code.specs.declared.Flow.{Flow}
use Rattle.code.specs.Decode.{decode}
use Rattle.code.specs.Flow.{flowing_by, flow_of}
use Rattle.code.specs.Reading.{Read, places_in}
use Rattle.code.specs.Depths.{Stands, Place, Faulty}
use Rattle.code.proofs.Decoding.{decode_longer, decode_end, decode_past}
use Rattle.code.proofs.Moving.{flowed, flow_op}
use Rattle.code.proofs.Instructions.{read_from, reads_on, reads_end, reads_fault, read_ind}

-- an instruction has a byte and ends in the code
pub stands_size : {last : ℕ} {s : List ℕ} {o : ℕ} {f : Flow} → Stands last s o f
    → (0 < f.size) × (o + f.size ≤ length s)
stands_size {last} {s} {o} {f} e = let g = flowed last o s f e.is in (g.some, g.ends)

pub stands_one : {last : ℕ} {s : List ℕ} {o : ℕ} {f g : Flow} → Stands last s o f → Stands last s o g → f ≡ g
stands_one {last} {s} {o} {f} {g} e h =
    let x = e.is in
    let y = h.is in
    cc

-- what stands under a table stands under a longer one
pub stands_longer : {last last' : ℕ} {s : List ℕ} {o : ℕ} {f : Flow} → last ≤ last' → Stands last s o f
    → Stands last' s o f
unfolding flow_of
stands_longer {last} {last'} {s} {o} {f} l e =
    let u = drop o s in
    let g = flowed last o s f e.is in
    let d = decode_longer last last' o u g.opcode g.operand f.size l g.step in
    record { is = ap (flowing_by o (o + length u)) (d ∙ sym g.step) ∙ e.is }

-- what is no instruction is the end or a fault

end_by : (last at : ℕ) (s : List ℕ) (x : Step) → decode last at (drop at s) ≡ x
    → flowing_by at (at + length (drop at s)) x ≡ (Ok None) → length s ≤ at
end_by last at s (Ok (Some i)) ex e = clash cc
end_by last at s (Ok None) ex e = omega (arith, decode_end last at (drop at s) ex, length-drop at s)
end_by last at s (Err r) ex e = clash cc

pub ends_over : (last : ℕ) (s : List ℕ) (at : ℕ) → flow_of last at (drop at s) ≡ (Ok None) → length s ≤ at
unfolding flow_of
ends_over last s at e = end_by last at s (decode last at (drop at s)) refl e

pub stands_no_fault : {last : ℕ} {s : List ℕ} {o : ℕ} {f : Flow} {q : Refusal} → Stands last s o f
    → flow_of last o (drop o s) ≡ Err q → ⊥
stands_no_fault {last} {s} {o} {f} {q} e h =
    let x = e.is in
    clash cc

fault_by : (last at : ℕ) (s : List ℕ) (q : Refusal) (x : Step) → decode last at (drop at s) ≡ x
    → flowing_by at (at + length (drop at s)) x ≡ Err q → decode last at (drop at s) ≡ Err q
fault_by last at s q (Ok (Some i)) ex e = clash cc
fault_by last at s q (Ok None) ex e = clash cc
fault_by last at s q (Err r) ex e = let x : r ≡ q = cc in ex ∙ ap Err x

-- the step of what stands

module _ {last : ℕ} {s : List ℕ} {at : ℕ} where
  stands_here : (k : ℕ) (o : Operand) (z : ℕ) → decode last at (drop at s) ≡ Ok (Some (instr k o z))
      → (f : Flow) × (Stands last s at f × (at + f.size ≡ at + z))
  stands_here k o z e = (_, (record { is = sym (flow_op last at s k o z e) }, refl))

  same_size : (k : ℕ) (o : Operand) (z : ℕ) (f : Flow) → decode last at (drop at s) ≡ Ok (Some (instr k o z)) → Stands last s at f
      → f.size ≡ z
  same_size k o z f e h =
      let g = flowed last at s f h.is in
      let same : instr g.opcode g.operand f.size ≡ instr k o z = let here = g.step in cc in
      ap (λ (i : Instr). i.size) same

  not_ended : (f : Flow) → decode last at (drop at s) ≡ (Ok None) → Stands last s at f → ⊥
  not_ended f e h = let g = (flowed last at s f h.is).step in clash cc

  not_refused : (r : Refusal) (f : Flow) → decode last at (drop at s) ≡ Err r → Stands last s at f → ⊥
  not_refused r f e h = let g = (flowed last at s f h.is).step in clash cc

-- the offsets that reading from one on comes to

abbrev Comes : ℕ → Read → Type 0
Comes o read = Mem o (places_in read)

module _ (last : ℕ) (s : List ℕ) where
  moved : {o q : ℕ} {f : Flow} → o ≡ q → Stands last s o f → Stands last s q f
  moved {o} {q} {f} e h = subst (λ (x : ℕ). Stands last s x f) e h

  -- the first is that offset
  come_here : (at : ℕ) → Comes at (read_from last s at)
  come_here =
      read_ind last s (λ at read. Comes at read) (λ at k o z e h. mhead refl) (λ at e. mhead refl)
      (λ at r e. mhead refl)

  -- no other is less
  come_past : (at o : ℕ) → Comes o (read_from last s at) → at ≤ o
  come_past = read_ind last s (λ at read. (o : ℕ) → Comes o read → at ≤ o)
      (λ at k o z e h q m. ⊎_elim (λ i. omega arith) (λ j. omega (arith, h q j)) (Memᴰ.cases_cons m))
      (λ at e q m. let i = Memᴰ.eq_of_singleton m in omega arith)
      (λ at r e q m. let i = Memᴰ.eq_of_singleton m in omega arith)

  -- behind an instruction comes the next
  come_next : (at o : ℕ) (f : Flow) → Comes o (read_from last s at) → Stands last s o f
      → Comes (o + f.size) (read_from last s at)
  come_next = read_ind last s (λ at read. (o : ℕ) (f : Flow) → Comes o read → Stands last s o f
      → Comes (o + f.size) read)
      (λ at k o z e h q f m w. ⊎_elim
      (λ i. (let j : q + f.size ≡ at + z = omega (arith, same_size k o z f e (moved i w)) in
      mtail (subst (λ (x : ℕ). Comes x (read_from last s (at + z))) (sym j) (come_here (at + z)))))
      (λ j. mtail (h q f j w)) (Memᴰ.cases_cons m))
      (λ at e q f m w. absurd (not_ended f e (moved (Memᴰ.eq_of_singleton m) w)))
      (λ at r e q f m w. absurd (not_refused r f e (moved (Memᴰ.eq_of_singleton m) w)))

  -- of two, the instruction at the lower one ends at or before the higher
  come_gap : (at o q : ℕ) → Comes o (read_from last s at) → Comes q (read_from last s at) → o < q
      → (f : Flow) × (Stands last s o f × (o + f.size ≤ q))
  come_gap = read_ind last s
      (λ at read. (o q : ℕ) → Comes o read → Comes q read → o < q
      → (f : Flow) × (Stands last s o f × (o + f.size ≤ q)))
      (λ at k i z e h o q m n l. ⊎_elim
      (λ a. ⊎_elim (λ b. absurd (omega arith)) (λ b.
      let g = stands_here k i z e in
      (g.0, (moved (sym a) g.1.0, omega (arith, g.1.1, come_past (at + z) q b)))) (Memᴰ.cases_cons n))
      (λ a. ⊎_elim (λ b. absurd (omega (arith, come_past (at + z) o a))) (λ b. h o q a b l) (Memᴰ.cases_cons n))
      (Memᴰ.cases_cons m))
      (λ at e o q m n l. absurd (let a = Memᴰ.eq_of_singleton m in let b = Memᴰ.eq_of_singleton n in
      omega arith))
      (λ at r e o q m n l. absurd (let a = Memᴰ.eq_of_singleton m in let b = Memᴰ.eq_of_singleton n in
      omega arith))

  -- reading from each of them on meets the same
  come_fault : (at o : ℕ) → Comes o (read_from last s at) → (read_from last s at).fault ≡ (read_from last s o).fault
  come_fault = read_ind last s (λ at read. (o : ℕ) → Comes o read → read.fault ≡ (read_from last s o).fault)
      (λ at k o z e h q m. ⊎_elim (here at _ (reads_on last s at k o z e) q) (h q) (Memᴰ.cases_cons m))
      (λ at e q m. here at _ (reads_end last s at e) q (Memᴰ.eq_of_singleton m))
      (λ at r e q m. here at _ (reads_fault last s at r e) q (Memᴰ.eq_of_singleton m))
    where
      here : (at : ℕ) (read : Read) → read_from last s at ≡ read → (q : ℕ) → q ≡ at
          → read.fault ≡ (read_from last s q).fault
      here at read e q i = sym (ap (λ (r : Read). r.fault) (ap (read_from last s) i ∙ e))

module _ {last : ℕ} {s : List ℕ} where
  -- places

  pub place_first : Place last s 0
  place_first = record { is = come_here last s 0 }

  pub place_next : {o q : ℕ} {f : Flow} → Place last s o → Stands last s o f → o + f.size ≡ q → Place last s q
  place_next {o} {q} {f} p h e =
      record { is = subst (λ (x : ℕ). Comes x (read_from last s 0)) e (come_next last s 0 o f p.is h) }

  -- what holds at 0, and behind each instruction if at it, holds at all places
  module _ (P : ℕ → Type 0) (None : P 0)
      (on : (o q : ℕ) (f : Flow) → Place last s o → P o → Stands last s o f → o + f.size ≡ q → P q) where
    along : (at : ℕ) → Place last s at → P at → (o : ℕ) → Comes o (read_from last s at) → P o
    along = read_ind last s (λ at read. Place last s at → P at → (o : ℕ) → Comes o read → P o)
        (λ at k o z e h p here q m. ⊎_elim (λ i. subst P (sym i) here)
        (λ j. (let g = stands_here k o z e in
        h (place_next p g.1.0 g.1.1) (on at (at + z) g.0 p here g.1.0 g.1.1) q j)) (Memᴰ.cases_cons m))
        (λ at e p here q m. subst P (sym (Memᴰ.eq_of_singleton m)) here)
        (λ at r e p here q m. subst P (sym (Memᴰ.eq_of_singleton m)) here)

    pub place_ind : (o : ℕ) → Place last s o → P o
    place_ind o p = along 0 place_first None o p.is

  pub place_le : {o : ℕ} → Place last s o → o ≤ length s
  place_le {o} p = place_ind (λ (x : ℕ). x ≤ length s) (omega arith) (λ a q f p l h e. omega (arith, (stands_size h).1, e)) o p

  -- of two places, the instruction at the lower one ends at or before the higher
  pub gap : {o q : ℕ} → Place last s o → Place last s q → o < q → (f : Flow) × (Stands last s o f × (o + f.size ≤ q))
  gap {o} {q} po pq l = come_gap last s 0 o q po.is pq.is l

  -- no place lies inside an instruction
  pub between : {at o : ℕ} {f : Flow} → Place last s at → Stands last s at f → Place last s o
      → o < at + f.size → (o < at) ⊎ (o ≡ at)
  between {at} {o} {f} p e q l = elim (dec_lt o at) [
    | yes a ↦ inl a
    | no a ↦ elim (dec_lt at o) [
      | yes b ↦ (let g = gap p q b in let y : g.0.size ≡ f.size = ap (λ (x : Flow). x.size) (stands_one g.1.0 e) in absurd (omega arith))
      | no b ↦ inr (omega arith)
    ]
  ]

  -- where reading comes to a fault it stops, and where it comes to the end it met none
  pub faulty_at : {o : ℕ} {q : Refusal} → Place last s o → flow_of last o (drop o s) ≡ Err q → Faulty last s q
  unfolding flow_of
  faulty_at {o} {q} p e =
      let d = fault_by last o s q (decode last o (drop o s)) refl e in
      record { is = come_fault last s 0 o p.is ∙ ap (λ (r : Read). r.fault) (reads_fault last s o q d) }

  pub whole_at : {o : ℕ} → Place last s o → flow_of last o (drop o s) ≡ (Ok None) → (q : Refusal) → Faulty last s q → ⊥
  whole_at {o} p e q A =
      let d = decode_past last o s (ends_over last s o e) in
      let n : (read_from last s 0).fault ≡ None =
      come_fault last s 0 o p.is ∙ ap (λ (r : Read). r.fault) (reads_end last s o d) in
      let f = A.is in
      clash cc

  pub fault_one : {p q : Refusal} → Faulty last s p → Faulty last s q → p ≡ q
  fault_one {p} {q} A B =
      let a = A.is in
      let b = B.is in
      cc

-- a place under a table is one under a longer
pub place_longer : {last last' : ℕ} {s : List ℕ} {o : ℕ} → last ≤ last' → Place last s o → Place last' s o
place_longer {last} {last'} {s} {o} l p =
    place_ind (Place last' s) place_first (λ a q f p here h e. place_next here (stands_longer l h) e) o p
