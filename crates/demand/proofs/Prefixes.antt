-- No instruction's bytes begin another's: specs/Prefixes.antt has the statements.
-- Assumes nothing.
use mathlib.Core.Path.{◌≡◌, refl, sym, ap, ◌∙◌}
use mathlib.Core.List.Memᴰ.{head as mhead}
use mathlib.Core.List.{List, [], ◌∷◌, ◌++◌, append-nil, head-eq_of_cons-eq}
use mathlib.Core.List.Memᴰ.{tail as mtail}
use Prim.Native.Nat.{ℕ}
use native.Mathlib.Omega.{arith}
use lib.ListN.{length, drop, length-append}
use lib.Seq.{drop_at}
use Rattle.op.specs.Opcodes.{last_opcode}
use Rattle.code.specs.Reading.{Instruction, Spot, Read, instructions_from}
use Rattle.demand.specs.Machine.{isa}
use Rattle.demand.specs.Prefixes.{WellFormed, all_bytes, PrefixFree, OneList}
use Rattle.demand.proofs.Machining.{read_formed, encode_some}

-- code begins with one instruction only
same_first : (last : ℕ) (i j : Instruction) (r q : List ℕ) → WellFormed last i → WellFormed last j
    → isa.bytes i ++ r ≡ isa.bytes j ++ q → (i ≡ j) × (r ≡ q)
same_first last i j r q f g e =
    let same = sym (read_formed 0 i f.formed r) ∙ ap (instructions_from last_opcode 0) e
    ∙ read_formed 0 j g.formed q in
    let spot = head-eq_of_cons-eq (ap (λ (read : Read). read.spots) same) in
    let k : i ≡ j = ap (λ (x : Spot). x.what) spot in
    let n : length (isa.bytes j) ≡ length (isa.bytes i) = sym (ap (λ (x : Spot). x.size) spot) in (
      k,
      sym (drop_at (isa.bytes i) r (length (isa.bytes i)) refl) ∙ ap (drop (length (isa.bytes i))) e
          ∙ drop_at (isa.bytes j) q (length (isa.bytes i)) n,
    )

pub prefix_free : PrefixFree
prefix_free last i j r f g e = same_first last i j r [] f g (e ∙ sym (append-nil (isa.bytes j)))

not_empty : (i : Instruction) (l : List ℕ) → isa.bytes i ++ l ≡ [] → ⊥
not_empty i l e =
    let n : length (isa.bytes i ++ l) ≡ 0 = ap length e in
    omega (arith, length-append (isa.bytes i) l, encode_some i.opcode i.operand i.names)

pub one_list : OneList
one_list last [] [] f g e = refl
one_list last [] (j ∷ js) f g e = absurd (not_empty j (all_bytes js) (sym e))
one_list last (i ∷ is) [] f g e = absurd (not_empty i (all_bytes is) e)
one_list last (i ∷ is) (j ∷ js) f g e =
    let s = same_first last i j (all_bytes is) (all_bytes js) (f i (mhead refl)) (g j (mhead refl)) e in
    rw (s.0, one_list last is js (λ x m. f x (mtail m)) (λ x m. g x (mtail m)) s.1) refl
