-- The slot of each name has its opcode, so a text names the opcode of its slot or none.
-- Assumes nothing.
use mathlib.Core.Path.{◌≡◌, refl, sym, ap, ◌∙◌, subst}
use mathlib.Core.Bool.{Bool, true, false, cond}
use mathlib.Core.List.{List, [], ◌∷◌}
use Prim.Native.Nat.{ℕ, suc, ◌≤◌, ◌<◌}
use native.Mathlib.Omega.{arith}
use native.Mathlib.Decide.{dec_lt}
use lib.Dec.{eqb, eqb→eq}
use lib.ListN.{length, get_or, get_or-eq_default, drop, set, replicate, drop_of_length-le}
use lib.Seq.{drop-cons}
use Rattle.base.proofs.Bools.{not_both}
use Rattle.base.proofs.Keys.{in_range}
use Rattle.op.specs.Names.{name_in, name_of}
use Rattle.op.specs.Opcodes.{Row as Opcode}
use Rattle.op.specs.Opcodes.{op, same as unmoved, table, row_of}
use Rattle.op.specs.declared.Shape.TheVariants.{None}
use Rattle.op.proofs.Listed.{rows}
use Rattle.text.specs.Reading.{same, place, opcode_of}
use Rattle.text.proofs.Opcodes.{same_refl, yes_same, named, read}
use Rattle.readback.specs.Inner.{slot_of, placed, slot_table}

-- the one computed test
slot_right : (k : ℕ) → k < length table → get_or slot_table (slot_of (name_of k)) 0 ≡ k
unfolding slot_table slot_of name_of row_of table
slot_right k h =
    let right : (ℕ → Bool) = λ j. eqb (get_or slot_table (slot_of (name_of j)) 0) j in
    eqb→eq (get_or slot_table (slot_of (name_of k)) 0) k
    (in_range right 0 (length table) k (omega arith) (omega arith) tt)

pub slots_size : length slot_table ≡ 512
unfolding slot_table slot_of table
slots_size = refl

-- before the first opcode is placed, after the one at hand, and behind the last
pub placed_none : placed 0 table (replicate 512 131) ≡ slot_table
unfolding slot_table
placed_none = refl

pub placed_on : (k : ℕ) (slots : List ℕ) → k < length table
    → placed k (drop k table) slots ≡ placed (suc k) (drop (suc k) table) (set slots (slot_of (name_of k)) k)
unfolding name_of row_of
placed_on k slots h = ap (λ (rs : List Opcode). placed k rs slots) (drop-cons table k (op "" None unmoved) h)

pub placed_all : (k : ℕ) (slots : List ℕ) → length table ≤ k → placed k (drop k table) slots ≡ slots
placed_all k slots h = ap (λ (rs : List Opcode). placed k rs slots) (drop_of_length-le table {i = k} h)

pub slot_small : (t : List ℕ) → slot_of t < 512
unfolding slot_of
slot_small t = omega arith

-- no name is empty
nothing_slot : get_or slot_table (slot_of []) 0 ≡ 131
unfolding slot_table slot_of table
nothing_slot = refl

nothing_named : opcode_of [] ≡ 131
unfolding opcode_of table
nothing_named = refl

place_most : (l : List Opcode) (t : List ℕ) → place l t ≤ length l
place_most [] t = omega arith
place_most (o ∷ l) t = by (same (name_in o) t) (place_most l t)
  where
    by : (b : Bool) → place l t ≤ length l → cond b 0 (suc (place l t)) ≤ suc (length l)
    by true h = omega arith
    by false h = omega arith

opcode_most : (t : List ℕ) → opcode_of t ≤ length table
unfolding opcode_of
opcode_most t = place_most table t

-- past the last opcode there is no name
unnamed : (k : ℕ) → length table ≤ k → [] ≡ name_of k
unfolding name_of row_of
unnamed k h = sym (ap name_in (get_or-eq_default table (op "" None unmoved) {n = k} h))

-- the name of the slot's opcode is the text, or no name is
module _ (t : List ℕ) (k : ℕ) (e : get_or slot_table (slot_of t) 0 ≡ k) where
  pub slot_named : same (name_of k) t ≡ true → k ≡ opcode_of t
  slot_named s = by (dec_lt k (length table))
    where
      by : Dec (k < length table) → k ≡ opcode_of t
      by (yes h) = sym (named k h) ∙ ap opcode_of (yes_same (name_of k) t s)
      by (no h) =
          let z : [] ≡ t = unnamed k (omega arith) ∙ yes_same (name_of k) t s in
          sym e ∙ ap (λ (x : List ℕ). get_or slot_table (slot_of x) 0) (sym z) ∙ nothing_slot ∙ sym nothing_named
          ∙ ap opcode_of z

  pub slot_none : same (name_of k) t ≡ false → 131 ≡ opcode_of t
  slot_none s = by (dec_lt (opcode_of t) (length table))
    where
      by : Dec (opcode_of t < length table) → 131 ≡ opcode_of t
      by (yes h) =
          let j = opcode_of t in
          let n : name_of j ≡ t = read t h in
          let i : j ≡ k = sym (slot_right j h) ∙ ap (λ (x : List ℕ). get_or slot_table (slot_of x) 0) n ∙ e in
          let q : name_of k ≡ t = ap name_of (sym i) ∙ n in
          let y : same t t ≡ false = subst (λ (x : List ℕ). same x t ≡ false) q s in
          absurd (not_both (same_refl t) y)
      by (no h) = omega (arith, rows, opcode_most t)
