-- Laws of the names: each is the part of the joined text between its start and the next.
-- Assumes nothing.
use mathlib.Core.Path.{◌≡◌, refl, sym, ap, ◌∙◌}
use mathlib.Core.List.{List, [], ◌∷◌, ◌++◌}
use Prim.Native.Nat.{ℕ, zero, suc, ◌+◌, ◌-◌, ◌≤◌, ◌<◌}
use native.Mathlib.Nat.{not-suc-le-zero, le_of_suc-le-suc, zero-add}
use native.Mathlib.Numerals.{add-one}
use native.Mathlib.Decide.{dec_lt}
use native.Mathlib.Omega.{arith}
use lib.ListN.{length, get_or, take, drop, length-append, get_or-eq_default}
use lib.Seq.{take_at, drop-append-add}
use borrow.Author.Tests.{le-leb, lt-leb}
use Rattle.op.specs.Opcodes.{Row, op, same, table, row_of}
use Rattle.op.specs.Opcodes.{Jump, JumpIfTrue, JumpIfFalse, JumpIfTrueOrPop, JumpIfFalseOrPop, ForIter, Raise}
use Rattle.op.specs.Opcodes.{Reraise, ReturnValue, RaiseUnboundLocal, AssertFailed}
use Rattle.op.specs.Chosen.{LoadLocal0, LoadLocal1, LoadLocal2, LoadLocal3, LoadLocal, LoadLocalW, StoreLocal, StoreLocalW}
use Rattle.op.specs.Chosen.{LoadGlobalCallable, CallBuiltinFunction, CallBuiltinType, CallFunctionKw, CallAttrKw}
use Rattle.op.specs.Names.{ascii, name_in, name_of, joined, begins, name_text, name_starts, between, name_by}
use Rattle.op.specs.declared.Shape.TheVariants.{None}

-- the row of a default
abbrev none : Row
none = op "" None same

-- what stands from the start of the i-th name on begins with that name
part : (l : List Row) (i : ℕ) → i < length l
    → (length (joined (take (suc i) l)) ≡ length (joined (take i l)) + length (name_in (get_or l i none)))
    × (drop (length (joined (take i l))) (joined l) ≡ name_in (get_or l i none) ++ joined (drop (suc i) l))
part [] i h = absurd (not-suc-le-zero h)
part (s ∷ l) zero h = (length-append (name_in s) [] ∙ omega arith, refl)
part (s ∷ l) (suc i) h =
    let r = part l i (le_of_suc-le-suc h) in (
      simp length-append (omega (arith, r.0)),
      simp length-append (drop-append-add (name_in s) (joined l) (length (joined (take i l)))) ∙ r.1,
    )

joined_take : (l : List Row) (i : ℕ) → length (joined (take i l)) ≤ length (joined l)
joined_take [] zero = omega arith
joined_take [] (suc i) = omega arith
joined_take (s ∷ l) zero = omega arith
joined_take (s ∷ l) (suc i) = simp length-append (omega (arith, joined_take l i))

-- the starts add up the lengths before
begins_at : (l : List Row) (k i : ℕ) → i ≤ length l → get_or (begins k l) i 0 ≡ k + length (joined (take i l))
begins_at [] k zero h = omega arith
begins_at [] k (suc i) h = absurd (not-suc-le-zero h)
begins_at (s ∷ l) k zero h = omega arith
begins_at (s ∷ l) k (suc i) h =
    begins_at l (k + length (name_in s)) i (le_of_suc-le-suc h) ∙ simp length-append (omega arith)

-- no end lies past the text, and an end before its start gives nothing
pub no_part : (text : List ℕ) (a e : ℕ) → length text < e → [] ≡ between text a e
no_part text a e h = simp (lt-leb e (length text) h)

pub empty_part : (text : List ℕ) (a e : ℕ) → e ≤ length text → e ≤ a → [] ≡ between text a e
empty_part text a e h l = let z : e - a ≡ 0 = omega arith in simp (le-leb e (length text) h, z)

pub whole_part : (text : List ℕ) (a e : ℕ) → e ≤ length text → take (e - a) (drop a text) ≡ between text a e
whole_part text a e h = simp (le-leb e (length text) h)

-- a part whose start and end are a name's
found : (text name rest : List ℕ) (a e : ℕ) → e ≡ a + length name → drop a text ≡ name ++ rest → e ≤ length text
    → between text a e ≡ name
found text name rest a e p q h =
    let n : length name ≡ e - a = omega arith in
    sym (whole_part text a e h) ∙ ap (take (e - a)) q ∙ take_at name rest (e - a) n

-- each opcode's name is found in the joined text by its starts
pub name_by_lem : (k : ℕ) → k < length table → name_by name_text name_starts k ≡ name_of k
unfolding name_text name_starts name_by name_of row_of
name_by_lem k h =
    let p = part table k h in
    let a : get_or (begins 0 table) k 0 ≡ length (joined (take k table)) =
    begins_at table 0 k (omega arith) ∙ zero-add _ in
    let t : get_or (begins 0 table) (k + 1) 0 ≡ length (joined (take (suc k) table)) =
    rw (add-one k) (begins_at table 0 (suc k) (omega arith) ∙ zero-add _) in
    found (joined table) (name_in (get_or table k none)) (joined (drop (suc k) table)) (get_or (begins 0 table) k 0) (get_or (begins 0 table) (k + 1) 0)
    (omega (arith, p.0)) (ap (λ (n : ℕ). drop n (joined table)) a ∙ p.1) (omega (arith, joined_take table (suc k)))

-- past the starts there is no name
pub past_starts : (text starts : List ℕ) (k : ℕ) → length starts ≤ k + 1 → [] ≡ name_by text starts k
unfolding name_by
past_starts text starts k h =
    let z : get_or starts (k + 1) 0 ≡ 0 = get_or-eq_default starts 0 {n = k + 1} h in
    rw z (empty_part text (get_or starts k 0) 0 (omega arith) (omega arith))

starts_size : length name_starts ≡ suc (length table)
unfolding name_starts table
starts_size = refl

-- the name that is found is the opcode's, or there is none
pub own_name : (k : ℕ) → name_by name_text name_starts k ≡ name_of k
unfolding name_of row_of
own_name k = by (dec_lt k (length table))
  where
    by : Dec (k < length table) → name_by name_text name_starts k ≡ name_of k
    by (yes h) = name_by_lem k h
    by (no h) =
        sym (past_starts name_text name_starts k (omega (arith, starts_size)))
        ∙ sym (ap name_in (get_or-eq_default table none {n = k} (omega arith)))

-- the opcodes that the rules name have those names
pub named : (name_of Jump ≡ ascii "Jump")
    × (name_of JumpIfTrue ≡ ascii "JumpIfTrue")
    × (name_of JumpIfFalse ≡ ascii "JumpIfFalse")
    × (name_of JumpIfTrueOrPop ≡ ascii "JumpIfTrueOrPop")
    × (name_of JumpIfFalseOrPop ≡ ascii "JumpIfFalseOrPop")
    × (name_of ForIter ≡ ascii "ForIter")
    × (name_of Raise ≡ ascii "Raise")
    × (name_of Reraise ≡ ascii "Reraise")
    × (name_of ReturnValue ≡ ascii "ReturnValue")
    × (name_of RaiseUnboundLocal ≡ ascii "RaiseUnboundLocal")
    × (name_of AssertFailed ≡ ascii "AssertFailed")
unfolding name_of row_of table
named = (refl, refl, refl, refl, refl, refl, refl, refl, refl, refl, refl)

-- and so are those that calls choose
pub chosen :
    (name_of LoadLocal0 ≡ ascii "LoadLocal0")
    × (name_of LoadLocal1 ≡ ascii "LoadLocal1")
    × (name_of LoadLocal2 ≡ ascii "LoadLocal2")
    × (name_of LoadLocal3 ≡ ascii "LoadLocal3")
    × (name_of LoadLocal ≡ ascii "LoadLocal")
    × (name_of LoadLocalW ≡ ascii "LoadLocalW")
    × (name_of StoreLocal ≡ ascii "StoreLocal")
    × (name_of StoreLocalW ≡ ascii "StoreLocalW")
    × (name_of LoadGlobalCallable ≡ ascii "LoadGlobalCallable")
    × (name_of CallBuiltinFunction ≡ ascii "CallBuiltinFunction")
    × (name_of CallBuiltinType ≡ ascii "CallBuiltinType")
    × (name_of CallFunctionKw ≡ ascii "CallFunctionKw")
    × (name_of CallAttrKw ≡ ascii "CallAttrKw")
unfolding name_of row_of table
chosen = (refl, refl, refl, refl, refl, refl, refl, refl, refl, refl, refl, refl, refl)
