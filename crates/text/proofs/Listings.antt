-- The two listings from a cursor on, of what was put behind their first line.
-- Assumes nothing.
use Rattle.text.specs.Fitting.{Listed}
use Rattle.std.specs.Prelude.{Ok, Err}
use mathlib.Core.Path.{◌≡◌, refl, ap, subst}
use mathlib.Core.Bool.{Bool, true, false, cond}
use mathlib.Core.List.{List, []}
use Prim.Native.Nat.{ℕ, zero, suc, ◌+◌, ◌-◌, ◌≤◌, ◌<◌}
use native.Mathlib.Omega.{arith}
use lib.Dec.{leb, ltb}
use lib.ListN.{length, take}
use lib.Seq.{sets, take-length}
use borrow.Author.Tests.{le-leb, lt-leb, leb-true, leb-false}
use Rattle.op.specs.declared.Refusal.{Refusal}
use Rattle.op.specs.declared.Refusal.TheVariants.{Full, TooLarge, ShortDepths}
use Rattle.op.specs.declared.Table.TheVariants.{Text}
use Rattle.code.specs.Tables.{code_limit}
use Rattle.text.specs.Fitting.{line_to, listed_of, listed_in, Lists}
use Rattle.text.specs.Lines.{lines_from, lines_at, listed_code, plain_lines, checked_header, checked_lines}
use Rattle.text.specs.Lines.{ListsChecked}
use Rattle.text.specs.Listing.{most, first_line}
use Rattle.text.specs.Inner.{Goes}
use Rattle.text.specs.Put.{Places, placed_of, written}
use Rattle.text.proofs.Pieces.{fit_full}
use Rattle.text.proofs.Progressing.{lists_on, lists_first}

-- the first line has no room
pub lists_full : (first depths code : List ℕ) {old out : List ℕ} {r : Refusal} → Places old 0 first (Err r) out
    → Lists (lines_at first depths code 0) 0 old (Err (Full Text)) out
unfolding listed_of listed_in placed_of written
lists_full first depths code {old} {out} {r} p = by (leb (length first) (length old - 0)) refl p.answers p.cells
  where
    by : (b : Bool) → leb (length first) (length old - 0) ≡ b
        → Err r ≡ cond b (Ok (0 + length first)) (Err (Full Text))
        → out ≡ cond b (sets old 0 first) old → Lists (lines_at first depths code 0) 0 old (Err (Full Text)) out
    by true t e o = let y : ◌≡◌ {A = ℕ} 0 1 = cc in let z : ⊥ = omega arith in absurd z
    by false t e o =
        let f = fit_full (length old) 0 (line_to first 1) (lines_from depths code 0) (omega (arith, leb-false (length first) (length old - 0) t)) in
        record { answers = rw f; cells = rw f o }

-- from any cursor behind the first
pub lists_behind : (first depths code : List ℕ) {old out : List ℕ} {answer : Listed} (from : ℕ) → 0 < from → Goes depths code (from - 1) old 0 answer out
    → Lists (lines_at first depths code from) from old answer out
lists_behind first depths code {old} {out} {answer} zero h g = let z : ⊥ = omega arith in absurd z
lists_behind first depths code {old} {out} {answer} (suc at) h g =
    let e : suc at - 1 ≡ at = omega arith in
    lists_on (subst (λ (n : ℕ). Goes depths code n old 0 answer out) e g)

-- the plain listing's code
pub listed_is : (code : List ℕ) (size : ℕ) → size ≡ cond (leb (length code) most) (length code) 0
    → (take size code ≡ listed_code code) × (size ≤ length code) × (length (take size code) ≤ most)
listed_is code size e = by (leb (length code) most) refl e
  where
    by : (b : Bool) → leb (length code) most ≡ b → size ≡ cond b (length code) 0
        → (take size code ≡ cond b code []) × (size ≤ length code) × (length (take size code) ≤ most)
    by true t e = rw e (
      take-length code,
      omega arith,
      omega (arith, ap length (take-length code), leb-true (length code) most t),
    )
    by false t e = rw e (refl, omega arith, omega arith)

module _ (code : List ℕ) {old out : List ℕ} {answer : Listed} (from size : ℕ)
    (s : size ≡ cond (leb (length code) most) (length code) 0) where
  pub plain_first : {mid : List ℕ} {to : ℕ} → from ≡ 0 → Places old 0 (first_line (length code)) (Ok to) mid
      → Goes [] (take size code) 0 mid to answer out
      → Lists (plain_lines code from) from old answer out
  unfolding plain_lines
  plain_first {mid} {to} z p g =
      rw z (lists_first p (subst (λ (c : List ℕ). Goes [] c 0 mid to answer out) (listed_is code size s).0 g))

  pub plain_on : 0 < from → Goes [] (take size code) (from - 1) old 0 answer out → Lists (plain_lines code from) from old answer out
  unfolding plain_lines
  plain_on h g = lists_behind (first_line (length code)) [] (listed_code code) from h (subst (λ (c : List ℕ). Goes [] c (from - 1) old 0 answer out) (listed_is code size s).0 g)

pub plain_full : (code : List ℕ) {old out : List ℕ} {r : Refusal} (from : ℕ) → from ≡ 0
    → Places old 0 (first_line (length code)) (Err r) out
    → Lists (plain_lines code from) from old (Err (Full Text)) out
unfolding plain_lines
plain_full code from z p = rw z (lists_full (first_line (length code)) [] (listed_code code) p)

-- the checked one
module _ (code depths : List ℕ) {old : List ℕ} (from : ℕ) where
  pub checked_large : code_limit < length code → ListsChecked code depths from old (Err TooLarge) old
  checked_large h = let e = lt-leb (length code) code_limit h in record { answers = rw e; cells = rw e }

  pub checked_short : length code ≤ code_limit → length depths ≤ length code
      → ListsChecked code depths from old (Err ShortDepths) old
  checked_short h g =
      let e = le-leb (length code) code_limit h in
      let f : ltb (length code) (length depths) ≡ false = lt-leb (suc (length code)) (length depths) (omega arith) in
      record { answers = rw (e, f); cells = rw (e, f) }

  module _ (h : length code ≤ code_limit) (g : length code < length depths) where
    listed : {answer : Listed} {out : List ℕ} → Lists (checked_lines code depths from) from old answer out
        → ListsChecked code depths from old answer out
    listed l =
        let e = le-leb (length code) code_limit h in
        let f : ltb (length code) (length depths) ≡ true = le-leb (suc (length code)) (length depths) g in
        record { answers = rw (e, f) l.answers; cells = rw (e, f) l.cells }

    pub checked_full : {out : List ℕ} {r : Refusal} → from ≡ 0 → Places old 0 checked_header (Err r) out
        → ListsChecked code depths from old (Err (Full Text)) out
    unfolding checked_lines
    checked_full z p = listed (rw z (lists_full checked_header (take (suc (length code)) depths) code p))

    pub checked_first : {answer : Listed} {mid out : List ℕ} {to : ℕ} → from ≡ 0
        → Places old 0 checked_header (Ok to) mid
        → Goes (take (suc (length code)) depths) code 0 mid to answer out → ListsChecked code depths from old answer out
    unfolding checked_lines
    checked_first z p q = listed (rw z (lists_first p q))

    pub checked_on : {answer : Listed} {out : List ℕ} → 0 < from → Goes (take (suc (length code)) depths) code (from - 1) old 0 answer out
        → ListsChecked code depths from old answer out
    unfolding checked_lines
    checked_on z q = listed (lists_behind checked_header (take (suc (length code)) depths) code from z q)
