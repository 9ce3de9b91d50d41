-- Decimals read back: reading is the inverse of writing, both ways.
-- Assumes nothing.
use mathlib.Core.Path.{◌≡◌, refl, sym, ap, ◌∙◌}
use mathlib.Core.Bool.{Bool, true, not}
use mathlib.Core.List.{List, [], ◌∷◌, ◌++◌, append-nil}
use Prim.Native.Nat.{ℕ, zero, suc, ◌+◌, ◌-◌, ◌*◌, ◌/◌, ◌%◌, ◌≤◌, ◌<◌}
use native.Mathlib.Nat.{le_refl}
use native.Mathlib.Omega.{arith}
use native.Mathlib.Decide.{dec_lt}
use lib.Dec.{T, leb, eqb, leb→le, le→leb}
use lib.Seq.{append_snoc}
use Rattle.base.proofs.Bools.{and_left, and_right, and_both, T-ne, ne_t}
use Rattle.base.specs.Tests.{all}
use Rattle.text.specs.Decimal.{decimal}
use Rattle.text.specs.Number.{digit, natural, onto, value}
use Rattle.text.proofs.Decimals.{decimal_small, decimal_more}

pub digit_low : (c : ℕ) → T (digit c) → 48 ≤ c
digit_low c t = leb→le 48 c (and_left (leb 48 c) (leb c 57) t)

pub digit_high : (c : ℕ) → T (digit c) → c ≤ 57
digit_high c t = leb→le c 57 (and_right (leb 48 c) (leb c 57) t)

pub is_digit : (c : ℕ) → 48 ≤ c → c ≤ 57 → T (digit c)
is_digit c l h = and_both (leb 48 c) (leb c 57) (le→leb 48 c l) (le→leb c 57 h)

pub onto_append : (v : ℕ) (a b : List ℕ) → onto v (a ++ b) ≡ onto (onto v a) b
onto_append v [] b = refl
onto_append v (x ∷ a) b = onto_append (v * 10 + (x - 48)) a b

-- what is written is read
value_small : (n : ℕ) → n < 10 → value (decimal n) ≡ n
value_small n s = rw (decimal_small n s) (omega arith)

value_step : (n : ℕ) → value (decimal (n / 10)) ≡ n / 10 → Dec (n < 10) → value (decimal n) ≡ n
value_step n e (yes s) = value_small n s
value_step n e (no s) =
    ap value (decimal_more n (omega arith)) ∙ onto_append 0 (decimal (n / 10)) ((48 + n % 10) ∷ [])
    ∙ ap (λ (v : ℕ). v * 10 + (48 + n % 10 - 48)) e ∙ omega arith

value_up : (k n : ℕ) → n ≤ k → value (decimal n) ≡ n
value_up zero n h = value_small n (omega arith)
value_up (suc k) n h = value_step n (value_up k (n / 10) (omega arith)) (dec_lt n 10)

pub value_decimal : (n : ℕ) → value (decimal n) ≡ n
value_decimal n = value_up n n (le_refl n)

-- what is read is as it is written
pub decimal_onto : (t : List ℕ) (v : ℕ) → 0 < v → T (all digit t) → decimal (onto v t) ≡ decimal v ++ t
decimal_onto [] v p d = sym (append-nil (decimal v))
decimal_onto (c ∷ t) v p d =
    let dc = and_left (digit c) (all digit t) d in
    let low = digit_low c dc in
    let high = digit_high c dc in
    let v' = v * 10 + (c - 48) in
    let q : (v * 10 + (c - 48)) / 10 ≡ v = omega arith in
    let r : 48 + (v * 10 + (c - 48)) % 10 ≡ c = omega arith in
    decimal_onto t v' (omega arith) (and_right (digit c) (all digit t) d)
    ∙ ap (λ (l : List ℕ). l ++ t) (decimal_more v' (omega arith) ∙ ap (λ (m : ℕ). decimal m ++ ((48 + v' % 10) ∷ [])) q ∙ ap (λ (x : ℕ). decimal v ++ (x ∷ [])) r)
    ∙ append_snoc (decimal v) c t

first : (c : ℕ) → T (digit c) → decimal (0 * 10 + (c - 48)) ≡ c ∷ []
first c d =
    let low = digit_low c d in
    let high = digit_high c d in
    let e : 48 + (0 * 10 + (c - 48)) ≡ c = omega arith in
    decimal_small (0 * 10 + (c - 48)) (omega arith) ∙ ap (λ (x : ℕ). x ∷ []) e

pub decimal_value : (t : List ℕ) → T (natural t) → decimal (value t) ≡ t
decimal_value [] n = absurd n
decimal_value (c ∷ []) n = first c n
decimal_value (c ∷ d ∷ t) n =
    let ds = and_right (not (eqb c 48)) (all digit (c ∷ d ∷ t)) n in
    let dc = and_left (digit c) (all digit (d ∷ t)) ds in
    let low = digit_low c dc in
    let ne = T-ne c 48 (and_left (not (eqb c 48)) (all digit (c ∷ d ∷ t)) n) in
    decimal_onto (d ∷ t) (0 * 10 + (c - 48)) (omega arith) (and_right (digit c) (all digit (d ∷ t)) ds)
    ∙ ap (λ (l : List ℕ). l ++ (d ∷ t)) (first c dc)

pub all_append : (f : ℕ → Bool) (a b : List ℕ) → T (all f a) → T (all f b) → T (all f (a ++ b))
all_append f [] b p q = q
all_append f (x ∷ a) b p q =
    and_both (f x) (all f (a ++ b)) (and_left (f x) (all f a) p) (all_append f a b (and_right (f x) (all f a) p) q)

natural_snoc : (t : List ℕ) (d : ℕ) → T (natural t) → (t ≡ 48 ∷ [] → ⊥) → T (digit d) → T (natural (t ++ (d ∷ [])))
natural_snoc [] d n z h = absurd n
natural_snoc (c ∷ []) d n z h = and_both (not (eqb c 48)) (all digit (c ∷ d ∷ []))
    (ne_t c 48 (λ e. z (ap (λ (x : ℕ). x ∷ []) e)))
    (all_append digit (c ∷ []) (d ∷ []) (and_both (digit c) true n tt) (and_both (digit d) true h tt))
natural_snoc (c ∷ e ∷ t) d n z h =
    and_both (not (eqb c 48)) (all digit (c ∷ e ∷ t ++ (d ∷ []))) (and_left (not (eqb c 48)) (all digit (c ∷ e ∷ t)) n)
    (all_append digit (c ∷ e ∷ t) (d ∷ []) (and_right (not (eqb c 48)) (all digit (c ∷ e ∷ t)) n)
    (and_both (digit d) true h tt))

natural_step : (n : ℕ) → T (natural (decimal (n / 10))) → Dec (n < 10) → T (natural (decimal n))
natural_step n p (yes s) = rw (decimal_small n s) (is_digit (48 + n) (omega arith) (omega arith))
natural_step n p (no s) =
    rw (decimal_more n (omega arith))
    (natural_snoc (decimal (n / 10)) (48 + n % 10) p
    (λ e. let z : 0 ≡ n / 10 = sym (ap value e) ∙ value_decimal (n / 10) in omega arith)
    (is_digit (48 + n % 10) (omega arith) (omega arith)))

natural_up : (k n : ℕ) → n ≤ k → T (natural (decimal n))
natural_up zero n h = rw (decimal_small n (omega arith)) (is_digit (48 + n) (omega arith) (omega arith))
natural_up (suc k) n h = natural_step n (natural_up k (n / 10) (omega arith)) (dec_lt n 10)

pub natural_decimal : (n : ℕ) → T (natural (decimal n))
natural_decimal n = natural_up n n (le_refl n)

-- the digits of a natural
pub natural_digits : (t : List ℕ) → T (natural t) → T (all digit t)
natural_digits [] n = absurd n
natural_digits (c ∷ []) n = and_both (digit c) true n tt
natural_digits (c ∷ d ∷ t) n = and_right (not (eqb c 48)) (all digit (c ∷ d ∷ t)) n
