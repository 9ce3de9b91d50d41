-- Laws of keyword names as text: two bytes are a comma and a number.
-- Assumes nothing.
use mathlib.Core.Path.{◌≡◌, refl, sym, ap, ◌∙◌}
use mathlib.Core.List.{List, [], ◌∷◌, ◌++◌}
use Prim.Native.Nat.{ℕ, zero, suc, ◌/◌, ◌+◌, ◌-◌, ◌*◌, ◌≤◌, ◌<◌}
use native.Mathlib.Numerals.{add-one}
use native.Mathlib.Omega.{arith}
use lib.ListN.{length, get_or, take, drop, length-append, length-drop}
use Rattle.std.specs.Int.{from_le_bytes, w16}
use Rattle.std.proofs.lemmas.List.{drop-drop}
use Rattle.std.specs.Simd.{first_chunks}
use lib.Seq.{drop-cons}
use Rattle.code.specs.Bytes.{word_at}
use Rattle.text.specs.Decimal.{decimal}
use Rattle.text.specs.Fields.{names_text}
use Rattle.text.specs.Put.{Put}
use Rattle.text.proofs.Decimals.{decimal_short}
use Rattle.text.proofs.Putting.{Left, done}

none_left : (s : List ℕ) → length s < 2 → names_text s ≡ []
none_left [] h = refl
none_left (a ∷ []) h = refl
none_left (a ∷ b ∷ t) h = let z : ⊥ = omega arith in absurd z

-- fewer than two bytes are left
pub names_end : (s : List ℕ) (i : ℕ) → length s - i < 2 → names_text (drop i s) ≡ []
names_end s i h = none_left (drop i s) (omega (arith, length-drop i s))

two_cells : (s : List ℕ) (i : ℕ) → 2 ≤ length s - i → drop i s ≡ get_or s i 0 ∷ get_or s (i + 1) 0 ∷ drop (i + 2) s
two_cells s i h =
    let e : suc (i + 1) ≡ i + 2 = omega arith in
    drop-cons s i 0 (omega arith)
    ∙ ap (λ (l : List ℕ). get_or s i 0 ∷ l) (drop-cons s (suc i) 0 (omega arith))
    ∙ ap (λ (k : ℕ). get_or s i 0 ∷ get_or s k 0 ∷ drop (suc k) s) (sym (add-one i))
    ∙ ap (λ (k : ℕ). get_or s i 0 ∷ get_or s (i + 1) 0 ∷ drop k s) e

-- two are left
pub names_more : (s : List ℕ) (i : ℕ) → 2 ≤ length s - i
    → names_text (drop i s) ≡ (44 ∷ decimal (word_at s i)) ++ names_text (drop (i + 2) s)
names_more s i h = ap names_text (two_cells s i h)

-- the loop's turn, and its end
pub names_turn : {old out text : List ℕ} {at o : ℕ} (s : List ℕ) (i w : ℕ) → 2 ≤ length s - i → w ≡ word_at s i
    → Left old at text o out (names_text (drop i s))
    → Left old at text o out ((44 ∷ decimal w) ++ names_text (drop (i + 2) s))
names_turn s i w h e l = rw e (rw (names_more s i h) at l)

pub names_done : {old out text : List ℕ} {at o : ℕ} (s : List ℕ) (i : ℕ) → length s - i < 2
    → Left old at text o out (names_text (drop i s)) → Put old at text o out
names_done s i h l = done (rw (names_end s i h) at l)

-- six characters at most for two bytes
pub names_bound : (s : List ℕ) → ((i : ℕ) → get_or s i 0 < 256) → length (names_text s) ≤ 3 * length s
names_bound [] h = omega arith
names_bound (a ∷ []) h = omega arith
names_bound (a ∷ b ∷ t) h =
    omega
    (arith, length-append (decimal (a + 256 * b)) (names_text t), decimal_short 5 (a + 256 * b) (omega (arith, h 0, h 1)) (omega arith), names_bound t (λ i. h (suc (suc i))))

-- the words of a text of bytes are its chunks of two
chunk_is : (k : ℕ) (s : List ℕ) (i : ℕ) → i < k → get_or (first_chunks 2 k s) i [] ≡ take 2 (drop (2 * i) s)
chunk_is zero s i h = let z : ⊥ = omega arith in absurd z
chunk_is (suc k) s zero h = refl
chunk_is (suc k) s (suc i) h =
    let e : 2 + 2 * i ≡ 2 * suc i = omega arith in
    chunk_is k (drop 2 s) i (omega arith) ∙ ap (take 2) (drop-drop (2 * i) 2 s) ∙ ap (λ (n : ℕ). take 2 (drop n s)) e

pub word_is : (chunks : List (List ℕ)) (s : List ℕ) (i w : ℕ) → chunks ≡ first_chunks 2 (length s / 2) s
    → i < length s / 2 → w ≡ from_le_bytes w16 (get_or chunks i []) → w ≡ word_at s (2 * i)
word_is chunks s i w e h f =
    let cells : get_or chunks i [] ≡ get_or s (2 * i) 0 ∷ get_or s (2 * i + 1) 0 ∷ [] =
    ap (λ (l : List (List ℕ)). get_or l i []) e ∙ chunk_is (length s / 2) s i h
    ∙ ap (take 2) (two_cells s (2 * i) (omega arith)) in
    f ∙ ap (from_le_bytes w16) cells ∙ omega arith
