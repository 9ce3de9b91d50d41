-- The numbers of a column, read one behind the other into cells, and columns that no shape has.
-- Assumes nothing.
use Rattle.readback.specs.declared.numbers.Small.TheVariants as Z
use Rattle.std.specs.Prelude.{Some, None, Option}
use mathlib.Core.Path.{◌≡◌, refl, sym, ap, ◌∙◌, subst}
use mathlib.Core.Bool.{Bool, true, false, cond}
use mathlib.Core.List.{List, [], ◌∷◌, ◌++◌, append-nil}
use Prim.Native.Nat.{ℕ, ◌+◌, ◌≤◌, ◌<◌}
use native.Mathlib.Decide.{dec_lt}
use native.Mathlib.Numerals.{add-one}
use native.Mathlib.Omega.{arith}
use lib.Dec.{ltb}
use lib.IntN.{ℤ, pos, negsuc}
use lib.ListN.{length, take, drop, set, length-append, length-drop, length-set, drop_of_length-le}
use lib.Seq.{append_snoc, drop-cons, drop-drop, take-suc-set, length-take-le, take_all}
use lib.Signed.{mag}
use borrow.Author.Tests.{lt-ltb}
use Rattle.base.proofs.Bools.{clash}
use Rattle.op.specs.declared.Shape.{Shape}
use Rattle.text.specs.Parts.{split}
use Rattle.text.specs.Reading.{same, read_whole, both, read_all, read_operands}
use Rattle.text.specs.Row.{wholes, dash}
use Rattle.readback.specs.Operands.{and_then, operand_for}
use Rattle.readback.specs.Inner.{numbers_of, cut_at, whole, sign_first, small_of, Cells, before, behind_comma, Column, Begun}
use Rattle.readback.specs.Inner.{Spells}
use Rattle.readback.proofs.Cutting.{split_cut, split_whole, cut_within}
use Rattle.readback.proofs.Saying.{nothing}
use Rattle.readback.proofs.Speaking.{length_signs}
use Rattle.readback.proofs.Sayable.{AllPlain, FirstNear, Sayable, unsaid}

-- what is read of parts

-- a column of which some part is a number that no shape has in its place, or none
module _ (c : List ℕ) (numbers : same c dash ≡ false) where
  unread : (pre : List ℤ) (r : Option (List ℤ)) → read_all (split 44 c) ≡ before pre r
      → ((zs : List ℤ) → r ≡ Some zs → Sayable (pre ++ zs) → ⊥)
      → (s : Shape) → and_then (read_operands c) (operand_for s) ≡ None
  unfolding and_then
  unread pre None e n s = rw (numbers, e)
  unread pre (Some zs) e n s = rw (numbers, e) (unsaid (pre ++ zs) (n zs refl) s)

-- the first part is read as no number in its place
both_some : (z : Option ℤ) (r : Option (List ℤ)) (zs : List ℤ) → both z r ≡ Some zs
    → (y : ℤ) × (ys : List ℤ) × (z ≡ Some y) × (r ≡ Some ys) × (zs ≡ y ∷ ys)
both_some None r zs e = absurd (nothing e)
both_some (Some z) None zs e = absurd (nothing e)
both_some (Some z) (Some ys) zs e = (z, ys, refl, refl, cc)

plain_at_lem : (l : List ℤ) (z : ℤ) (ys : List ℤ) → AllPlain (l ++ (z ∷ ys)) → AllPlain (z ∷ [])
plain_at_lem [] (pos n) ys p = (p.0, tt)
plain_at_lem [] (negsuc n) ys p = p
plain_at_lem (pos m ∷ l) z ys p = plain_at_lem l z ys p.1
plain_at_lem (negsuc m ∷ l) z ys p = absurd p

-- a number that is no `Plus` is not plain, and one that is none of the two is not near
not_plain : (z : ℤ) → ((w : ℕ) → small_of (Some z) ≡ Some (Z.Plus w) → ⊥) → AllPlain (z ∷ []) → ⊥
unfolding small_of
not_plain (pos n) h p = h n (rw (lt-ltb n 65536 p.0))
not_plain (negsuc n) h p = p

not_near : (z : ℤ) → small_of (Some z) ≡ None → mag z < 65536 → ⊥
unfolding small_of
not_near (pos n) e h = let q : Some (Z.Plus n) ≡ None = rw (lt-ltb n 65536 h) at e in clash cc
not_near (negsuc n) e h = let q : Some (Z.Minus n) ≡ None = rw (lt-ltb n 65536 h) at e in clash cc

pub small_plus : (z : Option ℤ) (w : ℕ) → small_of z ≡ Some (Z.Plus w) → z ≡ Some (pos w)
unfolding small_of
small_plus None w e = clash cc
small_plus (Some (pos n)) w e = by (ltb n 65536) e
  where
    by : (b : Bool) → cond b (Some (Z.Plus n)) None ≡ Some (Z.Plus w) → Some (pos n) ≡ Some (pos w)
    by true e = cc
    by false e = clash cc
small_plus (Some (negsuc n)) w e = by (ltb n 65536) e
  where
    by : (b : Bool) → cond b (Some (Z.Minus n)) None ≡ Some (Z.Plus w) → Some (negsuc n) ≡ Some (pos w)
    by true e = clash cc
    by false e = clash cc

pub small_minus : (z : Option ℤ) (w : ℕ) → small_of z ≡ Some (Z.Minus w) → z ≡ Some (negsuc w)
unfolding small_of
small_minus None w e = clash cc
small_minus (Some (pos n)) w e = by (ltb n 65536) e
  where
    by : (b : Bool) → cond b (Some (Z.Plus n)) None ≡ Some (Z.Minus w) → Some (pos n) ≡ Some (negsuc w)
    by true e = clash cc
    by false e = clash cc
small_minus (Some (negsuc n)) w e = by (ltb n 65536) e
  where
    by : (b : Bool) → cond b (Some (Z.Minus n)) None ≡ Some (Z.Minus w) → Some (negsuc n) ≡ Some (negsuc w)
    by true e = cc
    by false e = clash cc

-- a text in its first part and the parts behind it
pub split_behind : (t : List ℕ) → split 44 t ≡ take (cut_at 44 t) t ∷ behind_comma (drop (cut_at 44 t) t)
split_behind t = by (dec_lt (cut_at 44 t) (length t))
  where
    by : Dec (cut_at 44 t < length t) → split 44 t ≡ take (cut_at 44 t) t ∷ behind_comma (drop (cut_at 44 t) t)
    by (yes h) =
        split_cut 44 t h
        ∙ ap (λ (l : List ℕ). take (cut_at 44 t) t ∷ behind_comma l) (sym (drop-cons t (cut_at 44 t) 0 h))
    by (no h) =
        split_whole 44 t (omega arith)
        ∙ rw (take_all (cut_at 44 t) t (omega arith), drop_of_length-le t {i = cut_at 44 t} (omega arith))

-- behind a comma stand the first part of the rest, and the parts behind that
parts_on : (c : List ℕ) (at : ℕ) → at < length c
    → (let rest = drop (at + 1) c in
    behind_comma (drop at c) ≡ take (cut_at 44 rest) rest ∷ behind_comma (drop (at + 1 + cut_at 44 rest) c))
parts_on c at h =
    let rest = drop (at + 1) c in
    ap behind_comma (drop-cons c at 0 h) ∙ ap (λ (i : ℕ). split 44 (drop i c)) (sym (add-one at)) ∙ split_behind rest
    ∙ ap (λ (l : List ℕ). take (cut_at 44 rest) rest ∷ behind_comma l) (drop-drop (cut_at 44 rest) (at + 1) c)

-- numbers in cells

signs_more : (minus : Bool) (ms : List ℕ) (w : ℕ) → 0 < length ms
    → sign_first minus (ms ++ (w ∷ [])) ≡ sign_first minus ms ++ (pos w ∷ [])
signs_more minus [] w h = absurd (omega arith)
signs_more minus (m ∷ ms) w h = ap (λ (l : List ℤ). whole minus m ∷ l) (wholes_more ms)
  where
    wholes_more : (ns : List ℕ) → wholes (ns ++ (w ∷ [])) ≡ wholes ns ++ (pos w ∷ [])
    wholes_more [] = refl
    wholes_more (n ∷ ns) = ap (λ (l : List ℤ). pos n ∷ l) (wholes_more ns)

before_both : (zs : List ℤ) (z : ℤ) (r : Option (List ℤ)) → before zs (both (Some z) r) ≡ before (zs ++ (z ∷ [])) r
before_both zs z None = refl
before_both zs z (Some ys) = ap Some (sym (append_snoc zs z ys))

-- behind the comma at a place: the text, its first part, and where that ends
abbrev pub rest_at : List ℕ → ℕ → List ℕ
rest_at c at = drop (at + 1) c

abbrev pub part_at : List ℕ → ℕ → List ℕ
part_at c at = take (cut_at 44 (rest_at c at)) (rest_at c at)

abbrev pub end_at : List ℕ → ℕ → ℕ
end_at c at = at + 1 + cut_at 44 (rest_at c at)

-- what is read of the parts behind it
abbrev read_at : List ℕ → ℕ → Option (List ℤ)
read_at c at = both (read_whole (part_at c at)) (read_all (behind_comma (drop (end_at c at) c)))

-- the state of the loop over a column's numbers
module _ (c : List ℕ) (at n : ℕ) (minus : Bool) (cells : List ℕ) (k : Column c at n minus cells) where
  held : length (take n cells) ≡ n
  held = length-take-le n cells (omega (arith, k.few, k.room))

  turn : at < length c
      → read_all (split 44 c)
      ≡ before (sign_first minus (take n cells)) (read_at c at)
  turn h = k.read ∙ ap (λ (ps : List (List ℕ)). before (sign_first minus (take n cells)) (read_all ps)) (parts_on c at h)

  -- at the end
  pub column_ends : length c ≤ at → Spells c (Some (numbers_of n minus)) cells
  column_ends h =
      let zs = sign_first minus (take n cells) in
      (k.few, rw (k.numbers, k.read, drop_of_length-le c {i = at} h, append-nil zs))

  -- one number more
  pub column_on : at < length c → (w : ℕ) → small_of (read_whole (part_at c at)) ≡ Some (Z.Plus w) → n < 258
      → Column c (end_at c at) (n + 1) minus (set cells n w)
  column_on h w e l =
      let z = small_plus (read_whole (part_at c at)) w e in
      let ps = read_all (behind_comma (drop (end_at c at) c)) in
      let zs = sign_first minus (take n cells) in
      let longer = signs_more minus (take n cells) w (omega (arith, held, k.some)) in
      let stored : take (n + 1) (set cells n w) ≡ take n cells ++ (w ∷ []) =
      ap (λ (i : ℕ). take i (set cells n w)) (add-one n) ∙ take-suc-set cells n w (omega (arith, k.room)) in
      record {
        inside = omega (arith, cut_within 44 (rest_at c at), length-drop (at + 1) c);
        some = omega arith;
        few = omega arith;
        room = simp length-set k.room;
        numbers = k.numbers;
        read =
            turn h ∙ ap (λ (y : Option ℤ). before zs (both y ps)) z ∙ before_both zs (pos w) ps
            ∙ ap (λ (l : List ℤ). before l ps) (sym (ap (sign_first minus) stored ∙ longer));
      }

  -- a number that no field behind the first has
  pub column_not : at < length c → ((w : ℕ) → small_of (read_whole (part_at c at)) ≡ Some (Z.Plus w) → ⊥) → Spells c None cells
  column_not h e =
      unread c k.numbers (sign_first minus (take n cells))
      (read_at c at) (turn h) refused
    where
      later : (ms : List ℕ) (z : ℤ) (ys : List ℤ) → 0 < length ms → AllPlain (drop 1 (sign_first minus ms ++ (z ∷ ys)))
          → AllPlain (z ∷ [])
      later [] z ys g p = absurd (omega arith)
      later (m ∷ ms) z ys g p = plain_at_lem (wholes ms) z ys p

      refused : (zs : List ℤ) → read_at c at ≡ Some zs
          → Sayable (sign_first minus (take n cells) ++ zs) → ⊥
      refused zs q y =
          let b = both_some (read_whole (part_at c at)) (read_all (behind_comma (drop (end_at c at) c))) zs q in
          let p = subst (λ (l : List ℤ). AllPlain (drop 1 (sign_first minus (take n cells) ++ l))) b.4 y.plain in
          not_plain b.0 (λ w i. e w (ap small_of b.2 ∙ i))
          (later (take n cells) b.0 b.1 (omega (arith, held, k.some)) p)

  -- more numbers than any operand has
  pub column_full : at < length c → n ≡ 258 → Spells c None cells
  column_full h e =
      unread c k.numbers (sign_first minus (take n cells))
      (read_at c at) (turn h) refused
    where
      refused : (zs : List ℤ) → read_at c at ≡ Some zs
          → Sayable (sign_first minus (take n cells) ++ zs) → ⊥
      refused zs q y =
          let b = both_some (read_whole (part_at c at)) (read_all (behind_comma (drop (end_at c at) c))) zs q in
          omega (
            arith,
            y.size,
            length-append (sign_first minus (take n cells)) zs,
            length_signs minus (take n cells),
            held,
            ap length b.4,
          )

-- what is read of a column that is none of `-`
abbrev read_first : List ℕ → Option (List ℤ)
read_first c = both (read_whole (take (cut_at 44 c) c)) (read_all (behind_comma (drop (cut_at 44 c) c)))

-- the first number
module _ (c : List ℕ) (cells : List ℕ) (room : Cells cells) (numbers : same c dash ≡ false) where
  begins : read_all (split 44 c) ≡ read_first c
  begins = ap read_all (split_behind c)

  column_begun : (minus : Bool) (w : ℕ) → read_whole (take (cut_at 44 c) c) ≡ Some (whole minus w)
      → Column c (cut_at 44 c) 1 minus (set cells 0 w)
  column_begun minus w e =
      let more = read_all (behind_comma (drop (cut_at 44 c) c)) in
      let stored : take 1 (set cells 0 w) ≡ w ∷ [] = first_set cells w (omega (arith, room)) in
      record {
        inside = cut_within 44 c;
        some = omega arith;
        few = omega arith;
        room = simp length-set room;
        numbers = numbers;
        read =
            begins ∙ ap (λ (y : Option ℤ). both y more) e ∙ both_before (whole minus w) more
            ∙ ap (λ (l : List ℕ). before (sign_first minus l) more) (sym stored);
      }
    where
      first_set : (l : List ℕ) (v : ℕ) → 0 < length l → take 1 (set l 0 v) ≡ v ∷ []
      first_set [] v h = absurd (omega arith)
      first_set (x ∷ l) v h = refl

      both_before : (z : ℤ) (r : Option (List ℤ)) → both (Some z) r ≡ before (z ∷ []) r
      both_before z None = refl
      both_before z (Some ys) = refl

  pub column_none : small_of (read_whole (take (cut_at 44 c) c)) ≡ None → Spells c None cells
  column_none e =
      unread c numbers [] (read_first c) (begins ∙ alone _) refused
    where
      alone : (r : Option (List ℤ)) → r ≡ before [] r
      alone None = refl
      alone (Some zs) = refl

      refused : (zs : List ℤ) → read_first c ≡ Some zs
          → Sayable ([] ++ zs) → ⊥
      refused zs q y =
          let b = both_some (read_whole (take (cut_at 44 c) c)) (read_all (behind_comma (drop (cut_at 44 c) c))) zs q in
          not_near b.0 (sym (ap small_of b.2) ∙ e) (subst FirstNear b.4 y.near)

pub column_first : (c : List ℕ) (end : ℕ) (minus : Bool) (w : ℕ) (cells : List ℕ) → Begun c end minus w cells
    → Column c end 1 minus (set cells 0 w)
column_first c end minus w cells b =
    let is = ap (λ (e : ℕ). read_whole (take e c)) (sym b.ends) ∙ b.is in
    subst (λ (e : ℕ). Column c e 1 minus (set cells 0 w)) (sym b.ends)
    (column_begun c cells b.room b.numbers minus w is)
