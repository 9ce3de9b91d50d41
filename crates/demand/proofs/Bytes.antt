-- The bytes of the rows, and their depths; a patch of the bytes is a patch of the rows.
-- Assumes nothing.
use Rattle.std.specs.Prelude.{Some, None, Option}
use mathlib.Core.Path.{◌≡◌, refl, sym, ap, ◌∙◌}
use mathlib.Core.Bool.{Bool, true, false, cond}
use mathlib.Core.Logic.{◌⊎◌, inl, inr}
use mathlib.Core.List.Memᴰ.{head as mhead}
use mathlib.Core.List.{List, [], ◌∷◌, ◌++◌, map, append_assoc, Memᴰ as Mem}
use mathlib.Core.List.Memᴰ
use mathlib.Core.List.Memᴰ.{tail as mtail}
use Prim.Native.Nat.{ℕ, ◌+◌, ◌-◌, ◌/◌, ◌%◌, ◌≤◌, ◌<◌}
use native.Mathlib.Omega.{arith}
use lib.Dec.{eqb}
use lib.ListN.{length, set, length-append}
use borrow.Author.Tests.{eqb-true, eq-eqb, ne_eqb}
use Rattle.base.proofs.Bools.{clash}
use Rattle.base.proofs.Lists.{set_skip}
use Rattle.builder.specs.Marks.{near, bits}
use Rattle.demand.specs.Isa.{Isa}
use Rattle.demand.specs.History.{waits, to, What, one, leap, Row, size, settled_aim, resolve, at_end, depth_at}
use Rattle.demand.proofs.Laws.{Laws}
use Rattle.demand.proofs.Book.{Chain}

module _ (I : Isa) where
  -- the bytes of one row; a jump that waits has zeros
  abbrev pub bytes_at : ℕ → What I → List ℕ
  bytes_at o (one p) = I.bytes p
  bytes_at o (leap j (waits l)) = I.opcode j ∷ 0 ∷ 0 ∷ []
  bytes_at o (leap j (to t)) = I.opcode j ∷ bits o t % 256 ∷ bits o t / 256 ∷ []

  abbrev pub bytes_of : List (Row I) → List ℕ
  bytes_of [] = []
  bytes_of (r ∷ rs) = bytes_at r.offset r.what ++ bytes_of rs

  pub length_bytes : (o : ℕ) (w : What I) → length (bytes_at o w) ≡ size I w
  length_bytes o (one p) = refl
  length_bytes o (leap j (waits l)) = refl
  length_bytes o (leap j (to t)) = refl

  pub bytes_append : (xs ys : List (Row I)) → bytes_of (xs ++ ys) ≡ bytes_of xs ++ bytes_of ys
  bytes_append [] ys = refl
  bytes_append (x ∷ xs) ys =
      rw (bytes_append xs ys) (sym (append_assoc (bytes_at x.offset x.what) (bytes_of xs) (bytes_of ys)))

  pub bytes_length : (o n : ℕ) (rs : List (Row I)) → Chain I o rs n → o + length (bytes_of rs) ≡ n
  bytes_length o n [] h = omega arith
  bytes_length o n (r ∷ rs) h =
      omega (arith, length-append (bytes_at r.offset r.what) (bytes_of rs), length_bytes r.offset r.what, bytes_length (o + size I r.what) n rs h.1)

-- offsets and depths

module _ (I : Isa) (L : Laws I) where
  pub size_some : (w : What I) → 0 < size I w
  size_some (one p) = L.some_byte p
  size_some (leap j g) = omega arith

  pub chain_le : (o n : ℕ) (rs : List (Row I)) → Chain I o rs n → o + length rs ≤ n
  chain_le o n [] h = omega arith
  chain_le o n (r ∷ rs) h = omega (arith, chain_le (o + size I r.what) n rs h.1, size_some r.what)

  -- the rows' offsets rise from o to n
  pub chain_in : (o n : ℕ) (rs : List (Row I)) (r : Row I) → Chain I o rs n → Mem r rs
      → (o ≤ r.offset) × (r.offset < n)
  chain_in o n [] r h m = elim m [ ]
  chain_in o n (x ∷ rs) r h (mhead e) =
      let q : r.offset ≡ o = ap (λ (y : Row I). y.offset) e ∙ h.0 in
      omega (arith, chain_le (o + size I x.what) n rs h.1, size_some x.what)
  chain_in o n (x ∷ rs) r h (mtail m) = omega (arith, chain_in (o + size I x.what) n rs r h.1 m, size_some x.what)

  -- the depth at an offset is what the rows and the end say, and all that they say
  pub depth_sound : (rs : List (Row I)) (n : ℕ) (c : Option ℕ) (o d : ℕ) → depth_at I rs n c o ≡ Some d
      → ((r : Row I) × Mem r rs × (r.offset ≡ o) × (r.depth ≡ d)) ⊎ ((n ≡ o) × (c ≡ Some d))
  depth_sound [] n c o d h = go (eqb n o) refl c h
    where
      go : (x : Bool) → eqb n o ≡ x → (c : Option ℕ) → cond x (at_end c) None ≡ Some d
          → ((r : Row I) × Mem r [] × (r.offset ≡ o) × (r.depth ≡ d)) ⊎ ((n ≡ o) × (c ≡ Some d))
      go false e c h = clash cc
      go true e None h = clash cc
      go true e (Some x) h = inr (eqb-true n o e, cc)
  depth_sound (x ∷ rs) n c o d h =
      go (eqb x.offset o) refl h (λ (k : depth_at I rs n c o ≡ Some d). depth_sound rs n c o d k)
    where
      up : ((r : Row I) × Mem r rs × (r.offset ≡ o) × (r.depth ≡ d)) ⊎ ((n ≡ o) × (c ≡ Some d))
          → ((r : Row I) × Mem r (x ∷ rs) × (r.offset ≡ o) × (r.depth ≡ d)) ⊎ ((n ≡ o) × (c ≡ Some d))
      up (inl t) = inl (t.0, mtail t.1, t.2, t.3)
      up (inr t) = inr t

      go : (y : Bool) → eqb x.offset o ≡ y → cond y (Some x.depth) (depth_at I rs n c o) ≡ Some d
          → (depth_at I rs n c o ≡ Some d → ((r : Row I) × Mem r rs × (r.offset ≡ o) × (r.depth ≡ d)) ⊎
          ((n ≡ o) × (c ≡ Some d)))
          → ((r : Row I) × Mem r (x ∷ rs) × (r.offset ≡ o) × (r.depth ≡ d)) ⊎ ((n ≡ o) × (c ≡ Some d))
      go true e h k = inl (x, mhead refl, eqb-true x.offset o e, cc)
      go false e h k = up (k h)

  pub depth_row : (s : ℕ) (rs : List (Row I)) (n : ℕ) (c : Option ℕ) (r : Row I) → Chain I s rs n → Mem r rs
      → depth_at I rs n c r.offset ≡ Some r.depth
  depth_row s [] n c r h m = elim m [ ]
  depth_row s (x ∷ rs) n c r h (mhead e) = rw (e, eq-eqb x.offset x.offset refl)
  depth_row s (x ∷ rs) n c r h (mtail m) =
      let q = chain_in (s + size I x.what) n rs r h.1 m in
      let p = size_some x.what in
      let q0 = q.0 in
      let h0 = h.0 in
      rw (ne_eqb x.offset r.offset (λ e. omega arith)) (depth_row (s + size I x.what) rs n c r h.1 m)

  pub depth_tip : (s : ℕ) (rs : List (Row I)) (n : ℕ) (d : ℕ) → Chain I s rs n → depth_at I rs n (Some d) n ≡ Some d
  depth_tip s [] n d h = rw (eq-eqb n n refl)
  depth_tip s (x ∷ rs) n d h =
      let q = chain_in s n (x ∷ rs) x h (mhead refl) in
      let q1 = q.1 in
      rw (ne_eqb x.offset n (λ e. omega arith)) (depth_tip (s + size I x.what) rs n d h.1)

  -- a row that can be read back
  abbrev pub Closed : ℕ → What I → Type 0
  Closed o (one p) = L.valid p
  Closed o (leap j (waits l)) = ⊥
  Closed o (leap j (to t)) = L.jumps j × (near o t ≡ true)

-- a patch of the bytes

abbrev patch2 : List ℕ → ℕ → ℕ → List ℕ
patch2 l x w = set (set l (x + 1) (w % 256)) (x + 2) (w / 256)

patch_skip : (a l : List ℕ) (x w : ℕ) → patch2 (a ++ l) (length a + x) w ≡ a ++ patch2 l x w
patch_skip a l x w =
    let p : length a + x + 1 ≡ length a + (x + 1) = omega arith in
    let q : length a + x + 2 ≡ length a + (x + 2) = omega arith in
    rw (p, q, set_skip a l (x + 1) (w % 256), set_skip a (set l (x + 1) (w % 256)) (x + 2) (w / 256))

module _ (I : Isa) (L : Laws I) (k t : ℕ) where
  aim_cases : (w : What I) → (settled_aim I k t w ≡ w) ⊎ ((j : I.Jump) × (w ≡ leap j (waits k)))
  aim_cases (one p) = inl refl
  aim_cases (leap j (to u)) = inl refl
  aim_cases (leap j (waits l)) = go (eqb l k) refl
    where
      go : (y : Bool) → eqb l k ≡ y → (◌≡◌ {A = What I} (leap j (cond y (to t) (waits l))) (leap j (waits l))) ⊎
          ((i : I.Jump) × (◌≡◌ {A = What I} (leap j (waits l)) (leap i (waits k))))
      go true e = let q = eqb-true l k e in inr (j, rw q)
      go false e = inl refl

  resolve_none : (rs : List (Row I)) → ((r : Row I) (j : I.Jump) → Mem r rs → r.what ≡ leap j (waits k) → ⊥)
      → map (resolve I k t) rs ≡ rs
  resolve_none [] n = refl
  resolve_none (r ∷ rs) n = go (aim_cases r.what) (resolve_none rs (λ q j m e. n q j (mtail m) e))
    where
      go : (settled_aim I k t r.what ≡ r.what) ⊎ ((j : I.Jump) × (r.what ≡ leap j (waits k)))
          → map (resolve I k t) rs ≡ rs → map (resolve I k t) (r ∷ rs) ≡ r ∷ rs
      go (inl e) ih = rw (e, ih)
      go (inr (j, e)) ih = absurd (n r j (mhead refl) e)

  module _ (o : ℕ) where
    -- the label's jump stands at o, and nowhere else
    abbrev pub Sits : List (Row I) → Type 0
    Sits rs = (r : Row I) (j : I.Jump) → Mem r rs → r.what ≡ leap j (waits k) → r.offset ≡ o

    abbrev pub Has : List (Row I) → Type 0
    Has rs = (r : Row I) × (j : I.Jump) × Mem r rs × (r.what ≡ leap j (waits k))

    head_aimed : (s n : ℕ) (r : Row I) (rs : List (Row I)) (x : ℕ) (j : I.Jump) → Chain I s (r ∷ rs) n → Sits (r ∷ rs)
        → s + x ≡ o → r.what ≡ leap j (waits k)
        → patch2 (bytes_of I (r ∷ rs)) x (bits o t) ≡ bytes_of I (map (resolve I k t) (r ∷ rs))
    head_aimed s n r rs x j h st e w =
        let f = st r j (mhead refl) w in
        let h0 = h.0 in
        let z : x ≡ 0 = omega arith in
        let None : map (resolve I k t) rs ≡ rs = resolve_none rs (λ q i m v.
        let c = chain_in I L (s + size I r.what) n rs q h.1 m in let c0 = c.0 in
        let y = st q i (mtail m) v in omega (arith, size_some I L r.what)) in
        rw (z, None, w, eq-eqb k k refl, f)

    tail_aimed : (s n : ℕ) (r : Row I) (rs : List (Row I)) (x : ℕ) → Chain I s (r ∷ rs) n → Sits (r ∷ rs) → s + x ≡ o
        → (q : Row I) (j : I.Jump) → Mem q rs → q.what ≡ leap j (waits k)
        → (y : ℕ) × (x ≡ length (bytes_at I r.offset r.what) + y) × (s + size I r.what + y ≡ o)
    tail_aimed s n r rs x h st e q j m w =
        let c = chain_in I L (s + size I r.what) n rs q h.1 m in
        let c0 = c.0 in
        let y = st q j (mtail m) w in
        (x - size I r.what, omega (arith, length_bytes I r.offset r.what), omega arith)

    pub patch_bytes : (s n : ℕ) (rs : List (Row I)) (x : ℕ) → Chain I s rs n → Sits rs → s + x ≡ o → Has rs
        → patch2 (bytes_of I rs) x (bits o t) ≡ bytes_of I (map (resolve I k t) rs)
    patch_bytes s n [] x h st e u = absurd (Memᴰ.not-nil u.2)
    patch_bytes s n (r ∷ rs) x h st e (q, j, mhead f, w) =
        head_aimed s n r rs x j h st e (sym (ap (λ (z : Row I). z.what) f) ∙ w)
    patch_bytes s n (r ∷ rs) x h st e (q, j, mtail m, w) =
        let z = tail_aimed s n r rs x h st e q j m w in
        go z (patch_bytes (s + size I r.what) n rs z.0 h.1 (λ p i l v. st p i (mtail l) v) z.2 (q, j, m, w)) (aim_cases r.what)
      where
        go : (z : (y : ℕ) × (x ≡ length (bytes_at I r.offset r.what) + y) × (s + size I r.what + y ≡ o))
            → patch2 (bytes_of I rs) z.0 (bits o t) ≡ bytes_of I (map (resolve I k t) rs)
            → (settled_aim I k t r.what ≡ r.what) ⊎ ((j : I.Jump) × (r.what ≡ leap j (waits k)))
            → patch2 (bytes_of I (r ∷ rs)) x (bits o t) ≡ bytes_of I (map (resolve I k t) (r ∷ rs))
        go z ih (inl a) = rw (z.1, patch_skip (bytes_at I r.offset r.what) (bytes_of I rs) z.0 (bits o t), ih, a)
        go z ih (inr (i, v)) = head_aimed s n r rs x i h st e v
