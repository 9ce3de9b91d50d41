-- The bytes of a table tell its names and shapes, and those tell the bytes.
-- Assumes nothing.
use Rattle.std.proofs.Common.{◌≡◌, ℕ, suc, true, false, eqb, List, [], ◌∷◌, ◌++◌, map, sym, refl, ap₂, eq-eqb}
use mathlib.Core.List.{head-eq_of_cons-eq, tail-eq_of_cons-eq}
use Rattle.base.specs.Tests.{is_in}
use Rattle.base.proofs.Bools.{clash, not_both, not_true, and_true, or_false}
use Rattle.op.specs.Names.{name_in}
use Rattle.op.specs.Opcodes.{Row, table}
use Rattle.op.specs.Shapes.{shape_in, shape_number}
use Rattle.op.specs.declared.Shape.{Shape}
use Rattle.op.proofs.Shaping.{same_shape}
use Rattle.fingerprint.specs.Table.{bytes_by, bytes_from, table_bytes}
use Rattle.fingerprint.specs.Statements.{name_and_shape, zeroless, BytesTell}

no_zero : (x : ℕ) (xs : List ℕ) → is_in 0 (x ∷ xs) ≡ false → (0 ≡ x → ⊥) × (is_in 0 xs ≡ false)
no_zero x xs f = let both = or_false (eqb 0 x) (is_in 0 xs) f in (λ e. not_both (eq-eqb 0 x e) both.0, both.1)

-- a name ends before the first zero byte, and the shape stands behind that
name_ends : (xs ys : List ℕ) (a b : ℕ) (t u : List ℕ) → is_in 0 xs ≡ false → is_in 0 ys ≡ false
    → (xs ++ (0 ∷ a ∷ [])) ++ t ≡ (ys ++ (0 ∷ b ∷ [])) ++ u → (xs ≡ ys) × (a ≡ b) × (t ≡ u)
name_ends [] [] a b t u f g e =
    let behind = tail-eq_of_cons-eq e in (refl, head-eq_of_cons-eq behind, tail-eq_of_cons-eq behind)
name_ends [] (y ∷ ys) a b t u f g e = absurd ((no_zero y ys g).0 (head-eq_of_cons-eq e))
name_ends (x ∷ xs) [] a b t u f g e = absurd ((no_zero x xs f).0 (sym (head-eq_of_cons-eq e)))
name_ends (x ∷ xs) (y ∷ ys) a b t u f g e =
    let rest = name_ends xs ys a b t u (no_zero x xs f).1 (no_zero y ys g).1 (tail-eq_of_cons-eq e) in
    (ap₂ ◌∷◌ (head-eq_of_cons-eq e) rest.0, rest.1, rest.2)

told : (k : ℕ) (t u : List Row) → zeroless t ≡ true → zeroless u ≡ true → bytes_from k t ≡ bytes_from k u
    → map name_and_shape t ≡ map name_and_shape u
told k [] [] f g e = refl
told k [] (r ∷ u) f g e = clash cc
told k (q ∷ t) [] f g e = clash cc
told k (q ∷ t) (r ∷ u) f g e =
    let f' = and_true _ _ f in
    let g' = and_true _ _ g in
    let row = name_ends (name_in q) (name_in r) (shape_number (shape_in q)) (shape_number (shape_in r)) (bytes_from (suc k) t)
    (bytes_from (suc k) u) (not_true _ f'.0) (not_true _ g'.0) (tail-eq_of_cons-eq e) in
    let shape = same_shape (shape_in q) (shape_in r) row.1 in
    ap₂ ◌∷◌ (λ i. (row.0 i, shape i)) (told (suc k) t u f'.1 g'.1 row.2)

same_bytes : (k : ℕ) (t u : List Row) → map name_and_shape t ≡ map name_and_shape u → bytes_from k t ≡ bytes_from k u
same_bytes k [] [] e = refl
same_bytes k [] (r ∷ u) e = clash cc
same_bytes k (q ∷ t) [] e = clash cc
same_bytes k (q ∷ t) (r ∷ u) e =
    ap₂ (λ (row : List ℕ × Shape) (rest : List ℕ). bytes_by k row.0 (shape_number row.1) ++ rest)
    (head-eq_of_cons-eq e) (same_bytes (suc k) t u (tail-eq_of_cons-eq e))

pub bytes_tell : BytesTell
unfolding table_bytes table
bytes_tell = record { exactly = λ t u f g. (told 0 t u f g, same_bytes 0 t u); ours = refl }
