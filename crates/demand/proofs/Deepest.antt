-- The greatest depth that rows and their end show is that of their depths.
-- Assumes nothing.
use Rattle.std.specs.Prelude.{Some, None, Option}
use mathlib.Core.Path.{◌≡◌, refl, ap, ◌∙◌}
use mathlib.Core.Bool.{Bool, true, false, cond}
use mathlib.Core.Logic.{◌⊎◌, ⊎_elim, inl, inr}
use mathlib.Core.List.Memᴰ.{head as mhead}
use mathlib.Core.List.Memᴰ.{tail as mtail}
use mathlib.Core.List.{List, [], ◌∷◌, Memᴰ as Mem}
use Prim.Native.Nat.{ℕ, ◌≤◌, max}
use native.Mathlib.Decide.{dec_le}
use native.Mathlib.Omega.{arith}
use lib.Dec.{eqb}
use Rattle.checker.specs.Promise.{Greatest}
use Rattle.demand.specs.Machine.{isa}
use Rattle.demand.specs.History.{Row, depth_at}
use Rattle.demand.specs.Demand.{deepest_seen}
use Rattle.demand.proofs.Book.{Chain}
use Rattle.demand.proofs.Bytes.{depth_sound, depth_row, depth_tip}
use Rattle.demand.proofs.Machining.{laws}

-- no row, and no live end, is deeper

row_under : (rs : List (Row isa)) (here : Option ℕ) (r : Row isa) → Mem r rs → r.depth ≤ deepest_seen rs here
row_under [] here r m = elim m [ ]
row_under (x ∷ rs) here r (mhead e) =
    let z : r.depth ≡ x.depth = ap (λ (y : Row isa). y.depth) e in
    omega arith
row_under (x ∷ rs) here r (mtail m) = let h = row_under rs here r m in omega arith

end_under : (rs : List (Row isa)) (d : ℕ) → d ≤ deepest_seen rs (Some d)
end_under [] d = omega arith
end_under (x ∷ rs) d = let h = end_under rs d in omega arith

-- a row has it, or the live end; or there is neither

abbrev Shows : List (Row isa) → Option ℕ → ℕ → Type 0
Shows rs here g =
    ((r : Row isa) × Mem r rs × (r.depth ≡ g)) ⊎ ((here ≡ Some g) ⊎ ((rs ≡ []) × (here ≡ None) × (g ≡ 0)))

shown : (rs : List (Row isa)) (here : Option ℕ) → Shows rs here (deepest_seen rs here)
shown [] None = inr (inr (refl, refl, refl))
shown [] (Some d) = inr (inl refl)
shown (x ∷ rs) here = elim (dec_le (deepest_seen rs here) x.depth) [
  | yes l ↦ inl (x, mhead refl, omega arith)
  | no l ↦ (let z : max x.depth (deepest_seen rs here) ≡ deepest_seen rs here = omega arith in
      rw z (⊎_elim (λ t. inl (t.0, mtail t.1, t.2))
      (⊎_elim (λ e. inr (inl e)) (λ t. absurd (omega (arith, t.2)))) (shown rs here)))
]

nowhere : (n o : ℕ) → depth_at isa [] n None o ≡ None
nowhere n o = go (eqb n o)
  where
    go : (b : Bool) → cond {A = Option ℕ} b None None ≡ None
    go true = refl
    go false = refl

pub greatest_seen : (rs : List (Row isa)) (n : ℕ) (here : Option ℕ) → Chain isa 0 rs n
    → Greatest (λ o. depth_at isa rs n here o) (deepest_seen rs here)
greatest_seen rs n here chain = record {
  most = λ o d e. ⊎_elim
      (λ t. (let h = row_under rs here t.0 t.1 in omega (arith, t.3)))
      (λ t. rw t.1 (end_under rs d)) (depth_sound isa laws rs n here o d e);
  assigned = ⊎_elim
      (λ t. inl (t.0.offset, depth_row isa laws 0 rs n here t.0 chain t.1 ∙ ap Some t.2))
      (⊎_elim
      (λ e. inl (n, tip (deepest_seen rs here) e))
      (λ t. inr (t.2, rw (t.0, t.1) (nowhere n)))) (shown rs here);
}
  where
    tip : (g : ℕ) → here ≡ Some g → depth_at isa rs n here n ≡ Some g
    tip g e = rw e (depth_tip isa laws 0 rs n g chain)
