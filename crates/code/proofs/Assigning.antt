-- Laws of assignments: a derived depth is in each of them, one whose depths are all derived is the smallest, and
-- there is one smallest.
-- Assumes nothing.
use Rattle.op.specs.declared.Effect.{Effect}
use Rattle.op.specs.declared.Refusal.{Refusal}
use Rattle.std.specs.Prelude.{Ok, Err, Result, None, Option, Some}
use mathlib.Core.Path.{◌≡◌, refl, sym, ap, subst, ◌∙◌}
use mathlib.Core.Bool.{Bool, true, false, cond}
use mathlib.Core.List.{List}
use Prim.Native.Nat.{ℕ, ◌+◌, ◌-◌, ◌≤◌}
use native.Mathlib.Omega.{arith}
use lib.Dec.{leb}
use borrow.Author.Tests.{le-leb, leb-true}
use Rattle.base.proofs.Bools.{clash}
use Rattle.op.specs.Depths.{deepest, landing}
use Rattle.code.specs.declared.Flow.{Flow}
use Rattle.code.specs.declared.Goal.TheVariants.{Nowhere, To, Outside}
use Rattle.code.specs.Depths.{Stands, Leads, Assigns, Smallest, Impossible, Derived, start, fall, jump}

-- a change's lead, in numbers

chosen : (b : Bool) (x e : ℕ) (y : Result ℕ Refusal) → cond b (Ok x) y ≡ Ok e → (y ≡ Ok e → ⊥)
    → (b ≡ true) × (x ≡ e)
chosen true x e y h n = (refl, cc)
chosen false x e y h n = absurd (n h)

under : (b : Bool) (x y : Result ℕ Refusal) (e : ℕ) → cond b x y ≡ Ok e → (y ≡ Ok e → ⊥) → (b ≡ true) × (x ≡ Ok e)
under true x y e h n = (refl, h)
under false x y e h n = absurd (n h)

no_depth_lem : {r : Refusal} {e : ℕ} → Err r ≡ Ok e → ⊥
no_depth_lem {r} {e} h = clash cc

pub leads_is : (d : ℕ) (c : Effect) (e : ℕ) → Leads d c e → (e + c.down ≡ d + c.up) × (e ≤ 65535)
unfolding landing
leads_is d c e h =
    let p = under (leb c.down (d + c.up)) _ _ e h no_depth_lem in
    let q = chosen (leb (d + c.up - c.down) deepest) _ e _ p.1 no_depth_lem in
    let l = leb-true c.down (d + c.up) p.0 in
    let m = leb-true (d + c.up - c.down) deepest q.0 in
    (omega (arith, q.1), omega (arith, q.1))

pub leads : (d : ℕ) (c : Effect) (e : ℕ) → e + c.down ≡ d + c.up → e ≤ 65535 → Leads d c e
unfolding landing
leads d c e h l =
    let z : d + c.up - c.down ≡ e = omega arith in
    rw (le-leb c.down (d + c.up) (omega arith), z, le-leb e 65535 l)

pub leads_one : (d : ℕ) (c : Effect) (e g : ℕ) → Leads d c e → Leads d c g → e ≡ g
leads_one d c e g h k = cc

-- derived depths

module _ {last : ℕ} {s st : List ℕ} {a : ℕ → Option ℕ} (A : Assigns last s st a) where
  pub derived_in : {o d : ℕ} → Derived last s st o d → a o ≡ Some d
  derived_in (start {o = o} {d = d} b) = A.starts o d b
  derived_in (fall {o = o} {d = d} {q = q} {e = e} {f = f} D h fl l w) =
      let K = (A.kept o d f (derived_in D) h).falls in
      let z : K.depth ≡ e = leads_one d f.net _ _ K.leads l in
      subst (λ (x : ℕ). a x ≡ Some e) w (K.has fl ∙ ap Some z)
  derived_in (jump {o = o} {d = d} {q = q} {e = e} {f = f} D h g l) =
      let K = (A.kept o d f (derived_in D) h).jumps (λ n. no_way n g) in
      let z : K.depth ≡ e = leads_one d f.taken _ _ K.leads l in
      let y : K.target ≡ q = same_target K.goes g in
      subst (λ (x : ℕ). a x ≡ Some e) y (K.has ∙ ap Some z)
    where
      no_way : f.goal ≡ Nowhere → f.goal ≡ To q → ⊥
      no_way n m = clash cc

      same_target : {t : ℕ} → f.goal ≡ To t → f.goal ≡ To q → t ≡ q
      same_target {t} n m = cc

-- derived and closed: the smallest
pub smallest : {last : ℕ} {s st : List ℕ} {a : ℕ → Option ℕ} → Assigns last s st a
    → ((o d : ℕ) → a o ≡ Some d → Derived last s st o d) → Smallest last s st a
smallest A D = record { assigns = A; least = λ b B o d e. derived_in B (D o d e) }

-- two smallest assignments agree
agree : (x y : Option ℕ) → ((d : ℕ) → x ≡ Some d → y ≡ Some d) → ((d : ℕ) → y ≡ Some d → x ≡ Some d) → x ≡ y
agree (Some d) y to from = sym (to d refl)
agree None (Some d) to from = from d refl
agree None None to from = refl

pub smallest_agree : {last : ℕ} {s st : List ℕ} {a b : ℕ → Option ℕ} → Smallest last s st a → Smallest last s st b
    → (o : ℕ) → a o ≡ b o
smallest_agree {a} {b} A B o = agree (a o) (b o) (A.least b B.assigns o) (B.least a A.assigns o)

-- why no assignment exists

module _ {last : ℕ} {s st : List ℕ} {o d : ℕ} (D : Derived last s st o d) where
  -- two derived depths at one place
  pub clash_depths : {e : ℕ} → Derived last s st o e → (d ≡ e → ⊥) → Impossible last s st
  clash_depths {e} E n a A = n (some_one (derived_in A D) (derived_in A E))
    where
      some_one : a o ≡ Some d → a o ≡ Some e → d ≡ e
      some_one p q = cc

  module _ {f : Flow} (h : Stands last s o f) where
    -- a fall-through depth out of range
    pub clash_net : ((e : ℕ) → Leads d f.net e → ⊥) → Impossible last s st
    clash_net n a A = let K = (A.kept o d f (derived_in A D) h).falls in n K.depth K.leads

    -- a jump out of the code
    pub clash_outside : f.goal ≡ Outside → Impossible last s st
    clash_outside g a A = let K = (A.kept o d f (derived_in A D) h).jumps no_way in out K.goes
      where
        no_way : f.goal ≡ Nowhere → ⊥
        no_way n = clash cc

        out : {t : ℕ} → f.goal ≡ To t → ⊥
        out {t} m = clash cc

    -- a taken depth out of range
    pub clash_taken : {t : ℕ} → f.goal ≡ To t → ((e : ℕ) → Leads d f.taken e → ⊥) → Impossible last s st
    clash_taken {t} g n a A = let K = (A.kept o d f (derived_in A D) h).jumps no_way in n K.depth K.leads
      where
        no_way : f.goal ≡ Nowhere → ⊥
        no_way m = clash cc
