-- A certificate that antt computes: cells that pass a test are the smallest assignment, and two depths that two paths
-- lead to at one offset leave none. The examples rest on it.
-- Assumes nothing.
use Rattle.code.specs.Flow.{Flowing}
use Rattle.op.specs.declared.Effect.{Effect}
use Rattle.std.specs.Prelude.{Ok, Err, Result, Some, None}
use mathlib.Core.Path.{◌≡◌, refl, sym, ap, subst, ◌∙◌}
use mathlib.Core.Bool.{Bool, true, false, cond, ◌&&◌}
use mathlib.Core.List.{List, ◌++◌}
use Prim.Native.Nat.{ℕ, suc, ◌+◌, ◌*◌, ◌/◌, ◌%◌, ◌≤◌, ◌<◌}
use native.Mathlib.Omega.{arith}
use native.Mathlib.Decide.{dec_lt}
use lib.Dec.{T, eqb, leb, eqb→eq, leb→le}
use lib.ListN.{length, get_or, drop, take, replicate, get_or-eq_default}
use borrow.Author.Tests.{le-leb}
use Rattle.base.proofs.Bools.{and_left, and_right, clash}
use Rattle.op.specs.declared.Refusal.TheVariants.{NoDepths}
use Rattle.base.proofs.Keys.{every_from, in_range}
use Rattle.op.specs.declared.Refusal.{Refusal}
use Rattle.code.specs.declared.Flow.{Flow}
use Rattle.code.specs.declared.Goal.{Goal}
use Rattle.code.specs.declared.Goal.TheVariants.{Nowhere, To, Outside}
use Rattle.code.specs.Flow.{flow_of}
use Rattle.code.specs.Depths.{Stands, Place, Begins, Leads, Falls, Jumps, Kept, Assigns, Derived}
use Rattle.code.proofs.Assigning.{leads_is, smallest, clash_depths}
use Rattle.checker.specs.declared.Assignment.{Assignment}
use Rattle.checker.specs.Cells.{cell, depth_in, held}
use Rattle.checker.specs.Promise.{Listed, Solution, Promise}
use Rattle.checker.specs.Statements.{Same}
use Rattle.checker.specs.Inner.{NoFault, greatest_in}
use Rattle.checker.proofs.Deepest.{greatest_in_lem}
use Rattle.checker.proofs.Holding.{depth_in_lem, in_depth, cell_in}
use Rattle.checker.proofs.Solutions.{counted}
use Rattle.checker.proofs.Promising.{promise_some, promise_none, promise_one}
use Rattle.checker.proofs.Reaching.{lead, reached, has, has_in, reached_derived, comes_to, comes_place, ends}
use Rattle.checker.proofs.Reaching.{ends_whole}

-- what an instruction with a depth asks of the cells

abbrev pub holds : List ℕ → ℕ → Result ℕ Refusal → Bool
holds c q (Ok e) = eqb (cell c q) e
holds c q (Err r) = false

abbrev pub is_depth : Result ℕ Refusal → Bool
is_depth (Ok e) = true
is_depth (Err r) = false

abbrev pub jump_ok : List ℕ → Result ℕ Refusal → Goal → Bool
jump_ok c x Nowhere = true
jump_ok c x (To t) = holds c t x
jump_ok c x Outside = false

abbrev pub kept_ok : List ℕ → ℕ → ℕ → Flowing → Bool
kept_ok c o d (Ok (Some f)) = cond f.falls (holds c (o + f.size) (lead d f.net)) (is_depth (lead d f.net))
    && jump_ok c (lead d f.taken) f.goal
kept_ok c o d (Ok None) = true
kept_ok c o d (Err q) = true

module _ (c : List ℕ) (d : ℕ) (change : Effect) where
  holds_in : (q : ℕ) (x : Result ℕ Refusal) → lead d change ≡ x → T (holds c q x)
      → (e : ℕ) × (Leads d change e × (depth_in c q ≡ Some e))
  holds_in q (Ok e) h t = (e, (h, depth_in_lem c q e (eqb→eq (cell c q) e t) (leads_is d change e h).1))
  holds_in q (Err r) h t = absurd t

  range_in : (x : Result ℕ Refusal) → lead d change ≡ x → T (is_depth x) → (e : ℕ) × Leads d change e
  range_in (Ok e) h t = (e, h)
  range_in (Err r) h t = absurd t

module _ (c : List ℕ) (o d : ℕ) (f : Flow) where
  falls_kept : (b : Bool) → f.falls ≡ b → T
      (cond b (holds c (o + f.size) (lead d f.net)) (is_depth (lead d f.net))) → Falls (depth_in c) f o d
  falls_kept true fl t = let g = holds_in c d f.net (o + f.size) (lead d f.net) refl t in record { depth = g.0; leads = g.1.0; has = λ y. g.1.1 }
  falls_kept false fl t = let g = range_in c d f.net (lead d f.net) refl t in record { depth = g.0; leads = g.1; has = λ y. absurd (apart y fl) }
    where
      apart : f.falls ≡ true → f.falls ≡ false → ⊥
      apart p q = clash cc

  jumps_kept : (x : Goal) → f.goal ≡ x → T (jump_ok c (lead d f.taken) x) → (f.goal ≡ Nowhere → ⊥)
      → Jumps (depth_in c) f d
  jumps_kept Nowhere g t n = absurd (n g)
  jumps_kept (To q) g t n = let i = holds_in c d f.taken q (lead d f.taken) refl t in record { target = q; depth = i.0; goes = g; leads = i.1.0; has = i.1.1 }
  jumps_kept Outside g t n = absurd t

  op_kept : T (kept_ok c o d (Ok (Some f))) → Kept (depth_in c) f o d
  op_kept t =
      let a = cond f.falls (holds c (o + f.size) (lead d f.net)) (is_depth (lead d f.net)) in
      let b = jump_ok c (lead d f.taken) f.goal in
      record {
        falls = falls_kept f.falls refl (and_left a b t);
        jumps = jumps_kept f.goal refl (and_right a b t);
      }

-- the test

abbrev pub start_ok : ℕ → List ℕ → List ℕ → ℕ → Bool
start_ok last s st k = leb (get_or st (2 * k + 1) 0) 65535 && comes_to last s (get_or st (2 * k) 0)

-- the code has no fault, and the start list can be
abbrev pub input_ok : ℕ → List ℕ → List ℕ → Bool
input_ok last s st = ends last s && (eqb (length st % 2) 0 && every_from (start_ok last s st) 0 (length st / 2))

abbrev pub depth_ok : ℕ → List ℕ → List ℕ → List ℕ → ℕ → ℕ → Bool
depth_ok last s st c k o =
    has o (cell c o) (reached last s st k) && (comes_to last s o && kept_ok c o (cell c o) (flow_of last o (drop o s)))

-- a cell holds 65,536, or a depth that k steps lead to, at a place, and that is respected
abbrev pub cell_ok : ℕ → List ℕ → List ℕ → List ℕ → ℕ → ℕ → Bool
cell_ok last s st c k o = leb (cell c o) 65536 && cond (leb (cell c o) 65535) (depth_ok last s st c k o) true

abbrev pub start_held : List ℕ → List ℕ → ℕ → Bool
start_held st c k = eqb (cell c (get_or st (2 * k) 0)) (get_or st (2 * k + 1) 0)

unfoldable pub certificate : ℕ → List ℕ → List ℕ → List ℕ → ℕ → Bool
certificate last s st c k =
    input_ok last s st
    && (eqb (length c) (suc (length s)) &&
    (every_from (start_held st c) 0 (length st / 2) && every_from (cell_ok last s st c k) 0 (length c)))

module _ (last : ℕ) (s st : List ℕ) (t : T (input_ok last s st)) where
  t2 : T (eqb (length st % 2) 0 && every_from (start_ok last s st) 0 (length st / 2))
  t2 = and_right (ends last s) (eqb (length st % 2) 0 && every_from (start_ok last s st) 0 (length st / 2)) t

  pub input_whole : NoFault last s
  input_whole = ends_whole last s
      (and_left (ends last s) (eqb (length st % 2) 0 && every_from (start_ok last s st) 0 (length st / 2)) t)

  pub input_listed : Listed last s st
  input_listed = record {
    even = eqb→eq (length st % 2) 0
        (and_left (eqb (length st % 2) 0) (every_from (start_ok last s st) 0 (length st / 2)) t2);
    good = λ k l.
        let i = in_range (start_ok last s st) 0 (length st / 2) k (omega arith) (omega arith)
        (and_right (eqb (length st % 2) 0) (every_from (start_ok last s st) 0 (length st / 2)) t2) in
        let a = leb (get_or st (2 * k + 1) 0) 65535 in
        let b = comes_to last s (get_or st (2 * k) 0) in
        (leb→le (get_or st (2 * k + 1) 0) 65535 (and_left a b i), comes_place last s (get_or st (2 * k) 0) (and_right a b i));
  }

-- what the test shows

-- the count and the greatest depth of cells
abbrev pub found_in : List ℕ → List ℕ → Assignment
found_in s c = record { count = held (take (length s) c); greatest = greatest_in c }

pub record Certified (last : ℕ) (s st c : List ℕ) : Type 0 where
  pub whole : NoFault last s
  pub listed : Listed last s st
  pub solution : Solution last s st c (found_in s c)

module _ (last : ℕ) (s st c : List ℕ) (k : ℕ) (input : T (input_ok last s st))
    (size : T (eqb (length c) (suc (length s))))
    (firsts : T (every_from (start_held st c) 0 (length st / 2)))
    (cells : T (every_from (cell_ok last s st c k) 0 (length c))) where
  cell_ok_lem : (o : ℕ) → o < length c → T (cell_ok last s st c k o)
  cell_ok_lem o l = in_range (cell_ok last s st c k) 0 (length c) o (omega arith) (omega arith) cells

  cell_small : (o : ℕ) → cell c o ≤ 65536
  cell_small o = elim (dec_lt o (length c)) [
    | yes l ↦ leb→le (cell c o) 65536
        (and_left (leb (cell c o) 65536) (cond (leb (cell c o) 65535) (depth_ok last s st c k o) true) (cell_ok_lem o l))
    | no l ↦ (let z : cell c o ≡ 65536 = get_or-eq_default c 65536 (omega arith) in omega arith)
  ]

  deep : (o : ℕ) → cell c o ≤ 65535 → T (depth_ok last s st c k o)
  deep o h =
      let l = cell_in c o (λ z. omega arith) in
      let t = and_right (leb (cell c o) 65536) (cond (leb (cell c o) 65535) (depth_ok last s st c k o) true)
      (cell_ok_lem o l) in
      subst (λ (b : Bool). T (cond b (depth_ok last s st c k o) true)) (le-leb (cell c o) 65535 h) t

  deep_rest : (o : ℕ) → cell c o ≤ 65535
      → T (comes_to last s o && kept_ok c o (cell c o) (flow_of last o (drop o s)))
  deep_rest o h = and_right (has o (cell c o) (reached last s st k))
      (comes_to last s o && kept_ok c o (cell c o) (flow_of last o (drop o s))) (deep o h)

  cell_derived : (o d : ℕ) → depth_in c o ≡ Some d → Derived last s st o d
  cell_derived o d e =
      let i = in_depth c o d e in
      let t = and_left (has o (cell c o) (reached last s st k))
      (comes_to last s o && kept_ok c o (cell c o) (flow_of last o (drop o s))) (deep o (omega arith)) in
      subst (λ (x : ℕ). Derived last s st o x) i.0
      (reached_derived s st k o (cell c o) (has_in o (cell c o) (reached last s st k) t))

  cell_place : (o d : ℕ) → depth_in c o ≡ Some d → Place last s o × (d ≤ 65535)
  cell_place o d e =
      let i = in_depth c o d e in
      (comes_place last s o (and_left (comes_to last s o) (kept_ok c o (cell c o) (flow_of last o (drop o s))) (deep_rest o (omega arith))), i.1)

  cell_kept : (o d : ℕ) (f : Flow) → depth_in c o ≡ Some d → Stands last s o f → Kept (depth_in c) f o d
  cell_kept o d f e h =
      let i = in_depth c o d e in
      let t = and_right (comes_to last s o) (kept_ok c o (cell c o) (flow_of last o (drop o s)))
      (deep_rest o (omega arith)) in
      subst (λ (x : ℕ). Kept (depth_in c) f o x) i.0
      (op_kept c o (cell c o) f (subst (λ (x : Flowing). T (kept_ok c o (cell c o) x)) h.is t))

  start_held_lem : (o d : ℕ) → Begins st o d → depth_in c o ≡ Some d
  start_held_lem o d B =
      let j = B.row in
      let l = B.inside in
      let t = in_range (start_held st c) 0 (length st / 2) B.row (omega arith) (omega arith) firsts in
      let e = eqb→eq (cell c (get_or st (2 * B.row) 0)) (get_or st (2 * B.row + 1) 0) t in
      let g = ((input_listed last s st input).good B.row B.inside).0 in
      depth_in_lem c o d (sym (ap (cell c) B.offset) ∙ e ∙ B.depth) (omega (arith, g, B.depth))

  cells_assign : Assigns last s st (depth_in c)
  cells_assign = record { places = cell_place; starts = start_held_lem; kept = cell_kept }

  pub cells_certified : Certified last s st c
  cells_certified =
      let e : length c ≡ suc (length s) = eqb→eq (length c) (suc (length s)) size in
      record {
        whole = input_whole last s st input;
        listed = input_listed last s st input;
        solution = record {
          size = e;
          smallest = smallest cells_assign cell_derived;
          others = cell_small;
          derived = cell_derived;
          count = counted c (input_whole last s st input) cells_assign e;
          greatest = greatest_in_lem c cell_small;
        };
      }

pub certified : (last : ℕ) (s st c : List ℕ) (k : ℕ) → T (certificate last s st c k) → Certified last s st c
unfolding certificate
certified last s st c k t =
    let fourth = every_from (cell_ok last s st c k) 0 (length c) in
    let third = every_from (start_held st c) 0 (length st / 2) && fourth in
    let second = eqb (length c) (suc (length s)) && third in
    let t2 = and_right (input_ok last s st) second t in
    let t3 = and_right (eqb (length c) (suc (length s))) third t2 in
    cells_certified last s st c k (and_left (input_ok last s st) second t)
    (and_left (eqb (length c) (suc (length s))) third t2)
    (and_left (every_from (start_held st c) 0 (length st / 2)) fourth t3)
    (and_right (every_from (start_held st c) 0 (length st / 2)) fourth t3)

-- so every check of such code answers and leaves just this
pub must_accept : (last : ℕ) (s st c : List ℕ) (k : ℕ) → T (certificate last s st c k) → length s ≤ 1048576
    → (d d' w w' : List ℕ) (r : Result Assignment Refusal) → length s < length d → length s < length w
    → Promise last s st d d' w w' r
    → Same r (Ok (found_in s c)) d' (c ++ drop (suc (length s)) d)
    w' (replicate (suc (length s)) 0 ++ drop (suc (length s)) w)
must_accept last s st c k t l d d' w w' r room space P =
    let C = certified last s st c k t in
    let e = c ++ drop (suc (length s)) d in
    let z = replicate (suc (length s)) 0 ++ drop (suc (length s)) w in
    promise_one last s st d d' e w w' z r (Ok (found_in s c)) P
    (promise_some last s st d w l room space e z refl C.whole C.listed c _ C.solution refl)

-- two paths of at most k steps bring two depths to one offset
pub must_refuse : (last : ℕ) (s st : List ℕ) (k o a b : ℕ) → T (input_ok last s st) → T (has o a (reached last s st k))
    → T (has o b (reached last s st k)) → (a ≡ b → ⊥) → length s ≤ 1048576
    → (d d' w w' : List ℕ) (r : Result Assignment Refusal) → length s < length d → length s < length w
    → Promise last s st d d' w w' r
    → Same r (Err NoDepths) d' (replicate (suc (length s)) 65536 ++ drop (suc (length s)) d)
    w' (replicate (suc (length s)) 0 ++ drop (suc (length s)) w)
must_refuse last s st k o a b t ta tb n l d d' w w' r room space P =
    let e = replicate (suc (length s)) 65536 ++ drop (suc (length s)) d in
    let z = replicate (suc (length s)) 0 ++ drop (suc (length s)) w in
    let D = reached_derived s st k o a (has_in o a (reached last s st k) ta) in
    let G = reached_derived s st k o b (has_in o b (reached last s st k) tb) in
    promise_one last s st d d' e w w' z r (Err NoDepths) P
    (promise_none last s st d w l room space e z refl (input_whole last s st t) (input_listed last s st t)
    (clash_depths D G n) refl)
