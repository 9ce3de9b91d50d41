-- The view and the history go together: each move of the view keeps what ties them.
-- Assumes nothing.
use Rattle.std.specs.Prelude.{Ok, Some, None, Option}
use mathlib.Core.Path.{◌≡◌, refl, sym, ap, ◌∙◌}
use mathlib.Core.Bool.{Bool, true, false, cond}
use mathlib.Core.Logic.{◌⊎◌, inl, inr}
use mathlib.Core.List.Memᴰ
use mathlib.Core.List.{List, [], ◌∷◌, ◌++◌, append-nil}
use mathlib.Core.Option.{some as found}
use Prim.Native.Nat.{ℕ, zero, suc, ◌+◌, ◌/◌, ◌%◌, ◌≤◌}
use native.Mathlib.Omega.{arith}
use lib.IntN.{pos}
use lib.ListN.{length, set, get_elem?}
use borrow.Author.Tests.{eq-eqb, ne_eqb, eqb-true}
use Rattle.base.proofs.Bools.{clash}
use Rattle.op.specs.Depths.{after_of, taken_depth_of}
use Rattle.op.specs.Effects.{dead_maker}
use Rattle.op.specs.declared.Operand.{Operand}
use Rattle.op.specs.declared.Refusal.{Refusal}
use Rattle.code.specs.Decode.{names_in}
use Rattle.code.specs.Encode.{encode, SignsFit}
use Rattle.builder.specs.Forward.{unpatched}
use Rattle.builder.specs.Back.{jump_by}
use Rattle.builder.specs.Marks.{near, bits, meets}
use Rattle.builder.specs.Plan.{behind}
use Rattle.builder.specs.declared.JumpLabel.TheVariants as L
use Rattle.builder.specs.declared.JumpTarget.{JumpTarget}
use Rattle.builder.specs.declared.JumpTarget.TheVariants as T
use Rattle.builder.specs.declared.marks.Mark.{Mark}
use Rattle.builder.specs.declared.marks.Mark.TheVariants.{Open, Patched, Target}
use Rattle.builder.proofs.Displacing.{displaced}
use Rattle.builder.proofs.Plans.{after_shape}
use Rattle.code.specs.Reading.{instruction}
use Rattle.demand.specs.Machine.{in_range, isa}
use Rattle.demand.specs.History.{waits, to, What, one, leap, Row}
use Rattle.demand.specs.History.{Call, emit, emit_jump_call, emit_jump_to_call, patch_jump_call, jump_target_call, new_region, other, Given}
use Rattle.demand.specs.History.{no, ok}
use Rattle.demand.specs.History.{History, born, blank, add, patch_here, target_here, start_here, look, seen}
use Rattle.base.proofs.Lists.{nth_cases, nth_lt, nth_set_same, nth_set_other}
use Rattle.demand.proofs.Book.{Book, net, stops, after, push, Good}
use Rattle.demand.proofs.Events.{append_good, jump_good, label_good, target_good, region_good}
use Rattle.demand.proofs.Patch.{patch_good}
use Rattle.demand.proofs.Bytes.{bytes_at, bytes_of, bytes_append, bytes_length, Sits, Has, patch_bytes}
use Rattle.demand.proofs.Machining.{Still, jump_net, jump_bytes, laws}
use Rattle.demand.proofs.View.{View, Moved}
use Rattle.demand.proofs.View.{refused, idle, dead_emit, dead_jump, dead_to, dead_patch, dead_target, emitted}
use Rattle.demand.proofs.View.{labelled, jumped, patched, spotted, opened}

abbrev pub book : View → History → Book isa
book v h = record { rows = h.rows; len = h.end; cur = v.depth; starts = v.starts; marks = v.marks }

pub record Tied (v : View) (h : History) : Type 0 where
  pub good : Good isa laws (book v h)
  pub code : v.code ≡ bytes_of isa h.rows
  pub targets : (k o d : ℕ) → get_elem? v.marks k ≡ found (Target o d) → look h.targets k ≡ o
  pub starts : v.starts ≡ h.starts

-- what the arguments' types and the calls themselves give
abbrev pub Sane : Call → Type 0
Sane (emit k o ns) = SignsFit o × Still o
Sane (emit_jump_call k) = Unit {0}
Sane (emit_jump_to_call k t) = Unit {0}
Sane (patch_jump_call l) = Unit {0}
Sane jump_target_call = Unit {0}
Sane (new_region d) = d ≤ 65535
Sane other = Unit {0}

pub tied_end : (v : View) (h : History) → Tied v h → length v.code ≡ h.end
tied_end v h t = ap (λ (l : List ℕ). length l) t.code
    ∙ omega (arith, bytes_length isa 0 h.end h.rows t.good.chain)

-- a new builder

empty_good : Good isa laws (record { rows = []; len = 0; cur = None; starts = []; marks = [] })
empty_good = record {
  chain = refl;
  each = λ r m. absurd (Memᴰ.not-nil m);
  tips = λ d e. clash cc;
  begins = λ o d m. absurd (Memᴰ.not-nil m);
  opens = λ r j k m e. absurd (Memᴰ.not-nil m);
  labels = λ k o d e. clash cc;
  spots = λ k o d e. clash cc;
}

abbrev pub fresh : Option ℕ → View
fresh told = record { code = []; marks = []; starts = born told; depth = told }

abbrev pub Small : Option ℕ → Type 0
Small None = Unit {0}
Small (Some d) = d ≤ 65535

pub fresh_tied : (told : Option ℕ) → Small told → Tied (fresh told) (blank told)
fresh_tied None s = record { good = empty_good; code = refl; targets = λ k o d e. clash cc; starts = refl }
fresh_tied (Some d) s = record {
  good = region_good isa laws _ empty_good d refl s;
  code = refl;
  targets = λ k o u e. clash cc;
  starts = refl;
}

-- depths and bytes as the invariant has them

after_behind : (k e : ℕ) (x : Option ℕ) → x ≡ Some e → after isa (dead_maker k) x ≡ behind k e
unfolding behind
after_behind k e x h = rw h (go (dead_maker k))
  where
    go : (b : Bool) → after isa b (Some e) ≡ cond b None (Some e)
    go true = refl
    go false = refl

unpatched_bytes : (k : ℕ) → encode k unpatched [] ≡ k ∷ 0 ∷ 0 ∷ []
unfolding encode
unpatched_bytes k = refl

to_bytes : (k p o : ℕ) → near p o ≡ true → encode k (jump_by (bits p o)) [] ≡ k ∷ bits p o % 256 ∷ bits p o / 256 ∷ []
to_bytes k p o c = rw (displaced p o c) (jump_bytes p o c k)

meets_is : (x : Option ℕ) (d e : ℕ) → meets x d ≡ true → x ≡ Some e → e ≡ d
meets_is None d e h l = clash cc
meets_is (Some f) d e h l = let q = eqb-true f d h in let p : f ≡ e = cc in cc

trim : (rs : List (Row isa)) (n : ℕ) (c : Option ℕ) (ss : List (ℕ × ℕ)) (ms : List Mark)
    → Good isa laws (record { rows = rs; len = n; cur = c; starts = ss ++ []; marks = ms })
    → Good isa laws (record { rows = rs; len = n; cur = c; starts = ss; marks = ms })
trim rs n c ss ms g = rw append-nil at g

-- each move

module _ (v : View) (h : History) (t : Tied v h) where
  added : (d : ℕ) (w : What isa) (ms : List Mark) → Good isa laws (push isa (book v h) d w ms)
      → ((i o u : ℕ) → get_elem? ms i ≡ found (Target o u) → ⊥)
      → Tied (record {
        code = v.code ++ bytes_at isa h.end w;
        marks = v.marks ++ ms;
        starts = v.starts;
        depth = after isa (stops isa w) (net isa w d);
      }) (add h (Some d) w)
  added d w ms g n = record {
    good = trim _ _ _ v.starts (v.marks ++ ms) g;
    code = rw (t.code, bytes_append) (ap (λ (l : List ℕ). bytes_of isa h.rows ++ l) (sym (append-nil _)));
    targets = λ k o u e. go k o u (nth_cases v.marks ms k e);
    starts = t.starts;
  }
    where
      go : (k o u : ℕ) → (get_elem? v.marks k ≡ found (Target o u)) ⊎
          ((i : ℕ) × (k ≡ length v.marks + i) × (get_elem? ms i ≡ found (Target o u))) → look h.targets k ≡ o
      go k o u (inl e) = t.targets k o u e
      go k o u (inr q) = absurd (n q.0 o u q.2)

  no_target : (i o u : ℕ) → get_elem? [] i ≡ found (Target o u) → ⊥
  no_target i o u q = clash cc

  tied_emit : (k : ℕ) (o : Operand) (ns : List ℕ) (d e : ℕ) → v.depth ≡ Some d → SignsFit o × Still o
      → names_in o ≡ length ns → after_of d k o ≡ Ok e
      → Tied (record { code = v.code ++ encode k o ns; marks = v.marks; starts = v.starts; depth = behind k e })
      (add h v.depth (one (instruction k o ns)))
  tied_emit k o ns d e l s c f =
      let n : in_range (after_of d k o) ≡ Some e = ap in_range f in
      rw (l, ← after_behind k e _ n) (rw (append-nil v.marks) at (added d (one (instruction k o ns)) []
      (append_good isa laws (book v h) t.good d l (instruction k o ns) (record { formed = record { shape = after_shape d k o e f; signs = s.0; count = c }; still = s.1 }) e n)
      no_target))

  tied_label : (k d e u : ℕ) → v.depth ≡ Some d → after_of d k unpatched ≡ Ok e → taken_depth_of d k ≡ Ok u
      → Tied (record {
        code = v.code ++ encode k unpatched [];
        marks = v.marks ++ (Open (length v.code) u ∷ []);
        starts = v.starts;
        depth = behind k e;
      })
      (add h v.depth (leap k (waits (length v.marks))))
  tied_label k d e u l f g =
      let n : in_range (after_of d k unpatched) ≡ Some e = ap in_range f in
      rw (l, tied_end v h t, unpatched_bytes k, ← after_behind k e _ n)
      (added d (leap k (waits (length v.marks))) (Open h.end u ∷ [])
      (label_good isa laws (book v h) t.good d l k u e n (ap in_range g)) none)
    where
      none : (i o f : ℕ) → get_elem? (Open h.end u ∷ []) i ≡ found (Target o f) → ⊥
      none zero o f q = clash cc
      none (suc i) o f q = clash cc

  tied_jump : (k i d e o u : ℕ) → v.depth ≡ Some d → after_of d k (jump_by (bits (length v.code) o)) ≡ Ok e
      → taken_depth_of d k ≡ Ok u
      → get_elem? v.marks i ≡ found (Target o u) → near (length v.code) o ≡ true
      → Tied (record {
        code = v.code ++ encode k (jump_by (bits (length v.code) o)) [];
        marks = v.marks;
        starts = v.starts;
        depth = behind k e;
      })
      (add h v.depth (leap k (to (look h.targets i))))
  tied_jump k i d e o u l f g m c =
      let n : in_range (after_of d k unpatched) ≡ Some e = ap in_range (jump_net d k (pos 0) _ ∙ f) in
      let c' : near h.end o ≡ true = rw (tied_end v h t) at c in
      rw (l, t.targets i o u m, tied_end v h t, to_bytes k h.end o c', ← after_behind k e _ n)
      (rw (append-nil v.marks) at (added d (leap k (to o)) []
      (jump_good isa laws (book v h) t.good d l k o u c' e n (ap in_range g) (t.good.spots i o u m)) no_target))

  tied_target : (d : ℕ) → v.depth ≡ Some d
      → Tied (record {
        code = v.code;
        marks = v.marks ++ (Target (length v.code) d ∷ []);
        starts = v.starts;
        depth = v.depth;
      }) (target_here h (length v.marks))
  tied_target d l = rw (l, tied_end v h t) (record {
    good = rw (append-nil h.rows, append-nil v.starts) at (target_good isa laws (book v h) t.good d l);
    code = t.code;
    targets = λ k o u e. go k o u (nth_cases v.marks (Target h.end d ∷ []) k e);
    starts = t.starts;
  })
    where
      only : (o u i k : ℕ) → k ≡ length v.marks + i → get_elem? (Target h.end d ∷ []) i ≡ found (Target o u)
          → (length v.marks ≡ k) × (h.end ≡ o)
      only o u zero k e q = (omega arith, cc)
      only o u (suc i) k e q = clash cc

      go : (k o u : ℕ) → (get_elem? v.marks k ≡ found (Target o u)) ⊎
          ((i : ℕ) × (k ≡ length v.marks + i) × (get_elem? (Target h.end d ∷ []) i ≡ found (Target o u)))
          → look ((length v.marks, h.end) ∷ h.targets) k ≡ o
      go k o u (inl e) = let q =
          nth_lt v.marks k e in rw (ne_eqb (length v.marks) k (λ c. omega arith), look) (t.targets k o u e)
      go k o u (inr q) = let r = only o u q.0 k q.1 q.2 in rw (eq-eqb (length v.marks) k r.0, look) r.1

  tied_region : (d : ℕ) → v.depth ≡ None → d ≤ 65535
      → Tied (record {
        code = v.code;
        marks = v.marks;
        starts = v.starts ++ ((length v.code, d) ∷ []);
        depth = Some d;
      }) (start_here h d)
  tied_region d l s = rw (tied_end v h t) (record {
    good = rw (append-nil h.rows, append-nil v.marks) at (region_good isa laws (book v h) t.good d l s);
    code = t.code;
    targets = t.targets;
    starts = rw t.starts;
  })

  tied_patch : (k o u : ℕ) → get_elem? v.marks k ≡ found (Open o u) → meets v.depth u ≡ true
      → near o (length v.code) ≡ true
      → Tied (record { code = set (set v.code (o + 1) (bits o (length v.code) % 256)) (o + 2) (bits o (length v.code) / 256); marks = set v.marks k (Patched o u); starts = v.starts; depth = Some u })
      (patch_here h k)
  tied_patch k o u m ne c = rw (tied_end v h t) (record {
    good = patch_good isa laws (book v h) t.good k o u m (rw (tied_end v h t) at c)
        (λ e l. meets_is v.depth u e ne l);
    code = rw t.code (patch_bytes isa laws k h.end o 0 h.end h.rows o t.good.chain sits (omega arith)
        has);
    targets = λ i p f e. t.targets i p f (before i p f e);
    starts = t.starts;
  })
    where
      sits : Sits isa laws k h.end o h.rows
      sits r j mem w = let q = t.good.opens r j k mem w in let q1 = q.1 in cc

      has : Has isa laws k h.end o h.rows
      has = let q = t.good.labels k o u m in (q.0, q.1, q.2, q.3)

      before : (i p f : ℕ) → get_elem? (set v.marks k (Patched o u)) i ≡ found (Target p f)
          → get_elem? v.marks i ≡ found (Target p f)
      before i p f e = sym (nth_set_other v.marks k i (Patched o u) (λ c.
          let s = nth_set_same v.marks k (Patched o u) m in
          let e' : get_elem? (set v.marks k (Patched o u)) k ≡ found (Target p f) = rw c at e in
          clash cc)) ∙ e

  tied_dead : (w : What isa) → v.depth ≡ None → Tied v (add h v.depth w)
  tied_dead w e = let q : add h v.depth w ≡ h = rw e in rw q t

  tied_dead_to : (k : ℕ) (x : JumpTarget) → v.depth ≡ None → Tied v (seen h v.depth (emit_jump_to_call k x) ok)
  tied_dead_to k T.Dead e = t
  tied_dead_to k (T.Row i) e = tied_dead (leap k (to (look h.targets i))) e

  tied_refused : (c : Call) (r : Refusal) → Tied v (seen h v.depth c (no r))
  tied_refused (emit k o ns) r = t
  tied_refused (emit_jump_call k) r = t
  tied_refused (emit_jump_to_call k T.Dead) r = t
  tied_refused (emit_jump_to_call k (T.Row i)) r = t
  tied_refused (patch_jump_call L.Dead) r = t
  tied_refused (patch_jump_call (L.Row i)) r = t
  tied_refused jump_target_call r = t
  tied_refused (new_region d) r = t
  tied_refused other r = t

pub moved_tied : {v w : View} {c : Call} {a : Given} (h : History) → Tied v h → Sane c → Moved v c a w
    → Tied w (seen h v.depth c a)
moved_tied {v} h t s (refused {c = c} {r = r}) = tied_refused v h t c r
moved_tied h t s idle = t
moved_tied {v} h t s (dead_emit {k = k} {o = o} {ns = ns} e) = tied_dead v h t (one (instruction k o ns)) e
moved_tied h t s (dead_jump e) = t
moved_tied {v} h t s (dead_to {k = k} {t = x} e) = tied_dead_to v h t k x e
moved_tied h t s dead_patch = t
moved_tied h t s (dead_target e) = t
moved_tied {v} h t s (emitted {k = k} {o = o} {ns = ns} d e l c few f) = tied_emit v h t k o ns d e l s c f
moved_tied {v} h t s (labelled {k = k} d e u l f g) = tied_label v h t k d e u l f g
moved_tied {v} h t s (jumped {k = k} d e i o u l f g m c) = tied_jump v h t k i d e o u l f g m c
moved_tied {v} h t s (patched i o d m small ne c inside) = tied_patch v h t i o d m ne c
moved_tied {v} h t s (spotted d l) = tied_target v h t d l
moved_tied {v} h t s (opened d l) = tied_region v h t d l s
