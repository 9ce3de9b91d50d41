-- The line of the emitting calls: what follows where it goes ahead, or does nothing, and that what is decided in parts
-- is the line.
-- Assumes nothing.
use Rattle.builder.specs.Plan.{planned}
use Rattle.builder.specs.declared.plan.Plan.{Plan}
use Rattle.builder.specs.Plan.{Decision}
use Rattle.builder.specs.declared.Location.{Location}
use Rattle.op.specs.declared.Effect.{Effect}
use Rattle.std.specs.Prelude.{Ok, Err, Some, None, Result, Option}
use mathlib.Core.Path.{◌≡◌, refl, sym, ap, ◌∙◌}
use mathlib.Core.Bool.{Bool, true, false, cond, ◌&&◌}
use Prim.Native.Nat.{ℕ, ◌-◌, ◌/◌, ◌≤◌}
use lib.Dec.{leb, eqb}
use borrow.Author.Tests.{leb-true, eqb-true}
use Rattle.base.proofs.Bools.{and_true, clash}
use Rattle.op.specs.Opcodes.{known, row_of}
use Rattle.op.specs.Effects.{effect_of, effect_by, rule_in, former_of, last_of}
use Rattle.op.specs.Depths.{landing, low_falling, after_of}
use Rattle.op.specs.Shapes.{shape_number, shape_in, shape_of, operand_shape, size_of}
use Rattle.op.specs.declared.Operand.{Operand}
use Rattle.op.specs.declared.Refusal.{Refusal}
use Rattle.op.specs.declared.Refusal.TheVariants.{UnknownOpcode, WrongShape, JumpTooFar, TooManyKeywords, NameTooLarge}
use Rattle.op.specs.declared.Refusal.TheVariants.{DepthsDiffer, Full, Unsound}
use Rattle.op.specs.declared.Table.TheVariants.{Code, Locations, Marks}
use Rattle.op.proofs.Shaping.{same_shape}
use Rattle.code.specs.Decode.{names_in}
use Rattle.code.proofs.Writing.{going}
use Rattle.builder.specs.declared.Core.{Core}
use Rattle.builder.specs.declared.JumpTarget.TheVariants as T
use Rattle.builder.specs.declared.marks.Mark.TheVariants.{Absent, Open, Patched, Target}
use Rattle.code.specs.Tables.{code_limit, location_cells, mark_cells, within, word_max}
use Rattle.builder.specs.Locations.{row_fits}
use Rattle.builder.specs.Plan.{Ahead, Asked, Back, Onward, Way, admit, aimed, arrived, ask_sound, behind, code_free}
use Rattle.builder.specs.Plan.{depth_here, emitting_of, enter_of, entered, guard, location_free, mark_free, meets_aim}
use Rattle.builder.specs.Plan.{near_aim, plain_asked, plan_of, size_in, sound_of, taken_in, way_sound, word_by}
use Rattle.builder.specs.Inner.{Goes, Lives, Sound, also_row, bytes_of, fallen_of, room_of}

pub sound_true : (c : Core) (cl ll : ℕ) → sound_of c cl ll ≡ true → Sound c cl ll
unfolding sound_of
sound_true c cl ll e =
    let p = and_true (leb c.code cl && leb c.code code_limit) (leb c.locations (ll / location_cells)) e in
    let q = and_true (leb c.code cl) (leb c.code code_limit) p.0 in
    record { code = leb-true _ _ q.0; limit = leb-true _ _ q.1; rows = leb-true _ _ p.1 }

pub marks_sound : (c : Core) (cl ll ml : ℕ) → (within mark_cells c.marks ml && sound_of c cl ll) ≡ true
    → (c.marks ≤ ml / mark_cells) × Sound c cl ll
marks_sound c cl ll ml e =
    let p = and_true (within mark_cells c.marks ml) (sound_of c cl ll) e in
    (leb-true _ _ p.0, sound_true c cl ll p.1)

pub guard_go : {s w : ℕ} {a : Option ℕ} (t : Bool) (r : Refusal) (p : Decision) → guard t r p ≡ Ok (Some (planned a w s))
    → (t ≡ true) × (p ≡ Ok (Some (planned a w s)))
guard_go true r p e = (refl, e)
guard_go false r p e = (cc, cc)

idle_go : {s w : ℕ} {a : Option ℕ} (p : Decision) → p ≡ Ok None → p ≡ Ok (Some (planned a w s)) → ⊥
idle_go p i e = clash cc

refuse_go : {s w : ℕ} {a : Option ℕ} {r : Refusal} → Err r ≡ Ok (Some (planned a w s)) → ⊥
refuse_go e = clash cc

-- an instruction that falls through has its opcode's shape

by_effect : (low : Refusal) (d e : ℕ) (t s : Bool) (x : Result Effect Refusal)
    → landing low d (cond t (cond s x (Err WrongShape)) (Err UnknownOpcode)) ≡ Ok e
    → (t ≡ true) × (s ≡ true)
unfolding landing
by_effect low d e true true x h = (refl, refl)
by_effect low d e true false x h = (refl, cc)
by_effect low d e false s x h = (cc, cc)

pub after_shape : (d k : ℕ) (o : Operand) (e : ℕ) → after_of d k o ≡ Ok e → shape_of k ≡ Ok (operand_shape o)
unfolding effect_of shape_of
after_shape d k o e h =
    let s = shape_in (row_of k) in
    let q = by_effect low_falling d e (known k) (eqb (shape_number s) (shape_number (operand_shape o)))
    (Ok (effect_by (rule_in (row_of k)) (former_of o) (last_of o))) h in
    rw q.0 (ap Ok (same_shape s (operand_shape o) (eqb-true _ _ q.1)))

-- live code

pub record LiveGoes (c : Core) (l : Option Location) (d k : ℕ) (o : Operand) (n word cl ll s : ℕ) (a : Option ℕ) (w : ℕ)
    : Type 0 where
  pub few : n ≤ 255
  pub count : names_in o ≡ n
  pub next : ℕ
  pub falls : after_of d k o ≡ Ok next
  pub depth : a ≡ behind k next
  pub size : s ≡ size_of (operand_shape o) n
  pub code : s ≤ cl - c.code
  pub limit : s ≤ code_limit - c.code
  pub row : row_fits l c.locations ll ≡ true
  pub same : w ≡ word

-- what the writer asks for
pub goes_by : (c : Core) (l : Option Location) (cl ll d k : ℕ) (o : Operand) (n word s w : ℕ) (a : Option ℕ) → Sound c cl ll
    → LiveGoes c l d k o n word cl ll s a w
    → Goes c l k o n cl ll
goes_by c l cl ll d k o n word s w a sd g =
    let z = size_of (operand_shape o) n in
    let fits : z ≤ cl - c.code = rw (sym g.size) g.code in
    record {
      sound = sd;
      count = g.count;
      written = going k o n (cl - c.code) z
          (record {
            shape = after_shape d k o g.next g.falls;
            few = g.few;
            count = g.count;
            size = refl;
            fits = fits;
          });
      code = fits;
      limit = rw (sym g.size) g.limit;
      row = g.row;
    }

-- the beginning

admit_live : {h : ℕ} (t : Bool) (r : Refusal) (x : Result (Option ℕ) Refusal) → admit t r x ≡ Ok (Some h) → (t ≡ true) × (x ≡ Ok (Some h))
admit_live true r x e = (refl, e)
admit_live false r x e = (cc, cc)

here_live : {h : ℕ} (d : Option ℕ) → depth_here d ≡ Ok (Some h) → d ≡ Some h
here_live None e = cc
here_live (Some d) e = cc

pub record Enters (x : Bool) (k name : ℕ) (depth : Option ℕ) (h : ℕ) : Type 0 where
  pub sound : x ≡ true
  pub known' : known k ≡ true
  pub small : name ≤ word_max
  pub live : depth ≡ Some h

pub enter_live : {h : ℕ} (sound : Bool) (k name : ℕ) (depth : Option ℕ) → enter_of sound k name depth ≡ Ok (Some h)
    → Enters sound k name depth h
unfolding enter_of
enter_live sound k name depth e =
    let x3 : (Result (Option ℕ) Refusal) = depth_here depth in
    let x2 : (Result (Option ℕ) Refusal) = admit (leb name word_max) NameTooLarge x3 in
    let e1 = admit_live sound Unsound (admit (known k) UnknownOpcode x2) e in
    let e2 = admit_live (known k) UnknownOpcode x2 e1.1 in
    let e3 = admit_live (leb name word_max) NameTooLarge x3 e2.1 in
    record { sound = e1.0; known' = e2.0; small = leb-true name word_max e3.0; live = here_live depth e3.1 }

-- a call that has entered has sound counts
pub lives_sound : {h : ℕ} (q : Asked) → Lives q h → Sound q.core q.code q.locations
lives_sound q e =
    let g = enter_live (ask_sound q) q.opcode q.name q.core.depth e in
    let s = sound_of q.core q.code q.locations in
    sound_true q.core q.code q.locations (and_true (way_sound q.way q.core q.marks) s g.sound).1

-- what a call of `enter` answered, told the test of 19 by another name
pub enters_as : {s t : Bool} {x y : Result (Option ℕ) Refusal} (k name : ℕ) (d : Option ℕ) → x ≡ enter_of s k name d → s ≡ t → x ≡ y
    → enter_of t k name d ≡ y
enters_as k name d e es ex = ap (λ (s : Bool). enter_of s k name d) (sym es) ∙ sym e ∙ ex

admit_dead : (t : Bool) (r : Refusal) (x : Result (Option ℕ) Refusal) → admit t r x ≡ (Ok None) → x ≡ (Ok None)
admit_dead true r x e = e
admit_dead false r x e = cc

here_dead : (d : Option ℕ) → depth_here d ≡ (Ok None) → d ≡ None
here_dead None e = refl
here_dead (Some d) e = cc

enter_dead : (sound : Bool) (k name : ℕ) (depth : Option ℕ) → enter_of sound k name depth ≡ (Ok None) → depth ≡ None
unfolding enter_of
enter_dead sound k name depth e =
    let x3 : (Result (Option ℕ) Refusal) = depth_here depth in
    let x2 : (Result (Option ℕ) Refusal) = admit (leb name word_max) NameTooLarge x3 in
    here_dead depth
    (admit_dead (leb name word_max) NameTooLarge x3
    (admit_dead (known k) UnknownOpcode x2
    (admit_dead sound Unsound (admit (known k) UnknownOpcode x2) e)))

-- each step, where the plan goes ahead

entered_go : {s w : ℕ} {a : Option ℕ} (x : Result (Option ℕ) Refusal) (p : ℕ → Decision) → entered x p ≡ Ok (Some (planned a w s))
    → (h : ℕ) × ((x ≡ Ok (Some h)) × (p h ≡ Ok (Some (planned a w s))))
entered_go (Ok None) p e = absurd (idle_go (Ok None) refl e)
entered_go (Err r) p e = absurd (refuse_go e)
entered_go (Ok (Some h)) p e = (h, (refl, e))

arrived_go : {s w : ℕ} {a : Option ℕ} (x : Result ℕ Refusal) (p : ℕ → Decision) → arrived x p ≡ Ok (Some (planned a w s))
    → (d : ℕ) × ((x ≡ Ok d) × (p d ≡ Ok (Some (planned a w s))))
arrived_go (Err r) p e = absurd (refuse_go e)
arrived_go (Ok d) p e = (d, (refl, e))

-- a way back is to a target's mark
abbrev pub Aims : Way → Type 0
Aims Onward = Unit {0}
Aims Ahead = Unit {0}
Aims (Back t m) = (i : ℕ) × ((o : ℕ) × ((d : ℕ) × ((t ≡ T.Row i) × (m ≡ Target o d))))

aimed_go : {s w : ℕ} {a : Option ℕ} (x : Way) (p : Decision) → aimed x p ≡ Ok (Some (planned a w s)) → Aims x × (p ≡ Ok (Some (planned a w s)))
aimed_go Onward p e = (tt, e)
aimed_go Ahead p e = (tt, e)
aimed_go (Back T.Dead m) p e = absurd (refuse_go e)
aimed_go (Back (T.Row i) Absent) p e = absurd (refuse_go e)
aimed_go (Back (T.Row i) (Open o d)) p e = absurd (refuse_go e)
aimed_go (Back (T.Row i) (Patched o d)) p e = absurd (refuse_go e)
aimed_go (Back (T.Row i) (Target o d)) p e = ((i, (o, (d, (refl, refl)))), e)

-- each step, where nothing is done

guard_busy : (t : Bool) (r : Refusal) (p : Decision) → (p ≡ (Ok None) → ⊥) → guard t r p ≡ (Ok None) → ⊥
guard_busy true r p n e = n e
guard_busy false r p n e = clash cc

arrived_busy : (x : Result ℕ Refusal) (p : ℕ → Decision) → ((d : ℕ) → p d ≡ (Ok None) → ⊥) → arrived x p ≡ (Ok None) → ⊥
arrived_busy (Err r) p n e = clash cc
arrived_busy (Ok d) p n e = n d e

aimed_busy : (x : Way) (p : Decision) → (p ≡ (Ok None) → ⊥) → aimed x p ≡ (Ok None) → ⊥
aimed_busy Onward p n e = n e
aimed_busy Ahead p n e = n e
aimed_busy (Back T.Dead m) p n e = clash cc
aimed_busy (Back (T.Row i) Absent) p n e = clash cc
aimed_busy (Back (T.Row i) (Open o d)) p n e = clash cc
aimed_busy (Back (T.Row i) (Patched o d)) p n e = clash cc
aimed_busy (Back (T.Row i) (Target o d)) p n e = n e

entered_idle : (x : Result (Option ℕ) Refusal) (p : ℕ → Decision) → ((h : ℕ) → p h ≡ (Ok None) → ⊥) → entered x p ≡ (Ok None) → x ≡ (Ok None)
entered_idle (Ok None) p n e = refl
entered_idle (Err r) p n e = clash cc
entered_idle (Ok (Some h)) p n e = absurd (n h e)

-- the line

pub record LineGoes (q : Asked) (a : Option ℕ) (w s : ℕ) : Type 0 where
  pub here : ℕ
  pub enters : Enters (ask_sound q) q.opcode q.name q.core.depth here
  pub sound : Sound q.core q.code q.locations
  pub taken : ℕ
  pub takes : taken_in q.way here q.opcode ≡ Ok taken
  pub aims : Aims q.way
  pub meet : meets_aim q.way taken ≡ true
  pub close : near_aim q.way q.core.code ≡ true
  pub goes : LiveGoes q.core q.location here q.opcode q.operand q.names
      (word_by q.way taken q.core.code) q.code q.locations s a w
  pub mark : mark_free q.way q.core q.marks ≡ true

module _ (q : Asked) where
  -- its steps, from the last on
  abbrev last : (t n : ℕ) → Decision
  last t n = Ok (Some (planned (behind q.opcode n) (word_by q.way t q.core.code) (size_in q)))

  abbrev marked : (t n : ℕ) → Decision
  marked t n = guard (mark_free q.way q.core q.marks) (Full Marks) (last t n)

  abbrev located : (t n : ℕ) → Decision
  located t n = guard (location_free q) (Full Locations) (marked t n)

  abbrev coded : (t n : ℕ) → Decision
  coded t n = guard (code_free q) (Full Code) (located t n)

  abbrev falls : (h t : ℕ) → Decision
  falls h t = arrived (after_of h q.opcode q.operand) (coded t)

  abbrev shaped : (h t : ℕ) → Decision
  shaped h t = guard (eqb (names_in q.operand) q.names) WrongShape (falls h t)

  abbrev counted : (h t : ℕ) → Decision
  counted h t = guard (leb q.names 255) TooManyKeywords (shaped h t)

  abbrev nears : (h t : ℕ) → Decision
  nears h t = guard (near_aim q.way q.core.code) JumpTooFar (counted h t)

  abbrev meeting : (h t : ℕ) → Decision
  meeting h t = guard (meets_aim q.way t) DepthsDiffer (nears h t)

  abbrev aiming : (h t : ℕ) → Decision
  aiming h t = aimed q.way (meeting h t)

  abbrev taking : ℕ → Decision
  taking h = arrived (taken_in q.way h q.opcode) (aiming h)

  -- what it comes to, once the call has entered
  pub line_enters : (x : Result (Option ℕ) Refusal) → enter_of (ask_sound q) q.opcode q.name q.core.depth ≡ x
      → emitting_of q ≡ entered x taking
  unfolding emitting_of
  line_enters x e = ap (λ (y : Result (Option ℕ) Refusal). entered y taking) e

  pub line_goes : (a : Option ℕ) (w s : ℕ) → emitting_of q ≡ Ok (Some (planned a w s)) → LineGoes q a w s
  unfolding emitting_of
  line_goes a w s e =
      let at = q.core.code in
      let e1 = entered_go (enter_of (ask_sound q) q.opcode q.name q.core.depth) taking e in
      let h = e1.0 in
      let i = enter_live (ask_sound q) q.opcode q.name q.core.depth e1.1.0 in
      let e2 = arrived_go (taken_in q.way h q.opcode) (aiming h) e1.1.1 in
      let t = e2.0 in
      let e3 = aimed_go q.way (meeting h t) e2.1.1 in
      let e4 = guard_go (meets_aim q.way t) DepthsDiffer (nears h t) e3.1 in
      let e5 = guard_go (near_aim q.way at) JumpTooFar (counted h t) e4.1 in
      let e6 = guard_go (leb q.names 255) TooManyKeywords (shaped h t) e5.1 in
      let e7 = guard_go (eqb (names_in q.operand) q.names) WrongShape (falls h t) e6.1 in
      let e8 = arrived_go (after_of h q.opcode q.operand) (coded t) e7.1 in
      let n = e8.0 in
      let e9 = guard_go (code_free q) (Full Code) (located t n) e8.1.1 in
      let e10 = guard_go (location_free q) (Full Locations) (marked t n) e9.1 in
      let e11 = guard_go (mark_free q.way q.core q.marks) (Full Marks) (last t n) e10.1 in
      let f = and_true (leb (size_in q) (q.code - at)) (leb (size_in q) (code_limit - at)) e9.0 in
      let z : Ok (Some (planned (behind q.opcode n) (word_by q.way t at) (size_in q))) ≡ Ok (Some (planned a w s)) = e11.1 in
      let same : planned (behind q.opcode n) (word_by q.way t at) (size_in q) ≡ planned a w s = cc in
      let zs : s ≡ size_in q = sym (ap (λ (x : Plan). x.size) same) in
      record {
        here = h;
        enters = i;
        sound = lives_sound q e1.1.0;
        taken = t;
        takes = e2.1.0;
        aims = e3.0;
        meet = e4.0;
        close = e5.0;
        goes = record {
          few = leb-true q.names 255 e6.0;
          count = eqb-true (names_in q.operand) q.names e7.0;
          next = n;
          falls = e8.1.0;
          depth = sym (ap (λ (x : Plan). x.after) same);
          size = zs;
          code = rw zs (leb-true _ _ f.0);
          limit = rw zs (leb-true _ _ f.1);
          row = e10.0;
          same = sym (ap (λ (x : Plan). x.word) same);
        };
        mark = e11.0;
      }

  pub line_idle : emitting_of q ≡ (Ok None) → q.core.depth ≡ None
  unfolding emitting_of
  line_idle e = enter_dead (ask_sound q) q.opcode q.name q.core.depth
      (entered_idle (enter_of (ask_sound q) q.opcode q.name q.core.depth) taking takes_busy e)
    where
      done : (t n : ℕ) → last t n ≡ (Ok None) → ⊥
      done t n e = clash cc

      rooms_busy : (t n : ℕ) → coded t n ≡ (Ok None) → ⊥
      rooms_busy t n =
          guard_busy (code_free q) (Full Code) (located t n)
          (guard_busy (location_free q) (Full Locations) (marked t n)
          (guard_busy (mark_free q.way q.core q.marks) (Full Marks) (last t n) (done t n)))

      counts_busy : (h t : ℕ) → counted h t ≡ (Ok None) → ⊥
      counts_busy h t =
          guard_busy (leb q.names 255) TooManyKeywords (shaped h t)
          (guard_busy (eqb (names_in q.operand) q.names) WrongShape (falls h t)
          (arrived_busy (after_of h q.opcode q.operand) (coded t) (rooms_busy t)))

      aims_busy : (h t : ℕ) → aiming h t ≡ (Ok None) → ⊥
      aims_busy h t =
          aimed_busy q.way (meeting h t)
          (guard_busy (meets_aim q.way t) DepthsDiffer (nears h t)
          (guard_busy (near_aim q.way q.core.code) JumpTooFar (counted h t) (counts_busy h t)))

      takes_busy : (h : ℕ) → taking h ≡ (Ok None) → ⊥
      takes_busy h = arrived_busy (taken_in q.way h q.opcode) (aiming h) (aims_busy h)

  -- what is decided in parts

  abbrev parts : (h t : ℕ) → Decision
  parts h t =
      also_row
      (also_row
      (bytes_of q.core.code h q.opcode q.operand q.names (word_by q.way t q.core.code) q.code)
      (location_free q) Locations)
      (mark_free q.way q.core q.marks) Marks

  abbrev landed : (t : ℕ) → Result ℕ Refusal → Decision
  landed t z = fallen_of z q.core.code q.opcode (size_in q) (word_by q.way t q.core.code) q.code

  in_parts : (h t : ℕ) → counted h t ≡ parts h t
  unfolding bytes_of room_of
  in_parts h t =
      by_after (leb q.names 255) (eqb (names_in q.operand) q.names) (after_of h q.opcode q.operand)
    where
      by_room : (a : Option ℕ) (w s : ℕ) (x y f g : Bool)
          → guard (x && y) (Full Code) (guard f (Full Locations) (guard g (Full Marks) (Ok (Some (planned a w s)))))
          ≡ also_row (also_row (guard x (Full Code) (guard y (Full Code) (Ok (Some (planned a w s))))) f Locations) g Marks
      by_room a w s true true true g = refl
      by_room a w s true true false g = refl
      by_room a w s true false f g = refl
      by_room a w s false y f g = refl

      by_after : (x y : Bool) (z : Result ℕ Refusal) → guard x TooManyKeywords (guard y WrongShape (arrived z (coded t)))
          ≡ also_row
          (also_row (guard x TooManyKeywords (guard y WrongShape (landed t z))) (location_free q) Locations)
          (mark_free q.way q.core q.marks) Marks
      by_after false y z = refl
      by_after true false z = refl
      by_after true true (Err r) = refl
      by_after true true (Ok n) =
          let z = size_in q in
          by_room (behind q.opcode n) (word_by q.way t q.core.code) z
          (leb z (q.code - q.core.code)) (leb z (code_limit - q.core.code))
          (location_free q) (mark_free q.way q.core q.marks)

  -- live, and with the jump's tests passed
  pub line_live : (h t : ℕ) → Lives q h → taken_in q.way h q.opcode ≡ Ok t
      → aimed q.way (meeting h t) ≡ meeting h t
      → meets_aim q.way t ≡ true → near_aim q.way q.core.code ≡ true → emitting_of q ≡ parts h t
  unfolding emitting_of
  line_live h t e1 e2 e3 e4 e5 = rw (e1, e2, e3, e4, e5) (in_parts h t)

pub also_free : (p : Decision) → also_row p true Marks ≡ p
also_free (Ok None) = refl
also_free (Err r) = refl
also_free (Ok (Some plan)) = refl

-- an emitting call that is no jump

pub plain_live : (c : Core) (l : Option Location) (k name : ℕ) (o : Operand) (n cl ll h : ℕ)
    → Lives (plain_asked c l k name o n cl ll) h
    → plan_of c l k name o n cl ll ≡ also_row (bytes_of c.code h k o n 0 cl) (row_fits l c.locations ll) Locations
unfolding plan_of
plain_live c l k name o n cl ll h e = line_live (plain_asked c l k name o n cl ll) h h e refl refl refl refl
    ∙ also_free _

pub record PlanGoes (c : Core) (l : Option Location) (k name : ℕ) (o : Operand) (n cl ll s : ℕ) (a : Option ℕ) (w : ℕ)
    : Type 0 where
  pub sound : Sound c cl ll
  pub known' : known k ≡ true
  pub small : name ≤ word_max
  pub here : ℕ
  pub live : c.depth ≡ Some here
  pub goes : LiveGoes c l here k o n 0 cl ll s a w

pub plan_goes : (c : Core) (l : Option Location) (k name : ℕ) (o : Operand) (n cl ll s w : ℕ) (a : Option ℕ)
    → plan_of c l k name o n cl ll ≡ Ok (Some (planned a w s))
    → PlanGoes c l k name o n cl ll s a w
unfolding plan_of
plan_goes c l k name o n cl ll s w a e =
    let g = line_goes (plain_asked c l k name o n cl ll) a w s e in
    record {
      sound = g.sound;
      known' = g.enters.known';
      small = g.enters.small;
      here = g.here;
      live = g.enters.live;
      goes = g.goes;
    }

pub goes : (c : Core) (l : Option Location) (k name : ℕ) (o : Operand) (n cl ll s w : ℕ) (a : Option ℕ)
    → plan_of c l k name o n cl ll ≡ Ok (Some (planned a w s)) → Goes c l k o n cl ll
goes c l k name o n cl ll s w a e =
    let g = plan_goes c l k name o n cl ll s w a e in
    goes_by c l cl ll g.here k o n 0 s w a g.sound g.goes
