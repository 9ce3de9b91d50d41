-- What the checker's inner functions promise one another. `last` is the last opcode of the table; c are the depth cells
-- of the code and its end before a call, c' after it, w and w' the work cells beside them.
-- Assumes nothing.
use Rattle.code.specs.Decode.{Step}
use Rattle.op.specs.declared.Effect.{Effect}
use Rattle.std.specs.Prelude.{◌≡◌, Bool, true, false, List, ◌⊎◌, ℕ, suc, ◌+◌, ◌-◌, ◌*◌, ◌/◌, ◌%◌, ◌≤◌, ◌<◌, max, length, get_or, set, replicate, Option, None, Some, Result, Ok, Err}
use Rattle.std.specs.List.{fold}
use Rattle.op.specs.declared.Refusal.{Refusal}
use Rattle.op.specs.declared.Refusal.TheVariants.{NoDepths}
use Rattle.code.specs.declared.Flow.{Flow}
use Rattle.code.specs.declared.Goal.TheVariants.{Nowhere}
use Rattle.code.specs.Depths.{Stands, Place, Faulty, Begins, Leads, Falls, Jumps, Kept, Assigns, Derived}
use Rattle.code.specs.Tables.{code_limit, no_depth, word_max}
use Rattle.checker.specs.declared.Assignment.{Assignment}
use Rattle.checker.specs.declared.Reason.{Reason}
use Rattle.checker.specs.declared.Unmet.{Unmet}
use Rattle.checker.specs.declared.Unmet.TheVariants.{Refused, Unsolved}
use Rattle.checker.specs.declared.lists.Ran.{Ran}
use Rattle.checker.specs.declared.visits.Passed.{Passed}
use Rattle.checker.specs.Cells.{cell, depth_in, held}
use Rattle.checker.specs.Promise.{Listed, Astray, Solution}
use Rattle.checker.specs.Reasons.{Leaves, Because}

-- the greater of a depth and the one that a cell holds; 65,536 counts as 0
abbrev pub greater : ℕ → ℕ → ℕ
greater most x = max most (x % no_depth)

abbrev pub greatest_in : List ℕ → ℕ
greatest_in c = fold greater 0 c

-- the depths so far: each is a place's, and derived
pub record Sound (last : ℕ) (s st c : List ℕ) : Type 0 where
  pub small : (o : ℕ) → cell c o ≤ no_depth
  pub place : (o d : ℕ) → depth_in c o ≡ Some d → Place last s o
  pub derived : (o d : ℕ) → depth_in c o ≡ Some d → Derived last s st o d

-- the instruction at o, if there is one, is respected with the depth d
abbrev pub KeptAt : ℕ → List ℕ → List ℕ → ℕ → ℕ → Type 0
KeptAt last s c o d = (f : Flow) → Stands last s o f → Kept (depth_in c) f o d

-- the instruction at o has the depth d and moves on as f says
pub record Here (last : ℕ) (s st : List ℕ) (o d : ℕ) (f : Flow) : Type 0 where
  pub place : Place last s o
  pub stands : Stands last s o f
  pub derived : Derived last s st o d

-- the list of places still to visit, in the work cells

-- what a work cell holds beside the list's entry where a place is: more than any offset
abbrev pub place_mark : ℕ
place_mark = 2097152

-- the list's entry at j
abbrev pub entry : List ℕ → ℕ → ℕ
entry w j = get_or w j 0 % place_mark

-- the places, and no other offsets, are marked
pub record Marks (last : ℕ) (s w : List ℕ) : Type 0 where
  pub place : (o : ℕ) → Place last s o → place_mark ≤ get_or w o 0
  pub only : (o : ℕ) → place_mark ≤ get_or w o 0 → Place last s o

-- o is among the first `top` entries
abbrev pub Waits : List ℕ → ℕ → ℕ → Type 0
Waits w top o = (j : ℕ) × ((j < top) × (entry w j ≡ o))

-- the list has `top` entries, offsets that have a depth, and no more than there are depths
pub record Ready (c w : List ℕ) (top : ℕ) : Type 0 where
  pub size : length w ≡ length c
  pub short : length c ≤ place_mark
  pub small : (j : ℕ) → get_or w j 0 < 2 * place_mark
  pub deep : (j : ℕ) → j < top → cell c (entry w j) ≤ word_max
  pub clear : (j : ℕ) → top ≤ j → entry w j ≡ 0
  pub light : top ≤ held c

-- the list with o on top of it
abbrev pub in_hand : List ℕ → ℕ → ℕ → List ℕ
in_hand w top o = set w top (get_or w top 0 + o)

-- the entry j is off the list
pub record Took (w w' : List ℕ) (j o : ℕ) : Type 0 where
  pub is : o ≡ entry w j
  pub size : length w' ≡ length w
  pub here : get_or w' j 0 ≡ get_or w j 0 - entry w j
  pub there : (i : ℕ) → (i ≡ j → ⊥) → get_or w' i 0 ≡ get_or w i 0

-- P of the list and of how the work on it went, where a place in hand is seen as if it stood on the list: so what is
-- said of lists is said of it too. `top` entries wait.
abbrev pub PassesWith : List ℕ → ℕ → (List ℕ → Result ℕ Reason → Type 0) → Result (Option ℕ) Reason → Type 0
PassesWith w top P (Ok None) = P w (Ok top)
PassesWith w top P (Ok (Some o)) = P (in_hand w top o) (Ok (top + 1)) × Took (in_hand w top o) w top o
PassesWith w top P (Err why) = P w (Err why)

abbrev pub Passes : List ℕ → (List ℕ → Result ℕ Reason → Type 0) → Result Passed Reason → Type 0
Passes w P (Ok p) = PassesWith w p.top P (Ok p.next)
Passes w P (Err why) = P w (Err why)

-- the list went on from `top` entries to t: each cell that got a depth waits, and there are as many entries more as
-- depths, so each was put on the list once
pub record Grew (c c' w w' : List ℕ) (top t : ℕ) : Type 0 where
  pub ready : Ready c' w' t
  pub size : length c' ≡ length c
  pub keeps : (o d : ℕ) → depth_in c o ≡ Some d → depth_in c' o ≡ Some d
  pub waits : (o d : ℕ) → depth_in c' o ≡ Some d → (depth_in c o ≡ Some d) ⊎ Waits w' t o
  pub stays : (j : ℕ) → j < top → entry w' j ≡ entry w j
  pub marks : (j : ℕ) → get_or w' j 0 / place_mark ≡ get_or w j 0 / place_mark
  pub more : top ≤ t
  pub weigh : held c + t ≡ held c' + top

-- the answer r says A of a number, or B of a reason
pub record Says (A : ℕ → Type 0) (B : Reason → Type 0) (r : Result ℕ Reason) : Type 0 where
  pub on : (n : ℕ) → r ≡ Ok n → A n
  pub stuck : (why : Reason) → r ≡ Err why → B why

-- a piece of work that relies on G went on: the depths are sound if they were, and P holds of them
pub record GoesOn (last : ℕ) (s st : List ℕ) (G : Type 0) (P : List ℕ → Type 0) (c c' w w' : List ℕ) (top t : ℕ)
    : Type 0 where
  pub grew : Grew c c' w w' top t
  pub sound : G → Sound last s st c → Sound last s st c'
  pub has : P c'

-- such work went on, or is stuck for a reason
abbrev pub Goes : (last : ℕ) (s st : List ℕ) (G : Type 0) (P : List ℕ → Type 0) (c c' w w' : List ℕ) (top : ℕ)
    → Result ℕ Reason → Type 0
Goes last s st G P c c' w w' top r =
    Says (GoesOn last s st G P c c' w w' top) (λ why. G → Sound last s st c → Because last s st why) r

-- the place o is asked to have the depth d
abbrev pub Asked : (c c' w w' : List ℕ) (top o d : ℕ) → Result ℕ Reason → Type 0
Asked c c' w w' top o d r =
    (last : ℕ) (s st : List ℕ)
    → Goes last s st (Place last s o × Derived last s st o d) (λ x. depth_in x o ≡ Some d) c c' w w' top r

-- the same by work that has no list: with any list that is ready, what gets its depth is in hand
abbrev pub Handed : (c c' : List ℕ) (o d : ℕ) → Result (Option ℕ) Reason → Type 0
Handed c c' o d r =
    (w : List ℕ) (top : ℕ) → Ready c w top → PassesWith w top (λ x y. Asked c c' w x top o d y) r

-- a depth after a change, where it is in range
abbrev pub Landed : (d : ℕ) (change : Effect) → Option ℕ → Type 0
Landed d change (Some e) = (e ≤ word_max) × Leads d change e
Landed d change None = Leaves d change

-- the instruction at `at` falls through, its jump is taken, and both
abbrev pub Fell : (f : Flow) (c c' w w' : List ℕ) (top at d : ℕ) → Result ℕ Reason → Type 0
Fell f c c' w w' top at d r =
    (last : ℕ) (s st : List ℕ)
    → Goes last s st (Here last s st at d f) (λ x. Falls (depth_in x) f at d) c c' w w' top r

abbrev pub FellInHand : (f : Flow) (c c' : List ℕ) (at d : ℕ) → Result (Option ℕ) Reason → Type 0
FellInHand f c c' at d r =
    (w : List ℕ) (top : ℕ) → Ready c w top → PassesWith w top (λ x y. Fell f c c' w x top at d y) r

abbrev pub Jumped : (f : Flow) (c c' w w' : List ℕ) (top at d : ℕ) → Result ℕ Reason → Type 0
Jumped f c c' w w' top at d r =
    (last : ℕ) (s st : List ℕ)
    → Goes last s st (Here last s st at d f × Marks last s w) (λ x. (f.goal ≡ Nowhere → ⊥) → Jumps (depth_in x) f d)
    c c' w w' top r

abbrev pub Moved : (f : Flow) (c c' w w' : List ℕ) (top at d : ℕ) → Result ℕ Reason → Type 0
Moved f c c' w w' top at d r =
    (last : ℕ) (s st : List ℕ)
    → Goes last s st (Here last s st at d f × Marks last s w) (λ x. Kept (depth_in x) f at d) c c' w w' top r

-- what stands at `at`, whose offset has a depth, is visited
abbrev pub Expanded : (last : ℕ) (s c c' w w' : List ℕ) (top at : ℕ) → Result ℕ Reason → Type 0
Expanded last s c c' w w' top at r =
    (st : List ℕ) → Goes last s st (Marks last s w) (λ x. KeptAt last s x at (cell c at)) c c' w w' top r

-- the starts' depths are in range, and their offsets in the cells
abbrev pub StartsIn : List ℕ → List ℕ → Type 0
StartsIn st c = (k : ℕ) → 2 * k + 1 < length st → (get_or st (2 * k + 1) 0 ≤ word_max) × (get_or st (2 * k) 0 < length c)

-- the starts have their depths
abbrev pub HasStarts : List ℕ → List ℕ → Type 0
HasStarts st c = (o d : ℕ) → Begins st o d → depth_in c o ≡ Some d

abbrev pub Begun : (st c c' w w' : List ℕ) → Result ℕ Reason → Type 0
Begun st c c' w w' r = (last : ℕ) (s : List ℕ) → Goes last s st (Listed last s st) (HasStarts st) c c' w w' 0 r

-- all that has a depth waits, and waits once
pub record Loaded (last : ℕ) (s c w : List ℕ) (top : ℕ) : Type 0 where
  pub ready : Ready c w top
  pub marks : Marks last s w
  pub waits : (o d : ℕ) → depth_in c o ≡ Some d → Waits w top o
  pub weigh : top ≡ held c

-- after k places were visited, all that has a depth is respected or waits; no place is visited twice, since those
-- visited and those that wait are as many as have a depth. The work began with the depth cells c₀.
pub record Draining (last : ℕ) (s c₀ c w : List ℕ) (top k : ℕ) : Type 0 where
  pub ready : Ready c w top
  pub size : length c ≡ length c₀
  pub marks : Marks last s w
  pub closing : (o d : ℕ) → depth_in c o ≡ Some d → KeptAt last s c o d ⊎ Waits w top o
  pub weigh : k + top ≡ held c
  pub keeps : (o d : ℕ) → depth_in c₀ o ≡ Some d → depth_in c o ≡ Some d
  pub sound : (st : List ℕ) → Sound last s st c₀ → Sound last s st c

-- the same with a place in hand; `list` is the list as if the place stood on it
pub record InHand (last : ℕ) (s c₀ c w : List ℕ) (top at k : ℕ) : Type 0 where
  pub list : List ℕ
  pub draining : Draining last s c₀ c list (top + 1) k
  pub took : Took list w top at

-- the code was followed from the place in hand
abbrev pub Followed : (last : ℕ) (s c c' w' : List ℕ) (k : ℕ) → Result Ran Reason → Type 0
Followed last s c c' w' k (Ok ran) = (k < ran.taken) × Draining last s c c' w' ran.top ran.taken
Followed last s c c' w' k (Err why) = (st : List ℕ) → Sound last s st c → Because last s st why

-- the list is empty, after k places were visited: the instructions are all respected
pub record Emptied (last : ℕ) (s c c' : List ℕ) (k : ℕ) : Type 0 where
  pub keeps : (o d : ℕ) → depth_in c o ≡ Some d → depth_in c' o ≡ Some d
  pub sound : (st : List ℕ) → Sound last s st c → Sound last s st c'
  pub kept : (o d : ℕ) → depth_in c' o ≡ Some d → KeptAt last s c' o d
  pub count : k ≡ held c'

abbrev pub Drained : (last : ℕ) (s c c' : List ℕ) → Result ℕ Reason → Type 0
Drained last s c c' r = Says (Emptied last s c c') (λ why. (st : List ℕ) → Sound last s st c → Because last s st why) r

-- the starts and all that follows from them
pub record Reached (last : ℕ) (s st c : List ℕ) (k : ℕ) : Type 0 where
  pub sound : Sound last s st c
  pub assigns : Assigns last s st (depth_in c)
  pub count : k ≡ held c

abbrev pub Came : (last : ℕ) (s st c : List ℕ) → Result ℕ Reason → Type 0
Came last s st c r = Says (Reached last s st c) (Because last s st) r

-- walks

-- the size of the instruction at an offset; 0 where none stands
pub record Sized (last : ℕ) (s : List ℕ) (at r : ℕ) : Type 0 where
  pub stands : (r ≡ 0 → ⊥) → (f : Flow) × (Stands last s at f × (f.size ≡ r))
  pub none : r ≡ 0 → (f : Flow) → Stands last s at f → ⊥

-- what a walk meets where no instruction stands
abbrev pub stop_of : Step → Result (Unit {0}) Refusal
stop_of (Ok (Some i)) = Ok tt
stop_of (Ok None) = Ok tt
stop_of (Err q) = Err q

-- the code has no fault
abbrev pub NoFault : ℕ → List ℕ → Type 0
NoFault last s = (q : Refusal) → Faulty last s q → ⊥

-- the work cells where the work begins
pub record Marked (last : ℕ) (s w : List ℕ) : Type 0 where
  pub place : (o : ℕ) → Place last s o → get_or w o 0 ≡ place_mark
  pub only : (o : ℕ) → (get_or w o 0 ≡ 0) ⊎ ((get_or w o 0 ≡ place_mark) × Place last s o)

-- the walk for faults, which marks the places
abbrev pub Walked : (last : ℕ) (s w : List ℕ) → Result (Unit {0}) Refusal → Type 0
Walked last s w (Ok u) = NoFault last s × Marked last s w
Walked last s w (Err q) = Faulty last s q

-- r says whether P holds
pub record Tells (r : Bool) (P : Type 0) : Type 0 where
  pub yes : r ≡ true → P
  pub no : r ≡ false → P → ⊥

-- by the marks, r says whether the start list can be
abbrev pub StartsTold : (w st : List ℕ) (r : Bool) → Type 0
StartsTold w st r = (last : ℕ) (s : List ℕ) → Marks last s w → Tells r (Listed last s st)

-- cells of just the code's length and one
pub record Fitted (s c w : List ℕ) : Type 0 where
  pub short : length s ≤ code_limit
  pub cells : length c ≡ suc (length s)
  pub work : length w ≡ suc (length s)

-- the whole work on them: what is refused before 23, or what the depth cells became
abbrev pub Examined : (last : ℕ) (s st c c' : List ℕ) → Result Assignment Unmet → Type 0
Examined last s st c c' (Ok a) = NoFault last s × Listed last s st × Solution last s st c' a
Examined last s st c c' (Err (Unsolved why)) =
    NoFault last s × Listed last s st × Because last s st why × (c' ≡ replicate (suc (length s)) no_depth)
Examined last s st c c' (Err (Refused q)) = (Faulty last s q ⊎ (NoFault last s × Astray last s st q)) × (c' ≡ c)

-- the refusal without the reason
abbrev pub refusal_of : Unmet → Refusal
refusal_of (Refused q) = q
refusal_of (Unsolved why) = NoDepths
