-- The history: the instructions accepted while live, each with its offset and the depth before it. It comes from the
-- calls, their answers and the depths before them, never from bytes.
-- Assumes nothing.
use Rattle.std.specs.Prelude.{cond, List, [], ◌∷◌, ◌++◌, map, ℕ, ◌+◌, eqb, pos, length, Some, None, Option}
use Rattle.std.proofs.Math.IntN.{sub_ℕ}
use Rattle.op.specs.declared.Operand.{Operand}
use Rattle.op.specs.declared.Refusal.{Refusal}
use Rattle.code.specs.Reading.{Spot, instruction}
use Rattle.code.specs.Tables.{jump_size}
use Rattle.builder.specs.declared.JumpLabel.{JumpLabel}
use Rattle.builder.specs.declared.JumpLabel.TheVariants as L
use Rattle.builder.specs.declared.JumpTarget.{JumpTarget}
use Rattle.builder.specs.declared.JumpTarget.TheVariants as T
use Rattle.demand.specs.Isa.{Isa}
use Rattle.demand.specs.Machine.{isa}

-- where a jump goes: where its label will be patched, or a place
pub data Aim : Type 0 where
  waits : ℕ → Aim
  to : ℕ → Aim

pub data What (I : Isa) : Type 0 where
  one : I.Plain → What I
  leap : I.Jump → Aim → What I

-- an instruction accepted while live: its offset, the depth before it, and what it is
pub record Row (I : Isa) : Type 0 where
  pub offset : ℕ
  pub depth : ℕ
  pub what : What I

-- the depth at the end, where it is live
abbrev pub at_end : Option ℕ → Option ℕ
at_end None = None
at_end (Some d) = Some d

module _ (I : Isa) where
  -- how many bytes it has
  abbrev pub size : What I → ℕ
  size (one p) = length (I.bytes p)
  size (leap j g) = jump_size

  -- the instruction that is to be read: "its target less the offset of its opcode less 3"; a jump that still waits
  -- has 0
  abbrev pub final : ℕ → What I → I.Ins
  final o (one p) = I.plain p
  final o (leap j (waits l)) = I.jump j (pos 0)
  final o (leap j (to t)) = I.jump j (sub_ℕ t (o + jump_size))

  abbrev pub settled_aim : ℕ → ℕ → What I → What I
  settled_aim l t (one p) = one p
  settled_aim l t (leap j (waits m)) = leap j (cond (eqb m l) (to t) (waits m))
  settled_aim l t (leap j (to u)) = leap j (to u)

  -- the jump of the label l goes to t
  abbrev pub resolve : ℕ → ℕ → Row I → Row I
  resolve l t r = record { offset = r.offset; depth = r.depth; what = settled_aim l t r.what }

  -- the depth at an offset: an instruction's, the end's if it is live, and nowhere else one
  abbrev pub depth_at : List (Row I) → ℕ → Option ℕ → ℕ → Option ℕ
  depth_at [] n here o = cond (eqb n o) (at_end here) None
  depth_at (r ∷ rs) n here o = cond (eqb r.offset o) (Some r.depth) (depth_at rs n here o)

-- a row as it is to be read
abbrev pub spot_of : Row isa → Spot
spot_of r = record { offset = r.offset; what = final isa r.offset r.what; size = size isa r.what }

-- the instructions in order, each where it stands
abbrev pub program : List (Row isa) → List Spot
program rows = map spot_of rows

-- the kinds of calls: an instruction with its names, the calls about jumps and regions, and those that emit nothing
pub data Call : Type 0 where
  emit : ℕ → Operand → List ℕ → Call
  emit_jump_call : ℕ → Call
  emit_jump_to_call : ℕ → JumpTarget → Call
  patch_jump_call : JumpLabel → Call
  jump_target_call : Call
  new_region : ℕ → Call
  other : Call

-- what the history needs of an answer
pub data Given : Type 0 where
  no : Refusal → Given
  ok : Given
  label : JumpLabel → Given
  target : JumpTarget → Given

-- the rows so far, the offset behind them, the targets answered with their offsets, and the starts
pub record History : Type 0 where
  pub rows : List (Row isa)
  pub end : ℕ
  pub targets : List (ℕ × ℕ)
  pub starts : List (ℕ × ℕ)

-- the start of a new builder
abbrev pub born : Option ℕ → List (ℕ × ℕ)
born None = []
born (Some d) = (0, d) ∷ []

abbrev pub blank : Option ℕ → History
blank told = record { rows = []; end = 0; targets = []; starts = born told }

-- an instruction accepted at a depth; in dead code none is
abbrev pub add : History → Option ℕ → What isa → History
add h None w = h
add h (Some d) w = record {
  rows = h.rows ++ (record { offset = h.end; depth = d; what = w } ∷ []);
  end = h.end + size isa w;
  targets = h.targets;
  starts = h.starts;
}

-- a label is patched here
abbrev pub patch_here : History → ℕ → History
patch_here h l = record { rows = map (resolve isa l h.end) h.rows; end = h.end; targets = h.targets; starts = h.starts }

-- a target is here
abbrev pub target_here : History → ℕ → History
target_here h i = record { rows = h.rows; end = h.end; targets = (i, h.end) ∷ h.targets; starts = h.starts }

-- a region begins here
abbrev pub start_here : History → ℕ → History
start_here h d = record { rows = h.rows; end = h.end; targets = h.targets; starts = h.starts ++ ((h.end, d) ∷ []) }

-- the offset of a target
abbrev pub look : List (ℕ × ℕ) → ℕ → ℕ
look [] i = 0
look (x ∷ l) i = cond (eqb x.0 i) x.1 (look l i)

-- by the answer: what an accepted call, a label or a target adds, else the history as it was
abbrev pub on_ok : Given → History → History → History
on_ok ok new old = new
on_ok (no r) new old = old
on_ok (label l) new old = old
on_ok (target t) new old = old

abbrev pub on_label : Given → (ℕ → History) → History → History
on_label ok new old = old
on_label (no r) new old = old
on_label (label L.Dead) new old = old
on_label (label (L.Row i)) new old = new i
on_label (target t) new old = old

abbrev pub on_target : Given → (ℕ → History) → History → History
on_target ok new old = old
on_target (no r) new old = old
on_target (label l) new old = old
on_target (target T.Dead) new old = old
on_target (target (T.Row i)) new old = new i

-- the history after a call, made at a depth and answered so
abbrev pub seen : History → Option ℕ → Call → Given → History
seen h d (emit k o ns) a = on_ok a (add h d (one (instruction k o ns))) h
seen h d (emit_jump_call k) a = on_label a (λ i. add h d (leap k (waits i))) h
seen h d (emit_jump_to_call k T.Dead) a = h
seen h d (emit_jump_to_call k (T.Row i)) a = on_ok a (add h d (leap k (to (look h.targets i)))) h
seen h d (patch_jump_call L.Dead) a = h
seen h d (patch_jump_call (L.Row i)) a = on_ok a (patch_here h i) h
seen h d jump_target_call a = on_target a (target_here h) h
seen h d (new_region e) a = on_ok a (start_here h e) h
seen h d other a = h
