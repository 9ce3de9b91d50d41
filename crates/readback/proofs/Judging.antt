-- A line is judged as the listing wrote it, both ways.
-- Assumes nothing.
use Rattle.op.specs.declared.Shape.{Shape}
use Rattle.op.specs.declared.Refusal.{Refusal}
use Rattle.std.specs.Prelude.{Ok, Err, Result, None, Option, Some}
use mathlib.Core.Path.{◌≡◌, refl, sym, ap, ◌∙◌, subst}
use mathlib.Core.Bool.{Bool, true, false, cond}
use mathlib.Core.List.{List}
use Prim.Native.Nat.{ℕ, ◌≤◌, ◌<◌}
use native.Mathlib.Omega.{arith}
use lib.Dec.{leb, eqb}
use lib.IntN.{ℤ, pos, negsuc}
use lib.ListN.{length}
use borrow.Author.Tests.{le-leb, leb-true, eq-eqb, eqb-true}
use Rattle.base.proofs.Bools.{and_true, clash}
use Rattle.op.specs.Opcodes.{table}
use Rattle.op.specs.Shapes.{shape_of, operand_shape}
use Rattle.op.specs.declared.Operand.{Operand}
use Rattle.op.specs.declared.Refusal.TheVariants.{Full, Disagrees}
use Rattle.op.specs.declared.Table.TheVariants.{Code}
use Rattle.code.specs.Decode.{names_in}
use Rattle.code.specs.Encode.{Formed as WellFormed}
use Rattle.code.specs.Encode.{encode}
use Rattle.code.proofs.Ranges.{InRange}
use Rattle.text.specs.Reading.{read_row}
use Rattle.text.specs.Row.{Row, operands_of, row_of, target_of, row_text}
use Rattle.text.proofs.RowsBack.{row_back}
use Rattle.text.proofs.RowsOnly.{row_text_lem}
use Rattle.readback.specs.Operands.{Said, said, and_then}
use Rattle.readback.specs.Formed.{Formed, alike, said_by, formed_by, formed_row, formed, same_whole, same_target}
use Rattle.readback.specs.Formed.{agrees, bytes_in, Good, Bad, judge_formed, judge_by, judge}
use Rattle.readback.proofs.Saying.{nothing, only, got, Words, said_back, Says, said_only}

-- equal targets

alike_self : (z : Option ℤ) → alike z z ≡ true
alike_self None = refl
alike_self (Some z) = refl

whole_self : (z : ℤ) → same_whole z z ≡ true
whole_self (pos n) = eq-eqb n n refl
whole_self (negsuc n) = eq-eqb n n refl

target_self : (z : Option ℤ) → same_target z z ≡ true
target_self None = refl
target_self (Some z) = whole_self z

whole_is : (y z : ℤ) → same_whole y z ≡ true → y ≡ z
whole_is (pos m) (pos n) e = ap pos (eqb-true m n e)
whole_is (pos m) (negsuc n) e = clash cc
whole_is (negsuc m) (pos n) e = clash cc
whole_is (negsuc m) (negsuc n) e = ap negsuc (eqb-true m n e)

target_is : (y z : Option ℤ) → same_target y z ≡ true → y ≡ z
target_is None None e = refl
target_is None (Some z) e = clash cc
target_is (Some y) None e = clash cc
target_is (Some y) (Some z) e = ap Some (whole_is y z e)

-- the line of a well formed instruction in range gives its bytes
module _ (at k : ℕ) (o : Operand) (names : List ℕ) (h : k < length table) (s : shape_of k ≡ Ok (operand_shape o))
    (r : InRange o) (c : names_in o ≡ length names) (w : Words names) where
  formed_back : formed (row_text (row_of at k o names)) ≡ Some (record { row = row_of at k o names; said = said o names })
  unfolding formed formed_row and_then
  formed_back = rw (
    row_back (row_of at k o names) h,
    s,
    said_back names o r c w,
    alike_self (target_of at o),
  )

  pub judge_back : (room : ℕ) → length (encode k o names) ≤ room
      → judge at room (row_text (row_of at k o names)) ≡ Good (encode k o names)
  unfolding judge judge_formed agrees
  judge_back room l = rw (
    formed_back,
    eq-eqb at at refl,
    target_self (target_of at o),
    le-leb (length (encode k o names)) room l,
  )

-- and a line that gives bytes is that of an instruction
pub record Judges (at room : ℕ) (t bytes : List ℕ) : Type 0 where
  pub opcode : ℕ
  pub operand : Operand
  pub names : List ℕ
  pub known : opcode < length table
  pub well : WellFormed opcode operand names
  pub line_is : t ≡ row_text (row_of at opcode operand names)
  pub bytes_are : bytes ≡ encode opcode operand names
  pub fits : length bytes ≤ room

-- a line that is formed
pub record FormedOf (t : List ℕ) (f : Formed) : Type 0 where
  pub line_is : t ≡ row_text f.row
  pub known : f.row.opcode < length table
  pub well : WellFormed f.row.opcode f.said.operand f.said.names
  pub says : Says (operand_shape f.said.operand) f.row.operands f.said

by_shape : (r : Row) (x : Said) (p : Result Shape Refusal) → shape_of r.opcode ≡ p → said_by p r.operands ≡ Some x
    → (shape_of r.opcode ≡ Ok (operand_shape x.operand)) × Says (operand_shape x.operand) r.operands x
by_shape r x (Err q) e s = absurd (nothing s)
by_shape r x (Ok sh) e s =
    let y = said_only r.operands x sh s in
    (e ∙ ap Ok (sym y.shape), rw y.shape y)

pub formed_only : (t : List ℕ) (f : Formed) → formed t ≡ Some f → FormedOf t f
unfolding formed formed_row
formed_only t f e =
    let g = got (read_row t) formed_row f e in
    let r = g.value in
    let w = row_text_lem t r g.is in
    let x = got (said_by (shape_of r.opcode) r.operands) (formed_by r) f g.rest in
    let a : Formed = record { row = r; said = x.value } in
    let q = only (alike r.target (target_of r.offset x.value.operand)) a f x.rest in
    let p = by_shape r x.value (shape_of r.opcode) refl x.is in
    subst (λ (y : Formed). FormedOf t y) q.1 (record {
      line_is = w.0;
      known = w.1;
      well = record { shape = p.0; signs = p.1.signs; count = p.1.count };
      says = p.1;
    })

-- a row by its fields
row_is : (r : Row) (at : ℕ) (o : Operand) (names : List ℕ) → r.offset ≡ at → r.operands ≡ operands_of o names
    → r.target ≡ target_of at o
    → r ≡ row_of at r.opcode o names
row_is r at o names p q s =
    let with : (ℕ → List ℤ → Option ℤ → Row) =
    λ m zs z. record { offset = m; opcode = r.opcode; operands = zs; target = z } in
    ap (λ (m : ℕ). with m r.operands r.target) p ∙ ap (λ (zs : List ℤ). with at zs r.target) q
    ∙ ap (with at (operands_of o names)) s

no_good : {bytes : List ℕ} {r : _} → Bad r ≡ Good bytes → ⊥
no_good e = clash cc

module _ (at room : ℕ) (t bytes : List ℕ) where
  accepted : (f : Formed) (a b : Bool) → agrees at f ≡ a → leb (length (bytes_in f)) room ≡ b
      → cond a (cond b (Good (bytes_in f)) (Bad (Full Code))) (Bad Disagrees) ≡ Good bytes
      → (agrees at f ≡ true) × (length (bytes_in f) ≤ room) × (bytes_in f ≡ bytes)
  accepted f true true p q e = (p, leb-true (length (bytes_in f)) room q, cc)
  accepted f true false p q e = absurd (no_good e)
  accepted f false b p q e = absurd (no_good e)

  judges : (f : Formed) → FormedOf t f → judge_formed at room f ≡ Good bytes → Judges at room t bytes
  unfolding judge_formed agrees
  judges f w e =
      let r = f.row in
      let a = accepted f (agrees at f) (leb (length (bytes_in f)) room) refl refl e in
      let b = and_true (eqb r.offset at) (same_target r.target (target_of at f.said.operand)) a.0 in
      let o = eqb-true r.offset at b.0 in
      let z = target_is r.target (target_of at f.said.operand) b.1 in
      let row = row_is r at f.said.operand f.said.names o w.says.numbers z in
      record {
        opcode = r.opcode;
        operand = f.said.operand;
        names = f.said.names;
        known = w.known;
        well = w.well;
        line_is = w.line_is ∙ ap row_text row;
        bytes_are = sym a.2;
        fits = omega (arith, a.1, ap length a.2);
      }

  by_formed : (f : Option Formed) → formed t ≡ f → judge_by at room f ≡ Good bytes → Judges at room t bytes
  by_formed None q e = absurd (no_good e)
  by_formed (Some f) q e = judges f (formed_only t f q) e

  pub judge_only : judge at room t ≡ Good bytes → Judges at room t bytes
  unfolding judge
  judge_only e = by_formed (formed t) refl e
