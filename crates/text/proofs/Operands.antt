-- Laws of the operands' text, for each arm of the `match` on an operand.
-- Assumes nothing.
use mathlib.Core.Path.{◌≡◌, sym, ap, ◌∙◌, subst}
use mathlib.Core.List.{List, ◌∷◌, ◌++◌}
use Prim.Native.Nat.{ℕ, ◌≤◌}
use lib.ListN.{length}
use Rattle.op.specs.Opcodes.{last_opcode}
use Rattle.op.specs.declared.Operand.{Operand}
use Rattle.op.specs.declared.Operand.TheVariants as O
use Rattle.code.specs.Bytes.{words_in}
use Rattle.code.specs.Decode.{names_at}
use Rattle.text.specs.Decimal.{decimal}
use Rattle.text.specs.Fields.{call_text, operands_at}
use Rattle.text.specs.Put.{Put}
use Rattle.text.specs.Row.{wholes, whole_texts}
use Rattle.text.proofs.Splitting.{join_led}

-- room for an operand's text is room for the text of what it is found to be
pub arm_fits : (u : List ℕ) {o x : Operand} {l : List ℕ} (n : ℕ) → o ≡ x → operands_at x u ≡ l
    → length (operands_at o u) ≤ n → length l ≤ n
arm_fits u {o} {x} {l} n e t h = subst (λ (s : List ℕ). length s ≤ n) (ap (λ (y : Operand). operands_at y u) e ∙ t) h

-- and what is put then is the operand's text
pub arm_put : (u : List ℕ) {o x : Operand} {l d d' : List ℕ} {to r : ℕ} → o ≡ x → operands_at x u ≡ l → Put d to l r d'
    → Put d to (operands_at o u) r d'
arm_put u {o} {x} {l} {d} {d'} {to} {r} e t p =
    subst (λ (s : List ℕ). Put d to s r d') (sym (ap (λ (y : Operand). operands_at y u) e ∙ t)) p

-- a keyword call, with the names' bytes
pub call_text_lem : (u bytes : List ℕ) (p n : ℕ) → bytes ≡ names_at last_opcode u
    → operands_at (O.CallKw p n) u ≡ call_text p n bytes
call_text_lem u bytes p n e =
    ap (λ (l : List ℕ). decimal p ++ (44 ∷ l))
    (join_led 44 (decimal n) (whole_texts (wholes (words_in (names_at last_opcode u)))))
    ∙ ap (λ (b : List ℕ). call_text p n b) (sym e)

pub attr_text : (u bytes : List ℕ) (a p n : ℕ) → bytes ≡ names_at last_opcode u
    → operands_at (O.CallAttrKw a p n) u ≡ decimal a ++ (44 ∷ call_text p n bytes)
attr_text u bytes a p n e = ap (λ (l : List ℕ). decimal a ++ (44 ∷ l)) (call_text_lem u bytes p n e)
