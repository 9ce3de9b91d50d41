-- A line as the code reads it: its fields, its instruction, its place, and its bytes.
-- Assumes nothing.
use Rattle.std.specs.Prelude.{Ok, Err, Result, None, Option, Some}
use mathlib.Core.Path.{◌≡◌, refl, ap, ◌∙◌, subst}
use mathlib.Core.Bool.{Bool, true, false, cond, ◌&&◌}
use mathlib.Core.List.{List, [], ◌∷◌}
use Prim.Native.Nat.{ℕ, suc, ◌+◌, ◌-◌, ◌≤◌, ◌<◌}
use native.Mathlib.Numerals.{add-one}
use native.Mathlib.Omega.{arith}
use lib.Dec.{eqb}
use lib.IntN.{ℤ}
use lib.ListN.{length, take, drop}
use Rattle.op.specs.Opcodes.{known}
use Rattle.op.specs.Shapes.{shape_of}
use Rattle.op.specs.declared.Operand.{Operand}
use Rattle.op.specs.declared.Operand.TheVariants as O
use Rattle.op.specs.declared.Refusal.{Refusal}
use Rattle.op.specs.declared.Refusal.TheVariants.{NotALine, Disagrees}
use Rattle.code.specs.Encode.{encode}
use Rattle.text.specs.Number.{natural, value}
use Rattle.text.specs.Parts.{split}
use Rattle.text.specs.Reading.{only_if, opcode_of, read_operands, read_target, row, read_fields, read_row}
use Rattle.text.specs.Row.{Row, target_of}
use Rattle.text.proofs.Splitting.{split_some}
use Rattle.readback.specs.Operands.{Said, and_then}
use Rattle.readback.specs.Formed.{alike, said_by, formed_row, formed, same_target, agrees, Judged, Bad}
use Rattle.readback.specs.Formed.{judge_formed, judge_by}
use Rattle.readback.specs.Inner.{cut_at}
use Rattle.readback.specs.Lined.{met_if, offset_by, offset_of, reached_of, verdict_of, said_in, stored_as, Lays}
use Rattle.readback.specs.declared.placing.Met.TheVariants as M
use Rattle.readback.proofs.Cutting.{split_cut, split_whole, rest_is}
use Rattle.readback.proofs.Saying.{nothing}
use Rattle.readback.proofs.Telling.{saying}

-- a line in its fields

unfoldable pub judged_as : Result Unit Refusal → List ℕ → ℕ → Judged
judged_as (Ok done) bytes room = stored_as bytes room
judged_as (Err r) bytes room = Bad r

alike_anywhere : (z : Option ℤ) (m n : ℕ) (o : Operand) → alike z (target_of m o) ≡ alike z (target_of n o)
alike_anywhere z m n O.None = refl
alike_anywhere z m n (O.U8 a) = refl
alike_anywhere z m n (O.I8 y) = refl
alike_anywhere z m n (O.U16 a) = refl
alike_anywhere None m n (O.Offset y) = refl
alike_anywhere (Some z) m n (O.Offset y) = refl
alike_anywhere z m n (O.U8U8 a b) = refl
alike_anywhere z m n (O.U16U8 a b) = refl
alike_anywhere z m n (O.U16U16 a b) = refl
alike_anywhere z m n (O.U16U8U8 a b c) = refl
alike_anywhere z m n (O.CallKw p k) = refl
alike_anywhere z m n (O.CallAttrKw a p k) = refl
alike_anywhere z m n (O.U16U16U8 a b c) = refl

module _ (at room v k : ℕ) (x : Said) where
  abbrev said_bytes_of : List ℕ
  said_bytes_of = encode k x.operand x.names

  -- no target can stand there, whatever the offset
  no_target : (off : Bool) → Bad NotALine ≡ judged_as (verdict_of (met_if off) M.Not) said_bytes_of room
  unfolding judged_as
  no_target true = refl
  no_target false = refl

  both_columns : (off met : Bool)
      → cond (off && met) (stored_as said_bytes_of room) (Bad Disagrees)
      ≡ judged_as (verdict_of (met_if off) (met_if met)) said_bytes_of room
  unfolding judged_as
  both_columns true true = refl
  both_columns true false = refl
  both_columns false true = refl
  both_columns false false = refl

  by_target : (l : List ℤ) (z : Option ℤ) (b : Bool) → alike z (target_of at x.operand) ≡ b
      → (let r : Row = record { offset = v; opcode = k; operands = l; target = z } in
      judge_by at room (only_if b (record { row = r; said = x })))
      ≡ judged_as
      (verdict_of (met_if (eqb v at)) (cond b (met_if (same_target z (target_of at x.operand))) M.Not)) said_bytes_of room
  unfolding judge_formed agrees stored_as
  by_target l z true e = both_columns (eqb v at) (same_target z (target_of at x.operand))
  by_target l z false e = no_target (eqb v at)

  by_fields : (n : Bool) (zs : Option (List ℤ)) → and_then zs (said_by (shape_of k)) ≡ Some x → (z : Option (Option ℤ))
      → judge_by at room (and_then (row n v true k zs z) formed_row)
      ≡ judged_as (verdict_of (offset_by at n v) (reached_of z (target_of at x.operand))) said_bytes_of room
  unfolding and_then formed_row judged_as reached_of
  by_fields false zs e z = refl
  by_fields true None e z = absurd (nothing e)
  by_fields true (Some l) e None = no_target (eqb v at)
  by_fields true (Some l) e (Some z) =
      rw (e, alike_anywhere z v at x.operand) (by_target l z (alike z (target_of at x.operand)) refl)

-- a line that is refused changes nothing
pub lays_bad : (j : Judged) (r : Refusal) (old : List ℕ) → j ≡ Bad r → Lays j old (Err r) old
lays_bad j r old e = rw e (record { answers = refl; cells = refl })

module _ (at room : ℕ) (a b c d : List ℕ) where
  abbrev Fields : List (List ℕ)
  Fields = a ∷ b ∷ c ∷ d ∷ []

  pub judge_said : (x : Said) → said_in (opcode_of b) (read_operands c) ≡ Some x
      → judge_by at room (and_then (read_fields Fields) formed_row)
      ≡ judged_as (verdict_of (offset_of at a) (reached_of (read_target d) (target_of at x.operand)))
      (encode (opcode_of b) x.operand x.names) room
  unfolding offset_of
  judge_said x e =
      let s = saying (opcode_of b) (read_operands c) x e in
      rw s.known_is
      (by_fields at room (value a) (opcode_of b) x (natural a) (read_operands c) s.read (read_target d))

  unsaid_by : (n kn : Bool) (v k : ℕ) (zs : Option (List ℤ)) (z : Option (Option ℤ))
      → cond kn (and_then zs (said_by (shape_of k))) None ≡ None
      → and_then (row n v kn k zs z) formed_row ≡ None
  unfolding and_then formed_row
  unsaid_by false kn v k zs z e = refl
  unsaid_by true false v k zs z e = refl
  unsaid_by true true v k None z e = refl
  unsaid_by true true v k (Some l) None e = refl
  unsaid_by true true v k (Some l) (Some z) e = rw e

  pub judge_unsaid : said_in (opcode_of b) (read_operands c) ≡ None
      → judge_by at room (and_then (read_fields Fields) formed_row) ≡ Bad NotALine
  unfolding said_in
  judge_unsaid e =
      ap (judge_by at room)
      (unsaid_by (natural a) (known (opcode_of b)) (value a) (opcode_of b) (read_operands c) (read_target d) e)

-- the fields of a line

abbrev first_of : List ℕ → List ℕ
first_of t = take (cut_at 9 t) t

abbrev behind_tab : List ℕ → List ℕ
behind_tab t = drop (suc (cut_at 9 t)) t

-- a text has no tab, or one
abbrev Last : List ℕ → Type 0
Last t = length t ≤ cut_at 9 t

abbrev Tab : List ℕ → Type 0
Tab t = cut_at 9 t < length t

module _ (t : List ℕ) where
  formed_by_lem : (fs : List (List ℕ)) → split 9 t ≡ fs → formed t ≡ and_then (read_fields fs) formed_row
  unfolding formed read_row
  formed_by_lem fs e = ap (λ (l : List (List ℕ)). and_then (read_fields l) formed_row) e

  one_field : Last t → formed t ≡ None
  unfolding and_then
  one_field l = formed_by_lem (t ∷ []) (split_whole 9 t l)

  module _ (t₁ : Tab t) where
    abbrev T₁ : List ℕ
    T₁ = behind_tab t

    two_fields : Last T₁ → formed t ≡ None
    unfolding and_then
    two_fields l =
        formed_by_lem (first_of t ∷ T₁ ∷ [])
        (split_cut 9 t t₁ ∙ ap (λ (ps : List (List ℕ)). first_of t ∷ ps) (split_whole 9 T₁ l))

    module _ (t₂ : Tab T₁) where
      abbrev T₂ : List ℕ
      T₂ = behind_tab T₁

      abbrev two : List (List ℕ) → List (List ℕ)
      two ps = first_of t ∷ first_of T₁ ∷ ps

      parts₂ : split 9 t ≡ two (split 9 T₂)
      parts₂ = split_cut 9 t t₁ ∙ ap (λ (ps : List (List ℕ)). first_of t ∷ ps) (split_cut 9 T₁ t₂)

      three_fields : Last T₂ → formed t ≡ None
      unfolding and_then
      three_fields l = formed_by_lem (two (T₂ ∷ [])) (parts₂ ∙ ap two (split_whole 9 T₂ l))

      module _ (t₃ : Tab T₂) where
        abbrev T₃ : List ℕ
        T₃ = behind_tab T₂

        abbrev three : List (List ℕ) → List (List ℕ)
        three ps = two (first_of T₂ ∷ ps)

        parts₃ : split 9 t ≡ three (split 9 T₃)
        parts₃ = parts₂ ∙ ap two (split_cut 9 T₂ t₃)

        five : (p : List ℕ) (ps : List (List ℕ)) → (ps ≡ [] → ⊥)
            → and_then (read_fields (three (p ∷ ps))) formed_row ≡ None
        unfolding and_then
        five p [] n = absurd (n refl)
        five p (q ∷ ps) n = refl

        more_fields : Tab T₃ → formed t ≡ None
        more_fields t₄ =
            formed_by_lem (three (first_of T₃ ∷ split 9 (behind_tab T₃))) (parts₃ ∙ ap three (split_cut 9 T₃ t₄))
            ∙ five (first_of T₃) (split 9 (behind_tab T₃)) (split_some 9 (behind_tab T₃))

        four_fields : Last T₃
            → formed t ≡ and_then (read_fields (first_of t ∷ first_of T₁ ∷ first_of T₂ ∷ T₃ ∷ [])) formed_row
        four_fields l = formed_by_lem (three (T₃ ∷ [])) (parts₃ ∙ ap three (split_whole 9 T₃ l))

-- the same, where tabs are found one behind the other

abbrev pub rest : List ℕ → ℕ → List ℕ
rest t a = take (length t - (a + 1)) (drop (a + 1) t)

tab_rest : (t : List ℕ) (a : ℕ) → a ≡ cut_at 9 t → rest t a ≡ behind_tab t
tab_rest t a e = rest_is t (a + 1) ∙ ap (λ (n : ℕ). drop n t) (add-one a ∙ ap suc e)

module _ (t : List ℕ) (a : ℕ) (ea : a ≡ cut_at 9 t) where
  pub found_one : length t ≤ a → formed t ≡ None
  found_one l = one_field t (omega arith)

  module _ (ha : a < length t) where
    t₁ : Tab t
    t₁ = omega arith

    r₁ : rest t a ≡ behind_tab t
    r₁ = tab_rest t a ea

    module _ (b : ℕ) (eb : b ≡ cut_at 9 (rest t a)) where
      pub found_two : length (rest t a) ≤ b → formed t ≡ None
      found_two l = two_fields t t₁ (subst Last r₁ (omega arith))

      module _ (hb : b < length (rest t a)) where
        t₂ : Tab (behind_tab t)
        t₂ = subst Tab r₁ (omega arith)

        r₂ : rest (rest t a) b ≡ behind_tab (behind_tab t)
        r₂ = tab_rest (rest t a) b eb ∙ ap (λ (l : List ℕ). behind_tab l) r₁

        module _ (c : ℕ) (ec : c ≡ cut_at 9 (rest (rest t a) b)) where
          pub found_three : length (rest (rest t a) b) ≤ c → formed t ≡ None
          found_three l = three_fields t t₁ t₂ (subst Last r₂ (omega arith))

          module _ (hc : c < length (rest (rest t a) b)) where
            t₃ : Tab (behind_tab (behind_tab t))
            t₃ = subst Tab r₂ (omega arith)

            r₃ : rest (rest (rest t a) b) c ≡ behind_tab (behind_tab (behind_tab t))
            r₃ = tab_rest (rest (rest t a) b) c ec ∙ ap (λ (l : List ℕ). behind_tab l) r₂

            module _ (d : ℕ) (ed : d ≡ cut_at 9 (rest (rest (rest t a) b) c)) where
              pub found_more : d < length (rest (rest (rest t a) b) c) → formed t ≡ None
              found_more l = more_fields t t₁ t₂ t₃ (subst Tab r₃ (omega arith))

              pub found_four : length (rest (rest (rest t a) b) c) ≤ d
                  → formed t
                  ≡ and_then
                  (read_fields
                  (take a t ∷ take b (rest t a) ∷ take c (rest (rest t a) b) ∷ rest (rest (rest t a) b) c ∷ []))
                  formed_row
              found_four l =
                  let p₁ : take a t ≡ first_of t = ap (λ (n : ℕ). take n t) ea in
                  let p₂ : take b (rest t a) ≡ first_of (behind_tab t) =
                  ap (λ (n : ℕ). take n (rest t a)) eb ∙ ap (λ (l : List ℕ). first_of l) r₁ in
                  let p₃ : take c (rest (rest t a) b) ≡ first_of (behind_tab (behind_tab t)) =
                  ap (λ (n : ℕ). take n (rest (rest t a) b)) ec ∙ ap (λ (l : List ℕ). first_of l) r₂ in
                  rw (p₁, p₂, p₃, r₃) (four_fields t t₁ t₂ t₃ (subst Last r₃ (omega arith)))
