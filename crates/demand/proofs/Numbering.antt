-- Each call's kind is what its model emits: loads and stores by their slots, and the calls by number.
-- Assumes nothing.
use Rattle.builder.specs.declared.numbered.Instruction.{Instruction}
use Rattle.std.specs.Prelude.{Some, None, Option}
use mathlib.Core.Path.{◌≡◌, refl, ap}
use mathlib.Core.Bool.{Bool, true, false, cond}
use mathlib.Core.List.{List, [], ◌∷◌}
use Prim.Native.Nat.{ℕ, zero, suc, ◌%◌, ◌<◌}
use native.Mathlib.Omega.{arith}
use lib.Dec.{leb, ltb}
use lib.ListN.{get_or, length}
use mir.Syntax.{w8}
use borrow.Author.Tests.{lt-leb, ltb-true, ne_eqb}
use Rattle.op.specs.Chosen.{LoadLocal, LoadLocalW, StoreLocal, StoreLocalW}
use Rattle.op.specs.declared.Operand.{Operand}
use Rattle.op.specs.declared.Operand.TheVariants as O
use Rattle.code.specs.Encode.{SignsFit}
use Rattle.code.proofs.Twos.{signed_small}
use Rattle.builder.specs.Emission.{load_op, load_operand, store_op, store_operand}
use Rattle.builder.specs.Numbered.{below, emit_instruction, instruction_of, instructions, numbered_of}
use Rattle.builder.specs.declared.Builder.{Builder}
use Rattle.demand.specs.History.{Call, emit, emit_jump_call, emit_jump_to_call, patch_jump_call, jump_target_call, new_region, other}
use Rattle.demand.specs.Calls.{by_number, emit_numbered, fitting, kind_of, loads, naming, stores}
use Rattle.demand.proofs.Machining.{Still}
use Rattle.demand.proofs.Ties.{Sane}

-- loads and stores

abbrev SaneOperand : Operand → Type 0
SaneOperand o = SignsFit o × Still o

sane_pick : (t : Bool) (x y : Operand) → SaneOperand x → SaneOperand y → SaneOperand (cond t x y)
sane_pick true x y p q = p
sane_pick false x y p q = q

pub sane_store : (slot : ℕ) → SaneOperand (store_operand slot)
sane_store slot = sane_pick (leb slot 255) (O.U8 slot) (O.U16 slot) (tt, λ n e. refl) (tt, λ n e. refl)

pub sane_load : (slot : ℕ) → SaneOperand (load_operand slot)
sane_load slot = sane_pick (leb slot 3) O.None (store_operand slot) (tt, λ n e. refl) (sane_store slot)

-- the model's choices are the history's

wide_load : (slot : ℕ) → 3 < slot → loads slot ≡ emit (load_op slot) (load_operand slot) []
wide_load slot h =
    rw (
      ne_eqb slot 0 (λ e. omega arith),
      ne_eqb slot 1 (λ e. omega arith),
      ne_eqb slot 2 (λ e. omega arith),
      ne_eqb slot 3 (λ e. omega arith),
      lt-leb slot 3 h,
    ) (go (leb slot 255))
  where
    go : (t : Bool) → cond t (emit LoadLocal (O.U8 slot) []) (emit LoadLocalW (O.U16 slot) [])
        ≡ emit (cond t LoadLocal LoadLocalW) (cond t (O.U8 slot) (O.U16 slot)) []
    go true = refl
    go false = refl

pub load_kind : (slot : ℕ) → loads slot ≡ emit (load_op slot) (load_operand slot) []
load_kind zero = refl
load_kind (suc zero) = refl
load_kind (suc (suc zero)) = refl
load_kind (suc (suc (suc zero))) = refl
load_kind (suc (suc (suc (suc n)))) = wide_load (suc (suc (suc (suc n)))) (omega arith)

pub store_kind : (slot : ℕ) → stores slot ≡ emit (store_op slot) (store_operand slot) []
store_kind slot = go (leb slot 255)
  where
    go : (t : Bool) → cond t (emit StoreLocal (O.U8 slot) []) (emit StoreLocalW (O.U16 slot) [])
        ≡ emit (cond t StoreLocal StoreLocalW) (cond t (O.U8 slot) (O.U16 slot)) []
    go true = refl
    go false = refl

-- the calls by number

abbrev pub kind_by : List ℕ → Option Instruction → Call
kind_by ns None = other
kind_by ns (Some instruction) = emit instruction.opcode instruction.operand ns

pub numbered_is : (builder : Builder) (call k a b c : ℕ) (ns code locations : List ℕ)
    → numbered_of builder call k a b c ns code locations
    ≡ emit_instruction (instruction_of call k a b c (length ns % 256)) builder ns code locations
unfolding numbered_of
numbered_is builder call k a b c ns code locations = refl

-- the two lists, the history's and the builder's, say the same line for line
module _ (ns : List ℕ) where
  abbrev Alike : List Call → List (Option Instruction) → Type 0
  Alike [] [] = Unit {0}
  Alike [] (i ∷ is) = ⊥
  Alike (x ∷ xs) [] = ⊥
  Alike (x ∷ xs) (i ∷ is) = (naming ns x ≡ kind_by ns i) × Alike xs is

  alike_at : (xs : List Call) (is : List (Option Instruction)) → Alike xs is → (n : ℕ)
      → naming ns (get_or xs n other) ≡ kind_by ns (get_or is n None)
  alike_at [] [] a n = refl
  alike_at [] (i ∷ is) a n = absurd a
  alike_at (x ∷ xs) [] a n = absurd a
  alike_at (x ∷ xs) (i ∷ is) a zero = a.0
  alike_at (x ∷ xs) (i ∷ is) a (suc n) = alike_at xs is a.1 n

  fit : (m x : ℕ) (call : Call) (i : Option Instruction) → naming ns call ≡ kind_by ns i
      → naming ns (fitting m x call) ≡ kind_by ns (below m x i)
  fit m x call i e = go (ltb x m)
    where
      go : (t : Bool) → naming ns (cond t call other) ≡ kind_by ns (cond t i None)
      go true = e
      go false = refl

  alike : (k a b c n : ℕ) → Alike (by_number k a b c n) (instructions k a b c n)
  alike k a b c n = (
    refl,
    (
      fit 256 a _ _ refl,
      (
        fit 256 a _ _ refl,
        (
          fit 256 a _ _ (fit 256 b _ _ refl),
          (
            refl,
            (
              fit 65536 b _ _ refl,
              (
                fit 256 b _ _ refl,
                (
                  fit 256 b _ _ refl,
                  (
                    fit 256 a _ _ (fit 256 b _ _ refl),
                    (
                      fit 256 a _ _ (fit 256 b _ _ refl),
                      (
                        fit 256 a _ _ refl,
                        (
                          fit 256 b _ _ refl,
                          (
                            refl,
                            (
                              refl,
                              (
                                refl,
                                (
                                  ap (naming ns) (load_kind a),
                                  (
                                    ap (naming ns) (store_kind a),
                                    tt,
                                  ),
                                ),
                              ),
                            ),
                          ),
                        ),
                      ),
                    ),
                  ),
                ),
              ),
            ),
          ),
        ),
      ),
    ),
  )

pub numbered_kind : (call k a b c : ℕ) (ns : List ℕ)
    → kind_of (emit_numbered call k a b c ns) ≡ kind_by ns (instruction_of call k a b c (length ns % 256))
unfolding instruction_of
numbered_kind call k a b c ns =
    alike_at ns (by_number k a b c (length ns % 256)) (instructions k a b c (length ns % 256))
    (alike ns k a b c (length ns % 256)) call

-- and none is a jump

abbrev AllSane : List Call → Type 0
AllSane [] = Unit {0}
AllSane (x ∷ xs) = Sane x × AllSane xs

sane_at : (xs : List Call) → AllSane xs → (n : ℕ) → Sane (get_or xs n other)
sane_at [] a n = tt
sane_at (x ∷ xs) a zero = a.0
sane_at (x ∷ xs) a (suc n) = sane_at xs a.1 n

sane_named : (ns : List ℕ) (call : Call) → Sane call → Sane (naming ns call)
sane_named ns (emit k o none) h = h
sane_named ns (emit_jump_call k) h = h
sane_named ns (emit_jump_to_call k t) h = h
sane_named ns (patch_jump_call l) h = h
sane_named ns jump_target_call h = h
sane_named ns (new_region d) h = h
sane_named ns other h = h

sane_fit : (m x : ℕ) (call : Call) → (x < m → Sane call) → Sane (fitting m x call)
sane_fit m x call f = go (ltb x m) refl
  where
    go : (t : Bool) → ltb x m ≡ t → Sane (cond t call other)
    go true e = f (ltb-true x m e)
    go false e = tt

sane_plain : (m x k : ℕ) (o : Operand) → SaneOperand o → Sane (fitting m x (emit k o []))
sane_plain m x k o h = sane_fit m x (emit k o []) (λ lt. h)

sane_numbers : (k a b c n : ℕ) → AllSane (by_number k a b c n)
sane_numbers k a b c n = (
  (tt, λ n e. refl),
  (
    sane_plain 256 a k (O.U8 a) (tt, λ n e. refl),
    (
      sane_fit 256 a _ (λ lt. (signed_small w8 256 refl refl a lt, λ n e. refl)),
      (
        sane_fit 256 a _ (λ lt. sane_plain 256 b k (O.U8U8 a b) (tt, λ n e. refl)),
        (
          (tt, λ n e. refl),
          (
            sane_plain 65536 b k (O.U16U16 a b) (tt, λ n e. refl),
            (
              sane_plain 256 b k (O.U16U8 a b) (tt, λ n e. refl),
              (
                sane_plain 256 b k (O.U16U8U8 a b c) (tt, λ n e. refl),
                (
                  sane_fit 256 a _ (λ lt. sane_plain 256 b _ (O.U8U8 a b) (tt, λ n e. refl)),
                  (
                    sane_fit 256 a _ (λ lt. sane_plain 256 b _ (O.U8U8 a b) (tt, λ n e. refl)),
                    (
                      sane_plain 256 a _ (O.CallKw a n) (tt, λ n e. refl),
                      (
                        sane_plain 256 b _ (O.CallAttrKw a b n) (tt, λ n e. refl),
                        (
                          (tt, λ n e. refl),
                          (
                            (tt, λ n e. refl),
                            (
                              (tt, λ n e. refl),
                              (
                                rw (load_kind a) (sane_load a),
                                (
                                  rw (store_kind a) (sane_store a),
                                  tt,
                                ),
                              ),
                            ),
                          ),
                        ),
                      ),
                    ),
                  ),
                ),
              ),
            ),
          ),
        ),
      ),
    ),
  ),
)

pub numbered_sane : (call k a b c : ℕ) (ns : List ℕ) → Sane (kind_of (emit_numbered call k a b c ns))
numbered_sane call k a b c ns =
    sane_named ns (get_or (by_number k a b c (length ns % 256)) call other)
    (sane_at (by_number k a b c (length ns % 256)) (sane_numbers k a b c (length ns % 256)) call)
