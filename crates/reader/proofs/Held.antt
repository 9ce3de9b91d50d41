-- What a walk by hand uses of an `InstructionReader`, at a lifetime κ.
--     B, D, L, val, αᵉ   the struct's type as a signature has it, its declaration and laws, a value's machine value, and the lifetime that a local of a body has
--     Own, Rd            what a slice owns, and what a reader owns
--     again_had          what a reader owns is had twice;   slice_of   and of one the slice is taken;   at_held   a reader is of the type that a local of a body has
-- Assumes `Logic`.
use mathlib.Core.Path.{◌≡◌}
use Prim.Native.Nat.{ℕ}
use mathlib.Core.List.{List, [], ◌∷◌}
use lib.Dec.{T as Holds}
use lib.ListN.{length}
use seplogic.Ra.Ura.{Ura}
use mir.Syntax.{named, erased}
use mir.Val.{Val, WT, has_ty}
use base.Logic.{ent, sep}
use base.Fml.{Lft, Fml}
use types.Logic.{Logic, sem}
use types.Kit.{‵, ◌⊛◌, given, ◌$◌, ◌∵◌, !, qed, drop, use1, split, learn, frame, done}
use denote.RattleType.{RattleType}
use denote.Laws.{Is}
use denote.Builtin.{u8}
use denote.Ref.{Bor, NamedLft}
use denote.Signature.{named_lft}
use denote.Slice.{slice_val, ShrSlice}
use denote.Struct.Declared.{Declared}
use denote.Struct.Laws as LL
use denote.Struct.Rest.{all_own, field_own, rest, own_open, own_out}
use Rattle.reader.specs.declared.InstructionReader.{InstructionReader}
use Rattle.reader.specs.contracts.InstructionReader as T
use Rattle.reader.proofs.InstructionReader.TheLaws as T'

-- the machine value of a slice
abbrev pub sv : Bor (List ℕ) → Val
sv y = slice_val y.ref_ptr (length y.now)

module _ (κ : Lft) where
  abbrev pub D : Declared
  D = T.the_type (named_lft 1 0 tt (κ, tt))

  abbrev pub L : LL.Laws D
  L = T'.the_laws (named_lft 1 0 tt (κ, tt))

  abbrev pub B : RattleType
  B = T.the_row (named_lft 1 0 tt (κ, tt))

  abbrev pub val : InstructionReader → Val
  val = LL.val D L

  abbrev pub αᵉ : NamedLft
  αᵉ = record { mir = erased; lft = κ }

  abbrev pub Own : Bor (List ℕ) → Fml
  Own y = (ShrSlice (named 0) κ u8).own_val y (sv y ∷ [])

  abbrev pub Rd : InstructionReader → Fml
  Rd r = B.own_val r (val r ∷ [])

  module _ {M : Type 1} {𝓤 : Ura M} (𝓛 : Logic 𝓤) (r : InstructionReader) where
    pub again_had : ent 𝓤 (sem 𝓛 (Rd r)) (sep 𝓤 (sem 𝓛 (Rd r)) (sem 𝓛 (Rd r)))
    again_had = (LL.copy D (T'.the_copy (named_lft 1 0 tt (κ, tt))) 𝓛).twice r (val r ∷ [])

    pub slice_of : ent 𝓤 (sem 𝓛 (Rd r)) (sep 𝓤 (sem 𝓛 (Own r.code)) (sem 𝓛 (Rd r)))
    slice_of =
        qed 𝓛 (‵ (Rd r) ∷ []) ∵ use1 𝓛 (‵ (Rd r) ⊛ ‵ (Rd r)) again_had $ split ! $
        use1 𝓛 (given (val r ∷ [] ≡ val r ∷ []) (‵ (all_own D.parts L (r.code, (r.at, tt))))) (own_open 𝓛 D L (r.code, (r.at, tt)) (val r)) $ learn ! (λ _.
        use1 𝓛 (‵ (field_own D.parts L 0 r.code) ⊛ ‵ (rest D.parts L 0 (r.code, (r.at, tt)))) (own_out 𝓛 D.parts L 0 (r.code, (r.at, tt))) $ split ! $ frame ! $ drop ! $ done !)

    pub at_held : Is B r (val r ∷ []) → Holds (has_ty (T'.mir erased) (val r)) × WT (val r)
    at_held is = ((LL.lawful (T.the_type αᵉ) (T'.the_laws αᵉ) 𝓛).typed r _ is).0
