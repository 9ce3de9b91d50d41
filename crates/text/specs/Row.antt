-- What a line of a listing says, and its text: R55.
-- Assumes nothing.
use Rattle.std.specs.Prelude.{List, [], ◌∷◌, ℕ, ◌+◌, ℤ, pos, ◌+ℤ◌, None, Option, Some}
use Rattle.op.specs.Names.{name_of}
use Rattle.op.specs.declared.Operand.{Operand}
use Rattle.op.specs.declared.Operand.TheVariants as O
use Rattle.text.specs.Decimal.{decimal, whole_text}
use Rattle.text.specs.Parts.{join}

-- offset, name, "operands in byte order", "target of a jump": four fields, the opcode by its number
pub record Row : Type 0 where
  pub offset : ℕ
  pub opcode : ℕ
  pub operands : List ℤ
  pub target : Option ℤ

-- unsigned numbers as whole ones
abbrev pub wholes : List ℕ → List ℤ
wholes [] = []
wholes (n ∷ ns) = pos n ∷ wholes ns

-- "operands in byte order": a keyword call's count in its place, its names last
abbrev pub operands_of : Operand → List ℕ → List ℤ
operands_of O.None names = []
operands_of (O.U8 a) names = pos a ∷ []
operands_of (O.I8 z) names = z ∷ []
operands_of (O.U16 a) names = pos a ∷ []
operands_of (O.Offset z) names = z ∷ []
operands_of (O.U8U8 a b) names = pos a ∷ pos b ∷ []
operands_of (O.U16U8 a b) names = pos a ∷ pos b ∷ []
operands_of (O.U16U16 a b) names = pos a ∷ pos b ∷ []
operands_of (O.U16U8U8 a b c) names = pos a ∷ pos b ∷ pos c ∷ []
operands_of (O.CallKw positional n) names = pos positional ∷ pos n ∷ wholes names
operands_of (O.CallAttrKw attribute positional n) names = pos attribute ∷ pos positional ∷ pos n ∷ wholes names
operands_of (O.U16U16U8 a b c) names = pos a ∷ pos b ∷ pos c ∷ []

-- "its target less the offset of its opcode less 3": the target of a jump
abbrev pub target_of : ℕ → Operand → Option ℤ
target_of at O.None = None
target_of at (O.U8 a) = None
target_of at (O.I8 z) = None
target_of at (O.U16 a) = None
target_of at (O.Offset z) = Some (pos (at + 3) +ℤ z)
target_of at (O.U8U8 a b) = None
target_of at (O.U16U8 a b) = None
target_of at (O.U16U16 a b) = None
target_of at (O.U16U8U8 a b c) = None
target_of at (O.CallKw positional n) = None
target_of at (O.CallAttrKw attribute positional n) = None
target_of at (O.U16U16U8 a b c) = None

-- the row of the instruction at an offset, with its keyword names
abbrev pub row_of : ℕ → ℕ → Operand → List ℕ → Row
row_of at k o names = record { offset = at; opcode = k; operands = operands_of o names; target = target_of at o }

-- "`-` if none"
abbrev pub dash : List ℕ
dash = 45 ∷ []

-- whole numbers in decimal
abbrev pub whole_texts : List ℤ → List (List ℕ)
whole_texts [] = []
whole_texts (z ∷ zs) = whole_text z ∷ whole_texts zs

-- "joined by commas"
abbrev pub operand_column : List ℤ → List ℕ
operand_column [] = dash
operand_column (z ∷ zs) = join 44 (whole_text z ∷ whole_texts zs)

-- "signed, `-` otherwise"
abbrev pub target_column : Option ℤ → List ℕ
target_column None = dash
target_column (Some z) = whole_text z

-- "parted by tabs", with a text for the opcode's name
abbrev pub fields_text : List ℕ → Row → List ℕ
fields_text name r =
    join 9 (decimal r.offset ∷ name ∷ operand_column r.operands ∷ target_column r.target ∷ [])

-- a row's text (R55)
unfoldable pub row_text : Row → List ℕ
row_text r = fields_text (name_of r.opcode) r
