-- The opcodes of op.rs: name, shape and effect of each, in the order of their numbers.
-- Assumes nothing.
use Rattle.std.specs.Prelude.{Bool, List, [], ◌∷◌, ℕ, ◌+◌, leb, get_or}
use Prim.Native.String.{String}
use Rattle.op.specs.declared.Shape.{Shape}
use Rattle.op.specs.declared.Shape.TheVariants.{None, U8, I8, U16, Offset, U8U8, U16U8, U16U16, U16U8U8, CallKw, CallAttrKw, U16U16U8}

-- R7, R8: what an effect is. The first six are fixed; the others go by the operand (Effects.antt)
pub data Rule : Type 0 where
  minus3 : Rule
  minus2 : Rule
  minus1 : Rule
  same : Rule
  plus1 : Rule
  plus2 : Rule
  -- -n
  minus_n : Rule
  -- 1-n
  one_minus_n : Rule
  -- 1-2n
  one_minus_2n : Rule
  -- n-1
  n_minus_one : Rule
  -- before+after
  both : Rule
  -- -(positional+n)
  minus_both : Rule
  -- 1-defaults-cells
  one_minus_both : Rule
  -- -(1+lowest flag bit)
  extended : Rule
  -- -1 if bit 0x04, else 0
  format : Rule
  -- -2 if bit 0x10, else -1
  assert : Rule
  -- -3 if bit 0x10, else -2
  assert_failed : Rule
  -- -1 for mode 1, else 2
  match_keys : Rule

-- one opcode
pub data Row : Type 0 where
  op : String → Shape → Rule → Row

-- op.rs, `enum Opcode` with `operand_shape` and `stack_effect`: the first is opcode 0, the last 130 (R1, R7)
unfoldable pub table : List Row
table =
    op "Pop" None minus1 ∷  -- 0
    op "Dup" None plus1 ∷  -- 1
    op "Rot2" None same ∷  -- 2
    op "Rot3" None same ∷  -- 3
    op "LoadConst" U16 plus1 ∷  -- 4
    op "LoadNone" None plus1 ∷  -- 5
    op "LoadTrue" None plus1 ∷  -- 6
    op "LoadFalse" None plus1 ∷  -- 7
    op "LoadSmallInt" I8 plus1 ∷  -- 8
    op "LoadLocal0" None plus1 ∷  -- 9
    op "LoadLocal1" None plus1 ∷  -- 10
    op "LoadLocal2" None plus1 ∷  -- 11
    op "LoadLocal3" None plus1 ∷  -- 12
    op "LoadLocal" U8 plus1 ∷  -- 13
    op "LoadLocalW" U16 plus1 ∷  -- 14
    op "StoreLocal" U8 minus1 ∷  -- 15
    op "StoreLocalW" U16 minus1 ∷  -- 16
    op "LoadGlobal" U16 plus1 ∷  -- 17
    op "StoreGlobal" U16 minus1 ∷  -- 18
    op "LoadCell" U16 plus1 ∷  -- 19
    op "StoreCell" U16 minus1 ∷  -- 20
    op "DeleteLocal" U8 same ∷  -- 21
    op "LoadGlobalCallable" U16U16 plus1 ∷  -- 22
    op "BinaryAdd" None minus1 ∷  -- 23
    op "BinarySub" None minus1 ∷  -- 24
    op "BinaryMul" None minus1 ∷  -- 25
    op "BinaryDiv" None minus1 ∷  -- 26
    op "BinaryFloorDiv" None minus1 ∷  -- 27
    op "BinaryMod" None minus1 ∷  -- 28
    op "BinaryPow" None minus1 ∷  -- 29
    op "BinaryAnd" None minus1 ∷  -- 30
    op "BinaryOr" None minus1 ∷  -- 31
    op "BinaryXor" None minus1 ∷  -- 32
    op "BinaryLShift" None minus1 ∷  -- 33
    op "BinaryRShift" None minus1 ∷  -- 34
    op "BinaryMatMul" None minus1 ∷  -- 35
    op "CompareEq" None minus1 ∷  -- 36
    op "CompareNe" None minus1 ∷  -- 37
    op "CompareLt" None minus1 ∷  -- 38
    op "CompareLe" None minus1 ∷  -- 39
    op "CompareGt" None minus1 ∷  -- 40
    op "CompareGe" None minus1 ∷  -- 41
    op "CompareIs" None minus1 ∷  -- 42
    op "CompareIsNot" None minus1 ∷  -- 43
    op "CompareIn" None minus1 ∷  -- 44
    op "CompareNotIn" None minus1 ∷  -- 45
    op "UnaryNot" None same ∷  -- 46
    op "UnaryNeg" None same ∷  -- 47
    op "UnaryPos" None same ∷  -- 48
    op "UnaryInvert" None same ∷  -- 49
    op "InplaceAdd" None minus1 ∷  -- 50
    op "InplaceSub" None minus1 ∷  -- 51
    op "InplaceMul" None minus1 ∷  -- 52
    op "InplaceDiv" None minus1 ∷  -- 53
    op "InplaceFloorDiv" None minus1 ∷  -- 54
    op "InplaceMod" None minus1 ∷  -- 55
    op "InplacePow" None minus1 ∷  -- 56
    op "InplaceAnd" None minus1 ∷  -- 57
    op "InplaceOr" None minus1 ∷  -- 58
    op "InplaceXor" None minus1 ∷  -- 59
    op "InplaceLShift" None minus1 ∷  -- 60
    op "InplaceRShift" None minus1 ∷  -- 61
    op "BuildList" U16 one_minus_n ∷  -- 62
    op "BuildTuple" U16 one_minus_n ∷  -- 63
    op "BuildDict" U16 one_minus_2n ∷  -- 64
    op "BuildSet" U16 one_minus_n ∷  -- 65
    op "FormatValue" U8 format ∷  -- 66
    op "BuildFString" U16 one_minus_n ∷  -- 67
    op "BuildSlice" None minus2 ∷  -- 68
    op "ListExtend" None minus1 ∷  -- 69
    op "ListToTuple" None same ∷  -- 70
    op "DictMerge" U16 minus1 ∷  -- 71
    op "ListAppend" U8 minus1 ∷  -- 72
    op "SetAdd" U8 minus1 ∷  -- 73
    op "DictSetItem" U8 minus2 ∷  -- 74
    op "BinarySubscr" None minus1 ∷  -- 75
    op "StoreSubscr" None minus3 ∷  -- 76
    op "LoadAttr" U16 same ∷  -- 77
    op "LoadAttrImport" U16 same ∷  -- 78
    op "StoreAttr" U16 minus2 ∷  -- 79
    op "CallFunction" U8 minus_n ∷  -- 80
    op "CallBuiltinFunction" U8U8 one_minus_n ∷  -- 81
    op "CallBuiltinType" U8U8 one_minus_n ∷  -- 82
    op "CallFunctionKw" CallKw minus_both ∷  -- 83
    op "CallAttr" U16U8 minus_n ∷  -- 84
    op "CallAttrKw" CallAttrKw minus_both ∷  -- 85
    op "CallFunctionExtended" U8 extended ∷  -- 86
    op "CallAttrExtended" U16U8 extended ∷  -- 87
    op "Jump" Offset same ∷  -- 88
    op "JumpIfTrue" Offset minus1 ∷  -- 89
    op "JumpIfFalse" Offset minus1 ∷  -- 90
    op "JumpIfTrueOrPop" Offset minus1 ∷  -- 91
    op "JumpIfFalseOrPop" Offset minus1 ∷  -- 92
    op "GetIter" None same ∷  -- 93
    op "ForIter" Offset plus1 ∷  -- 94
    op "MakeFunction" U16U8 one_minus_n ∷  -- 95
    op "MakeClosure" U16U8U8 one_minus_both ∷  -- 96
    op "Raise" None minus1 ∷  -- 97
    op "Reraise" None same ∷  -- 98
    op "ClearException" None same ∷  -- 99
    op "CheckExcMatch" None same ∷  -- 100
    op "ReturnValue" None minus1 ∷  -- 101
    op "Await" None same ∷  -- 102
    op "UnpackSequence" U8 n_minus_one ∷  -- 103
    op "UnpackEx" U8U8 both ∷  -- 104
    op "Nop" None same ∷  -- 105
    op "LoadModule" U16 plus1 ∷  -- 106
    op "LoadSubmodule" U16U16 same ∷  -- 107
    op "Dup2" None plus2 ∷  -- 108
    op "DeleteGlobal" U16 same ∷  -- 109
    op "DictUpdate" U8 minus1 ∷  -- 110
    op "SetExtend" U8 minus1 ∷  -- 111
    op "BeforeWith" None plus1 ∷  -- 112
    op "WithExit" None same ∷  -- 113
    op "WithExceptStart" None plus1 ∷  -- 114
    op "LiftToTop" U8 same ∷  -- 115
    op "RaiseUnboundLocal" U16 same ∷  -- 116
    op "MethodDictMerge" U16 minus1 ∷  -- 117
    op "Assert" U8 assert ∷  -- 118
    op "AssertFailed" U8 assert_failed ∷  -- 119
    op "BuildCell" None plus1 ∷  -- 120
    op "DeleteCell" U16 same ∷  -- 121
    op "LoadName" U16U16U8 plus1 ∷  -- 122
    op "StoreName" U16U16U8 minus1 ∷  -- 123
    op "DeleteName" U16U16U8 same ∷  -- 124
    op "MatchShape" U16U8 plus1 ∷  -- 125
    op "MatchKeys" U8 match_keys ∷  -- 126
    op "MatchClass" U8 plus1 ∷  -- 127
    op "MatchAttr" U8 plus2 ∷  -- 128
    op "SinkTop" U8 same ∷  -- 129
    op "RaiseFrom" None minus2 ∷ []  -- 130

-- R1, "131 opcodes, numbered 0 to 130": the last one
abbrev pub last_opcode : ℕ
last_opcode = 130

-- refusal 1, "the opcode is above 130": whether an opcode is in a table that ends with the opcode `last`
abbrev pub known_up_to : ℕ → ℕ → Bool
known_up_to last k = leb k last

-- the same of the table above (R2)
unfoldable pub known : ℕ → Bool
known k = known_up_to last_opcode k

-- an opcode's row
unfoldable pub row_of : ℕ → Row
row_of k = get_or table k (op "" None same)

-- the numbers of the rows of a table whose first is number k
abbrev pub numbers_from : ℕ → List Row → List ℕ
numbers_from k [] = []
numbers_from k (r ∷ rs) = k ∷ numbers_from (k + 1) rs

-- every opcode, in the order of op.rs (R1)
unfoldable pub opcode_numbers : List ℕ
opcode_numbers = numbers_from 0 table

-- the opcodes that the rules name
abbrev pub Jump : ℕ
Jump = 88

abbrev pub JumpIfTrue : ℕ
JumpIfTrue = 89

abbrev pub JumpIfFalse : ℕ
JumpIfFalse = 90

abbrev pub JumpIfTrueOrPop : ℕ
JumpIfTrueOrPop = 91

abbrev pub JumpIfFalseOrPop : ℕ
JumpIfFalseOrPop = 92

abbrev pub ForIter : ℕ
ForIter = 94

abbrev pub Raise : ℕ
Raise = 97

abbrev pub Reraise : ℕ
Reraise = 98

abbrev pub ReturnValue : ℕ
ReturnValue = 101

abbrev pub RaiseUnboundLocal : ℕ
RaiseUnboundLocal = 116

abbrev pub AssertFailed : ℕ
AssertFailed = 119
