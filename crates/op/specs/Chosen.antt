-- The opcodes that calls of builder.rs choose themselves: op.rs, `enum Opcode`.
-- Assumes nothing.
use Rattle.std.specs.Prelude.{ℕ}

abbrev pub LoadLocal0 : ℕ
LoadLocal0 = 9

abbrev pub LoadLocal1 : ℕ
LoadLocal1 = 10

abbrev pub LoadLocal2 : ℕ
LoadLocal2 = 11

abbrev pub LoadLocal3 : ℕ
LoadLocal3 = 12

abbrev pub LoadLocal : ℕ
LoadLocal = 13

abbrev pub LoadLocalW : ℕ
LoadLocalW = 14

abbrev pub StoreLocal : ℕ
StoreLocal = 15

abbrev pub StoreLocalW : ℕ
StoreLocalW = 16

abbrev pub LoadGlobalCallable : ℕ
LoadGlobalCallable = 22

abbrev pub CallBuiltinFunction : ℕ
CallBuiltinFunction = 81

abbrev pub CallBuiltinType : ℕ
CallBuiltinType = 82

abbrev pub CallFunctionKw : ℕ
CallFunctionKw = 83

abbrev pub CallAttrKw : ℕ
CallAttrKw = 85
