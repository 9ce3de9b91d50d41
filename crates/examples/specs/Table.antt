-- The rules' examples A to L, a single table and statement (R61), each about what a call's promise says of it.
-- Assumes nothing.
use Rattle.std.specs.Prelude.{◌≡◌, List, [], ◌∷◌, ◌++◌, ℕ, ◌%◌, ◌<◌, negsuc, length, drop, replicate, Result, Ok, Err, Some, None, Option}
use Rattle.op.specs.Opcodes.{last_opcode, Jump, RaiseUnboundLocal, ForIter, JumpIfTrueOrPop}
use Rattle.op.specs.Refusals.{number_of}
use Rattle.op.specs.declared.Operand.TheVariants.{U16, CallKw}
use Rattle.op.specs.declared.Refusal.{Refusal}
use Rattle.op.specs.declared.Refusal.TheVariants.{DepthBelowZero, JumpTooFar, TooManyKeywords, NameTooLarge}
use Rattle.op.specs.declared.Refusal.TheVariants.{TooManyConstants, DepthsDiffer, NoDepths}
use Rattle.code.specs.Bytes.{signed}
use Rattle.code.specs.Encode.{encode}
use Rattle.code.specs.Entries.{find_from, entry_row, table_of}
use Rattle.code.specs.Lookups.{handler_of}
use Rattle.code.specs.declared.ExceptionEntry.{ExceptionEntry}
use Rattle.code.specs.declared.HandlerKind.TheVariants.{Consuming, Cleanup}
use Rattle.builder.specs.declared.Builder.{Builder}
use Rattle.builder.specs.declared.JumpLabel.TheVariants as L
use Rattle.builder.specs.declared.JumpTarget.TheVariants as T
use Rattle.code.specs.Tables.{put}
use Rattle.op.specs.Chosen.{CallFunctionKw}
use Rattle.builder.specs.Emission.{outcome, emit_of, emit_named, load_op, load_operand}
use Rattle.builder.specs.Marks.{bits, mark_row, open_kind, patched_kind, target_kind}
use Rattle.builder.specs.Forward.{jump_outcome, emit_jump_of}
use Rattle.builder.specs.Back.{emit_jump_to_of}
use Rattle.builder.specs.Patch.{patch_outcome, patch_jump_of}
use Rattle.builder.specs.Constants.{added_kept, add_const_of}
use Rattle.checker.specs.declared.Assignment.{Assignment}
use Rattle.checker.specs.Promise.{Promise}

-- a builder with so many bytes, marks and constants, and no location
abbrev pub holding : Option ℕ → ℕ → ℕ → ℕ → Builder
holding depth code marks constants = record {
  core = record { code = code; locations = 0; marks = marks; depth = depth };
  location = None;
  exceptions = 0;
  constants = constants;
  names = 0;
  starts = 0;
}

-- the same without constants, live at a depth, or dead
abbrev pub live : ℕ → ℕ → ℕ → Builder
live depth code marks = holding (Some depth) code marks 0

abbrev pub dead : ℕ → ℕ → Builder
dead code marks = holding None code marks 0

-- marks of one row at depth 0: a target at 0, an open label at 0, and that label patched
abbrev pub target_0 : List ℕ
target_0 = mark_row target_kind 0 0

abbrev pub label_0 : List ℕ
label_0 = mark_row open_kind 0 0

abbrev pub patched_0 : List ℕ
patched_0 = mark_row patched_kind 0 0

-- what the check of some bytes with some starts answers, and the depths that it leaves in a slice with room for them;
-- the work slice ends with zeros
abbrev pub Checks : List ℕ → List ℕ → Result Assignment Refusal → List ℕ → Type 0
Checks code starts answer depths =
    (d d' w w' : List ℕ) (r : Result Assignment Refusal) → length code < length d → length code < length w
    → Promise last_opcode code starts d d' w w' r
    → (r ≡ answer) × (d' ≡ depths ++ drop (length depths) d)
    × (w' ≡ replicate (length depths) 0 ++ drop (length depths) w)

-- accepted: so many instructions have a depth, and so great is the greatest
abbrev pub accepted : ℕ → ℕ → Result Assignment Refusal
accepted count greatest = Ok (record { count = count; greatest = greatest })

-- A's nine bytes
abbrev pub code_a : List ℕ
code_a = 0x06 ∷ 0x5A ∷ 0x03 ∷ 0x00 ∷ 0x08 ∷ 0x07 ∷ 0x00 ∷ 0x05 ∷ 0x65 ∷ []

abbrev pub code_k : List ℕ
code_k = 0x05 ∷ 0x58 ∷ 0xFC ∷ 0xFF ∷ []

-- start (0, 0)
abbrev pub from_zero : List ℕ
from_zero = 0 ∷ 0 ∷ []

-- H's two handlers
abbrev pub to_20 : ExceptionEntry
to_20 = record { start = 2; end = 8; handler = 20; stack_depth = 0; exception_stack_count = 0; kind = Consuming }

abbrev pub to_30 : ExceptionEntry
to_30 = record { start = 0; end = 10; handler = 30; stack_depth = 0; exception_stack_count = 0; kind = Cleanup }

abbrev pub entries : List ExceptionEntry
entries = to_20 ∷ to_30 ∷ []

abbrev pub rows : List ℕ
rows = table_of entries

-- the twelve (R61)
pub record Examples : Type 0 where
  -- A: depths 0, 1, 0, 1, 0, 1 at 0, 1, 4, 6, 7, 8; end none; count 6; the greatest is 1
  pub a : Checks code_a from_zero (accepted 6 1) (0 ∷ 1 ∷ 65536 ∷ 65536 ∷ 0 ∷ 65536 ∷ 1 ∷ 0 ∷ 1 ∷ 65536 ∷ [])
  -- B: jump to its own opcode: -3, FD FF
  pub b : (signed 65536 (bits 0 0) ≡ negsuc 2)
      × ((code : List ℕ) → length code ≡ 3
      → emit_jump_to_of (live 0 0 1) Jump (T.Row 0) code [] target_0 ≡ outcome (Ok (dead 3 1)) (put 0 (0x58 ∷ 0xFD ∷ 0xFF ∷ []) code) [])
  -- C: label at 0: target 32,770 gives FF 7F; 32,771 is 6
  pub c : (code : List ℕ) → length code ≡ 32771
      → (patch_jump_of (dead 32770 1) (L.Row 0) code label_0 ≡ patch_outcome (Ok (live 0 32770 1)) (put 1 (0xFF ∷ 0x7F ∷ []) code) patched_0)
      × (patch_jump_of (dead 32771 1) (L.Row 0) code label_0 ≡ patch_outcome (Err JumpTooFar) code label_0) × (number_of JumpTooFar ≡ 6)
  -- D: jump at 32,765 to 0 gives 00 80; at 32,766 it is 6
  pub d : (code : List ℕ) → length code ≡ 32769
      → (emit_jump_to_of (live 0 32765 1) Jump (T.Row 0) code [] target_0 ≡ outcome (Ok (dead 32768 1)) (put 32765 (0x58 ∷ 0x00 ∷ 0x80 ∷ []) code) [])
      × (emit_jump_to_of (live 0 32766 1) Jump (T.Row 0) code [] target_0 ≡ outcome (Err JumpTooFar) code []) × (number_of JumpTooFar ≡ 6)
  -- E: 255 names make 513 bytes in CallFunctionKw; 256 is 7; dead, 256 is accepted and name 65,536 is 8
  pub e : ((names code : List ℕ) → length names ≡ 255 → length code ≡ 513
      → emit_of (live 255 0 0) CallFunctionKw (CallKw 0 (length names % 256)) names code [] ≡ outcome (Ok (live 0 513 0)) (put 0 (encode CallFunctionKw (CallKw 0 255) names) code) [])
      × ((names code : List ℕ) → length names ≡ 256 → length code ≡ 515
      → (emit_of (live 256 0 0) CallFunctionKw (CallKw 0 (length names % 256)) names code []
      ≡ outcome (Err TooManyKeywords) code []) × (number_of TooManyKeywords ≡ 7)
      × (emit_of (dead 0 0) CallFunctionKw (CallKw 0 (length names % 256)) names code []
      ≡ outcome (Ok (dead 0 0)) code [])
      × (emit_named (dead 0 0) RaiseUnboundLocal 65536 (U16 0) [] code [] ≡ outcome (Err NameTooLarge) code []) × (number_of NameTooLarge ≡ 8))
  -- F: ForIter at depth 1: 2 / 0; at depth 0: 4
  pub f : (code : List ℕ) → length code ≡ 3
      → (emit_jump_of (live 1 0 0) ForIter code [] (0 ∷ 0 ∷ 0 ∷ 0 ∷ []) ≡ jump_outcome (Ok (live 2 3 1, L.Row 0)) (put 0 (0x5E ∷ 0 ∷ 0 ∷ []) code) [] (put 0 (mark_row open_kind 0 0) (0 ∷ 0 ∷ 0 ∷ 0 ∷ [])))
      × (emit_jump_of (live 0 0 0) ForIter code [] (0 ∷ 0 ∷ 0 ∷ 0 ∷ [])
      ≡ jump_outcome (Err DepthBelowZero) code [] (0 ∷ 0 ∷ 0 ∷ 0 ∷ []))
      × (number_of DepthBelowZero ≡ 4)
  -- G: JumpIfTrueOrPop at depth 1 patched right behind itself: 11
  pub g : (emit_jump_of (live 1 0 0) JumpIfTrueOrPop (0 ∷ 0 ∷ 0 ∷ []) [] (0 ∷ 0 ∷ 0 ∷ 0 ∷ [])
      ≡ jump_outcome (Ok (live 0 3 1, L.Row 0)) (0x5B ∷ 0 ∷ 0 ∷ []) [] (mark_row open_kind 0 1))
      × (patch_jump_of (live 0 3 1) (L.Row 0) (0x5B ∷ 0 ∷ 0 ∷ []) (mark_row open_kind 0 1)
      ≡ patch_outcome (Err DepthsDiffer) (0x5B ∷ 0 ∷ 0 ∷ []) (mark_row open_kind 0 1))
      × (number_of DepthsDiffer ≡ 11)
  -- H: offset 1 gives 30, 2 gives 20, 8 gives 30, 10 none; over the rows and over the records
  pub h : (handler_of rows 1 ≡ Some (1, entry_row to_30)) × (handler_of rows 2 ≡ Some (0, entry_row to_20))
      × (handler_of rows 8 ≡ Some (1, entry_row to_30)) × (handler_of rows 10 ≡ None)
      × (find_from entries 1 0 ≡ Some (1, to_30)) × (find_from entries 2 0 ≡ Some (0, to_20))
      × (find_from entries 8 0 ≡ Some (1, to_30)) × (find_from entries 10 0 ≡ None)
  -- I: 65,535 held: the next constant is index 65,535; then 9
  pub i : (value : ℕ) (cells : List ℕ) → length cells ≡ 65537
      → (add_const_of (holding None 0 0 65535) value cells
      ≡ added_kept (Ok (holding None 0 0 65536, 65535)) (put 65535 (value ∷ []) cells))
      × (add_const_of (holding None 0 0 65536) value cells ≡ added_kept (Err TooManyConstants) cells)
      × (number_of TooManyConstants ≡ 9)
  -- J: load slots 3, 4, 255, 256: 0C; 0D 04; 0D FF; 0E 00 01
  pub j : (code : List ℕ) → length code ≡ 3
      → (emit_of (live 0 0 0) (load_op 3) (load_operand 3) [] code [] ≡ outcome (Ok (live 1 1 0)) (put 0 (0x0C ∷ []) code) [])
      × (emit_of (live 0 0 0) (load_op 4) (load_operand 4) [] code [] ≡ outcome (Ok (live 1 2 0)) (put 0 (0x0D ∷ 0x04 ∷ []) code) [])
      × (emit_of (live 0 0 0) (load_op 255) (load_operand 255) [] code [] ≡ outcome (Ok (live 1 2 0)) (put 0 (0x0D ∷ 0xFF ∷ []) code) [])
      × (emit_of (live 0 0 0) (load_op 256) (load_operand 256) [] code [] ≡ outcome (Ok (live 1 3 0)) (put 0 (0x0E ∷ 0x00 ∷ 0x01 ∷ []) code) [])
  -- K: 23
  pub k : Checks code_k from_zero (Err NoDepths) (65536 ∷ 65536 ∷ 65536 ∷ 65536 ∷ 65536 ∷ [])
      × (number_of NoDepths ≡ 23)
  -- L: no bytes, no starts: accepted, count 0; the greatest is 0
  pub l : Checks [] [] (accepted 0 0) (65536 ∷ [])
