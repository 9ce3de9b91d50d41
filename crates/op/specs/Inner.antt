-- Numbers of our own that op's private functions tell each other: no rule says them, and no reader has to believe them.
-- Assumes nothing.
use Rattle.std.specs.Prelude.{List, [], ◌∷◌, ℕ, ◌*◌, ◌/◌, ◌%◌, ◌^◌, get_or}
use Rattle.op.specs.Opcodes.{Rule, minus3, minus2, minus1, same, plus1, plus2, minus_n, one_minus_n, one_minus_2n, n_minus_one, both, minus_both, one_minus_both, extended, format, assert, assert_failed, match_keys, row_of}
use Rattle.op.specs.Effects.{rule_in}

-- the number by which the code knows a rule
abbrev pub rule_number : Rule → ℕ
rule_number minus3 = 0
rule_number minus2 = 1
rule_number minus1 = 2
rule_number same = 3
rule_number plus1 = 4
rule_number plus2 = 5
rule_number minus_n = 6
rule_number one_minus_n = 7
rule_number one_minus_2n = 8
rule_number n_minus_one = 9
rule_number both = 10
rule_number minus_both = 11
rule_number one_minus_both = 12
rule_number extended = 13
rule_number format = 14
rule_number assert = 15
rule_number assert_failed = 16
rule_number match_keys = 17

-- the rules in the order of these numbers, without the last
abbrev pub rules : List Rule
rules =
    minus3 ∷ minus2 ∷ minus1 ∷ same ∷ plus1 ∷ plus2 ∷ minus_n ∷ one_minus_n ∷ one_minus_2n ∷ n_minus_one ∷ both ∷
    minus_both ∷ one_minus_both ∷ extended ∷ format ∷ assert ∷ assert_failed ∷ []

-- the rule of a number
abbrev pub rule_at : ℕ → Rule
rule_at e = get_or rules e match_keys

-- the number of an opcode's rule
unfoldable pub rule_no : ℕ → ℕ
rule_no k = rule_number (rule_in (row_of k))

-- Rows of small numbers, one for each opcode, in words of eight, the first in the lowest byte. Behind a row each word is
-- the last one given with it, so that every byte has a number.

-- the number at a place of a word
abbrev pub number_in : ℕ → ℕ → ℕ
number_in word place = word / 2 ^ (8 * place) % 256

-- the shapes' numbers
abbrev pub shape_words : List ℕ
shape_words =
    0x00_00_00_03_00_00_00_00 ∷ 0x01_03_01_00_00_00_00_02 ∷ 0x00_07_01_03_03_03_03_03 ∷
    0x00_00_00_00_00_00_00_00 ∷ 0x00_00_00_00_00_00_00_00 ∷ 0x00_00_00_00_00_00_00_00 ∷
    0x00_00_00_00_00_00_00_00 ∷ 0x03_03_00_00_00_00_00_00 ∷ 0x03_00_00_00_03_01_03_03 ∷
    0x03_03_03_00_00_01_01_01 ∷ 0x06_01_0a_06_09_05_05_01 ∷ 0x06_04_00_04_04_04_04_04 ∷
    0x01_00_00_00_00_00_00_08 ∷ 0x01_01_03_00_07_03_00_05 ∷ 0x01_01_03_03_01_00_00_00 ∷
    0x01_01_06_0b_0b_0b_03_00 ∷ 0x0c_0c_0c_0c_0c_00_01_01 ∷ []

abbrev pub no_shapes : ℕ
no_shapes = 0x0c_0c_0c_0c_0c_0c_0c_0c

-- the rules' numbers
abbrev pub rule_words : List ℕ
rule_words =
    0x04_04_04_04_03_03_04_02 ∷ 0x02_04_04_04_04_04_04_04 ∷ 0x02_04_03_02_04_02_04_02 ∷
    0x02_02_02_02_02_02_02_02 ∷ 0x02_02_02_02_02_02_02_02 ∷ 0x03_03_02_02_02_02_02_02 ∷
    0x02_02_02_02_02_02_03_03 ∷ 0x07_07_02_02_02_02_02_02 ∷ 0x02_03_02_01_07_0e_07_08 ∷
    0x01_03_03_00_02_01_02_02 ∷ 0x0d_0d_0b_06_0b_07_07_06 ∷ 0x07_04_03_02_02_02_02_03 ∷
    0x09_03_02_03_03_03_02_0c ∷ 0x02_02_03_05_03_04_03_0a ∷ 0x10_0f_02_03_03_04_03_04 ∷
    0x04_11_04_03_02_04_03_04 ∷ 0x03_03_03_03_03_01_03_05 ∷ []

abbrev pub no_rules : ℕ
no_rules = 0x03_03_03_03_03_03_03_03

-- the needs
abbrev pub need_words : List ℕ
need_words =
    0x00_00_00_00_03_02_01_00 ∷ 0x00_00_00_00_00_00_00_00 ∷ 0x02_00_00_00_00_00_00_00 ∷
    0x02_02_02_02_02_02_02_02 ∷ 0x02_02_02_02_02_02_02_02 ∷ 0x01_01_02_02_02_02_02_02 ∷
    0x02_02_02_02_02_02_01_01 ∷ 0x00_00_02_02_02_02_02_02 ∷ 0x00_00_00_00_00_00_00_00 ∷
    0x00_00_00_00_02_00_00_00 ∷ 0x00_00_00_00_00_00_00_00 ∷ 0x00_00_00_00_00_00_00_00 ∷
    0x00_00_00_00_00_00_00_00 ∷ 0x00_00_00_02_00_00_00_00 ∷ 0x00_00_00_00_00_00_00_00 ∷
    0x00_00_00_00_00_00_00_00 ∷ 0x00_00_00_00_00_00_00_00 ∷ []

abbrev pub no_needs : ℕ
no_needs = 0x00_00_00_00_00_00_00_00
