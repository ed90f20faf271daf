-- The shifter operand (DDI 0100I, A5.1.3 to A5.1.13): the shifted word and the carry out, case by case as the manual lists them.
use Rattle.std.specs.Prelude.{◌≡◌, Bool, false, ℕ, ◌+◌, ◌-◌, ◌*◌, ◌/◌, ◌%◌, ◌^◌, ◌==◌}
use Rattle.std.specs.Int.Signed.{shr_z}
use Rattle.bits.specs.Cases.{when◌then◌else◌, ◌<?◌}
use Rattle.bits.specs.Fields.{◌⟨◌⟩, ◌⟨◌‥◌⟩, bit_of}
use Rattle.bits.specs.Integers.{signed, wrap}
use Rattle.bits.specs.Words.{rotated_of}
use Rattle.shifter.specs.declared.ShiftType.{ShiftType}
use Rattle.shifter.specs.declared.ShiftType.TheVariants.{Lsl, Lsr, Asr, Ror}
use Rattle.shifter.specs.declared.Operand.{Operand}

abbrev pub operand : ℕ → Bool → Operand
operand value carry = record { value = value; carry = carry }

-- A5.1.1: the two bits that name a shift
unfoldable pub type_of : ℕ → ShiftType
type_of k = when k == 0 then Lsl else when k == 1 then Lsr else when k == 2 then Asr else Ror

-- a shift of a word by n bits, n from 1 to 31; an arithmetic shift divides the signed reading, rounding down
unfoldable pub shifted_of : ShiftType → ℕ → ℕ → ℕ
shifted_of Lsl rm n = rm * 2 ^ n % 2 ^ 32
shifted_of Lsr rm n = rm / 2 ^ n
shifted_of Asr rm n = wrap 32 (shr_z (signed 32 rm) (2 ^ n))
shifted_of Ror rm n = rotated_of rm n

-- 32 copies of bit 31
unfoldable pub signs_of : ℕ → ℕ
signs_of rm = when rm ⟨ 31 ⟩ then 0xFFFF_FFFF else 0

-- by an immediate of five bits
unfoldable pub by_immediate_of : ShiftType → ℕ → ℕ → Bool → Operand
-- A5.1.4, A5.1.5
by_immediate_of Lsl rm n c =
    when n == 0 then operand rm c
    else operand (shifted_of Lsl rm n) (rm ⟨ 32 - n ⟩)
-- A5.1.7: 0 stands for 32
by_immediate_of Lsr rm n c =
    when n == 0 then operand 0 (rm ⟨ 31 ⟩)
    else operand (shifted_of Lsr rm n) (rm ⟨ n - 1 ⟩)
-- A5.1.9: 0 stands for 32
by_immediate_of Asr rm n c =
    when n == 0 then operand (signs_of rm) (rm ⟨ 31 ⟩)
    else operand (shifted_of Asr rm n) (rm ⟨ n - 1 ⟩)
-- A5.1.11, and A5.1.13 RRX for 0
by_immediate_of Ror rm n c =
    when n == 0 then operand (bit_of c * 2 ^ 31 + rm / 2) (rm ⟨ 0 ⟩)
    else operand (shifted_of Ror rm n) (rm ⟨ n - 1 ⟩)

-- by the low byte of a register
unfoldable pub by_register_of : ShiftType → ℕ → ℕ → Bool → Operand
-- A5.1.6
by_register_of Lsl rm n c =
    when n == 0 then operand rm c
    else when n <? 32 then operand (shifted_of Lsl rm n) (rm ⟨ 32 - n ⟩)
    else when n == 32 then operand 0 (rm ⟨ 0 ⟩)
    else operand 0 false
-- A5.1.8
by_register_of Lsr rm n c =
    when n == 0 then operand rm c
    else when n <? 32 then operand (shifted_of Lsr rm n) (rm ⟨ n - 1 ⟩)
    else when n == 32 then operand 0 (rm ⟨ 31 ⟩)
    else operand 0 false
-- A5.1.10
by_register_of Asr rm n c =
    when n == 0 then operand rm c
    else when n <? 32 then operand (shifted_of Asr rm n) (rm ⟨ n - 1 ⟩)
    else operand (signs_of rm) (rm ⟨ 31 ⟩)
-- A5.1.12
by_register_of Ror rm n c =
    when n == 0 then operand rm c
    else when n ⟨ 4 ‥ 0 ⟩ == 0 then operand rm (rm ⟨ 31 ⟩)
    else operand (shifted_of Ror rm (n ⟨ 4 ‥ 0 ⟩)) (rm ⟨ n ⟨ 4 ‥ 0 ⟩ - 1 ⟩)

-- A5.1.3: eight bits rotated by twice a field of four
unfoldable pub immediate_of : ℕ → ℕ → Bool → Operand
immediate_of imm8 rotate c =
    when rotate == 0 then operand imm8 c
    else operand (rotated_of imm8 (rotate * 2)) (rotated_of imm8 (rotate * 2) ⟨ 31 ⟩)

-- the promises of the two public calls, on any numbers (document 01, section 2)
abbrev pub ShiftsByImmediate : ℕ → ℕ → ℕ → Bool → Operand → Type 0
ShiftsByImmediate kind value amount carry r = r ≡ by_immediate_of (type_of (kind ⟨ 1 ‥ 0 ⟩)) value (amount ⟨ 4 ‥ 0 ⟩) carry

abbrev pub ShiftsByRegister : ℕ → ℕ → ℕ → Bool → Operand → Type 0
ShiftsByRegister kind value amount carry r = r ≡ by_register_of (type_of (kind ⟨ 1 ‥ 0 ⟩)) value (amount ⟨ 7 ‥ 0 ⟩) carry
