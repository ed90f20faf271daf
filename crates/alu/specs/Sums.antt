-- Sums and differences of words with their carry and overflow, from exact integers (DDI 0100I, Glossary: CarryFrom, BorrowFrom, OverflowFrom).
use Rattle.std.specs.Prelude.{Bool, not, ℕ, ◌^◌, ℤ, pos, ◌+ℤ◌, ◌-ℤ◌}
use Rattle.std.specs.Int.Signed.{lt_z, le_z}
use Rattle.bits.specs.Cases.{◌≤?◌}
use Rattle.bits.specs.Fields.{bit_of}
use Rattle.bits.specs.Integers.{signed, wrap, outside}
use Rattle.alu.specs.declared.Sum.{Sum}

-- the true result, of operands taken as unsigned, does not fit 32 bits
abbrev pub carry_from : ℤ → Bool
carry_from z = le_z (pos (2 ^ 32)) z

-- the true result, of operands taken as unsigned, is below zero
abbrev pub borrow_from : ℤ → Bool
borrow_from z = lt_z z (pos 0)

-- the true result, of operands taken as signed, is outside the signed range
abbrev pub overflow_from : ℤ → Bool
overflow_from z = outside 32 z

-- A4.1.3 ADD: Rn + shifter_operand
unfoldable pub add_of : ℕ → ℕ → Sum
add_of a b =
    record {
      value = wrap 32 (pos a +ℤ pos b);
      carry = carry_from (pos a +ℤ pos b);
      overflow = overflow_from (signed 32 a +ℤ signed 32 b);
    }

-- A4.1.2 ADC: Rn + shifter_operand + C
unfoldable pub adc_of : ℕ → ℕ → Bool → Sum
adc_of a b c =
    record {
      value = wrap 32 (pos a +ℤ pos b +ℤ pos (bit_of c));
      carry = carry_from (pos a +ℤ pos b +ℤ pos (bit_of c));
      overflow = overflow_from (signed 32 a +ℤ signed 32 b +ℤ pos (bit_of c));
    }

-- A4.1.106 SUB: Rn - shifter_operand; C is NOT BorrowFrom
unfoldable pub sub_of : ℕ → ℕ → Sum
sub_of a b =
    record {
      value = wrap 32 (pos a -ℤ pos b);
      carry = not (borrow_from (pos a -ℤ pos b));
      overflow = overflow_from (signed 32 a -ℤ signed 32 b);
    }

-- A4.1.65 SBC: Rn - shifter_operand - NOT(C)
unfoldable pub sbc_of : ℕ → ℕ → Bool → Sum
sbc_of a b c =
    record {
      value = wrap 32 (pos a -ℤ pos b -ℤ pos (bit_of (not c)));
      carry = not (borrow_from (pos a -ℤ pos b -ℤ pos (bit_of (not c))));
      overflow = overflow_from (signed 32 a -ℤ signed 32 b -ℤ pos (bit_of (not c)));
    }

-- N: bit 31 of a word
abbrev pub negative : ℕ → Bool
negative x = 2 ^ 31 ≤? x
