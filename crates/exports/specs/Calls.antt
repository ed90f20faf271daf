-- What the exported functions hand over: numbers in, and two halves of 32 bits side by side out.
use Rattle.std.specs.Prelude.{Bool, Result, Ok, Err, ℕ, ◌+◌, ◌*◌, ◌^◌}
use Rattle.bits.specs.Fields.{◌⟨◌‥◌⟩, bit_of}
use Rattle.psr.specs.declared.GeTooLarge.{GeTooLarge}
use Rattle.psr.specs.Status.{status_of, packed_of, packed_word_of}
use Rattle.psr.specs.With.{with_ge}
use Rattle.state.specs.State.{ge_byte_of}
use Rattle.shifter.specs.declared.Operand.{Operand}
use Rattle.shifter.specs.Shifts.{type_of, by_immediate_of, by_register_of}

abbrev pub halves : ℕ → ℕ → ℕ
halves high low = high * 2 ^ 32 + low

-- what packing gives: answer 0 above the word, or answer 8 above 0
abbrev pub packed_halves : Result ℕ GeTooLarge → ℕ
packed_halves (Ok word) = halves 0 word
packed_halves (Err e) = halves 8 0

-- packing: the record of `word`, its GE replaced by `ge`
unfoldable pub pack_call_of : ℕ → ℕ → ℕ
pack_call_of word ge = packed_halves (packed_of (with_ge (status_of word) (ge_byte_of ge)))

-- unpacking: the record's GE above the record packed again
unfoldable pub unpack_call_of : ℕ → ℕ
unpack_call_of word = halves (status_of word).ge (packed_word_of (status_of word))

-- shifting: the carry out above the value
abbrev pub operand_halves : Operand → ℕ
operand_halves o = halves (bit_of o.carry) o.value

unfoldable pub shift_immediate_call_of : ℕ → ℕ → ℕ → Bool → ℕ
shift_immediate_call_of kind value amount carry =
    operand_halves (by_immediate_of (type_of (kind ⟨ 1 ‥ 0 ⟩)) value (amount ⟨ 4 ‥ 0 ⟩) carry)

unfoldable pub shift_register_call_of : ℕ → ℕ → ℕ → Bool → ℕ
shift_register_call_of kind value amount carry =
    operand_halves (by_register_of (type_of (kind ⟨ 1 ‥ 0 ⟩)) value (amount ⟨ 7 ‥ 0 ⟩) carry)
