-- The cases marked P in document 01, section 8: one table, and the theorem that the definitions give each row.
use Rattle.std.specs.Prelude.{◌≡◌, refl, Bool, true, false, [], ◌∷◌, ℕ}
use Rattle.bits.specs.Cases.{when◌then◌else◌}
use Rattle.bits.specs.Fields.{◌⟨◌‥◌⟩}
use Rattle.bits.specs.Integers.{signed, outside}
use Rattle.bits.specs.Words.{rotated_of}
use Rattle.psr.specs.Status.{mode_of, word_of, status_of}
use Rattle.alu.specs.declared.Sum.{Sum}
use Rattle.alu.specs.Sums.{sbc_of, adc_of, negative}
use Rattle.alu.specs.Numbers.{Pair, words_of, last_of}
use Rattle.alu.specs.Saturation.{clamp_of, saturated_of, signed_sat_of}
use Rattle.products.specs.Products.{long_of, sticky_of, total_of, half_of, umaal_of, qadd_of, doubled_of, qdadd_of}
use Rattle.products.specs.Duals.{second_of, dual_of, smuad_of}
use Rattle.shifter.specs.declared.ShiftType.TheVariants.{Lsl, Lsr, Asr, Ror}
use Rattle.shifter.specs.declared.ShiftType.{ShiftType}
use Rattle.shifter.specs.Shifts.{operand, shifted_of, signs_of, by_immediate_of, by_register_of}

abbrev sum : ℕ → Bool → Bool → Sum
sum value carry overflow = record { value = value; carry = carry; overflow = overflow }

abbrev pair : ℕ → ℕ → Pair
pair first second = record { first = first; second = second }

pub record Table : Type 0 where
  p1 : (carry : Bool) → by_immediate_of Lsr 0x8000_0000 0 carry ≡ operand 0 true
  p2 : (carry : Bool) → by_immediate_of Asr 0x8000_0000 0 carry ≡ operand 0xFFFF_FFFF true
  p3 : by_immediate_of Ror 1 0 true ≡ operand 0x8000_0000 true
  p4 : (carry : Bool) → by_register_of Lsl 1 32 carry ≡ operand 0 true
  p5 : (carry : Bool) → by_register_of Lsl 1 33 carry ≡ operand 0 false
  p6 : (ty : ShiftType) (value : ℕ) (carry : Bool) → by_register_of ty value (0x100 ⟨ 7 ‥ 0 ⟩) carry ≡ operand value carry
  p7 : sbc_of 0 0xFFFF_FFFF false ≡ sum 0 false false
  p8 : adc_of 0x7FFF_FFFF 0 true ≡ sum 0x8000_0000 false true
  p8_n : negative 0x8000_0000 ≡ true
  p9 : umaal_of 0xFFFF_FFFF 0xFFFF_FFFF 0xFFFF_FFFF 0xFFFF_FFFF ≡ record { lo = 0xFFFF_FFFF; hi = 0xFFFF_FFFF }
  p10 : qdadd_of 0xFFFF_FFFF 0x7FFF_FFFF false ≡ record { value = 0x7FFF_FFFE; q = true }
  p11 : smuad_of 0x8000_8000 0x8000_8000 false false ≡ record { value = 0x8000_0000; q = true }
  p12 : word_of (status_of 0xFFFF_FFFF) ≡ 0xF80F_03FF
  p12_zero : word_of (status_of 0) ≡ 0x0000_0010
  p13 : words_of sbc_of true (pair 0 1 ∷ pair 1 0 ∷ []) ≡ 0xFFFF_FFFF ∷ 0 ∷ []
  p13_last : last_of sbc_of true (pair 0 1) (pair 1 0 ∷ []) ≡ sum 0 true false

keeps : (ty : ShiftType) (value : ℕ) (carry : Bool) → by_register_of ty value 0 carry ≡ operand value carry
unfolding by_register_of when◌then◌else◌
keeps Lsl value carry = refl
keeps Lsr value carry = refl
keeps Asr value carry = refl
keeps Ror value carry = refl

pub table : Table
unfolding when◌then◌else◌ signed outside rotated_of mode_of word_of status_of sbc_of adc_of shifted_of signs_of by_immediate_of by_register_of umaal_of long_of qdadd_of doubled_of qadd_of total_of signed_sat_of saturated_of clamp_of smuad_of sticky_of dual_of second_of half_of
table =
    record {
      p1 = λ c. refl;
      p2 = λ c. refl;
      p3 = refl;
      p4 = λ c. refl;
      p5 = λ c. refl;
      p6 = keeps;
      p7 = refl;
      p8 = refl;
      p8_n = refl;
      p9 = refl;
      p10 = refl;
      p11 = refl;
      p12 = refl;
      p12_zero = refl;
      p13 = refl;
      p13_last = refl;
    }
