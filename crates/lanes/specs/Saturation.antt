-- SSAT, USAT, SSAT16, USAT16: the width n is the manual's sat_imm, for the signed ones sat_imm + 1.
use Rattle.std.specs.Prelude.{◌||◌, ℕ, ◌+◌, ◌*◌, ◌^◌}
use Rattle.bits.specs.Fields.{◌⟨◌‥◌⟩}
use Rattle.bits.specs.Integers.{signed}
use Rattle.alu.specs.declared.Fitted.{Fitted}
use Rattle.alu.specs.Saturation.{signed_sat_of, unsigned_sat_of}

-- A4.1.91 SSAT, of the shifted operand
abbrev pub ssat_of : ℕ → ℕ → Fitted
ssat_of n x = signed_sat_of n (signed 32 x)

-- A4.1.138 USAT, of the shifted operand
abbrev pub usat_of : ℕ → ℕ → Fitted
usat_of n x = unsigned_sat_of n (signed 32 x)

-- the low halves of two results side by side; saturated if either is
unfoldable pub beside_of : Fitted → Fitted → Fitted
beside_of low high =
    record { value = low.value ⟨ 15 ‥ 0 ⟩ + high.value ⟨ 15 ‥ 0 ⟩ * 2 ^ 16; q = low.q || high.q }

-- A4.1.92 SSAT16
abbrev pub ssat16_of : ℕ → ℕ → Fitted
ssat16_of n x = beside_of (signed_sat_of n (signed 16 (x ⟨ 15 ‥ 0 ⟩))) (signed_sat_of n (signed 16 (x ⟨ 31 ‥ 16 ⟩)))

-- A4.1.139 USAT16
abbrev pub usat16_of : ℕ → ℕ → Fitted
usat16_of n x = beside_of (unsigned_sat_of n (signed 16 (x ⟨ 15 ‥ 0 ⟩))) (unsigned_sat_of n (signed 16 (x ⟨ 31 ‥ 16 ⟩)))
