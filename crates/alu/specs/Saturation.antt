-- Saturation (DDI 0100I, Glossary: SignedSat, UnsignedSat, and their DoesSat).
use Rattle.std.specs.Prelude.{◌||◌, ℕ, ◌-◌, ◌^◌, ℤ, pos}
use Rattle.std.specs.Int.Signed.{lt_z}
use Rattle.bits.specs.Cases.{when◌then◌else◌}
use Rattle.bits.specs.Integers.{wrap, least, greatest}
use Rattle.alu.specs.declared.Fitted.{Fitted}

-- the integer from low to high that is nearest to z
unfoldable pub clamp_of : ℤ → ℤ → ℤ → ℤ
clamp_of low high z = when lt_z z low then low else when lt_z high z then high else z

-- the clamped integer as a word, and whether it is another than z
unfoldable pub saturated_of : ℤ → ℤ → ℤ → Fitted
saturated_of low high z = record { value = wrap 32 (clamp_of low high z); q = lt_z z low || lt_z high z }

-- to the signed range of n bits, n from 1 to 32
unfoldable pub signed_sat_of : ℕ → ℤ → Fitted
signed_sat_of n z = saturated_of (least n) (greatest n) z

-- to the unsigned range of n bits, n from 0 to 31
unfoldable pub unsigned_sat_of : ℕ → ℤ → Fitted
unsigned_sat_of n z = saturated_of (pos 0) (pos (2 ^ n - 1)) z
