-- The ARMv6 multiplies: two products of halfwords at once, and the most significant word of a product (DDI 0100I, A4.1).
-- m, s and n are Rm, Rs and Rn; lo and hi are RdLo and RdHi; x and r are the instruction's bits X and R.
use Rattle.std.specs.Prelude.{ℕ, ◌*◌, ◌^◌, Bool, true, false, ℤ, pos, ◌+ℤ◌, ◌*ℤ◌}
use Rattle.bits.specs.Cases.{when◌then◌else◌}
use Rattle.bits.specs.Fields.{bit_of}
use Rattle.bits.specs.Integers.{signed}
use Rattle.bits.specs.Words.{rotated_of}
use Rattle.alu.specs.declared.Fitted.{Fitted}
use Rattle.products.specs.declared.Long.{Long}
use Rattle.products.specs.Products.{◌⟦◌‥◌⟧, long_of, pair_of, sticky_of, total_of, half_of}

-- operand2: Rs, or with X Rs Rotate_Right 16
unfoldable pub second_of : ℕ → Bool → ℕ
second_of s x = when x then rotated_of s 16 else s

-- product1, of the bottom halfwords, plus or minus product2, of the top halfwords
unfoldable pub dual_of : ℕ → ℕ → Bool → Bool → ℤ
dual_of m s subtract x =
    total_of (half_of m false *ℤ half_of (second_of s x) false) (half_of m true *ℤ half_of (second_of s x) true) subtract

-- A4.1.85 SMUAD: Q is OverflowFrom of the sum; A4.1.89 SMUSD: the difference always fits (Laws.Manual, smusd_keeps_q)
unfoldable pub smuad_of : ℕ → ℕ → Bool → Bool → Fitted
smuad_of m s subtract x = sticky_of (dual_of m s subtract x)

-- A4.1.75 SMLAD, A4.1.80 SMLSD: Q is OverflowFrom of the whole sum
unfoldable pub smlad_of : ℕ → ℕ → ℕ → Bool → Bool → Fitted
smlad_of m s n subtract x = sticky_of (dual_of m s subtract x +ℤ signed 32 n)

-- A4.1.78 SMLALD, A4.1.81 SMLSLD: added to the 64-bit value in RdHi and RdLo
unfoldable pub smlald_of : ℕ → ℕ → ℕ → ℕ → Bool → Bool → Long
smlald_of m s lo hi subtract x = long_of (dual_of m s subtract x +ℤ pos (pair_of lo hi))

-- (base ± Rm * Rs)[63:32], with R of 0x80000000 more; D6: where the sum leaves 64 bits, these are still its bits 63 to 32
unfoldable pub most_of : ℤ → ℕ → ℕ → Bool → Bool → ℕ
most_of base m s subtract r =
    (total_of base (signed 32 m *ℤ signed 32 s) subtract +ℤ pos (bit_of r * 2 ^ 31)) ⟦ 63 ‥ 32 ⟧

-- A4.1.84 SMMUL: no base; with `subtract` the codes of SMMLS or of D4 whose Rn is r15
unfoldable pub smmul_of : ℕ → ℕ → Bool → Bool → ℕ
smmul_of m s subtract r = most_of (pos 0) m s subtract r

-- A4.1.82 SMMLA, A4.1.83 SMMLS: the base is Rn << 32
unfoldable pub smmla_of : ℕ → ℕ → ℕ → Bool → Bool → ℕ
smmla_of m s n subtract r = most_of (signed 32 n *ℤ pos (2 ^ 32)) m s subtract r
