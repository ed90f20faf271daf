-- The multiplies of words and of halfwords, and the saturating sums, over exact integers: what each gives for the values of its registers (DDI 0100I, A4.1).
-- m, s and n are Rm, Rs and Rn; lo and hi are RdLo and RdHi.
use Rattle.std.specs.Prelude.{ℕ, ◌+◌, ◌*◌, ◌^◌, Bool, ◌||◌, ℤ, pos, ◌+ℤ◌, ◌-ℤ◌, ◌*ℤ◌}
use Rattle.bits.specs.Cases.{when◌then◌else◌}
use Rattle.bits.specs.Fields.{◌⟨◌‥◌⟩}
use Rattle.bits.specs.Integers.{signed, wrap}
use Rattle.alu.specs.Sums.{overflow_from}
use Rattle.alu.specs.declared.Fitted.{Fitted}
use Rattle.alu.specs.Saturation.{signed_sat_of}
use Rattle.products.specs.declared.Long.{Long}

-- bits hi down to lo of an integer in two's complement, hi below 64
infixl 90 ◌⟦◌‥◌⟧
abbrev pub ◌⟦◌‥◌⟧ : ℤ → ℕ → ℕ → ℕ
z ⟦ hi ‥ lo ⟧ = wrap 64 z ⟨ hi ‥ lo ⟩

-- the low 64 bits of an integer, as RdLo and RdHi
unfoldable pub long_of : ℤ → Long
long_of z = record { lo = z ⟦ 31 ‥ 0 ⟧; hi = z ⟦ 63 ‥ 32 ⟧ }

-- RdHi and RdLo as one number
abbrev pub pair_of : ℕ → ℕ → ℕ
pair_of lo hi = hi * 2 ^ 32 + lo

-- the low 32 bits of an integer; Q is set where it does not fit them
unfoldable pub sticky_of : ℤ → Fitted
sticky_of z = record { value = wrap 32 z; q = overflow_from z }

-- x + y, or x - y
unfoldable pub total_of : ℤ → ℤ → Bool → ℤ
total_of x y subtract = when subtract then x -ℤ y else x +ℤ y

-- A4.1.40 MUL: (Rm * Rs)[31:0]
abbrev pub mul_of : ℕ → ℕ → ℕ
mul_of m s = (m * s) ⟨ 31 ‥ 0 ⟩

-- A4.1.34 MLA: (Rm * Rs + Rn)[31:0]
abbrev pub mla_of : ℕ → ℕ → ℕ → ℕ
mla_of m s n = (m * s + n) ⟨ 31 ‥ 0 ⟩

-- A4.1.129 UMULL: Rm * Rs, unsigned
unfoldable pub umull_of : ℕ → ℕ → Long
umull_of m s = long_of (pos (m * s))

-- A4.1.128 UMLAL: added to the 64-bit value in RdHi and RdLo
unfoldable pub umlal_of : ℕ → ℕ → ℕ → ℕ → Long
umlal_of m s lo hi = long_of (pos (m * s + pair_of lo hi))

-- A4.1.127 UMAAL: Rm * Rs + RdLo + RdHi, unsigned
unfoldable pub umaal_of : ℕ → ℕ → ℕ → ℕ → Long
umaal_of m s lo hi = long_of (pos (m * s + lo + hi))

-- A4.1.87 SMULL: Rm * Rs, signed
unfoldable pub smull_of : ℕ → ℕ → Long
smull_of m s = long_of (signed 32 m *ℤ signed 32 s)

-- A4.1.76 SMLAL: added to the 64-bit value in RdHi and RdLo
unfoldable pub smlal_of : ℕ → ℕ → ℕ → ℕ → Long
smlal_of m s lo hi = long_of (signed 32 m *ℤ signed 32 s +ℤ pos (pair_of lo hi))

-- the halfword that x or y picks, top or bottom, sign extended
unfoldable pub half_of : ℕ → Bool → ℤ
half_of w top = signed 16 (when top then w ⟨ 31 ‥ 16 ⟩ else w ⟨ 15 ‥ 0 ⟩)

-- A4.1.86 SMUL<x><y>: operand1 * operand2
unfoldable pub smulxy_of : ℕ → ℕ → Bool → Bool → ℕ
smulxy_of m s x y = wrap 32 (half_of m x *ℤ half_of s y)

-- A4.1.74 SMLA<x><y>: operand1 * operand2 + Rn; Q is OverflowFrom of that sum
unfoldable pub smlaxy_of : ℕ → ℕ → ℕ → Bool → Bool → Fitted
smlaxy_of m s n x y = sticky_of (half_of m x *ℤ half_of s y +ℤ signed 32 n)

-- A4.1.77 SMLAL<x><y>: operand1 * operand2 added to the 64-bit value in RdHi and RdLo
unfoldable pub smlalxy_of : ℕ → ℕ → ℕ → ℕ → Bool → Bool → Long
smlalxy_of m s lo hi x y = long_of (half_of m x *ℤ half_of s y +ℤ pos (pair_of lo hi))

-- A4.1.88 SMULW<y>: (Rm * operand2)[47:16]
unfoldable pub smulw_of : ℕ → ℕ → Bool → ℕ
smulw_of m s y = (signed 32 m *ℤ half_of s y) ⟦ 47 ‥ 16 ⟧

-- A4.1.79 SMLAW<y>: (Rm * operand2)[47:16] + Rn; Q is OverflowFrom of that sum
unfoldable pub smlaw_of : ℕ → ℕ → ℕ → Bool → Fitted
smlaw_of m s n y = sticky_of (signed 32 (smulw_of m s y) +ℤ signed 32 n)

-- A4.1.46 QADD, A4.1.52 QSUB: SignedSat(Rm + Rn, 32), SignedSat(Rm - Rn, 32); Q is SignedDoesSat
unfoldable pub qadd_of : ℕ → ℕ → Bool → Fitted
qadd_of m n subtract = signed_sat_of 32 (total_of (signed 32 m) (signed 32 n) subtract)

-- SignedSat(Rn * 2, 32)
unfoldable pub doubled_of : ℕ → Fitted
doubled_of n = signed_sat_of 32 (signed 32 n *ℤ pos 2)

-- A4.1.50 QDADD, A4.1.51 QDSUB: the same with SignedSat(Rn * 2, 32) for Rn; Q where either saturates
unfoldable pub qdadd_of : ℕ → ℕ → Bool → Fitted
qdadd_of m n subtract =
    record {
      value = (qadd_of m (doubled_of n).value subtract).value;
      q = (doubled_of n).q || (qadd_of m (doubled_of n).value subtract).q;
    }
