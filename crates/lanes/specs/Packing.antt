-- Packing of halfwords and the extensions.
use Rattle.std.specs.Prelude.{ℕ, ◌+◌, ◌*◌, ◌^◌, ℤ, pos, ◌+ℤ◌}
use Rattle.bits.specs.Fields.{◌⟨◌‥◌⟩}
use Rattle.bits.specs.Integers.{signed, wrap}
use Rattle.bits.specs.Words.{rotated_of}
use Rattle.lanes.specs.declared.Extension.{Extension}
use Rattle.lanes.specs.declared.Extension.TheVariants.{Sxtab16, Sxtab, Sxtah, Uxtab16, Uxtab, Uxtah}

-- A4.1.43 PKHBT: the bottom half of Rn, the top half of the shifted Rm
abbrev pub pkhbt_of : ℕ → ℕ → ℕ
pkhbt_of n m = n ⟨ 15 ‥ 0 ⟩ + m ⟨ 31 ‥ 16 ⟩ * 2 ^ 16

-- A4.1.44 PKHTB: the bottom half of the shifted Rm, the top half of Rn
abbrev pub pkhtb_of : ℕ → ℕ → ℕ
pkhtb_of n m = m ⟨ 15 ‥ 0 ⟩ + n ⟨ 31 ‥ 16 ⟩ * 2 ^ 16

-- a number added to each half of n, modulo 2^16
abbrev pub added_halves : ℕ → ℤ → ℤ → ℕ
added_halves n low high = wrap 16 (pos (n ⟨ 15 ‥ 0 ⟩) +ℤ low) + wrap 16 (pos (n ⟨ 31 ‥ 16 ⟩) +ℤ high) * 2 ^ 16

-- n and a part of the rotated operand m: A4.1.111 SXTAB16, A4.1.110 SXTAB, A4.1.112 SXTAH, A4.1.144 UXTAB16, A4.1.143 UXTAB, A4.1.145 UXTAH
unfoldable pub added_of : Extension → ℕ → ℕ → ℕ
added_of Sxtab16 n m = added_halves n (signed 8 (m ⟨ 7 ‥ 0 ⟩)) (signed 8 (m ⟨ 23 ‥ 16 ⟩))
added_of Sxtab n m = wrap 32 (pos n +ℤ signed 8 (m ⟨ 7 ‥ 0 ⟩))
added_of Sxtah n m = wrap 32 (pos n +ℤ signed 16 (m ⟨ 15 ‥ 0 ⟩))
added_of Uxtab16 n m = added_halves n (pos (m ⟨ 7 ‥ 0 ⟩)) (pos (m ⟨ 23 ‥ 16 ⟩))
added_of Uxtab n m = wrap 32 (pos n +ℤ pos (m ⟨ 7 ‥ 0 ⟩))
added_of Uxtah n m = wrap 32 (pos n +ℤ pos (m ⟨ 15 ‥ 0 ⟩))

-- Rm is rotated right by 8 times the rotate field; with no Rn (SXTB16, SXTB, SXTH, UXTB16, UXTB, UXTH: A4.1.113-115, 146-148) n is 0
abbrev pub extend_of : Extension → ℕ → ℕ → ℕ → ℕ
extend_of e n m rotate = added_of e n (rotated_of m (8 * rotate))
