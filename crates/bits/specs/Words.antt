-- Words of 32 bits rearranged and counted: rotation, sign extension, byte order, bit order, byte lanes.
use Rattle.std.specs.Prelude.{ℕ, zero, suc, ◌+◌, ◌-◌, ◌*◌, ◌/◌, ◌%◌, ◌^◌, List, [], ◌∷◌, slice_index}
use Rattle.bits.specs.Cases.{when◌then◌else◌, ◌≤?◌}
use Rattle.bits.specs.Fields.{◌⟨◌‥◌⟩}
use Rattle.bits.specs.Integers.{signed, wrap}

-- x rotated right by n, n below 32: its low n bits go above the others (DDI 0100I, Glossary, Rotate_Right)
unfoldable pub rotated_of : ℕ → ℕ → ℕ
rotated_of x n = x % 2 ^ n * 2 ^ (32 - n) + x / 2 ^ n

-- the low n bits of x as a signed number, in a word (Glossary, SignExtend)
unfoldable pub extended_of : ℕ → ℕ → ℕ
extended_of n x = wrap 32 (signed n (x % 2 ^ n))

-- a word as its four bytes, the lowest first, and back
abbrev pub lanes_of : ℕ → List ℕ
lanes_of x = x ⟨ 7 ‥ 0 ⟩ ∷ x ⟨ 15 ‥ 8 ⟩ ∷ x ⟨ 23 ‥ 16 ⟩ ∷ x ⟨ 31 ‥ 24 ⟩ ∷ []

abbrev pub joined_of : List ℕ → ℕ
joined_of b = slice_index b 0 + slice_index b 1 * 2 ^ 8 + slice_index b 2 * 2 ^ 16 + slice_index b 3 * 2 ^ 24

-- A4.1.56 REV: the bytes in the other order
abbrev pub rev_of : ℕ → ℕ
rev_of x = x ⟨ 31 ‥ 24 ⟩ + x ⟨ 23 ‥ 16 ⟩ * 2 ^ 8 + x ⟨ 15 ‥ 8 ⟩ * 2 ^ 16 + x ⟨ 7 ‥ 0 ⟩ * 2 ^ 24

-- A4.1.57 REV16: the bytes of each halfword in the other order
abbrev pub rev16_of : ℕ → ℕ
rev16_of x = x ⟨ 15 ‥ 8 ⟩ + x ⟨ 7 ‥ 0 ⟩ * 2 ^ 8 + x ⟨ 31 ‥ 24 ⟩ * 2 ^ 16 + x ⟨ 23 ‥ 16 ⟩ * 2 ^ 24

-- A4.1.58 REVSH: the bytes of the low halfword in the other order, sign extended
abbrev pub revsh_of : ℕ → ℕ
revsh_of x = extended_of 16 (x ⟨ 15 ‥ 8 ⟩ + x ⟨ 7 ‥ 0 ⟩ * 2 ^ 8)

-- the lowest k bits in the other order: bit 0 becomes bit k - 1 (DDI 0406C A8.8.144, RBIT, with k = 32)
unfoldable pub reversed_of : ℕ → ℕ → ℕ
reversed_of zero x = 0
reversed_of (suc k) x = x % 2 * 2 ^ k + reversed_of k (x / 2)

-- the zero bits above the highest set bit of x, of k bits (A4.1.13 CLZ, with k = 32)
unfoldable pub zeros_above : ℕ → ℕ → ℕ
zeros_above zero x = 0
zeros_above (suc k) x = when 2 ^ k ≤? x then 0 else suc (zeros_above k x)

-- the sum of the lowest k bits of x (Glossary, Number_Of_Set_Bits_In)
unfoldable pub ones_of : ℕ → ℕ → ℕ
ones_of zero x = 0
ones_of (suc k) x = x % 2 + ones_of k (x / 2)
