-- Numbers in memory, a list of bytes: little-endian, at any address, in 1, 2 or 4 bytes (document 01, section 1).
use Rattle.std.specs.Prelude.{List, ℕ, ◌+◌, ◌*◌, ◌^◌, get_or, set}
use Rattle.bits.specs.Fields.{◌⟨◌‥◌⟩}
use Rattle.memory.specs.declared.Width.{Width}
use Rattle.memory.specs.declared.Width.TheVariants.{Byte, Half, Word}

-- the number at an address: its lowest byte stands first
abbrev pub byte_at : List ℕ → ℕ → ℕ
byte_at l at = get_or l at 0

unfoldable pub half_at : List ℕ → ℕ → ℕ
half_at l at = byte_at l at + byte_at l (at + 1) * 2 ^ 8

unfoldable pub word_at : List ℕ → ℕ → ℕ
word_at l at = byte_at l at + byte_at l (at + 1) * 2 ^ 8 + byte_at l (at + 2) * 2 ^ 16 + byte_at l (at + 3) * 2 ^ 24

-- memory with the low bytes of v at an address, and every other byte as it was
abbrev pub put_byte : List ℕ → ℕ → ℕ → List ℕ
put_byte l at v = set l at (v ⟨ 7 ‥ 0 ⟩)

unfoldable pub put_half : List ℕ → ℕ → ℕ → List ℕ
put_half l at v = set (set l at (v ⟨ 7 ‥ 0 ⟩)) (at + 1) (v ⟨ 15 ‥ 8 ⟩)

unfoldable pub put_word : List ℕ → ℕ → ℕ → List ℕ
put_word l at v = set (set (set (set l at (v ⟨ 7 ‥ 0 ⟩)) (at + 1) (v ⟨ 15 ‥ 8 ⟩)) (at + 2) (v ⟨ 23 ‥ 16 ⟩)) (at + 3) (v ⟨ 31 ‥ 24 ⟩)

-- how many bytes an access moves
abbrev pub bytes_of : Width → ℕ
bytes_of Byte = 1
bytes_of Half = 2
bytes_of Word = 4

-- the same by the width
abbrev pub read_of : List ℕ → ℕ → Width → ℕ
read_of l at Byte = byte_at l at
read_of l at Half = half_at l at
read_of l at Word = word_at l at

abbrev pub written_of : List ℕ → ℕ → Width → ℕ → List ℕ
written_of l at Byte v = put_byte l at v
written_of l at Half v = put_half l at v
written_of l at Word v = put_word l at v
