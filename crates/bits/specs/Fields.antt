-- Bits and fields of a word, written as the manual writes them: w ⟨ 31 ⟩ and op ⟨ 19 ‥ 16 ⟩.
use Rattle.std.specs.Prelude.{ℕ, zero, suc, ◌-◌, ◌/◌, ◌%◌, ◌^◌, Bool, ◌==◌}
use mir.Val.{bool_byte}

-- w / 2^k; spelled by cases so that the lowest bits are those of w itself, with no division
infixl 65 ◌>>◌
abbrev pub ◌>>◌ : ℕ → ℕ → ℕ
w >> zero = w
w >> suc k = w / 2 ^ suc k

-- bits hi down to lo, as a number
infixl 90 ◌⟨◌‥◌⟩
abbrev pub ◌⟨◌‥◌⟩ : ℕ → ℕ → ℕ → ℕ
w ⟨ hi ‥ lo ⟩ = (w >> lo) % 2 ^ (suc hi - lo)

-- bit k, as a truth value
infixl 90 ◌⟨◌⟩
abbrev pub ◌⟨◌⟩ : ℕ → ℕ → Bool
w ⟨ k ⟩ = (w >> k) % 2 == 1

-- a truth value as a bit: 1 for true, 0 for false
abbrev pub bit_of : Bool → ℕ
bit_of b = bool_byte b
