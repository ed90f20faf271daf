-- Integers and the words that stand for them: the signed reading of a word, its range, and the way back modulo 2^k.
use Rattle.std.specs.Prelude.{ℕ, ◌-◌, ◌%◌, ◌^◌, Bool, ◌||◌, ℤ, pos, negsuc, ◌-ℤ◌, neg_ℤ, int_lt}
use Rattle.bits.specs.Cases.{when◌then◌else◌, ◌<?◌}

-- the two's complement reading of a word of k bits
unfoldable pub signed : ℕ → ℕ → ℤ
signed k x = when x <? 2 ^ (k - 1) then pos x else pos x -ℤ pos (2 ^ k)

-- an integer modulo 2^k; `negsuc n` is -(n + 1)
abbrev pub wrap : ℕ → ℤ → ℕ
wrap k (pos n) = n % 2 ^ k
wrap k (negsuc n) = (2 ^ k - 1) - n % 2 ^ k

-- the least and the greatest integer that a signed word of k bits holds
abbrev pub least : ℕ → ℤ
least k = neg_ℤ (pos (2 ^ (k - 1)))

abbrev pub greatest : ℕ → ℤ
greatest k = pos (2 ^ (k - 1) - 1)

-- outside the signed range of k bits
unfoldable pub outside : ℕ → ℤ → Bool
outside k z = int_lt z (least k) || int_lt (greatest k) z
