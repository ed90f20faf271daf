-- Plans of accesses in transfer order, and the first of them that has a byte outside memory: answer 7 (document 01, sections 1 and 2).
use Rattle.std.specs.Prelude.{Bool, Option, Some, None, Result, Ok, Err, List, [], ◌∷◌, ℕ, zero, suc, ◌+◌, ◌%◌, ◌^◌, length, get_or, drop}
use Rattle.std.proofs.lemmas.List.Edits.{sets}
use Rattle.bits.specs.Cases.{when◌then◌else◌, ◌<?◌}
use Rattle.memory.specs.declared.Width.{Width}
use Rattle.memory.specs.Bytes.{word_at, put_word, bytes_of, read_of, written_of}
use Rattle.memory.specs.declared.Outside.{Outside}

-- the addresses of `count` accesses of `width` bytes, one behind the other; address sums wrap at 32 bits
unfoldable pub accesses_of : ℕ → ℕ → ℕ → List ℕ
accesses_of at width zero = []
accesses_of at width (suc count) = at ∷ accesses_of ((at + width) % 2 ^ 32) width count

-- an access has a byte outside a memory of `len` bytes; the access itself does not wrap
abbrev pub reaches_out : ℕ → ℕ → ℕ → Bool
reaches_out len at width = len <? at + width

-- the first of the accesses, in order, that has a byte outside
unfoldable pub first_out : ℕ → ℕ → List ℕ → Option ℕ
first_out len width [] = None
first_out len width (a ∷ rest) = when reaches_out len a width then Some a else first_out len width rest

-- the address of answer 7 for `count` accesses of `width` bytes from `at` on, where there is one
abbrev pub outside_of : ℕ → ℕ → ℕ → ℕ → Option ℕ
outside_of len at width count = first_out len width (accesses_of at width count)

-- the words at the addresses, in order
unfoldable pub words_at : List ℕ → List ℕ → List ℕ
words_at l [] = []
words_at l (a ∷ rest) = word_at l a ∷ words_at l rest

-- the values with `count` words from `at` on in their first places, in transfer order; `sets` stores one after another from a place on
unfoldable pub loaded_of : List ℕ → ℕ → ℕ → List ℕ → List ℕ
loaded_of l at count values = sets values 0 (words_at l (accesses_of at 4 count))

-- the first value written as a word at the first address, the second at the second, and so on
unfoldable pub put_words : List ℕ → List ℕ → List ℕ → List ℕ
put_words l [] values = l
put_words l (a ∷ rest) values = put_words (put_word l a (get_or values 0 0)) rest (drop 1 values)

-- memory with the first `count` values as words from `at` on, in transfer order
unfoldable pub stored_of : List ℕ → ℕ → ℕ → List ℕ → List ℕ
stored_of l at count values = put_words l (accesses_of at 4 count) values

-- a plan is tested whole before anything moves: what is read, or the address of answer 7
unfoldable pub within_of : {A : Type 0} → Option ℕ → A → Result A Outside
within_of None x = Ok x
within_of (Some a) x = Err (record { 0 = a })

-- what stands afterwards
unfoldable pub kept_of : {A : Type 0} → Option ℕ → A → A → A
kept_of None before after = after
kept_of (Some a) before after = before

-- the answer of a plan that was performed or refused, and what stands afterwards
abbrev pub performed_of : {A : Type 0} → Option ℕ → A → A → Result Unit Outside × A
performed_of found before after = (within_of found tt, kept_of found before after)

abbrev pub load_plan_of : List ℕ → ℕ → ℕ → List ℕ → Result Unit Outside × List ℕ
load_plan_of l at count values = performed_of (outside_of (length l) at 4 count) values (loaded_of l at count values)

abbrev pub store_plan_of : List ℕ → ℕ → ℕ → List ℕ → Result Unit Outside × List ℕ
store_plan_of l at count values = performed_of (outside_of (length l) at 4 count) l (stored_of l at count values)

-- one number of any width
abbrev pub load_one_of : List ℕ → ℕ → Width → Result ℕ Outside
load_one_of l at width = within_of (outside_of (length l) at (bytes_of width) 1) (read_of l at width)

abbrev pub store_one_of : List ℕ → ℕ → Width → ℕ → Result Unit Outside × List ℕ
store_one_of l at width value = performed_of (outside_of (length l) at (bytes_of width) 1) l (written_of l at width value)

-- two words; the second address wraps at 32 bits
abbrev pub load_pair_of : List ℕ → ℕ → Result (ℕ × ℕ) Outside
load_pair_of l at = within_of (outside_of (length l) at 4 2) (word_at l at, word_at l ((at + 4) % 2 ^ 32))

abbrev pub store_pair_of : List ℕ → ℕ → ℕ → ℕ → Result Unit Outside × List ℕ
store_pair_of l at low high =
    performed_of (outside_of (length l) at 4 2) l (put_word (put_word l at low) ((at + 4) % 2 ^ 32) high)
