-- Numbers of n words, lowest word first, and what a chain of subtractions or additions over them is to give.
use Rattle.std.specs.Prelude.{◌≡◌, Bool, true, false, not, List, [], ◌∷◌, ℕ, ◌+◌, ◌*◌, ◌%◌, ◌^◌, ◌<◌, pos, ◌+ℤ◌, ◌-ℤ◌, length}
use Rattle.std.specs.Bool.{beq}
use Rattle.std.specs.Int.Signed.{lt_z}
use Rattle.bits.specs.Cases.{◌≤?◌}
use Rattle.bits.specs.Integers.{signed, wrap, outside}
use Rattle.alu.specs.declared.Sum.{Sum}
use Rattle.alu.specs.Sums.{sbc_of, adc_of, negative}

abbrev pub number_of : List ℕ → ℕ
number_of [] = 0
number_of (x ∷ xs) = x + 2 ^ 32 * number_of xs

-- the two operand words of one link of a chain
pub record Pair : Type 0 where
  pub first : ℕ
  pub second : ℕ

abbrev pub firsts : List Pair → List ℕ
firsts [] = []
firsts (p ∷ ps) = p.first ∷ firsts ps

abbrev pub seconds : List Pair → List ℕ
seconds [] = []
seconds (p ∷ ps) = p.second ∷ seconds ps

-- every operand is a word
abbrev pub Words : List Pair → Type 0
Words [] = Unit {0}
Words (p ∷ ps) = (p.first < 2 ^ 32) × (p.second < 2 ^ 32) × Words ps

-- A chain applies one operation to pair after pair, each time with the carry of the link before.
-- The words that it writes:
abbrev pub words_of : (ℕ → ℕ → Bool → Sum) → Bool → List Pair → List ℕ
words_of op c [] = []
words_of op c (p ∷ ps) = (op p.first p.second c).value ∷ words_of op (op p.first p.second c).carry ps

-- and what its last link gives:
abbrev pub last_of : (ℕ → ℕ → Bool → Sum) → Bool → Pair → List Pair → Sum
last_of op c p [] = op p.first p.second c
last_of op c p (q ∷ ps) = last_of op (op p.first p.second c).carry q ps

-- what the pairs of a chain stand for: the number A of the first words, the number B of the second, and their width in bits
abbrev pub A : List Pair → ℕ
A ps = number_of (firsts ps)

abbrev pub B : List Pair → ℕ
B ps = number_of (seconds ps)

abbrev pub width : List Pair → ℕ
width ps = 32 * length ps

abbrev pub differ : Bool → Bool → Bool
differ a b = not (beq a b)

-- Demand 3 for SUBS, which is SBCS with C set, and then SBCS, over the n ≥ 1 pairs p ∷ ps:
pub record Difference (p : Pair) (ps : List Pair) : Type 0 where
  -- the words written are A - B modulo 2^(32 n)
  pub result : number_of (words_of sbc_of true (p ∷ ps)) ≡ wrap (width (p ∷ ps)) (pos (A (p ∷ ps)) -ℤ pos (B (p ∷ ps)))
  -- C is set exactly when A is not below B
  pub carry : (last_of sbc_of true p ps).carry ≡ (B (p ∷ ps) ≤? A (p ∷ ps))
  -- N and V differ exactly when A is below B as signed numbers
  pub below : differ (negative (last_of sbc_of true p ps).value) (last_of sbc_of true p ps).overflow
      ≡ lt_z (signed (width (p ∷ ps)) (A (p ∷ ps))) (signed (width (p ∷ ps)) (B (p ∷ ps)))

-- Demand 3 for ADDS, which is ADCS with C clear, and then ADCS:
pub record Total (p : Pair) (ps : List Pair) : Type 0 where
  -- the words written are A + B modulo 2^(32 n)
  pub result : number_of (words_of adc_of false (p ∷ ps)) ≡ (A (p ∷ ps) + B (p ∷ ps)) % 2 ^ width (p ∷ ps)
  -- C is set exactly when A + B does not fit 32 n bits
  pub carry : (last_of adc_of false p ps).carry ≡ (2 ^ width (p ∷ ps) ≤? A (p ∷ ps) + B (p ∷ ps))
  -- V is set exactly when the sum of the signed readings is outside the signed range of 32 n bits
  pub overflow : (last_of adc_of false p ps).overflow
      ≡ outside (width (p ∷ ps)) (signed (width (p ∷ ps)) (A (p ∷ ps)) +ℤ signed (width (p ∷ ps)) (B (p ∷ ps)))
