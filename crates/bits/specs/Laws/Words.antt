-- Laws of fields, rotation, bit order and byte lanes.
use Rattle.std.specs.Prelude.{◌≡◌, ℕ, zero, suc, ◌+◌, ◌-◌, ◌*◌, ◌/◌, ◌%◌, ◌^◌, ◌<◌}
use Rattle.std.proofs.Math.Path.{refl, sym}
use Rattle.std.proofs.Common.{ap, ◌∙◌, div-one, mod-lt, mul-div_cancel, pow-add, pow_pos}
use native.Mathlib.Omega.{arith}
use Rattle.std.proofs.Math.Nat.{mod-eq_of_lt, mul-mod_left}
use Rattle.std.proofs.Math.Arith.{digits_lt, mod-mul}
use Rattle.std.proofs.Math.Pow.{shr_lt}
use Rattle.bits.specs.Fields.{◌>>◌}
use Rattle.std.specs.Int.{reverse_bits_onto}
use Rattle.std.specs.Int.Bits.{bit_or, or_self, or_shifted_r}
use Rattle.bits.specs.Words.{lanes_of, joined_of, rotated_of, rev_of, rev16_of, revsh_of, reversed_of, extended_of}
use Rattle.bits.specs.Integers.{signed, wrap}

pub shr_is : (w k : ℕ) → w >> k ≡ w / 2 ^ k
shr_is w zero = sym (div-one w)
shr_is w (suc k) = refl

pub join_lanes : (x : ℕ) → x < 2 ^ 32 → joined_of (lanes_of x) ≡ x
join_lanes x h = let e : x / 2 ^ 24 % 2 ^ 8 ≡ x / 2 ^ 24 = mod-eq_of_lt (omega arith) in rw e (omega arith)

pub powers : (i j k : ℕ) → i + j ≡ k → 2 ^ i * 2 ^ j ≡ 2 ^ k
powers i j k e = sym (pow-add 2 i j) ∙ ap (λ (n : ℕ). 2 ^ n) e

-- Rotation: the library sets the low n bits, shifted up, beside the others.
module _ (x n : ℕ) (hx : x < 2 ^ 32) (hn : n < 32) where
  span : 2 ^ n * 2 ^ (32 - n) ≡ 2 ^ 32
  span = powers n (32 - n) 32 (omega arith)

  above_lt : x / 2 ^ n < 2 ^ (32 - n)
  above_lt = let e : (32 - n) + n ≡ 32 = omega arith in shr_lt (32 - n) n (rw e hx)

  below : x * 2 ^ (32 - n) % 2 ^ 32 ≡ x % 2 ^ n * 2 ^ (32 - n)
  below =
      ap (λ (m : ℕ). x * 2 ^ (32 - n) % m) (sym span)
      ∙ mod-mul (x * 2 ^ (32 - n)) (pow_pos n) (pow_pos (32 - n))
      ∙ rw (mul-div_cancel x (pow_pos (32 - n)), mul-mod_left x (2 ^ (32 - n))) (omega arith)

  pub rotated_lt : rotated_of x n < 2 ^ 32
  unfolding rotated_of
  rotated_lt = rw span at (digits_lt (mod-lt x (pow_pos n)) above_lt)

pub rotated_is : (x n : ℕ) → x < 2 ^ 32 → n < 32 → bit_or (x / 2 ^ n) (x * 2 ^ ((32 - n) % 32) % 2 ^ 32) ≡ rotated_of x n
unfolding rotated_of
rotated_is x zero hx hn = let e : x * 1 % 2 ^ 32 ≡ x = omega arith in rw (e, div-one x, or_self x) (omega arith)
rotated_is x (suc n) hx hn =
    let e : (32 - suc n) % 32 ≡ 32 - suc n = mod-eq_of_lt (omega arith) in
    rw (e, below x (suc n) hx hn) (or_shifted_r (x % 2 ^ suc n) (32 - suc n) (x / 2 ^ suc n) (above_lt x (suc n) hx hn))

-- the two halves of REV's word exchanged, and its halfword below
pub rev16_is : (x : ℕ) → rotated_of (rev_of x) 16 ≡ rev16_of x
unfolding rotated_of
rev16_is x = omega arith

pub revsh_is : (x : ℕ) → extended_of 16 (rev16_of x) ≡ revsh_of x
unfolding extended_of
revsh_is x = ap (λ (y : ℕ). wrap 32 (signed 16 y)) (omega arith)

-- Bit reversal: the library sets the bits, lowest first, after those of a.
reversed_onto : (k x a : ℕ) → reverse_bits_onto k x a ≡ a * 2 ^ k + reversed_of k x
unfolding reverse_bits_onto reversed_of
reversed_onto zero x a = omega arith
reversed_onto (suc k) x a =
    let p : 2 ^ suc k ≡ 2 * 2 ^ k = omega arith in
    rw (reversed_onto k (x / 2) (a * 2 + x % 2), p) (omega arith)

pub reversed_is : (x : ℕ) → reverse_bits_onto 32 x 0 ≡ reversed_of 32 x
reversed_is x = omega (arith, reversed_onto 32 x 0)
