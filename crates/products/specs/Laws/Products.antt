-- What the code computes in 64 bits is the definitions' bits of exact integers.
use Rattle.std.specs.Prelude.{◌≡◌, ℕ, ◌/◌, ◌%◌, ◌^◌, ◌<◌, ℤ, pos}
use Rattle.std.proofs.Common.{sym, arith, mod-eq_of_lt}
use Rattle.bits.specs.Integers.{wrap}
use Rattle.bits.specs.Laws.Wrap.{wrap_lt}
use Rattle.products.specs.declared.Long.{Long}
use Rattle.products.specs.Products.{long_of}

-- the upper half of a number of 64 bits
pub upper_half : (w : ℕ) → w < 2 ^ 64 → w / 2 ^ 32 ≡ w / 2 ^ 32 % 2 ^ 32
upper_half w h = sym (mod-eq_of_lt (omega arith))

pub long_halves : (w : ℕ) → w < 2 ^ 64 → ◌≡◌ {A = Long} (record { lo = w % 2 ^ 32; hi = w / 2 ^ 32 }) (long_of (pos w))
unfolding long_of
long_halves w h = rw (mod-eq_of_lt h, ← upper_half w h)

pub long_wrapped : (z : ℤ) → long_of (pos (wrap 64 z)) ≡ long_of z
unfolding long_of
long_wrapped z = rw (mod-eq_of_lt (wrap_lt 64 z))

-- a sum that wraps at 64 bits
pub long_wrapping : (n : ℕ) → long_of (pos (n % 2 ^ 64)) ≡ long_of (pos n)
long_wrapping n = long_wrapped (pos n)
