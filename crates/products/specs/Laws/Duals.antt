-- Laws of the most significant words.
use Rattle.std.specs.Prelude.{◌≡◌, ℕ, ◌+◌, ◌*◌, ◌/◌, ◌%◌, ◌^◌, ◌≤◌, Bool, true, false, ℤ, pos, ◌+ℤ◌, ◌*ℤ◌, neg_ℤ}
use Rattle.std.proofs.Common.{sym, ◌∙◌, ⊎_elim, arith}
use Rattle.std.proofs.Math.Path.{ap}
use Rattle.std.proofs.Math.IntN.{+ℤ_idl, +ℤ_assoc, +ℤ_comm}
use Rattle.bits.specs.Cases.{when◌then◌else◌}
use Rattle.bits.specs.Fields.{bit_of}
use Rattle.bits.specs.Integers.{signed, wrap}
use Rattle.bits.specs.Laws.Order.{split}
use Rattle.bits.specs.Laws.Diff.{diff_eq, diff_pos, diff_mul, diff_add_pos}
use Rattle.bits.specs.Laws.Wrap.{wrap_add, wrap_more, wrap_lt}
use Rattle.bits.specs.Laws.Signed.{signed_low, signed_high}
use Rattle.products.specs.Products.{total_of}
use Rattle.products.specs.Duals.{most_of}
use Rattle.products.specs.Laws.Products.{upper_half}

from_zero : (z : ℤ) (b k : ℕ) → pos 0 +ℤ z +ℤ pos (b + k) ≡ pos b +ℤ z +ℤ pos k
from_zero z b k =
    ap (λ (t : ℤ). t +ℤ pos (b + k)) (+ℤ_idl z) ∙ sym (+ℤ_assoc z (pos b) (pos k)) ∙ ap (λ (t : ℤ). t +ℤ pos k) (+ℤ_comm z (pos b))

-- the base may be added after the product
base_last : (z : ℤ) (b k : ℕ) (subtract : Bool) → total_of (pos 0) z subtract +ℤ pos (b + k) ≡ total_of (pos b) z subtract +ℤ pos k
unfolding total_of when◌then◌else◌
base_last z b k true = from_zero (neg_ℤ z) b k
base_last z b k false = from_zero z b k

-- the code adds base and rounding to the wrapped product, or to its negative
pub most_law : (base m s : ℕ) (subtract r : Bool)
    → (wrap 64 (total_of (pos 0) (signed 32 m *ℤ signed 32 s) subtract) + (base + bit_of r * 2 ^ 31)) % 2 ^ 64 / 2 ^ 32 ≡ most_of (pos base) m s subtract r
unfolding most_of
most_law base m s subtract r =
    let p : ℤ = signed 32 m *ℤ signed 32 s in
    let z : ℤ = total_of (pos base) p subtract +ℤ pos (bit_of r * 2 ^ 31) in
    rw (wrap_add 64 (total_of (pos 0) p subtract) (base + bit_of r * 2 ^ 31), base_last p base (bit_of r * 2 ^ 31) subtract)
    (upper_half (wrap 64 z) (wrap_lt 64 z))

swapped : (x y z : ℤ) → x +ℤ y +ℤ z ≡ x +ℤ z +ℤ y
swapped x y z = +ℤ_assoc x y z ∙ ap (λ (t : ℤ). x +ℤ t) (+ℤ_comm y z) ∙ sym (+ℤ_assoc x z y)

-- Rn << 32 may be read as a natural: where the signed reading is another, it is 2^64 less
module _ (n : ℕ) where
  base_high : 2 ^ 31 ≤ n → signed 32 n *ℤ pos (2 ^ 32) +ℤ pos (2 ^ 64) ≡ pos (n * 2 ^ 32)
  base_high l =
      rw (signed_high 32 n l, diff_pos (2 ^ 32), diff_mul n (2 ^ 32) (2 ^ 32) 0, diff_add_pos (n * 2 ^ 32 + 2 ^ 32 * 0) (n * 0 + 2 ^ 32 * 2 ^ 32) (2 ^ 64))
      (diff_eq (n * 2 ^ 32 + 2 ^ 32 * 0 + 2 ^ 64) (n * 0 + 2 ^ 32 * 2 ^ 32) (n * 2 ^ 32) 0 (omega arith) ∙ sym (diff_pos (n * 2 ^ 32)))

  base_read : (y : ℤ) → wrap 64 (pos (n * 2 ^ 32) +ℤ y) ≡ wrap 64 (signed 32 n *ℤ pos (2 ^ 32) +ℤ y)
  base_read y =
      ⊎_elim
      (λ l. rw (signed_low 32 n l))
      (λ l. let b : ℤ = signed 32 n *ℤ pos (2 ^ 32) in
      ap (λ (t : ℤ). wrap 64 (t +ℤ y)) (sym (base_high l)) ∙ ap (wrap 64) (swapped b (pos (2 ^ 64)) y) ∙ sym (wrap_more 64 (b +ℤ y)))
      (split n (2 ^ 31))

  base_first : (y : ℤ) (k : ℕ) → wrap 64 (pos (n * 2 ^ 32) +ℤ y +ℤ pos k) ≡ wrap 64 (signed 32 n *ℤ pos (2 ^ 32) +ℤ y +ℤ pos k)
  base_first y k = rw (+ℤ_assoc (pos (n * 2 ^ 32)) y (pos k), +ℤ_assoc (signed 32 n *ℤ pos (2 ^ 32)) y (pos k)) (base_read (y +ℤ pos k))

  pub base_is : (m s : ℕ) (subtract r : Bool) → most_of (pos (n * 2 ^ 32)) m s subtract r ≡ most_of (signed 32 n *ℤ pos (2 ^ 32)) m s subtract r
  unfolding most_of total_of when◌then◌else◌
  base_is m s true r = ap (λ (w : ℕ). w / 2 ^ 32 % 2 ^ 32) (base_first (neg_ℤ (signed 32 m *ℤ signed 32 s)) (bit_of r * 2 ^ 31))
  base_is m s false r = ap (λ (w : ℕ). w / 2 ^ 32 % 2 ^ 32) (base_first (signed 32 m *ℤ signed 32 s) (bit_of r * 2 ^ 31))
