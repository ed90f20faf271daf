-- A lane read as signed, the distance of two bytes, and the halves of a word of four lanes.
use Rattle.std.specs.Prelude.{◌≡◌, ℕ, ◌-◌, ◌%◌, ◌^◌, ◌≤◌, ◌<◌, ℤ, nat_lt}
use Rattle.std.proofs.Common.{⊎_elim, arith, lt-ltb, le-ltb, pow_mono, mod-eq_of_lt, to_z, of_z}
use Rattle.std.specs.Int.{w64, abs_diff}
use Rattle.bits.specs.Cases.{if_yes, if_no}
use Rattle.bits.specs.Fields.{◌⟨◌‥◌⟩}
use Rattle.bits.specs.Words.{lanes_of}
use Rattle.bits.specs.Integers.{signed}
use Rattle.bits.specs.Laws.Order.{split}
use Rattle.bits.specs.Laws.Range.{Within, Is, is_wider, heard}
use Rattle.lanes.specs.Parallel.{low_of, high_of}
use Rattle.lanes.specs.Bytes.{distance}

-- a lane as the code reads it, with one bound for both widths
pub lane_heard : {z : ℤ} {k x : ℕ} → (z ≡ signed k (x % 2 ^ k)) × Within (2 ^ (k - 1)) z → x < 2 ^ k → k ≤ 16 → Is (2 ^ 32) (to_z w64 (of_z w64 z)) (signed k x)
lane_heard {k = k} h l s =
    let b : 2 ^ (k - 1) ≤ 2 ^ 32 = pow_mono {j = 32} (omega arith) in
    rw (mod-eq_of_lt l) at (is_wider (heard h (omega (arith, b))) b)

pub distance_is : (x y : ℕ) → abs_diff x y ≡ distance x y
unfolding distance
distance_is x y =
    ⊎_elim
    (λ h. rw (if_yes (nat_lt x y) (y - x) (x - y) (lt-ltb x y h)) (omega arith))
    (λ h. rw (if_no (nat_lt x y) (y - x) (x - y) (le-ltb x y h)) (omega arith))
    (split x y)

-- the halves of a word's four bytes are its fields
pub low_field : (w : ℕ) → low_of (lanes_of w) ≡ w ⟨ 15 ‥ 0 ⟩
low_field w = omega arith

pub high_field : (w : ℕ) → high_of (lanes_of w) ≡ w ⟨ 31 ‥ 16 ⟩
high_field w = omega arith
