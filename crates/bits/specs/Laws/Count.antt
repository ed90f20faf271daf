-- The language's own counts are the definitions' counts.
use Rattle.std.specs.Prelude.{◌≡◌, ℕ, zero, suc, ◌+◌, ◌*◌, ◌/◌, ◌%◌, ◌^◌, ◌<◌, ◌≤◌, refl}
use Rattle.std.proofs.Common.{sym, ap, ◌∙◌, ⊎_elim, arith, le-leb}
use Rattle.std.specs.Int.Count.{count_leading_zeros, leading_unique, ones, ones_step}
use Rattle.std.proofs.lemmas.Bool.{lt-leb}
use Rattle.bits.specs.Cases.{if_yes, if_no}
use Rattle.bits.specs.Words.{zeros_above, ones_of}
use Rattle.bits.specs.Laws.Order.{split}

-- x has m bits, of which the highest is set
record Length (k x : ℕ) : Type 0 where
  m : ℕ
  at : zeros_above k x + m ≡ k
  below : x < 2 ^ m
  close : 2 ^ m ≤ 2 * x + 1

length_of : (k x : ℕ) → x < 2 ^ k → Length k x
unfolding zeros_above
length_of zero x h = record { m = 0; at = refl; below = h; close = omega arith }
length_of (suc k) x h =
    ⊎_elim
    (λ l. let r : Length k x = length_of k x l in
    record { m = r.m; at = rw (lt-leb (2 ^ k) x l, if_no) (omega (arith, r.at)); below = r.below; close = r.close })
    (λ l. record { m = suc k; at = rw (le-leb (2 ^ k) x l, if_yes) (omega arith); below = h; close = omega arith })
    (split x (2 ^ k))

pub leading_is : (x : ℕ) → x < 2 ^ 32 → count_leading_zeros 32 x ≡ zeros_above 32 x
leading_is x h = let r : Length 32 x = length_of 32 x h in sym (leading_unique 32 x (zeros_above 32 x) r.m r.at r.below r.close)

pub ones_is : (k x : ℕ) → x < 2 ^ k → ones x ≡ ones_of k x
unfolding ones_of ones
ones_is zero x h = let e : x ≡ 0 = omega arith in rw e refl
ones_is (suc k) x h = ones_step x ∙ ap (λ (t : ℕ). x % 2 + t) (ones_is k (x / 2) (omega arith))

pub ones_le : (k x : ℕ) → ones_of k x ≤ k
unfolding ones_of
ones_le zero x = omega arith
ones_le (suc k) x = omega (arith, ones_le k (x / 2))
