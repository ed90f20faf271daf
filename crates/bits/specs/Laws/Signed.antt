-- The signed reading at any width, as a difference and as a bound.
use Rattle.std.specs.Prelude.{zero, ◌≡◌, ℕ, suc, ◌+◌, ◌-◌, ◌*◌, ◌%◌, ◌^◌, ◌<◌, ◌≤◌, ◌||◌, pos, ◌-ℤ◌, nat_le, nat_lt}
use Rattle.std.proofs.Common.{◌∙◌, ⊎_elim, arith, mod-eq_of_lt, pow-suc, pow_pos, lt-ltb, le-ltb}
use Rattle.std.proofs.Math.IntN.{sub_ℕ}
use Rattle.bits.specs.Cases.{if_yes, if_no}
use Rattle.bits.specs.Integers.{signed, wrap, outside}
use Rattle.bits.specs.Laws.Order.{split, ltb_same, ltb_leb, or_same}
use Rattle.bits.specs.Laws.Diff.{diff_eq, diff_pos, diff_lt_z, neg_pos, pos_sub}
use Rattle.bits.specs.Laws.Wrap.{mod_both, wrap_diff}

pub twice_half : (k : ℕ) → 0 < k → 2 ^ k ≡ 2 * 2 ^ (k - 1)
twice_half zero h = elim h [ ]
twice_half (suc k) h = let e : suc k - 1 ≡ k = omega arith in rw (e, pow-suc 2 k) (omega arith)

module _ (k n : ℕ) where
  pub signed_low : n < 2 ^ (k - 1) → signed k n ≡ pos n
  unfolding signed
  signed_low l = if_yes (nat_lt n (2 ^ (k - 1))) (pos n) (pos n -ℤ pos (2 ^ k)) (lt-ltb n (2 ^ (k - 1)) l)

  pub signed_high : 2 ^ (k - 1) ≤ n → signed k n ≡ sub_ℕ n (2 ^ k)
  unfolding signed
  signed_high l = if_no (nat_lt n (2 ^ (k - 1))) (pos n) (pos n -ℤ pos (2 ^ k)) (le-ltb n (2 ^ (k - 1)) l) ∙ pos_sub n (2 ^ k)

-- the reading and half the range more is a natural: order and sums of readings are those of naturals
abbrev pub lifted : ℕ → ℕ → ℕ
lifted k n = (n + 2 ^ (k - 1)) % 2 ^ k

module _ (k n : ℕ) (hk : 0 < k) (hn : n < 2 ^ k) where
  lifted_low : n < 2 ^ (k - 1) → lifted k n ≡ n + 2 ^ (k - 1)
  lifted_low l = mod-eq_of_lt (omega (arith, twice_half k hk))

  lifted_high : 2 ^ (k - 1) ≤ n → lifted k n ≡ n - 2 ^ (k - 1)
  lifted_high l =
      mod_both (n + 2 ^ (k - 1)) (n - 2 ^ (k - 1)) (2 ^ k) 0 1 (omega (arith, twice_half k hk))
      ∙ mod-eq_of_lt (omega (arith, pow_pos (k - 1)))

  pub signed_lifted : signed k n ≡ sub_ℕ (lifted k n) (2 ^ (k - 1))
  signed_lifted =
      ⊎_elim
      (λ l. signed_low k n l ∙ diff_pos n ∙ diff_eq n 0 (lifted k n) (2 ^ (k - 1)) (rw (lifted_low l) (omega arith)))
      (λ l. signed_high k n l ∙ diff_eq n (2 ^ k) (lifted k n) (2 ^ (k - 1)) (rw (lifted_high l) (omega (arith, twice_half k hk))))
      (split n (2 ^ (k - 1)))

  -- reading a word and wrapping it again gives the word
  pub wrap_signed : wrap k (signed k n) ≡ n
  wrap_signed =
      ⊎_elim
      (λ l. rw (signed_low k n l) (mod-eq_of_lt hn))
      (λ l. rw (signed_high k n l) (wrap_diff k n (2 ^ k) n 0 1 hn (omega arith)))
      (split n (2 ^ (k - 1)))

-- a difference outside the signed range
pub outside_diff : (k a b : ℕ) → outside k (sub_ℕ a b) ≡ (nat_lt (a + 2 ^ (k - 1)) b || nat_le (b + 2 ^ (k - 1)) a)
unfolding outside
outside_diff k a b =
    let h : ℕ = 2 ^ (k - 1) in
    rw (neg_pos h, diff_pos (h - 1), diff_lt_z a b 0 h, diff_lt_z (h - 1) 0 a b)
    (or_same
    (ltb_same (a + h) (0 + b) (a + h) b (λ e. omega arith) (λ e. omega arith))
    (ltb_leb (h - 1 + b) (a + 0) (b + h) a (λ e. omega (arith, pow_pos (k - 1))) (λ e. omega (arith, pow_pos (k - 1)))))
