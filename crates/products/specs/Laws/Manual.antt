-- Where the manual's pseudo-code is written otherwise than the definitions, it gives the same.
use Rattle.std.specs.Prelude.{◌≡◌, ℕ, suc, ◌+◌, ◌-◌, ◌*◌, ◌/◌, ◌%◌, ◌^◌, ◌<◌, ◌≤◌, Bool, true, false, ℤ, pos, negsuc, ◌+ℤ◌, ◌-ℤ◌, ◌*ℤ◌, neg_ℤ}
use Rattle.std.proofs.Common.{sym, ap, ◌∙◌, ⊎_elim, arith, mul-le-mul, mod-lt, lit<, le-ltb, le-leb}
use Rattle.std.proofs.Math.IntN.{sub_ℕ}
use Rattle.std.specs.Int.Signed.{mag}
use Rattle.std.proofs.Math.Pow.{mod-mod-pow}
use Rattle.std.proofs.lemmas.Bool.{lt-leb}
use Rattle.bits.specs.Cases.{when◌then◌else◌, ◌≤?◌}
use Rattle.bits.specs.Fields.{bit_of, ◌⟨◌‥◌⟩}
use Rattle.bits.specs.Integers.{signed, wrap, outside}
use Rattle.bits.specs.Laws.Order.{split}
use Rattle.bits.specs.Laws.Diff.{diff_lt, diff_pos, neg_pos, diff_sub}
use Rattle.bits.specs.Laws.Signed.{signed_low, signed_high, outside_diff}
use Rattle.bits.specs.Laws.Wrap.{mod_same, wrap_add, wrap_lt}
use Rattle.products.specs.Products.{◌⟦◌‥◌⟧, long_of, pair_of, sticky_of, total_of, half_of}
use Rattle.products.specs.Duals.{second_of, dual_of, smuad_of}
use Rattle.products.specs.Laws.Products.{upper_half}

-- SMUSD sets no Q: the reading of a halfword is from -2^15 to 2^15 - 1, so a product of two is from 2^15 - 2^30 to 2^30
half_size : (n : ℕ) → n < 2 ^ 16 → mag (signed 16 n) < 2 ^ 15
half_size n h =
    ⊎_elim
    (λ l. rw (signed_low 16 n l) l)
    (λ l. rw (signed_high 16 n l, diff_lt n (2 ^ 16) h) (omega arith))
    (split n (2 ^ 15))

record Reach (z : ℤ) : Type 0 where
  up : ℕ
  down : ℕ
  at : z ≡ sub_ℕ up down
  high : up ≤ down + 2 ^ 30
  low : down < up + 2 ^ 30

rising : (n : ℕ) → n ≤ 2 ^ 30 → Reach (pos n)
rising n h = record { up = n; down = 0; at = diff_pos n; high = h; low = omega arith }

falling : (n : ℕ) → n < 2 ^ 30 → Reach (neg_ℤ (pos n))
falling n h = record { up = 0; down = n; at = neg_pos n; high = omega arith; low = h }

times : (a b p q : ℕ) → a ≤ p → b ≤ q → a * b ≤ p * q
times a b p q h k = mul-le-mul h k

reach : (x y : ℤ) → mag x < 2 ^ 15 → mag y < 2 ^ 15 → Reach (x *ℤ y)
reach (pos a) (pos b) h k = rising (a * b) (omega (arith, times a b (2 ^ 15) (2 ^ 15) (omega arith) (omega arith)))
reach (pos a) (negsuc b) h k = falling (a * suc b) (omega (arith, times a (suc b) (2 ^ 15 - 1) (2 ^ 15) (omega arith) (omega arith)))
reach (negsuc a) (pos b) h k = falling (suc a * b) (omega (arith, times (suc a) b (2 ^ 15) (2 ^ 15 - 1) (omega arith) (omega arith)))
reach (negsuc a) (negsuc b) h k = rising (suc a * suc b) (omega (arith, times (suc a) (suc b) (2 ^ 15) (2 ^ 15) (omega arith) (omega arith)))

difference_fits : (x y : ℤ) → Reach x → Reach y → outside 32 (x -ℤ y) ≡ false
difference_fits x y p q =
    rw (p.at, q.at, diff_sub p.up p.down q.up q.down, outside_diff 32 (p.up + q.down) (p.down + q.up), le-ltb (p.up + q.down + 2 ^ 31) (p.down + q.up) (omega (arith, p.low, q.high)), lt-leb (p.down + q.up + 2 ^ 31) (p.up + q.down) (omega (arith, p.high, q.low)))

picked : (w : ℕ) (top : Bool) → mag (half_of w top) < 2 ^ 15
unfolding half_of when◌then◌else◌
picked w true = half_size (w ⟨ 31 ‥ 16 ⟩) (mod-lt (w / 2 ^ 16) (lit< tt))
picked w false = half_size (w ⟨ 15 ‥ 0 ⟩) (mod-lt w (lit< tt))

pub smusd_keeps_q : (m s : ℕ) (x : Bool) → (smuad_of m s true x).q ≡ false
unfolding smuad_of sticky_of dual_of total_of when◌then◌else◌
smusd_keeps_q m s x =
    difference_fits (half_of m false *ℤ half_of (second_of s x) false) (half_of m true *ℤ half_of (second_of s x) true)
    (reach (half_of m false) (half_of (second_of s x) false) (picked m false) (picked (second_of s x) false))
    (reach (half_of m true) (half_of (second_of s x) true) (picked m true) (picked (second_of s x) true))

middle : (n : ℕ) → n % 2 ^ 64 / 2 ^ 32 % 2 ^ 32 ≡ n / 2 ^ 32 % 2 ^ 32
middle n = sym (mod_same (n / 2 ^ 32) (n % 2 ^ 64 / 2 ^ 32) (2 ^ 32) (n / 2 ^ 64) (omega arith))

-- UMLAL and SMLAL by words: RdLo takes product[31:0], and RdHi product[63:32] with the carry of that sum
module _ (w lo hi : ℕ) (hw : w < 2 ^ 64) where
  abbrev sum : ℕ
  sum = w + pair_of lo hi

  lower : sum % 2 ^ 64 % 2 ^ 32 ≡ (w % 2 ^ 32 + lo) % 2 ^ 32
  lower = mod-mod-pow sum 32 32 ∙ mod_same sum (w % 2 ^ 32 + lo) (2 ^ 32) (w / 2 ^ 32 + hi) (omega arith)

  upper : (c : ℕ) → (w % 2 ^ 32 + lo) / 2 ^ 32 ≡ c → sum % 2 ^ 64 / 2 ^ 32 % 2 ^ 32 ≡ (w / 2 ^ 32 % 2 ^ 32 + hi + c) % 2 ^ 32
  upper c e =
      let q : sum / 2 ^ 32 ≡ w / 2 ^ 32 + hi + c = omega arith in
      middle sum ∙ ap (λ (t : ℕ). t % 2 ^ 32) q ∙ ap (λ (t : ℕ). (t + hi + c) % 2 ^ 32) (upper_half w hw)

  carried : lo < 2 ^ 32 → (w % 2 ^ 32 + lo) / 2 ^ 32 ≡ bit_of (2 ^ 32 ≤? w % 2 ^ 32 + lo)
  carried h =
      ⊎_elim
      (λ l. rw (lt-leb (2 ^ 32) (w % 2 ^ 32 + lo) l) (omega arith))
      (λ l. rw (le-leb (2 ^ 32) (w % 2 ^ 32 + lo) l) (omega arith))
      (split (w % 2 ^ 32 + lo) (2 ^ 32))

pub by_words : (z : ℤ) (lo hi : ℕ) → lo < 2 ^ 32
    → long_of (z +ℤ pos (pair_of lo hi))
    ≡ record {
      lo = (z ⟦ 31 ‥ 0 ⟧ + lo) % 2 ^ 32;
      hi = (z ⟦ 63 ‥ 32 ⟧ + hi + bit_of (2 ^ 32 ≤? z ⟦ 31 ‥ 0 ⟧ + lo)) % 2 ^ 32;
    }
unfolding long_of
by_words z lo hi h =
    let w : ℕ = wrap 64 z in
    let l : w < 2 ^ 64 = wrap_lt 64 z in
    rw (← wrap_add 64 z (pair_of lo hi), lower w lo hi l, upper w lo hi l (bit_of (2 ^ 32 ≤? w % 2 ^ 32 + lo)) (carried w lo hi l h))
