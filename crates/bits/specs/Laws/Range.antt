-- Ranges of integers: bounds that add and multiply, and from them what a signed expression of the code gives.
use Rattle.std.specs.Prelude.{◌≡◌, ℕ, zero, suc, ◌+◌, ◌-◌, ◌*◌, ◌%◌, ◌^◌, ◌<◌, ◌≤◌, ℤ, pos, negsuc, ◌+ℤ◌, ◌-ℤ◌, ◌*ℤ◌, neg_ℤ, FitsSigned, unsigned_abs, refl}
use Rattle.std.proofs.Common.{sym, ◌∙◌, subst, ⊎_elim, suc-le-suc, arith, div-le_self, mul-le-mul, le_trans, lt_of_le_of_lt, lit<, pow_mono, mod-eq_of_lt, to_z, of_z, to_z-of_z}
use Rattle.std.proofs.Math.IntN.{sub_ℕ}
use Rattle.std.specs.Int.Signed.{shr_z, mag, mag_shr}
use Rattle.std.proofs.Math.Facts.{to_z_pos}
use Rattle.std.specs.Int.{w64}
use Rattle.bits.specs.Integers.{signed}
use Rattle.bits.specs.Laws.Order.{split}
use Rattle.bits.specs.Laws.Diff.{diff_lt, diff_ge, pos_sub}
use Rattle.bits.specs.Laws.Signed.{signed_low, signed_high, twice_half}

abs_diff : (a b : ℕ) → unsigned_abs (sub_ℕ a b) ≤ a + b
abs_diff a b = ⊎_elim (λ h. rw (diff_lt a b h) (omega arith)) (λ h. rw (diff_ge a b h) (omega arith)) (split a b)

abs_diff_le : (a b m : ℕ) → a ≤ b + m → b ≤ a + m → unsigned_abs (sub_ℕ a b) ≤ m
abs_diff_le a b m h k = ⊎_elim (λ l. rw (diff_lt a b l) (omega arith)) (λ l. rw (diff_ge a b l) (omega arith)) (split a b)

abs_neg : (z : ℤ) → unsigned_abs (neg_ℤ z) ≡ unsigned_abs z
abs_neg (pos zero) = refl
abs_neg (pos (suc n)) = refl
abs_neg (negsuc n) = refl

abs_add : (x y : ℤ) → unsigned_abs (x +ℤ y) ≤ unsigned_abs x + unsigned_abs y
abs_add (pos a) (pos b) = omega arith
abs_add (pos a) (negsuc b) = abs_diff a (suc b)
abs_add (negsuc a) (pos b) = omega (arith, abs_diff b (suc a))
abs_add (negsuc a) (negsuc b) = omega arith

abs_mul : (x y : ℤ) → unsigned_abs (x *ℤ y) ≡ unsigned_abs x * unsigned_abs y
abs_mul (pos a) (pos b) = refl
abs_mul (pos a) (negsuc b) = abs_neg (pos (a * suc b))
abs_mul (negsuc a) (pos b) = abs_neg (pos (suc a * b))
abs_mul (negsuc a) (negsuc b) = refl

abs_shr : (z : ℤ) (d : ℕ) → unsigned_abs (shr_z z d) ≤ unsigned_abs z
abs_shr (pos n) d = div-le_self n d
abs_shr (negsuc n) d = suc-le-suc (div-le_self n d)

-- z is from -m to m: a record, so that m and z are found from a proof
pub record Within (m : ℕ) (z : ℤ) : Type 0 where
  pub within : unsigned_abs z ≤ m

pub in_nat : (n m : ℕ) → n ≤ m → Within m (pos n)
in_nat n m h = record { within = h }

pub in_add : {x y : ℤ} {m n : ℕ} → Within m x → Within n y → Within (m + n) (x +ℤ y)
in_add {x} {y} h k = record { within = omega (arith, abs_add x y) }

pub in_sub : {x y : ℤ} {m n : ℕ} → Within m x → Within n y → Within (m + n) (x -ℤ y)
in_sub {x} {y} h k = record { within = omega (arith, abs_add x (neg_ℤ y), abs_neg y) }

pub in_mul : {x y : ℤ} {m n : ℕ} → Within m x → Within n y → Within (m * n) (x *ℤ y)
in_mul {x} {y} h k = record { within = rw (abs_mul x y) (mul-le-mul h.within k.within) }

pub in_shr : {z : ℤ} {m : ℕ} (d : ℕ) → Within m z → Within m (shr_z z d)
in_shr {z} d h = record { within = le_trans (abs_shr z d) h.within }

pub in_signed : (k n : ℕ) → 0 < k → n < 2 ^ k → Within (2 ^ (k - 1)) (signed k n)
in_signed k n hk hn =
    ⊎_elim
    (λ l. record { within = rw (signed_low k n l) (omega arith) })
    (λ l. record { within = rw (signed_high k n l) (abs_diff_le n (2 ^ k) (2 ^ (k - 1)) (omega (arith, twice_half k hk)) (omega (arith, twice_half k hk))) })
    (split n (2 ^ (k - 1)))

fit64' : (z : ℤ) → unsigned_abs z < 2 ^ 63 → FitsSigned w64 z
fit64' (pos n) h = record { sfits = h }
fit64' (negsuc n) h = record { sfits = omega arith }

pub fit64 : {z : ℤ} {m : ℕ} → Within m z → m < 2 ^ 63 → FitsSigned w64 z
fit64 {z} h l = fit64' z (omega arith)

-- a bounded value of the code, read back
pub read64 : {z : ℤ} {m : ℕ} → Within m z → m < 2 ^ 63 → to_z w64 (of_z w64 z) ≡ z
read64 h l = to_z-of_z (fit64 h l)

-- and within a wider bound
pub read_within : {z : ℤ} {m n : ℕ} → Within m z → m < 2 ^ 63 → m ≤ n → Within n (to_z w64 (of_z w64 z))
read_within h l k = rw (read64 h l) (record { within = le_trans h.within k })

-- what a call promises of its signed result, read back
pub read_back : {z y : ℤ} → mag z < 2 ^ 63 → z ≡ y → to_z w64 (of_z w64 z) ≡ y
read_back h e = to_z-of_z {w = w64} (record { sfits = h }) ∙ e

pub shr_fits : (z : ℤ) (d : ℕ) → FitsSigned w64 z → FitsSigned w64 (shr_z z d)
shr_fits z d h = record { sfits = lt_of_le_of_lt (mag_shr z d) h.sfits }

-- Signed code, mirrored: t is what the logic has for a signed expression, y the integer meant, from -m to m.
-- A node's `fit_` law answers its goal, its `is_` law gives its value.
pub record Is (m : ℕ) (t y : ℤ) : Type 0 where
  pub same : t ≡ y
  pub size : Within m y

-- a call that promises its value and its bound
pub is_call : {z y : ℤ} {m : ℕ} → z ≡ y → Within m z → m < 2 ^ 63 → Is m (to_z w64 (of_z w64 z)) y
is_call {m = m} e h l = record { same = rw e (read64 (subst (λ x. Within m x) e h) l); size = subst (λ x. Within m x) e h }

-- what a contract with a bound is answered with
pub told : {t y : ℤ} {m : ℕ} → Is m t y → (t ≡ y) × Within m t
told i = (i.same, rw i.same i.size)

-- and what a call told, taken up again
pub heard : {z y : ℤ} {m : ℕ} → (z ≡ y) × Within m z → m < 2 ^ 63 → Is m (to_z w64 (of_z w64 z)) y
heard h l = is_call h.0 h.1 l

-- a word read whole
pub heard_word : {z : ℤ} {x : ℕ} → (z ≡ signed 32 (x % 2 ^ 32)) × Within (2 ^ 31) z → x < 2 ^ 32 → Is (2 ^ 31) (to_z w64 (of_z w64 z)) (signed 32 x)
heard_word h l = rw (mod-eq_of_lt l) at (heard h (lit< tt))

pub fit_is : {t y : ℤ} {m : ℕ} → Is m t y → m < 2 ^ 63 → FitsSigned w64 t
fit_is i l = rw i.same (fit64 i.size l)

pub is_again : {t y : ℤ} {m : ℕ} → Is m t y → m < 2 ^ 63 → Is m (to_z w64 (of_z w64 t)) y
is_again i l = record { same = rw i.same (read64 i.size l); size = i.size }

pub is_nat : (n m : ℕ) → n ≤ m → m < 2 ^ 63 → Is m (to_z w64 n) (pos n)
is_nat n m h l = record { same = to_z_pos w64 (omega arith); size = in_nat n m h }

pub is_wider : {t y : ℤ} {m n : ℕ} → Is m t y → m ≤ n → Is n t y
is_wider i l = record { same = i.same; size = record { within = le_trans i.size.within l } }

pub is_word : (n : ℕ) → n < 2 ^ 32 → Is (2 ^ 32) (to_z w64 n) (pos n)
is_word n h = is_nat n (2 ^ 32) (omega arith) (lit< tt)

-- the two ways in which the code reads a word of k bits: as it stands, and less p, which is 2^k
module _ (k n : ℕ) (hk : 0 < k) (hn : n < 2 ^ k) (small : k ≤ 32) where
  word : 2 ^ k ≤ 2 ^ 32
  word = pow_mono small

  pub reads_low : n < 2 ^ (k - 1) → Is (2 ^ (k - 1)) (to_z w64 n) (signed k n)
  reads_low l = record { same = to_z_pos w64 (omega (arith, word)) ∙ sym (signed_low k n l); size = in_signed k n hk hn }

  pub reads_high : (p : ℕ) → p ≡ 2 ^ k → 2 ^ (k - 1) ≤ n → Is (2 ^ (k - 1)) (to_z w64 n -ℤ to_z w64 p) (signed k n)
  reads_high p e l =
      record {
        same = rw (to_z_pos w64 {n = n} (omega (arith, word)), to_z_pos w64 {n = p} (omega (arith, word, e)), e) (pos_sub n (2 ^ k) ∙ sym (signed_high k n l));
        size = in_signed k n hk hn;
      }

  pub reads_fit : 2 ^ (k - 1) < 2 ^ 63
  reads_fit = omega (arith, word, twice_half k hk)

pub fit_add : {t y s w : ℤ} {m n : ℕ} → Is m t y → Is n s w → m + n < 2 ^ 63 → FitsSigned w64 (t +ℤ s)
fit_add p q l = rw (p.same, q.same) (fit64 (in_add p.size q.size) l)

pub is_add : {t y s w : ℤ} {m n : ℕ} → Is m t y → Is n s w → m + n < 2 ^ 63 → Is (m + n) (to_z w64 (of_z w64 (t +ℤ s))) (y +ℤ w)
is_add p q l = record { same = rw (p.same, q.same) (read64 (in_add p.size q.size) l); size = in_add p.size q.size }

pub fit_sub : {t y s w : ℤ} {m n : ℕ} → Is m t y → Is n s w → m + n < 2 ^ 63 → FitsSigned w64 (t -ℤ s)
fit_sub p q l = rw (p.same, q.same) (fit64 (in_sub p.size q.size) l)

pub is_sub : {t y s w : ℤ} {m n : ℕ} → Is m t y → Is n s w → m + n < 2 ^ 63 → Is (m + n) (to_z w64 (of_z w64 (t -ℤ s))) (y -ℤ w)
is_sub p q l = record { same = rw (p.same, q.same) (read64 (in_sub p.size q.size) l); size = in_sub p.size q.size }

pub fit_mul : {t y s w : ℤ} {m n : ℕ} → Is m t y → Is n s w → m * n < 2 ^ 63 → FitsSigned w64 (t *ℤ s)
fit_mul p q l = rw (p.same, q.same) (fit64 (in_mul p.size q.size) l)

pub is_mul : {t y s w : ℤ} {m n : ℕ} → Is m t y → Is n s w → m * n < 2 ^ 63 → Is (m * n) (to_z w64 (of_z w64 (t *ℤ s))) (y *ℤ w)
is_mul p q l = record { same = rw (p.same, q.same) (read64 (in_mul p.size q.size) l); size = in_mul p.size q.size }
