-- Values modulo 2^k.
use Rattle.std.specs.Prelude.{◌≡◌, ℕ, suc, ◌+◌, ◌-◌, ◌*◌, ◌/◌, ◌%◌, ◌^◌, ◌<◌, ◌≤◌, ℤ, pos, negsuc, ◌+ℤ◌, ◌-ℤ◌, refl}
use Rattle.std.proofs.Common.{sym, ap, ◌∙◌, ⊎_elim, arith, mod-lt, mod-eq_of_lt, div-add-mod', pow_pos}
use Rattle.std.proofs.Math.Nat.{add-mul-mod_self_right, mod-add-mod}
use Rattle.std.proofs.Math.IntN.{sub_ℕ}
use Rattle.std.proofs.Math.Pow.{mod-mod-pow, ones_split}
use Rattle.std.proofs.lemmas.Nat.{mod-pow-add}
use Rattle.bits.specs.Integers.{wrap}
use Rattle.bits.specs.Laws.Order.{split}
use Rattle.bits.specs.Laws.Diff.{diff_lt, diff_ge, pos_sub}

not_below : (n : ℕ) → n < 0 → ⊥
not_below n h = omega arith

-- equal up to a multiple
pub mod_same : (a b m q : ℕ) → a ≡ b + q * m → a % m ≡ b % m
mod_same a b m q e = rw e (add-mul-mod_self_right b q m)

-- equal up to a multiple on each side
pub mod_both : (a b m p q : ℕ) → a + p * m ≡ b + q * m → a % m ≡ b % m
mod_both a b m p q e = sym (add-mul-mod_self_right a p m) ∙ mod_same (a + p * m) b m q e

pub wrap_lt : (k : ℕ) (z : ℤ) → wrap k z < 2 ^ k
wrap_lt k (pos n) = mod-lt n (pow_pos k)
wrap_lt k (negsuc n) = omega (arith, pow_pos k)

-- what wrap gives is the only number below 2^k that differs by a multiple
pub wrap_diff : (k a b r p q : ℕ) → r < 2 ^ k → r + b + p * 2 ^ k ≡ a + q * 2 ^ k → wrap k (sub_ℕ a b) ≡ r
wrap_diff k a b r p q h e =
    ⊎_elim
    (λ l. rw (diff_lt a b l) (neg l))
    (λ l. rw (diff_ge a b l) (nonneg l))
    (split a b)
  where
    nonneg : b ≤ a → (a - b) % 2 ^ k ≡ r
    nonneg l =
        sym (mod_same (a - b + q * 2 ^ k) (a - b) (2 ^ k) q refl)
        ∙ mod_same (a - b + q * 2 ^ k) r (2 ^ k) p (omega arith)
        ∙ mod-eq_of_lt h

    neg : a < b → (2 ^ k - 1) - (b - suc a) % 2 ^ k ≡ r
    neg l =
        let m : (b - suc a) % 2 ^ k ≡ (2 ^ k - 1) - r =
        sym (mod_same (b - suc a + p * 2 ^ k + 2 ^ k) (b - suc a) (2 ^ k) (suc p) (omega arith))
        ∙ mod_same (b - suc a + p * 2 ^ k + 2 ^ k) ((2 ^ k - 1) - r) (2 ^ k) q (omega (arith, pow_pos k))
        ∙ mod-eq_of_lt (omega (arith, pow_pos k)) in
        rw m (omega (arith, pow_pos k))

complement : (h d l m : ℕ) → l < m → (h + d) * m + (m - 1) - (h * m + l) ≡ m - 1 - l + d * m
complement h d l m e = omega arith

-- the low bits of a wrapped number
pub wrap_less : (j k : ℕ) (z : ℤ) → wrap (j + k) z % 2 ^ k ≡ wrap k z
wrap_less j k (pos n) = mod-mod-pow n j k
wrap_less j k (negsuc n) =
    let h : ℕ = n / 2 ^ k % 2 ^ j in
    let d : ℕ = 2 ^ j - 1 - h in
    let e : 2 ^ j - 1 ≡ h + d = omega (arith, mod-lt (n / 2 ^ k) (pow_pos j)) in
    rw (ones_split j k, mod-pow-add n j k, e)
    (mod_same ((h + d) * 2 ^ k + (2 ^ k - 1) - (h * 2 ^ k + n % 2 ^ k)) (2 ^ k - 1 - n % 2 ^ k) (2 ^ k) d (complement h d (n % 2 ^ k) (2 ^ k) (mod-lt n (pow_pos k)))
    ∙ mod-eq_of_lt (omega (arith, pow_pos k)))

pub wrap_low : (k : ℕ) (z : ℤ) → k ≤ 32 → wrap 32 z % 2 ^ k ≡ wrap k z
wrap_low k z h = let e : (32 - k) + k ≡ 32 = omega arith in rw e at (wrap_less (32 - k) k z)

-- a natural added to a wrapped number
pub wrap_add : (k : ℕ) (z : ℤ) (n : ℕ) → (wrap k z + n) % 2 ^ k ≡ wrap k (z +ℤ pos n)
wrap_add k (pos m) n = mod-add-mod m (2 ^ k) n
wrap_add k (negsuc m) n =
    sym
    (wrap_diff k n (suc m) (((2 ^ k - 1) - m % 2 ^ k + n) % 2 ^ k) (((2 ^ k - 1) - m % 2 ^ k + n) / 2 ^ k) (suc (m / 2 ^ k))
    (mod-lt _ (pow_pos k))
    (omega (arith, mod-lt m (pow_pos k), div-add-mod' m (2 ^ k), div-add-mod' ((2 ^ k - 1) - m % 2 ^ k + n) (2 ^ k))))

-- 2^k more is the same
pub wrap_more : (k : ℕ) (z : ℤ) → wrap k z ≡ wrap k (z +ℤ pos (2 ^ k))
wrap_more k z = sym (mod_same (wrap k z + 2 ^ k) (wrap k z) (2 ^ k) 1 (omega arith) ∙ mod-eq_of_lt (wrap_lt k z)) ∙ wrap_add k z (2 ^ k)

-- what std's wrapping subtraction of a wrapped number gives
pub wrap_sub : (k : ℕ) (z : ℤ) (n r : ℕ) → r < 2 ^ k → (r + wrap k z) % 2 ^ k ≡ n → r ≡ wrap k (pos n -ℤ z)
wrap_sub k (pos m) n r h e =
    let q : ℕ = (r + m % 2 ^ k) / 2 ^ k in
    sym (ap (wrap k) (pos_sub n m)
    ∙ wrap_diff k n m r 0 (q + m / 2 ^ k) h (omega (arith, e, div-add-mod' m (2 ^ k), div-add-mod' (r + m % 2 ^ k) (2 ^ k))))
wrap_sub k (negsuc m) n r h e =
    let q : ℕ = (r + ((2 ^ k - 1) - m % 2 ^ k)) / 2 ^ k in
    sym (mod_both (n + suc m) r (2 ^ k) q (suc (m / 2 ^ k)) (omega (arith, e, mod-lt m (pow_pos k), div-add-mod' m (2 ^ k), div-add-mod' (r + ((2 ^ k - 1) - m % 2 ^ k)) (2 ^ k))) ∙ mod-eq_of_lt h)
