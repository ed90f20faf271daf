-- Integers as differences of naturals: `sub_ℕ a b` is a - b, so that every operation on ℤ is one on naturals, which `omega` ends.
use Rattle.std.specs.Prelude.{◌≡◌, ℕ, zero, suc, ◌+◌, ◌-◌, ◌*◌, ◌<◌, ◌≤◌, pos, negsuc, ◌+ℤ◌, ◌-ℤ◌, ◌*ℤ◌, neg_ℤ, int_le, int_lt, nat_le, nat_lt, refl}
use Rattle.std.proofs.Common.{sym, ap, ◌∙◌, ⊎_elim, arith, lt-ltb, le-ltb, le-leb}
use Rattle.std.proofs.Math.IntN.{sub_ℕ}
use Rattle.std.proofs.lemmas.Bool.{lt-leb}
use Rattle.bits.specs.Laws.Order.{split, ltb_same, leb_same}

pub diff_lt : (a b : ℕ) → a < b → sub_ℕ a b ≡ negsuc (b - suc a)
diff_lt a b h = simp (lt-ltb a b h)

pub diff_ge : (a b : ℕ) → b ≤ a → sub_ℕ a b ≡ pos (a - b)
diff_ge a b h = simp (le-ltb a b h)

pub diff_eq : (a b c d : ℕ) → a + d ≡ c + b → sub_ℕ a b ≡ sub_ℕ c d
diff_eq a b c d e =
    ⊎_elim
    (λ h. diff_lt a b h ∙ ap negsuc (omega arith) ∙ sym (diff_lt c d (omega arith)))
    (λ h. diff_ge a b h ∙ ap pos (omega arith) ∙ sym (diff_ge c d (omega arith)))
    (split a b)

pub diff_pos : (n : ℕ) → pos n ≡ sub_ℕ n 0
diff_pos n = sym (diff_ge n 0 (omega arith) ∙ ap pos (omega arith))

pub diff_negsuc : (n : ℕ) → negsuc n ≡ sub_ℕ 0 (suc n)
diff_negsuc n = sym (diff_lt 0 (suc n) (omega arith) ∙ ap negsuc (omega arith))

pub neg_pos : (n : ℕ) → neg_ℤ (pos n) ≡ sub_ℕ 0 n
neg_pos zero = refl
neg_pos (suc n) = diff_negsuc n

pub diff_neg : (a b : ℕ) → neg_ℤ (sub_ℕ a b) ≡ sub_ℕ b a
diff_neg a b =
    ⊎_elim
    (λ h. ap neg_ℤ (diff_lt a b h) ∙ ap pos (omega arith) ∙ sym (diff_ge b a (omega arith)))
    (λ h. ap neg_ℤ (diff_ge a b h) ∙ neg_pos (a - b) ∙ diff_eq 0 (a - b) b a (omega arith))
    (split a b)

-- the four cases of two differences: each is negative or not
four : {P : Type 0} (a b c d : ℕ) → (a < b → c < d → P) → (a < b → d ≤ c → P) → (b ≤ a → c < d → P) → (b ≤ a → d ≤ c → P) → P
four a b c d ll lg gl gg =
    ⊎_elim
    (λ h. ⊎_elim (λ k. ll h k) (λ k. lg h k) (split c d))
    (λ h. ⊎_elim (λ k. gl h k) (λ k. gg h k) (split c d))
    (split a b)

pub diff_add : (a b c d : ℕ) → sub_ℕ a b +ℤ sub_ℕ c d ≡ sub_ℕ (a + c) (b + d)
diff_add a b c d =
    four a b c d
    (λ h k. rw (diff_lt a b h, diff_lt c d k) (ap negsuc (omega arith) ∙ sym (diff_lt (a + c) (b + d) (omega arith))))
    (λ h k. rw (diff_lt a b h, diff_ge c d k) (diff_eq (c - d) (suc (b - suc a)) (a + c) (b + d) (omega arith)))
    (λ h k. rw (diff_ge a b h, diff_lt c d k) (diff_eq (a - b) (suc (d - suc c)) (a + c) (b + d) (omega arith)))
    (λ h k. rw (diff_ge a b h, diff_ge c d k) (ap pos (omega arith) ∙ sym (diff_ge (a + c) (b + d) (omega arith))))

pub diff_sub : (a b c d : ℕ) → sub_ℕ a b -ℤ sub_ℕ c d ≡ sub_ℕ (a + d) (b + c)
diff_sub a b c d = rw (diff_neg c d) (diff_add a b d c)

pub diff_lt_z : (a b c d : ℕ) → int_lt (sub_ℕ a b) (sub_ℕ c d) ≡ nat_lt (a + d) (c + b)
diff_lt_z a b c d =
    four a b c d
    (λ h k. rw (diff_lt a b h, diff_lt c d k) (ltb_same (d - suc c) (b - suc a) (a + d) (c + b) (λ e. omega arith) (λ e. omega arith)))
    (λ h k. rw (diff_lt a b h, diff_ge c d k) (sym (lt-ltb (a + d) (c + b) (omega arith))))
    (λ h k. rw (diff_ge a b h, diff_lt c d k) (sym (le-ltb (a + d) (c + b) (omega arith))))
    (λ h k. rw (diff_ge a b h, diff_ge c d k) (ltb_same (a - b) (c - d) (a + d) (c + b) (λ e. omega arith) (λ e. omega arith)))

pub diff_le_z : (a b c d : ℕ) → int_le (sub_ℕ a b) (sub_ℕ c d) ≡ nat_le (a + d) (c + b)
diff_le_z a b c d =
    four a b c d
    (λ h k. rw (diff_lt a b h, diff_lt c d k) (leb_same (d - suc c) (b - suc a) (a + d) (c + b) (λ e. omega arith) (λ e. omega arith)))
    (λ h k. rw (diff_lt a b h, diff_ge c d k) (sym (le-leb (a + d) (c + b) (omega arith))))
    (λ h k. rw (diff_ge a b h, diff_lt c d k) (sym (lt-leb (a + d) (c + b) (omega arith))))
    (λ h k. rw (diff_ge a b h, diff_ge c d k) (leb_same (a - b) (c - d) (a + d) (c + b) (λ e. omega arith) (λ e. omega arith)))

-- a product by the factors' sizes p and q
module _ (a b c d p q : ℕ) where
  mul_gg : a ≡ b + p → c ≡ d + q → pos p *ℤ pos q ≡ sub_ℕ (a * c + b * d) (a * d + b * c)
  mul_gg ea ec = diff_pos (p * q) ∙ diff_eq (p * q) 0 (a * c + b * d) (a * d + b * c) (rw (ea, ec) (omega arith))

  mul_gl : a ≡ b + p → d ≡ c + suc q → pos p *ℤ negsuc q ≡ sub_ℕ (a * c + b * d) (a * d + b * c)
  mul_gl ea ed = neg_pos (p * suc q) ∙ diff_eq 0 (p * suc q) (a * c + b * d) (a * d + b * c) (rw (ea, ed) (omega arith))

  mul_lg : b ≡ a + suc p → c ≡ d + q → negsuc p *ℤ pos q ≡ sub_ℕ (a * c + b * d) (a * d + b * c)
  mul_lg eb ec = neg_pos (suc p * q) ∙ diff_eq 0 (suc p * q) (a * c + b * d) (a * d + b * c) (rw (eb, ec) (omega arith))

  mul_ll : b ≡ a + suc p → d ≡ c + suc q → negsuc p *ℤ negsuc q ≡ sub_ℕ (a * c + b * d) (a * d + b * c)
  mul_ll eb ed = diff_pos (suc p * suc q) ∙ diff_eq (suc p * suc q) 0 (a * c + b * d) (a * d + b * c) (rw (eb, ed) (omega arith))

pub diff_mul : (a b c d : ℕ) → sub_ℕ a b *ℤ sub_ℕ c d ≡ sub_ℕ (a * c + b * d) (a * d + b * c)
diff_mul a b c d =
    four a b c d
    (λ h k. rw (diff_lt a b h, diff_lt c d k) (mul_ll a b c d (b - suc a) (d - suc c) (omega arith) (omega arith)))
    (λ h k. rw (diff_lt a b h, diff_ge c d k) (mul_lg a b c d (b - suc a) (c - d) (omega arith) (omega arith)))
    (λ h k. rw (diff_ge a b h, diff_lt c d k) (mul_gl a b c d (a - b) (d - suc c) (omega arith) (omega arith)))
    (λ h k. rw (diff_ge a b h, diff_ge c d k) (mul_gg a b c d (a - b) (c - d) (omega arith) (omega arith)))

-- with a natural on a side
pub pos_sub : (a b : ℕ) → pos a -ℤ pos b ≡ sub_ℕ a b
pos_sub a b = rw (neg_pos b, diff_pos a, diff_add a 0 0 b) (diff_eq (a + 0) (0 + b) a b (omega arith))

pub diff_sub_pos : (a b k : ℕ) → sub_ℕ a b -ℤ pos k ≡ sub_ℕ a (b + k)
diff_sub_pos a b k = rw (neg_pos k, diff_add a b 0 k) (diff_eq (a + 0) (b + k) a (b + k) (omega arith))

pub diff_add_pos : (a b k : ℕ) → sub_ℕ a b +ℤ pos k ≡ sub_ℕ (a + k) b
diff_add_pos a b k = rw (diff_pos k, diff_add a b k 0) (diff_eq (a + k) (b + 0) (a + k) b (omega arith))
