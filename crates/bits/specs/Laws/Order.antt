-- Orders of naturals and their tests.
use Rattle.std.specs.Prelude.{◌≡◌, ℕ, zero, suc, ◌+◌, ◌-◌, ◌<◌, ◌≤◌, Bool, true, false, not, ◌||◌, ◌⊎◌, ◌≢◌, nat_le, nat_lt, refl}
use Rattle.std.proofs.Common.{sym, ◌∙◌, inl, inr, ⊎_elim, arith, lt-ltb, le-ltb, le-leb, ltb-true, ltb-false}
use Rattle.std.proofs.lemmas.Bool.{lt-leb}

split_on : (a b : ℕ) (t : Bool) → nat_lt a b ≡ t → (a < b) ⊎ (b ≤ a)
split_on a b true h = inl (ltb-true a b h)
split_on a b false h = inr (ltb-false a b h)

pub split : (a b : ℕ) → (a < b) ⊎ (b ≤ a)
split a b = split_on a b (nat_lt a b) refl

-- two tests agree where each order follows from the other
pub ltb_same : (a b c d : ℕ) → (a < b → c < d) → (b ≤ a → d ≤ c) → nat_lt a b ≡ nat_lt c d
ltb_same a b c d f g =
    ⊎_elim (λ h. lt-ltb a b h ∙ sym (lt-ltb c d (f h))) (λ h. le-ltb a b h ∙ sym (le-ltb c d (g h))) (split a b)

pub leb_same : (a b c d : ℕ) → (a ≤ b → c ≤ d) → (b < a → d < c) → nat_le a b ≡ nat_le c d
leb_same a b c d f g =
    ⊎_elim (λ h. lt-leb a b h ∙ sym (lt-leb c d (g h))) (λ h. le-leb a b h ∙ sym (le-leb c d (f h))) (split b a)

pub ltb_leb : (a b c d : ℕ) → (a < b → c ≤ d) → (b ≤ a → d < c) → nat_lt a b ≡ nat_le c d
ltb_leb a b c d f g =
    ⊎_elim (λ h. lt-ltb a b h ∙ sym (le-leb c d (f h))) (λ h. le-ltb a b h ∙ sym (lt-leb c d (g h))) (split a b)

pub or_same : {a b c d : Bool} → a ≡ c → b ≡ d → (a || b) ≡ (c || d)
or_same e f = cc

-- what the last arm of a `match` on 0 to k - 1 knows of its number n: that it is none of them, so at least k
abbrev pub Apart : ℕ → ℕ → Type 0
Apart zero n = Unit {0}
Apart (suc k) n = Apart k n × (n ≢ k)

pub apart_le : (k n : ℕ) → Apart k n → k ≤ n
apart_le zero n r = omega arith
apart_le (suc k) n r = let h : k ≤ n = apart_le k n r.0 in let e : n ≡ k → ⊥ = r.1 in omega arith

pub not_ltb : (a b : ℕ) → not (nat_lt a b) ≡ nat_le b a
not_ltb a b = ⊎_elim (λ h. rw (lt-ltb a b h, lt-leb b a h)) (λ h. rw (le-ltb a b h, le-leb b a h)) (split a b)

-- a counter i on its way to n
pub left_next : (n i : ℕ) → n - i - 1 ≡ n - (i + 1)
left_next n i = omega arith

pub left_suc : (n i : ℕ) → i < n → n - i ≡ suc (n - (i + 1))
left_suc n i h = omega arith
