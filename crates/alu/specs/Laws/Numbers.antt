-- Demand 3 on numbers: a chain's words, its last carry and its last signs, by induction over the pairs with the carry general.
use Rattle.std.specs.Prelude.{◌≡◌, refl, List, [], ◌∷◌, Bool, true, false, ◌||◌, ◌⊎◌, ℕ, suc, ◌+◌, ◌-◌, ◌*◌, ◌/◌, ◌%◌, ◌^◌, ◌<◌, ◌≤◌, length, ltb, leb}
use Rattle.std.proofs.Common.{sym, ap, ◌∙◌, inl, inr, ⊎_elim, arith, mod-eq_of_lt, pow-add, lt-ltb, le-ltb, le-leb}
use Rattle.std.proofs.Math.IntN.{sub_ℕ}
use Rattle.std.proofs.lemmas.Bool.{lt-leb}
use Rattle.bits.specs.Fields.{bit_of}
use Rattle.bits.specs.Integers.{signed, wrap}
use Rattle.bits.specs.Laws.Bools.{bit_le}
use Rattle.bits.specs.Laws.Order.{split, ltb_same, leb_same, or_same}
use Rattle.bits.specs.Laws.Diff.{diff_eq, diff_pos, diff_add, diff_lt_z, pos_sub}
use Rattle.bits.specs.Laws.Wrap.{wrap_diff, mod_both}
use Rattle.bits.specs.Laws.Signed.{lifted, twice_half, signed_low, signed_high, outside_diff}
use Rattle.alu.specs.declared.Sum.{Sum}
use Rattle.alu.specs.Sums.{sbc_of, adc_of, negative}
use Rattle.alu.specs.Numbers.{number_of, Pair, firsts, seconds, Words, words_of, last_of, A, B, width, differ, Difference, Total}
use Rattle.alu.specs.Laws.Sums.{adc_law, sbc_law}

-- what a carry of a subtraction lacks: a function of its own, so that `lack c * m` is one term for `omega`
abbrev lack : Bool → ℕ
lack true = 0
lack false = 1

lack_bit : (c : Bool) → lack c + bit_of c ≡ 1
lack_bit true = refl
lack_bit false = refl

-- ---- one link

record SubLink (a b : ℕ) (c : Bool) (r : Sum) : Type 0 where
  low : r.value < 2 ^ 32
  exact : r.value + b + lack c ≡ a + lack r.carry * 2 ^ 32
  sign : differ (negative r.value) r.overflow ≡ ltb (lifted 32 a) (lifted 32 b + lack c)

-- the sign bit v and the overflow of a lifted difference s
sign_cases : (s v : ℕ) → s < 2 ^ 33 → v ≡ s % 2 ^ 32 → differ (leb (2 ^ 31) v) (ltb s (2 ^ 31) || leb (3 * 2 ^ 31) s) ≡ ltb s (2 ^ 32)
sign_cases s v h e =
    ⊎_elim
    (λ k. rw (lt-leb (2 ^ 31) v (omega arith), lt-ltb s (2 ^ 31) k, lt-ltb s (2 ^ 32) (omega arith)) refl)
    (λ k. ⊎_elim
    (λ l. rw (le-leb (2 ^ 31) v (omega arith), le-ltb s (2 ^ 31) k, lt-leb (3 * 2 ^ 31) s (omega arith), lt-ltb s (2 ^ 32) l) refl)
    (λ l. ⊎_elim
    (λ m. rw (lt-leb (2 ^ 31) v (omega arith), le-ltb s (2 ^ 31) k, lt-leb (3 * 2 ^ 31) s m, le-ltb s (2 ^ 32) l) refl)
    (λ m. rw (le-leb (2 ^ 31) v (omega arith), le-ltb s (2 ^ 31) k, le-leb (3 * 2 ^ 31) s m, le-ltb s (2 ^ 32) l) refl)
    (split s (3 * 2 ^ 31)))
    (split s (2 ^ 32)))
    (split s (2 ^ 31))

-- a sum u of two words and a bit, cut at 2^32: what its carry says, as a bit and as a lack
carry_cases : (u : ℕ) → u < 2 ^ 33 → (u % 2 ^ 32 + bit_of (leb (2 ^ 32) u) * 2 ^ 32 ≡ u) × (u % 2 ^ 32 + 2 ^ 32 ≡ u + lack (leb (2 ^ 32) u) * 2 ^ 32)
carry_cases u h =
    ⊎_elim
    (λ k. rw (lt-leb (2 ^ 32) u k) (omega arith, omega arith))
    (λ k. rw (le-leb (2 ^ 32) u k) (omega arith, omega arith))
    (split u (2 ^ 32))

record AddLink (a b : ℕ) (c : Bool) (r : Sum) : Type 0 where
  low : r.value < 2 ^ 32
  exact : r.value + bit_of r.carry * 2 ^ 32 ≡ a + b + bit_of c
  over : r.overflow ≡ (ltb (lifted 32 a + lifted 32 b + bit_of c) (2 ^ 31) || leb (3 * 2 ^ 31) (lifted 32 a + lifted 32 b + bit_of c))

module _ (a b : ℕ) (c : Bool) (ha : a < 2 ^ 32) (hb : b < 2 ^ 32) where
  abbrev rest : ℕ
  rest = a + (2 ^ 32 - 1) - b + bit_of c

  abbrev lifted_rest : ℕ
  lifted_rest = lifted 32 a + (2 ^ 32 - 1) - lifted 32 b + bit_of c

  sub_link : SubLink a b c (sbc_of a b c)
  sub_link =
      rw (← sbc_law a b c ha hb)
      (record {
        low = omega arith;
        exact = omega (arith, (carry_cases rest (omega (arith, bit_le c))).1, lack_bit c);
        sign =
            sign_cases lifted_rest (rest % 2 ^ 32) (omega (arith, bit_le c))
            (mod_both rest lifted_rest (2 ^ 32) ((b + 2 ^ 31) / 2 ^ 32) ((a + 2 ^ 31) / 2 ^ 32) (omega arith))
            ∙ ltb_same lifted_rest (2 ^ 32) (lifted 32 a) (lifted 32 b + lack c) (λ e. omega (arith, lack_bit c)) (λ e. omega (arith, lack_bit c));
      })

  add_link : AddLink a b c (adc_of a b c)
  add_link =
      rw (← adc_law a b c ha hb)
      (record {
        low = omega arith;
        exact = (carry_cases (a + b + bit_of c) (omega (arith, bit_le c))).0;
        over = refl;
      })

-- ---- powers of the width

word_more : (n : ℕ) → 2 ^ (32 * suc n) ≡ 2 ^ 32 * 2 ^ (32 * n)
word_more n = ap (λ (k : ℕ). 2 ^ k) (omega arith) ∙ pow-add 2 32 (32 * n)

half_word_more : (n : ℕ) → 2 ^ (32 * suc n - 1) ≡ 2 ^ 31 * 2 ^ (32 * n)
half_word_more n = ap (λ (k : ℕ). 2 ^ k) (omega arith) ∙ pow-add 2 31 (32 * n)

-- ---- the signed reading of a number of words and half its range more, by recursion

abbrev lifted_words : ℕ → List ℕ → ℕ
lifted_words x [] = lifted 32 x
lifted_words x (y ∷ ys) = x + 2 ^ 32 * lifted_words y ys

abbrev Fit : List ℕ → Type 0
Fit [] = Unit {0}
Fit (x ∷ xs) = (x < 2 ^ 32) × Fit xs

-- below half the range h a number x lifts by h, else it falls by h
abbrev Lifts : ℕ → ℕ → ℕ → Type 0
Lifts s x h = ((x < h) × (s ≡ x + h)) ⊎ ((h ≤ x) × (s + h ≡ x))

lifts : (x : ℕ) (xs : List ℕ) → Fit (x ∷ xs) → Lifts (lifted_words x xs) (number_of (x ∷ xs)) (2 ^ 31 * 2 ^ (32 * length xs))
lifts x [] f = ⊎_elim (λ h. inl (omega arith)) (λ h. inr (omega arith)) (split x (2 ^ 31))
lifts x (y ∷ ys) f = rw (word_more (length ys)) (⊎_elim (λ h. inl (omega arith)) (λ h. inr (omega arith)) (lifts y ys f.1))

signed_lifts : (k x s : ℕ) → 0 < k → Lifts s x (2 ^ (k - 1)) → signed k x ≡ sub_ℕ s (2 ^ (k - 1))
signed_lifts k x s p (inl h) = signed_low k x h.0 ∙ diff_pos x ∙ diff_eq x 0 s (2 ^ (k - 1)) (omega arith)
signed_lifts k x s p (inr h) = signed_high k x h.0 ∙ diff_eq x (2 ^ k) s (2 ^ (k - 1)) (omega (arith, twice_half k p))

signed_words : (x : ℕ) (xs : List ℕ) → Fit (x ∷ xs) → signed (32 * suc (length xs)) (number_of (x ∷ xs)) ≡ sub_ℕ (lifted_words x xs) (2 ^ (32 * suc (length xs) - 1))
signed_words x xs f =
    signed_lifts (32 * suc (length xs)) (number_of (x ∷ xs)) (lifted_words x xs) (omega arith) (rw (half_word_more (length xs)) (lifts x xs f))

fit_firsts : (ps : List Pair) → Words ps → Fit (firsts ps)
fit_firsts [] w = tt
fit_firsts (p ∷ ps) w = (w.0, fit_firsts ps w.2)

fit_seconds : (ps : List Pair) → Words ps → Fit (seconds ps)
fit_seconds [] w = tt
fit_seconds (p ∷ ps) w = (w.1, fit_seconds ps w.2)

length_firsts : (ps : List Pair) → length (firsts ps) ≡ length ps
length_firsts [] = refl
length_firsts (p ∷ ps) = ap suc (length_firsts ps)

length_seconds : (ps : List Pair) → length (seconds ps) ≡ length ps
length_seconds [] = refl
length_seconds (p ∷ ps) = ap suc (length_seconds ps)

-- ---- chains, with any carry in

module _ (c : Bool) (p : Pair) (ps : List Pair) where
  abbrev lifted_a : ℕ
  lifted_a = lifted_words p.first (firsts ps)

  abbrev lifted_b : ℕ
  lifted_b = lifted_words p.second (seconds ps)

  record SubChain : Type 0 where
    low : number_of (words_of sbc_of c (p ∷ ps)) < 2 ^ (32 * suc (length ps))
    exact : number_of (words_of sbc_of c (p ∷ ps)) + B (p ∷ ps) + lack c ≡ A (p ∷ ps) + lack (last_of sbc_of c p ps).carry * 2 ^ (32 * suc (length ps))
    sign : differ (negative (last_of sbc_of c p ps).value) (last_of sbc_of c p ps).overflow ≡ ltb lifted_a (lifted_b + lack c)

  record AddChain : Type 0 where
    low : number_of (words_of adc_of c (p ∷ ps)) < 2 ^ (32 * suc (length ps))
    exact : number_of (words_of adc_of c (p ∷ ps)) + bit_of (last_of adc_of c p ps).carry * 2 ^ (32 * suc (length ps)) ≡ A (p ∷ ps) + B (p ∷ ps) + bit_of c
    over : (last_of adc_of c p ps).overflow
        ≡ (ltb (lifted_a + lifted_b + bit_of c) (2 ^ 31 * 2 ^ (32 * length ps)) || leb (3 * (2 ^ 31 * 2 ^ (32 * length ps))) (lifted_a + lifted_b + bit_of c))

sub_chain : (c : Bool) (p : Pair) (ps : List Pair) → Words (p ∷ ps) → SubChain c p ps
sub_chain c p [] w =
    let s = sub_link p.first p.second c w.0 w.1 in
    record { low = omega (arith, s.low); exact = omega (arith, s.exact); sign = s.sign }
sub_chain c p (q ∷ ps) w =
    let s = sub_link p.first p.second c w.0 w.1 in
    let d : Bool = (sbc_of p.first p.second c).carry in
    let r : SubChain d q ps = sub_chain d q ps w.2 in
    record {
      low = rw word_more (omega (arith, r.low, s.low));
      exact = rw word_more (omega (arith, r.exact, s.exact));
      sign =
          r.sign
          ∙ ltb_same (lifted_a d q ps) (lifted_b d q ps + lack d) (lifted_a c p (q ∷ ps)) (lifted_b c p (q ∷ ps) + lack c)
          (λ e. omega (arith, s.exact, s.low)) (λ e. omega (arith, s.exact, s.low));
    }

add_chain : (c : Bool) (p : Pair) (ps : List Pair) → Words (p ∷ ps) → AddChain c p ps
add_chain c p [] w =
    let s = add_link p.first p.second c w.0 w.1 in
    record { low = omega (arith, s.low); exact = omega (arith, s.exact); over = s.over }
add_chain c p (q ∷ ps) w =
    let s = add_link p.first p.second c w.0 w.1 in
    let d : Bool = (adc_of p.first p.second c).carry in
    let r : AddChain d q ps = add_chain d q ps w.2 in
    let t : ℕ = lifted_a d q ps + lifted_b d q ps + bit_of d in
    let u : ℕ = lifted_a c p (q ∷ ps) + lifted_b c p (q ∷ ps) + bit_of c in
    let h : ℕ = 2 ^ (32 * length ps) in
    record {
      low = rw word_more (omega (arith, r.low, s.low));
      exact = rw word_more (omega (arith, r.exact, s.exact));
      over =
          r.over
          ∙ rw (word_more (length ps))
          (or_same
          (ltb_same t (2 ^ 31 * h) u (2 ^ 31 * (2 ^ 32 * h)) (λ e. omega (arith, s.exact, s.low)) (λ e. omega (arith, s.exact, s.low)))
          (leb_same (3 * (2 ^ 31 * h)) t (3 * (2 ^ 31 * (2 ^ 32 * h))) u (λ e. omega (arith, s.exact, s.low)) (λ e. omega (arith, s.exact, s.low))));
    }

-- ---- the theorems

sub_carry : (c : Bool) (r b a m : ℕ) → r < m → r + b ≡ a + lack c * m → c ≡ leb b a
sub_carry true r b a m h e = sym (le-leb b a (omega arith))
sub_carry false r b a m h e = sym (lt-leb b a (omega arith))

add_carry : (c : Bool) (r s m : ℕ) → r < m → r + bit_of c * m ≡ s → c ≡ leb m s
add_carry true r s m h e = sym (le-leb m s (omega arith))
add_carry false r s m h e = sym (lt-leb m s (omega arith))

module _ (p : Pair) (ps : List Pair) (w : Words (p ∷ ps)) where
  abbrev half : ℕ
  half = 2 ^ (32 * suc (length ps) - 1)

  abbrev sa : ℕ
  sa = lifted_a true p ps

  abbrev sb : ℕ
  sb = lifted_b true p ps

  signed_A : signed (width (p ∷ ps)) (A (p ∷ ps)) ≡ sub_ℕ sa half
  signed_A = rw (length_firsts ps) at (signed_words p.first (firsts ps) (fit_firsts (p ∷ ps) w))

  signed_B : signed (width (p ∷ ps)) (B (p ∷ ps)) ≡ sub_ℕ sb half
  signed_B = rw (length_seconds ps) at (signed_words p.second (seconds ps) (fit_seconds (p ∷ ps) w))

  pub difference : Difference p ps
  difference =
      let r : SubChain true p ps = sub_chain true p ps w in
      let k : Bool = (last_of sbc_of true p ps).carry in
      let ws : ℕ = number_of (words_of sbc_of true (p ∷ ps)) in
      record {
        result =
            sym
            (ap (wrap (width (p ∷ ps))) (pos_sub (A (p ∷ ps)) (B (p ∷ ps)))
            ∙ wrap_diff (width (p ∷ ps)) (A (p ∷ ps)) (B (p ∷ ps)) ws 0 (lack k) r.low (omega (arith, r.exact)));
        carry = sub_carry k ws (B (p ∷ ps)) (A (p ∷ ps)) (2 ^ width (p ∷ ps)) r.low (omega (arith, r.exact));
        below =
            r.sign
            ∙ sym
            (rw (signed_A, signed_B)
            (diff_lt_z sa half sb half ∙ ltb_same (sa + half) (sb + half) sa (sb + 0) (λ e. omega arith) (λ e. omega arith)));
      }

  pub total : Total p ps
  total =
      let r : AddChain false p ps = add_chain false p ps w in
      let k : Bool = (last_of adc_of false p ps).carry in
      let ws : ℕ = number_of (words_of adc_of false (p ∷ ps)) in
      let s : ℕ = A (p ∷ ps) + B (p ∷ ps) in
      let h : ℕ = 2 ^ 31 * 2 ^ (32 * length ps) in
      let e : half ≡ h = half_word_more (length ps) in
      record {
        result = sym (mod_both s ws (2 ^ width (p ∷ ps)) 0 (bit_of k) (omega (arith, r.exact)) ∙ mod-eq_of_lt r.low);
        carry = add_carry k ws s (2 ^ width (p ∷ ps)) r.low (omega (arith, r.exact));
        overflow =
            r.over
            ∙ sym
            (rw (signed_A, signed_B, diff_add sa half sb half, outside_diff (width (p ∷ ps)) (sa + sb) (half + half), e)
            (or_same
            (ltb_same (sa + sb + h) (h + h) (sa + sb + 0) h (λ e. omega arith) (λ e. omega arith))
            (leb_same (h + h + h) (sa + sb) (3 * h) (sa + sb + 0) (λ e. omega arith) (λ e. omega arith))));
      }
