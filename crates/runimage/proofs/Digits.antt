-- Eight digits in capitals, with zeros before them.
use Rattle.std.proofs.Common.{◌≡◌, ℕ, zero, suc, ◌+◌, ◌-◌, ◌/◌, ◌%◌, ◌^◌, ◌<◌, ◌≤◌, Bool, true, false, List, [], ◌∷◌, ◌++◌, length, refl, sym, ◌∙◌, ap, arith, nat_lt, cond, lit<, lit≤, append-nil}
use Rattle.std.proofs.Math.Nat.{div-div-eq-div-mul, div-lt_iff_lt-mul, pow-suc, sub-zero}
use borrow.Author.Tests.{eqb-true}
use Rattle.std.specs.Prelude.{replicate, ◌==◌, if◌then◌else◌}
use Rattle.std.specs.Fmt.{digits, digits_onto, digit_glyph, padded_integral, format_spec, char_count}
use Rattle.bits.specs.Cases.{when◌then◌else◌}
use Rattle.runimage.specs.Text.{glyph_of, spaced_of}

-- k digits, followed by acc
abbrev pub fixed : ℕ → ℕ → List ℕ → List ℕ
fixed zero n acc = acc
fixed (suc k) n acc = fixed k (n / 16) (digit_glyph true (n % 16) ∷ acc)

replicate_end : (k : ℕ) (acc : List ℕ) → replicate k 48 ++ (48 ∷ acc) ≡ 48 ∷ (replicate k 48 ++ acc)
replicate_end zero acc = refl
replicate_end (suc k) acc = ap (λ l. 48 ∷ l) (replicate_end k acc)

pub fixed_zero : (k : ℕ) (acc : List ℕ) → fixed k 0 acc ≡ replicate k 48 ++ acc
fixed_zero zero acc = refl
fixed_zero (suc k) acc = fixed_zero k (48 ∷ acc) ∙ replicate_end k acc

-- zeros up to a width of w
unfoldable pub filled : ℕ → List ℕ → List ℕ
filled w l = replicate (w - length l) 48 ++ l

full : (w : ℕ) (l : List ℕ) → w ≡ length l → filled w l ≡ l
unfolding filled
full w l e = let none : w - length l ≡ 0 = omega arith in rw none

short : (k w : ℕ) (l : List ℕ) → w ≡ k + length l → filled w l ≡ replicate k 48 ++ l
unfolding filled
short k w l e = let some : w - length l ≡ k = omega arith in rw some

next_below : (k n : ℕ) → n < 16 ^ suc (suc k) → n / 16 < 16 ^ suc k
next_below k n below = (div-lt_iff_lt-mul (lit< tt)).1 (rw pow-suc at below)

-- j digits at most are allowed, and k are enough
pub filled_is : (k j n : ℕ) (acc : List ℕ) → n < 16 ^ suc k → k ≤ j
    → filled (suc k + length acc) (digits_onto (suc j) 16 true n acc) ≡ fixed (suc k) n acc
filled_is zero j n acc below fuel =
    let none : n / 16 ≡ 0 = omega arith in
    rw none (full (1 + length acc) (digit_glyph true (n % 16) ∷ acc) (omega arith))
filled_is (suc k) zero n acc below fuel = absurd (omega arith)
filled_is (suc k) (suc j) n acc below fuel =
    let width : suc (suc k) + length acc ≡ suc k + suc (length acc) = omega arith in
    by (n / 16 == 0) refl (rw width (filled_is k j (n / 16) (digit_glyph true (n % 16) ∷ acc) (next_below k n below) (omega arith)))
  where
    by : (t : Bool) → (n / 16 == 0) ≡ t
        → filled (suc (suc k) + length acc) (digits_onto (suc j) 16 true (n / 16) (digit_glyph true (n % 16) ∷ acc)) ≡ fixed (suc k) (n / 16) (digit_glyph true (n % 16) ∷ acc)
        → filled (suc (suc k) + length acc) (cond t (digit_glyph true (n % 16) ∷ acc) (digits_onto (suc j) 16 true (n / 16) (digit_glyph true (n % 16) ∷ acc))) ≡ fixed (suc k) (n / 16) (digit_glyph true (n % 16) ∷ acc)
    by true e h =
        let none : n / 16 ≡ 0 = eqb-true (n / 16) 0 e in
        rw none (short (suc k) (suc (suc k) + length acc) (digit_glyph true (n % 16) ∷ acc) (omega arith) ∙ sym (fixed_zero (suc k) (digit_glyph true (n % 16) ∷ acc)))
    by false e h = h

glyph_is : (d : ℕ) → glyph_of d ≡ digit_glyph true d
unfolding glyph_of when◌then◌else◌
glyph_is d = by (nat_lt d 10)
  where
    by : (t : Bool) → (when t then 48 + d else 55 + d) ≡ cond t (48 + d) (55 + d)
    by true = refl
    by false = refl

pub fixed_spaced : (n : ℕ) → 32 ∷ fixed 8 n [] ≡ spaced_of n
unfolding spaced_of
fixed_spaced n = simp (div-div-eq-div-mul, glyph_is)

pub padded_is : (numeral : List ℕ) → padded_integral (format_spec 32 0 4 8 (2 ^ 64 - 1)) false [] numeral ≡ filled 8 numeral
unfolding padded_integral filled char_count
padded_is numeral = simp (sub-zero, append-nil)

eight : (n : ℕ) → n < 2 ^ 32 → filled 8 (digits 16 true n) ≡ fixed 8 n []
unfolding digits
eight n below = filled_is 7 63 n [] below (lit≤ tt)

pub written : (n : ℕ) → n < 2 ^ 32 → 32 ∷ padded_integral (format_spec 32 0 4 8 (2 ^ 64 - 1)) false [] (digits 16 true n) ≡ spaced_of n
written n below = ap (λ l. 32 ∷ l) (padded_is (digits 16 true n) ∙ eight n below) ∙ fixed_spaced n
