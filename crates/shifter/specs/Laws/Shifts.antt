-- A shift by 1 to 32 bits in one form for the code, and that it is what the manual's cases say.
use Rattle.std.specs.Prelude.{◌≡◌, Bool, false, not, ℕ, zero, suc, ◌+◌, ◌-◌, ◌*◌, ◌/◌, ◌%◌, ◌^◌, ◌<◌, ◌≤◌, negsuc, eqb, leb, ltb}
use Rattle.std.proofs.Math.Path.{refl}
use Rattle.std.proofs.Common.{sym, ap, ◌∙◌, div-le_self, mod-lt, div-add-mod', pow-add, pow_pos, shl_exact, shr_lt}
use Rattle.std.proofs.Math.Logic.{⊎_elim}
use native.Mathlib.Omega.{arith}
use Rattle.std.proofs.Math.Nat.{mod-eq_of_lt, div-eq_of_lt, lt_of_le_of_lt, mul-div-mul_right, mul-mod_left}
use Rattle.std.proofs.Math.Arith.{digits_lt}
use Rattle.std.proofs.Math.Pow.{high}
use Rattle.std.proofs.lemmas.Nat.{mod-pow-add}
use Rattle.std.specs.Int.Signed.{shr_z}
use borrow.Author.Tests.{lt-ltb, le-ltb, ne_eqb, lt-leb, le-leb}
use Rattle.bits.specs.Cases.{when◌then◌else◌, if_yes, if_no}
use Rattle.bits.specs.Fields.{◌⟨◌⟩}
use Rattle.bits.specs.Integers.{signed, wrap}
use Rattle.bits.specs.Words.{rotated_of}
use Rattle.bits.specs.Laws.Order.{split}
use Rattle.bits.specs.Laws.Diff.{diff_lt}
use Rattle.bits.specs.Laws.Signed.{signed_low, signed_high}
use Rattle.bits.specs.Laws.Words.{shr_is, powers, rotated_lt}
use Rattle.shifter.specs.declared.ShiftType.{ShiftType}
use Rattle.shifter.specs.declared.ShiftType.TheVariants.{Lsl, Lsr, Asr, Ror}
use Rattle.shifter.specs.declared.Operand.{Operand}
use Rattle.shifter.specs.Shifts.{operand, shifted_of, signs_of, by_immediate_of, by_register_of, immediate_of}

-- a word turned by n, with the bit that comes on top
abbrev pub turned_of : ℕ → ℕ → Operand
turned_of x n = operand (rotated_of x n) (leb (2 ^ 31) (rotated_of x n))

unfoldable pub through_of : ShiftType → ℕ → ℕ → Operand
through_of Lsl x n = operand (x * 2 ^ n % 2 ^ 32) (x ⟨ 32 - n ⟩)
through_of Lsr x n = operand (x / 2 ^ n) (x ⟨ n - 1 ⟩)
through_of Asr x n = operand (wrap 32 (shr_z (signed 32 x) (2 ^ n))) (x ⟨ n - 1 ⟩)
through_of Ror x n = turned_of x (n % 32)

bit_is : (x k : ℕ) → x ⟨ k ⟩ ≡ eqb (x / 2 ^ k % 2) 1
bit_is x k = ap (λ (y : ℕ). eqb (y % 2) 1) (shr_is x k)

module _ (x n : ℕ) (hx : x < 2 ^ 32) where
  -- shifted left in 64 bits: the carry is bit 32
  left_carry : n ≤ 32 → x * 2 ^ n / 2 ^ 32 ≡ x / 2 ^ (32 - n)
  left_carry h =
      let s : 2 ^ (32 - n) * 2 ^ n ≡ 2 ^ 32 = powers (32 - n) n 32 (omega arith) in
      ap (λ (m : ℕ). x * 2 ^ n / m) (sym s) ∙ mul-div-mul_right x (2 ^ (32 - n)) (pow_pos n)

  pub left_is : n ≤ 32 → ◌≡◌ {A = Operand} (operand ((x * 2 ^ n) % 2 ^ 64 % 2 ^ 32) (eqb ((x * 2 ^ n) % 2 ^ 64 / 2 ^ 32 % 2) 1)) (through_of Lsl x n)
  unfolding through_of
  left_is h = rw (shl_exact 32 n 64 hx (omega arith), left_carry h, bit_is x (32 - n))

  pub right_is : ◌≡◌ {A = Operand} (operand (x / 2 ^ n) (eqb (x / 2 ^ (n - 1) % 2) 1)) (through_of Lsr x n)
  unfolding through_of
  right_is = rw (bit_is x (n - 1))

  pub right_lt : x / 2 ^ n < 2 ^ 32
  right_lt = lt_of_le_of_lt (div-le_self x (2 ^ n)) hx

  pub signed_right_low : x < 2 ^ 31 → through_of Lsr x n ≡ through_of Asr x n
  unfolding through_of
  signed_right_low h = rw (signed_low 32 x h, mod-eq_of_lt right_lt)

-- ---- the complement of a word, shifted

complement_digits : (x q r d m : ℕ) → q * m + r ≡ x → r < m → (d + 1 + q) * m ≡ 2 ^ 32 → (2 ^ 32 - 1) - x ≡ d * m + (m - 1 - r)
complement_digits x q r d m e h s = omega arith

not_odd : (q d p : ℕ) → d + 1 + q ≡ 2 * p → not (eqb (d % 2) 1) ≡ eqb (q % 2) 1
not_odd q d p e =
    ⊎_elim
    (λ h. let z : q % 2 ≡ 0 = omega arith in let o : d % 2 ≡ 1 = omega arith in rw (z, o))
    (λ h. let z : q % 2 ≡ 1 = omega arith in let o : d % 2 ≡ 0 = omega arith in rw (z, o))
    (split (q % 2) 1)

module _ (x k : ℕ) (hx : x < 2 ^ 32) (hk : k < 32) where
  abbrev above : ℕ
  above = 2 ^ (32 - k) - 1 - x / 2 ^ k

  above_lt : x / 2 ^ k < 2 ^ (32 - k)
  above_lt = let e : (32 - k) + k ≡ 32 = omega arith in shr_lt (32 - k) k (rw e hx)

  span : 2 ^ (32 - k) * 2 ^ k ≡ 2 ^ 32
  span = powers (32 - k) k 32 (omega arith)

  complement_shr : ((2 ^ 32 - 1) - x) / 2 ^ k ≡ above
  complement_shr =
      let s : above + 1 + x / 2 ^ k ≡ 2 ^ (32 - k) = omega (arith, above_lt) in
      let d : (2 ^ 32 - 1) - x ≡ above * 2 ^ k + (2 ^ k - 1 - x % 2 ^ k) =
      complement_digits x (x / 2 ^ k) (x % 2 ^ k) above (2 ^ k) (div-add-mod' x (2 ^ k)) (mod-lt x (pow_pos k)) (rw s span) in
      rw d (high above k (omega (arith, pow_pos k)))

  pub complement_bit : not (((2 ^ 32 - 1) - x) ⟨ k ⟩) ≡ x ⟨ k ⟩
  complement_bit =
      let p : 2 ^ (32 - k) ≡ 2 * 2 ^ (31 - k) = let e : 32 - k ≡ 1 + (31 - k) = omega arith in rw e (pow-add 2 1 (31 - k)) in
      rw (bit_is x k, bit_is ((2 ^ 32 - 1) - x) k, complement_shr) (not_odd (x / 2 ^ k) above (2 ^ (31 - k)) (omega (arith, above_lt, p)))

module _ (x n : ℕ) (hx : x < 2 ^ 32) (neg : 2 ^ 31 ≤ x) where
  negative_is : signed 32 x ≡ negsuc ((2 ^ 32 - 1) - x)
  negative_is = signed_high 32 x neg ∙ diff_lt x (2 ^ 32) hx ∙ ap negsuc (omega arith)

  pub signed_right_high : 0 < n → n ≤ 32 → (s : Operand) → s ≡ through_of Lsr ((2 ^ 32 - 1) - x) n
      → ◌≡◌ {A = Operand} (operand ((2 ^ 32 - 1) - s.value) (not s.carry)) (through_of Asr x n)
  unfolding through_of
  signed_right_high h l s e =
      let y : ((2 ^ 32 - 1) - x) / 2 ^ n < 2 ^ 32 = lt_of_le_of_lt (div-le_self ((2 ^ 32 - 1) - x) (2 ^ n)) (omega arith) in
      rw (e, negative_is, mod-eq_of_lt y, complement_bit x (n - 1) hx (omega arith))

-- ---- the top bit

pub top_bit : (x : ℕ) → x < 2 ^ 32 → leb (2 ^ 31) x ≡ x ⟨ 31 ⟩
top_bit x h =
    ⊎_elim
    (λ l. let z : x / 2 ^ 31 % 2 ≡ 0 = omega arith in rw (z, lt-leb (2 ^ 31) x l))
    (λ l. let z : x / 2 ^ 31 % 2 ≡ 1 = omega arith in rw (z, le-leb (2 ^ 31) x l))
    (split x (2 ^ 31))

-- x % 2^n is a bit b above n - 1 others; turned, it stands at bit 31
top_of : (b l h e u : ℕ) → b < 2 → l < h → u < e → h * e ≡ 2 ^ 31 → leb (2 ^ 31) ((b * h + l) * e + u) ≡ eqb b 1
top_of zero l h e u p q r s = let d : l * e + u < 2 ^ 31 = rw s at (digits_lt q r) in lt-leb (2 ^ 31) ((0 * h + l) * e + u) (omega arith)
top_of (suc zero) l h e u p q r s = le-leb (2 ^ 31) ((1 * h + l) * e + u) (omega arith)
top_of (suc (suc b)) l h e u p q r s = absurd (omega arith)

pub turned_top : (x n : ℕ) → x < 2 ^ 32 → 0 < n → n < 32 → leb (2 ^ 31) (rotated_of x n) ≡ x ⟨ n - 1 ⟩
unfolding rotated_of
turned_top x n hx h l =
    let k : ℕ = n - 1 in
    let e : n ≡ 1 + k = omega arith in
    let f : (32 - n) + n ≡ 32 = omega arith in
    let u : x / 2 ^ n < 2 ^ (32 - n) = shr_lt (32 - n) n (rw f hx) in
    let s : 2 ^ k * 2 ^ (32 - n) ≡ 2 ^ 31 = powers k (32 - n) 31 (omega arith) in
    let m : x % 2 ^ n ≡ x / 2 ^ k % 2 * 2 ^ k + x % 2 ^ k = ap (λ (i : ℕ). x % 2 ^ i) e ∙ mod-pow-add x 1 k in
    rw (m, bit_is x k) (top_of (x / 2 ^ k % 2) (x % 2 ^ k) (2 ^ k) (2 ^ (32 - n)) (x / 2 ^ n) (omega arith) (mod-lt x (pow_pos k)) u s)

pub turned_none : (x : ℕ) → rotated_of x 0 ≡ x
unfolding rotated_of
turned_none x = omega arith

-- ---- 32 bits and more

pub all_signs : (x : ℕ) → x < 2 ^ 32 → wrap 32 (shr_z (signed 32 x) (2 ^ 32)) ≡ signs_of x
unfolding signs_of
all_signs x hx =
    ⊎_elim
    (λ l. let z : x / 2 ^ 32 ≡ 0 = omega arith in
    rw (signed_low 32 x l, z, ← top_bit x hx, lt-leb (2 ^ 31) x l, if_no))
    (λ l. let z : ((2 ^ 32 - 1) - x) / 2 ^ 32 ≡ 0 = omega arith in
    rw (negative_is x 0 hx l, z, ← top_bit x hx, le-leb (2 ^ 31) x l, if_yes))
    (split x (2 ^ 31))

-- ---- the manual's cases

gt_eqb : (n : ℕ) → 0 < n → eqb n 0 ≡ false
gt_eqb n h = ne_eqb n 0 (λ e. omega arith)

module _ (x n : ℕ) (c : Bool) (hx : x < 2 ^ 32) where
  pub by_immediate_some : (ty : ShiftType) → 0 < n → n < 32 → through_of ty x n ≡ by_immediate_of ty x n c
  unfolding through_of by_immediate_of shifted_of when◌then◌else◌
  by_immediate_some Lsl h l = rw (gt_eqb n h)
  by_immediate_some Lsr h l = rw (gt_eqb n h)
  by_immediate_some Asr h l = rw (gt_eqb n h)
  by_immediate_some Ror h l = rw (gt_eqb n h, mod-eq_of_lt l, turned_top x n hx h l)

  below_32 : (ty : ShiftType) → 0 < n → n < 32 → through_of ty x n ≡ by_register_of ty x n c
  unfolding through_of by_register_of shifted_of when◌then◌else◌
  below_32 Lsl h l = rw (gt_eqb n h, lt-ltb n 32 l)
  below_32 Lsr h l = rw (gt_eqb n h, lt-ltb n 32 l)
  below_32 Asr h l = rw (gt_eqb n h, lt-ltb n 32 l)
  below_32 Ror h l = rw (mod-eq_of_lt l, gt_eqb n h, turned_top x n hx h l)

  at_32 : (ty : ShiftType) → through_of ty x 32 ≡ by_register_of ty x 32 c
  unfolding through_of by_register_of when◌then◌else◌
  at_32 Lsl = rw (mul-mod_left x (2 ^ 32))
  at_32 Lsr = rw (div-eq_of_lt hx)
  at_32 Asr = rw (all_signs x hx)
  at_32 Ror = rw (turned_none x, top_bit x hx)

  pub by_register_some : (ty : ShiftType) → 0 < n → n ≤ 32 → through_of ty x n ≡ by_register_of ty x n c
  by_register_some ty h l =
      ⊎_elim (λ k. below_32 ty h k) (λ k. let e : n ≡ 32 = omega arith in rw e (at_32 ty)) (split n 32)

  module _ (more : 32 < n) where
    off : eqb n 0 ≡ false
    off = ne_eqb n 0 (λ e. omega arith)

    past : eqb n 32 ≡ false
    past = ne_eqb n 32 (λ e. omega arith)

    beyond : ltb n 32 ≡ false
    beyond = le-ltb n 32 (omega arith)

    pub left_many : operand 0 false ≡ by_register_of Lsl x n c
    unfolding by_register_of when◌then◌else◌
    left_many = rw (off, beyond, past)

    pub right_many : operand 0 false ≡ by_register_of Lsr x n c
    unfolding by_register_of when◌then◌else◌
    right_many = rw (off, beyond, past)

    pub signed_many : through_of Asr x 32 ≡ by_register_of Asr x n c
    unfolding through_of by_register_of when◌then◌else◌
    signed_many = rw (off, beyond, all_signs x hx)

    pub turned_many : turned_of x (n % 32) ≡ by_register_of Ror x n c
    unfolding by_register_of shifted_of when◌then◌else◌
    turned_many =
        ⊎_elim
        (λ k. let e : n % 32 ≡ 0 = omega arith in rw (e, off, turned_none x, top_bit x hx))
        (λ k. rw (off, gt_eqb (n % 32) k, turned_top x (n % 32) hx k (omega arith)))
        (split (n % 32) 1)

    -- past the word's width the carry in does not count
    pub many_any : (ty : ShiftType) → by_register_of ty x n false ≡ by_register_of ty x n c
    unfolding by_register_of when◌then◌else◌
    many_any Lsl = rw off
    many_any Lsr = rw off
    many_any Asr = rw off
    many_any Ror = rw off

  pub left_none : operand x c ≡ by_immediate_of Lsl x 0 c
  unfolding by_immediate_of when◌then◌else◌
  left_none = refl

  pub right_none : through_of Lsr x 32 ≡ by_immediate_of Lsr x 0 c
  unfolding through_of by_immediate_of when◌then◌else◌
  right_none = rw (div-eq_of_lt hx)

  pub signed_none : through_of Asr x 32 ≡ by_immediate_of Asr x 0 c
  unfolding through_of by_immediate_of when◌then◌else◌
  signed_none = rw (all_signs x hx)

  pub register_none : (ty : ShiftType) → operand x c ≡ by_register_of ty x 0 c
  unfolding by_register_of when◌then◌else◌
  register_none Lsl = refl
  register_none Lsr = refl
  register_none Asr = refl
  register_none Ror = refl

pub immediate_some : (x n : ℕ) (c : Bool) → x < 2 ^ 32 → 0 < n → n < 16 → turned_of x (n * 2 % 32) ≡ immediate_of x n c
unfolding immediate_of when◌then◌else◌
immediate_some x n c hx h l =
    let k : n * 2 < 32 = omega arith in
    rw (mod-eq_of_lt k, gt_eqb n h, top_bit (rotated_of x (n * 2)) (rotated_lt x (n * 2) hx k))
