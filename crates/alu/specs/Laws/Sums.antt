-- What the code computes in u64 is the exact sum's value, carry and overflow.
use Rattle.std.specs.Prelude.{◌≡◌, Bool, true, false, not, ◌||◌, ℕ, ◌+◌, ◌-◌, ◌*◌, ◌/◌, ◌%◌, ◌^◌, ◌<◌, pos, ◌+ℤ◌, ◌-ℤ◌, ltb, leb}
use Rattle.std.proofs.Common.{ap, ◌∙◌, arith, lit<}
use Rattle.std.proofs.Math.IntN.{sub_ℕ, +ℤ_idr}
use Rattle.std.specs.Int.Signed.{lt_z}
use Rattle.bits.specs.Fields.{bit_of}
use Rattle.bits.specs.Integers.{signed, wrap, outside}
use Rattle.bits.specs.Laws.Bools.{bit_not}
use Rattle.bits.specs.Laws.Order.{ltb_same, leb_same, or_same, not_ltb}
use Rattle.bits.specs.Laws.Diff.{diff_add, diff_sub, diff_pos, diff_lt_z, pos_sub, diff_sub_pos, diff_add_pos}
use Rattle.bits.specs.Laws.Wrap.{wrap_diff}
use Rattle.bits.specs.Laws.Signed.{lifted, signed_lifted, outside_diff}
use Rattle.alu.specs.declared.Sum.{Sum}
use Rattle.alu.specs.Sums.{add_of, adc_of, sub_of, sbc_of}

module _ (a b : ℕ) (c : Bool) (ha : a < 2 ^ 32) (hb : b < 2 ^ 32) where
  abbrev sum : ℕ
  sum = a + b + bit_of c

  abbrev lifted_sum : ℕ
  lifted_sum = lifted 32 a + lifted 32 b + bit_of c

  pub adc_overflow : outside 32 (signed 32 a +ℤ signed 32 b +ℤ pos (bit_of c)) ≡ (ltb lifted_sum (2 ^ 31) || leb (3 * 2 ^ 31) lifted_sum)
  adc_overflow =
      rw (signed_lifted 32 a (lit< tt) ha, signed_lifted 32 b (lit< tt) hb, diff_add (lifted 32 a) (2 ^ 31) (lifted 32 b) (2 ^ 31), diff_add_pos (lifted 32 a + lifted 32 b) (2 ^ 31 + 2 ^ 31) (bit_of c), outside_diff 32 lifted_sum (2 ^ 31 + 2 ^ 31))
      (or_same
      (ltb_same (lifted_sum + 2 ^ 31) (2 ^ 32) lifted_sum (2 ^ 31) (λ e. omega arith) (λ e. omega arith))
      (leb_same (2 ^ 31 + 2 ^ 31 + 2 ^ 31) lifted_sum (3 * 2 ^ 31) lifted_sum (λ e. omega arith) (λ e. omega arith)))

  pub adc_law : ◌≡◌ {A = Sum}
      (record {
        value = sum % 2 ^ 32;
        carry = leb (2 ^ 32) sum;
        overflow = ltb lifted_sum (2 ^ 31) || leb (3 * 2 ^ 31) lifted_sum;
      })
      (adc_of a b c)
  unfolding adc_of
  adc_law = cc (adc_overflow)

  -- the difference and 2^32 - 1 more
  abbrev rest : ℕ
  rest = a + (2 ^ 32 - 1) - b + bit_of c

  abbrev lifted_rest : ℕ
  lifted_rest = lifted 32 a + (2 ^ 32 - 1) - lifted 32 b + bit_of c

  exact : pos a -ℤ pos b -ℤ pos (bit_of (not c)) ≡ sub_ℕ a (b + bit_of (not c))
  exact = rw (pos_sub a b) (diff_sub_pos a b (bit_of (not c)))

  pub sbc_value : wrap 32 (pos a -ℤ pos b -ℤ pos (bit_of (not c))) ≡ rest % 2 ^ 32
  sbc_value = ap (wrap 32) exact ∙ wrap_diff 32 a (b + bit_of (not c)) (rest % 2 ^ 32) (rest / 2 ^ 32) 1 (omega arith) (omega (arith, bit_not c))

  pub sbc_carry : not (lt_z (pos a -ℤ pos b -ℤ pos (bit_of (not c))) (pos 0)) ≡ leb (2 ^ 32) rest
  sbc_carry =
      rw (exact, diff_pos 0, diff_lt_z a (b + bit_of (not c)) 0 0)
      (not_ltb (a + 0) (0 + (b + bit_of (not c)))
      ∙ leb_same (0 + (b + bit_of (not c))) (a + 0) (2 ^ 32) rest (λ e. omega (arith, bit_not c)) (λ e. omega (arith, bit_not c)))

  pub sbc_overflow : outside 32 (signed 32 a -ℤ signed 32 b -ℤ pos (bit_of (not c))) ≡ (ltb lifted_rest (2 ^ 31) || leb (3 * 2 ^ 31) lifted_rest)
  sbc_overflow =
      rw (signed_lifted 32 a (lit< tt) ha, signed_lifted 32 b (lit< tt) hb, diff_sub (lifted 32 a) (2 ^ 31) (lifted 32 b) (2 ^ 31), diff_sub_pos (lifted 32 a + 2 ^ 31) (2 ^ 31 + lifted 32 b) (bit_of (not c)), outside_diff 32 (lifted 32 a + 2 ^ 31) (2 ^ 31 + lifted 32 b + bit_of (not c)))
      (or_same
      (ltb_same (lifted 32 a + 2 ^ 31 + 2 ^ 31) (2 ^ 31 + lifted 32 b + bit_of (not c)) lifted_rest (2 ^ 31) (λ e. omega (arith, bit_not c)) (λ e. omega (arith, bit_not c)))
      (leb_same (2 ^ 31 + lifted 32 b + bit_of (not c) + 2 ^ 31) (lifted 32 a + 2 ^ 31) (3 * 2 ^ 31) lifted_rest (λ e. omega (arith, bit_not c)) (λ e. omega (arith, bit_not c))))

  pub sbc_law : ◌≡◌ {A = Sum}
      (record {
        value = rest % 2 ^ 32;
        carry = leb (2 ^ 32) rest;
        overflow = ltb lifted_rest (2 ^ 31) || leb (3 * 2 ^ 31) lifted_rest;
      })
      (sbc_of a b c)
  unfolding sbc_of
  sbc_law = cc (sbc_value, sbc_carry, sbc_overflow)

-- ADD and SUB are the forms with nothing to carry or borrow
pub add_adc : (a b : ℕ) → add_of a b ≡ adc_of a b false
unfolding add_of adc_of
add_adc a b = cc (+ℤ_idr (pos a +ℤ pos b), +ℤ_idr (signed 32 a +ℤ signed 32 b))

pub sub_sbc : (a b : ℕ) → sub_of a b ≡ sbc_of a b true
unfolding sub_of sbc_of
sub_sbc a b = cc (+ℤ_idr (pos a -ℤ pos b), +ℤ_idr (signed 32 a -ℤ signed 32 b))
