-- The three ways in which the code saturates, and its bounds.
use Rattle.std.specs.Prelude.{◌≡◌, true, false, ℕ, ◌-◌, ◌<◌, ℤ, pos, neg_ℤ, ◌-ℤ◌}
use Rattle.std.proofs.Common.{◌∙◌}
use Rattle.std.proofs.Math.IntN.{+ℤ_idl}
use Rattle.std.specs.Int.Signed.{lt_z}
use Rattle.bits.specs.Cases.{when◌then◌else◌}
use Rattle.bits.specs.Integers.{wrap}
use Rattle.bits.specs.Laws.Diff.{pos_sub, diff_ge}
use Rattle.alu.specs.declared.Fitted.{Fitted}
use Rattle.alu.specs.Saturation.{clamp_of, saturated_of}

module _ (low high z : ℤ) where
  pub below_low : lt_z z low ≡ true → ◌≡◌ {A = Fitted} (record { value = wrap 32 low; q = true }) (saturated_of low high z)
  unfolding saturated_of clamp_of when◌then◌else◌
  below_low e = rw e

  pub above_high : lt_z z low ≡ false → lt_z high z ≡ true → ◌≡◌ {A = Fitted} (record { value = wrap 32 high; q = true }) (saturated_of low high z)
  unfolding saturated_of clamp_of when◌then◌else◌
  above_high d e = rw (d, e)

  pub between : lt_z z low ≡ false → lt_z high z ≡ false → ◌≡◌ {A = Fitted} (record { value = wrap 32 z; q = false }) (saturated_of low high z)
  unfolding saturated_of clamp_of when◌then◌else◌
  between d e = rw (d, e)

pub least_is : (p : ℕ) → pos 0 -ℤ pos p ≡ neg_ℤ (pos p)
least_is p = +ℤ_idl (neg_ℤ (pos p))

pub greatest_is : (p : ℕ) → 0 < p → pos p -ℤ pos 1 ≡ pos (p - 1)
greatest_is p h = pos_sub p 1 ∙ diff_ge p 1 h
