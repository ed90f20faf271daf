-- The code's branch target, an extended offset added modulo 2^32, is the definition's.
use Rattle.std.specs.Prelude.{◌≡◌, List, ℕ, ◌+◌, ◌*◌, ◌%◌, ◌^◌, pos, ◌*ℤ◌, get_or}
use Rattle.std.proofs.Common.{sym, ap, ◌∙◌, ⊎_elim, arith, mod-eq_of_lt}
use Rattle.std.proofs.Math.IntN.{+ℤ_comm}
use Rattle.bits.specs.Fields.{◌⟨◌‥◌⟩}
use Rattle.bits.specs.Integers.{signed, wrap}
use Rattle.bits.specs.Words.{extended_of}
use Rattle.bits.specs.Laws.Order.{split}
use Rattle.bits.specs.Laws.Diff.{diff_eq, diff_pos, diff_mul}
use Rattle.bits.specs.Laws.Wrap.{wrap_add}
use Rattle.bits.specs.Laws.Signed.{signed_low, signed_high}
use Rattle.misc.specs.Branches.{target_of}

-- four times a number, read two bits wider
signed_four : (x : ℕ) → signed 26 (x * 4) ≡ signed 24 x *ℤ pos 4
signed_four x =
    ⊎_elim
    (λ l. signed_low 26 (x * 4) (omega arith) ∙ sym (ap (λ z. z *ℤ pos 4) (signed_low 24 x l)))
    (λ l. signed_high 26 (x * 4) (omega arith)
    ∙ diff_eq (x * 4) (2 ^ 26) (x * 4 + 2 ^ 24 * 0) (x * 0 + 2 ^ 24 * 4) (omega arith)
    ∙ sym (diff_mul x (2 ^ 24) 4 0)
    ∙ sym (rw (signed_high 24 x l, diff_pos 4)))
    (split x (2 ^ 23))

pub target_is : (regs : List ℕ) (op : ℕ) → (get_or regs 15 0 + extended_of 26 (op ⟨ 23 ‥ 0 ⟩ * 4)) % 2 ^ 32 ≡ target_of regs op
unfolding target_of extended_of
target_is regs op =
    let a : ℕ = get_or regs 15 0 in
    let x : ℕ = op ⟨ 23 ‥ 0 ⟩ in
    let e : x * 4 % 2 ^ 26 ≡ x * 4 = mod-eq_of_lt (omega arith) in
    let s : a + wrap 32 (signed 24 x *ℤ pos 4) ≡ wrap 32 (signed 24 x *ℤ pos 4) + a = omega arith in
    rw (e, signed_four x, s, wrap_add 32 (signed 24 x *ℤ pos 4) a, +ℤ_comm (signed 24 x *ℤ pos 4) (pos a))
