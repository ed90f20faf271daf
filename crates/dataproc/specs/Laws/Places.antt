-- Where a result goes, in the code's order of tests: S first, so that the flags are set in one place.
use Rattle.std.specs.Prelude.{◌≡◌, refl, Bool, true, false, not, ◌&&◌, List, ℕ, ◌-◌, ◌^◌, set, ◌==◌}
use Rattle.std.proofs.Common.{sym, ap, ◌∙◌}
use Rattle.std.specs.Int.Bits.{bit_and, bit_or, bit_xor}
use Rattle.bits.specs.Cases.{when◌then◌else◌, if_yes, if_no}
use Rattle.bits.specs.Fields.{◌⟨◌⟩, ◌⟨◌‥◌⟩}
use Rattle.alu.specs.declared.Sum.{Sum}
use Rattle.alu.specs.Sums.{add_of, adc_of, sub_of, sbc_of}
use Rattle.cpu.specs.declared.Outcome.{Outcome}
use Rattle.cpu.specs.declared.Outcome.TheVariants.{Return}
use Rattle.cpu.specs.Outcomes.{done_of, landed_of}
use Rattle.dataproc.specs.Dataproc.{compares, result_of, flagged_of, placed_of}

-- a register written, unless it is to be kept
unfoldable pub put_unless : Bool → List ℕ → ℕ → ℕ → List ℕ
put_unless keep regs rd value = when keep then regs else set regs rd value

-- the tests on a compare, S and r15 in one order and the other
reordered : {X : Type 0} (compare s last : Bool) (flagged : List ℕ → X) (done returned landed : X) (kept put : List ℕ)
    → (when s then (when last && not compare then returned else flagged (when compare then kept else put)) else when compare then done else landed)
    ≡ (when compare then (when s then flagged kept else done) else when s then (when last then returned else flagged put) else landed)
unfolding when◌then◌else◌
reordered true true true flagged done returned landed kept put = refl
reordered true true false flagged done returned landed kept put = refl
reordered true false last flagged done returned landed kept put = refl
reordered false true true flagged done returned landed kept put = refl
reordered false true false flagged done returned landed kept put = refl
reordered false false last flagged done returned landed kept put = refl

-- where a result goes with S, and a value without
unfoldable pub placed_with_flags : List ℕ → ℕ → Sum → Outcome × List ℕ
placed_with_flags regs op x =
    when (op ⟨ 15 ‥ 12 ⟩ == 15) && not (compares op) then (Return x.value, regs)
    else flagged_of (put_unless (compares op) regs (op ⟨ 15 ‥ 12 ⟩) x.value) x

unfoldable pub placed_value : List ℕ → ℕ → ℕ → Outcome × List ℕ
placed_value regs op value = when compares op then done_of regs else landed_of regs (op ⟨ 15 ‥ 12 ⟩) value

placed_by : (regs : List ℕ) (op : ℕ) (x : Sum) → (when op ⟨ 20 ⟩ then placed_with_flags regs op x else placed_value regs op x.value) ≡ placed_of regs op x
unfolding placed_of placed_with_flags placed_value put_unless
placed_by regs op x =
    reordered (compares op) (op ⟨ 20 ⟩) (op ⟨ 15 ‥ 12 ⟩ == 15) (λ (y : List ℕ). flagged_of y x) (done_of regs) (Return x.value, regs)
    (landed_of regs (op ⟨ 15 ‥ 12 ⟩) x.value) regs (set regs (op ⟨ 15 ‥ 12 ⟩) x.value)

pub placed_with_flags_lem : (regs : List ℕ) (op : ℕ) (x : Sum) → op ⟨ 20 ⟩ ≡ true → placed_with_flags regs op x ≡ placed_of regs op x
placed_with_flags_lem regs op x s = sym (if_yes (op ⟨ 20 ⟩) (placed_with_flags regs op x) (placed_value regs op x.value) s) ∙ placed_by regs op x

-- the value of operation k alone
unfoldable pub value_of : ℕ → ℕ → ℕ → Bool → ℕ
value_of k a b c =
    when k == 0 then bit_and a b
    else when k == 1 then bit_xor a b
    else when k == 2 then (sub_of a b).value
    else when k == 3 then (sub_of b a).value
    else when k == 4 then (add_of a b).value
    else when k == 5 then (adc_of a b c).value
    else when k == 6 then (sbc_of a b c).value
    else when k == 7 then (sbc_of b a c).value
    else when k == 8 then bit_and a b
    else when k == 9 then bit_xor a b
    else when k == 10 then (sub_of a b).value
    else when k == 11 then (add_of a b).value
    else when k == 12 then bit_or a b
    else when k == 13 then b
    else when k == 14 then bit_and a ((2 ^ 32 - 1) - b)
    else (2 ^ 32 - 1) - b

-- a choice of values is the value of the choice
chosen : (t : Bool) (x y : Sum) {n rest : ℕ} → n ≡ x.value → rest ≡ y.value → (when t then n else rest) ≡ (when t then x else y).value
unfolding when◌then◌else◌
chosen true x y e f = e
chosen false x y e f = f

value_is : (k a b : ℕ) (sh c v : Bool) → value_of k a b c ≡ (result_of k a b sh c v).value
unfolding value_of result_of
value_is k a b sh c v =
    chosen (k == 0) _ _ refl
    (chosen (k == 1) _ _ refl
    (chosen (k == 2) _ _ refl
    (chosen (k == 3) _ _ refl
    (chosen (k == 4) _ _ refl
    (chosen (k == 5) _ _ refl
    (chosen (k == 6) _ _ refl
    (chosen (k == 7) _ _ refl
    (chosen (k == 8) _ _ refl
    (chosen (k == 9) _ _ refl
    (chosen (k == 10) _ _ refl
    (chosen (k == 11) _ _ refl
    (chosen (k == 12) _ _ refl
    (chosen (k == 13) _ _ refl
    (chosen (k == 14) _ _ refl refl))))))))))))))

pub placed_value_lem : (regs : List ℕ) (op k a b : ℕ) (sh c v : Bool) → op ⟨ 20 ⟩ ≡ false
    → placed_value regs op (value_of k a b c) ≡ placed_of regs op (result_of k a b sh c v)
placed_value_lem regs op k a b sh c v s =
    let x = result_of k a b sh c v in
    ap (placed_value regs op) (value_is k a b sh c v) ∙ sym (if_no (op ⟨ 20 ⟩) (placed_with_flags regs op x) (placed_value regs op x.value) s) ∙ placed_by regs op x
