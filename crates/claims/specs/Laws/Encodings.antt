-- What an opcode that can answer 1, 3, 4 or 11 has for bits, and the way from SWI's bits to its family.
use Rattle.std.specs.Prelude.{◌≡◌, Bool, not, ◌&&◌, [], ◌∷◌, ◌≢◌, ℕ, ◌/◌, ◌%◌, ◌^◌, ◌≤◌, ◌==◌}
use Rattle.std.proofs.Math.Path.{refl, sym}
use Rattle.std.proofs.Common.{subst, ◌∙◌}
use Rattle.std.proofs.Math.Bool.{true, false}
use Rattle.std.proofs.lemmas.Bool.{false≢true}
use native.Mathlib.Omega.{arith}
use borrow.Author.Tests.{eq-eqb, ne_eqb, eqb-true, eqb-false, not-true}
use Rattle.bits.specs.Cases.{when◌then◌else◌, if_both, if_yes, if_no}
use Rattle.bits.specs.Fields.{◌⟨◌⟩, ◌⟨◌‥◌⟩}
use Rattle.bits.specs.Laws.Order.{apart_le}
use Rattle.decode.specs.declared.Family.{Family}
use Rattle.decode.specs.declared.Family.TheVariants as family
use Rattle.decode.specs.Families.{compares_nothing, multiply_or_swap_of, miscellaneous_of, register_space_of, immediate_space_of, conditional_of, unconditional_of, family_of}
use Rattle.claims.specs.Laws.Choices.{both, later, first}
use Rattle.claims.specs.Demand1.{among, numbers_of, IsSwi, IsBkpt}
use Rattle.claims.specs.Laws.Fields.{hi, lo, bits_27_25, bits_24_23, bits_6_5, bit_24, bit_20, bit_7, bit_4}

-- a family that can answer k, and one that cannot
abbrev Says : ℕ → Family → Type 0
Says k f = among k (numbers_of f) ≡ true

abbrev Not : ℕ → Family → Type 0
Not k f = among k (numbers_of f) ≡ false

never : {b : Bool} → b ≡ false → ¬ (b ≡ true)
never n p = false≢true (sym n ∙ p)

-- parts of the decoding that cannot answer k, for a k that stands in none of these lists
module _ (k : ℕ) (q0 : among k (0 ∷ []) ≡ false) (q2 : among k (2 ∷ []) ≡ false) (q07 : among k (0 ∷ 7 ∷ []) ≡ false) (q027 : among k (0 ∷ 2 ∷ 7 ∷ []) ≡ false) (h lo : ℕ) where
  not_multiplies : Not k (multiply_or_swap_of h)
  unfolding multiply_or_swap_of
  not_multiplies = if_both (Not k) _ (if_both (Not k) _ q027 q07) (if_both (Not k) _ q0 (if_both (Not k) _ q2 q0))

  not_immediates : Not k (immediate_space_of h)
  unfolding immediate_space_of
  not_immediates = if_both (Not k) _ (if_both (Not k) _ q0 q2) q0

  not_miscellaneous : among k (3 ∷ []) ≡ false → Not k (miscellaneous_of h lo)
  unfolding miscellaneous_of
  not_miscellaneous q3 =
      if_both (Not k) _ q0
      (if_both (Not k) _ (if_both (Not k) _ q0 q0)
      (if_both (Not k) _ q0 (if_both (Not k) _ q0 (if_both (Not k) _ q3 (if_both (Not k) _ q0 q2)))))

  not_always : among k (4 ∷ []) ≡ false → among k (0 ∷ 4 ∷ []) ≡ false → Not k (unconditional_of h lo)
  unfolding unconditional_of
  not_always q4 q04 =
      if_both (Not k) _ q0
      (if_both (Not k) _ q0
      (if_both (Not k) _ q0
      (if_both (Not k) _ q0
      (if_both (Not k) _ q0
      (if_both (Not k) _ q4
      (if_both (Not k) _ (if_both (Not k) _ q04 q4) q2))))))

  -- bits 27-25 other than 000: not by loads, stores, media and branches, and not by coprocessors and SWI
  not_registers : among k (0 ∷ 2 ∷ []) ≡ false → among k (4 ∷ []) ≡ false → among k (0 ∷ 4 ∷ []) ≡ false → among k (1 ∷ []) ≡ false
      → Says k (conditional_of h lo) → (h ⟨ 7 ‥ 5 ⟩ ≡ 0) × Says k (register_space_of h lo)
  unfolding conditional_of
  not_registers q02 q4 q04 q1 p =
      let e = first (Says k) (h ⟨ 7 ‥ 5 ⟩ == 0)
      (never
      (if_both (Not k) _ not_immediates
      (if_both (Not k) _ q07
      (if_both (Not k) _ (if_both (Not k) _ q02 q07)
      (if_both (Not k) _ q07
      (if_both (Not k) _ q0
      (if_both (Not k) _ q4
      (if_both (Not k) _ q1 (if_both (Not k) _ q04 q4)))))))))
      p in
      (eqb-true _ _ e.0, e.1)

-- bits 27-25 of 110 and 111
abbrev last_spaces : ℕ → ℕ → Family
last_spaces h lo =
    when h ⟨ 7 ‥ 5 ⟩ == 6 then family.Coprocessor
    else when h ⟨ 4 ⟩ then family.Supervisor
    else when lo ⟨ 0 ⟩ then family.CoprocessorMove
    else family.Coprocessor

-- 1 and 4: SWI and coprocessors
module _ (k : ℕ) (q0 : among k (0 ∷ []) ≡ false) (q2 : among k (2 ∷ []) ≡ false) (q07 : among k (0 ∷ 7 ∷ []) ≡ false) (q027 : among k (0 ∷ 2 ∷ 7 ∷ []) ≡ false) (q02 : among k (0 ∷ 2 ∷ []) ≡ false) (q3 : among k (3 ∷ []) ≡ false) (qx : among k (0 ∷ 2 ∷ 7 ∷ 11 ∷ []) ≡ false) (h lo : ℕ) where
  lasts_registers : Not k (register_space_of h lo)
  unfolding register_space_of
  lasts_registers =
      if_both (Not k) _ (if_both (Not k) _ (not_multiplies k q0 q2 q07 q027 h lo) qx)
      (if_both (Not k) _ (not_miscellaneous k q0 q2 q07 q027 h lo q3) q0)

  lasts_by_bits : Says k (conditional_of h lo) → (6 ≤ h ⟨ 7 ‥ 5 ⟩) × Says k (last_spaces h lo)
  unfolding conditional_of
  lasts_by_bits p =
      let p0 = later (Says k) (h ⟨ 7 ‥ 5 ⟩ == 0) (never lasts_registers) p in
      let p1 = later (Says k) (h ⟨ 7 ‥ 5 ⟩ == 1) (never (not_immediates k q0 q2 q07 q027 h lo)) p0.1 in
      let p2 = later (Says k) (h ⟨ 7 ‥ 5 ⟩ == 2) (never q07) p1.1 in
      let p3 = later (Says k) (h ⟨ 7 ‥ 5 ⟩ == 3) (never (if_both (Not k) _ q02 q07)) p2.1 in
      let p4 = later (Says k) (h ⟨ 7 ‥ 5 ⟩ == 4) (never q07) p3.1 in
      let p5 = later (Says k) (h ⟨ 7 ‥ 5 ⟩ == 5) (never q0) p4.1 in
      let no : (n : ℕ) → (h ⟨ 7 ‥ 5 ⟩ == n) ≡ false → h ⟨ 7 ‥ 5 ⟩ ≢ n = λ n. eqb-false (h ⟨ 7 ‥ 5 ⟩) n in
      (apart_le 6 (h ⟨ 7 ‥ 5 ⟩) ((((((tt, no 0 p0.0), no 1 p1.0), no 2 p2.0), no 3 p3.0), no 4 p4.0), no 5 p5.0), p5.1)

module _ (h lo : ℕ) where
  -- 1: SWI
  calls_by_bits : Says 1 (conditional_of h lo) → (h ⟨ 7 ‥ 5 ⟩ ≡ 7) × (h ⟨ 4 ⟩ ≡ true)
  calls_by_bits p =
      let r = lasts_by_bits 1 refl refl refl refl refl refl refl h lo p in
      let l : 6 ≤ h ⟨ 7 ‥ 5 ⟩ = r.0 in
      let p6 = later (Says 1) (h ⟨ 7 ‥ 5 ⟩ == 6) (never refl) r.1 in
      let n : h ⟨ 7 ‥ 5 ⟩ ≢ 6 = eqb-false _ _ p6.0 in
      (omega arith, (first (Says 1) (h ⟨ 4 ⟩) (never (if_both (Not 1) _ refl refl)) p6.1).0)

  -- 4: coprocessors, with condition 15 too
  always_by_bits : Says 4 (unconditional_of h lo) → 6 ≤ h ⟨ 7 ‥ 5 ⟩
  unfolding unconditional_of
  always_by_bits p =
      let p0 = later (Says 4) (h ⟨ 7 ‥ 5 ⟩ == 5) (never refl) p in
      let p1 = later (Says 4) ((h == 0x57) && (lo == 1)) (never refl) p0.1 in
      let p2 = later (Says 4) (h ⟨ 7 ‥ 5 ⟩ == 0) (never refl) p1.1 in
      let p3 = later (Says 4) (h ⟨ 7 ‥ 5 ⟩ == 2) (never refl) p2.1 in
      let p4 = later (Says 4) (h ⟨ 7 ‥ 5 ⟩ == 3) (never refl) p3.1 in
      go (h ⟨ 7 ‥ 5 ⟩ == 6) refl p4.1
    where
      go : (b : Bool) → (h ⟨ 7 ‥ 5 ⟩ == 6) ≡ b
          → Says 4 (when b then family.Coprocessor else when h ⟨ 7 ‥ 5 ⟩ == 7 then (when lo ⟨ 0 ⟩ then family.CoprocessorMove else family.Coprocessor) else family.Undefined)
          → 6 ≤ h ⟨ 7 ‥ 5 ⟩
      go true e q = let n : h ⟨ 7 ‥ 5 ⟩ ≡ 6 = eqb-true _ _ e in omega arith
      go false e q =
          let r = first (Says 4) (h ⟨ 7 ‥ 5 ⟩ == 7) (never refl) (subst (Says 4) (if_no false _ _ refl) q) in
          let n : h ⟨ 7 ‥ 5 ⟩ ≡ 7 = eqb-true _ _ r.0 in
          omega arith

  -- 3: BKPT
  stops_by_bits : Says 3 (register_space_of h lo) → (compares_nothing h ≡ true) × (lo ≡ 7)
  unfolding register_space_of miscellaneous_of
  stops_by_bits p =
      let p0 = later (Says 3) (lo ⟨ 3 ⟩ && lo ⟨ 0 ⟩) (never (if_both (Not 3) _ (not_multiplies 3 refl refl refl refl h lo) refl)) p in
      let p1 = first (Says 3) (compares_nothing h) (never refl) p0.1 in
      let p2 = later (Says 3) (lo == 0) (never refl) p1.1 in
      let p3 = later (Says 3) (lo == 1) (never (if_both (Not 3) _ refl refl)) p2.1 in
      let p4 = later (Says 3) (lo == 3) (never refl) p3.1 in
      let p5 = later (Says 3) (lo == 5) (never refl) p4.1 in
      let p6 = first (Says 3) (lo == 7) (never (if_both (Not 3) _ refl refl)) p5.1 in
      (p1.0, eqb-true _ _ p6.0)

  -- 11: an extra transfer
  forms_by_bits : Says 11 (register_space_of h lo) → ((lo ⟨ 3 ⟩ && lo ⟨ 0 ⟩) ≡ true) × (lo ⟨ 2 ‥ 1 ⟩ ≢ 0)
  unfolding register_space_of
  forms_by_bits p =
      let p0 = first (Says 11) (lo ⟨ 3 ⟩ && lo ⟨ 0 ⟩) (never (if_both (Not 11) _ (not_miscellaneous 11 refl refl refl refl h lo refl) refl)) p in
      let p1 = later (Says 11) (lo ⟨ 2 ‥ 1 ⟩ == 0) (never (not_multiplies 11 refl refl refl refl h lo)) p0.1 in
      (p0.0, eqb-false _ _ p1.0)

module _ (op : ℕ) where
  pub conditional : op ⟨ 31 ‥ 28 ⟩ ≢ 15 → family_of op ≡ conditional_of (hi op) (lo op)
  unfolding family_of when◌then◌else◌
  conditional c = rw (ne_eqb _ _ c)

  pub unconditional : op ⟨ 31 ‥ 28 ⟩ ≡ 15 → family_of op ≡ unconditional_of (hi op) (lo op)
  unfolding family_of when◌then◌else◌
  unconditional c = rw (eq-eqb _ _ c)

  -- SWI is its family, and no other opcode can answer 1
  pub swi_is : IsSwi op → family_of op ≡ family.Supervisor
  unfolding conditional_of when◌then◌else◌
  swi_is (c, e) =
      let a : op ⟨ 27 ‥ 25 ⟩ ≡ 7 = omega arith in
      let b : op / 2 ^ 24 % 2 ≡ 1 = omega arith in
      rw (conditional c, bits_27_25 op, a, bit_24 op, b)

  pub swi_only : Says 1 (family_of op) → IsSwi op
  unfolding family_of
  swi_only p =
      let c = later (Says 1) (op ⟨ 31 ‥ 28 ⟩ == 15) (never (not_always 1 refl refl refl refl (hi op) (lo op) refl refl)) p in
      let b = calls_by_bits (hi op) (lo op) c.1 in
      let s : op ⟨ 27 ‥ 25 ⟩ ≡ 7 = sym (bits_27_25 op) ∙ b.0 in
      let t : op / 2 ^ 24 % 2 ≡ 1 = eqb-true _ _ (sym (bit_24 op) ∙ b.1) in
      (eqb-false _ _ c.0, omega arith)

  pub coprocessor_only : Says 4 (family_of op) → op ⟨ 27 ‥ 26 ⟩ ≡ 3
  unfolding family_of
  coprocessor_only p = go (op ⟨ 31 ‥ 28 ⟩ == 15) p
    where
      high : 6 ≤ hi op ⟨ 7 ‥ 5 ⟩ → op ⟨ 27 ‥ 26 ⟩ ≡ 3
      high h = let e = bits_27_25 op in omega arith

      go : (b : Bool) → Says 4 (when b then unconditional_of (hi op) (lo op) else conditional_of (hi op) (lo op)) → op ⟨ 27 ‥ 26 ⟩ ≡ 3
      go true q = high (always_by_bits (hi op) (lo op) (subst (Says 4) (if_yes true _ _ refl) q))
      go false q = high (lasts_by_bits 4 refl refl refl refl refl refl refl (hi op) (lo op) (subst (Says 4) (if_no false _ _ refl) q)).0

  -- what can answer 3 or 11 has a condition and bits 27-25 of 000
  registers_only : (k : ℕ) → among k (0 ∷ []) ≡ false → among k (2 ∷ []) ≡ false → among k (0 ∷ 7 ∷ []) ≡ false → among k (0 ∷ 2 ∷ 7 ∷ []) ≡ false
      → among k (0 ∷ 2 ∷ []) ≡ false → among k (4 ∷ []) ≡ false → among k (0 ∷ 4 ∷ []) ≡ false → among k (1 ∷ []) ≡ false
      → Says k (family_of op) → (op ⟨ 31 ‥ 28 ⟩ ≢ 15) × (op ⟨ 27 ‥ 25 ⟩ ≡ 0) × Says k (register_space_of (hi op) (lo op))
  unfolding family_of
  registers_only k q0 q2 q07 q027 q02 q4 q04 q1 p =
      let c = later (Says k) (op ⟨ 31 ‥ 28 ⟩ == 15) (never (not_always k q0 q2 q07 q027 (hi op) (lo op) q4 q04)) p in
      let r = not_registers k q0 q2 q07 q027 (hi op) (lo op) q02 q4 q04 q1 c.1 in
      (eqb-false _ _ c.0, sym (bits_27_25 op) ∙ r.0, r.1)

  pub bkpt_only : Says 3 (family_of op) → IsBkpt op
  bkpt_only p =
      let r = registers_only 3 refl refl refl refl refl refl refl refl p in
      let b = stops_by_bits (hi op) (lo op) r.2 in
      let z : op ⟨ 27 ‥ 25 ⟩ ≡ 0 = r.1 in
      let t = both (hi op ⟨ 4 ‥ 3 ⟩ == 2) (not (hi op ⟨ 0 ⟩)) b.0 in
      let u : op ⟨ 24 ‥ 23 ⟩ ≡ 2 = sym (bits_24_23 op) ∙ eqb-true _ _ t.0 in
      (r.0, omega arith, sym (bit_20 op) ∙ not-true _ t.1, b.1)

  pub form_only : Says 11 (family_of op) → (op ⟨ 31 ‥ 28 ⟩ ≢ 15) × (op ⟨ 27 ‥ 25 ⟩ ≡ 0) × (op ⟨ 7 ⟩ ≡ true) × (op ⟨ 4 ⟩ ≡ true) × (op ⟨ 6 ‥ 5 ⟩ ≢ 0)
  form_only p =
      let r = registers_only 11 refl refl refl refl refl refl refl refl p in
      let b = forms_by_bits (hi op) (lo op) r.2 in
      let t = both (lo op ⟨ 3 ⟩) (lo op ⟨ 0 ⟩) b.0 in
      (r.0, r.1, sym (bit_7 op) ∙ t.0, sym (bit_4 op) ∙ t.1, λ e. b.1 (bits_6_5 op ∙ e))
