-- The encodings of Demand2 hold: each row follows the tests of family_of.
use Rattle.std.specs.Prelude.{◌≡◌, Bool, not, ◌&&◌, ◌≢◌, ℕ, ◌/◌, ◌%◌, ◌^◌, ◌≤◌, ◌<◌, ◌==◌}
use Rattle.std.proofs.Math.Path.{refl}
use Rattle.std.proofs.Common.{sym, ap, ◌∙◌, lit≤}
use Rattle.std.proofs.Math.Bool.{true, false, and-false}
use native.Mathlib.Omega.{arith}
use borrow.Author.Tests.{ne_eqb, lt-ltb, le-ltb, eqb-true, eqb-false, not-true}
use Rattle.bits.specs.Cases.{when◌then◌else◌}
use Rattle.bits.specs.Fields.{◌⟨◌⟩, ◌⟨◌‥◌⟩}
use Rattle.decode.specs.declared.Family.TheVariants as family
use Rattle.decode.specs.Families.{compares_nothing, multiply_or_swap_of, miscellaneous_of, register_space_of, immediate_space_of, conditional_of, unconditional_of, family_of}
use Rattle.claims.specs.Laws.Choices.{not_both}
use Rattle.claims.specs.Demand2.{Miscellaneous, Encoded, EncodedAlways, Table}
use Rattle.claims.specs.Laws.Fields.{hi, lo, bits_27_25, bits_24_23, bits_23_21, bits_22_21, bits_6_5, bit_24, bit_23, bit_21, bit_20, bit_7, bit_4}
use Rattle.claims.specs.Laws.Encodings.{conditional, unconditional, swi_is}

module _ (op : ℕ) where
  compares_yes : Miscellaneous op → compares_nothing (hi op) ≡ true
  compares_yes (a, b) = rw (bits_24_23 op, a, bit_20 op, b)

  compares_no : ¬ Miscellaneous op → compares_nothing (hi op) ≡ false
  compares_no n =
      rw (bits_24_23 op, bit_20 op)
      (not_both (op ⟨ 24 ‥ 23 ⟩ == 2) (not (op ⟨ 20 ⟩)) (λ p. n (eqb-true _ _ p.0, not-true _ p.1)))

  -- ---- conditions 0 to 14
  module _ (c : op ⟨ 31 ‥ 28 ⟩ ≢ 15) where
    registers : op ⟨ 27 ‥ 25 ⟩ ≡ 0 → family_of op ≡ register_space_of (hi op) (lo op)
    unfolding conditional_of when◌then◌else◌
    registers e = rw (conditional op c, bits_27_25 op, e)

    immediates : op ⟨ 27 ‥ 25 ⟩ ≡ 1 → family_of op ≡ immediate_space_of (hi op)
    unfolding conditional_of when◌then◌else◌
    immediates e = rw (conditional op c, bits_27_25 op, e)

    -- bits 7 and 4 are not both set
    pub operations : op ⟨ 27 ‥ 25 ⟩ ≡ 0 → (op ⟨ 7 ⟩ && op ⟨ 4 ⟩) ≡ false → ¬ Miscellaneous op → family_of op ≡ family.DataProcessing
    unfolding register_space_of when◌then◌else◌
    operations e f n = rw (registers e, bit_7 op, bit_4 op, f, compares_no n)

    multiplies : op ⟨ 27 ‥ 25 ⟩ ≡ 0 → op ⟨ 7 ‥ 4 ⟩ ≡ 0b1001 → family_of op ≡ multiply_or_swap_of (hi op)
    unfolding register_space_of when◌then◌else◌
    multiplies e q = rw (registers e, q)

    multiply : op ⟨ 27 ‥ 22 ⟩ ≡ 0 → op ⟨ 7 ‥ 4 ⟩ ≡ 0b1001 → family_of op ≡ family.MultiplyShort
    unfolding multiply_or_swap_of when◌then◌else◌
    multiply e q =
        let z : op ⟨ 27 ‥ 25 ⟩ ≡ 0 = omega arith in
        let a : op / 2 ^ 24 % 2 ≡ 0 = omega arith in
        let b : op ⟨ 23 ‥ 21 ⟩ < 2 = omega arith in
        rw (multiplies z q, bit_24 op, a, bits_23_21 op, lt-ltb _ _ b)

    umaal : op ⟨ 27 ‥ 21 ⟩ ≡ 2 → op ⟨ 7 ‥ 4 ⟩ ≡ 0b1001 → family_of op ≡ family.MultiplyLong
    unfolding multiply_or_swap_of when◌then◌else◌
    umaal e q =
        let z : op ⟨ 27 ‥ 25 ⟩ ≡ 0 = omega arith in
        let a : op / 2 ^ 24 % 2 ≡ 0 = omega arith in
        let b : op ⟨ 23 ‥ 21 ⟩ ≡ 2 = omega arith in
        rw (multiplies z q, bit_24 op, a, bits_23_21 op, b)

    no_multiply : op ⟨ 27 ‥ 21 ⟩ ≡ 3 → op ⟨ 7 ‥ 4 ⟩ ≡ 0b1001 → family_of op ≡ family.Undefined
    unfolding multiply_or_swap_of when◌then◌else◌
    no_multiply e q =
        let z : op ⟨ 27 ‥ 25 ⟩ ≡ 0 = omega arith in
        let a : op / 2 ^ 24 % 2 ≡ 0 = omega arith in
        let b : op ⟨ 23 ‥ 21 ⟩ ≡ 3 = omega arith in
        rw (multiplies z q, bit_24 op, a, bits_23_21 op, b)

    multiply_long : op ⟨ 27 ‥ 23 ⟩ ≡ 1 → op ⟨ 7 ‥ 4 ⟩ ≡ 0b1001 → family_of op ≡ family.MultiplyLong
    unfolding multiply_or_swap_of when◌then◌else◌
    multiply_long e q =
        let z : op ⟨ 27 ‥ 25 ⟩ ≡ 0 = omega arith in
        let a : op / 2 ^ 24 % 2 ≡ 0 = omega arith in
        let b : 4 ≤ op ⟨ 23 ‥ 21 ⟩ = omega arith in
        rw (multiplies z q, bit_24 op, a, bits_23_21 op, le-ltb (op ⟨ 23 ‥ 21 ⟩) 2 (omega arith), ne_eqb (op ⟨ 23 ‥ 21 ⟩) 3 (λ h. omega arith))

    swap : op ⟨ 27 ‥ 23 ⟩ ≡ 2 → op ⟨ 7 ‥ 4 ⟩ ≡ 0b1001 → family_of op ≡ family.Swap
    unfolding multiply_or_swap_of when◌then◌else◌
    swap e q =
        let z : op ⟨ 27 ‥ 25 ⟩ ≡ 0 = omega arith in
        let a : op / 2 ^ 24 % 2 ≡ 1 = omega arith in
        let b : op / 2 ^ 23 % 2 ≡ 0 = omega arith in
        rw (multiplies z q, bit_24 op, a, bit_23 op, b)

    exclusive : op ⟨ 27 ‥ 23 ⟩ ≡ 3 → op ⟨ 7 ‥ 4 ⟩ ≡ 0b1001 → family_of op ≡ family.Exclusive
    unfolding multiply_or_swap_of when◌then◌else◌
    exclusive e q =
        let z : op ⟨ 27 ‥ 25 ⟩ ≡ 0 = omega arith in
        let a : op / 2 ^ 24 % 2 ≡ 1 = omega arith in
        let b : op / 2 ^ 23 % 2 ≡ 1 = omega arith in
        rw (multiplies z q, bit_24 op, a, bit_23 op, b)

    extra : op ⟨ 27 ‥ 25 ⟩ ≡ 0 → op ⟨ 7 ⟩ ≡ true → op ⟨ 4 ⟩ ≡ true → op ⟨ 6 ‥ 5 ⟩ ≢ 0 → family_of op ≡ family.Extra
    unfolding register_space_of when◌then◌else◌
    extra e s f n = rw (registers e, bit_7 op, s, bit_4 op, f, bits_6_5 op, ne_eqb _ _ n)

    -- the miscellaneous instructions
    miscellaneous : op ⟨ 27 ‥ 25 ⟩ ≡ 0 → (op ⟨ 7 ⟩ && op ⟨ 4 ⟩) ≡ false → Miscellaneous op → family_of op ≡ miscellaneous_of (hi op) (lo op)
    unfolding register_space_of when◌then◌else◌
    miscellaneous e f s = rw (registers e, bit_7 op, bit_4 op, f, compares_yes s)

    -- by bits 7-4, which have not both 7 and 4 set
    lower : (k : ℕ) → op ⟨ 27 ‥ 25 ⟩ ≡ 0 → (k ⟨ 3 ⟩ && k ⟨ 0 ⟩) ≡ false → Miscellaneous op → op ⟨ 7 ‥ 4 ⟩ ≡ k → family_of op ≡ miscellaneous_of (hi op) k
    lower k e f s q = rw (← q) (miscellaneous e (rw (← (bit_7 op), ← (bit_4 op), q) f) s)

    halfword : op ⟨ 27 ‥ 25 ⟩ ≡ 0 → Miscellaneous op → op ⟨ 7 ⟩ ≡ true → op ⟨ 4 ⟩ ≡ false → family_of op ≡ family.Halfword
    unfolding miscellaneous_of when◌then◌else◌
    halfword e s t f =
        let b : op / 2 ^ 7 % 2 ≡ 1 = eqb-true _ _ t in
        let h : 8 ≤ op ⟨ 7 ‥ 4 ⟩ = omega arith in
        let other : (k : ℕ) → k < 8 → (op ⟨ 7 ‥ 4 ⟩ == k) ≡ false = λ k g. ne_eqb (op ⟨ 7 ‥ 4 ⟩) k (λ q. omega arith) in
        rw (miscellaneous e (rw f (and-false (op ⟨ 7 ⟩))) s, other 0 (lit≤ tt), other 1 (lit≤ tt), other 3 (lit≤ tt), other 5 (lit≤ tt), other 7 (lit≤ tt), bit_7 op, t)

    bx : op ⟨ 27 ‥ 25 ⟩ ≡ 0 → Miscellaneous op → op ⟨ 22 ‥ 21 ⟩ ≢ 3 → op ⟨ 7 ‥ 4 ⟩ ≡ 1 → family_of op ≡ family.BranchExchange
    unfolding miscellaneous_of when◌then◌else◌
    bx e s n q = rw (lower 1 e refl s q, bits_22_21 op, ne_eqb _ _ n)

    clz : op ⟨ 27 ‥ 25 ⟩ ≡ 0 → Miscellaneous op → op ⟨ 22 ‥ 21 ⟩ ≡ 3 → op ⟨ 7 ‥ 4 ⟩ ≡ 1 → family_of op ≡ family.CountZeros
    unfolding miscellaneous_of when◌then◌else◌
    clz e s n q = rw (lower 1 e refl s q, bits_22_21 op, n)

    -- coprocessors, bits 27-24 of 1110
    operates : op ⟨ 27 ‥ 24 ⟩ ≡ 0b1110 → family_of op ≡ (when op ⟨ 4 ⟩ then family.CoprocessorMove else family.Coprocessor)
    unfolding conditional_of when◌then◌else◌
    operates e =
        let z : op ⟨ 27 ‥ 25 ⟩ ≡ 7 = omega arith in
        let a : op / 2 ^ 24 % 2 ≡ 0 = omega arith in
        rw (conditional op c, bits_27_25 op, z, bit_24 op, a, bit_4 op)

    encoded : Encoded op
    unfolding miscellaneous_of immediate_space_of conditional_of when◌then◌else◌
    encoded =
        record {
          data_processing_immediate = λ e n. rw (immediates e, compares_no n);
          data_processing_immediate_shift = λ e f n. operations e (rw f (and-false (op ⟨ 7 ⟩))) n;
          data_processing_register_shift = λ e s f n. operations e (rw s) n;
          multiply = multiply;
          umaal = umaal;
          multiply_long = multiply_long;
          swap = swap;
          exclusive = exclusive;
          extra = extra;
          status_move = λ e s q. lower 0 e refl s q;
          status_move_immediate = λ e s b. rw (immediates e, compares_yes s, bit_21 op, b);
          bx = bx;
          clz = clz;
          bxj = λ e s q. lower 2 e refl s q;
          blx = λ e s q. lower 3 e refl s q;
          saturating = λ e s q. lower 5 e refl s q;
          bkpt = λ e s q. lower 7 e refl s q;
          halfword = halfword;
          single_immediate = λ e. rw (conditional op c, bits_27_25 op, e);
          single_register = λ e f. rw (conditional op c, bits_27_25 op, e, bit_4 op, f);
          media = λ e f. rw (conditional op c, bits_27_25 op, e, bit_4 op, f);
          block = λ e. rw (conditional op c, bits_27_25 op, e);
          branch = λ e. rw (conditional op c, bits_27_25 op, e);
          coprocessor_transfer = λ e. rw (conditional op c, bits_27_25 op, e);
          coprocessor_operation = λ e f. rw (operates e, f);
          coprocessor_move = λ e f. rw (operates e, f);
          swi = λ e. swi_is op (c, e);
          no_multiply = no_multiply;
          no_immediate = λ e s b. rw (immediates e, compares_yes s, bit_21 op, b);
        }

  -- ---- condition 15
  module _ (c : op ⟨ 31 ‥ 28 ⟩ ≡ 15) where
    -- CLREX has bits 27-25 of 010
    not_clear : (k : ℕ) → op ⟨ 27 ‥ 25 ⟩ ≡ k → (k == 2) ≡ false → (op ⟨ 27 ‥ 20 ⟩ == 0x57) ≡ false
    not_clear k e n = ne_eqb _ _ (λ (h : op ⟨ 27 ‥ 20 ⟩ ≡ 0x57). eqb-false k 2 n (sym e ∙ sym (bits_27_25 op) ∙ ap (λ (x : ℕ). x ⟨ 7 ‥ 5 ⟩) h))

    preload : op ⟨ 27 ‥ 26 ⟩ ≡ 1 → ((op ⟨ 27 ‥ 20 ⟩ == 0x57) && (op ⟨ 7 ‥ 4 ⟩ == 1)) ≡ false → family_of op ≡ family.Preload
    unfolding unconditional_of when◌then◌else◌
    preload e n = go (op ⟨ 27 ‥ 25 ⟩ == 2) refl
      where
        go : (b : Bool) → (op ⟨ 27 ‥ 25 ⟩ == 2) ≡ b → family_of op ≡ family.Preload
        go true t = rw (unconditional op c, bits_27_25 op, eqb-true (op ⟨ 27 ‥ 25 ⟩) 2 t, n)
        go false t =
            let m = eqb-false (op ⟨ 27 ‥ 25 ⟩) 2 t in
            let three : op ⟨ 27 ‥ 25 ⟩ ≡ 3 = omega arith in
            rw (unconditional op c, bits_27_25 op, three, n)

    always : EncodedAlways op
    unfolding unconditional_of when◌then◌else◌
    always =
        record {
          blx = λ e. rw (unconditional op c, bits_27_25 op, e);
          clrex = λ h q. rw (unconditional op c, h, q);
          cps = λ e. rw (unconditional op c, bits_27_25 op, e, not_clear 0 e refl);
          pld = λ e n. preload e (not_both _ _ (λ p. n (eqb-true _ _ p.0, eqb-true _ _ p.1)));
          coprocessor_transfer = λ e. rw (unconditional op c, bits_27_25 op, e, not_clear 6 e refl);
          coprocessor_operation = λ e f. rw (unconditional op c, bits_27_25 op, e, not_clear 7 e refl, bit_4 op, f);
          coprocessor_move = λ e f. rw (unconditional op c, bits_27_25 op, e, not_clear 7 e refl, bit_4 op, f);
          undefined = λ e. rw (unconditional op c, bits_27_25 op, e, not_clear 4 e refl);
          no_instruction = λ e. rw (unconditional op c, bits_27_25 op, e, not_clear 1 e refl);
        }

pub tables : (op : ℕ) → Table op
tables op = record { conditional = encoded op; always = always op }
