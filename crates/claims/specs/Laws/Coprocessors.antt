-- Answer 4: which opcodes are a coprocessor's.
use Rattle.std.specs.Prelude.{◌≡◌, refl, Bool, true, false, ◌||◌, List, [], ◌∷◌, ◌≢◌, ℕ, ◌+◌, ◌*◌, ◌/◌, ◌%◌, ◌^◌, ◌==◌}
use Rattle.std.proofs.Common.{◌∙◌, arith, eqb-true}
use Rattle.std.proofs.lemmas.Bool.{eqb-false}
use Rattle.bits.specs.Cases.{if_yes, if_no}
use Rattle.bits.specs.Fields.{◌⟨◌⟩, ◌⟨◌‥◌⟩}
use Rattle.decode.specs.declared.Family.TheVariants as family
use Rattle.decode.specs.Families.{family_of}
use Rattle.cpu.specs.Outcomes.{done_of}
use Rattle.misc.specs.Stops.{coprocessor_of, coprocessor_move_of}
use Rattle.claims.specs.Demand1.{among, IsSwi}
use Rattle.claims.specs.Laws.Decoding.{tables}

-- the numbers of a register move that answers 4, as its definition tests them
test_same : (a b c : Bool) → (a || b || c) ≡ (a || (b || (c || false)))
test_same true b c = refl
test_same false true c = refl
test_same false false true = refl
test_same false false false = refl

module _ (regs : List ℕ) (op : ℕ) where
  abbrev numbered : Bool
  numbered = among (op ⟨ 11 ‥ 8 ⟩) (10 ∷ 11 ∷ 15 ∷ [])

  tested : ((op ⟨ 11 ‥ 8 ⟩ == 10) || (op ⟨ 11 ‥ 8 ⟩ == 11) || (op ⟨ 11 ‥ 8 ⟩ == 15)) ≡ numbered
  tested = test_same (op ⟨ 11 ‥ 8 ⟩ == 10) (op ⟨ 11 ‥ 8 ⟩ == 11) (op ⟨ 11 ‥ 8 ⟩ == 15)

  pub move_stops : numbered ≡ true → coprocessor_move_of regs op ≡ coprocessor_of regs op
  unfolding coprocessor_move_of
  move_stops e = if_yes _ _ _ (tested ∙ e)

  pub move_passes : numbered ≡ false → coprocessor_move_of regs op ≡ done_of regs
  unfolding coprocessor_move_of
  move_passes e = if_no _ _ _ (tested ∙ e)

-- bits 27-25 by bits 27-26 and bit 25
spaces : (op : ℕ) → op ⟨ 27 ‥ 25 ⟩ ≡ op ⟨ 27 ‥ 26 ⟩ * 2 + op / 2 ^ 25 % 2
spaces op = let e : op / 2 ^ 26 ≡ op / 2 ^ 25 / 2 = omega arith in rw e (low (op / 2 ^ 25))
  where
    low : (x : ℕ) → x % 8 ≡ x / 2 % 4 * 2 + x % 2
    low x = omega arith

module _ (op : ℕ) (t : op ⟨ 27 ‥ 26 ⟩ ≡ 3) (n : ¬ IsSwi op) where
  by_condition : (P : Type 0) → (op ⟨ 31 ‥ 28 ⟩ ≡ 15 → P) → (op ⟨ 31 ‥ 28 ⟩ ≢ 15 → P) → P
  by_condition P p q = go (op ⟨ 31 ‥ 28 ⟩ == 15) refl
    where
      go : (b : Bool) → (op ⟨ 31 ‥ 28 ⟩ == 15) ≡ b → P
      go true e = p (eqb-true _ _ e)
      go false e = q (eqb-false _ _ e)

  -- with bit 25 clear, a transfer
  transfers : op ⟨ 25 ⟩ ≡ false → family_of op ≡ family.Coprocessor
  transfers f =
      let m = eqb-false (op / 2 ^ 25 % 2) 1 f in
      let six : op ⟨ 27 ‥ 25 ⟩ ≡ 6 = spaces op ∙ rw t (omega arith) in
      by_condition (family_of op ≡ family.Coprocessor)
      (λ c. ((tables op).always c).coprocessor_transfer six)
      (λ c. ((tables op).conditional c).coprocessor_transfer six)

  module _ (f : op ⟨ 25 ⟩ ≡ true) where
    seven : op ⟨ 27 ‥ 25 ⟩ ≡ 7
    seven = spaces op ∙ rw (t, eqb-true (op / 2 ^ 25 % 2) 1 f)

    -- no SWI
    fourteen : op ⟨ 31 ‥ 28 ⟩ ≢ 15 → op ⟨ 27 ‥ 24 ⟩ ≡ 14
    fourteen c = let s = seven in let m : op ⟨ 27 ‥ 24 ⟩ ≢ 15 = λ e. n (c, e) in omega arith

    operations : op ⟨ 4 ⟩ ≡ false → family_of op ≡ family.Coprocessor
    operations g =
        by_condition (family_of op ≡ family.Coprocessor)
        (λ c. ((tables op).always c).coprocessor_operation seven g)
        (λ c. ((tables op).conditional c).coprocessor_operation (fourteen c) g)

    pub register_moves : op ⟨ 4 ⟩ ≡ true → family_of op ≡ family.CoprocessorMove
    register_moves g =
        by_condition (family_of op ≡ family.CoprocessorMove)
        (λ c. ((tables op).always c).coprocessor_move seven g)
        (λ c. ((tables op).conditional c).coprocessor_move (fourteen c) g)

  -- what is no register move answers 4 at once
  pub no_move : (P : Type 0) → (family_of op ≡ family.Coprocessor → P) → (op ⟨ 25 ⟩ ≡ true → op ⟨ 4 ⟩ ≡ true → P) → P
  no_move P p q = go (op ⟨ 25 ⟩) (op ⟨ 4 ⟩) refl refl
    where
      go : (a b : Bool) → op ⟨ 25 ⟩ ≡ a → op ⟨ 4 ⟩ ≡ b → P
      go false b e f = p (transfers e)
      go true false e f = p (operations e f)
      go true true e f = q e f
