-- What an instruction that is reached answers.
use Rattle.std.specs.Prelude.{◌≡◌, refl, Bool, true, false, ◌&&◌, ◌||◌, ◌≢◌, ℕ, ◌+◌, ◌-◌, ◌*◌, ◌/◌, ◌%◌, ◌^◌, get_or, ◌==◌, None, Option, Some, Result}
use Rattle.std.proofs.Common.{sym, subst, ◌∙◌, get_or-set_same, set-set, eqb-true, ne_eqb}
use Rattle.std.proofs.Math.Path.{ap}
use Rattle.std.proofs.lemmas.Bool.{false≢true, eqb-false}
use mathlib.Core.List.{List, [], ◌∷◌}
use native.Mathlib.Omega.{arith}
use Rattle.std.proofs.Math.ListN.{set}
use Rattle.bits.specs.Fields.{◌⟨◌‥◌⟩}
use Rattle.decode.specs.declared.Family.{Family}
use Rattle.decode.specs.declared.Family.TheVariants as family
use Rattle.decode.specs.Families.{family_of}
use Rattle.cpu.specs.declared.Machine.{Machine}
use Rattle.cpu.specs.declared.Outcome.TheVariants as outcome
use Rattle.cpu.specs.declared.Answer.{Answer}
use Rattle.cpu.specs.declared.Answer.TheVariants as answer
use Rattle.cpu.specs.declared.Outcome.{Outcome}
use Rattle.cpu.specs.Outcomes.{own_of}
use Rattle.cpu.specs.With.{with_regs}
use Rattle.block.specs.UserBlock.{user_guarded_of, user_block_of}
use Rattle.transfer.specs.Transfers.{beside}
use Rattle.misc.specs.Stops.{swi_of, bkpt_of, coprocessor_of, coprocessor_move_of}
use Rattle.arm.specs.Turn.{seen_of, effect_of}
use Rattle.engine.specs.declared.Stepped.{Stepped}
use Rattle.engine.specs.Step.{settled_of, blocked_of, next_of, executed_of}
use Rattle.claims.specs.Laws.Choices.{both, so}
use Rattle.claims.specs.Demand1.{number_of, among, numbers_of, passes, IsSwi, IsBkpt, IsCoprocessor, HasR15, Answers}
use Rattle.claims.specs.Demand2.{lent, settled}
use Rattle.claims.specs.Laws.Families.{allows, told_effect, told_form}
use Rattle.claims.specs.Laws.Encodings.{swi_is, swi_only, bkpt_only, coprocessor_only, form_only}
use Rattle.claims.specs.Laws.Decoding.{tables}
use Rattle.claims.specs.Laws.Coprocessors.{move_stops, move_passes, register_moves, no_move}
use Rattle.claims.specs.Laws.Composition.{executed_passed, executed_failed}

-- ---- tests

pub wrong : {a b : ℕ} → (a == b) ≡ false → a ≢ b
wrong {a} {b} = eqb-false a b

-- ---- an outcome settled answers a number that its kind allows

told_user : (f : Option ℕ) (m : Machine) (at : ℕ) (l : List ℕ) (done : Machine × List ℕ) (ns : List ℕ) → among 0 ns ≡ true → among 7 ns ≡ true
    → (let x : Result Machine Answer × List ℕ = user_guarded_of f l done in among (number_of (blocked_of m at x.0 x.1).0.answer) ns ≡ true)
unfolding blocked_of user_guarded_of
told_user None m at l done ns z seven = z
told_user (Some address) m at l done ns z seven = seven

pub told_settled : (o : Outcome) (m : Machine) (at op : ℕ) (l : List ℕ) (ns : List ℕ) → allows o ns ≡ true
    → among (number_of (settled_of o m at op l).0.answer) ns ≡ true
unfolding settled_of user_block_of
told_settled outcome.Nothing m at op l ns e = e
told_settled (outcome.Flags n z c v) m at op l ns e = e
told_settled outcome.Sticky m at op l ns e = e
told_settled (outcome.Lanes ge) m at op l ns e = e
told_settled (outcome.Exchange t) m at op l ns e = e
told_settled (outcome.Tagged a) m at op l ns e = e
told_settled outcome.Untagged m at op l ns e = e
told_settled (outcome.Return to) m at op l ns e = e
told_settled outcome.Moves m at op l ns e = e
told_settled outcome.Block m at op l ns e = let b = both _ _ e in told_user _ m at l _ ns b.0 b.1
told_settled (outcome.Call number) m at op l ns e = e
told_settled (outcome.Stop answer) m at op l ns e = e

-- ---- lists of numbers

abbrev pub others : List ℕ
others = 0 ∷ 1 ∷ 2 ∷ 3 ∷ 4 ∷ 7 ∷ []

-- with 11, which a definition can answer and no opcode comes to
abbrev others_and_11 : List ℕ
others_and_11 = 0 ∷ 1 ∷ 2 ∷ 3 ∷ 4 ∷ 7 ∷ 11 ∷ []

-- every number of the one stands in the other
abbrev pub within : List ℕ → List ℕ → Bool
within [] ms = true
within (k ∷ ns) ms = among k ms && within ns ms

pub among_within : (n : ℕ) (ns ms : List ℕ) → within ns ms ≡ true → among n ns ≡ true → among n ms ≡ true
among_within n [] ms w e = absurd (false≢true e)
among_within n (k ∷ ns) ms w e = go (n == k) refl (among_within n ns ms (both (among k ms) (within ns ms) w).1) e
  where
    go : (b : Bool) → (n == k) ≡ b → (among n ns ≡ true → among n ms ≡ true) → (b || among n ns) ≡ true → among n ms ≡ true
    go true q rest f = rw (eqb-true n k q) (both (among k ms) (within ns ms) w).0
    go false q rest f = rest f

without_11 : (n : ℕ) → n ≢ 11 → among n others_and_11 ≡ true → among n others ≡ true
without_11 n h e = rw (ne_eqb n 11 h) at e

own_numbers : (f : Family) → within (numbers_of f) others_and_11 ≡ true
own_numbers family.DataProcessing = refl
own_numbers family.MultiplyShort = refl
own_numbers family.MultiplyLong = refl
own_numbers family.Halfword = refl
own_numbers family.Saturating = refl
own_numbers family.Swap = refl
own_numbers family.Exclusive = refl
own_numbers family.Extra = refl
own_numbers family.StatusMove = refl
own_numbers family.BranchExchange = refl
own_numbers family.CountZeros = refl
own_numbers family.Breakpoint = refl
own_numbers family.Single = refl
own_numbers family.Media = refl
own_numbers family.Block = refl
own_numbers family.Branch = refl
own_numbers family.Coprocessor = refl
own_numbers family.CoprocessorMove = refl
own_numbers family.Supervisor = refl
own_numbers family.Undefined = refl
own_numbers family.BranchLinkExchange = refl
own_numbers family.ClearExclusive = refl
own_numbers family.ChangeState = refl
own_numbers family.Preload = refl

-- ---- an instruction that is reached

module _ (m : Machine) (op : ℕ) (l : List ℕ) where
  abbrev pub answered : Answer
  answered = (executed_of m op l).0.answer

  abbrev answer_of : Stepped × List ℕ → Answer
  answer_of x = x.0.answer

  failed : passes m op ≡ false → answered ≡ answer.Done
  failed e = ap answer_of (executed_failed m op l e)

  -- what the definition of a family answers
  by_family : (f : Family) → passes m op ≡ true → family_of op ≡ f → executed_of m op l ≡ settled m op (effect_of f (lent m) op (seen_of m) l)
  by_family f e q = executed_passed m op l e ∙ ap (λ (f : Family). settled m op (effect_of f (lent m) op (seen_of m) l)) q

  told : (f : Family) (ns : List ℕ) → passes m op ≡ true → family_of op ≡ f
      → (let o = (effect_of f (lent m) op (seen_of m) l).0 in allows o ns) ≡ true → among (number_of answered) ns ≡ true
  told f ns e q t =
      let x = effect_of f (lent m) op (seen_of m) l in
      subst (λ (y : Stepped × List ℕ). among (number_of (answer_of y)) ns ≡ true) (sym (by_family f e q))
      (told_settled x.0 (with_regs m x.1) (next_of m) op x.2 ns t)

  passed : passes m op ≡ true → among (number_of answered) (numbers_of (family_of op)) ≡ true
  passed e = told (family_of op) (numbers_of (family_of op)) e refl (told_effect (family_of op) (lent m) op (seen_of m) l)

  called : passes m op ≡ true → IsSwi op → answered ≡ answer.Supervisor (op ⟨ 23 ‥ 0 ⟩)
  unfolding effect_of settled_of swi_of
  called e w = ap answer_of (by_family family.Supervisor e (swi_is op w))

  stopped : passes m op ≡ true → IsBkpt op → answered ≡ answer.Breakpoint (own_of (lent m)) (op ⟨ 19 ‥ 8 ⟩ * 16 + op ⟨ 3 ‥ 0 ⟩)
  unfolding effect_of settled_of bkpt_of
  stopped e (c, b, s, q) =
      let z : op ⟨ 27 ‥ 25 ⟩ ≡ 0 = omega arith in
      let t : op ⟨ 24 ‥ 23 ⟩ ≡ 2 = omega arith in
      ap answer_of (by_family family.Breakpoint e (((tables op).conditional c).bkpt z (t, s) q))

  -- r15 less 8 while the instruction executes is A
  pub own_address : HasR15 m → own_of (lent m) ≡ next_of m
  own_address (w, b) = rw (get_or-set_same m.regs 15 ((next_of m + 8) % 2 ^ 32) 0 w) (omega arith)

  -- either way of the condition
  by_condition : (P : Type 0) → (passes m op ≡ false → P) → (passes m op ≡ true → P) → P
  by_condition P otherwise then-so = go (passes m op) refl
    where
      go : (b : Bool) → passes m op ≡ b → P
      go false e = otherwise e
      go true e = then-so e

  -- an answer other than 0 is that of an instruction whose condition passes
  when_passed : (k : ℕ) → (k == 0) ≡ false → number_of answered ≡ k → (passes m op ≡ true) × (among k (numbers_of (family_of op)) ≡ true)
  when_passed k z n =
      by_condition ((passes m op ≡ true) × (among k (numbers_of (family_of op)) ≡ true))
      (λ e. absurd (eqb-false k 0 z (sym n ∙ ap number_of (failed e))))
      (λ e. (e, rw n at (passed e)))

  calls_only : number_of answered ≡ 1 → (passes m op ≡ true) × IsSwi op
  calls_only n = let p = when_passed 1 refl n in (p.0, swi_only op p.1)

  stops_only : number_of answered ≡ 3 → (passes m op ≡ true) × IsBkpt op
  stops_only n = let p = when_passed 3 refl n in (p.0, bkpt_only op p.1)

  -- coprocessors
  abbrev moved : Outcome × List ℕ → Answer
  moved x = answer_of (settled m op (beside x l))

  by_move : passes m op ≡ true → family_of op ≡ family.CoprocessorMove → answered ≡ moved (coprocessor_move_of (lent m) op)
  unfolding effect_of
  by_move e q = ap answer_of (by_family family.CoprocessorMove e q)

  enters : passes m op ≡ true → IsCoprocessor op → answered ≡ answer.Coprocessor op
  unfolding effect_of settled_of coprocessor_of
  enters e (t, s, u) =
      no_move op t s (answered ≡ answer.Coprocessor op)
      (λ q. ap answer_of (by_family family.Coprocessor e q))
      (λ f g. by_move e (register_moves op t s f g) ∙ ap moved (move_stops (lent m) op (u f g)))

  passes_over : passes m op ≡ true → family_of op ≡ family.CoprocessorMove → among (op ⟨ 11 ‥ 8 ⟩) (10 ∷ 11 ∷ 15 ∷ []) ≡ false → number_of answered ≡ 0
  unfolding settled_of
  passes_over e q f = ap number_of (by_move e q ∙ ap moved (move_passes (lent m) op f))

  enters_only : number_of answered ≡ 4 → (passes m op ≡ true) × IsCoprocessor op
  enters_only n = (e, (t, s, λ f g. so _ (λ w. wrong refl (sym n ∙ passes_over e (register_moves op t s f g) w))))
    where
      p : (passes m op ≡ true) × (among 4 (numbers_of (family_of op)) ≡ true)
      p = when_passed 4 refl n

      e : passes m op ≡ true
      e = p.0

      t : op ⟨ 27 ‥ 26 ⟩ ≡ 3
      t = coprocessor_only op p.1

      s : ¬ IsSwi op
      s w = false≢true (rw (swi_is op w) at p.1)

  -- no opcode decodes to an extra transfer with bits 6-5 both zero
  no_form : number_of answered ≢ 11
  no_form n =
      let p = when_passed 11 refl n in
      let (c, z, s, f, q) = form_only op p.1 in
      false≢true (rw n at (told family.Extra (0 ∷ 2 ∷ 7 ∷ []) p.0 (((tables op).conditional c).extra z s f q) (told_form (lent m) op (seen_of m) l q)))

  pub answers : Answers m op answered
  answers =
      record {
        failed = λ e. ap number_of (failed e);
        passed = passed;
        one = (calls_only, λ p. ap number_of (called p.0 p.1));
        one_value = λ n. let p = calls_only n in called p.0 p.1;
        three = (stops_only, λ p. ap number_of (stopped p.0 p.1));
        three_value = λ v n. let p = stops_only n in stopped p.0 p.1 ∙ ap (λ (a : ℕ). answer.Breakpoint a (op ⟨ 19 ‥ 8 ⟩ * 16 + op ⟨ 3 ‥ 0 ⟩)) (own_address v);
        four = (enters_only, λ p. ap number_of (enters p.0 p.1));
        four_value = λ n. let p = enters_only n in enters p.0 p.1;
      }

  -- what SWI leaves
  pub call_bytes : number_of answered ≡ 1 → (executed_of m op l).1 ≡ l
  unfolding effect_of settled_of swi_of
  call_bytes n =
      let p = calls_only n in ap (λ (y : Stepped × List ℕ). y.1) (by_family family.Supervisor p.0 (swi_is op p.1))

  pub call_machine : HasR15 m → number_of answered ≡ 1 → (executed_of m op l).0.machine ≡ with_regs m (set m.regs 15 ((next_of m + 4) % 2 ^ 32 / 4 * 4))
  unfolding effect_of settled_of swi_of
  call_machine (w, b) n =
      let p = calls_only n in
      let next : ((next_of m + 8) % 2 ^ 32 + (2 ^ 32 - 4)) % 2 ^ 32 ≡ (next_of m + 4) % 2 ^ 32 = omega arith in
      ap (λ (y : Stepped × List ℕ). y.0.machine) (by_family family.Supervisor p.0 (swi_is op p.1))
      ∙ ap (with_regs m)
      (set-set m.regs 15 ((next_of m + 8) % 2 ^ 32) ((get_or (lent m) 15 0 + (2 ^ 32 - 4)) % 2 ^ 32 / 4 * 4)
      ∙ ap (λ (a : ℕ). set m.regs 15 ((a + (2 ^ 32 - 4)) % 2 ^ 32 / 4 * 4)) (get_or-set_same m.regs 15 ((next_of m + 8) % 2 ^ 32) 0 w)
      ∙ ap (λ (a : ℕ). set m.regs 15 (a / 4 * 4)) next)

  pub own : among (number_of answered) others ≡ true
  own =
      by_condition (among (number_of answered) others ≡ true)
      (λ e. rw (failed e))
      (λ e. without_11 (number_of answered) no_form (among_within (number_of answered) (numbers_of (family_of op)) others_and_11 (own_numbers (family_of op)) (passed e)))
