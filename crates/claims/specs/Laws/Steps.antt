-- What a step answers, and in which order.
use Rattle.std.specs.Prelude.{◌≡◌, Bool, List, [], ◌∷◌, ◌↔◌, ◌≢◌, ℕ, ◌+◌, ◌%◌, ◌≤◌, ◌==◌}
use Rattle.std.proofs.Math.Path.{refl}
use Rattle.std.proofs.Common.{sym, ap, subst, ◌∙◌, true≢false, ltb-true, lt-ltb, le-ltb, eqb-true, eq-eqb, ne_eqb}
use Rattle.std.proofs.Math.Bool.{true, false, false≢true}
use mathlib.Core.Logic.Iff.{rfl}
use Rattle.std.proofs.Math.ListN.{length}
use Rattle.bits.specs.Cases.{when◌then◌else◌, if_yes, if_no, if_both, ◌<?◌}
use Rattle.memory.specs.Bytes.{word_at}
use Rattle.cpu.specs.declared.Machine.{Machine}
use Rattle.cpu.specs.declared.Answer.{Answer}
use Rattle.cpu.specs.declared.Answer.TheVariants as answer
use Rattle.cpu.specs.Answers.{bad_of, is_done, is_call, refuses}
use Rattle.engine.specs.declared.Stepped.{Stepped}
use Rattle.engine.specs.Step.{stepped, next_of, executed_of, fetches, taken_of, given_of, gated_of, step_of, step_with_of}
use Rattle.cpu.specs.Laws.Fits.{good_fits, fits_good}
use Rattle.engine.specs.Laws.Fetch.{fetches_inside}
use Rattle.engine.specs.Laws.AsBefore.{AsBefore, step_as_before, given_as_before}
use Rattle.claims.specs.Demand1.{number_of, among, InOrder, Answers, Answered, TooLong, Bad, InThumb, Unfetched, Reached, StepAnswered, GivenAnswered}
use Rattle.claims.specs.Laws.Choices.{both, not_so, so}
use Rattle.claims.specs.Laws.Instructions.{wrong, others, among_within, answered, answers, call_bytes, call_machine, own}

-- ---- the order, by the tests of the gate, of T and of the fetch

-- a number of the instruction's own is none of the gate's
own_not : {n : ℕ} (k : ℕ) → among n others ≡ true → among k others ≡ false → n ≢ k
own_not k e f h = false≢true (sym f ∙ (rw h at e))

-- both sides hold, or neither
pub agree : {P Q : Type 0} → P → Q → P ↔ Q
agree p q = (λ _. q, λ _. p)

pub neither : {P Q : Type 0} → ¬ P → ¬ Q → P ↔ Q
neither p q = (λ z. absurd (p z), λ z. absurd (q z))

module _ {long bad thumb unfetched : Type 0} (m : Machine) (l : List ℕ) (e : Stepped × List ℕ) (at : ℕ) where
  in_order : (a b c d : Bool) → long ↔ (a ≡ true) → bad ↔ (b ≡ true) → thumb ↔ (c ≡ true) → unfetched ↔ (d ≡ false)
      → among (number_of e.0.answer) others ≡ true
      → InOrder long bad thumb unfetched
      (number_of (when a then (stepped m answer.TooLong, l) else when b then (stepped m answer.BadState, l) else when c then (stepped m answer.Thumb, l) else when d then e else (stepped m (answer.Fetch at), l)).0.answer)
  unfolding when◌then◌else◌
  in_order true b c d ha hb hc hd o =
      let A = ha.1 refl in
      record {
        nine = agree refl A;
        eight = neither (wrong refl) (λ p. p.0 A);
        five = neither (wrong refl) (λ p. p.0 A);
        six = neither (wrong refl) (λ p. p.0 A);
        others = neither false≢true (λ p. p.0 A);
      }
  in_order false true c d ha hb hc hd o =
      let A : ¬ long = λ p. false≢true (ha.0 p) in
      let B = hb.1 refl in
      record {
        nine = neither (wrong refl) A;
        eight = agree refl (A, B);
        five = neither (wrong refl) (λ p. p.1 B);
        six = neither (wrong refl) (λ p. p.1 B);
        others = neither false≢true (λ p. p.1 B);
      }
  in_order false false true d ha hb hc hd o =
      let A : ¬ long = λ p. false≢true (ha.0 p) in
      let B : ¬ bad = λ p. false≢true (hb.0 p) in
      let C = hc.1 refl in
      record {
        nine = neither (wrong refl) A;
        eight = neither (wrong refl) (λ p. B p.1);
        five = agree refl (A, B, C);
        six = neither (wrong refl) (λ p. p.2 C);
        others = neither false≢true (λ p. p.2 C);
      }
  in_order false false false d ha hb hc hd o = last d hd
    where
      A : ¬ long
      A p = false≢true (ha.0 p)

      B : ¬ bad
      B p = false≢true (hb.0 p)

      C : ¬ thumb
      C p = false≢true (hc.0 p)

      last : (d : Bool) → unfetched ↔ (d ≡ false) → InOrder long bad thumb unfetched (number_of (when d then e else (stepped m (answer.Fetch at), l)).0.answer)
      last false hd =
          let D = hd.1 refl in
          record {
            nine = neither (wrong refl) A;
            eight = neither (wrong refl) (λ p. B p.1);
            five = neither (wrong refl) (λ p. C p.2);
            six = agree refl (A, B, C, D);
            others = neither false≢true (λ p. p.3 D);
          }
      last true hd =
          let D : ¬ unfetched = λ p. true≢false (hd.0 p) in
          record {
            nine = neither (own_not 9 o refl) A;
            eight = neither (own_not 8 o refl) (λ p. B p.1);
            five = neither (own_not 5 o refl) (λ p. C p.2);
            six = neither (own_not 6 o refl) (λ p. D p.3);
            others = agree o (A, B, C, D);
          }

-- ---- what the tests mean

pub long_test : (l : List ℕ) → TooLong l ↔ ((65536 <? length l) ≡ true)
long_test l = (lt-ltb _ _, ltb-true _ _)

pub bad_test : (m : Machine) → Bad m ↔ (bad_of m ≡ true)
bad_test m = (λ b. go (bad_of m) refl b, λ e f. false≢true (sym (fits_good m f) ∙ e))
  where
    go : (b : Bool) → bad_of m ≡ b → Bad m → b ≡ true
    go true e b = refl
    go false e b = absurd (b (good_fits m e))

fetch_test : (m : Machine) (l : List ℕ) → Unfetched m l ↔ (fetches l (next_of m) ≡ false)
unfolding fetches
fetch_test m l = (λ u. go (fetches l (next_of m)) refl u, λ e p. false≢true (sym e ∙ holds p))
  where
    holds : (next_of m % 4 ≡ 0) × (next_of m + 4 ≤ length l) → fetches l (next_of m) ≡ true
    holds p = rw (eq-eqb _ _ p.0, le-ltb _ _ p.1)

    inside : fetches l (next_of m) ≡ true → (next_of m % 4 ≡ 0) × (next_of m + 4 ≤ length l)
    inside e = (eqb-true _ _ (both _ _ e).0, fetches_inside l (next_of m) e)

    go : (b : Bool) → fetches l (next_of m) ≡ b → Unfetched m l → b ≡ false
    go true e u = absurd (u (inside e))
    go false e u = refl

-- ---- both steps

abbrev pub all : List ℕ
all = 0 ∷ 1 ∷ 2 ∷ 3 ∷ 4 ∷ 5 ∷ 6 ∷ 7 ∷ 8 ∷ 9 ∷ []

abbrev Numbered : Stepped × List ℕ → Type 0
Numbered x = among (number_of x.0.answer) all ≡ true

numbered : (m : Machine) (op : ℕ) (l : List ℕ) → Numbered (executed_of m op l)
numbered m op l = among_within (number_of (answered m op l)) others all refl (own m op l)

pub done_by_number : (a : Answer) → is_done a ≡ (number_of a == 0)
done_by_number answer.Done = refl
done_by_number (answer.Supervisor n) = refl
done_by_number (answer.Undefined a b) = refl
done_by_number (answer.Breakpoint a b) = refl
done_by_number (answer.Coprocessor a) = refl
done_by_number answer.Thumb = refl
done_by_number (answer.Fetch a) = refl
done_by_number (answer.Bus a) = refl
done_by_number answer.BadState = refl
done_by_number answer.TooLong = refl
done_by_number answer.Timeout = refl
done_by_number (answer.TransferForm a) = refl

pub call_by_number : (a : Answer) → is_call a ≡ (number_of a == 1)
call_by_number answer.Done = refl
call_by_number (answer.Supervisor n) = refl
call_by_number (answer.Undefined a b) = refl
call_by_number (answer.Breakpoint a b) = refl
call_by_number (answer.Coprocessor a) = refl
call_by_number answer.Thumb = refl
call_by_number (answer.Fetch a) = refl
call_by_number (answer.Bus a) = refl
call_by_number answer.BadState = refl
call_by_number answer.TooLong = refl
call_by_number answer.Timeout = refl
call_by_number (answer.TransferForm a) = refl

refuses_by_number : (a : Answer) → number_of a ≢ 0 → number_of a ≢ 1 → refuses a ≡ true
refuses_by_number a z o = rw (done_by_number a ∙ ne_eqb _ _ z, call_by_number a ∙ ne_eqb _ _ o)

module _ (m : Machine) (l : List ℕ) where
  step_numbered : Numbered (step_of m l)
  unfolding step_of taken_of gated_of
  step_numbered =
      if_both Numbered _ refl
      (if_both Numbered _ refl (if_both Numbered _ refl (if_both Numbered _ (numbered m (word_at l (next_of m)) l) refl)))

  -- 6 comes with A
  abbrev Sixes : Stepped × List ℕ → Type 0
  Sixes x = number_of x.0.answer ≡ 6 → x.0.answer ≡ answer.Fetch (next_of m)

  executed_six : (op : ℕ) → Sixes (executed_of m op l)
  executed_six op e = absurd (own_not 6 (own m op l) refl e)

  step_six : Sixes (step_of m l)
  unfolding step_of taken_of gated_of
  step_six =
      if_both Sixes _ (λ e. absurd (wrong refl e))
      (if_both Sixes _ (λ e. absurd (wrong refl e))
      (if_both Sixes _ (λ e. absurd (wrong refl e)) (if_both Sixes _ (executed_six (word_at l (next_of m))) (λ _. refl))))

  given_six : (op : ℕ) → Sixes (step_with_of m op l)
  unfolding step_with_of given_of gated_of
  given_six op =
      if_both Sixes _ (λ e. absurd (wrong refl e))
      (if_both Sixes _ (λ e. absurd (wrong refl e)) (if_both Sixes _ (λ e. absurd (wrong refl e)) (executed_six op)))

  given_numbered : (op : ℕ) → Numbered (step_with_of m op l)
  unfolding step_with_of given_of gated_of
  given_numbered op = if_both Numbered _ refl (if_both Numbered _ refl (if_both Numbered _ refl (numbered m op l)))

  -- past the gate
  open_gate : (x : Stepped × List ℕ) → ¬ TooLong l → ¬ Bad m → gated_of m l x ≡ x
  unfolding gated_of
  open_gate x a b =
      if_no _ _ _ (not_so (65536 <? length l) (λ e. a ((long_test l).1 e)))
      ∙ if_no _ _ _ (not_so (bad_of m) (λ e. b ((bad_test m).1 e)))

  taken_is : ¬ InThumb m → ¬ Unfetched m l → taken_of m l ≡ executed_of m (word_at l (next_of m)) l
  unfolding taken_of
  taken_is c d =
      if_no _ _ _ (not_so m.cpsr.t c)
      ∙ if_yes _ _ _ (so (fetches l (next_of m)) (λ e. d ((fetch_test m l).1 e)))

  given_is : (op : ℕ) → ¬ InThumb m → given_of m op l ≡ executed_of m op l
  unfolding given_of
  given_is op c = if_no _ _ _ (not_so m.cpsr.t c)

  pub step_is : Reached (Unfetched m l) m l → step_of m l ≡ executed_of m (word_at l (next_of m)) l
  unfolding step_of
  step_is (a, b, c, d) = open_gate _ a b ∙ taken_is c d

  pub step_with_is : (op : ℕ) → Reached ⊥ m l → step_with_of m op l ≡ executed_of m op l
  unfolding step_with_of
  step_with_is op (a, b, c, d) = open_gate _ a b ∙ given_is op c

  step_order : InOrder (TooLong l) (Bad m) (InThumb m) (Unfetched m l) (number_of (step_of m l).0.answer)
  unfolding step_of taken_of gated_of
  step_order =
      let op = word_at l (next_of m) in
      in_order m l (executed_of m op l) (next_of m) (65536 <? length l) (bad_of m) m.cpsr.t (fetches l (next_of m))
      (long_test l) (bad_test m) rfl (fetch_test m l) (own m op l)

  given_order : (op : ℕ) → InOrder (TooLong l) (Bad m) (InThumb m) ⊥ (number_of (step_with_of m op l).0.answer)
  unfolding step_with_of given_of gated_of when◌then◌else◌
  given_order op =
      in_order m l (executed_of m op l) 0 (65536 <? length l) (bad_of m) m.cpsr.t true
      (long_test l) (bad_test m) rfl (neither (λ z. z) true≢false) (own m op l)

  -- a step x that executes op where it is reached
  module _ (unfetched : Type 0) (op : ℕ) (x : Stepped × List ℕ) (order : InOrder (TooLong l) (Bad m) (InThumb m) unfetched (number_of x.0.answer))
      (is : Reached unfetched m l → x ≡ executed_of m op l) where
    -- one that answers 1 has reached it
    called_there : number_of x.0.answer ≡ 1 → (x ≡ executed_of m op l) × (number_of (answered m op l) ≡ 1)
    called_there n =
        let e = is (order.others.0 (rw n)) in
        (e, ap (λ (y : Stepped × List ℕ). number_of y.0.answer) (sym e) ∙ n)

    assembled : Numbered x → Sixes x → AsBefore m l x → Answered unfetched op m l x
    assembled number six kept =
        record {
          number = number;
          order = order;
          six_value = six;
          instruction = λ r. subst (λ (y : Stepped × List ℕ). Answers m op y.0.answer) (sym (is r)) (answers m op l);
          called_machine = λ v n. let c = called_there n in ap (λ (y : Stepped × List ℕ). y.0.machine) c.0 ∙ call_machine m op l v c.1;
          called_bytes = λ n. let c = called_there n in ap (λ (y : Stepped × List ℕ). y.1) c.0 ∙ call_bytes m op l c.1;
          machine = λ z o. kept.machine (refuses_by_number x.0.answer z o);
          bytes = λ z o. kept.bytes (refuses_by_number x.0.answer z o);
        }

  pub step_answered : StepAnswered m l (step_of m l)
  step_answered =
      assembled (Unfetched m l) (word_at l (next_of m)) (step_of m l) step_order step_is step_numbered step_six (step_as_before m l)

  pub given_answered : (op : ℕ) → GivenAnswered m op l (step_with_of m op l)
  given_answered op =
      assembled ⊥ op (step_with_of m op l) (given_order op) (step_with_is op) (given_numbered op) (given_six op) (given_as_before m l op)
