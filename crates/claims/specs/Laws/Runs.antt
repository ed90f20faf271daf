-- A run is its single steps.
use Rattle.std.specs.Prelude.{◌≡◌, Bool, ◌||◌, List, [], ◌∷◌, ◌↔◌, ◌≢◌, length, ◌==◌}
use Rattle.std.proofs.Math.Path.{refl}
use Rattle.std.proofs.Common.{sym, ap, subst, ◌∙◌, arith}
use Rattle.std.proofs.Math.Bool.{true, false, false≢true}
use Prim.Native.Nat.{ℕ, zero, suc, ◌+◌, ◌≤◌}
use borrow.Author.Tests.{eqb-true, eqb-false, ne_eqb}
use Rattle.bits.specs.Cases.{when◌then◌else◌, ◌<?◌}
use Rattle.bits.specs.Fields.{bit_of}
use Rattle.cpu.specs.declared.Machine.{Machine}
use Rattle.cpu.specs.declared.Answer.{Answer}
use Rattle.cpu.specs.declared.Answer.TheVariants as answer
use Rattle.cpu.specs.Answers.{bad_of, is_done, is_call}
use Rattle.engine.specs.declared.Finished.{Finished}
use Rattle.engine.specs.Step.{stepped, gated_of, step_of}
use Rattle.engine.specs.Run.{ended_of, go_of, run_of}
use Rattle.engine.specs.Laws.Kept.{step_ge_kept}
use Rattle.claims.specs.Demand1.{number_of, among, TooLong, Bad, after, Quiet, Ends, at_budget, at_call, at_refusal, RunKeeps}
use Rattle.claims.specs.Laws.Choices.{not_so}
use Rattle.claims.specs.Laws.Instructions.{wrong, among_within}
use Rattle.claims.specs.Laws.Steps.{agree, neither, all, long_test, bad_test, done_by_number, call_by_number, step_answered}
use Rattle.claims.specs.Laws.Lengths.{length_step}

abbrev ending : List ℕ
ending = 1 ∷ 2 ∷ 3 ∷ 4 ∷ 5 ∷ 6 ∷ 7 ∷ 8 ∷ 9 ∷ 10 ∷ []

-- n steps are left, k were counted, and c more are
record Going (n k : ℕ) (m : Machine) (l : List ℕ) (x : Finished × List ℕ) : Type 0 where
  c : ℕ
  counted : x.0.count ≡ k + c
  machine : x.0.machine ≡ (after c m l).0
  bytes : x.1 ≡ (after c m l).1
  within : c ≤ n
  ends : Ends m l n c x.0.answer
  number : among (number_of x.0.answer) ending ≡ true
  nine : (number_of x.0.answer ≡ 9) ↔ TooLong l
  eight : (number_of x.0.answer ≡ 8) ↔ ((¬ TooLong l) × Bad m)
  ten : (number_of x.0.answer ≡ 10) ↔ ((¬ TooLong l) × (¬ Bad m) × Quiet n m l)

quiet_none : (m : Machine) (l : List ℕ) → Quiet 0 m l
quiet_none m l i h = absurd (omega arith)

-- ---- no step is left

none_left : (k : ℕ) (m : Machine) (l : List ℕ) (a b : Bool) → TooLong l ↔ (a ≡ true) → Bad m ↔ (b ≡ true)
    → Going 0 k m l (ended_of k (when a then (stepped m answer.TooLong, l) else when b then (stepped m answer.BadState, l) else (stepped m answer.Timeout, l)))
unfolding when◌then◌else◌ after
none_left k m l true b ha hb =
    let A = ha.1 refl in
    record {
      c = 0;
      counted = omega arith;
      machine = refl;
      bytes = refl;
      within = omega arith;
      ends = at_budget refl (quiet_none m l) refl;
      number = refl;
      nine = agree refl A;
      eight = neither (wrong refl) (λ p. p.0 A);
      ten = neither (wrong refl) (λ p. p.0 A);
    }
none_left k m l false true ha hb =
    let A : ¬ TooLong l = λ p. false≢true (ha.0 p) in
    let B = hb.1 refl in
    record {
      c = 0;
      counted = omega arith;
      machine = refl;
      bytes = refl;
      within = omega arith;
      ends = at_budget refl (quiet_none m l) refl;
      number = refl;
      nine = neither (wrong refl) A;
      eight = agree refl (A, B);
      ten = neither (wrong refl) (λ p. p.1 B);
    }
none_left k m l false false ha hb =
    let A : ¬ TooLong l = λ p. false≢true (ha.0 p) in
    let B : ¬ Bad m = λ p. false≢true (hb.0 p) in
    record {
      c = 0;
      counted = omega arith;
      machine = refl;
      bytes = refl;
      within = omega arith;
      ends = at_budget refl (quiet_none m l) refl;
      number = refl;
      nine = neither (wrong refl) A;
      eight = neither (wrong refl) (λ p. B p.1);
      ten = agree refl (A, B, quiet_none m l);
    }

-- ---- a step

module _ (m : Machine) (l : List ℕ) where
  abbrev next : Machine
  next = (step_of m l).0.machine

  abbrev left : List ℕ
  left = (step_of m l).1

  abbrev said : Answer
  said = (step_of m l).0.answer

  quiet_more : {c : ℕ} → number_of said ≡ 0 → Quiet c next left → Quiet (suc c) m l
  unfolding after
  quiet_more e q zero h = e
  quiet_more e q (suc i) h = q i (omega arith)

  quiet_less : {c : ℕ} → Quiet (suc c) m l → Quiet c next left
  unfolding after
  quiet_less q i h = q (suc i) (omega arith)

  -- one that answers 0: the rest goes on from what it left
  ends_more : {n c : ℕ} {a : Answer} → number_of said ≡ 0 → Ends next left n c a → Ends m l (suc n) (suc c) a
  unfolding after
  ends_more e (at_budget p q r) = at_budget (ap suc p) (quiet_more e q) r
  ends_more e (at_call j p h q w o) = at_call (suc j) (ap suc p) (omega arith) (quiet_more e q) w o
  ends_more e (at_refusal h q w z o) = at_refusal (omega arith) (quiet_more e q) w z o

  more : (n k : ℕ) (x : Finished × List ℕ) → number_of said ≡ 0 → Going n (k + 1) next left x → Going (suc n) k m l x
  unfolding after
  more n k x e g =
      let open-to = (step_answered m l).order.others.0 (rw e) in
      let A : ¬ TooLong l = open-to.0 in
      let B : ¬ Bad m = open-to.1 in
      let A' : ¬ TooLong left = rw (length_step m l) A in
      let B' : ¬ Bad next = λ b. false≢true (sym (step_ge_kept m l (not_so (bad_of m) (λ t. B ((bad_test m).1 t)))) ∙ (bad_test next).0 b) in
      let counts : x.0.count ≡ k + 1 + g.c = g.counted in
      let inside : g.c ≤ n = g.within in
      record {
        c = suc g.c;
        counted = omega arith;
        machine = g.machine;
        bytes = g.bytes;
        within = omega arith;
        ends = ends_more e g.ends;
        number = g.number;
        nine = neither (λ h. A' (g.nine.0 h)) A;
        eight = neither (λ h. B' (g.eight.0 h).1) (λ p. B p.1);
        ten = (λ h. (A, B, quiet_more e (g.ten.0 h).2), λ p. g.ten.1 (A', B', quiet_less p.2));
      }

  -- one that does not: the run ends in it, and counts it if it answers 1
  last_number : (n : ℕ) → among n all ≡ true → n ≢ 0 → among n ending ≡ true
  last_number n e z = go (n == 0) (ne_eqb n 0 z) e
    where
      go : (b : Bool) → b ≡ false → (b || among n (1 ∷ 2 ∷ 3 ∷ 4 ∷ 5 ∷ 6 ∷ 7 ∷ 8 ∷ 9 ∷ [])) ≡ true → among n ending ≡ true
      go true f h = absurd (false≢true (sym f))
      go false f h = among_within n (1 ∷ 2 ∷ 3 ∷ 4 ∷ 5 ∷ 6 ∷ 7 ∷ 8 ∷ 9 ∷ []) ending refl h

  stop : (n k : ℕ) (call : Bool) → is_call said ≡ call → number_of said ≢ 0 → Going (suc n) k m l (ended_of (k + bit_of call) (step_of m l))
  unfolding after
  stop n k true e z =
      let F = step_answered m l in
      let one : number_of said ≡ 1 = eqb-true _ _ (sym (call_by_number said) ∙ e) in
      record {
        c = 1;
        counted = refl;
        machine = refl;
        bytes = refl;
        within = omega arith;
        ends = at_call 0 refl (omega arith) (quiet_none m l) refl one;
        number = last_number (number_of said) F.number z;
        nine = F.order.nine;
        eight = F.order.eight;
        ten = neither (λ h. false≢true (rw h at F.number)) (λ p. z (p.2 0 (omega arith)));
      }
  stop n k false e z =
      let F = step_answered m l in
      let o : number_of said ≢ 1 = eqb-false _ _ (sym (call_by_number said) ∙ e) in
      record {
        c = 0;
        counted = refl;
        machine = F.machine z o;
        bytes = F.bytes z o;
        within = omega arith;
        ends = at_refusal (omega arith) (quiet_none m l) refl z o;
        number = last_number (number_of said) F.number z;
        nine = F.order.nine;
        eight = F.order.eight;
        ten = neither (λ h. false≢true (rw h at F.number)) (λ p. z (p.2 0 (omega arith)));
      }

by_answer : (n k : ℕ) (m : Machine) (l : List ℕ) (b : Bool) → is_done (said m l) ≡ b
    → Going n (k + 1) (next m l) (left m l) (go_of n (k + 1) (next m l) (left m l))
    → Going (suc n) k m l (when b then go_of n (k + 1) (next m l) (left m l) else ended_of (k + bit_of (is_call (said m l))) (step_of m l))
unfolding when◌then◌else◌
by_answer n k m l true e g = more m l n k _ (eqb-true _ _ (sym (done_by_number (said m l)) ∙ e)) g
by_answer n k m l false e g = stop m l n k (is_call (said m l)) refl (eqb-false _ _ (sym (done_by_number (said m l)) ∙ e))

going : (n k : ℕ) (m : Machine) (l : List ℕ) → Going n k m l (go_of n k m l)
unfolding go_of gated_of
going zero k m l = none_left k m l (65536 <? length l) (bad_of m) (long_test l) (bad_test m)
going (suc n) k m l = by_answer n k m l (is_done (said m l)) refl (going n (k + 1) (next m l) (left m l))

pub run_keeps : (budget : ℕ) (m : Machine) (l : List ℕ) → RunKeeps m l budget (run_of budget m l)
run_keeps budget m l =
    let g = going budget 0 m l in
    let e : g.c ≡ (run_of budget m l).0.count = omega (arith, g.counted) in
    record {
      number = g.number;
      nine = g.nine;
      eight = g.eight;
      ten = g.ten;
      machine = subst (λ (c : ℕ). (run_of budget m l).0.machine ≡ (after c m l).0) e g.machine;
      bytes = subst (λ (c : ℕ). (run_of budget m l).1 ≡ (after c m l).1) e g.bytes;
      within = subst (λ (c : ℕ). c ≤ budget) e g.within;
      ends = subst (λ (c : ℕ). Ends m l budget c (run_of budget m l).0.answer) e g.ends;
    }
