-- Demand 1 holds of the public calls: whatever meets a call's promise is as Demand1.antt states.
use Rattle.std.proofs.Common.{sym, subst, ◌∙◌}
use Rattle.std.specs.Prelude.{List, ℕ}
use Rattle.memory.specs.Bytes.{word_at}
use Rattle.cpu.specs.declared.Machine.{Machine}
use Rattle.engine.specs.declared.Stepped.{Stepped}
use Rattle.engine.specs.declared.Finished.{Finished}
use Rattle.engine.specs.Step.{next_of}
use Rattle.engine.specs.Promises.{Steps, StepsWith, Runs}
use Rattle.claims.specs.Demand1.{Unfetched, Reached, StepAnswered, GivenAnswered, RunKeeps}
use Rattle.claims.specs.Accesses.{Bounded}
use Rattle.claims.specs.Undefined.{Refused}
use Rattle.claims.specs.Laws.Steps.{step_is, step_with_is, step_answered, given_answered}
use Rattle.claims.specs.Laws.Accesses.{bounded}
use Rattle.claims.specs.Laws.Undefined.{refused_is}
use Rattle.claims.specs.Laws.Runs.{run_keeps}

pub step : (m : Machine) (l : List ℕ) (x : Stepped × List ℕ) → Steps m l x → StepAnswered m l x
step m l x e = subst (StepAnswered m l) (sym e) (step_answered m l)

pub step_with_an_opcode : (m : Machine) (op : ℕ) (l : List ℕ) (x : Stepped × List ℕ) → StepsWith m op l x → GivenAnswered m op l x
step_with_an_opcode m op l x e = subst (GivenAnswered m op l) (sym e) (given_answered m l op)

pub run : (m : Machine) (l : List ℕ) (budget : ℕ) (x : Finished × List ℕ) → Runs m l budget x → RunKeeps m l budget x
run m l budget x e = subst (RunKeeps m l budget) (sym e) (run_keeps budget m l)

-- answer 7 (Accesses.antt), where the instruction is reached
pub step_bounded : (m : Machine) (l : List ℕ) (x : Stepped × List ℕ) → Steps m l x → Reached (Unfetched m l) m l → Bounded m (word_at l (next_of m)) l x.0.answer
step_bounded m l x e r =
    subst (λ (y : Stepped × List ℕ). Bounded m (word_at l (next_of m)) l y.0.answer) (sym (e ∙ step_is m l r)) (bounded m (word_at l (next_of m)) l)

pub step_with_an_opcode_bounded : (m : Machine) (op : ℕ) (l : List ℕ) (x : Stepped × List ℕ) → StepsWith m op l x → Reached ⊥ m l → Bounded m op l x.0.answer
step_with_an_opcode_bounded m op l x e r =
    subst (λ (y : Stepped × List ℕ). Bounded m op l y.0.answer) (sym (e ∙ step_with_is m l op r)) (bounded m op l)

-- answer 2 (Undefined.antt), likewise
pub step_refused : (m : Machine) (l : List ℕ) (x : Stepped × List ℕ) → Steps m l x → Reached (Unfetched m l) m l → Refused m (word_at l (next_of m)) x.0.answer
step_refused m l x e r =
    subst (λ (y : Stepped × List ℕ). Refused m (word_at l (next_of m)) y.0.answer) (sym (e ∙ step_is m l r)) (refused_is m (word_at l (next_of m)) l)

pub step_with_an_opcode_refused : (m : Machine) (op : ℕ) (l : List ℕ) (x : Stepped × List ℕ) → StepsWith m op l x → Reached ⊥ m l → Refused m op x.0.answer
step_with_an_opcode_refused m op l x e r =
    subst (λ (y : Stepped × List ℕ). Refused m op y.0.answer) (sym (e ∙ step_with_is m l op r)) (refused_is m op l)
