-- Demand 2 holds of the public calls, and each of its tables.
use Rattle.std.specs.Prelude.{◌≡◌, refl, Bool, List, ℕ}
use Rattle.std.proofs.Common.{◌∙◌}
use Rattle.bits.specs.Cases.{when◌then◌else◌}
use Rattle.memory.specs.Bytes.{word_at}
use Rattle.cpu.specs.declared.Machine.{Machine}
use Rattle.dataproc.specs.Dataproc.{result_of, dataproc_of}
use Rattle.arm.specs.declared.Seen.{Seen}
use Rattle.arm.specs.Turn.{effect_of}
use Rattle.engine.specs.declared.Stepped.{Stepped}
use Rattle.engine.specs.Step.{next_of, executed_of}
use Rattle.engine.specs.Promises.{Steps, StepsWith}
use Rattle.claims.specs.Demand1.{Unfetched, Reached}
use Rattle.claims.specs.Demand2.{Composed, Defined, Operations, Table}
use Rattle.claims.specs.Laws.Composition.{executed_passed, executed_failed}
use Rattle.claims.specs.Laws.Steps.{step_is, step_with_is}
use Rattle.claims.specs.Laws.Decoding.{tables}

composed : (m : Machine) (op : ℕ) (l : List ℕ) (x : Stepped × List ℕ) → x ≡ executed_of m op l → Composed m op l x
composed m op l x e = record { passed = λ p. e ∙ executed_passed m op l p; failed = λ p. e ∙ executed_failed m op l p }

-- a step, on the word at A, and a step with a given opcode
pub step : (m : Machine) (l : List ℕ) (x : Stepped × List ℕ) → Steps m l x → Reached (Unfetched m l) m l → Composed m (word_at l (next_of m)) l x
step m l x e r = composed m (word_at l (next_of m)) l x (e ∙ step_is m l r)

pub step_with_an_opcode : (m : Machine) (op : ℕ) (l : List ℕ) (x : Stepped × List ℕ) → StepsWith m op l x → Reached ⊥ m l → Composed m op l x
step_with_an_opcode m op l x e r = composed m op l x (e ∙ step_with_is m l op r)

-- the families
pub defined : (regs : List ℕ) (op : ℕ) (s : Seen) (l : List ℕ) → Defined regs op s l
unfolding effect_of dataproc_of
defined regs op s l =
    record {
      data_processing = refl;
      operated = refl;
      multiply_short = refl;
      multiply_long = refl;
      halfword = refl;
      saturating = refl;
      media = refl;
      branch = refl;
      branch_exchange = refl;
      branch_link_exchange = refl;
      count_zeros = refl;
      single = refl;
      extra = refl;
      block = refl;
      swap = refl;
      exclusive = refl;
      clear_exclusive = refl;
      status_move = refl;
      change_state = refl;
      preload = refl;
      supervisor = refl;
      breakpoint = refl;
      coprocessor = refl;
      coprocessor_move = refl;
      undefined = refl;
    }

pub operations : (a b : ℕ) (sh c v : Bool) → Operations a b sh c v
unfolding result_of when◌then◌else◌
operations a b sh c v =
    record {
      and = refl;
      eor = refl;
      sub = refl;
      rsb = refl;
      add = refl;
      adc = refl;
      sbc = refl;
      rsc = refl;
      tst = refl;
      teq = refl;
      cmp = refl;
      cmn = refl;
      orr = refl;
      mov = refl;
      bic = refl;
      mvn = refl;
    }

-- the encodings
pub encodings : (op : ℕ) → Table op
encodings op = tables op
