-- A run: single steps taken one after another, until an answer other than 0 or the end of the budget (document 01, section 2).
use Rattle.std.specs.Prelude.{List, ℕ, zero, suc, ◌+◌}
use Rattle.bits.specs.Cases.{when◌then◌else◌}
use Rattle.bits.specs.Fields.{bit_of}
use Rattle.cpu.specs.declared.Machine.{Machine}
use Rattle.cpu.specs.declared.Answer.{Answer}
use Rattle.cpu.specs.declared.Answer.TheVariants.{Timeout}
use Rattle.cpu.specs.Answers.{is_done, is_call}
use Rattle.engine.specs.declared.Finished.{Finished}
use Rattle.engine.specs.declared.Stepped.{Stepped}
use Rattle.engine.specs.Step.{stepped, gated_of, step_of}

abbrev pub finished : Machine → Answer → ℕ → Finished
finished m answer count = record { machine = m; answer = answer; count = count }

-- a run that ends in the step x, with k steps counted
abbrev pub ended_of : ℕ → Stepped × List ℕ → Finished × List ℕ
ended_of k x = (finished x.0.machine x.0.answer k, x.1)

-- n steps are left and k were taken: a step that answers 1 ends the run and counts; at the end of the budget answers 9 and 8 still come before 10
unfoldable pub go_of : ℕ → ℕ → Machine → List ℕ → Finished × List ℕ
go_of zero k m l = ended_of k (gated_of m l (stepped m Timeout, l))
go_of (suc n) k m l =
    when is_done (step_of m l).0.answer then go_of n (k + 1) (step_of m l).0.machine (step_of m l).1
    else ended_of (k + bit_of (is_call (step_of m l).0.answer)) (step_of m l)

abbrev pub run_of : ℕ → Machine → List ℕ → Finished × List ℕ
run_of budget m l = go_of budget 0 m l
