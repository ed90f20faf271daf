-- The promises of the public calls: the answer, the whole machine and every lent byte are what the definition gives.
use Rattle.std.specs.Prelude.{◌≡◌, List, ℕ}
use Rattle.cpu.specs.declared.Machine.{Machine}
use Rattle.engine.specs.declared.Stepped.{Stepped}
use Rattle.engine.specs.declared.Finished.{Finished}
use Rattle.engine.specs.Step.{step_of, step_with_of}
use Rattle.engine.specs.Run.{run_of}

abbrev pub Steps : Machine → List ℕ → Stepped × List ℕ → Type 0
Steps m l x = x ≡ step_of m l

abbrev pub StepsWith : Machine → ℕ → List ℕ → Stepped × List ℕ → Type 0
StepsWith m op l x = x ≡ step_with_of m op l

abbrev pub Runs : Machine → List ℕ → ℕ → Finished × List ℕ → Type 0
Runs m l budget x = x ≡ run_of budget m l
