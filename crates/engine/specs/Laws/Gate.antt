-- The gate as the code has it: tested once, then acted on.
use Rattle.std.specs.Prelude.{Result, Ok, Err, ◌≡◌, refl, Bool, true, false, List, ℕ, length}
use Rattle.std.proofs.Common.{ap, sym, ◌∙◌}
use Rattle.bits.specs.Cases.{when◌then◌else◌, ◌<?◌}
use Rattle.cpu.specs.declared.Machine.{Machine}
use Rattle.cpu.specs.declared.Answer.TheVariants.{BadState, TooLong}
use Rattle.cpu.specs.Answers.{bad_of}
use Rattle.cpu.specs.declared.Answer.{Answer}
use Rattle.engine.specs.declared.Stepped.{Stepped}
use Rattle.engine.specs.Step.{stepped, gated_of}

unfoldable pub gate_of : Machine → ℕ → Result Unit Answer
gate_of m len = when 65536 <? len then Err TooLong else when bad_of m then Err BadState else Ok tt

abbrev pub by_gate : Result Unit Answer → Machine → List ℕ → Stepped × List ℕ → Stepped × List ℕ
by_gate (Ok u) m l x = x
by_gate (Err answer) m l x = (stepped m answer, l)

by_tests : (a b : Bool) (m : Machine) (l : List ℕ) (x : Stepped × List ℕ)
    → by_gate (when a then Err TooLong else when b then Err BadState else Ok tt) m l x
    ≡ (when a then (stepped m TooLong, l) else when b then (stepped m BadState, l) else x)
unfolding when◌then◌else◌
by_tests true b m l x = refl
by_tests false true m l x = refl
by_tests false false m l x = refl

-- what the gate said decides
pub gated_by : (m : Machine) (l : List ℕ) (x : Stepped × List ℕ) {g : Result Unit Answer} → g ≡ gate_of m (length l) → gated_of m l x ≡ by_gate g m l x
unfolding gated_of gate_of
gated_by m l x e = sym (ap (λ (y : Result Unit Answer). by_gate y m l x) e ∙ by_tests (65536 <? length l) (bad_of m) m l x)
