-- A run by its steps: one more, the last, none left.
use Rattle.std.specs.Prelude.{◌≡◌, true, false, List, ℕ, ◌+◌, ◌-◌, ◌<◌, ◌≤◌}
use Rattle.std.proofs.Common.{arith}
use Rattle.bits.specs.Cases.{when◌then◌else◌}
use Rattle.bits.specs.Fields.{bit_of}
use Rattle.bits.specs.Laws.Order.{left_suc}
use Rattle.cpu.specs.declared.Machine.{Machine}
use Rattle.cpu.specs.declared.Answer.TheVariants.{Timeout}
use Rattle.cpu.specs.Answers.{is_done, is_call}
use Rattle.engine.specs.declared.Stepped.{Stepped}
use Rattle.engine.specs.Step.{stepped, gated_of, step_of}
use Rattle.engine.specs.Run.{ended_of, go_of}

pub go_on : (n k : ℕ) (m : Machine) (l : List ℕ) {s : Stepped} {l' : List ℕ} → k < n
    → (let p : Stepped × List ℕ = (s, l') in p) ≡ step_of m l → is_done s.answer ≡ true
    → go_of (n - k) k m l ≡ go_of (n - (k + 1)) (k + 1) s.machine l'
unfolding go_of when◌then◌else◌
go_on n k m l h e d = rw (left_suc n k h, ← e, d)

pub go_stop : (n k : ℕ) (m : Machine) (l : List ℕ) {s : Stepped} {l' : List ℕ} → k < n
    → (let p : Stepped × List ℕ = (s, l') in p) ≡ step_of m l → is_done s.answer ≡ false
    → go_of (n - k) k m l ≡ ended_of (k + bit_of (is_call s.answer)) (s, l')
unfolding go_of when◌then◌else◌
go_stop n k m l h e d = rw (left_suc n k h, ← e, d)

pub go_none : (n k : ℕ) (m : Machine) (l : List ℕ) → n ≤ k → go_of (n - k) k m l ≡ ended_of k (gated_of m l (stepped m Timeout, l))
unfolding go_of
go_none n k m l h = let e : n - k ≡ 0 = omega arith in rw e
