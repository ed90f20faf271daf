-- What the exported steps and runs leave in the bytes lent: the machine's, memory's, the answer's.
use Rattle.std.specs.Prelude.{Bool, ◌&&◌, ◌||◌, List, ℕ, length, ◌==◌}
use Rattle.bits.specs.Cases.{when◌then◌else◌, ◌<?◌}
use Rattle.cpu.specs.declared.Machine.{Machine}
use Rattle.cpu.specs.Answers.{reported, is_done, is_call}
use Rattle.state.specs.State.{state_of, state_bytes_of, report_bytes_of, counted_bytes_of}
use Rattle.engine.specs.declared.Stepped.{Stepped}
use Rattle.engine.specs.declared.Finished.{Finished}
use Rattle.engine.specs.Step.{step_of, step_with_of}
use Rattle.engine.specs.Run.{run_of}

-- a call that changed nothing writes only its answer
unfoldable pub written_state : Bool → Machine → List ℕ → List ℕ
written_state changed m bytes = when changed then state_bytes_of m else bytes

-- answers 0 and 1 change the machine
unfoldable pub left_by_step : Stepped → List ℕ → ℕ × List ℕ × List ℕ
left_by_step s bytes =
    (1, written_state (is_done s.answer || is_call s.answer) s.machine bytes, report_bytes_of (reported s.answer))

-- a run that counts a step changes it
unfoldable pub left_by_run : Finished → List ℕ → ℕ × List ℕ × List ℕ
left_by_run f bytes = (1, written_state (0 <? f.count) f.machine bytes, counted_bytes_of (reported f.answer) f.count)

-- what a call returns, and the bytes of the machine, of memory and of the answer
abbrev pub Left : Type 0
Left = ℕ × List ℕ × List ℕ × List ℕ

-- bytes of another length: 0, and nothing is written
abbrev pub untouched : List ℕ → List ℕ → List ℕ → Left
untouched bytes l answer = (0, bytes, l, answer)

-- memory put between the machine's bytes and the answer's
abbrev pub beside_memory : ℕ × List ℕ × List ℕ → List ℕ → Left
beside_memory x l = (x.0, x.1, l, x.2)

-- a call where the machine has its 216 bytes and the answer its n
abbrev pub measured : ℕ → List ℕ → List ℕ → List ℕ → Left → Left
measured n bytes l answer called =
    when (length bytes == 216) && (length answer == n) then called else untouched bytes l answer

unfoldable pub step_call_of : List ℕ → List ℕ → List ℕ → Left
step_call_of bytes l answer =
    let x : Stepped × List ℕ = step_of (state_of bytes) l in
    measured 12 bytes l answer (beside_memory (left_by_step x.0 bytes) x.1)

unfoldable pub step_opcode_call_of : List ℕ → List ℕ → ℕ → List ℕ → Left
step_opcode_call_of bytes l op answer =
    let x : Stepped × List ℕ = step_with_of (state_of bytes) op l in
    measured 12 bytes l answer (beside_memory (left_by_step x.0 bytes) x.1)

unfoldable pub run_call_of : List ℕ → List ℕ → ℕ → List ℕ → Left
run_call_of bytes l budget answer =
    let x : Finished × List ℕ = run_of budget (state_of bytes) l in
    measured 16 bytes l answer (beside_memory (left_by_run x.0 bytes) x.1)
