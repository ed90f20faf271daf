-- A step (document 01, sections 1 and 2): the gate, the fetch, the instruction, and what its outcome changes in the machine.
use Rattle.std.specs.Prelude.{Bool, true, not, Some, None, Result, Ok, Err, ◌&&◌, List, ℕ, ◌%◌, length, get_or, set, ◌==◌}
use Rattle.bits.specs.Cases.{when◌then◌else◌, ◌<?◌}
use Rattle.psr.specs.With.{with_nzcv, with_q, with_ge, with_t}
use Rattle.memory.specs.Bytes.{word_at}
use Rattle.memory.specs.Plans.{reaches_out}
use Rattle.cpu.specs.declared.Machine.{Machine}
use Rattle.cpu.specs.declared.Answer.{Answer}
use Rattle.cpu.specs.declared.Answer.TheVariants.{Done, Supervisor, Thumb, Fetch, BadState, TooLong}
use Rattle.cpu.specs.declared.Outcome.{Outcome}
use Rattle.cpu.specs.declared.Outcome.TheVariants.{Nothing, Flags, Sticky, Lanes, Exchange, Tagged, Untagged, Return, Moves, Block, Call, Stop}
use Rattle.cpu.specs.Answers.{bad_of}
use Rattle.cpu.specs.With.{with_regs, with_cpsr, with_tag}
use Rattle.banks.specs.Banks.{returned_of}
use Rattle.moves.specs.Moves.{moves_of}
use Rattle.block.specs.UserBlock.{user_block_of}
use Rattle.arm.specs.Turn.{seen_of, turn_of}
use Rattle.engine.specs.declared.Stepped.{Stepped}

abbrev pub stepped : Machine → Answer → Stepped
stepped m answer = record { machine = m; answer = answer }

-- a step that is done
abbrev pub going : Machine → Stepped
going m = stepped m Done

-- a step that is refused after its instruction was begun: r15 is A again
abbrev pub refused : Machine → ℕ → Answer → Stepped
refused m at answer = stepped (with_regs m (set m.regs 15 at)) answer

-- a block transfer with S, which can still meet an access outside
unfoldable pub blocked_of : Machine → ℕ → Result Machine Answer → List ℕ → Stepped × List ℕ
blocked_of m at (Ok done) l = (going done, l)
blocked_of m at (Err answer) l = (refused m at answer, l)

-- what an outcome changes in the machine m, whose registers the family has written; the instruction op stood at address `at`
unfoldable pub settled_of : Outcome → Machine → ℕ → ℕ → List ℕ → Stepped × List ℕ
settled_of Nothing m at op l = (going m, l)
settled_of (Flags n z c v) m at op l = (going (with_cpsr m (with_nzcv m.cpsr n z c v)), l)
settled_of Sticky m at op l = (going (with_cpsr m (with_q m.cpsr true)), l)
settled_of (Lanes ge) m at op l = (going (with_cpsr m (with_ge m.cpsr ge)), l)
settled_of (Exchange t) m at op l = (going (with_cpsr m (with_t m.cpsr t)), l)
settled_of (Tagged address) m at op l = (going (with_tag m (Some address)), l)
settled_of Untagged m at op l = (going (with_tag m None), l)
settled_of (Return to) m at op l = (going (returned_of m to), l)
settled_of Moves m at op l = (going (moves_of m op), l)
settled_of Block m at op l = blocked_of m at (user_block_of m op l).0 (user_block_of m op l).1
settled_of (Call number) m at op l = (stepped m (Supervisor number), l)
settled_of (Stop answer) m at op l = (refused m at answer, l)

-- the address A of the next instruction
abbrev pub next_of : Machine → ℕ
next_of m = get_or m.regs 15 0

-- the instruction op at A
abbrev pub turned_of : Machine → ℕ → List ℕ → Outcome × List ℕ × List ℕ
turned_of m op l = turn_of m.regs (next_of m) op (seen_of m) l

unfoldable pub executed_of : Machine → ℕ → List ℕ → Stepped × List ℕ
executed_of m op l =
    let x : Outcome × List ℕ × List ℕ = turned_of m op l in
    settled_of x.0 (with_regs m x.1) (next_of m) op x.2

-- answer 6: A is no multiple of 4, or A + 4, not wrapped, lies past the end
unfoldable pub fetches : List ℕ → ℕ → Bool
fetches l at = (at % 4 == 0) && not (reaches_out (length l) at 4)

-- answers 5 and 6, then the instruction
unfoldable pub taken_of : Machine → List ℕ → Stepped × List ℕ
taken_of m l =
    when m.cpsr.t then (stepped m Thumb, l)
    else when fetches l (next_of m) then executed_of m (word_at l (next_of m)) l
    else (stepped m (Fetch (next_of m)), l)

-- a given opcode is not fetched: answer 5, then the instruction
unfoldable pub given_of : Machine → ℕ → List ℕ → Stepped × List ℕ
given_of m op l = when m.cpsr.t then (stepped m Thumb, l) else executed_of m op l

-- answers 9 and 8 come before everything else
unfoldable pub gated_of : Machine → List ℕ → Stepped × List ℕ → Stepped × List ℕ
gated_of m l x =
    when 65536 <? length l then (stepped m TooLong, l)
    else when bad_of m then (stepped m BadState, l)
    else x

unfoldable pub step_of : Machine → List ℕ → Stepped × List ℕ
step_of m l = gated_of m l (taken_of m l)

unfoldable pub step_with_of : Machine → ℕ → List ℕ → Stepped × List ℕ
step_with_of m op l = gated_of m l (given_of m op l)
