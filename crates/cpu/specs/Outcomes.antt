-- What a family of instructions does to the sixteen registers it is lent, and what it leaves for the machine to do.
use Rattle.std.specs.Prelude.{Bool, true, false, List, ℕ, ◌+◌, ◌-◌, ◌*◌, ◌/◌, ◌%◌, ◌^◌, get_or, set, ◌==◌}
use Rattle.bits.specs.Cases.{when◌then◌else◌}
use Rattle.bits.specs.Fields.{◌⟨◌⟩}
use Rattle.alu.specs.Sums.{negative}
use Rattle.cpu.specs.declared.Answer.TheVariants.{Undefined}
use Rattle.cpu.specs.declared.Outcome.{Outcome}
use Rattle.cpu.specs.declared.Outcome.TheVariants.{Nothing, Flags, Sticky, Exchange, Stop}

-- N and Z of a result, with C and V
abbrev pub flags_of : ℕ → Bool → Bool → Outcome
flags_of value c v = Flags (negative value) (value == 0) c v

-- Q is set where `on`, and never cleared
unfoldable pub sticky : Bool → Outcome
sticky on = when on then Sticky else Nothing

-- While an instruction executes r15 is A + 8. What the step leaves there: where nothing branched, its value less 4.
abbrev pub advanced : List ℕ → List ℕ
advanced regs = set regs 15 ((get_or regs 15 0 + (2 ^ 32 - 4)) % 2 ^ 32)

-- a branch in ARM state
abbrev pub branched : List ℕ → ℕ → List ℕ
branched regs to = set regs 15 (to / 4 * 4)

-- the instruction's own address
abbrev pub own_of : List ℕ → ℕ
own_of regs = (get_or regs 15 0 + (2 ^ 32 - 8)) % 2 ^ 32

-- a register read late: r15 is A + 12
unfoldable pub read_late_of : List ℕ → ℕ → ℕ
read_late_of regs r = when r == 15 then (get_or regs 15 0 + 4) % 2 ^ 32 else get_or regs r 0

-- an undefined code: the registers stay as they came; D9
abbrev pub undefined_of : List ℕ → ℕ → Outcome × List ℕ
undefined_of regs op = (Stop (Undefined (own_of regs) op), regs)

-- nothing but the next instruction
abbrev pub done_of : List ℕ → Outcome × List ℕ
done_of regs = (Nothing, advanced regs)

-- a register written as it is, r15 raw
abbrev pub put_of : List ℕ → ℕ → ℕ → Outcome × List ℕ
put_of regs rd value = (Nothing, advanced (set regs rd value))

abbrev pub jumped_of : List ℕ → ℕ → Outcome × List ℕ
jumped_of regs to = (Nothing, branched regs to)

-- a register written, r15 by a branch
unfoldable pub landed_of : List ℕ → ℕ → ℕ → Outcome × List ℕ
landed_of regs rd value =
    when rd == 15 then jumped_of regs value
    else put_of regs rd value

-- a branch that takes T from bit 0 of its target
unfoldable pub exchanged_of : List ℕ → ℕ → Outcome × List ℕ
exchanged_of regs to =
    when to ⟨ 0 ⟩ then (Exchange true, set regs 15 (to / 2 * 2))
    else (Exchange false, branched regs to)
