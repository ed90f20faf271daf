-- Instructions that answer the host, and those that do nothing or little: SWI, BKPT, coprocessors, CLREX.
use Rattle.std.specs.Prelude.{◌||◌, List, ℕ, ◌+◌, ◌-◌, ◌*◌, ◌%◌, ◌^◌, get_or, ◌==◌}
use Rattle.bits.specs.Cases.{when◌then◌else◌}
use Rattle.bits.specs.Fields.{◌⟨◌‥◌⟩}
use Rattle.cpu.specs.declared.Answer.TheVariants.{Breakpoint, Coprocessor}
use Rattle.cpu.specs.declared.Outcome.{Outcome}
use Rattle.cpu.specs.declared.Outcome.TheVariants.{Call, Stop, Untagged}
use Rattle.cpu.specs.Outcomes.{branched, advanced, own_of, done_of}

-- A4.1.107 SWI; D9: the host answers, and r15 is A + 4 with its low two bits clear
unfoldable pub swi_of : List ℕ → ℕ → Outcome × List ℕ
swi_of regs op = (Call (op ⟨ 23 ‥ 0 ⟩), branched regs ((get_or regs 15 0 + (2 ^ 32 - 4)) % 2 ^ 32))

-- A4.1.7 BKPT, with its number of 16 bits; D9, D4
unfoldable pub bkpt_of : List ℕ → ℕ → Outcome × List ℕ
bkpt_of regs op = (Stop (Breakpoint (own_of regs) (op ⟨ 19 ‥ 8 ⟩ * 16 + op ⟨ 3 ‥ 0 ⟩)), regs)

-- document 01, section 2: answer 4 where the Rust enters its coprocessors
unfoldable pub coprocessor_of : List ℕ → ℕ → Outcome × List ℕ
coprocessor_of regs op = (Stop (Coprocessor op), regs)

-- section 3: register moves with numbers other than 10, 11 and 15 do nothing
unfoldable pub coprocessor_move_of : List ℕ → ℕ → Outcome × List ℕ
coprocessor_move_of regs op =
    when (op ⟨ 11 ‥ 8 ⟩ == 10) || (op ⟨ 11 ‥ 8 ⟩ == 11) || (op ⟨ 11 ‥ 8 ⟩ == 15) then coprocessor_of regs op
    else done_of regs

-- DDI 0406C, CLREX
unfoldable pub clrex_of : List ℕ → Outcome × List ℕ
clrex_of regs = (Untagged, advanced regs)
