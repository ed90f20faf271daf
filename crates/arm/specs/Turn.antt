-- One instruction on the sixteen registers and the lent bytes: the condition, the family, and what the family does.
use Rattle.std.specs.Prelude.{List, ℕ, ◌+◌, ◌%◌, ◌^◌, set}
use Rattle.bits.specs.Cases.{when◌then◌else◌}
use Rattle.bits.specs.Fields.{◌⟨◌‥◌⟩}
use Rattle.psr.specs.Status.{passed_of}
use Rattle.decode.specs.declared.Family.{Family}
use Rattle.decode.specs.declared.Family.TheVariants.{DataProcessing, MultiplyShort, MultiplyLong, Halfword, Saturating, Swap, Exclusive, Extra, StatusMove, BranchExchange, CountZeros, Breakpoint, Single, Media, Block, Branch, Coprocessor, CoprocessorMove, Supervisor, Undefined, BranchLinkExchange, ClearExclusive, ChangeState, Preload}
use Rattle.decode.specs.Families.{family_of}
use Rattle.cpu.specs.declared.Machine.{Machine}
use Rattle.cpu.specs.declared.Outcome.{Outcome}
use Rattle.cpu.specs.declared.Outcome.TheVariants as outcome
use Rattle.cpu.specs.Outcomes.{done_of, undefined_of}
use Rattle.transfer.specs.Transfers.{beside}
use Rattle.dataproc.specs.Dataproc.{dataproc_of}
use Rattle.multiply.specs.Multiply.{short_of, long_multiply_of, halfword_of, saturating_of}
use Rattle.media.specs.Media.{media_of}
use Rattle.misc.specs.Branches.{branch_of, branch_exchange_of, branch_link_exchange_of, clz_of}
use Rattle.misc.specs.Stops.{swi_of, bkpt_of, coprocessor_of, coprocessor_move_of, clrex_of}
use Rattle.loadstore.specs.Single.{single_of}
use Rattle.loadstore.specs.Extra.{extra_of}
use Rattle.exclusive.specs.Exclusive.{swap_of, exclusive_of}
use Rattle.block.specs.Block.{block_of}
use Rattle.arm.specs.declared.Seen.{Seen}

-- what an instruction reads of a machine beside its registers
abbrev pub seen_of : Machine → Seen
seen_of m = record { n = m.cpsr.n; z = m.cpsr.z; c = m.cpsr.c; v = m.cpsr.v; ge = m.cpsr.ge; tag = m.tag }

-- the families; r15 in regs is A + 8
unfoldable pub effect_of : Family → List ℕ → ℕ → Seen → List ℕ → Outcome × List ℕ × List ℕ
effect_of DataProcessing regs op s l = beside (dataproc_of regs op s.c s.v) l
effect_of MultiplyShort regs op s l = beside (short_of regs op s.c s.v) l
effect_of MultiplyLong regs op s l = beside (long_multiply_of regs op s.c s.v) l
effect_of Halfword regs op s l = beside (halfword_of regs op) l
effect_of Saturating regs op s l = beside (saturating_of regs op) l
effect_of Media regs op s l = beside (media_of regs op s.ge) l
effect_of Branch regs op s l = beside (branch_of regs op) l
effect_of BranchExchange regs op s l = beside (branch_exchange_of regs op) l
effect_of BranchLinkExchange regs op s l = beside (branch_link_exchange_of regs op) l
effect_of CountZeros regs op s l = beside (clz_of regs op) l
effect_of Single regs op s l = single_of regs op s.c l
effect_of Extra regs op s l = extra_of regs op l
effect_of Block regs op s l = block_of regs op l
effect_of Swap regs op s l = swap_of regs op l
effect_of Exclusive regs op s l = exclusive_of regs op s.tag l
effect_of ClearExclusive regs op s l = beside (clrex_of regs) l
effect_of StatusMove regs op s l = (outcome.Moves, regs, l)
effect_of ChangeState regs op s l = (outcome.Moves, regs, l)
effect_of Preload regs op s l = beside (done_of regs) l
effect_of Supervisor regs op s l = beside (swi_of regs op) l
effect_of Breakpoint regs op s l = beside (bkpt_of regs op) l
effect_of Coprocessor regs op s l = beside (coprocessor_of regs op) l
effect_of CoprocessorMove regs op s l = beside (coprocessor_move_of regs op) l
effect_of Undefined regs op s l = beside (undefined_of regs op) l

-- A3.2: an instruction whose condition fails does nothing but go on to A + 4
unfoldable pub turn_of : List ℕ → ℕ → ℕ → Seen → List ℕ → Outcome × List ℕ × List ℕ
turn_of regs at op s l =
    when passed_of (op ⟨ 31 ‥ 28 ⟩) s.n s.z s.c s.v then effect_of (family_of op) (set regs 15 ((at + 8) % 2 ^ 32)) op s l
    else (outcome.Nothing, set regs 15 ((at + 4) % 2 ^ 32), l)
