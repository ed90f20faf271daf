-- Answer 7 (document 01, section 2): the accesses of each instruction in transfer order; 7 is given exactly when one of them has a byte outside memory, with the address of the first. The statement; Laws/Accesses.antt proves it.
use Rattle.std.specs.Prelude.{◌≡◌, true, List, ◌↔◌, ℕ, length, ◌==◌, Option, Some}
use Rattle.bits.specs.Cases.{when◌then◌else◌}
use Rattle.bits.specs.Fields.{◌⟨◌⟩, ◌⟨◌‥◌⟩}
use Rattle.memory.specs.Bytes.{bytes_of}
use Rattle.memory.specs.Plans.{outside_of}
use Rattle.decode.specs.declared.Family.{Family}
use Rattle.decode.specs.declared.Family.TheVariants.{DataProcessing, MultiplyShort, MultiplyLong, Halfword, Saturating, Swap, Exclusive, Extra, StatusMove, BranchExchange, CountZeros, Breakpoint, Single, Media, Block, Branch, Coprocessor, CoprocessorMove, Supervisor, Undefined, BranchLinkExchange, ClearExclusive, ChangeState, Preload}
use Rattle.decode.specs.Families.{family_of}
use Rattle.cpu.specs.declared.Machine.{Machine}
use Rattle.cpu.specs.declared.Answer.{Answer}
use Rattle.cpu.specs.declared.Answer.TheVariants as answer
use Rattle.transfer.specs.Transfers.{byte_or_word_of, base_of, moved_of, address_of}
use Rattle.loadstore.specs.Single.{rd_of, offset_of}
use Rattle.loadstore.specs.Extra.{extra_offset_of}
use Rattle.exclusive.specs.Exclusive as exclusive
use Rattle.block.specs.Block.{plan_of, count_of}
use Rattle.arm.specs.declared.Seen.{Seen}
use Rattle.arm.specs.Turn.{seen_of}
use Rattle.claims.specs.Demand1.{number_of, passes}
use Rattle.claims.specs.Demand2.{lent}

-- accesses one behind the other: the first address, the width of each in bytes, and how many
pub record Accesses : Type 0 where
  pub at : ℕ
  pub width : ℕ
  pub count : ℕ

abbrev pub accesses : ℕ → ℕ → ℕ → Accesses
accesses at width count = record { at = at; width = width; count = count }

abbrev pub none : Accesses
none = accesses 0 0 0

-- the first of them with a byte outside a memory of `len` bytes, where there is one
abbrev pub outside : ℕ → Accesses → Option ℕ
outside len a = outside_of len a.at a.width a.count

-- LDR, LDRB, STR, STRB: a word or a byte
abbrev pub single_reach : List ℕ → ℕ → Seen → Accesses
single_reach regs op s = accesses (address_of regs op (moved_of regs op (offset_of regs op s.c))) (bytes_of (byte_or_word_of op)) 1

-- LDRH, LDRSH, STRH a halfword, LDRSB a byte, LDRD and STRD two words; with Rd of r15 these two are Undefined
unfoldable pub extra_reach : List ℕ → ℕ → Accesses
extra_reach regs op =
    let at : ℕ = address_of regs op (moved_of regs op (extra_offset_of regs op)) in
    when op ⟨ 6 ‥ 5 ⟩ == 0 then none
    else when op ⟨ 20 ⟩ then (when op ⟨ 6 ‥ 5 ⟩ == 1 then accesses at 2 1 else when op ⟨ 6 ‥ 5 ⟩ == 2 then accesses at 1 1 else accesses at 2 1)
    else when op ⟨ 6 ‥ 5 ⟩ == 1 then accesses at 2 1
    else when rd_of op == 15 then none
    else when op ⟨ 6 ‥ 5 ⟩ == 2 then accesses at 4 2
    else accesses at 4 2

-- LDM, STM: a word for each register of the list
abbrev pub block_reach : List ℕ → ℕ → Accesses
block_reach regs op = accesses (plan_of regs op).start 4 (count_of (plan_of regs op).list)

-- SWP, SWPB: what is loaded is stored over
abbrev pub swap_reach : List ℕ → ℕ → Accesses
swap_reach regs op = accesses (base_of regs op) (bytes_of (byte_or_word_of op)) 1

-- LDREX, STREX and their B, H, D forms: a store that fails makes no access
unfoldable pub exclusive_reach : List ℕ → ℕ → Seen → Accesses
exclusive_reach regs op s =
    when op ⟨ 20 ⟩ then
    (when exclusive.doubled op then (when op ⟨ 15 ‥ 12 ⟩ == 15 then none else accesses (base_of regs op) 4 2)
    else accesses (base_of regs op) (bytes_of (exclusive.width_of op)) 1)
    else when exclusive.doubled op then
    (when op ⟨ 3 ‥ 0 ⟩ == 15 then none
    else when exclusive.succeeds regs op s.tag then accesses (base_of regs op) 4 2
    else none)
    else when exclusive.succeeds regs op s.tag then accesses (base_of regs op) (bytes_of (exclusive.width_of op)) 1
    else none

-- by family; all others make none
abbrev pub reach_of : Family → List ℕ → ℕ → Seen → Accesses
reach_of Single regs op s = single_reach regs op s
reach_of Extra regs op s = extra_reach regs op
reach_of Block regs op s = block_reach regs op
reach_of Swap regs op s = swap_reach regs op
reach_of Exclusive regs op s = exclusive_reach regs op s
reach_of DataProcessing regs op s = none
reach_of MultiplyShort regs op s = none
reach_of MultiplyLong regs op s = none
reach_of Halfword regs op s = none
reach_of Saturating regs op s = none
reach_of StatusMove regs op s = none
reach_of BranchExchange regs op s = none
reach_of CountZeros regs op s = none
reach_of Breakpoint regs op s = none
reach_of Media regs op s = none
reach_of Branch regs op s = none
reach_of Coprocessor regs op s = none
reach_of CoprocessorMove regs op s = none
reach_of Supervisor regs op s = none
reach_of Undefined regs op s = none
reach_of BranchLinkExchange regs op s = none
reach_of ClearExclusive regs op s = none
reach_of ChangeState regs op s = none
reach_of Preload regs op s = none

-- of the instruction op in a machine
abbrev pub found_by : Machine → ℕ → List ℕ → Option ℕ
found_by m op l = outside (length l) (reach_of (family_of op) (lent m) op (seen_of m))

-- for an instruction that is reached: 7 exactly when its condition passes and an access lies outside, and the address is that of the first
pub record Bounded (m : Machine) (op : ℕ) (l : List ℕ) (a : Answer) : Type 0 where
  pub seven : (number_of a ≡ 7) ↔ ((passes m op ≡ true) × ((address : ℕ) × (found_by m op l ≡ Some address)))
  pub seven_value : (address : ℕ) → passes m op ≡ true → found_by m op l ≡ Some address → a ≡ answer.Bus address
