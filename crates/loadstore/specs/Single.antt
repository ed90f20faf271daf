-- LDR, LDRB, STR and STRB (DDI 0100I, A4.1 and A5.2), on the sixteen registers and memory; r15 in regs is A + 8. Their T forms are the same, post-indexed.
use Rattle.std.specs.Prelude.{Bool, List, ℕ, ◌+◌, ◌%◌, ◌^◌, length, get_or, ◌==◌}
use Rattle.bits.specs.Cases.{when◌then◌else◌}
use Rattle.bits.specs.Fields.{◌⟨◌⟩, ◌⟨◌‥◌⟩}
use Rattle.shifter.specs.Shifts.{type_of, by_immediate_of}
use Rattle.memory.specs.declared.Width.{Width}
use Rattle.memory.specs.Bytes.{bytes_of, read_of, written_of}
use Rattle.memory.specs.Plans.{outside_of}
use Rattle.cpu.specs.declared.Outcome.{Outcome}
use Rattle.cpu.specs.Outcomes.{done_of, put_of, exchanged_of}
use Rattle.transfer.specs.Transfers.{guarded_of, beside, byte_or_word_of, moved_of, address_of, based_of}

-- A5.2: the offset, with bit 25 a register shifted by an immediate, else twelve bits
unfoldable pub offset_of : List ℕ → ℕ → Bool → ℕ
offset_of regs op c =
    when op ⟨ 25 ⟩ then (by_immediate_of (type_of (op ⟨ 6 ‥ 5 ⟩)) (get_or regs (op ⟨ 3 ‥ 0 ⟩) 0) (op ⟨ 11 ‥ 7 ⟩) c).value
    else op ⟨ 11 ‥ 0 ⟩

-- Rd
abbrev pub rd_of : ℕ → ℕ
rd_of op = op ⟨ 15 ‥ 12 ⟩

-- a load into Rd; r15 takes T from bit 0
unfoldable pub taken_of : List ℕ → ℕ → ℕ → Outcome × List ℕ
taken_of regs op value =
    when rd_of op == 15 then exchanged_of regs value
    else put_of regs (rd_of op) value

-- the base is written back first: where it is Rd, it keeps what was loaded
abbrev pub load_of : List ℕ → ℕ → ℕ → ℕ → Outcome × List ℕ
load_of regs op moved value = taken_of (based_of regs op moved) op value

-- Rd as STR and STRB store it: r15 is A + 12
unfoldable pub source_of : List ℕ → ℕ → ℕ
source_of regs op =
    when rd_of op == 15 then (get_or regs 15 0 + 4) % 2 ^ 32
    else get_or regs (rd_of op) 0

-- a store of the low bytes of a value, with write-back
abbrev pub store_of : List ℕ → ℕ → List ℕ → ℕ → ℕ → Width → ℕ → Outcome × List ℕ × List ℕ
store_of regs op l moved address width value = beside (done_of (based_of regs op moved)) (written_of l address width value)

-- A4.1.23 LDR, A4.1.24 LDRB with L, bit 20; A4.1.99 STR, A4.1.100 STRB without; D7
unfoldable pub single_at : List ℕ → ℕ → List ℕ → ℕ → ℕ → Outcome × List ℕ × List ℕ
single_at regs op l moved address =
    guarded_of (outside_of (length l) address (bytes_of (byte_or_word_of op)) 1) regs l
    (when op ⟨ 20 ⟩ then beside (load_of regs op moved (read_of l address (byte_or_word_of op))) l
    else store_of regs op l moved address (byte_or_word_of op) (source_of regs op))

unfoldable pub single_of : List ℕ → ℕ → Bool → List ℕ → Outcome × List ℕ × List ℕ
single_of regs op c l =
    single_at regs op l (moved_of regs op (offset_of regs op c)) (address_of regs op (moved_of regs op (offset_of regs op c)))
