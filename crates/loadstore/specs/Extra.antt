-- LDRH, LDRSB, LDRSH, STRH, LDRD and STRD (DDI 0100I, A4.1 and A5.3), on the sixteen registers and memory; r15 in regs is A + 8.
use Rattle.std.specs.Prelude.{List, ℕ, ◌+◌, ◌*◌, ◌%◌, ◌^◌, length, get_or, set, ◌==◌}
use Rattle.bits.specs.Cases.{when◌then◌else◌}
use Rattle.bits.specs.Fields.{◌⟨◌⟩, ◌⟨◌‥◌⟩}
use Rattle.bits.specs.Words.{extended_of}
use Rattle.memory.specs.declared.Width.TheVariants.{Half}
use Rattle.memory.specs.Bytes.{byte_at, half_at, word_at, put_word}
use Rattle.memory.specs.Plans.{outside_of}
use Rattle.cpu.specs.declared.Answer.TheVariants.{TransferForm}
use Rattle.cpu.specs.declared.Outcome.{Outcome}
use Rattle.cpu.specs.declared.Outcome.TheVariants.{Stop}
use Rattle.cpu.specs.Outcomes.{undefined_of, done_of, landed_of}
use Rattle.transfer.specs.Transfers.{guarded_of, beside, moved_of, address_of, based_of}
use Rattle.loadstore.specs.Single.{rd_of, store_of}

-- A5.3: the offset, with bit 22 eight bits in two halves, else a register
unfoldable pub extra_offset_of : List ℕ → ℕ → ℕ
extra_offset_of regs op =
    when op ⟨ 22 ⟩ then op ⟨ 11 ‥ 8 ⟩ * 16 + op ⟨ 3 ‥ 0 ⟩
    else get_or regs (op ⟨ 3 ‥ 0 ⟩) 0

-- a load of one value into Rd: the base is written back first, so that as Rd it keeps what was loaded; r15 branches and keeps T
abbrev pub extra_load_of : List ℕ → ℕ → List ℕ → ℕ → ℕ → ℕ → ℕ → Outcome × List ℕ × List ℕ
extra_load_of regs op l moved address width value =
    guarded_of (outside_of (length l) address width 1) regs l (beside (landed_of (based_of regs op moved) (rd_of op) value) l)

-- A4.1.104 STRH: r15 is A + 8
abbrev pub strh_of : List ℕ → ℕ → List ℕ → ℕ → ℕ → Outcome × List ℕ × List ℕ
strh_of regs op l moved address =
    guarded_of (outside_of (length l) address 2 1) regs l (store_of regs op l moved address Half (get_or regs (rd_of op) 0))

-- the second word of a pair
abbrev pub next_of : ℕ → ℕ
next_of address = (address + 4) % 2 ^ 32

-- A4.1.26 LDRD: into Rd and the register behind it; r15 as the second branches and keeps T
abbrev pub ldrd_of : List ℕ → ℕ → List ℕ → ℕ → ℕ → Outcome × List ℕ × List ℕ
ldrd_of regs op l moved address =
    guarded_of (outside_of (length l) address 4 2) regs l
    (beside (landed_of (set (based_of regs op moved) (rd_of op) (word_at l address)) (rd_of op + 1) (word_at l (next_of address))) l)

-- A4.1.102 STRD: r15 as the second is A + 8
abbrev pub strd_of : List ℕ → ℕ → List ℕ → ℕ → ℕ → Outcome × List ℕ × List ℕ
strd_of regs op l moved address =
    guarded_of (outside_of (length l) address 4 2) regs l
    (beside (done_of (based_of regs op moved))
    (put_word (put_word l address (get_or regs (rd_of op) 0)) (next_of address) (get_or regs (rd_of op + 1) 0)))

-- the loads of one value, by S and H, bits 6 and 5
unfoldable pub extra_loads_of : List ℕ → ℕ → List ℕ → ℕ → ℕ → Outcome × List ℕ × List ℕ
extra_loads_of regs op l moved address =
    when op ⟨ 6 ‥ 5 ⟩ == 1 then extra_load_of regs op l moved address 2 (half_at l address)  -- A4.1.28 LDRH
    else when op ⟨ 6 ‥ 5 ⟩ == 2 then extra_load_of regs op l moved address 1 (extended_of 8 (byte_at l address))  -- A4.1.29 LDRSB
    else extra_load_of regs op l moved address 2 (extended_of 16 (half_at l address))  -- A4.1.30 LDRSH

-- A5.3, with L, bit 20, and S and H; D4: the first register of a pair may be odd; D7
unfoldable pub extra_at : List ℕ → ℕ → List ℕ → ℕ → ℕ → Outcome × List ℕ × List ℕ
extra_at regs op l moved address =
    when op ⟨ 6 ‥ 5 ⟩ == 0 then (Stop (TransferForm op), regs, l)  -- answer 11
    else when op ⟨ 20 ⟩ then extra_loads_of regs op l moved address
    else when op ⟨ 6 ‥ 5 ⟩ == 1 then strh_of regs op l moved address
    else when rd_of op == 15 then beside (undefined_of regs op) l  -- r15 has no register behind it
    else when op ⟨ 6 ‥ 5 ⟩ == 2 then ldrd_of regs op l moved address
    else strd_of regs op l moved address

unfoldable pub extra_of : List ℕ → ℕ → List ℕ → Outcome × List ℕ × List ℕ
extra_of regs op l =
    extra_at regs op l (moved_of regs op (extra_offset_of regs op)) (address_of regs op (moved_of regs op (extra_offset_of regs op)))
