-- Branches and CLZ (DDI 0100I, A4.1), on the sixteen registers; r15 in regs is A + 8.
use Rattle.std.specs.Prelude.{true, List, ℕ, ◌+◌, ◌-◌, ◌*◌, ◌/◌, ◌%◌, ◌^◌, pos, ◌+ℤ◌, ◌*ℤ◌, get_or, set, ◌==◌}
use Rattle.bits.specs.Cases.{when◌then◌else◌}
use Rattle.bits.specs.Fields.{◌⟨◌⟩, ◌⟨◌‥◌⟩, bit_of}
use Rattle.bits.specs.Integers.{signed, wrap}
use Rattle.bits.specs.Words.{zeros_above}
use Rattle.cpu.specs.declared.Outcome.{Outcome}
use Rattle.cpu.specs.declared.Outcome.TheVariants.{Exchange}
use Rattle.cpu.specs.Outcomes.{jumped_of, put_of, exchanged_of}

-- r14 becomes the address of the next instruction, A + 4
abbrev pub linked : List ℕ → List ℕ
linked regs = set regs 14 ((get_or regs 15 0 + (2 ^ 32 - 4)) % 2 ^ 32)

-- signed_immed_24 times four from A + 8
unfoldable pub target_of : List ℕ → ℕ → ℕ
target_of regs op = wrap 32 (pos (get_or regs 15 0) +ℤ signed 24 (op ⟨ 23 ‥ 0 ⟩) *ℤ pos 4)

-- A4.1.5 B, BL
unfoldable pub branch_of : List ℕ → ℕ → Outcome × List ℕ
branch_of regs op =
    when op ⟨ 24 ⟩ then jumped_of (linked regs) (target_of regs op)
    else jumped_of regs (target_of regs op)

-- A4.1.10 BX, A4.1.9 BLX (2); D4: bits 22-21 are not looked at
unfoldable pub branch_exchange_of : List ℕ → ℕ → Outcome × List ℕ
branch_exchange_of regs op =
    when op ⟨ 7 ‥ 4 ⟩ == 3 then exchanged_of (linked regs) (get_or regs (op ⟨ 3 ‥ 0 ⟩) 0)
    else exchanged_of regs (get_or regs (op ⟨ 3 ‥ 0 ⟩) 0)

-- A4.1.8 BLX (1): always to Thumb state; bit 24 is bit 1 of the target
unfoldable pub branch_link_exchange_of : List ℕ → ℕ → Outcome × List ℕ
branch_link_exchange_of regs op =
    (Exchange true, set (linked regs) 15 ((target_of regs op + bit_of (op ⟨ 24 ⟩) * 2) % 2 ^ 32 / 2 * 2))

-- A4.1.13 CLZ
unfoldable pub clz_of : List ℕ → ℕ → Outcome × List ℕ
clz_of regs op = put_of regs (op ⟨ 15 ‥ 12 ⟩) (zeros_above 32 (get_or regs (op ⟨ 3 ‥ 0 ⟩) 0))
