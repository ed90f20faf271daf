-- What every transfer shares: its width, the base and its move, write-back, and the rule that nothing changes until every access is known to lie inside.
use Rattle.std.specs.Prelude.{Bool, not, ◌||◌, Option, Some, None, List, ℕ, ◌+◌, ◌-◌, ◌%◌, ◌^◌, get_or, set}
use Rattle.bits.specs.Cases.{when◌then◌else◌}
use Rattle.bits.specs.Fields.{◌⟨◌⟩, ◌⟨◌‥◌⟩}
use Rattle.memory.specs.declared.Width.{Width}
use Rattle.memory.specs.declared.Width.TheVariants.{Byte, Word}
use Rattle.cpu.specs.declared.Outcome.{Outcome}
use Rattle.cpu.specs.declared.Answer.TheVariants.{Bus}
use Rattle.cpu.specs.declared.Outcome.TheVariants.{Stop}

-- answer 7 with the first access outside, all else as before; or what the transfer does
unfoldable pub guarded_of : Option ℕ → List ℕ → List ℕ → Outcome × List ℕ × List ℕ → Outcome × List ℕ × List ℕ
guarded_of None regs l done = done
guarded_of (Some address) regs l done = (Stop (Bus address), regs, l)

-- a family that leaves memory alone
abbrev pub beside : Outcome × List ℕ → List ℕ → Outcome × List ℕ × List ℕ
beside x l = (x.0, x.1, l)

-- B, bit 22: a byte, or a word
unfoldable pub byte_or_word_of : ℕ → Width
byte_or_word_of op = when op ⟨ 22 ⟩ then Byte else Word

-- A5.2, A5.3: Rn, bits 19-16
abbrev pub base_of : List ℕ → ℕ → ℕ
base_of regs op = get_or regs (op ⟨ 19 ‥ 16 ⟩) 0

-- U, bit 23: the offset is added to the base, or subtracted; addresses wrap at 32 bits
unfoldable pub moved_of : List ℕ → ℕ → ℕ → ℕ
moved_of regs op offset =
    when op ⟨ 23 ⟩ then (base_of regs op + offset) % 2 ^ 32
    else (base_of regs op + (2 ^ 32 - offset)) % 2 ^ 32

-- P, bit 24: the access is at the moved base, or at the base itself
unfoldable pub address_of : List ℕ → ℕ → ℕ → ℕ
address_of regs op moved = when op ⟨ 24 ⟩ then moved else base_of regs op

-- the base is written back with W, bit 21, and always when the access was at the base itself
abbrev pub writes_back : ℕ → Bool
writes_back op = not (op ⟨ 24 ⟩) || op ⟨ 21 ⟩

unfoldable pub based_of : List ℕ → ℕ → ℕ → List ℕ
based_of regs op moved = when writes_back op then set regs (op ⟨ 19 ‥ 16 ⟩) moved else regs
