-- A machine with one field replaced: the only definitions that list the fields.
use Rattle.std.specs.Prelude.{List, ℕ, Option}
use Rattle.psr.specs.declared.Status.{Status}
use Rattle.cpu.specs.declared.Machine.{Machine}

abbrev pub with_regs : Machine → List ℕ → Machine
with_regs m x = record { regs = x; cpsr = m.cpsr; spsr = m.spsr; banked = m.banked; saved = m.saved; fiq = m.fiq; user = m.user; tag = m.tag }

abbrev pub with_cpsr : Machine → Status → Machine
with_cpsr m x = record { regs = m.regs; cpsr = x; spsr = m.spsr; banked = m.banked; saved = m.saved; fiq = m.fiq; user = m.user; tag = m.tag }

abbrev pub with_spsr : Machine → Status → Machine
with_spsr m x = record { regs = m.regs; cpsr = m.cpsr; spsr = x; banked = m.banked; saved = m.saved; fiq = m.fiq; user = m.user; tag = m.tag }

abbrev pub with_banked : Machine → List ℕ → Machine
with_banked m x = record { regs = m.regs; cpsr = m.cpsr; spsr = m.spsr; banked = x; saved = m.saved; fiq = m.fiq; user = m.user; tag = m.tag }

abbrev pub with_saved : Machine → List Status → Machine
with_saved m x = record { regs = m.regs; cpsr = m.cpsr; spsr = m.spsr; banked = m.banked; saved = x; fiq = m.fiq; user = m.user; tag = m.tag }

abbrev pub with_fiq : Machine → List ℕ → Machine
with_fiq m x = record { regs = m.regs; cpsr = m.cpsr; spsr = m.spsr; banked = m.banked; saved = m.saved; fiq = x; user = m.user; tag = m.tag }

abbrev pub with_user : Machine → List ℕ → Machine
with_user m x = record { regs = m.regs; cpsr = m.cpsr; spsr = m.spsr; banked = m.banked; saved = m.saved; fiq = m.fiq; user = x; tag = m.tag }

abbrev pub with_tag : Machine → Option ℕ → Machine
with_tag m x = record { regs = m.regs; cpsr = m.cpsr; spsr = m.spsr; banked = m.banked; saved = m.saved; fiq = m.fiq; user = m.user; tag = x }
