-- MRS, MSR and CPS (DDI 0100I, A4.1): moves of status words, on the whole machine; r15 in its registers is A + 8.
use Rattle.std.specs.Prelude.{true, false, ◌&&◌, ℕ, get_or, set, ◌==◌}
use Rattle.bits.specs.Cases.{when◌then◌else◌}
use Rattle.bits.specs.Fields.{◌⟨◌⟩, ◌⟨◌‥◌⟩}
use Rattle.psr.specs.declared.Status.{Status}
use Rattle.psr.specs.Status.{mode_of, packed_word_of, privileged, written_of}
use Rattle.psr.specs.With.{with_a, with_i, with_f}
use Rattle.shifter.specs.Shifts.{immediate_of}
use Rattle.cpu.specs.declared.Machine.{Machine}
use Rattle.cpu.specs.With.{with_regs, with_cpsr, with_spsr}
use Rattle.banks.specs.Banks.{mode, switched_of, onward}

-- A4.1.38 MRS: the packed word of the saved or the current record in Rd
unfoldable pub mrs_of : Machine → ℕ → Machine
mrs_of m op =
    onward (with_regs m (set m.regs (op ⟨ 15 ‥ 12 ⟩) (packed_word_of (when op ⟨ 22 ⟩ then m.spsr else m.cpsr))))

-- A4.1.39 MSR: an immediate or Rm
unfoldable pub msr_value_of : Machine → ℕ → ℕ
msr_value_of m op =
    when op ⟨ 25 ⟩ then (immediate_of (op ⟨ 7 ‥ 0 ⟩) (op ⟨ 11 ‥ 8 ⟩) false).value
    else get_or m.regs (op ⟨ 3 ‥ 0 ⟩) 0

-- written under the field mask into the saved record,
abbrev pub saved_written_of : Machine → ℕ → Status
saved_written_of m op = written_of m.spsr (msr_value_of m op) (op ⟨ 19 ‥ 16 ⟩) true

-- or into the current one, in User mode only its flags
abbrev pub current_written_of : Machine → ℕ → Status
current_written_of m op = written_of m.cpsr (msr_value_of m op) (op ⟨ 19 ‥ 16 ⟩) (privileged (mode m))

-- the banks follow the mode that is written
unfoldable pub msr_of : Machine → ℕ → Machine
msr_of m op =
    when op ⟨ 22 ⟩ then onward (with_spsr m (saved_written_of m op))
    else onward (with_cpsr (switched_of m (current_written_of m op).mode) (current_written_of m op))

-- A4.1.16 CPS: with imod of 10 or 11 (bit 19) A, I and F become bit 18 where bits 8, 7 and 6 name them
unfoldable pub cps_status_of : Status → ℕ → Status
cps_status_of s op =
    when op ⟨ 19 ⟩ then with_f (with_i (with_a s (when op ⟨ 8 ⟩ then op ⟨ 18 ⟩ else s.a)) (when op ⟨ 7 ⟩ then op ⟨ 18 ⟩ else s.i)) (when op ⟨ 6 ⟩ then op ⟨ 18 ⟩ else s.f)
    else s

-- with mmod (bit 17) the mode changes; in User mode, and for the codes beside CPS (SETEND: D2), nothing does
unfoldable pub cps_of : Machine → ℕ → Machine
cps_of m op =
    when (op ⟨ 27 ‥ 20 ⟩ == 0b00010000) && privileged (mode m) then
    (when op ⟨ 17 ⟩ then onward (switched_of (with_cpsr m (cps_status_of m.cpsr op)) (mode_of (op ⟨ 4 ‥ 0 ⟩)))
    else onward (with_cpsr m (cps_status_of m.cpsr op)))
    else onward m

-- which of the three: condition 15 has CPS, bit 21 tells MSR from MRS
unfoldable pub moves_of : Machine → ℕ → Machine
moves_of m op =
    when op ⟨ 31 ‥ 28 ⟩ == 15 then cps_of m op
    else when op ⟨ 21 ⟩ then msr_of m op
    else mrs_of m op
