-- Banked registers (DDI 0100I, A2.3 and A2.5): what each register and saved record holds after a change of mode, a return, and a move to or from the User bank.
use Rattle.std.specs.Prelude.{Bool, true, false, not, ◌&&◌, List, [], ◌∷◌, ℕ, ◌+◌, ◌-◌, ◌*◌, ◌/◌, ◌%◌, ◌^◌, get_or, set, ◌==◌}
use Rattle.bits.specs.Cases.{when◌then◌else◌, ◌<?◌}
use Rattle.bits.specs.Fields.{◌⟨◌⟩}
use Rattle.psr.specs.declared.Status.{Status}
use Rattle.psr.specs.declared.Mode.{Mode}
use Rattle.psr.specs.declared.Mode.TheVariants.{User, Fiq, Irq, Supervisor, Abort, Undefined, System}
use Rattle.psr.specs.Status.{mode_number}
use Rattle.psr.specs.With.{with_mode, with_t}
use Rattle.cpu.specs.declared.Machine.{Machine}
use Rattle.cpu.specs.Answers.{no_status}
use Rattle.cpu.specs.Outcomes.{advanced}
use Rattle.cpu.specs.With.{with_regs, with_cpsr, with_spsr, with_banked, with_saved, with_fiq, with_user}

-- A2.3: the bank of a mode's r13 and r14 (document 01, section 1); User and System share theirs
abbrev pub bank_of : Mode → ℕ
bank_of Fiq = 0
bank_of Irq = 1
bank_of Supervisor = 2
bank_of Abort = 3
bank_of Undefined = 4
bank_of User = 5
bank_of System = 5

-- FIQ alone has r8 to r12 of its own
abbrev pub is_fiq : Mode → Bool
is_fiq Fiq = true
is_fiq Irq = false
is_fiq Supervisor = false
is_fiq Abort = false
is_fiq Undefined = false
is_fiq User = false
is_fiq System = false

-- A2.5: User and System have no saved record
abbrev pub has_saved : Mode → Bool
has_saved mode = bank_of mode <? 5

abbrev pub mode : Machine → Mode
mode m = m.cpsr.mode

abbrev pub r8to12 : List ℕ → List ℕ
r8to12 regs = get_or regs 8 0 ∷ get_or regs 9 0 ∷ get_or regs 10 0 ∷ get_or regs 11 0 ∷ get_or regs 12 0 ∷ []

abbrev pub with_r8to12 : List ℕ → List ℕ → List ℕ
with_r8to12 regs x = set (set (set (set (set regs 8 (get_or x 0 0)) 9 (get_or x 1 0)) 10 (get_or x 2 0)) 11 (get_or x 3 0)) 12 (get_or x 4 0)

-- What the banks hold once the mode that is left has put its registers away:
-- r13 and r14 in its own bank,
abbrev pub pairs_kept : Machine → List ℕ
pairs_kept m = set (set m.banked (2 * bank_of (mode m)) (get_or m.regs 13 0)) (2 * bank_of (mode m) + 1) (get_or m.regs 14 0)

-- its saved record, where it has one,
unfoldable pub saved_kept : Machine → List Status
saved_kept m = when has_saved (mode m) then set m.saved (bank_of (mode m)) m.spsr else m.saved

-- and r8 to r12, in FIQ's own place, or for the other modes where FIQ is entered.
unfoldable pub fiq_kept : Machine → List ℕ
fiq_kept m = when is_fiq (mode m) then r8to12 m.regs else m.fiq

unfoldable pub user_kept : Machine → Mode → List ℕ
user_kept m new = when not (is_fiq (mode m)) && is_fiq new then r8to12 m.regs else m.user

-- What the registers are in the mode that is entered: r13 and r14 are what its bank holds,
abbrev pub pair_taken : Machine → Mode → List ℕ
pair_taken m new = set (set m.regs 13 (get_or (pairs_kept m) (2 * bank_of new) 0)) 14 (get_or (pairs_kept m) (2 * bank_of new + 1) 0)

-- r8 to r12 are FIQ's where FIQ is entered, and those of the other modes where it is left,
unfoldable pub regs_taken : Machine → Mode → List ℕ
regs_taken m new =
    when is_fiq new then with_r8to12 (pair_taken m new) (fiq_kept m)
    else when is_fiq (mode m) then with_r8to12 (pair_taken m new) (user_kept m new)
    else pair_taken m new

-- and the saved record is that of its bank; entering User or System leaves it standing.
unfoldable pub spsr_taken : Machine → Mode → Status
spsr_taken m new = when has_saved new then get_or (saved_kept m) (bank_of new) no_status else m.spsr

unfoldable pub entered_of : Machine → Mode → Machine
entered_of m new =
    let kept : Machine = with_user (with_fiq (with_saved (with_banked m (pairs_kept m)) (saved_kept m)) (fiq_kept m)) (user_kept m new) in
    with_regs (with_cpsr (with_spsr kept (spsr_taken m new)) (with_mode m.cpsr new)) (regs_taken m new)

unfoldable pub switched_of : Machine → Mode → Machine
switched_of m new = when mode_number (mode m) == mode_number new then m else entered_of m new

-- the saved record becomes current, its mode's banks with it (A2.6, return from an exception)
unfoldable pub restored_of : Machine → Machine
restored_of m = with_cpsr (switched_of m m.spsr.mode) m.spsr

-- the machine at the next instruction
abbrev pub onward : Machine → Machine
onward m = with_regs m (advanced m.regs)

-- a branch in the machine's own state: T says how r15 is masked
unfoldable pub branched_to : Machine → ℕ → Machine
branched_to m to = with_regs m (set m.regs 15 (when m.cpsr.t then to / 2 * 2 else to / 4 * 4))

-- a data operation with S into r15: the saved record first, then r15 masked by the new T (document 01, section 4)
unfoldable pub returned_of : Machine → ℕ → Machine
returned_of m to = branched_to (restored_of m) to

-- a branch that takes T from bit 0 of its target
unfoldable pub exchanged_to : Machine → ℕ → Machine
exchanged_to m to = branched_to (with_cpsr m (with_t m.cpsr (to ⟨ 0 ⟩))) to

-- A4.1.21 LDM (2), A4.1.98 STM (2): register r of the User bank, read from any mode; r15 is A + 12
unfoldable pub user_reg_of : Machine → ℕ → ℕ
user_reg_of m r =
    when r <? 8 then get_or m.regs r 0
    else when r <? 13 then (when is_fiq (mode m) then get_or m.user (r - 8) 0 else get_or m.regs r 0)
    else when r <? 15 then (when has_saved (mode m) then get_or m.banked (r - 3) 0 else get_or m.regs r 0)
    else (get_or m.regs 15 0 + 4) % 2 ^ 32

-- and written; bank 5 stands at 10 and 11, so r13 is at 13 - 3
unfoldable pub with_user_reg : Machine → ℕ → ℕ → Machine
with_user_reg m r value =
    when r <? 8 then with_regs m (set m.regs r value)
    else when r <? 13 then (when is_fiq (mode m) then with_user m (set m.user (r - 8) value) else with_regs m (set m.regs r value))
    else when r <? 15 then (when has_saved (mode m) then with_banked m (set m.banked (r - 3) value) else with_regs m (set m.regs r value))
    else exchanged_to m value
