-- LDM and STM with S, bit 22 (DDI 0100I, A4.1): transfers of the User bank, and returns from an exception; r15 of the machine is A + 8.
use Rattle.std.specs.Prelude.{Option, Some, None, Result, Ok, Err, List, ℕ, length, get_or}
use Rattle.bits.specs.Cases.{when◌then◌else◌}
use Rattle.bits.specs.Fields.{◌⟨◌⟩}
use Rattle.cpu.specs.declared.Answer.{Answer}
use Rattle.cpu.specs.declared.Answer.TheVariants.{Bus}
use Rattle.cpu.specs.declared.Machine.{Machine}
use Rattle.cpu.specs.With.{with_regs}
use Rattle.banks.specs.Banks.{onward, restored_of, exchanged_to, user_reg_of, with_user_reg}
use Rattle.block.specs.declared.Plan.{Plan}
use Rattle.block.specs.Block.{plan_of, found_of, back_of, stored_list_of, unlisted_of, loaded_list_of, loaded_of}

-- A4.1.98 STM (2): the User bank's registers are stored; Rn is the current bank's, also where it is written back
unfoldable pub user_store_of : Plan → Machine → ℕ → List ℕ → Machine × List ℕ
user_store_of p m op l = (onward (with_regs m (back_of p m.regs op)), stored_list_of p (user_reg_of m) l)

-- the words put into the User bank's registers, r15 by a branch
abbrev pub user_loaded_of : Plan → Machine → List ℕ → Machine
user_loaded_of p m l = loaded_list_of p (λ x r v. with_user_reg x r v) m l

-- A4.1.21 LDM (2)
unfoldable pub user_load_of : Plan → Machine → ℕ → List ℕ → Machine
user_load_of p m op l =
    let loaded : Machine = user_loaded_of p (with_regs m (unlisted_of p m.regs op)) l in
    when p.list ⟨ 15 ⟩ then loaded else onward loaded

-- A4.1.22 LDM (3): the current bank is loaded, then the saved record comes back, then r15 branches; D1: T is bit 0 of its word
unfoldable pub return_load_of : Plan → Machine → ℕ → List ℕ → Machine
return_load_of p m op l =
    let regs : List ℕ = loaded_of p (unlisted_of p m.regs op) l in
    exchanged_to (restored_of (with_regs m regs)) (get_or regs 15 0)

-- which of the three: L, bit 20, and bit 15, which an empty list has clear
unfoldable pub user_moved_of : Plan → Machine → ℕ → List ℕ → Machine × List ℕ
user_moved_of p m op l =
    when op ⟨ 20 ⟩ then (when op ⟨ 15 ⟩ then (return_load_of p m op l, l) else (user_load_of p m op l, l))
    else user_store_of p m op l

-- answer 7 with the first access outside, and memory as before; or what the transfer does
unfoldable pub user_guarded_of : Option ℕ → List ℕ → Machine × List ℕ → Result Machine Answer × List ℕ
user_guarded_of None l done = (Ok done.0, done.1)
user_guarded_of (Some address) l done = (Err (Bus address), l)

unfoldable pub user_block_of : Machine → ℕ → List ℕ → Result Machine Answer × List ℕ
user_block_of m op l =
    user_guarded_of (found_of (plan_of m.regs op) (length l)) l (user_moved_of (plan_of m.regs op) m op l)
