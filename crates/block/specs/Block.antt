-- LDM and STM (DDI 0100I, A5.4 and A4.1): the list, where its words lie, and what moves; r15 in regs is A + 8.
use Rattle.std.specs.Prelude.{Bool, ◌&&◌, Option, List, [], ◌∷◌, map, ℕ, zero, suc, ◌+◌, ◌*◌, ◌%◌, ◌^◌, length, get_or, set, drop, ◌==◌}
use Rattle.bits.specs.Cases.{when◌then◌else◌, ◌<?◌}
use Rattle.bits.specs.Fields.{◌⟨◌⟩, ◌⟨◌‥◌⟩}
use Rattle.bits.specs.Words.{ones_of}
use Rattle.memory.specs.Plans.{accesses_of, outside_of, words_at, stored_of}
use Rattle.cpu.specs.declared.Outcome.{Outcome}
use Rattle.cpu.specs.declared.Outcome.TheVariants.{Block}
use Rattle.cpu.specs.Outcomes.{done_of, exchanged_of}
use Rattle.transfer.specs.Transfers.{guarded_of, beside, base_of, moved_of}
use Rattle.block.specs.declared.Plan.{Plan}

-- register_list, bits 15-0; an empty one moves r15 alone (document 01, section 5)
unfoldable pub list_of : ℕ → ℕ
list_of op = when op ⟨ 15 ‥ 0 ⟩ == 0 then 2 ^ 15 else op ⟨ 15 ‥ 0 ⟩

-- of the n registers from i on, those whose bit is set
unfoldable pub listed_from : ℕ → ℕ → ℕ → List ℕ
listed_from list i zero = []
listed_from list i (suc n) = when list ⟨ i ⟩ then i ∷ listed_from list (i + 1) n else listed_from list (i + 1) n

-- "for i = 0 to 15, if register_list[i] == 1"
abbrev pub registers_of : ℕ → List ℕ
registers_of list = listed_from list 0 16

-- Number_Of_Set_Bits_In(register_list)
abbrev pub count_of : ℕ → ℕ
count_of list = ones_of 32 list

-- what the base moves by: four bytes a register, 0x40 where the list is empty
unfoldable pub span_of : ℕ → ℕ
span_of op = when op ⟨ 15 ‥ 0 ⟩ == 0 then 0x40 else 4 * count_of (list_of op)

-- A5.4: start_address by P and U, bits 24 and 23; moved is Rn moved by the span
unfoldable pub start_of : List ℕ → ℕ → ℕ → ℕ
start_of regs op moved =
    when op ⟨ 24 ‥ 23 ⟩ == 1 then base_of regs op  -- A5.4.2 Increment after
    else when op ⟨ 24 ‥ 23 ⟩ == 3 then (base_of regs op + 4) % 2 ^ 32  -- A5.4.3 Increment before
    else when op ⟨ 24 ‥ 23 ⟩ == 0 then (moved + 4) % 2 ^ 32  -- A5.4.4 Decrement after
    else moved  -- A5.4.5 Decrement before

-- A5.4: what a transfer is told: its list, start_address, and the moved base
unfoldable pub plan_of : List ℕ → ℕ → Plan
plan_of regs op =
    let moved : ℕ = moved_of regs op (span_of op) in
    record { list = list_of op; start = start_of regs op moved; moved = moved }

-- the first access outside, where there is one
abbrev pub found_of : Plan → ℕ → Option ℕ
found_of p len = outside_of len p.start 4 (count_of p.list)

-- W, bit 21: Rn becomes the moved base
unfoldable pub back_of : Plan → List ℕ → ℕ → List ℕ
back_of p regs op = when op ⟨ 21 ⟩ then set regs (op ⟨ 19 ‥ 16 ⟩) p.moved else regs

-- Rn is stored moved: it is written back, and a lower register is in the list
abbrev pub stores_moved : Plan → ℕ → Bool
stores_moved p op = op ⟨ 21 ⟩ && (0 <? p.list % 2 ^ (op ⟨ 19 ‥ 16 ⟩))

-- what is stored of register r; of r15 it is A + 12
unfoldable pub source_of : Plan → List ℕ → ℕ → ℕ → ℕ
source_of p regs op r =
    when r == 15 then (get_or regs 15 0 + 4) % 2 ^ 32
    else when (r == op ⟨ 19 ‥ 16 ⟩) && stores_moved p op then p.moved
    else get_or regs r 0

-- memory with a value for each register of the list, in transfer order
abbrev pub stored_list_of : Plan → (ℕ → ℕ) → List ℕ → List ℕ
stored_list_of p source l = stored_of l p.start (count_of p.list) (map source (registers_of p.list))

-- A4.1.97 STM (1)
unfoldable pub store_of : Plan → List ℕ → ℕ → List ℕ → Outcome × List ℕ × List ℕ
store_of p regs op l = beside (done_of (back_of p regs op)) (stored_list_of p (source_of p regs op) l)

-- W before a load: an Rn that is in the list keeps what is loaded
unfoldable pub unlisted_of : Plan → List ℕ → ℕ → List ℕ
unlisted_of p regs op = when p.list ⟨ op ⟨ 19 ‥ 16 ⟩ ⟩ then regs else back_of p regs op

-- the words put into the registers one after another
unfoldable pub put_each : {A : Type 0} → (A → ℕ → ℕ → A) → A → List ℕ → List ℕ → A
put_each put x [] words = x
put_each put x (r ∷ rest) words = put_each put (put x r (get_or words 0 0)) rest (drop 1 words)

-- a word for each register of the list, in transfer order
abbrev pub loaded_list_of : {A : Type 0} → Plan → (A → ℕ → ℕ → A) → A → List ℕ → A
loaded_list_of p put x l = put_each put x (registers_of p.list) (words_at l (accesses_of p.start 4 (count_of p.list)))

abbrev pub loaded_of : Plan → List ℕ → List ℕ → List ℕ
loaded_of p regs l = loaded_list_of p (λ x r v. set x r v) regs l

-- where r15 was loaded a branch that takes T from bit 0 of its word, else the next instruction
unfoldable pub continued_of : Plan → List ℕ → Outcome × List ℕ
continued_of p regs = when p.list ⟨ 15 ⟩ then exchanged_of regs (get_or regs 15 0) else done_of regs

-- A4.1.20 LDM (1)
unfoldable pub load_of : Plan → List ℕ → ℕ → List ℕ → Outcome × List ℕ × List ℕ
load_of p regs op l = beside (continued_of p (loaded_of p (unlisted_of p regs op) l)) l

-- the instruction, S clear; with S (bit 22) it waits for the whole machine
unfoldable pub block_of : List ℕ → ℕ → List ℕ → Outcome × List ℕ × List ℕ
block_of regs op l =
    when op ⟨ 22 ⟩ then (Block, regs, l)
    else guarded_of (found_of (plan_of regs op) (length l)) regs l
    (when op ⟨ 20 ⟩ then load_of (plan_of regs op) regs op l else store_of (plan_of regs op) regs op l)
