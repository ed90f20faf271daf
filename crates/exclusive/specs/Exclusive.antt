-- Swaps, and loads and stores exclusive, on the sixteen registers and memory; r15 in regs is A + 8. The address is Rn as it stands; D7.
use Rattle.std.specs.Prelude.{Bool, eqb, Option, Some, List, ℕ, ◌+◌, ◌%◌, ◌^◌, length, get_or, set, ◌==◌}
use Rattle.std.specs.Option.{option_eq}
use Rattle.bits.specs.Cases.{when◌then◌else◌}
use Rattle.bits.specs.Fields.{◌⟨◌⟩, ◌⟨◌‥◌⟩}
use Rattle.memory.specs.declared.Width.{Width}
use Rattle.memory.specs.declared.Width.TheVariants.{Byte, Half, Word}
use Rattle.memory.specs.Bytes.{word_at, put_word, bytes_of, read_of, written_of}
use Rattle.memory.specs.Plans.{outside_of}
use Rattle.cpu.specs.declared.Outcome.{Outcome}
use Rattle.cpu.specs.declared.Outcome.TheVariants.{Tagged, Untagged}
use Rattle.cpu.specs.Outcomes.{undefined_of, landed_of}
use Rattle.transfer.specs.Transfers.{guarded_of, beside, byte_or_word_of, base_of}

-- Rm, bits 3-0
abbrev pub source_of : List ℕ → ℕ → ℕ
source_of regs op = get_or regs (op ⟨ 3 ‥ 0 ⟩) 0

-- A4.1.108 SWP, A4.1.109 SWPB: Rd gets what memory held, and memory Rm; D4: bits 21-20 are not looked at
unfoldable pub swap_of : List ℕ → ℕ → List ℕ → Outcome × List ℕ × List ℕ
swap_of regs op l =
    guarded_of (outside_of (length l) (base_of regs op) (bytes_of (byte_or_word_of op)) 1) regs l
    (beside
    (landed_of regs (op ⟨ 15 ‥ 12 ⟩) (read_of l (base_of regs op) (byte_or_word_of op)))
    (written_of l (base_of regs op) (byte_or_word_of op) (source_of regs op)))

-- bits 22-21: 00 a word, 01 a doubleword, 10 a byte, 11 a halfword; a doubleword goes in two words
abbrev pub doubled : ℕ → Bool
doubled op = op ⟨ 22 ‥ 21 ⟩ == 1

unfoldable pub width_of : ℕ → Width
width_of op = when op ⟨ 22 ‥ 21 ⟩ == 2 then Byte else when op ⟨ 22 ‥ 21 ⟩ == 3 then Half else Word

-- the address of a doubleword's second word
abbrev pub second_of : List ℕ → ℕ → ℕ
second_of regs op = (base_of regs op + 4) % 2 ^ 32

-- a value in Rd, r15 by a branch, and the tag at the address
abbrev pub marked_of : List ℕ → ℕ → ℕ → ℕ → Outcome × List ℕ
marked_of regs rd value at = (Tagged at, (landed_of regs rd value).1)

-- A4.1.27 LDREX; DDI 0406C, LDREXB and LDREXH
unfoldable pub ldrex_of : List ℕ → ℕ → List ℕ → Outcome × List ℕ × List ℕ
ldrex_of regs op l =
    guarded_of (outside_of (length l) (base_of regs op) (bytes_of (width_of op)) 1) regs l
    (beside (marked_of regs (op ⟨ 15 ‥ 12 ⟩) (read_of l (base_of regs op) (width_of op)) (base_of regs op)) l)

-- DDI 0406C, LDREXD: r15 first has no partner, and is Undefined; the first register is written as it is
unfoldable pub ldrexd_of : List ℕ → ℕ → List ℕ → Outcome × List ℕ × List ℕ
ldrexd_of regs op l =
    when op ⟨ 15 ‥ 12 ⟩ == 15 then beside (undefined_of regs op) l
    else guarded_of (outside_of (length l) (base_of regs op) 4 2) regs l
    (beside
    (marked_of (set regs (op ⟨ 15 ‥ 12 ⟩) (word_at l (base_of regs op))) (op ⟨ 15 ‥ 12 ⟩ + 1) (word_at l (second_of regs op)) (base_of regs op))
    l)

-- a store succeeds exactly when there is a tag and it is the address; D5: the width of the load is not compared
abbrev pub succeeds : List ℕ → ℕ → Option ℕ → Bool
succeeds regs op tag = option_eq eqb tag (Some (base_of regs op))

-- status 0 in Rd, and the tag goes
abbrev pub succeeded_of : List ℕ → ℕ → Outcome × List ℕ
succeeded_of regs op = (Untagged, (landed_of regs (op ⟨ 15 ‥ 12 ⟩) 0).1)

-- status 1 in Rd, with no access; D5: the tag stays
abbrev pub failed_of : List ℕ → ℕ → Outcome × List ℕ
failed_of regs op = landed_of regs (op ⟨ 15 ‥ 12 ⟩) 1

-- A4.1.103 STREX; DDI 0406C, STREXB and STREXH
unfoldable pub strex_of : List ℕ → ℕ → Option ℕ → List ℕ → Outcome × List ℕ × List ℕ
strex_of regs op tag l =
    when succeeds regs op tag
    then guarded_of (outside_of (length l) (base_of regs op) (bytes_of (width_of op)) 1) regs l
    (beside (succeeded_of regs op) (written_of l (base_of regs op) (width_of op) (source_of regs op)))
    else beside (failed_of regs op) l

-- DDI 0406C, STREXD: r15 first has no partner, and is Undefined before the tag is looked at
unfoldable pub strexd_of : List ℕ → ℕ → Option ℕ → List ℕ → Outcome × List ℕ × List ℕ
strexd_of regs op tag l =
    when op ⟨ 3 ‥ 0 ⟩ == 15 then beside (undefined_of regs op) l
    else when succeeds regs op tag
    then guarded_of (outside_of (length l) (base_of regs op) 4 2) regs l
    (beside
    (succeeded_of regs op)
    (put_word (put_word l (base_of regs op) (source_of regs op)) (second_of regs op) (get_or regs (op ⟨ 3 ‥ 0 ⟩ + 1) 0)))
    else beside (failed_of regs op) l

-- L, bit 20: a load, or a store
unfoldable pub exclusive_of : List ℕ → ℕ → Option ℕ → List ℕ → Outcome × List ℕ × List ℕ
exclusive_of regs op tag l =
    when op ⟨ 20 ⟩ then (when doubled op then ldrexd_of regs op l else ldrex_of regs op l)
    else when doubled op then strexd_of regs op tag l
    else strex_of regs op tag l
