-- Data-processing instructions (DDI 0100I, A3.4 and A5.1): the operands, the sixteen operations, and where the result goes.
use Rattle.std.specs.Prelude.{Bool, not, ◌&&◌, List, ℕ, ◌+◌, ◌-◌, ◌%◌, ◌^◌, get_or, set, ◌==◌}
use Rattle.std.specs.Int.Bits.{bit_and, bit_or, bit_xor}
use Rattle.bits.specs.Cases.{when◌then◌else◌}
use Rattle.bits.specs.Fields.{◌⟨◌⟩, ◌⟨◌‥◌⟩}
use Rattle.alu.specs.declared.Sum.{Sum}
use Rattle.alu.specs.Sums.{add_of, adc_of, sub_of, sbc_of}
use Rattle.shifter.specs.declared.Operand.{Operand}
use Rattle.shifter.specs.Shifts.{type_of, by_immediate_of, by_register_of, immediate_of}
use Rattle.cpu.specs.declared.Outcome.{Outcome}
use Rattle.cpu.specs.declared.Outcome.TheVariants.{Return}
use Rattle.cpu.specs.Outcomes.{flags_of, advanced, done_of, landed_of}

-- a shift amount in a register: the instruction takes a cycle more, and r15 reads A + 12 (A2.4.3, A5.1.6)
abbrev pub shifts_by_register : ℕ → Bool
shifts_by_register op = not (op ⟨ 25 ⟩) && op ⟨ 4 ⟩

-- a register as an instruction reads it, r15 being A + 8, or A + 12 where it is read late
unfoldable pub read_of : List ℕ → ℕ → Bool → ℕ
read_of regs r late = when (r == 15) && late then (get_or regs 15 0 + 4) % 2 ^ 32 else get_or regs r 0

-- A5.1: shifter_operand and shifter_carry_out
unfoldable pub operand_of : List ℕ → ℕ → Bool → Operand
operand_of regs op c =
    when op ⟨ 25 ⟩ then immediate_of (op ⟨ 7 ‥ 0 ⟩) (op ⟨ 11 ‥ 8 ⟩) c
    else when op ⟨ 4 ⟩ then by_register_of (type_of (op ⟨ 6 ‥ 5 ⟩)) (read_of regs (op ⟨ 3 ‥ 0 ⟩) (shifts_by_register op)) (read_of regs (op ⟨ 11 ‥ 8 ⟩) (shifts_by_register op) ⟨ 7 ‥ 0 ⟩) c
    else by_immediate_of (type_of (op ⟨ 6 ‥ 5 ⟩)) (read_of regs (op ⟨ 3 ‥ 0 ⟩) (shifts_by_register op)) (op ⟨ 11 ‥ 7 ⟩) c

-- Rn
abbrev pub first_of : List ℕ → ℕ → ℕ
first_of regs op = read_of regs (op ⟨ 19 ‥ 16 ⟩) (shifts_by_register op)

-- a logical operation takes C from the shifter and keeps V
abbrev pub logical : ℕ → Bool → Bool → Sum
logical value shifter v = record { value = value; carry = shifter; overflow = v }

-- the complement of a word
abbrev complement : ℕ → ℕ
complement x = (2 ^ 32 - 1) - x

-- A3.4, Table A3-2: operation k on Rn = a and shifter_operand = b, with the shifter's carry, C and V
unfoldable pub result_of : ℕ → ℕ → ℕ → Bool → Bool → Bool → Sum
result_of k a b shifter c v =
    when k == 0 then logical (bit_and a b) shifter v  -- AND
    else when k == 1 then logical (bit_xor a b) shifter v  -- EOR
    else when k == 2 then sub_of a b  -- SUB
    else when k == 3 then sub_of b a  -- RSB
    else when k == 4 then add_of a b  -- ADD
    else when k == 5 then adc_of a b c  -- ADC
    else when k == 6 then sbc_of a b c  -- SBC
    else when k == 7 then sbc_of b a c  -- RSC
    else when k == 8 then logical (bit_and a b) shifter v  -- TST
    else when k == 9 then logical (bit_xor a b) shifter v  -- TEQ
    else when k == 10 then sub_of a b  -- CMP
    else when k == 11 then add_of a b  -- CMN
    else when k == 12 then logical (bit_or a b) shifter v  -- ORR
    else when k == 13 then logical b shifter v  -- MOV
    else when k == 14 then logical (bit_and a (complement b)) shifter v  -- BIC
    else logical (complement b) shifter v  -- MVN

-- bits 24-23 of 10: TST, TEQ, CMP and CMN write no register
abbrev pub compares : ℕ → Bool
compares op = op ⟨ 24 ‥ 23 ⟩ == 2

-- N, Z, C and V of a result, and the next instruction
abbrev pub flagged_of : List ℕ → Sum → Outcome × List ℕ
flagged_of regs x = (flags_of x.value x.carry x.overflow, advanced regs)

-- where the result goes; with S into r15 the saved record comes back first, so the registers wait
unfoldable pub placed_of : List ℕ → ℕ → Sum → Outcome × List ℕ
placed_of regs op x =
    when compares op then (when op ⟨ 20 ⟩ then flagged_of regs x else done_of regs)
    else when op ⟨ 20 ⟩ then (when op ⟨ 15 ‥ 12 ⟩ == 15 then (Return x.value, regs) else flagged_of (set regs (op ⟨ 15 ‥ 12 ⟩) x.value) x)
    else landed_of regs (op ⟨ 15 ‥ 12 ⟩) x.value

-- the instruction: r15 in regs is A + 8
unfoldable pub dataproc_of : List ℕ → ℕ → Bool → Bool → Outcome × List ℕ
dataproc_of regs op c v =
    placed_of regs op
    (result_of (op ⟨ 24 ‥ 21 ⟩) (first_of regs op) (operand_of regs op c).value (operand_of regs op c).carry c v)
