-- The ARMv6 media instructions (DDI 0100I, A3.16 and A4.1; DDI 0406C for RBIT) on the sixteen registers; r15 in regs is A + 8.
use Rattle.std.specs.Prelude.{Bool, false, not, ◌&&◌, ◌||◌, List, ℕ, ◌+◌, get_or, set, ◌==◌, Option, Some, None}
use Rattle.bits.specs.Cases.{when◌then◌else◌, ◌<?◌}
use Rattle.bits.specs.Fields.{◌⟨◌⟩, ◌⟨◌‥◌⟩}
use Rattle.bits.specs.Words.{lanes_of, joined_of, rev_of, rev16_of, revsh_of, reversed_of}
use Rattle.shifter.specs.declared.ShiftType.TheVariants.{Lsl, Asr}
use Rattle.shifter.specs.Shifts.{by_immediate_of}
use Rattle.products.specs.Duals.{smuad_of, smlad_of, smlald_of, smmul_of, smmla_of}
use Rattle.lanes.specs.declared.Variant.{Variant}
use Rattle.lanes.specs.declared.Variant.TheVariants.{Signed, Saturating, SignedHalving, Unsigned, UnsignedSaturating, UnsignedHalving}
use Rattle.lanes.specs.declared.Operation.{Operation}
use Rattle.lanes.specs.declared.Operation.TheVariants.{Add16, Asx, Sax, Sub16, Add8, Sub8}
use Rattle.lanes.specs.declared.Extension.{Extension}
use Rattle.lanes.specs.declared.Extension.TheVariants.{Sxtab16, Sxtab, Sxtah, Uxtab16, Uxtab, Uxtah}
use Rattle.lanes.specs.declared.Combined.{Combined}
use Rattle.lanes.specs.Parallel.{parallel_of}
use Rattle.lanes.specs.Bytes.{sel_of, usad8_of, usada8_of}
use Rattle.lanes.specs.Packing.{pkhbt_of, pkhtb_of, extend_of}
use Rattle.lanes.specs.Saturation.{ssat_of, usat_of, ssat16_of, usat16_of}
use Rattle.cpu.specs.declared.Outcome.{Outcome}
use Rattle.cpu.specs.declared.Outcome.TheVariants.{Lanes}
use Rattle.cpu.specs.Outcomes.{advanced, put_of, undefined_of}
use Rattle.multiply.specs.Multiply.{long_put_of, marked_of}

-- what the registers named by bits 3-0, 11-8, 15-12 and 19-16 hold
abbrev pub low : List ℕ → ℕ → ℕ
low regs op = get_or regs (op ⟨ 3 ‥ 0 ⟩) 0

abbrev pub second : List ℕ → ℕ → ℕ
second regs op = get_or regs (op ⟨ 11 ‥ 8 ⟩) 0

abbrev pub third : List ℕ → ℕ → ℕ
third regs op = get_or regs (op ⟨ 15 ‥ 12 ⟩) 0

abbrev pub high : List ℕ → ℕ → ℕ
high regs op = get_or regs (op ⟨ 19 ‥ 16 ⟩) 0

-- bits 22-20 of k and bits 7-5 of n
abbrev pub coded : ℕ → ℕ → ℕ → Bool
coded op k n = (op ⟨ 22 ‥ 20 ⟩ == k) && (op ⟨ 7 ‥ 5 ⟩ == n)

-- ---- parallel add and subtract, bits 24-23 of 00

-- bits 22-20: S, Q, SH, U, UQ, UH; 000 and 100 are unallocated
unfoldable pub variant_of : ℕ → Option Variant
variant_of k =
    when k == 1 then Some Signed
    else when k == 2 then Some Saturating
    else when k == 3 then Some SignedHalving
    else when k == 5 then Some Unsigned
    else when k == 6 then Some UnsignedSaturating
    else when k == 7 then Some UnsignedHalving
    else None

-- bits 7-5; 101 and 110 are unallocated
unfoldable pub operation_of : ℕ → Option Operation
operation_of k =
    when k == 0 then Some Add16
    else when k == 1 then Some Asx
    else when k == 2 then Some Sax
    else when k == 3 then Some Sub16
    else when k == 4 then Some Add8
    else when k == 7 then Some Sub8
    else None

-- the codes that have both (Laws.Codes, allocated_is)
abbrev pub allocated : ℕ → Bool
allocated op = not (op ⟨ 21 ‥ 20 ⟩ == 0) && ((op ⟨ 7 ‥ 5 ⟩ <? 5) || (op ⟨ 7 ‥ 5 ⟩ == 7))

-- a result in Rd, with GE where there is one
unfoldable pub put_with : List ℕ → ℕ → ℕ → Option ℕ → Outcome × List ℕ
put_with regs rd value (Some ge) = (Lanes ge, advanced (set regs rd value))
put_with regs rd value None = put_of regs rd value

unfoldable pub combined_of : List ℕ → ℕ → Combined → Outcome × List ℕ
combined_of regs op x = put_with regs (op ⟨ 15 ‥ 12 ⟩) (joined_of x.lanes) x.ge

unfoldable pub in_parallel_of : List ℕ → ℕ → Option Variant → Option Operation → Outcome × List ℕ
in_parallel_of regs op (Some v) (Some o) = combined_of regs op (parallel_of v o (lanes_of (high regs op)) (lanes_of (low regs op)))
in_parallel_of regs op (Some v) None = undefined_of regs op
in_parallel_of regs op None o = undefined_of regs op

unfoldable pub parallel_family_of : List ℕ → ℕ → Outcome × List ℕ
parallel_family_of regs op = in_parallel_of regs op (variant_of (op ⟨ 22 ‥ 20 ⟩)) (operation_of (op ⟨ 7 ‥ 5 ⟩))

-- ---- packing, saturation, extension and reversal, bits 24-23 of 01

-- Rm shifted by bits 11-7: ASR where bit 6 is set (0 stands for 32), else LSL
unfoldable pub shifted_of : List ℕ → ℕ → ℕ
shifted_of regs op =
    when op ⟨ 6 ⟩ then (by_immediate_of Asr (low regs op) (op ⟨ 11 ‥ 7 ⟩) false).value
    else (by_immediate_of Lsl (low regs op) (op ⟨ 11 ‥ 7 ⟩) false).value

-- A4.1.43 PKHBT, A4.1.44 PKHTB
unfoldable pub packed_of : List ℕ → ℕ → Outcome × List ℕ
packed_of regs op =
    when op ⟨ 6 ⟩ then put_of regs (op ⟨ 15 ‥ 12 ⟩) (pkhtb_of (high regs op) (shifted_of regs op))
    else put_of regs (op ⟨ 15 ‥ 12 ⟩) (pkhbt_of (high regs op) (shifted_of regs op))

-- A4.1.91 SSAT to sat_imm + 1 bits, A4.1.138 USAT (bit 22) to sat_imm bits, sat_imm in bits 20-16
unfoldable pub saturate_of : List ℕ → ℕ → Outcome × List ℕ
saturate_of regs op =
    when op ⟨ 22 ⟩ then marked_of regs (op ⟨ 15 ‥ 12 ⟩) (usat_of (op ⟨ 20 ‥ 16 ⟩) (shifted_of regs op))
    else marked_of regs (op ⟨ 15 ‥ 12 ⟩) (ssat_of (op ⟨ 20 ‥ 16 ⟩ + 1) (shifted_of regs op))

-- A4.1.92 SSAT16, A4.1.139 USAT16 (bit 22): sat_imm in bits 19-16
unfoldable pub saturate16_of : List ℕ → ℕ → Outcome × List ℕ
saturate16_of regs op =
    when op ⟨ 22 ⟩ then marked_of regs (op ⟨ 15 ‥ 12 ⟩) (usat16_of (op ⟨ 19 ‥ 16 ⟩) (low regs op))
    else marked_of regs (op ⟨ 15 ‥ 12 ⟩) (ssat16_of (op ⟨ 19 ‥ 16 ⟩ + 1) (low regs op))

-- bits 22-20: the part that is extended; 001 and 101 are unallocated
unfoldable pub extension_of : ℕ → Option Extension
extension_of k =
    when k == 0 then Some Sxtab16
    else when k == 2 then Some Sxtab
    else when k == 3 then Some Sxtah
    else when k == 4 then Some Uxtab16
    else when k == 6 then Some Uxtab
    else when k == 7 then Some Uxtah
    else None

-- with Rn of r15 there is nothing to add to
unfoldable pub addend_of : List ℕ → ℕ → ℕ
addend_of regs op = when op ⟨ 19 ‥ 16 ⟩ == 15 then 0 else high regs op

unfoldable pub extended_of : List ℕ → ℕ → Option Extension → Outcome × List ℕ
extended_of regs op (Some e) = put_of regs (op ⟨ 15 ‥ 12 ⟩) (extend_of e (addend_of regs op) (low regs op) (op ⟨ 11 ‥ 10 ⟩))
extended_of regs op None = undefined_of regs op

unfoldable pub extend_family_of : List ℕ → ℕ → Outcome × List ℕ
extend_family_of regs op = extended_of regs op (extension_of (op ⟨ 22 ‥ 20 ⟩))

-- A4.1.66 SEL
abbrev pub selected_of : List ℕ → ℕ → ℕ → Outcome × List ℕ
selected_of regs op ge = put_of regs (op ⟨ 15 ‥ 12 ⟩) (joined_of (sel_of ge (lanes_of (high regs op)) (lanes_of (low regs op))))

-- A4.1.56 REV, A4.1.57 REV16, DDI 0406C A8.8.144 RBIT, A4.1.58 REVSH
unfoldable pub reversal_of : List ℕ → ℕ → Outcome × List ℕ
reversal_of regs op =
    when coded op 3 1 then put_of regs (op ⟨ 15 ‥ 12 ⟩) (rev_of (low regs op))
    else when coded op 3 5 then put_of regs (op ⟨ 15 ‥ 12 ⟩) (rev16_of (low regs op))
    else when coded op 7 1 then put_of regs (op ⟨ 15 ‥ 12 ⟩) (reversed_of 32 (low regs op))
    else when coded op 7 5 then put_of regs (op ⟨ 15 ‥ 12 ⟩) (revsh_of (low regs op))
    else undefined_of regs op

-- by bits 22-20 and 7-5; D4: an even bits 7-5 saturates at every bits 22-20 but 000
unfoldable pub packing_of : List ℕ → ℕ → ℕ → Outcome × List ℕ
packing_of regs op ge =
    when not (op ⟨ 5 ⟩) then
    (when op ⟨ 22 ‥ 20 ⟩ == 0 then packed_of regs op else saturate_of regs op)
    else when op ⟨ 7 ‥ 5 ⟩ == 3 then extend_family_of regs op
    else when coded op 0 5 then selected_of regs op ge
    else when coded op 2 1 || coded op 6 1 then saturate16_of regs op
    else reversal_of regs op

-- ---- signed multiplies, bits 24-23 of 10; Rd is in bits 19-16, Rn in 15-12, Rs in 11-8, Rm in 3-0

-- A4.1.75 SMLAD, A4.1.80 SMLSD, and with Rn of r15 A4.1.85 SMUAD, A4.1.89 SMUSD: bit 6 subtracts, bit 5 exchanges the halves of Rs
unfoldable pub dual_word_of : List ℕ → ℕ → Outcome × List ℕ
dual_word_of regs op =
    when op ⟨ 15 ‥ 12 ⟩ == 15 then marked_of regs (op ⟨ 19 ‥ 16 ⟩) (smuad_of (low regs op) (second regs op) (op ⟨ 6 ⟩) (op ⟨ 5 ⟩))
    else marked_of regs (op ⟨ 19 ‥ 16 ⟩) (smlad_of (low regs op) (second regs op) (third regs op) (op ⟨ 6 ⟩) (op ⟨ 5 ⟩))

-- A4.1.78 SMLALD, A4.1.81 SMLSLD: likewise
abbrev pub dual_long_of : List ℕ → ℕ → Outcome × List ℕ
dual_long_of regs op = long_put_of regs op (smlald_of (low regs op) (second regs op) (third regs op) (high regs op) (op ⟨ 6 ⟩) (op ⟨ 5 ⟩))

-- A4.1.82 SMMLA, A4.1.83 SMMLS, and with Rn of r15 A4.1.84 SMMUL: bit 6 subtracts, bit 5 rounds
unfoldable pub most_word_of : List ℕ → ℕ → Outcome × List ℕ
most_word_of regs op =
    when op ⟨ 15 ‥ 12 ⟩ == 15 then put_of regs (op ⟨ 19 ‥ 16 ⟩) (smmul_of (low regs op) (second regs op) (op ⟨ 6 ⟩) (op ⟨ 5 ⟩))
    else put_of regs (op ⟨ 19 ‥ 16 ⟩) (smmla_of (low regs op) (second regs op) (third regs op) (op ⟨ 6 ⟩) (op ⟨ 5 ⟩))

-- by bits 22-20; D4: bit 7 is not looked at
unfoldable pub dual_multiply_of : List ℕ → ℕ → Outcome × List ℕ
dual_multiply_of regs op =
    when op ⟨ 22 ‥ 20 ⟩ == 0 then dual_word_of regs op
    else when op ⟨ 22 ‥ 20 ⟩ == 4 then dual_long_of regs op
    else when op ⟨ 22 ‥ 20 ⟩ == 5 then most_word_of regs op
    else undefined_of regs op

-- ---- A4.1.136 USAD8, A4.1.137 USADA8: bits 24-20 of 11000 and 7-5 of 000

unfoldable pub usad_of : List ℕ → ℕ → Outcome × List ℕ
usad_of regs op =
    when op ⟨ 15 ‥ 12 ⟩ == 15 then put_of regs (op ⟨ 19 ‥ 16 ⟩) (usad8_of (lanes_of (low regs op)) (lanes_of (second regs op)))
    else put_of regs (op ⟨ 19 ‥ 16 ⟩) (usada8_of (lanes_of (low regs op)) (lanes_of (second regs op)) (third regs op))

-- the whole family, with GE as SEL reads it
unfoldable pub media_of : List ℕ → ℕ → ℕ → Outcome × List ℕ
media_of regs op ge =
    when op ⟨ 24 ‥ 23 ⟩ == 0 then parallel_family_of regs op
    else when op ⟨ 24 ‥ 23 ⟩ == 1 then packing_of regs op ge
    else when op ⟨ 24 ‥ 23 ⟩ == 2 then dual_multiply_of regs op
    else when coded op 0 0 then usad_of regs op
    else undefined_of regs op
