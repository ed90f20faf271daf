-- Demand 2: the step is the composition of the definitions written from the manual (DDI 0100I; DDI 0406C for the v6K exclusives and RBIT), instruction by instruction, outside the departures D1-D9 of docs/DIFFERENCES.md. The statements; Laws/Demand2.antt proves them.
use Rattle.std.specs.Prelude.{◌≡◌, Bool, true, false, List, ◌≢◌, ℕ, ◌+◌, ◌-◌, ◌%◌, ◌^◌, set}
use Rattle.std.specs.Int.Bits.{bit_and, bit_or, bit_xor}
use Rattle.bits.specs.Fields.{◌⟨◌⟩, ◌⟨◌‥◌⟩}
use Rattle.alu.specs.Sums.{add_of, adc_of, sub_of, sbc_of}
use Rattle.decode.specs.declared.Family.TheVariants as family
use Rattle.decode.specs.Families.{family_of}
use Rattle.cpu.specs.declared.Machine.{Machine}
use Rattle.cpu.specs.declared.Outcome.{Outcome}
use Rattle.cpu.specs.declared.Outcome.TheVariants.{Moves}
use Rattle.cpu.specs.Outcomes.{done_of, undefined_of}
use Rattle.cpu.specs.With.{with_regs}
use Rattle.transfer.specs.Transfers.{beside}
use Rattle.dataproc.specs.Dataproc.{logical, first_of, operand_of, result_of, placed_of, dataproc_of}
use Rattle.multiply.specs.Multiply.{short_of, long_multiply_of, halfword_of, saturating_of}
use Rattle.media.specs.Media.{media_of}
use Rattle.misc.specs.Branches.{branch_of, branch_exchange_of, branch_link_exchange_of, clz_of}
use Rattle.misc.specs.Stops.{swi_of, bkpt_of, coprocessor_of, coprocessor_move_of, clrex_of}
use Rattle.loadstore.specs.Single.{single_of}
use Rattle.loadstore.specs.Extra.{extra_of}
use Rattle.exclusive.specs.Exclusive.{swap_of, exclusive_of}
use Rattle.block.specs.Block.{block_of}
use Rattle.arm.specs.declared.Seen.{Seen}
use Rattle.arm.specs.Turn.{seen_of, effect_of}
use Rattle.engine.specs.declared.Stepped.{Stepped}
use Rattle.engine.specs.Step.{going, settled_of, next_of}
use Rattle.claims.specs.Demand1.{passes}

-- ---- the composition, for an instruction op that is reached (Reached in Demand1.antt)

-- the registers it is lent, with r15 = A + 8, and what else it reads: C, V, GE and the tag
abbrev pub lent : Machine → List ℕ
lent m = set m.regs 15 ((next_of m + 8) % 2 ^ 32)

-- what its outcome then changes in the machine, by settled_of in engine/specs/Step.antt: flags, Q, GE, T, the tag, a return, a move of status words, a transfer with S, or nothing
abbrev pub settled : Machine → ℕ → Outcome × List ℕ × List ℕ → Stepped × List ℕ
settled m op x = settled_of x.0 (with_regs m x.1) (next_of m) op x.2

pub record Composed (m : Machine) (op : ℕ) (l : List ℕ) (x : Stepped × List ℕ) : Type 0 where
  pub passed : passes m op ≡ true → x ≡ settled m op (effect_of (family_of op) (lent m) op (seen_of m) l)
  pub failed : passes m op ≡ false → x ≡ (going (with_regs m (set m.regs 15 ((next_of m + 4) % 2 ^ 32))), l)

-- ---- the definition of each family, on the registers and bytes it is lent

pub record Defined (regs : List ℕ) (op : ℕ) (s : Seen) (l : List ℕ) : Type 0 where
  -- AND EOR SUB RSB ADD ADC SBC RSC TST TEQ CMP CMN ORR MOV BIC MVN
  pub data_processing : effect_of family.DataProcessing regs op s l ≡ beside (dataproc_of regs op s.c s.v) l
  -- operation bits 24-21 (Operations below) on Rn and shifter_operand, and where its result goes
  pub operated : dataproc_of regs op s.c s.v ≡ placed_of regs op (result_of (op ⟨ 24 ‥ 21 ⟩) (first_of regs op) (operand_of regs op s.c).value (operand_of regs op s.c).carry s.c s.v)
  -- MUL MLA
  pub multiply_short : effect_of family.MultiplyShort regs op s l ≡ beside (short_of regs op s.c s.v) l
  -- UMULL UMLAL SMULL SMLAL UMAAL; D4: UMAAL with bit 20
  pub multiply_long : effect_of family.MultiplyLong regs op s l ≡ beside (long_multiply_of regs op s.c s.v) l
  -- SMLAxy SMLAWy SMULWy SMLALxy SMULxy
  pub halfword : effect_of family.Halfword regs op s l ≡ beside (halfword_of regs op) l
  -- QADD QSUB QDADD QDSUB
  pub saturating : effect_of family.Saturating regs op s l ≡ beside (saturating_of regs op) l
  -- parallel sums, PKH SEL SSAT USAT SSAT16 USAT16, REV and kin, RBIT, extensions, SMLAD SMMUL and kin, USAD8 USADA8; D4, D6
  pub media : effect_of family.Media regs op s l ≡ beside (media_of regs op s.ge) l
  -- B BL
  pub branch : effect_of family.Branch regs op s l ≡ beside (branch_of regs op) l
  -- BX BLX (2); D4: other bits 22-21
  pub branch_exchange : effect_of family.BranchExchange regs op s l ≡ beside (branch_exchange_of regs op) l
  -- BLX (1)
  pub branch_link_exchange : effect_of family.BranchLinkExchange regs op s l ≡ beside (branch_link_exchange_of regs op) l
  -- CLZ
  pub count_zeros : effect_of family.CountZeros regs op s l ≡ beside (clz_of regs op) l
  -- LDR LDRB LDRT LDRBT STR STRB STRT STRBT; D7
  pub single : effect_of family.Single regs op s l ≡ single_of regs op s.c l
  -- LDRH LDRSB LDRSH STRH LDRD STRD; D4: an odd first register, D7
  pub extra : effect_of family.Extra regs op s l ≡ extra_of regs op l
  -- LDM STM; with S by user_block_of on the whole machine: D1, D7
  pub block : effect_of family.Block regs op s l ≡ block_of regs op l
  -- SWP SWPB; D4: bits 21-20, D7
  pub swap : effect_of family.Swap regs op s l ≡ swap_of regs op l
  -- LDREX STREX and their B, H, D forms; D5, D7
  pub exclusive : effect_of family.Exclusive regs op s l ≡ exclusive_of regs op s.tag l
  -- CLREX
  pub clear_exclusive : effect_of family.ClearExclusive regs op s l ≡ beside (clrex_of regs) l
  -- MRS MSR, by moves_of on the whole machine; D8
  pub status_move : effect_of family.StatusMove regs op s l ≡ (Moves, regs, l)
  -- CPS SETEND, by moves_of; D2
  pub change_state : effect_of family.ChangeState regs op s l ≡ (Moves, regs, l)
  -- PLD: a hint
  pub preload : effect_of family.Preload regs op s l ≡ beside (done_of regs) l
  -- SWI; D9
  pub supervisor : effect_of family.Supervisor regs op s l ≡ beside (swi_of regs op) l
  -- BKPT; D4: other bits 22-21, D9
  pub breakpoint : effect_of family.Breakpoint regs op s l ≡ beside (bkpt_of regs op) l
  -- CDP LDC STC MCRR MRRC: answer 4
  pub coprocessor : effect_of family.Coprocessor regs op s l ≡ beside (coprocessor_of regs op) l
  -- MCR MRC: answer 4 for numbers 10, 11 and 15, else nothing
  pub coprocessor_move : effect_of family.CoprocessorMove regs op s l ≡ beside (coprocessor_move_of regs op) l
  -- undefined codes; D2: SRS, RFE, D3: BXJ, D9
  pub undefined : effect_of family.Undefined regs op s l ≡ beside (undefined_of regs op) l

-- ---- the sixteen operations of data processing, by bits 24-21: a is Rn, b shifter_operand, sh its carry; a Sum is the value with C and V

pub record Operations (a b : ℕ) (sh c v : Bool) : Type 0 where
  pub and : result_of 0b0000 a b sh c v ≡ logical (bit_and a b) sh v  -- A4.1.4
  pub eor : result_of 0b0001 a b sh c v ≡ logical (bit_xor a b) sh v  -- A4.1.18
  pub sub : result_of 0b0010 a b sh c v ≡ sub_of a b  -- A4.1.106
  pub rsb : result_of 0b0011 a b sh c v ≡ sub_of b a  -- A4.1.60
  pub add : result_of 0b0100 a b sh c v ≡ add_of a b  -- A4.1.3
  pub adc : result_of 0b0101 a b sh c v ≡ adc_of a b c  -- A4.1.2
  pub sbc : result_of 0b0110 a b sh c v ≡ sbc_of a b c  -- A4.1.65
  pub rsc : result_of 0b0111 a b sh c v ≡ sbc_of b a c  -- A4.1.61
  pub tst : result_of 0b1000 a b sh c v ≡ logical (bit_and a b) sh v  -- A4.1.117
  pub teq : result_of 0b1001 a b sh c v ≡ logical (bit_xor a b) sh v  -- A4.1.116
  pub cmp : result_of 0b1010 a b sh c v ≡ sub_of a b  -- A4.1.15
  pub cmn : result_of 0b1011 a b sh c v ≡ add_of a b  -- A4.1.14
  pub orr : result_of 0b1100 a b sh c v ≡ logical (bit_or a b) sh v  -- A4.1.42
  pub mov : result_of 0b1101 a b sh c v ≡ logical b sh v  -- A4.1.35
  pub bic : result_of 0b1110 a b sh c v ≡ logical (bit_and a ((2 ^ 32 - 1) - b)) sh v  -- A4.1.6
  pub mvn : result_of 0b1111 a b sh c v ≡ logical ((2 ^ 32 - 1) - b) sh v  -- A4.1.41

-- ---- the encodings with conditions 0 to 14 (Figures A3-1 to A3-6)

-- bits 24-23 of 10 with bit 20 clear: a compare that sets no flags, whose codes are the miscellaneous instructions
abbrev pub Miscellaneous : ℕ → Type 0
Miscellaneous op = (op ⟨ 24 ‥ 23 ⟩ ≡ 0b10) × (op ⟨ 20 ⟩ ≡ false)

pub record Encoded (op : ℕ) : Type 0 where
  pub data_processing_immediate : op ⟨ 27 ‥ 25 ⟩ ≡ 0b001 → ¬ Miscellaneous op → family_of op ≡ family.DataProcessing
  pub data_processing_immediate_shift : op ⟨ 27 ‥ 25 ⟩ ≡ 0b000 → op ⟨ 4 ⟩ ≡ false → ¬ Miscellaneous op → family_of op ≡ family.DataProcessing
  pub data_processing_register_shift : op ⟨ 27 ‥ 25 ⟩ ≡ 0b000 → op ⟨ 7 ⟩ ≡ false → op ⟨ 4 ⟩ ≡ true → ¬ Miscellaneous op → family_of op ≡ family.DataProcessing
  -- multiplies and synchronization, bits 7-4 of 1001
  pub multiply : op ⟨ 27 ‥ 22 ⟩ ≡ 0b000000 → op ⟨ 7 ‥ 4 ⟩ ≡ 0b1001 → family_of op ≡ family.MultiplyShort
  pub umaal : op ⟨ 27 ‥ 21 ⟩ ≡ 0b0000010 → op ⟨ 7 ‥ 4 ⟩ ≡ 0b1001 → family_of op ≡ family.MultiplyLong
  pub multiply_long : op ⟨ 27 ‥ 23 ⟩ ≡ 0b00001 → op ⟨ 7 ‥ 4 ⟩ ≡ 0b1001 → family_of op ≡ family.MultiplyLong
  pub swap : op ⟨ 27 ‥ 23 ⟩ ≡ 0b00010 → op ⟨ 7 ‥ 4 ⟩ ≡ 0b1001 → family_of op ≡ family.Swap
  pub exclusive : op ⟨ 27 ‥ 23 ⟩ ≡ 0b00011 → op ⟨ 7 ‥ 4 ⟩ ≡ 0b1001 → family_of op ≡ family.Exclusive
  -- extra loads and stores, bits 7 and 4 set: so answer 11, for bits 6-5 of 00, is never given
  pub extra : op ⟨ 27 ‥ 25 ⟩ ≡ 0b000 → op ⟨ 7 ⟩ ≡ true → op ⟨ 4 ⟩ ≡ true → op ⟨ 6 ‥ 5 ⟩ ≢ 0b00 → family_of op ≡ family.Extra
  -- the miscellaneous instructions
  pub status_move : op ⟨ 27 ‥ 25 ⟩ ≡ 0b000 → Miscellaneous op → op ⟨ 7 ‥ 4 ⟩ ≡ 0b0000 → family_of op ≡ family.StatusMove
  pub status_move_immediate : op ⟨ 27 ‥ 25 ⟩ ≡ 0b001 → Miscellaneous op → op ⟨ 21 ⟩ ≡ true → family_of op ≡ family.StatusMove
  pub bx : op ⟨ 27 ‥ 25 ⟩ ≡ 0b000 → Miscellaneous op → op ⟨ 22 ‥ 21 ⟩ ≢ 0b11 → op ⟨ 7 ‥ 4 ⟩ ≡ 0b0001 → family_of op ≡ family.BranchExchange
  pub clz : op ⟨ 27 ‥ 25 ⟩ ≡ 0b000 → Miscellaneous op → op ⟨ 22 ‥ 21 ⟩ ≡ 0b11 → op ⟨ 7 ‥ 4 ⟩ ≡ 0b0001 → family_of op ≡ family.CountZeros
  pub bxj : op ⟨ 27 ‥ 25 ⟩ ≡ 0b000 → Miscellaneous op → op ⟨ 7 ‥ 4 ⟩ ≡ 0b0010 → family_of op ≡ family.Undefined
  pub blx : op ⟨ 27 ‥ 25 ⟩ ≡ 0b000 → Miscellaneous op → op ⟨ 7 ‥ 4 ⟩ ≡ 0b0011 → family_of op ≡ family.BranchExchange
  pub saturating : op ⟨ 27 ‥ 25 ⟩ ≡ 0b000 → Miscellaneous op → op ⟨ 7 ‥ 4 ⟩ ≡ 0b0101 → family_of op ≡ family.Saturating
  pub bkpt : op ⟨ 27 ‥ 25 ⟩ ≡ 0b000 → Miscellaneous op → op ⟨ 7 ‥ 4 ⟩ ≡ 0b0111 → family_of op ≡ family.Breakpoint
  pub halfword : op ⟨ 27 ‥ 25 ⟩ ≡ 0b000 → Miscellaneous op → op ⟨ 7 ⟩ ≡ true → op ⟨ 4 ⟩ ≡ false → family_of op ≡ family.Halfword
  -- loads, stores and media
  pub single_immediate : op ⟨ 27 ‥ 25 ⟩ ≡ 0b010 → family_of op ≡ family.Single
  pub single_register : op ⟨ 27 ‥ 25 ⟩ ≡ 0b011 → op ⟨ 4 ⟩ ≡ false → family_of op ≡ family.Single
  pub media : op ⟨ 27 ‥ 25 ⟩ ≡ 0b011 → op ⟨ 4 ⟩ ≡ true → family_of op ≡ family.Media
  pub block : op ⟨ 27 ‥ 25 ⟩ ≡ 0b100 → family_of op ≡ family.Block
  -- branches, coprocessors, SWI
  pub branch : op ⟨ 27 ‥ 25 ⟩ ≡ 0b101 → family_of op ≡ family.Branch
  pub coprocessor_transfer : op ⟨ 27 ‥ 25 ⟩ ≡ 0b110 → family_of op ≡ family.Coprocessor
  pub coprocessor_operation : op ⟨ 27 ‥ 24 ⟩ ≡ 0b1110 → op ⟨ 4 ⟩ ≡ false → family_of op ≡ family.Coprocessor
  pub coprocessor_move : op ⟨ 27 ‥ 24 ⟩ ≡ 0b1110 → op ⟨ 4 ⟩ ≡ true → family_of op ≡ family.CoprocessorMove
  pub swi : op ⟨ 27 ‥ 24 ⟩ ≡ 0b1111 → family_of op ≡ family.Supervisor
  -- codes of no instruction
  pub no_multiply : op ⟨ 27 ‥ 21 ⟩ ≡ 0b0000011 → op ⟨ 7 ‥ 4 ⟩ ≡ 0b1001 → family_of op ≡ family.Undefined
  pub no_immediate : op ⟨ 27 ‥ 25 ⟩ ≡ 0b001 → Miscellaneous op → op ⟨ 21 ⟩ ≡ false → family_of op ≡ family.Undefined

-- ---- the encodings with condition 15 (document 01, section 3)

pub record EncodedAlways (op : ℕ) : Type 0 where
  pub blx : op ⟨ 27 ‥ 25 ⟩ ≡ 0b101 → family_of op ≡ family.BranchLinkExchange
  pub clrex : op ⟨ 27 ‥ 20 ⟩ ≡ 0b01010111 → op ⟨ 7 ‥ 4 ⟩ ≡ 0b0001 → family_of op ≡ family.ClearExclusive
  pub cps : op ⟨ 27 ‥ 25 ⟩ ≡ 0b000 → family_of op ≡ family.ChangeState
  pub pld : op ⟨ 27 ‥ 26 ⟩ ≡ 0b01 → ¬ ((op ⟨ 27 ‥ 20 ⟩ ≡ 0b01010111) × (op ⟨ 7 ‥ 4 ⟩ ≡ 0b0001)) → family_of op ≡ family.Preload
  pub coprocessor_transfer : op ⟨ 27 ‥ 25 ⟩ ≡ 0b110 → family_of op ≡ family.Coprocessor
  pub coprocessor_operation : op ⟨ 27 ‥ 25 ⟩ ≡ 0b111 → op ⟨ 4 ⟩ ≡ false → family_of op ≡ family.Coprocessor
  pub coprocessor_move : op ⟨ 27 ‥ 25 ⟩ ≡ 0b111 → op ⟨ 4 ⟩ ≡ true → family_of op ≡ family.CoprocessorMove
  -- SRS and RFE: D2
  pub undefined : op ⟨ 27 ‥ 25 ⟩ ≡ 0b100 → family_of op ≡ family.Undefined
  pub no_instruction : op ⟨ 27 ‥ 25 ⟩ ≡ 0b001 → family_of op ≡ family.Undefined

-- both tables
pub record Table (op : ℕ) : Type 0 where
  pub conditional : op ⟨ 31 ‥ 28 ⟩ ≢ 15 → Encoded op
  pub always : op ⟨ 31 ‥ 28 ⟩ ≡ 15 → EncodedAlways op
