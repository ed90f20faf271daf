-- The multiplies and the saturating sums (DDI 0100I, A4.1) on the sixteen registers; r15 in regs is A + 8.
use Rattle.std.specs.Prelude.{Bool, ◌&&◌, List, ℕ, get_or, set, ◌==◌}
use Rattle.bits.specs.Cases.{when◌then◌else◌}
use Rattle.bits.specs.Fields.{◌⟨◌⟩, ◌⟨◌‥◌⟩}
use Rattle.alu.specs.declared.Fitted.{Fitted}
use Rattle.alu.specs.Sums.{negative}
use Rattle.products.specs.declared.Long.{Long}
use Rattle.products.specs.Products.{mul_of, mla_of, umull_of, umlal_of, umaal_of, smull_of, smlal_of, smulxy_of, smlaxy_of, smlalxy_of, smulw_of, smlaw_of, qadd_of, qdadd_of}
use Rattle.cpu.specs.declared.Outcome.{Outcome}
use Rattle.cpu.specs.declared.Outcome.TheVariants.{Flags, Nothing}
use Rattle.cpu.specs.Outcomes.{flags_of, sticky, advanced, put_of}

-- what the registers named by bits 3-0, 11-8, 15-12 and 19-16 hold
abbrev pub rm : List ℕ → ℕ → ℕ
rm regs op = get_or regs (op ⟨ 3 ‥ 0 ⟩) 0

abbrev pub rs : List ℕ → ℕ → ℕ
rs regs op = get_or regs (op ⟨ 11 ‥ 8 ⟩) 0

-- Rn of the short forms, RdLo of the long ones
abbrev pub lower : List ℕ → ℕ → ℕ
lower regs op = get_or regs (op ⟨ 15 ‥ 12 ⟩) 0

-- RdHi of the long forms
abbrev pub upper : List ℕ → ℕ → ℕ
upper regs op = get_or regs (op ⟨ 19 ‥ 16 ⟩) 0

-- a long result in its two registers, RdLo first
abbrev pub with_long : List ℕ → ℕ → Long → List ℕ
with_long regs op x = set (set regs (op ⟨ 15 ‥ 12 ⟩) x.lo) (op ⟨ 19 ‥ 16 ⟩) x.hi

-- a long result, and Nothing more
abbrev pub long_put_of : List ℕ → ℕ → Long → Outcome × List ℕ
long_put_of regs op x = (Nothing, advanced (with_long regs op x))

-- a result in Rd, with N and Z of it where S is set; C and V stay
unfoldable pub settled_of : List ℕ → ℕ → ℕ → Bool → Bool → Outcome × List ℕ
settled_of regs op value c v =
    when op ⟨ 20 ⟩ then (flags_of value c v, advanced (set regs (op ⟨ 19 ‥ 16 ⟩) value))
    else put_of regs (op ⟨ 19 ‥ 16 ⟩) value

-- A4.1.40 MUL, and A4.1.34 MLA where bit 21 is set
unfoldable pub short_of : List ℕ → ℕ → Bool → Bool → Outcome × List ℕ
short_of regs op c v =
    when op ⟨ 21 ⟩ then settled_of regs op (mla_of (rm regs op) (rs regs op) (lower regs op)) c v
    else settled_of regs op (mul_of (rm regs op) (rs regs op)) c v

-- the long product: signed by bit 22, accumulated by bit 21 (A4.1.129 UMULL, A4.1.128 UMLAL, A4.1.87 SMULL, A4.1.76 SMLAL)
unfoldable pub wide_of : List ℕ → ℕ → Long
wide_of regs op =
    when op ⟨ 22 ⟩ then
    (when op ⟨ 21 ⟩ then smlal_of (rm regs op) (rs regs op) (lower regs op) (upper regs op)
    else smull_of (rm regs op) (rs regs op))
    else
    (when op ⟨ 21 ⟩ then umlal_of (rm regs op) (rs regs op) (lower regs op) (upper regs op)
    else umull_of (rm regs op) (rs regs op))

-- and where it goes: N is bit 63, Z says that all 64 bits are zero
unfoldable pub wide_settled_of : List ℕ → ℕ → Long → Bool → Bool → Outcome × List ℕ
wide_settled_of regs op x c v =
    when op ⟨ 20 ⟩ then (Flags (negative x.hi) ((x.lo == 0) && (x.hi == 0)) c v, advanced (with_long regs op x))
    else long_put_of regs op x

-- bits 23-21 of 010 are A4.1.127 UMAAL; D4: its bit 20 is not looked at
unfoldable pub long_multiply_of : List ℕ → ℕ → Bool → Bool → Outcome × List ℕ
long_multiply_of regs op c v =
    when op ⟨ 23 ‥ 21 ⟩ == 2 then long_put_of regs op (umaal_of (rm regs op) (rs regs op) (lower regs op) (upper regs op))
    else wide_settled_of regs op (wide_of regs op) c v

-- a result in register rd that may set Q
abbrev pub marked_of : List ℕ → ℕ → Fitted → Outcome × List ℕ
marked_of regs rd x = (sticky x.q, advanced (set regs rd x.value))

-- A4.1.74 SMLA<x><y>, A4.1.79 SMLAW<y>, A4.1.88 SMULW<y>, A4.1.77 SMLAL<x><y>, A4.1.86 SMUL<x><y>: by bits 22-21; x is bit 5, y bit 6
unfoldable pub halfword_of : List ℕ → ℕ → Outcome × List ℕ
halfword_of regs op =
    when op ⟨ 22 ‥ 21 ⟩ == 0 then marked_of regs (op ⟨ 19 ‥ 16 ⟩) (smlaxy_of (rm regs op) (rs regs op) (lower regs op) (op ⟨ 5 ⟩) (op ⟨ 6 ⟩))
    else when op ⟨ 22 ‥ 21 ⟩ == 1 then
    (when op ⟨ 5 ⟩ then put_of regs (op ⟨ 19 ‥ 16 ⟩) (smulw_of (rm regs op) (rs regs op) (op ⟨ 6 ⟩))
    else marked_of regs (op ⟨ 19 ‥ 16 ⟩) (smlaw_of (rm regs op) (rs regs op) (lower regs op) (op ⟨ 6 ⟩)))
    else when op ⟨ 22 ‥ 21 ⟩ == 2 then
    long_put_of regs op (smlalxy_of (rm regs op) (rs regs op) (lower regs op) (upper regs op) (op ⟨ 5 ⟩) (op ⟨ 6 ⟩))
    else put_of regs (op ⟨ 19 ‥ 16 ⟩) (smulxy_of (rm regs op) (rs regs op) (op ⟨ 5 ⟩) (op ⟨ 6 ⟩))

-- A4.1.46 QADD, A4.1.52 QSUB, A4.1.50 QDADD, A4.1.51 QDSUB: by bits 22-21; here Rd is in bits 15-12 and Rn in 19-16
unfoldable pub saturating_of : List ℕ → ℕ → Outcome × List ℕ
saturating_of regs op =
    when op ⟨ 22 ⟩ then marked_of regs (op ⟨ 15 ‥ 12 ⟩) (qdadd_of (rm regs op) (upper regs op) (op ⟨ 21 ⟩))
    else marked_of regs (op ⟨ 15 ‥ 12 ⟩) (qadd_of (rm regs op) (upper regs op) (op ⟨ 21 ⟩))
