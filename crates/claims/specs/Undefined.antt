-- Answer 2 (document 01, section 2): the codes that are undefined, by the bits of the opcode; 2 is given exactly for them. The statement; Laws/Undefined.antt proves it.
use Rattle.std.specs.Prelude.{◌≡◌, Bool, true, false, not, ◌||◌, ◌↔◌, ℕ, ◌==◌}
use Rattle.bits.specs.Cases.{when◌then◌else◌}
use Rattle.bits.specs.Fields.{◌⟨◌⟩, ◌⟨◌‥◌⟩}
use Rattle.decode.specs.declared.Family.{Family}
use Rattle.decode.specs.declared.Family.TheVariants as family
use Rattle.decode.specs.Families.{family_of}
use Rattle.cpu.specs.declared.Machine.{Machine}
use Rattle.cpu.specs.declared.Answer.{Answer}
use Rattle.cpu.specs.declared.Answer.TheVariants as answer
use Rattle.media.specs.Media.{coded, allocated}
use Rattle.loadstore.specs.Single.{rd_of}
use Rattle.exclusive.specs.Exclusive.{doubled}
use Rattle.engine.specs.Step.{next_of}
use Rattle.claims.specs.Demand1.{number_of, passes, HasR15}

-- bits 24-23 of 01 with bit 5 set: SXTB and kin without bits 21-20 of 01, SEL, SSAT16, USAT16, REV, REV16, RBIT and REVSH are defined; coded is by bits 22-20 and 7-5
unfoldable pub packing_undefined : ℕ → Bool
packing_undefined op =
    when not (op ⟨ 5 ⟩) then false
    else when op ⟨ 7 ‥ 5 ⟩ == 3 then op ⟨ 21 ‥ 20 ⟩ == 1
    else when coded op 0 5 then false
    else when coded op 2 1 || coded op 6 1 then false
    else when coded op 3 1 then false
    else when coded op 3 5 then false
    else when coded op 7 1 then false
    else when coded op 7 5 then false
    else true

-- media codes: parallel sums outside their variants and operations, the packing codes above, multiplies with bits 22-20 other than 000, 100 and 101, and beside USAD8 and USADA8
unfoldable pub media_undefined : ℕ → Bool
media_undefined op =
    when op ⟨ 24 ‥ 23 ⟩ == 0 then not (allocated op)
    else when op ⟨ 24 ‥ 23 ⟩ == 1 then packing_undefined op
    else when op ⟨ 24 ‥ 23 ⟩ == 2 then
    (when op ⟨ 22 ‥ 20 ⟩ == 0 then false else when op ⟨ 22 ‥ 20 ⟩ == 4 then false else when op ⟨ 22 ‥ 20 ⟩ == 5 then false else true)
    else not (coded op 0 0)

-- LDRD and STRD with r15 for Rd
unfoldable pub extra_undefined : ℕ → Bool
extra_undefined op =
    when op ⟨ 6 ‥ 5 ⟩ == 0 then false
    else when op ⟨ 20 ⟩ then false
    else when op ⟨ 6 ‥ 5 ⟩ == 1 then false
    else rd_of op == 15

-- LDREXD with r15 for Rd, STREXD with r15 for Rm
unfoldable pub exclusive_undefined : ℕ → Bool
exclusive_undefined op =
    when op ⟨ 20 ⟩ then (when doubled op then op ⟨ 15 ‥ 12 ⟩ == 15 else false)
    else when doubled op then op ⟨ 3 ‥ 0 ⟩ == 15
    else false

-- by family (the encodings of Undefined are in Demand2.antt)
abbrev pub undefined_by : Family → ℕ → Bool
undefined_by family.Undefined op = true
undefined_by family.Media op = media_undefined op
undefined_by family.Extra op = extra_undefined op
undefined_by family.Exclusive op = exclusive_undefined op
undefined_by family.DataProcessing op = false
undefined_by family.MultiplyShort op = false
undefined_by family.MultiplyLong op = false
undefined_by family.Halfword op = false
undefined_by family.Saturating op = false
undefined_by family.Swap op = false
undefined_by family.StatusMove op = false
undefined_by family.BranchExchange op = false
undefined_by family.CountZeros op = false
undefined_by family.Breakpoint op = false
undefined_by family.Single op = false
undefined_by family.Block op = false
undefined_by family.Branch op = false
undefined_by family.Coprocessor op = false
undefined_by family.CoprocessorMove op = false
undefined_by family.Supervisor op = false
undefined_by family.BranchLinkExchange op = false
undefined_by family.ClearExclusive op = false
undefined_by family.ChangeState op = false
undefined_by family.Preload op = false

abbrev pub is_undefined : ℕ → Bool
is_undefined op = undefined_by (family_of op) op

-- for an instruction that is reached
pub record Refused (m : Machine) (op : ℕ) (a : Answer) : Type 0 where
  pub two : (number_of a ≡ 2) ↔ ((passes m op ≡ true) × (is_undefined op ≡ true))
  pub two_value : HasR15 m → number_of a ≡ 2 → a ≡ answer.Undefined (next_of m) op
