-- SUBS, SBCS, ADDS and ADCS are links of a chain (demand 3): with any second operand, the exact sum's word goes to Rd and its flags become N, Z, C and V.
use Rattle.std.specs.Prelude.{◌≡◌, Bool, true, false, List, ℕ, set}
use Rattle.std.proofs.Common.{arith}
use borrow.Author.Tests.{ne_eqb}
use Rattle.bits.specs.Cases.{when◌then◌else◌}
use Rattle.bits.specs.Fields.{◌⟨◌⟩, ◌⟨◌‥◌⟩}
use Rattle.alu.specs.declared.Sum.{Sum}
use Rattle.alu.specs.Sums.{adc_of, sbc_of}
use Rattle.alu.specs.Laws.Sums.{add_adc, sub_sbc}
use Rattle.cpu.specs.declared.Outcome.{Outcome}
use Rattle.dataproc.specs.Dataproc.{first_of, operand_of, result_of, flagged_of, placed_of, dataproc_of}

-- the sum r goes to Rd, the flags are r's, and the next instruction follows
abbrev pub linked_of : List ℕ → ℕ → Sum → Outcome × List ℕ
linked_of regs op r = flagged_of (set regs (op ⟨ 15 ‥ 12 ⟩) r.value) r

module _ (regs : List ℕ) (op : ℕ) (c v : Bool) where
  -- any operation with S but a compare, into a register other than r15
  pub links : (r : Sum)
      → result_of (op ⟨ 24 ‥ 21 ⟩) (first_of regs op) (operand_of regs op c).value (operand_of regs op c).carry c v ≡ r
      → (op ⟨ 24 ‥ 23 ⟩ ≡ 2 → ⊥)
      → op ⟨ 20 ⟩ ≡ true
      → (op ⟨ 15 ‥ 12 ⟩ ≡ 15 → ⊥)
      → dataproc_of regs op c v ≡ linked_of regs op r
  unfolding dataproc_of placed_of when◌then◌else◌
  links r e k s d = rw (e, ne_eqb (op ⟨ 24 ‥ 23 ⟩) 2 k, s, ne_eqb (op ⟨ 15 ‥ 12 ⟩) 15 d)

  pub subs_links : op ⟨ 24 ‥ 21 ⟩ ≡ 2 → op ⟨ 20 ⟩ ≡ true → (op ⟨ 15 ‥ 12 ⟩ ≡ 15 → ⊥)
      → dataproc_of regs op c v ≡ linked_of regs op (sbc_of (first_of regs op) (operand_of regs op c).value true)
  unfolding result_of when◌then◌else◌
  subs_links k = links _ (rw k (sub_sbc _ _)) (λ e. omega arith)

  pub sbcs_links : op ⟨ 24 ‥ 21 ⟩ ≡ 6 → op ⟨ 20 ⟩ ≡ true → (op ⟨ 15 ‥ 12 ⟩ ≡ 15 → ⊥)
      → dataproc_of regs op c v ≡ linked_of regs op (sbc_of (first_of regs op) (operand_of regs op c).value c)
  unfolding result_of when◌then◌else◌
  sbcs_links k = links _ (rw k) (λ e. omega arith)

  pub adds_links : op ⟨ 24 ‥ 21 ⟩ ≡ 4 → op ⟨ 20 ⟩ ≡ true → (op ⟨ 15 ‥ 12 ⟩ ≡ 15 → ⊥)
      → dataproc_of regs op c v ≡ linked_of regs op (adc_of (first_of regs op) (operand_of regs op c).value false)
  unfolding result_of when◌then◌else◌
  adds_links k = links _ (rw k (add_adc _ _)) (λ e. omega arith)

  pub adcs_links : op ⟨ 24 ‥ 21 ⟩ ≡ 5 → op ⟨ 20 ⟩ ≡ true → (op ⟨ 15 ‥ 12 ⟩ ≡ 15 → ⊥)
      → dataproc_of regs op c v ≡ linked_of regs op (adc_of (first_of regs op) (operand_of regs op c).value c)
  unfolding result_of when◌then◌else◌
  adcs_links k = links _ (rw k) (λ e. omega arith)
