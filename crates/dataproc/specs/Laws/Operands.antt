-- The two operands in the code's order of tests.
use Rattle.std.specs.Prelude.{◌≡◌, Bool, true, false, List, ℕ, ◌/◌, ◌%◌, ◌^◌, get_or}
use Rattle.std.proofs.Math.Bool.{and-false, and-true}
use native.Mathlib.Omega.{arith}
use borrow.Author.Tests.{eq-eqb, ne_eqb}
use Rattle.bits.specs.Cases.{when◌then◌else◌}
use Rattle.bits.specs.Fields.{◌⟨◌⟩, ◌⟨◌‥◌⟩}
use Rattle.shifter.specs.declared.Operand.{Operand}
use Rattle.shifter.specs.Shifts.{operand, type_of, by_immediate_of, by_register_of}
use Rattle.cpu.specs.Outcomes.{read_late_of}
use Rattle.dataproc.specs.declared.Operands.{Operands}
use Rattle.dataproc.specs.Dataproc.{read_of, operand_of, first_of}

pub read_early : (regs : List ℕ) (r : ℕ) → read_of regs r false ≡ get_or regs r 0
unfolding read_of when◌then◌else◌
read_early regs r = rw and-false

pub read_late : (regs : List ℕ) (r : ℕ) → read_late_of regs r ≡ read_of regs r true
unfolding read_of read_late_of when◌then◌else◌
read_late regs r = rw and-true

-- Rn, and the second operand
abbrev pub operands_with : ℕ → Operand → Operands
operands_with first x = record { first = first; second = x.value; carry = x.carry }

-- a register shifted by a register, both read late
abbrev pub late_of : List ℕ → ℕ → Bool → Operand
late_of regs op c =
    by_register_of (type_of (op ⟨ 6 ‥ 5 ⟩)) (read_of regs (op ⟨ 3 ‥ 0 ⟩) true) (read_of regs (op ⟨ 11 ‥ 8 ⟩) true ⟨ 7 ‥ 0 ⟩) c

module _ (regs : List ℕ) (op : ℕ) (c : Bool) (register : op / 2 ^ 25 % 2 ≡ 1 → ⊥) where
  pub by_immediate : (op / 2 ^ 4 % 2 ≡ 1 → ⊥) → by_immediate_of (type_of (op ⟨ 6 ‥ 5 ⟩)) (get_or regs (op ⟨ 3 ‥ 0 ⟩) 0) (op ⟨ 11 ‥ 7 ⟩) c ≡ operand_of regs op c
  unfolding operand_of when◌then◌else◌
  by_immediate h = rw (ne_eqb (op / 2 ^ 25 % 2) 1 register, ne_eqb (op / 2 ^ 4 % 2) 1 h, read_early regs (op % 16))

  pub by_register : op / 2 ^ 4 % 2 ≡ 1 → late_of regs op c ≡ operand_of regs op c
  unfolding operand_of when◌then◌else◌
  by_register h = rw (ne_eqb (op / 2 ^ 25 % 2) 1 register, h)

  -- a register shifted left by 0
  pub plain : op / 16 % 256 ≡ 0 → operand (get_or regs (op ⟨ 3 ‥ 0 ⟩) 0) c ≡ operand_of regs op c
  unfolding type_of by_immediate_of when◌then◌else◌
  plain h =
      let t : op / 32 % 4 ≡ 0 = omega arith in
      let n : op / 128 % 32 ≡ 0 = omega arith in
      rw (t, n) at (by_immediate (λ e. omega arith))

-- Rn in each form
module _ (regs : List ℕ) (op : ℕ) where
  pub first_immediate : op / 2 ^ 25 % 2 ≡ 1 → get_or regs (op ⟨ 19 ‥ 16 ⟩) 0 ≡ first_of regs op
  first_immediate h = rw (eq-eqb (op / 2 ^ 25 % 2) 1 h, read_early regs (op ⟨ 19 ‥ 16 ⟩))

  pub first_early : (op / 2 ^ 4 % 2 ≡ 1 → ⊥) → get_or regs (op ⟨ 19 ‥ 16 ⟩) 0 ≡ first_of regs op
  first_early h = rw (ne_eqb (op / 2 ^ 4 % 2) 1 h, and-false, read_early regs (op ⟨ 19 ‥ 16 ⟩))

  pub first_late : (op / 2 ^ 25 % 2 ≡ 1 → ⊥) → op / 2 ^ 4 % 2 ≡ 1 → read_of regs (op ⟨ 19 ‥ 16 ⟩) true ≡ first_of regs op
  first_late r h = rw (ne_eqb (op / 2 ^ 25 % 2) 1 r, eq-eqb (op / 2 ^ 4 % 2) 1 h)
