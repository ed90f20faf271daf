-- An instruction that is reached: what its family does, settled; or the next instruction.
use Rattle.std.specs.Prelude.{◌≡◌, true, false, List, ℕ, ◌+◌, ◌%◌, ◌^◌, set}
use Rattle.std.proofs.Math.Path.{refl, ap}
use Rattle.std.proofs.Common.{◌∙◌}
use Rattle.bits.specs.Cases.{if_yes, if_no}
use Rattle.decode.specs.Families.{family_of}
use Rattle.cpu.specs.declared.Machine.{Machine}
use Rattle.cpu.specs.declared.Outcome.TheVariants.{Nothing}
use Rattle.cpu.specs.With.{with_regs}
use Rattle.arm.specs.Turn.{seen_of, effect_of, turn_of}
use Rattle.engine.specs.Step.{going, settled_of, next_of, turned_of, executed_of}
use Rattle.claims.specs.Demand1.{passes}
use Rattle.claims.specs.Demand2.{lent, settled}

module _ (m : Machine) (op : ℕ) (l : List ℕ) where
  turned_passed : passes m op ≡ true → turned_of m op l ≡ effect_of (family_of op) (lent m) op (seen_of m) l
  unfolding turn_of
  turned_passed e = if_yes _ _ _ e

  turned_failed : passes m op ≡ false → turned_of m op l ≡ (Nothing, set m.regs 15 ((next_of m + 4) % 2 ^ 32), l)
  unfolding turn_of
  turned_failed e = if_no _ _ _ e

  executed_is : executed_of m op l ≡ settled m op (turned_of m op l)
  unfolding executed_of
  executed_is = refl

  pub executed_passed : passes m op ≡ true → executed_of m op l ≡ settled m op (effect_of (family_of op) (lent m) op (seen_of m) l)
  executed_passed e = executed_is ∙ ap (settled m op) (turned_passed e)

  pub executed_failed : passes m op ≡ false
      → executed_of m op l ≡ (going (with_regs m (set m.regs 15 ((next_of m + 4) % 2 ^ 32))), l)
  unfolding settled_of
  executed_failed e = executed_is ∙ ap (settled m op) (turned_failed e)
