-- The guard of a transfer as the code tests it, and memory beside a family that leaves it alone.
use Rattle.std.specs.Prelude.{◌≡◌, refl, true, false, Option, Some, None, Result, Ok, Err, List, ℕ, get_or}
use Rattle.std.proofs.Common.{ap}
use Rattle.bits.specs.Cases.{when◌then◌else◌, cases}
use Rattle.memory.specs.declared.Outside.{Outside}
use Rattle.memory.specs.Plans.{reaches_out, outside_of, performed_of}
use Rattle.memory.specs.Laws.Plans.{out_one, within_ok, within_err, performed_none, performed_some, performed_inside, performed_outside}
use Rattle.cpu.specs.declared.Outcome.{Outcome}
use Rattle.cpu.specs.declared.Answer.TheVariants.{Bus}
use Rattle.cpu.specs.declared.Outcome.TheVariants.{Stop}
use Rattle.transfer.specs.Transfers.{guarded_of, beside}

-- what holds of every answer 7, and of what the transfer does, holds of the guarded transfer
pub guarded_both : (P : Outcome × List ℕ × List ℕ → Type 0) (f : Option ℕ) (regs l : List ℕ) {done : Outcome × List ℕ × List ℕ}
    → ((address : ℕ) → P (Stop (Bus address), regs, l)) → P done → P (guarded_of f regs l done)
unfolding guarded_of
guarded_both P None regs l p q = q
guarded_both P (Some address) regs l p q = p address

-- byte b is what it was in l
abbrev pub Untouched : List ℕ → ℕ → Outcome × List ℕ × List ℕ → Type 0
Untouched l b x = get_or x.2 b 0 ≡ get_or l b 0

pub guarded_untouched : (f : Option ℕ) (regs l : List ℕ) (b : ℕ) (done : Outcome × List ℕ × List ℕ) → Untouched l b done → Untouched l b (guarded_of f regs l done)
guarded_untouched f regs l b done h = guarded_both (Untouched l b) f regs l (λ a. refl) h

module _ (regs l : List ℕ) (done : Outcome × List ℕ × List ℕ) (f : Option ℕ) where
  pub guarded_inside : f ≡ None → guarded_of f regs l done ≡ done
  unfolding guarded_of
  guarded_inside e = rw e

  pub guarded_outside : (address : ℕ) → f ≡ Some address → guarded_of f regs l done ≡ (Stop (Bus address), regs, l)
  unfolding guarded_of
  guarded_outside address e = rw e

-- one access
module _ (len at width : ℕ) (regs l : List ℕ) (done : Outcome × List ℕ × List ℕ) where
  pub guard_shut : reaches_out len at width ≡ true → guarded_of (outside_of len at width 1) regs l done ≡ (Stop (Bus at), regs, l)
  unfolding guarded_of when◌then◌else◌
  guard_shut e = rw (out_one len at width, e)

  pub guard_open : reaches_out len at width ≡ false → guarded_of (outside_of len at width 1) regs l done ≡ done
  unfolding guarded_of when◌then◌else◌
  guard_open e = rw (out_one len at width, e)

-- what a family did to the registers, with memory beside it
pub beside_is : {x : Outcome × List ℕ} {r : Outcome} {g l : List ℕ} → ◌≡◌ {A = Outcome × List ℕ} (r, g) x
    → ◌≡◌ {A = Outcome × List ℕ × List ℕ} (r, g, l) (beside x l)
beside_is {l = l} e = ap (λ (y : Outcome × List ℕ). beside y l) e

-- a tested store that was made, with what became of the registers; and one that was refused: answers cite them with the store's clause, which `search` does not find
module _ {r : Result Unit Outside} {m : List ℕ} (f : Option ℕ) (l after regs : List ℕ) (e : ◌≡◌ {A = Result Unit Outside × List ℕ} (r, m) (performed_of f l after)) where
  pub stored_inside : {o : Outcome} {g : List ℕ} {x : Outcome × List ℕ} → r ≡ Ok tt → ◌≡◌ {A = Outcome × List ℕ} (o, g) x
      → ◌≡◌ {A = Outcome × List ℕ × List ℕ} (o, g, m) (guarded_of f regs l (beside x after))
  unfolding guarded_of
  stored_inside h k = rw (performed_none _ _ _ e h, performed_inside _ _ _ e h) (beside_is k)

  pub stored_outside : (a : Outside) (done : Outcome × List ℕ × List ℕ) → r ≡ Err a
      → ◌≡◌ {A = Outcome × List ℕ × List ℕ} (Stop (Bus a.0), regs, m) (guarded_of f regs l done)
  unfolding guarded_of
  stored_outside a done h = rw (performed_some _ _ _ e _ h, performed_outside _ _ _ e _ h)

-- what a transfer's function is proved by
pub ruleset guards = (cases, within_ok, within_err, guard_shut, guard_open, guarded_inside, guarded_outside, beside_is)
