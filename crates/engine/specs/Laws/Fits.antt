-- GE stays within four bits in all seven status records, through bank switches, returns and moves of status words.
use Rattle.std.specs.Prelude.{Bool, ℕ, zero, suc, ◌≤◌, ◌<◌, get_or, set}
use mathlib.Core.List.{List, [], ◌∷◌}
use Rattle.std.proofs.Common.{arith}
use Rattle.bits.specs.Cases.{when◌then◌else◌, if_both}
use Rattle.psr.specs.declared.Status.{Status}
use Rattle.psr.specs.declared.Mode.{Mode}
use Rattle.psr.specs.declared.Mode.TheVariants.{User, Fiq, Irq, Supervisor, Abort, Undefined, System}
use Rattle.psr.specs.Status.{written_of}
use Rattle.cpu.specs.declared.Machine.{Machine}
use Rattle.cpu.specs.Answers.{no_status}
use Rattle.cpu.specs.Laws.Fits.{Fits, AllFit}
use Rattle.cpu.specs.With.{with_regs, with_cpsr, with_spsr}
use Rattle.banks.specs.Banks.{bank_of, saved_kept, spsr_taken, entered_of, switched_of, restored_of, branched_to, returned_of, exchanged_to, with_user_reg}
use Rattle.moves.specs.Moves.{mrs_of, msr_of, cps_status_of, cps_of, moves_of}

-- an element of a list after a store is the one that was stored or the one before
set_either : (P : Status → Type 0) (l : List Status) (b i : ℕ) (s d : Status) → P s → P (get_or l i d) → P (get_or (set l b s) i d)
set_either P [] b i s d p q = q
set_either P (x ∷ xs) zero zero s d p q = p
set_either P (x ∷ xs) zero (suc i) s d p q = q
set_either P (x ∷ xs) (suc b) zero s d p q = q
set_either P (x ∷ xs) (suc b) (suc i) s d p q = set_either P xs b i s d p q

-- ---- mode changes

module _ (m : Machine) (f : AllFit m) where
  kept_fit : (i : ℕ) → i < 5 → Fits (get_or (saved_kept m) i no_status)
  unfolding saved_kept
  kept_fit i h =
      if_both (λ (l : List Status). Fits (get_or l i no_status)) _
      (set_either Fits m.saved (bank_of m.cpsr.mode) i m.spsr no_status f.saved (f.banked i h))
      (f.banked i h)

  taken_fit : (new : Mode) → Fits (spsr_taken m new)
  unfolding spsr_taken when◌then◌else◌
  taken_fit Fiq = kept_fit 0 (omega arith)
  taken_fit Irq = kept_fit 1 (omega arith)
  taken_fit Supervisor = kept_fit 2 (omega arith)
  taken_fit Abort = kept_fit 3 (omega arith)
  taken_fit Undefined = kept_fit 4 (omega arith)
  taken_fit User = f.saved
  taken_fit System = f.saved

  pub switched_fit : (new : Mode) → AllFit (switched_of m new)
  unfolding switched_of entered_of
  switched_fit new = if_both AllFit _ f (record { current = f.current; saved = taken_fit new; banked = kept_fit })

-- a machine with another current record that fits
pub current_fit : (m : Machine) (s : Status) → AllFit m → Fits s → AllFit (with_cpsr m s)
current_fit m s f h = record { current = h; saved = f.saved; banked = f.banked }

pub saved_fit : (m : Machine) (s : Status) → AllFit m → Fits s → AllFit (with_spsr m s)
saved_fit m s f h = record { current = f.current; saved = h; banked = f.banked }

-- with other registers
pub regs_fit : (m : Machine) (regs : List ℕ) → AllFit m → AllFit (with_regs m regs)
regs_fit m regs f = record { current = f.current; saved = f.saved; banked = f.banked }

pub restored_fit : (m : Machine) → AllFit m → AllFit (restored_of m)
unfolding restored_of
restored_fit m f = current_fit (switched_of m m.spsr.mode) m.spsr (switched_fit m f m.spsr.mode) f.saved

pub branched_fit : (m : Machine) (to : ℕ) → AllFit m → AllFit (branched_to m to)
unfolding branched_to
branched_fit m to f = regs_fit m _ f

pub returned_fit : (m : Machine) (to : ℕ) → AllFit m → AllFit (returned_of m to)
unfolding returned_of
returned_fit m to f = branched_fit (restored_of m) to (restored_fit m f)

pub exchanged_fit : (m : Machine) (to : ℕ) → AllFit m → AllFit (exchanged_to m to)
unfolding exchanged_to
exchanged_fit m to f = branched_fit _ to (current_fit m _ f f.current)

pub user_reg_fit : (m : Machine) (r value : ℕ) → AllFit m → AllFit (with_user_reg m r value)
unfolding with_user_reg
user_reg_fit m r value f =
    if_both AllFit _ (regs_fit m _ f)
    (if_both AllFit _
    (if_both AllFit _ (record { current = f.current; saved = f.saved; banked = f.banked }) (regs_fit m _ f))
    (if_both AllFit _
    (if_both AllFit _ (record { current = f.current; saved = f.saved; banked = f.banked }) (regs_fit m _ f))
    (exchanged_fit m value f)))

-- ---- moves of status words

written_fit : (s : Status) (value mask : ℕ) (priv : Bool) → Fits s → Fits (written_of s value mask priv)
unfolding written_of
written_fit s value mask priv h = if_both (λ (g : ℕ). g ≤ 15) _ (omega arith) h

cps_status_fit : (s : Status) (op : ℕ) → Fits s → Fits (cps_status_of s op)
unfolding cps_status_of
cps_status_fit s op h = if_both Fits _ h h

pub moves_fit : (m : Machine) (op : ℕ) → AllFit m → AllFit (moves_of m op)
unfolding moves_of mrs_of msr_of cps_of
moves_fit m op f =
    if_both AllFit _
    (if_both AllFit _
    (if_both AllFit _
    (regs_fit _ _ (switched_fit _ (current_fit m _ f (cps_status_fit m.cpsr op f.current)) _))
    (regs_fit _ _ (current_fit m _ f (cps_status_fit m.cpsr op f.current))))
    (regs_fit _ _ f))
    (if_both AllFit _
    (if_both AllFit _
    (regs_fit _ _ (saved_fit m _ f (written_fit m.spsr _ _ _ f.saved)))
    (regs_fit _ _ (current_fit _ _ (switched_fit m f _) (written_fit m.cpsr _ _ _ f.current))))
    (regs_fit m _ f))
