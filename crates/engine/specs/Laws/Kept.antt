-- What every step keeps: GE within four bits in all seven records.
use Rattle.std.specs.Prelude.{◌≡◌, refl, false, Option, Some, None, Result, List, [], ◌∷◌, ℕ, ◌≤◌, get_or, drop}
use Rattle.bits.specs.Cases.{if_both}
use Rattle.memory.specs.Bytes.{word_at}
use Rattle.cpu.specs.declared.Machine.{Machine}
use Rattle.cpu.specs.declared.Answer.{Answer}
use Rattle.cpu.specs.declared.Outcome.TheVariants as outcome
use Rattle.cpu.specs.declared.Outcome.{Outcome}
use Rattle.cpu.specs.Answers.{bad_of}
use Rattle.cpu.specs.With.{with_regs}
use Rattle.banks.specs.Banks.{with_user_reg}
use Rattle.block.specs.declared.Plan.{Plan}
use Rattle.block.specs.Block.{put_each}
use Rattle.block.specs.UserBlock.{user_store_of, user_load_of, return_load_of, user_moved_of, user_guarded_of, user_block_of}
use Rattle.arm.specs.Turn.{seen_of}
use Rattle.arm.specs.Laws.Sound.{sound_turn}
use Rattle.engine.specs.declared.Stepped.{Stepped}
use Rattle.engine.specs.Step.{settled_of, blocked_of, next_of, turned_of, executed_of, taken_of, given_of, gated_of, step_of, step_with_of}
use Rattle.cpu.specs.Laws.Fits.{AllFit, good_fits, fits_good}
use Rattle.engine.specs.Laws.Fits.{regs_fit, current_fit, restored_fit, returned_fit, exchanged_fit, user_reg_fit, moves_fit}

abbrev FitsAfter : Machine × List ℕ → Type 0
FitsAfter x = AllFit x.0

each_fit : (rs words : List ℕ) (m : Machine) → AllFit m → AllFit (put_each (λ x r v. with_user_reg x r v) m rs words)
unfolding put_each
each_fit [] words m f = f
each_fit (r ∷ rs) words m f = each_fit rs (drop 1 words) (with_user_reg m r (get_or words 0 0)) (user_reg_fit m r (get_or words 0 0) f)

user_moved_fit : (p : Plan) (m : Machine) (op : ℕ) (l : List ℕ) → AllFit m → FitsAfter (user_moved_of p m op l)
unfolding user_moved_of user_store_of user_load_of return_load_of
user_moved_fit p m op l f =
    if_both FitsAfter _
    (if_both FitsAfter _
    (exchanged_fit _ _ (restored_fit _ (regs_fit m _ f)))
    (if_both AllFit _ (each_fit _ _ _ (regs_fit m _ f)) (regs_fit _ _ (each_fit _ _ _ (regs_fit m _ f)))))
    (regs_fit m _ f)

user_guarded_fit : (f : Option ℕ) (m : Machine) (at : ℕ) (l : List ℕ) (done : Machine × List ℕ) → AllFit m → FitsAfter done
    → (let x : Result Machine Answer × List ℕ = user_guarded_of f l done in AllFit (blocked_of m at x.0 x.1).0.machine)
unfolding blocked_of user_guarded_of
user_guarded_fit None m at l done f g = g
user_guarded_fit (Some address) m at l done f g = regs_fit m _ f

user_fit : (at : ℕ) (m : Machine) (op : ℕ) (l : List ℕ) → AllFit m → AllFit (blocked_of m at (user_block_of m op l).0 (user_block_of m op l).1).0.machine
unfolding user_block_of
user_fit at m op l f = user_guarded_fit _ m at l _ f (user_moved_fit _ m op l f)

settled_fit : (o : Outcome) (m : Machine) (at op : ℕ) (l : List ℕ) → AllFit m → ((ge : ℕ) → o ≡ outcome.Lanes ge → ge ≤ 15) → AllFit (settled_of o m at op l).0.machine
unfolding settled_of
settled_fit outcome.Nothing m at op l f h = f
settled_fit (outcome.Flags n z c v) m at op l f h = current_fit m _ f f.current
settled_fit outcome.Sticky m at op l f h = current_fit m _ f f.current
settled_fit (outcome.Lanes ge) m at op l f h = current_fit m _ f (h ge refl)
settled_fit (outcome.Exchange t) m at op l f h = current_fit m _ f f.current
settled_fit (outcome.Tagged a) m at op l f h = record { current = f.current; saved = f.saved; banked = f.banked }
settled_fit outcome.Untagged m at op l f h = record { current = f.current; saved = f.saved; banked = f.banked }
settled_fit (outcome.Return to) m at op l f h = returned_fit m to f
settled_fit outcome.Moves m at op l f h = moves_fit m op f
settled_fit outcome.Block m at op l f h = user_fit at m op l f
settled_fit (outcome.Call number) m at op l f h = f
settled_fit (outcome.Stop answer) m at op l f h = regs_fit m _ f

module _ (m : Machine) (l : List ℕ) where
  abbrev StepFits : Stepped × List ℕ → Type 0
  StepFits x = AllFit x.0.machine

  executed_fit : (op : ℕ) → AllFit m → StepFits (executed_of m op l)
  unfolding executed_of
  executed_fit op f =
      let x = turned_of m op l in
      let s = sound_turn m.regs (next_of m) op (seen_of m) l in
      settled_fit x.0 (with_regs m x.1) (next_of m) op x.2 (regs_fit m x.1 f) s.ge_fits

  gated_fit : (x : Stepped × List ℕ) → AllFit m → StepFits x → StepFits (gated_of m l x)
  unfolding gated_of
  gated_fit x f h = if_both StepFits _ f (if_both StepFits _ f h)

  -- a machine that does not earn answer 8 never comes to earn it
  pub step_ge_kept : bad_of m ≡ false → bad_of (step_of m l).0.machine ≡ false
  unfolding step_of taken_of
  step_ge_kept e =
      let f = good_fits m e in
      fits_good _ (gated_fit _ f (if_both StepFits _ f (if_both StepFits _ (executed_fit (word_at l (next_of m)) f) f)))

  pub given_ge_kept : (op : ℕ) → bad_of m ≡ false → bad_of (step_with_of m op l).0.machine ≡ false
  unfolding step_with_of given_of
  given_ge_kept op e =
      let f = good_fits m e in
      fits_good _ (gated_fit _ f (if_both StepFits _ f (executed_fit op f)))
