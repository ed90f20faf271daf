-- The ways through a block transfer.
use Rattle.std.specs.Prelude.{◌≡◌, Some, None, Result, Ok, Err, ℕ, ◌/◌, ◌%◌, ◌^◌, length}
use Rattle.std.proofs.Common.{ap, ◌∙◌}
use mathlib.Core.List.{List}
use borrow.Author.Tests.{ne_eqb}
use Rattle.bits.specs.Cases.{when◌then◌else◌}
use Rattle.cpu.specs.declared.Outcome.{Outcome}
use Rattle.cpu.specs.declared.Machine.{Machine}
use Rattle.cpu.specs.declared.Answer.{Answer}
use Rattle.cpu.specs.declared.Answer.TheVariants.{Bus}
use Rattle.cpu.specs.declared.Outcome.TheVariants.{Stop}
use Rattle.transfer.specs.Transfers.{guarded_of}
use Rattle.block.specs.declared.Plan.{Plan}
use Rattle.block.specs.Block.{plan_of, found_of, store_of, load_of, block_of}
use Rattle.block.specs.UserBlock.{user_moved_of, user_guarded_of, user_block_of}

module _ (regs : List ℕ) (op : ℕ) {p : Plan} (l : List ℕ) (e : p ≡ plan_of regs op) (s : op / 2 ^ 22 % 2 ≡ 1 → ⊥) where
  pub loads : {x : Outcome × List ℕ × List ℕ} → found_of p (length l) ≡ None → op / 2 ^ 20 % 2 ≡ 1 → x ≡ load_of p regs op l → x ≡ block_of regs op l
  unfolding block_of guarded_of when◌then◌else◌
  loads f b h = h ∙ rw (← e, ne_eqb (op / 2 ^ 22 % 2) 1 s, f, b)

  pub stores : {x : Outcome × List ℕ × List ℕ} → found_of p (length l) ≡ None → (op / 2 ^ 20 % 2 ≡ 1 → ⊥) → x ≡ store_of p regs op l → x ≡ block_of regs op l
  unfolding block_of guarded_of when◌then◌else◌
  stores f b h = h ∙ rw (← e, ne_eqb (op / 2 ^ 22 % 2) 1 s, f, ne_eqb (op / 2 ^ 20 % 2) 1 b)

  pub refuses : (at : ℕ) → found_of p (length l) ≡ Some at → (Stop (Bus at), regs, l) ≡ block_of regs op l
  unfolding block_of guarded_of when◌then◌else◌
  refuses at f = rw (← e, ne_eqb (op / 2 ^ 22 % 2) 1 s, f)

-- with S
module _ (m : Machine) (op : ℕ) {p : Plan} (l : List ℕ) (e : p ≡ plan_of m.regs op) where
  pub moves_user : {x : Machine} {l' : List ℕ} → found_of p (length l) ≡ None → ◌≡◌ {A = Machine × List ℕ} (x, l') (user_moved_of p m op l)
      → ◌≡◌ {A = Result Machine Answer × List ℕ} (Ok x, l') (user_block_of m op l)
  unfolding user_block_of user_guarded_of
  moves_user f h = rw (← e, f) (ap (λ (z : Machine × List ℕ). (Ok z.0, z.1)) h)

  pub refuses_user : (at : ℕ) → found_of p (length l) ≡ Some at → ◌≡◌ {A = Result Machine Answer × List ℕ} (Err (Bus at), l) (user_block_of m op l)
  unfolding user_block_of user_guarded_of
  refuses_user at f = rw (← e, f)
