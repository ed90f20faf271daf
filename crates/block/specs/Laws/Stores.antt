-- A finished block transfer changes only bytes of its plan, and a load none.
use Rattle.std.specs.Prelude.{◌≡◌, Option, Some, None, ℕ, ◌<◌}
use Rattle.std.proofs.Math.Path.{refl}
use mathlib.Core.List.{List}
use Rattle.std.proofs.Math.ListN.{get_or}
use Rattle.bits.specs.Cases.{if_both}
use Rattle.memory.specs.Plans.{accesses_of, stored_of}
use Rattle.memory.specs.Laws.Bytes.{Clear}
use Rattle.memory.specs.Laws.Plans.{length_accesses, byte_words}
use Rattle.cpu.specs.declared.Machine.{Machine}
use Rattle.transfer.specs.Laws.Guards.{Untouched, guarded_untouched}
use Rattle.block.specs.declared.Plan.{Plan}
use Rattle.block.specs.Block.{plan_of, count_of, stored_list_of, store_of, load_of, block_of}
use Rattle.block.specs.UserBlock.{user_store_of, user_moved_of, user_guarded_of, user_block_of}

-- no access of the plan has byte b
abbrev pub Beyond : Plan → ℕ → Type 0
Beyond p b = (i : ℕ) → i < count_of p.list → Clear (get_or (accesses_of p.start 4 (count_of p.list)) i 0) 4 b

stored_untouched : (p : Plan) (source : ℕ → ℕ) (l : List ℕ) (b : ℕ) → Beyond p b → get_or (stored_list_of p source l) b 0 ≡ get_or l b 0
unfolding stored_of
stored_untouched p source l b h =
    byte_words l (accesses_of p.start 4 (count_of p.list)) _ b (λ i k. h i (rw (length_accesses p.start 4 (count_of p.list)) at k))

pub block_untouched : (regs : List ℕ) (op : ℕ) (l : List ℕ) (b : ℕ) → Beyond (plan_of regs op) b → get_or (block_of regs op l).2 b 0 ≡ get_or l b 0
unfolding block_of store_of load_of
block_untouched regs op l b h =
    if_both (Untouched l b) _ refl
    (guarded_untouched _ regs l b _
    (if_both (Untouched l b) _ refl (stored_untouched (plan_of regs op) _ l b h)))

module _ (m : Machine) (op : ℕ) (l : List ℕ) (b : ℕ) where
  moved_untouched : (p : Plan) → Beyond p b → get_or (user_moved_of p m op l).1 b 0 ≡ get_or l b 0
  unfolding user_moved_of user_store_of
  moved_untouched p h =
      if_both (λ (x : Machine × List ℕ). get_or x.1 b 0 ≡ get_or l b 0) _
      (if_both (λ (x : Machine × List ℕ). get_or x.1 b 0 ≡ get_or l b 0) _ refl refl)
      (stored_untouched p _ l b h)

  user_guarded : (f : Option ℕ) (done : Machine × List ℕ) → get_or done.1 b 0 ≡ get_or l b 0 → get_or (user_guarded_of f l done).1 b 0 ≡ get_or l b 0
  unfolding user_guarded_of
  user_guarded None done h = h
  user_guarded (Some a) done h = refl

  -- with S
  pub user_untouched : Beyond (plan_of m.regs op) b → get_or (user_block_of m op l).1 b 0 ≡ get_or l b 0
  unfolding user_block_of
  user_untouched h = user_guarded _ _ (moved_untouched (plan_of m.regs op) h)
