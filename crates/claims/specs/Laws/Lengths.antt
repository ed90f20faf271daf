-- A step keeps the number of lent bytes.
use Rattle.std.specs.Prelude.{◌≡◌, Bool, ℕ, length, set, None, Option, Some, Result}
use Rattle.std.proofs.Math.Path.{refl}
use Rattle.std.proofs.Common.{◌∙◌}
use mathlib.Core.List.{List}
use Rattle.std.proofs.Math.ListN.{length-set}
use Rattle.bits.specs.Cases.{if_both}
use Rattle.decode.specs.declared.Family.{Family}
use Rattle.decode.specs.declared.Family.TheVariants as family
use Rattle.decode.specs.Families.{family_of}
use Rattle.memory.specs.Bytes.{word_at, put_half, written_of}
use Rattle.memory.specs.Plans.{stored_of}
use Rattle.memory.specs.Laws.Bytes.{length_word}
use Rattle.memory.specs.Laws.Plans.{length_words}
use Rattle.memory.specs.declared.Width.{Width}
use Rattle.memory.specs.declared.Width.TheVariants.{Byte, Half, Word}
use Rattle.cpu.specs.declared.Machine.{Machine}
use Rattle.cpu.specs.declared.Answer.{Answer}
use Rattle.cpu.specs.declared.Outcome.TheVariants as outcome
use Rattle.cpu.specs.declared.Outcome.{Outcome}
use Rattle.cpu.specs.With.{with_regs}
use Rattle.transfer.specs.Transfers.{guarded_of}
use Rattle.transfer.specs.Laws.Guards.{guarded_both}
use Rattle.loadstore.specs.Single.{single_at, single_of}
use Rattle.loadstore.specs.Extra.{extra_loads_of, extra_at, extra_of}
use Rattle.exclusive.specs.Exclusive.{swap_of, ldrex_of, ldrexd_of, strex_of, strexd_of, exclusive_of}
use Rattle.block.specs.declared.Plan.{Plan}
use Rattle.block.specs.Block.{store_of, load_of, block_of}
use Rattle.block.specs.UserBlock.{user_store_of, user_moved_of, user_guarded_of, user_block_of}
use Rattle.arm.specs.declared.Seen.{Seen}
use Rattle.arm.specs.Turn.{seen_of, effect_of, turn_of}
use Rattle.engine.specs.declared.Stepped.{Stepped}
use Rattle.engine.specs.Step.{settled_of, blocked_of, next_of, turned_of, executed_of, taken_of, gated_of, step_of}

module _ (l : List ℕ) where
  abbrev Long : List ℕ → Type 0
  Long x = length x ≡ length l

  abbrev Whole : Outcome × List ℕ × List ℕ → Type 0
  Whole x = Long x.2

  abbrev Stays : Stepped × List ℕ → Type 0
  Stays x = Long x.1

  length_written : (at : ℕ) (w : Width) (v : ℕ) → Long (written_of l at w v)
  unfolding put_half
  length_written at Byte v = length-set l at _
  length_written at Half v = length-set (set l at _) _ _ ∙ length-set l at _
  length_written at Word v = length_word l at v

  length_stored : (at count : ℕ) (values : List ℕ) → Long (stored_of l at count values)
  unfolding stored_of
  length_stored at count values = length_words l _ values

  guarded : (f : Option ℕ) (regs : List ℕ) (done : Outcome × List ℕ × List ℕ) → Whole done → Whole (guarded_of f regs l done)
  guarded f regs done = guarded_both Whole f regs l (λ address. refl)

  length_single : (regs : List ℕ) (op : ℕ) (c : Bool) → Whole (single_of regs op c l)
  unfolding single_of single_at
  length_single regs op c = guarded _ regs _ (if_both Whole _ refl (length_written _ _ _))

  length_extra : (regs : List ℕ) (op : ℕ) → Whole (extra_of regs op l)
  unfolding extra_of extra_at extra_loads_of put_half
  length_extra regs op =
      if_both Whole _ refl
      (if_both Whole _
      (if_both Whole _ (guarded _ regs _ refl) (if_both Whole _ (guarded _ regs _ refl) (guarded _ regs _ refl)))
      (if_both Whole _ (guarded _ regs _ (length-set (set l _ _) _ _ ∙ length-set l _ _))
      (if_both Whole _ refl
      (if_both Whole _ (guarded _ regs _ refl) (guarded _ regs _ (length_word _ _ _ ∙ length_word l _ _))))))

  length_block : (regs : List ℕ) (op : ℕ) → Whole (block_of regs op l)
  unfolding block_of store_of load_of
  length_block regs op = if_both Whole _ refl (guarded _ regs _ (if_both Whole _ refl (length_stored _ _ _)))

  length_swap : (regs : List ℕ) (op : ℕ) → Whole (swap_of regs op l)
  unfolding swap_of
  length_swap regs op = guarded _ regs _ (length_written _ _ _)

  length_exclusive : (regs : List ℕ) (op : ℕ) (tag : Option ℕ) → Whole (exclusive_of regs op tag l)
  unfolding exclusive_of ldrex_of ldrexd_of strex_of strexd_of
  length_exclusive regs op tag =
      if_both Whole _
      (if_both Whole _ (if_both Whole _ refl (guarded _ regs _ refl)) (guarded _ regs _ refl))
      (if_both Whole _
      (if_both Whole _ refl (if_both Whole _ (guarded _ regs _ (length_word _ _ _ ∙ length_word l _ _)) refl))
      (if_both Whole _ (guarded _ regs _ (length_written _ _ _)) refl))

  length_effect : (f : Family) (regs : List ℕ) (op : ℕ) (s : Seen) → Whole (effect_of f regs op s l)
  unfolding effect_of
  length_effect family.DataProcessing regs op s = refl
  length_effect family.MultiplyShort regs op s = refl
  length_effect family.MultiplyLong regs op s = refl
  length_effect family.Halfword regs op s = refl
  length_effect family.Saturating regs op s = refl
  length_effect family.Swap regs op s = length_swap regs op
  length_effect family.Exclusive regs op s = length_exclusive regs op _
  length_effect family.Extra regs op s = length_extra regs op
  length_effect family.StatusMove regs op s = refl
  length_effect family.BranchExchange regs op s = refl
  length_effect family.CountZeros regs op s = refl
  length_effect family.Breakpoint regs op s = refl
  length_effect family.Single regs op s = length_single regs op _
  length_effect family.Media regs op s = refl
  length_effect family.Block regs op s = length_block regs op
  length_effect family.Branch regs op s = refl
  length_effect family.Coprocessor regs op s = refl
  length_effect family.CoprocessorMove regs op s = refl
  length_effect family.Supervisor regs op s = refl
  length_effect family.Undefined regs op s = refl
  length_effect family.BranchLinkExchange regs op s = refl
  length_effect family.ClearExclusive regs op s = refl
  length_effect family.ChangeState regs op s = refl
  length_effect family.Preload regs op s = refl

  length_turn : (regs : List ℕ) (at op : ℕ) (s : Seen) → Whole (turn_of regs at op s l)
  unfolding turn_of
  length_turn regs at op s = if_both Whole _ (length_effect (family_of op) _ op s) refl

  -- LDM and STM with S
  length_user : (f : Option ℕ) (m : Machine) (at : ℕ) (done : Machine × List ℕ) → Long done.1
      → (let x : Result Machine Answer × List ℕ = user_guarded_of f l done in Stays (blocked_of m at x.0 x.1))
  unfolding blocked_of user_guarded_of
  length_user None m at done h = h
  length_user (Some address) m at done h = refl

  length_moved : (p : Plan) (m : Machine) (op : ℕ) → Long (user_moved_of p m op l).1
  unfolding user_moved_of user_store_of
  length_moved p m op = if_both (λ (x : Machine × List ℕ). Long x.1) _ (if_both (λ (x : Machine × List ℕ). Long x.1) _ refl refl) (length_stored _ _ _)

length_settled : (l : List ℕ) (o : Outcome) (m : Machine) (at op : ℕ) → Stays l (settled_of o m at op l)
unfolding settled_of user_block_of
length_settled l outcome.Nothing m at op = refl
length_settled l (outcome.Flags n z c v) m at op = refl
length_settled l outcome.Sticky m at op = refl
length_settled l (outcome.Lanes ge) m at op = refl
length_settled l (outcome.Exchange t) m at op = refl
length_settled l (outcome.Tagged a) m at op = refl
length_settled l outcome.Untagged m at op = refl
length_settled l (outcome.Return to) m at op = refl
length_settled l outcome.Moves m at op = refl
length_settled l outcome.Block m at op = length_user l _ m at _ (length_moved l _ m op)
length_settled l (outcome.Call number) m at op = refl
length_settled l (outcome.Stop answer) m at op = refl

length_executed : (m : Machine) (op : ℕ) (l : List ℕ) → Stays l (executed_of m op l)
unfolding executed_of
length_executed m op l =
    let x = turned_of m op l in
    length_settled x.2 x.0 (with_regs m x.1) (next_of m) op
    ∙ length_turn l m.regs (next_of m) op (seen_of m)

pub length_step : (m : Machine) (l : List ℕ) → length (step_of m l).1 ≡ length l
unfolding step_of gated_of taken_of
length_step m l =
    if_both (Stays l) _ refl
    (if_both (Stays l) _ refl (if_both (Stays l) _ refl (if_both (Stays l) _ (length_executed m (word_at l (next_of m)) l) refl)))
