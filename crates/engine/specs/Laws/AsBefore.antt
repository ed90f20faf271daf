-- A step that answers neither 0 nor 1 leaves the machine and every byte as they were.
use Rattle.std.specs.Prelude.{◌≡◌, true, false, Option, Some, None, Result, List, ℕ, ◌+◌, ◌%◌, ◌^◌, set}
use Rattle.std.proofs.Math.Path.{refl}
use Rattle.std.proofs.Common.{sym, ap, ◌∙◌, set-set}
use Rattle.std.proofs.lemmas.Bool.{false≢true}
use Rattle.std.proofs.lemmas.List.{set-get_or}
use Rattle.bits.specs.Cases.{if_both}
use Rattle.memory.specs.Bytes.{word_at}
use Rattle.cpu.specs.declared.Machine.{Machine}
use Rattle.cpu.specs.declared.Answer.{Answer}
use Rattle.cpu.specs.declared.Outcome.TheVariants as outcome
use Rattle.cpu.specs.declared.Outcome.{Outcome}
use Rattle.cpu.specs.Answers.{refuses}
use Rattle.cpu.specs.With.{with_regs}
use Rattle.cpu.specs.Laws.Sound.{keeps}
use Rattle.block.specs.UserBlock.{user_guarded_of, user_block_of}
use Rattle.arm.specs.Turn.{seen_of}
use Rattle.arm.specs.Laws.Sound.{sound_turn}
use Rattle.engine.specs.declared.Stepped.{Stepped}
use Rattle.engine.specs.Step.{settled_of, blocked_of, next_of, turned_of, executed_of, taken_of, given_of, gated_of, step_of, step_with_of}

pub record AsBefore (m : Machine) (l : List ℕ) (x : Stepped × List ℕ) : Type 0 where
  pub machine : refuses x.0.answer ≡ true → x.0.machine ≡ m
  pub bytes : refuses x.0.answer ≡ true → x.1 ≡ l

as_done : {m : Machine} {l : List ℕ} {x : Stepped × List ℕ} → refuses x.0.answer ≡ false → AsBefore m l x
as_done h = record { machine = λ e. absurd (false≢true (sym h ∙ e)); bytes = λ e. absurd (false≢true (sym h ∙ e)) }

as_still : {m : Machine} {l : List ℕ} {x : Stepped × List ℕ} → x.0.machine ≡ m → x.1 ≡ l → AsBefore m l x
as_still a b = record { machine = λ _. a; bytes = λ _. b }

-- the registers with r15 at A + 8, and then at A again
module _ (m : Machine) (l : List ℕ) where
  abbrev lent : List ℕ
  lent = set m.regs 15 ((next_of m + 8) % 2 ^ 32)

  back : {g : List ℕ} → g ≡ lent → with_regs m (set g 15 (next_of m)) ≡ m
  back e =
      ap (λ (y : List ℕ). with_regs m y)
      (ap (λ (y : List ℕ). set y 15 (next_of m)) e ∙ set-set m.regs 15 ((next_of m + 8) % 2 ^ 32) (next_of m) ∙ set-get_or m.regs 15 0)

  as_user : (f : Option ℕ) (g : List ℕ) (done : Machine × List ℕ) → g ≡ lent
      → (let x : Result Machine Answer × List ℕ = user_guarded_of f l done in AsBefore m l (blocked_of (with_regs m g) (next_of m) x.0 x.1))
  unfolding blocked_of user_guarded_of
  as_user None g done e = as_done refl
  as_user (Some address) g done e = as_still (back e) refl

  as_block : (op : ℕ) (g l' : List ℕ) → g ≡ lent → l' ≡ l
      → (let x : Result Machine Answer × List ℕ = user_block_of (with_regs m g) op l' in AsBefore m l (blocked_of (with_regs m g) (next_of m) x.0 x.1))
  unfolding user_block_of
  as_block op g l' e p = rw p (as_user _ g _ e)

  as_settled : (o : Outcome) (op : ℕ) (g l' : List ℕ) → (keeps o ≡ true → g ≡ lent) → (keeps o ≡ true → l' ≡ l)
      → AsBefore m l (settled_of o (with_regs m g) (next_of m) op l')
  unfolding settled_of
  as_settled outcome.Nothing op g l' r b = as_done refl
  as_settled (outcome.Flags n z c v) op g l' r b = as_done refl
  as_settled outcome.Sticky op g l' r b = as_done refl
  as_settled (outcome.Lanes ge) op g l' r b = as_done refl
  as_settled (outcome.Exchange t) op g l' r b = as_done refl
  as_settled (outcome.Tagged a) op g l' r b = as_done refl
  as_settled outcome.Untagged op g l' r b = as_done refl
  as_settled (outcome.Return to) op g l' r b = as_done refl
  as_settled outcome.Moves op g l' r b = as_done refl
  as_settled outcome.Block op g l' r b = as_block op g l' (r refl) (b refl)
  as_settled (outcome.Call number) op g l' r b = as_done refl
  as_settled (outcome.Stop answer) op g l' r b = as_still (back (r refl)) (b refl)

  as_executed : (op : ℕ) → AsBefore m l (executed_of m op l)
  unfolding executed_of
  as_executed op =
      let x = turned_of m op l in
      let s = sound_turn m.regs (next_of m) op (seen_of m) l in
      as_settled x.0 op x.1 x.2 s.registers s.bytes

  as_gated : {x : Stepped × List ℕ} → AsBefore m l x → AsBefore m l (gated_of m l x)
  unfolding gated_of
  as_gated h = if_both (AsBefore m l) _ (as_still refl refl) (if_both (AsBefore m l) _ (as_still refl refl) h)

  -- of a step
  pub step_as_before : AsBefore m l (step_of m l)
  unfolding step_of taken_of
  step_as_before =
      as_gated
      (if_both (AsBefore m l) _ (as_still refl refl)
      (if_both (AsBefore m l) _ (as_executed (word_at l (next_of m))) (as_still refl refl)))

  -- of a step with a given opcode
  pub given_as_before : (op : ℕ) → AsBefore m l (step_with_of m op l)
  unfolding step_with_of given_of
  given_as_before op = as_gated (if_both (AsBefore m l) _ (as_still refl refl) (as_executed op))
