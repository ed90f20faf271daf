-- Answer 7 is given exactly when an access of the instruction lies outside.
use Rattle.std.specs.Prelude.{◌≡◌, true, false, List, [], ◌∷◌, ◌≢◌, ℕ, length, None, Option, Some, Result}
use Rattle.std.proofs.Math.Path.{refl}
use Rattle.std.proofs.Common.{sym, ap, subst, ◌∙◌}
use Rattle.std.proofs.lemmas.Bool.{false≢true}
use Rattle.bits.specs.Cases.{if_both}
use Rattle.memory.specs.Plans.{accesses_of, first_out}
use Rattle.decode.specs.declared.Family.{Family}
use Rattle.decode.specs.declared.Family.TheVariants as family
use Rattle.decode.specs.Families.{family_of}
use Rattle.cpu.specs.declared.Machine.{Machine}
use Rattle.cpu.specs.declared.Answer.{Answer}
use Rattle.cpu.specs.declared.Answer.TheVariants as answer
use Rattle.cpu.specs.declared.Outcome.{Outcome}
use Rattle.cpu.specs.With.{with_regs}
use Rattle.transfer.specs.Transfers.{guarded_of}
use Rattle.loadstore.specs.Single.{taken_of, single_at, single_of}
use Rattle.loadstore.specs.Extra.{extra_loads_of, extra_at, extra_of}
use Rattle.exclusive.specs.Exclusive.{swap_of, ldrex_of, ldrexd_of, strex_of, strexd_of, exclusive_of}
use Rattle.block.specs.Block.{plan_of, store_of, continued_of, load_of, block_of}
use Rattle.block.specs.UserBlock.{user_moved_of, user_guarded_of, user_block_of}
use Rattle.arm.specs.declared.Seen.{Seen}
use Rattle.arm.specs.Turn.{seen_of, effect_of}
use Rattle.engine.specs.declared.Stepped.{Stepped}
use Rattle.engine.specs.Step.{settled_of, blocked_of, next_of, executed_of}
use Rattle.claims.specs.Laws.Choices.{so, if_pair}
use Rattle.claims.specs.Demand1.{number_of, among, numbers_of, passes}
use Rattle.claims.specs.Demand2.{lent, settled}
use Rattle.claims.specs.Accesses.{Accesses, none, outside, extra_reach, exclusive_reach, reach_of, found_by, Bounded}
use Rattle.claims.specs.Laws.Families.{allows, told_effect, landed, exchanged}
use Rattle.claims.specs.Laws.Composition.{executed_passed, executed_failed}
use Rattle.claims.specs.Laws.Instructions.{wrong, told_settled}

-- what an answer is by the first access outside
abbrev Says : Option ℕ → Answer → Type 0
Says None a = number_of a ≢ 7
Says (Some address) a = a ≡ answer.Bus address

-- numbers of outcomes that are no 7
abbrev calm : List ℕ
calm = 0 ∷ 1 ∷ 2 ∷ 3 ∷ 4 ∷ 11 ∷ []

abbrev Calm : Outcome × List ℕ × List ℕ → Type 0
Calm x = allows x.0 calm ≡ true

module _ (m : Machine) (op : ℕ) (l : List ℕ) where
  abbrev answer_of : Outcome × List ℕ × List ℕ → Answer
  answer_of x = (settled m op x).0.answer

  record Tells (p : Accesses) (x : Outcome × List ℕ × List ℕ) : Type 0 where
    says : Says (outside (length l) p) (answer_of x)

  no_seven : (ns : List ℕ) (x : Outcome × List ℕ × List ℕ) → allows x.0 ns ≡ true → among 7 ns ≡ false → number_of (answer_of x) ≢ 7
  no_seven ns x t f n = false≢true (sym f ∙ (rw n at (told_settled x.0 (with_regs m x.1) (next_of m) op x.2 ns t)))

  -- no access
  tells_none : (ns : List ℕ) (x : Outcome × List ℕ × List ℕ) → allows x.0 ns ≡ true → among 7 ns ≡ false → Tells none x
  unfolding accesses_of first_out
  tells_none ns x t f = record { says = no_seven ns x t f }

  still : (x : Outcome × List ℕ × List ℕ) → Calm x → Tells none x
  still x t = tells_none calm x t refl

  -- accesses that are guarded
  guard_says : (f : Option ℕ) (regs : List ℕ) (done : Outcome × List ℕ × List ℕ) → Calm done → Says f (answer_of (guarded_of f regs l done))
  unfolding guarded_of settled_of
  guard_says None regs done t = no_seven calm done t refl
  guard_says (Some address) regs done t = refl

  guarded : (p : Accesses) (regs : List ℕ) (done : Outcome × List ℕ × List ℕ) → Calm done → Tells p (guarded_of (outside (length l) p) regs l done)
  guarded p regs done t = record { says = guard_says (outside (length l) p) regs done t }

  user_says : (f : Option ℕ) (m' : Machine) (at : ℕ) (done : Machine × List ℕ)
      → (let x : Result Machine Answer × List ℕ = user_guarded_of f l done in Says f (blocked_of m' at x.0 x.1).0.answer)
  unfolding blocked_of user_guarded_of
  user_says None m' at done = wrong refl
  user_says (Some address) m' at done = refl

  module _ (regs : List ℕ) (s : Seen) where
    abbrev Alone : Outcome × List ℕ → Type 0
    Alone x = Calm (x.0, x.1, l)

    tells_single : Tells (reach_of family.Single regs op s) (single_of regs op s.c l)
    unfolding single_of single_at taken_of
    tells_single = guarded _ regs _ (if_both Calm _ (if_both Alone _ (exchanged calm refl _ _) refl) refl)

    tells_swap : Tells (reach_of family.Swap regs op s) (swap_of regs op l)
    unfolding swap_of
    tells_swap = guarded _ regs _ (landed calm refl regs _ _)

    tells_extra : Tells (extra_reach regs op) (extra_of regs op l)
    unfolding extra_reach extra_of extra_at extra_loads_of
    tells_extra =
        if_pair Tells _ (still _ refl)
        (if_pair Tells _
        (if_pair Tells _ (guarded _ regs _ (landed calm refl _ _ _))
        (if_pair Tells _ (guarded _ regs _ (landed calm refl _ _ _)) (guarded _ regs _ (landed calm refl _ _ _))))
        (if_pair Tells _ (guarded _ regs _ refl)
        (if_pair Tells _ (still _ refl) (if_pair Tells _ (guarded _ regs _ (landed calm refl _ _ _)) (guarded _ regs _ refl)))))

    tells_exclusive : Tells (exclusive_reach regs op s) (exclusive_of regs op s.tag l)
    unfolding exclusive_reach exclusive_of ldrex_of ldrexd_of strex_of strexd_of
    tells_exclusive =
        if_pair Tells _
        (if_pair Tells _ (if_pair Tells _ (still _ refl) (guarded _ regs _ refl)) (guarded _ regs _ refl))
        (if_pair Tells _
        (if_pair Tells _ (still _ refl) (if_pair Tells _ (guarded _ regs _ refl) (still _ (landed calm refl regs _ _))))
        (if_pair Tells _ (guarded _ regs _ refl) (still _ (landed calm refl regs _ _))))

    -- with S the whole machine is asked, by the same plan
    tells_block : Tells (reach_of family.Block regs op s) (block_of regs op l)
    unfolding block_of store_of load_of continued_of settled_of user_block_of
    tells_block =
        if_both (Tells (reach_of family.Block regs op s)) _
        (record { says = user_says (outside (length l) (reach_of family.Block regs op s)) (with_regs m regs) (next_of m) (user_moved_of (plan_of regs op) (with_regs m regs) op l) })
        (guarded _ regs _ (if_both Calm _ (if_both Alone _ (exchanged calm refl _ _) refl) refl))

    -- every other family
    plain : (f : Family) → among 7 (numbers_of f) ≡ false → Tells none (effect_of f regs op s l)
    plain f e = tells_none (numbers_of f) _ (told_effect f regs op s l) e

    tells : (f : Family) → Tells (reach_of f regs op s) (effect_of f regs op s l)
    unfolding effect_of
    tells family.Single = tells_single
    tells family.Extra = tells_extra
    tells family.Block = tells_block
    tells family.Swap = tells_swap
    tells family.Exclusive = tells_exclusive
    tells family.DataProcessing = plain family.DataProcessing refl
    tells family.MultiplyShort = plain family.MultiplyShort refl
    tells family.MultiplyLong = plain family.MultiplyLong refl
    tells family.Halfword = plain family.Halfword refl
    tells family.Saturating = plain family.Saturating refl
    tells family.StatusMove = plain family.StatusMove refl
    tells family.BranchExchange = plain family.BranchExchange refl
    tells family.CountZeros = plain family.CountZeros refl
    tells family.Breakpoint = plain family.Breakpoint refl
    tells family.Media = plain family.Media refl
    tells family.Branch = plain family.Branch refl
    tells family.Coprocessor = plain family.Coprocessor refl
    tells family.CoprocessorMove = plain family.CoprocessorMove refl
    tells family.Supervisor = plain family.Supervisor refl
    tells family.Undefined = plain family.Undefined refl
    tells family.BranchLinkExchange = plain family.BranchLinkExchange refl
    tells family.ClearExclusive = plain family.ClearExclusive refl
    tells family.ChangeState = plain family.ChangeState refl
    tells family.Preload = plain family.Preload refl

  abbrev answered : Answer
  answered = (executed_of m op l).0.answer

  says_passed : passes m op ≡ true → Says (found_by m op l) answered
  says_passed e =
      subst (λ (y : Stepped × List ℕ). Says (found_by m op l) y.0.answer) (sym (executed_passed m op l e))
      (tells (lent m) (seen_of m) (family_of op)).says

  -- what is found decides
  found_outside : (f : Option ℕ) → Says f answered → number_of answered ≡ 7 → (address : ℕ) × (f ≡ Some address)
  found_outside None q n = absurd (q n)
  found_outside (Some address) q n = (address, refl)

  bus : (address : ℕ) → passes m op ≡ true → found_by m op l ≡ Some address → answered ≡ answer.Bus address
  bus address e f = rw f at (says_passed e)

  fails_not : passes m op ≡ false → number_of answered ≢ 7
  fails_not e n = wrong refl (sym n ∙ ap (λ (y : Stepped × List ℕ). number_of y.0.answer) (executed_failed m op l e))

  pub bounded : Bounded m op l answered
  bounded =
      record {
        seven = (λ n. let e = so (passes m op) (λ e. fails_not e n) in (e, found_outside (found_by m op l) (says_passed e) n), λ p. ap number_of (bus p.1.0 p.0 p.1.1));
        seven_value = bus;
      }
