-- The steps that the loop takes, each by an opcode that is fetched or given, behind a gate tested once.
use Rattle.std.specs.Prelude.{◌≡◌, refl, Bool, ◌||◌, Option, Some, None, Result, Ok, Err, List, set}
use Rattle.std.proofs.Math.Path.{sym}
use Rattle.std.proofs.Common.{ap, ◌∙◌}
use Rattle.std.proofs.Math.Bool.{true, false}
use Rattle.std.proofs.lemmas.Bool.{false≢true, not-true}
use native.Mathlib.Omega.{arith}
use Prim.Native.Nat.{ℕ, zero, suc, ◌+◌, ◌-◌, ◌%◌, ◌^◌, ◌<◌, ◌≤◌}
use Rattle.std.proofs.Math.ListN.{length}
use Rattle.bits.specs.Cases.{when◌then◌else◌, if_yes, if_no, ◌<?◌}
use Rattle.bits.specs.Fields.{bit_of}
use Rattle.bits.specs.Laws.Bools.{neither}
use Rattle.bits.specs.Laws.Order.{left_suc}
use Rattle.memory.specs.Bytes.{word_at}
use Rattle.cpu.specs.declared.Machine.{Machine}
use Rattle.cpu.specs.declared.Outcome.TheVariants as outcome
use Rattle.cpu.specs.declared.Outcome.{Outcome}
use Rattle.cpu.specs.declared.Answer.{Answer}
use Rattle.cpu.specs.declared.Answer.TheVariants as answer
use Rattle.cpu.specs.Answers.{bad_of, is_done, is_call}
use Rattle.cpu.specs.With.{with_regs}
use Rattle.cpu.specs.Laws.Sound.{Sound}
use Rattle.block.specs.UserBlock.{user_guarded_of, user_block_of}
use Rattle.arm.specs.Turn.{seen_of}
use Rattle.arm.specs.Laws.Sound.{sound_turn}
use Rattle.engine.specs.declared.Stepped.{Stepped}
use Rattle.engine.specs.declared.Finished.{Finished}
use Rattle.engine.specs.Step.{stepped, going, settled_of, next_of, turned_of, executed_of, fetches, taken_of, given_of, gated_of, step_of, step_with_of}
use Rattle.engine.specs.Run.{finished, ended_of, go_of}
use Rattle.engine.specs.Laws.Gate.{gate_of, gated_by}
use Rattle.engine.specs.Laws.Kept.{step_ge_kept, given_ge_kept}

-- a given opcode is always there; else it must be fetched
unfoldable pub next_op : Option ℕ → List ℕ → ℕ → Option ℕ
next_op (Some op) l at = Some op
next_op None l at = when fetches l at then Some (word_at l at) else None

unfoldable pub step_by : Option ℕ → Machine → List ℕ → Stepped × List ℕ
step_by (Some op) m l = step_with_of m op l
step_by None m l = step_of m l

-- n steps are left and k were taken; at the end of the budget the answer is the last step's, 0
unfoldable pub walk_of : Option ℕ → ℕ → ℕ → Machine → List ℕ → Finished × List ℕ
walk_of given zero k m l = (finished m answer.Done k, l)
walk_of given (suc n) k m l =
    when is_done (step_by given m l).0.answer then walk_of given n (k + 1) (step_by given m l).0.machine (step_by given m l).1
    else ended_of (k + bit_of (is_call (step_by given m l).0.answer)) (step_by given m l)

-- ---- the gate stays open

abbrev is_open : Result Unit Answer → Bool
is_open (Ok u) = true
is_open (Err a) = false

both_clear : (a b : Bool) (x y : Answer) → ◌≡◌ {A = Result Unit Answer} (when a then Err x else when b then Err y else Ok tt) (Ok tt) → (a ≡ false) × (b ≡ false)
unfolding when◌then◌else◌
both_clear true b x y e = absurd (false≢true (ap is_open e))
both_clear false true x y e = absurd (false≢true (ap is_open e))
both_clear false false x y e = (refl, refl)

gate_facts : (m : Machine) (len : ℕ) → gate_of m len ≡ Ok tt → ((65536 <? len) ≡ false) × (bad_of m ≡ false)
unfolding gate_of
gate_facts m len e = both_clear (65536 <? len) (bad_of m) _ _ e

step_good : (given : Option ℕ) (m : Machine) (l : List ℕ) → bad_of m ≡ false → bad_of (step_by given m l).0.machine ≡ false
unfolding step_by
step_good (Some op) m l e = given_ge_kept m l op e
step_good None m l e = step_ge_kept m l e

pub gate_kept : (given : Option ℕ) (m : Machine) (l : List ℕ) {s : Stepped} {l' : List ℕ}
    → gate_of m (length l) ≡ Ok tt → (let p : Stepped × List ℕ = (s, l') in p) ≡ step_by given m l → length l' ≡ length l
    → gate_of s.machine (length l') ≡ Ok tt
unfolding gate_of when◌then◌else◌
gate_kept given m l {s} {l'} g e h =
    let f = gate_facts m (length l) g in
    let b : bad_of s.machine ≡ false = rw (← e) at (step_good given m l f.1) in
    rw (h, f.0, b)

-- ---- one step

executed_as : (m : Machine) (word : ℕ) (l : List ℕ) {o : Outcome} {g l' : List ℕ}
    → (let p : Outcome × List ℕ × List ℕ = (o, g, l') in p) ≡ turned_of m word l
    → settled_of o (with_regs m g) (next_of m) word l' ≡ executed_of m word l
unfolding executed_of
executed_as m word l t = rw (← t)

-- the word of an opcode that is there
abbrev opcode_in : Option ℕ → ℕ
opcode_in (Some op) = op
opcode_in None = 0

fetched : (b : Bool) (w word : ℕ) → (when b then Some w else None) ≡ Some word → (b ≡ true) × (w ≡ word)
unfolding when◌then◌else◌
fetched true w word e = (refl, ap opcode_in e)
fetched false w word e = let z : ◌≡◌ {A = ℕ} 0 1 = cc in absurd (omega arith)

not_fetched : (b : Bool) (w : ℕ) → (when b then Some w else None) ≡ None → b ≡ false
unfolding when◌then◌else◌
not_fetched true w e = let z : ◌≡◌ {A = ℕ} 0 1 = cc in absurd (omega arith)
not_fetched false w e = refl

-- an open gate, ARM state and an opcode: the step is what its instruction's outcome changes
pub step_as : (given : Option ℕ) (word : ℕ) (m : Machine) (l : List ℕ) {o : Outcome} {g l' : List ℕ}
    → gate_of m (length l) ≡ Ok tt → m.cpsr.t ≡ false → next_op given l (next_of m) ≡ Some word
    → (let p : Outcome × List ℕ × List ℕ = (o, g, l') in p) ≡ turned_of m word l
    → settled_of o (with_regs m g) (next_of m) word l' ≡ step_by given m l
unfolding step_by step_with_of step_of given_of taken_of next_op
step_as (Some op) word m l gate arm has t =
    executed_as m word l t ∙ ap (λ (x : ℕ). executed_of m x l) (sym (ap opcode_in has)) ∙ sym (gated_by m l _ (sym gate) ∙ if_no _ _ _ arm)
step_as None word m l gate arm has t =
    let f = fetched (fetches l (next_of m)) (word_at l (next_of m)) word has in
    executed_as m word l t ∙ ap (λ (x : ℕ). executed_of m x l) (sym f.1) ∙ sym (gated_by m l _ (sym gate) ∙ if_no _ _ _ arm ∙ if_yes _ _ _ f.0)

-- Thumb state
pub step_thumb : (given : Option ℕ) (m : Machine) (l : List ℕ) → gate_of m (length l) ≡ Ok tt → m.cpsr.t ≡ true
    → (let p : Stepped × List ℕ = (stepped m answer.Thumb, l) in p) ≡ step_by given m l
unfolding step_by step_with_of step_of given_of taken_of
step_thumb (Some op) m l gate thumb = sym (gated_by m l _ (sym gate) ∙ if_yes _ _ _ thumb)
step_thumb None m l gate thumb = sym (gated_by m l _ (sym gate) ∙ if_yes _ _ _ thumb)

-- nothing to fetch
pub step_lost : (given : Option ℕ) (m : Machine) (l : List ℕ)
    → gate_of m (length l) ≡ Ok tt → m.cpsr.t ≡ false → next_op given l (next_of m) ≡ None
    → (let p : Stepped × List ℕ = (stepped m (answer.Fetch (next_of m)), l) in p) ≡ step_by given m l
unfolding step_by step_of taken_of next_op
step_lost (Some op) m l gate arm has = let z : ◌≡◌ {A = ℕ} 0 1 = cc in absurd (omega arith)
step_lost None m l gate arm has = sym (gated_by m l _ (sym gate) ∙ if_no _ _ _ arm ∙ if_no _ _ _ (not_fetched (fetches l (next_of m)) _ has))

-- ---- refusals

uncounted : (k : ℕ) (a : Answer) → is_call a ≡ false → k ≡ k + bit_of (is_call a)
uncounted k a e = let h : k ≡ k + 0 = omega arith in rw e h

abbrev Refusing : Answer → Type 0
Refusing a = (is_done a ≡ false) × (is_call a ≡ false)

guarded_refuses : (f : Option ℕ) (l : List ℕ) (done : Machine × List ℕ) (a : Answer) → (user_guarded_of f l done).0 ≡ Err a → Refusing a
unfolding user_guarded_of
guarded_refuses None l done a e = let z : ◌≡◌ {A = ℕ} 0 1 = cc in absurd (omega arith)
guarded_refuses (Some address) l done a e = let p : answer.Bus address ≡ a = cc in rw (← p) (refl, refl)

-- a block transfer that does not move refuses
pub block_refuses : (m : Machine) (op : ℕ) (l : List ℕ) (a : Answer) → (user_block_of m op l).0 ≡ Err a → Refusing a
unfolding user_block_of
block_refuses m op l a e = guarded_refuses _ l _ a e

-- ---- the loop

module _ (given : Option ℕ) (budget : ℕ) (m₀ : Machine) (l₀ : List ℕ) where
  -- after k steps of m₀ the machine is m: the gate is open, and what is left leads to the same end
  abbrev pub Walks : ℕ → Machine → List ℕ → Type 0
  Walks k m l = (gate_of m (length l) ≡ Ok tt) × (walk_of given budget 0 m₀ l₀ ≡ walk_of given (budget - k) k m l)

  pub walk_on : (k : ℕ) (m : Machine) (l : List ℕ) {m' : Machine} {l' : List ℕ} → Walks k m l → k < budget
      → (let p : Stepped × List ℕ = (going m', l') in p) ≡ step_by given m l → length l' ≡ length l → Walks (k + 1) m' l'
  unfolding walk_of when◌then◌else◌
  walk_on k m l w h e len = (gate_kept given m l w.0 e len, w.1 ∙ rw (left_suc budget k h, ← e))

  pub walk_stop : (k : ℕ) (m : Machine) (l : List ℕ) {s : Stepped} {l' : List ℕ} → Walks k m l → k < budget
      → (let p : Stepped × List ℕ = (s, l') in p) ≡ step_by given m l → is_done s.answer ≡ false
      → ended_of (k + bit_of (is_call s.answer)) (s, l') ≡ walk_of given budget 0 m₀ l₀
  unfolding walk_of when◌then◌else◌
  walk_stop k m l w h e d = sym (w.1 ∙ rw (left_suc budget k h, ← e, d))

  pub walk_none : (k : ℕ) (m : Machine) (l : List ℕ) → Walks k m l → budget ≤ k
      → (let p : Finished × List ℕ = (finished m answer.Done k, l) in p) ≡ walk_of given budget 0 m₀ l₀
  unfolding walk_of
  walk_none k m l w h = let e : budget - k ≡ 0 = omega arith in sym (w.1 ∙ rw e)

-- what holds before each step of the loop
abbrev pub Walking : Option ℕ → ℕ → Machine → List ℕ → ℕ → Machine → List ℕ → Type 0
Walking given budget m₀ l₀ k m l = (k ≤ budget) × (length l ≡ length l₀) × Walks given budget m₀ l₀ k m l

-- what the loop gives: where it ends done, the gate is still open
abbrev pub Goes : Option ℕ → ℕ → Machine → List ℕ → Finished × List ℕ → Type 0
Goes given budget m l x =
    (x ≡ walk_of given budget 0 m l) × (is_done x.0.answer ≡ true → gate_of x.0.machine (length x.1) ≡ Ok tt)

module _ (given : Option ℕ) (budget : ℕ) (m₀ : Machine) (l₀ : List ℕ) (k : ℕ) (m : Machine) (l : List ℕ) where
  -- a step that ends the walk
  goes_stop : {s : Stepped} {l' : List ℕ} → Walks given budget m₀ l₀ k m l → k < budget
      → (let p : Stepped × List ℕ = (s, l') in p) ≡ step_by given m l → is_done s.answer ≡ false
      → Goes given budget m₀ l₀ (ended_of (k + bit_of (is_call s.answer)) (s, l'))
  goes_stop w h e d = (walk_stop given budget m₀ l₀ k m l w h e d, λ y. absurd (false≢true (sym d ∙ y)))

  -- one that refuses does not count
  pub goes_refused : {s : Stepped} {l' : List ℕ} → Walks given budget m₀ l₀ k m l → k < budget
      → (let p : Stepped × List ℕ = (s, l') in p) ≡ step_by given m l → is_done s.answer ≡ false → is_call s.answer ≡ false
      → Goes given budget m₀ l₀ (ended_of k (s, l'))
  goes_refused {s} {l'} w h e d n = rw (uncounted k s.answer n) (goes_stop {s = s} {l' = l'} w h e d)

  -- a step whose instruction has been executed: word, with the outcome, the registers and the bytes that it left
  pub record Turned : Type 0 where
    pub same : length l ≡ length l₀
    pub word : ℕ
    pub o : Outcome
    pub g : List ℕ
    pub l' : List ℕ
    pub walks : Walks given budget m₀ l₀ k m l
    pub within : k < budget
    pub turned : (let p : Outcome × List ℕ × List ℕ = (o, g, l') in p) ≡ turned_of m word l
    pub settles : settled_of o (with_regs m g) (next_of m) word l' ≡ step_by given m l

  abbrev pub turned_by : (word : ℕ) {o : Outcome} {g l' : List ℕ} → Walking given budget m₀ l₀ k m l → k < budget → m.cpsr.t ≡ false
      → next_op given l (next_of m) ≡ Some word
      → (let p : Outcome × List ℕ × List ℕ = (o, g, l') in p) ≡ turned_of m word l → Turned
  turned_by word {o} {g} {l'} w h arm has t =
      record {
        same = w.1;
        word = word;
        o = o;
        g = g;
        l' = l';
        walks = w.2;
        within = h;
        turned = t;
        settles = step_as given word m l w.2.0 arm has t;
      }

  -- the outcome that the match found
  pub turned_on : (t : Turned) {o : Outcome} {m' : Machine} {l'' : List ℕ} → t.o ≡ o
      → (let p : Stepped × List ℕ = (going m', l'') in p) ≡ settled_of o (with_regs m t.g) (next_of m) t.word t.l'
      → length l'' ≡ length l → Walking given budget m₀ l₀ (k + 1) m' l''
  turned_on t told e len =
      let h : k + 1 ≤ budget = omega (arith, t.within) in
      (h, len ∙ t.same, walk_on given budget m₀ l₀ k m l t.walks t.within (e ∙ (rw (← told) t.settles)) len)

  pub turned_stop : (t : Turned) {o : Outcome} {s : Stepped} {l'' : List ℕ} → t.o ≡ o
      → (let p : Stepped × List ℕ = (s, l'') in p) ≡ settled_of o (with_regs m t.g) (next_of m) t.word t.l'
      → is_done s.answer ≡ false → Goes given budget m₀ l₀ (ended_of (k + bit_of (is_call s.answer)) (s, l''))
  turned_stop t told e d = goes_stop t.walks t.within (e ∙ (rw (← told) t.settles)) d

  pub turned_refused : (t : Turned) {o : Outcome} {s : Stepped} {l'' : List ℕ} → t.o ≡ o
      → (let p : Stepped × List ℕ = (s, l'') in p) ≡ settled_of o (with_regs m t.g) (next_of m) t.word t.l'
      → is_done s.answer ≡ false → is_call s.answer ≡ false → Goes given budget m₀ l₀ (ended_of k (s, l''))
  turned_refused t told e d n = goes_refused t.walks t.within (e ∙ (rw (← told) t.settles)) d n

  -- an instruction that stops says why
  pub stop_refuses : (t : Turned) (a : Answer) → t.o ≡ outcome.Stop a → (is_done a ≡ false) × (is_call a ≡ false)
  stop_refuses t a told =
      let s = sound_turn m.regs (next_of m) t.word (seen_of m) l in
      let here : Sound (set m.regs 15 ((next_of m + 8) % 2 ^ 32)) l (t.o, t.g, t.l') = rw t.turned s in
      neither (is_done a) (is_call a) (not-true (is_done a || is_call a) (here.refusal a told))

-- ---- a step is a walk of one, and a run a walk whose end is answer 10

done_is : (a : Answer) → is_done a ≡ true → a ≡ answer.Done
done_is answer.Done e = refl
done_is (answer.Supervisor n) e = absurd (false≢true e)
done_is (answer.Undefined a o) e = absurd (false≢true e)
done_is (answer.Breakpoint a n) e = absurd (false≢true e)
done_is (answer.Coprocessor o) e = absurd (false≢true e)
done_is answer.Thumb e = absurd (false≢true e)
done_is (answer.Fetch a) e = absurd (false≢true e)
done_is (answer.Bus a) e = absurd (false≢true e)
done_is answer.BadState e = absurd (false≢true e)
done_is answer.TooLong e = absurd (false≢true e)
done_is answer.Timeout e = absurd (false≢true e)
done_is (answer.TransferForm o) e = absurd (false≢true e)

pub done_going : {s : Stepped} {l : List ℕ} → is_done s.answer ≡ true → (let p : Stepped × List ℕ = (going s.machine, l) in p) ≡ (s, l)
done_going {s} {l} e = ap (λ (a : Answer). (stepped s.machine a, l)) (sym (done_is s.answer e))

-- the machine and answer that a walk ends with
abbrev pub end_of : Finished × List ℕ → Stepped × List ℕ
end_of x = (stepped x.0.machine x.0.answer, x.1)

end_of_one : (d : Bool) (s : Stepped × List ℕ) → is_done s.0.answer ≡ d
    → end_of (when d then (finished s.0.machine answer.Done 1, s.1) else ended_of (0 + bit_of (is_call s.0.answer)) s) ≡ s
unfolding when◌then◌else◌
end_of_one true s e = done_going e
end_of_one false s e = refl

pub walk_of_one : (given : Option ℕ) (m : Machine) (l : List ℕ) → end_of (walk_of given 1 0 m l) ≡ step_by given m l
unfolding walk_of
walk_of_one given m l = end_of_one (is_done (step_by given m l).0.answer) (step_by given m l) refl

-- a budget used up is answer 10
abbrev pub timed_of : Finished × List ℕ → Finished × List ℕ
timed_of x = (finished x.0.machine (when is_done x.0.answer then answer.Timeout else x.0.answer) x.0.count, x.1)

-- a walk that ends done ends behind an open gate
abbrev OpenEnd : Finished × List ℕ → Type 0
OpenEnd x = is_done x.0.answer ≡ true → gate_of x.0.machine (length x.1) ≡ Ok tt

timed_end : (k : ℕ) (s : Stepped × List ℕ) → is_done s.0.answer ≡ false → timed_of (ended_of k s) ≡ ended_of k s
unfolding when◌then◌else◌
timed_end k s e = rw e

timed_none : (k : ℕ) (m : Machine) (l : List ℕ) → gate_of m (length l) ≡ Ok tt → timed_of (finished m answer.Done k, l) ≡ ended_of k (gated_of m l (stepped m answer.Timeout, l))
unfolding when◌then◌else◌
timed_none k m l g = ap (ended_of k) (sym (gated_by m l (stepped m answer.Timeout, l) (sym g)))

module _ (n : ℕ) (rest : (k : ℕ) (m : Machine) (l : List ℕ) → OpenEnd (walk_of None n k m l) → timed_of (walk_of None n k m l) ≡ go_of n k m l) where
  timed_step : (d : Bool) (k : ℕ) (s : Stepped × List ℕ) → is_done s.0.answer ≡ d
      → OpenEnd (when d then walk_of None n (k + 1) s.0.machine s.1 else ended_of (k + bit_of (is_call s.0.answer)) s)
      → timed_of (when d then walk_of None n (k + 1) s.0.machine s.1 else ended_of (k + bit_of (is_call s.0.answer)) s)
      ≡ (when d then go_of n (k + 1) s.0.machine s.1 else ended_of (k + bit_of (is_call s.0.answer)) s)
  unfolding when◌then◌else◌
  timed_step true k s e o = rest (k + 1) s.0.machine s.1 o
  timed_step false k s e o = timed_end (k + bit_of (is_call s.0.answer)) s e

pub walk_timed : (n k : ℕ) (m : Machine) (l : List ℕ) → OpenEnd (walk_of None n k m l) → timed_of (walk_of None n k m l) ≡ go_of n k m l
unfolding walk_of go_of step_by when◌then◌else◌
walk_timed zero k m l o = timed_none k m l (o refl)
walk_timed (suc n) k m l o = timed_step n (walk_timed n) (is_done (step_of m l).0.answer) k (step_of m l) refl o

module _ (n : ℕ) (m : Machine) (l : List ℕ) {f : Finished} {l' : List ℕ} (g : Goes None n m l (f, l')) where
  walked : timed_of (f, l') ≡ go_of n 0 m l
  walked = ap timed_of g.0 ∙ walk_timed n 0 m l (rw (← g.0) g.1)

  pub run_timed : is_done f.answer ≡ true → (let p : Finished × List ℕ = (finished f.machine answer.Timeout f.count, l') in p) ≡ go_of n 0 m l
  unfolding when◌then◌else◌
  run_timed d = rw d at walked

  pub run_ended : is_done f.answer ≡ false → (let p : Finished × List ℕ = (f, l') in p) ≡ go_of n 0 m l
  unfolding when◌then◌else◌
  run_ended d = rw d at walked

-- ---- a shut gate

abbrev answer_in : Result Unit Answer → Answer
answer_in (Ok u) = answer.TooLong
answer_in (Err a) = a

shut_refusing : (a b : Bool) → Refusing (answer_in (when a then Err answer.TooLong else when b then Err answer.BadState else Ok tt))
unfolding when◌then◌else◌
shut_refusing true b = (refl, refl)
shut_refusing false true = (refl, refl)
shut_refusing false false = (refl, refl)

module _ (m : Machine) (l : List ℕ) (a : Answer) (e : Err a ≡ gate_of m (length l)) where
  shut_says : Refusing a
  unfolding gate_of
  shut_says = let r = shut_refusing (65536 <? length l) (bad_of m) in rw (← e) at r

  pub step_shut : (given : Option ℕ) → (let p : Stepped × List ℕ = (stepped m a, l) in p) ≡ step_by given m l
  unfolding step_by step_of step_with_of
  step_shut (Some op) = sym (gated_by m l (given_of m op l) e)
  step_shut None = sym (gated_by m l (taken_of m l) e)

  shut_step : (let p : Stepped × List ℕ = (stepped m a, l) in p) ≡ step_of m l
  unfolding step_by
  shut_step = step_shut None

  pub run_shut : (n : ℕ) → (let p : Finished × List ℕ = (finished m a 0, l) in p) ≡ go_of n 0 m l
  unfolding go_of when◌then◌else◌
  run_shut zero = sym (ap (ended_of 0) (gated_by m l (stepped m answer.Timeout, l) e))
  run_shut (suc n) = rw (← shut_step, shut_says.0, shut_says.1)
