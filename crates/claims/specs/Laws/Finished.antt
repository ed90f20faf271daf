-- A step that answered 0 came through the gate and the fetch: it is what its instruction gives.
use Rattle.std.specs.Prelude.{◌≡◌, refl, Bool, true, false, List, ℕ}
use Rattle.std.proofs.Common.{sym, ap, ◌∙◌}
use Rattle.std.proofs.lemmas.Bool.{false≢true}
use Rattle.memory.specs.Bytes.{word_at}
use Rattle.cpu.specs.declared.Machine.{Machine}
use Rattle.cpu.specs.Answers.{is_done}
use Rattle.engine.specs.declared.Stepped.{Stepped}
use Rattle.engine.specs.Step.{stepped, going, next_of, executed_of, taken_of, given_of, gated_of, step_of, step_with_of}
use Rattle.cpu.specs.declared.Answer.TheVariants.{Done, Thumb, Fetch, BadState, TooLong}
use Rattle.claims.specs.Laws.Choices.{later, first}
use Rattle.claims.specs.Demand3.{State, Took, fetched, given}

abbrev done : Stepped × List ℕ → Bool
done x = is_done x.0.answer

-- a done step is none of the values that are not done
module _ (z : Stepped × List ℕ) (d : done z ≡ true) where
  abbrev Is : Stepped × List ℕ → Type 0
  Is x = z ≡ x

  apart : (x : Stepped × List ℕ) → done x ≡ false → ¬ Is x
  apart x n e = false≢true (sym n ∙ sym (ap done e) ∙ d)

  through_gate : (m : Machine) (l : List ℕ) (x : Stepped × List ℕ) → z ≡ gated_of m l x → z ≡ x
  unfolding gated_of
  through_gate m l x e = (later Is _ (apart (stepped m BadState, l) refl) (later Is _ (apart (stepped m TooLong, l) refl) e).1).1

  through_step : (m : Machine) (l : List ℕ) → z ≡ step_of m l → z ≡ executed_of m (word_at l (next_of m)) l
  unfolding step_of taken_of
  through_step m l e =
      (first Is _ (apart (stepped m (Fetch (next_of m)), l) refl) (later Is _ (apart (stepped m Thumb, l) refl) (through_gate m l _ e)).1).1

  through_given : (m : Machine) (op : ℕ) (l : List ℕ) → z ≡ step_with_of m op l → z ≡ executed_of m op l
  unfolding step_with_of given_of
  through_given m op l e = (later Is _ (apart (stepped m Thumb, l) refl) (through_gate m l _ e)).1

pub took_executed : {s : State} {op : ℕ} {t : State} → Took s op Done t → (going t.machine, t.bytes) ≡ executed_of s.machine op s.bytes
took_executed {s} {op} {t} (fetched o e) = rw o (through_step (going t.machine, t.bytes) refl s.machine s.bytes e)
took_executed {s} {op} {t} (given e) = through_given (going t.machine, t.bytes) refl s.machine op s.bytes e
