-- Where an instruction can be fetched, its four bytes lie inside.
use Rattle.std.specs.Prelude.{◌≡◌, refl, Bool, true, false, not, ◌&&◌, List, ℕ, ◌+◌, ◌%◌, ◌≤◌, length, ◌==◌}
use Rattle.std.proofs.lemmas.Bool.{false≢true}
use Rattle.std.proofs.Common.{ltb-false}
use Rattle.memory.specs.Plans.{reaches_out}
use Rattle.engine.specs.Step.{fetches}

second_no : (a b : Bool) → (a && not b) ≡ true → b ≡ false
second_no true true e = absurd (false≢true e)
second_no true false e = refl
second_no false b e = absurd (false≢true e)

pub fetches_inside : (l : List ℕ) (at : ℕ) → fetches l at ≡ true → at + 4 ≤ length l
unfolding fetches
fetches_inside l at e = ltb-false (length l) (at + 4) (second_no (at % 4 == 0) (reaches_out (length l) at 4) e)
