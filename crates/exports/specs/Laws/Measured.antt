-- A call on bytes of the lengths asked for, and on others.
use Rattle.std.specs.Prelude.{◌≡◌, List, ℕ, length}
use Rattle.std.proofs.Common.{ap}
use borrow.Author.Tests.{eq-eqb, ne_eqb}
use Rattle.bits.specs.Cases.{when◌then◌else◌}
use Rattle.engine.specs.declared.Stepped.{Stepped}
use Rattle.engine.specs.declared.Finished.{Finished}
use Rattle.exports.specs.Steps.{Left, beside_memory, left_by_step, left_by_run, measured, untouched}

module _ (n : ℕ) (bytes l answer : List ℕ) (called : Left) where
  pub both_fit : length bytes ≡ 216 → length answer ≡ n → measured n bytes l answer called ≡ called
  unfolding when◌then◌else◌
  both_fit p q = rw (eq-eqb _ _ p, eq-eqb _ _ q)

  pub answer_unfit : length bytes ≡ 216 → (length answer ≡ n → ⊥) → measured n bytes l answer called ≡ untouched bytes l answer
  unfolding when◌then◌else◌
  answer_unfit p q = rw (eq-eqb _ _ p, ne_eqb _ _ q)

  pub bytes_unfit : (length bytes ≡ 216 → ⊥) → measured n bytes l answer called ≡ untouched bytes l answer
  unfolding when◌then◌else◌
  bytes_unfit p = rw (ne_eqb _ _ p)

-- what was left beside memory, from the outcome that memory came with
beside_memory_lem : {X : Type 0} (left : X → List ℕ → ℕ × List ℕ × List ℕ) (bytes : List ℕ) {r : ℕ} {b a l : List ℕ} {s : X} {y : X × List ℕ}
    → (let p : ℕ × List ℕ × List ℕ = (r, b, a) in p) ≡ left s bytes → (let p : X × List ℕ = (s, l) in p) ≡ y
    → (let p : Left = (r, b, l, a) in p) ≡ beside_memory (left y.0 bytes) y.1
beside_memory_lem left bytes {l = l} e h = rw (← h) (ap (λ (x : ℕ × List ℕ × List ℕ). beside_memory x l) e)

pub step_beside : (bytes : List ℕ) {r : ℕ} {b a l : List ℕ} {s : Stepped} {y : Stepped × List ℕ}
    → (let p : ℕ × List ℕ × List ℕ = (r, b, a) in p) ≡ left_by_step s bytes → (let p : Stepped × List ℕ = (s, l) in p) ≡ y
    → (let p : Left = (r, b, l, a) in p) ≡ beside_memory (left_by_step y.0 bytes) y.1
step_beside = beside_memory_lem left_by_step

pub run_beside : (bytes : List ℕ) {r : ℕ} {b a l : List ℕ} {f : Finished} {y : Finished × List ℕ}
    → (let p : ℕ × List ℕ × List ℕ = (r, b, a) in p) ≡ left_by_run f bytes → (let p : Finished × List ℕ = (f, l) in p) ≡ y
    → (let p : Left = (r, b, l, a) in p) ≡ beside_memory (left_by_run y.0 bytes) y.1
run_beside = beside_memory_lem left_by_run
