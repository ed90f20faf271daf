-- What proofs say of verdicts: a test that equals an exact one is exact, and the ways that several of them go.
use Rattle.std.specs.Prelude.{◌≡◌, ℕ, Bool, true, false, ◌&&◌, ◌==◌, Result, Ok, Err, refl}
use Rattle.std.specs.Result.{result_and}
use Rattle.std.proofs.Common.{sym, ◌∙◌}
use Rattle.bits.specs.Cases.{when◌then◌else◌}
use Rattle.cpu.specs.declared.Report.{Report}
use Rattle.listing.specs.declared.judge.Difference.{Difference}
use Rattle.listing.specs.Verdicts.{Tells, is_same, all_same, same_answer}

pub tells_as : {a b : Bool} {P : Type 0} → Tells b P → a ≡ b → Tells a P
tells_as h e = (λ t. h.0 (sym e ∙ t), λ p. e ∙ h.1 p)

pub both_same : {a b : Bool} (c : Bool) → a ≡ true → b ≡ true → c ≡ (a && (b && c))
both_same c e f = rw e (rw f refl)

pub second_not : {a b : Bool} (c : Bool) → a ≡ true → b ≡ false → b ≡ (a && (b && c))
second_not c e f = rw e (rw f refl)

pub first_not : {a : Bool} (b : Bool) → a ≡ false → a ≡ (a && b)
first_not b e = rw e refl

-- of three in turn the first that is not the same stays
pub in_turn_same : (a b c : Result (Unit {0}) Difference) → is_same (result_and (result_and a b) c) ≡ all_same a b c
unfolding all_same
in_turn_same (Ok x) (Ok y) c = refl
in_turn_same (Ok x) (Err e) c = refl
in_turn_same (Err e) b c = refl

when_all : (a b c d : Bool) → when a then (when b then (when c then (when d then true else false) else false) else false) else false ≡ (a && (b && (c && d)))
unfolding when◌then◌else◌
when_all true true true true = refl
when_all true true true false = refl
when_all true true false d = refl
when_all true false c d = refl
when_all false b c d = refl

pub number_by_number : (f : Report) (n : ℕ) (l : Report) (m : ℕ) → same_answer f n l m ≡ ((f.number == l.number) && ((f.first == l.first) && ((f.second == l.second) && (n == m))))
unfolding same_answer
number_by_number f n l m = when_all (f.number == l.number) (f.first == l.first) (f.second == l.second) (n == m)
