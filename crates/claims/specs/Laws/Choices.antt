-- Choices by a test, and what they tell of it.
use Rattle.std.specs.Prelude.{◌≡◌, refl, Bool, true, false, not, ◌&&◌}
use Rattle.std.proofs.lemmas.Bool.{false≢true}
use Rattle.bits.specs.Cases.{when◌then◌else◌}

pub not_so : (b : Bool) → ¬ (b ≡ true) → b ≡ false
not_so true h = absurd (h refl)
not_so false h = refl

pub so : (b : Bool) → ¬ (b ≡ false) → b ≡ true
so true h = refl
so false h = absurd (h refl)

-- both parts of a test, and not both
pub both : (a b : Bool) → (a && b) ≡ true → (a ≡ true) × (b ≡ true)
both true b e = (refl, e)
both false b e = absurd (false≢true e)

pub not_both : (x y : Bool) → ¬ ((x ≡ true) × (y ≡ true)) → (x && y) ≡ false
not_both true true n = absurd (n (refl, refl))
not_both true false n = refl
not_both false y n = refl

-- what only the second value of a choice can have: the test fails; what only the first can have: it passes
pub later : {A : Type 0} (P : A → Type 0) (t : Bool) {a b : A} → ¬ P a → P (when t then a else b) → (t ≡ false) × P b
unfolding when◌then◌else◌
later P true n p = absurd (n p)
later P false n p = (refl, p)

pub first : {A : Type 0} (P : A → Type 0) (t : Bool) {a b : A} → ¬ P b → P (when t then a else b) → (t ≡ true) × P a
unfolding when◌then◌else◌
first P true n p = (refl, p)
first P false n p = absurd (n p)

-- the first value need have it only where the test passes
pub if_by : {A : Type 0} (P : A → Type 0) (t : Bool) {a b : A} → (t ≡ true → P a) → P b → P (when t then a else b)
unfolding when◌then◌else◌
if_by P true p q = p refl
if_by P false p q = q

-- two choices by one test; a test beside its choice, and its opposite
pub if_pair : {A B : Type 0} (P : A → B → Type 0) (t : Bool) {a b : A} {x y : B} → P a x → P b y → P (when t then a else b) (when t then x else y)
unfolding when◌then◌else◌
if_pair P true p q = p
if_pair P false p q = q

pub if_test : {B : Type 0} (P : Bool → B → Type 0) (t : Bool) {x y : B} → P true x → P false y → P t (when t then x else y)
unfolding when◌then◌else◌
if_test P true p q = p
if_test P false p q = q

pub if_not : {B : Type 0} (P : Bool → B → Type 0) (t : Bool) {x y : B} → P false x → P true y → P (not t) (when t then x else y)
unfolding when◌then◌else◌
if_not P true p q = p
if_not P false p q = q
