-- The choice between two values by a test, and the ruleset by which proofs take it: `search cases`.
use Rattle.std.specs.Prelude.{◌≡◌, ℕ, Bool, true, false, nat_le, nat_lt}
use Rattle.std.proofs.Common.{rules, eq-eqb, ne_eqb, le-leb, lt-ltb, le-ltb}
use Rattle.std.proofs.lemmas.Bool.{lt-leb}

infixr 5 when◌then◌else◌
unfoldable pub when◌then◌else◌ : {A : Type 0} → Bool → A → A → A
when true then a else b = a
when false then a else b = b

-- tests on numbers
infix 40 ◌<?◌
abbrev pub ◌<?◌ : ℕ → ℕ → Bool
a <? b = nat_lt a b

infix 40 ◌≤?◌
abbrev pub ◌≤?◌ : ℕ → ℕ → Bool
a ≤? b = nat_le a b

pub if_yes : {A : Type 0} (t : Bool) (a b : A) → t ≡ true → (when t then a else b) ≡ a
unfolding when◌then◌else◌
if_yes t a b e = rw e

pub if_no : {A : Type 0} (t : Bool) (a b : A) → t ≡ false → (when t then a else b) ≡ b
unfolding when◌then◌else◌
if_no t a b e = rw e

-- what holds of both values holds of the choice
pub if_both : {A : Type 0} (P : A → Type 0) (t : Bool) {a b : A} → P a → P b → P (when t then a else b)
unfolding when◌then◌else◌
if_both P true p q = p
if_both P false p q = q

pub ruleset cases = (rules, if_yes, if_no, eq-eqb, ne_eqb, le-leb, lt-leb, lt-ltb, le-ltb)
