-- When a verdict says that all is as listed.
use Rattle.std.specs.Prelude.{◌≡◌, ℕ, Bool, true, false, ◌&&◌, ◌==◌, Result, is_ok}
use Rattle.bits.specs.Cases.{when◌then◌else◌}
use Rattle.cpu.specs.declared.Report.{Report}
use Rattle.listing.specs.declared.judge.Difference.{Difference}

abbrev pub is_same : Result (Unit {0}) Difference → Bool
is_same verdict = is_ok verdict

unfoldable pub all_same : Result (Unit {0}) Difference → Result (Unit {0}) Difference → Result (Unit {0}) Difference → Bool
all_same a b c = is_same a && (is_same b && is_same c)

-- the test says yes exactly where the fact holds
abbrev pub Tells : Bool → Type 0 → Type 0
Tells b P = (b ≡ true → P) × (P → b ≡ true)

-- two answers with their counts, number by number
unfoldable pub same_answer : Report → ℕ → Report → ℕ → Bool
same_answer f n l m =
    when f.number == l.number then
    (when f.first == l.first then
    (when f.second == l.second then
    (when n == m then true else false) else false) else false) else false
