-- The value of a hexadecimal digit, in capitals.
use Rattle.std.specs.Prelude.{ℕ, ◌-◌, Option, Some, None}
use Rattle.bits.specs.Cases.{when◌then◌else◌, ◌≤?◌}

-- 0 to 9 stand at 48 to 57, A to F at 65 to 70; no other byte is one
unfoldable pub digit_of : ℕ → Option ℕ
digit_of b =
    when b ≤? 47 then None else
    when b ≤? 57 then Some (b - 48) else
    when b ≤? 64 then None else
    when b ≤? 70 then Some (b - 55) else
    None
