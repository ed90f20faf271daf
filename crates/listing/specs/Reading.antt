-- Reading goes from left to right.
use Rattle.std.specs.Prelude.{◌≡◌, ℕ, List, ◌++◌}

-- what is left now stood at the end of what was left
pub record LeadsTo (before after : List ℕ) : Type 0 where
  pub passed : List ℕ
  pub is : before ≡ passed ++ after
