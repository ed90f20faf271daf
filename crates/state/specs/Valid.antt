-- What holds of every machine that the code makes: its arrays have their lengths, and its words are words.
use Rattle.std.specs.Prelude.{Option, Some, None, ◌≡◌, List, ℕ, ◌^◌, ◌<◌, length, get_or}
use Rattle.cpu.specs.declared.Machine.{Machine}

-- every number of the list is a word
abbrev pub Fits : List ℕ → Type 0
Fits l = (i : ℕ) → get_or l i 0 < 2 ^ 32

-- an array of n words
pub record Words (n : ℕ) (l : List ℕ) : Type 0 where
  pub size : length l ≡ n
  pub fits : Fits l

-- the address of a tag is a word
abbrev pub TagFits : Option ℕ → Type 0
TagFits None = Unit {0}
TagFits (Some a) = a < 2 ^ 32

pub record Valid (m : Machine) : Type 0 where
  pub regs : Words 16 m.regs
  pub banked : Words 12 m.banked
  pub saved : length m.saved ≡ 5
  pub fiq : Words 5 m.fiq
  pub user : Words 5 m.user
  pub tag : TagFits m.tag
