-- The parts of a mode change by the number of a bank, as the code has them.
use Rattle.std.specs.Prelude.{List, ℕ, get_or, set}
use Rattle.bits.specs.Cases.{when◌then◌else◌, ◌<?◌}
use Rattle.psr.specs.declared.Status.{Status}
use Rattle.cpu.specs.declared.Machine.{Machine}
use Rattle.cpu.specs.Answers.{no_status}

unfoldable pub saved_at : Machine → ℕ → List Status
saved_at m b = when b <? 5 then set m.saved b m.spsr else m.saved

unfoldable pub taken_at : Status → List Status → ℕ → Status
taken_at s saved b = when b <? 5 then get_or saved b no_status else s
