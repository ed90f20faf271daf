use Rattle.std.proofs.Common.{◌≡◌, ◌-◌}
use Rattle.memory.specs.Plans.{outside_of}
use Rattle.memory.proofs.find_outside.Given as goal

abbrev pub invariant-loop : goal.invariant-loop
invariant-loop l = outside_of l.len l.address l.width l.count ≡ outside_of l.len l.at l.width (l.count - l.counter)
