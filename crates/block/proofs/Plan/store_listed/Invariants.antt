use Rattle.std.proofs.Common.{get_or}
use Rattle.block.specs.Laws.Loops.{Storing}
use Rattle.block.proofs.Plan.store_listed.Given as goal

abbrev pub invariant-loop-value : goal.invariant-loop-value
invariant-loop-value l = Storing (λ r. get_or l.values r 0) l.initial.mem l.initial.a l.initial.rest l.mem l.rest l.a l.value-index
