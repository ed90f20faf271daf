use Rattle.memory.specs.Laws.Plans.{span_inside}
use Rattle.std.proofs.Common.{sym}
use Rattle.block.proofs.Plan.find_outside.Goals as goal

pub returns-then-self-count : goal.returns-then-self-count
returns-then-self-count c =
    rw (← c.count_ones-count.ensures) (sym (span_inside _ _ 4 _ c.if-self-count.true))
