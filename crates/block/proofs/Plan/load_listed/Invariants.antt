use Rattle.block.specs.Laws.Loops.{Loading}
use Rattle.block.proofs.Plan.load_listed.Given as goal

abbrev pub invariant-loop-i : goal.invariant-loop-i
invariant-loop-i g l = Loading g.R.Registers.with l.initial.to l.mem l.initial.a l.initial.rest l.to l.rest l.a l.i
