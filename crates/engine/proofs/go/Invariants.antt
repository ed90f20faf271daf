use Rattle.engine.specs.Laws.Walk.{Walking}
use Rattle.engine.proofs.go.Given as goal

abbrev pub invariant-loop-k : goal.invariant-loop-k
invariant-loop-k l = Walking l.given l.budget l.initial.cur l.initial.mem l.k l.cur l.mem
