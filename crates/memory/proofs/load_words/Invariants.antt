use Rattle.memory.specs.Laws.Plans.{Loading}
use Rattle.memory.proofs.load_words.Given as goal

abbrev pub invariant-loop-value : goal.invariant-loop-value
invariant-loop-value l = Loading l.mem l.at l.count l.initial.value-items l.value-items l.a l.value-index
