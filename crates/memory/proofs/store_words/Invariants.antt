use Rattle.memory.specs.Laws.Plans.{Storing}
use Rattle.memory.proofs.store_words.Given as goal

abbrev pub invariant-loop-value : goal.invariant-loop-value
invariant-loop-value l = Storing l.initial.mem l.at l.count l.values l.mem l.a l.value-index
