use Rattle.std.proofs.Common.{◌≡◌, ◌+◌, drop}
use Rattle.state.specs.Laws.Words.{placed}
use Rattle.state.proofs.write_words.Given as goal

abbrev pub invariant-loop-i : goal.invariant-loop-i
invariant-loop-i l = placed l.bytes (l.from + l.i) (drop l.i l.values) ≡ placed l.initial.bytes l.from l.values
