-- Each turn leaves less of the list.
use Rattle.std.proofs.Common.{length}
use Rattle.replay.proofs.replay_all.Given as goal

abbrev pub decreases-loop-rest : goal.decreases-loop-rest
decreases-loop-rest g l = length l.rest
