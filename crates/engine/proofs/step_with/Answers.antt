use Rattle.engine.specs.Laws.Walk.{end_of, walk_of_one, step_shut}
use Rattle.std.proofs.Common.{sym, ap, ◌∙◌}
use Rattle.engine.proofs.step_with.Goals as goal

pub returns-in-Ok : goal.returns-in-Ok
returns-in-Ok c = ap end_of c.go-f.ensures.0 ∙ walk_of_one _ _ _

pub returns-in-Err : goal.returns-in-Err
returns-in-Err c = step_shut _ _ _ (sym c.in-Err.is ∙ c.admit.ensures) _
