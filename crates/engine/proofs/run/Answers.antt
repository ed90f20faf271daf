use Rattle.engine.specs.Laws.Walk.{run_timed, run_ended, run_shut}
use Rattle.std.proofs.Common.{sym, ◌∙◌}
use Rattle.engine.proofs.run.Goals as goal
use Rattle.engine.proofs.run.Goals.{then-done, else-done}

pub returns-after-done : goal.returns-after-done
returns-after-done c =
    elim c.if-done.branch [
      | then-done w ↦ rw w.answer-is (run_timed _ _ _ c.go-f.ensures (sym c.is_done-done.ensures ∙ w.if-done.true))
      | else-done w ↦ rw w.answer-is (run_ended _ _ _ c.go-f.ensures (sym c.is_done-done.ensures ∙ w.if-done.false))
    ]

pub returns-in-Err : goal.returns-in-Err
returns-in-Err c = run_shut _ _ _ (sym c.in-Err.is ∙ c.admit.ensures) _
