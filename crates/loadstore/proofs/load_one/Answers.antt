use Rattle.std.proofs.Common.{sym, ◌∙◌}
use Rattle.memory.specs.Laws.Plans.{within_ok}
use Rattle.transfer.specs.Transfers.{guarded_of}
use Rattle.transfer.specs.Laws.Guards.{beside_is}
use Rattle.loadstore.proofs.load_one.Goals as goal

pub returns-in-Ok : goal.returns-in-Ok
unfolding guarded_of
returns-in-Ok c =
    let w = within_ok _ _ _ (sym c.try_load.ensures ∙ c.in-Ok.is) in
    rw (w.0, w.1, ← c.write_back.ensures) (beside_is c.take.ensures)
