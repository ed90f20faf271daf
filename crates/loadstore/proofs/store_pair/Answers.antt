use Rattle.transfer.specs.Laws.Guards.{stored_inside, stored_outside, guards}
use Rattle.loadstore.proofs.store_pair.Goals as goal

pub returns-in-Ok : goal.returns-in-Ok
returns-in-Ok c = stored_inside _ _ _ _ c.store_pair.ensures c.in-Ok.is (search (guards, c.finish.ensures))

pub returns-in-Err : goal.returns-in-Err
returns-in-Err c = stored_outside _ _ _ _ c.store_pair.ensures _ _ c.in-Err.is
