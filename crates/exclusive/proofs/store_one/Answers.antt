use Rattle.bits.specs.Cases.{when◌then◌else◌}
use Rattle.exclusive.specs.Exclusive.{strex_of}
use Rattle.transfer.specs.Laws.Guards.{stored_inside, stored_outside, beside_is}
use Rattle.std.proofs.Common.{sym, ◌∙◌}
use Rattle.exclusive.proofs.store_one.Goals as goal

pub returns-in-Ok : goal.returns-in-Ok
unfolding strex_of when◌then◌else◌
returns-in-Ok c =
    rw (sym c.eq.ensures ∙ c.if-eq.true, ← c.size_width.ensures) (stored_inside _ _ _ _ c.try_store.ensures c.in-Ok.is c.succeed.ensures)

pub returns-in-Err : goal.returns-in-Err
unfolding strex_of when◌then◌else◌
returns-in-Err c =
    rw (sym c.eq.ensures ∙ c.if-eq.true, ← c.size_width.ensures) (stored_outside _ _ _ _ c.try_store.ensures _ _ c.in-Err.is)

pub returns-else-eq : goal.returns-else-eq
unfolding strex_of when◌then◌else◌
returns-else-eq c = rw (sym c.eq.ensures ∙ c.if-eq.false) (beside_is c.fail.ensures)
