use Rattle.bits.specs.Cases.{when◌then◌else◌}
use Rattle.exclusive.specs.Exclusive.{strexd_of}
use Rattle.transfer.specs.Laws.Guards.{stored_inside, stored_outside, beside_is}
use Rattle.std.proofs.Common.{sym, ◌∙◌, ne_eqb}
use Rattle.exclusive.proofs.store_pair.Goals as goal

pub returns-then-rm-eq15 : goal.returns-then-rm-eq15
unfolding strexd_of when◌then◌else◌
returns-then-rm-eq15 c = rw c.if-rm-eq15.true (beside_is c.refuse.ensures)

pub returns-in-Ok : goal.returns-in-Ok
unfolding strexd_of when◌then◌else◌
returns-in-Ok c =
    rw (ne_eqb _ _ c.if-rm-eq15.false, sym c.eq.ensures ∙ c.if-eq.true)
    (stored_inside _ _ _ _ c.store_pair.ensures c.in-Ok.is c.succeed.ensures)

pub returns-in-Err : goal.returns-in-Err
unfolding strexd_of when◌then◌else◌
returns-in-Err c =
    rw (ne_eqb _ _ c.if-rm-eq15.false, sym c.eq.ensures ∙ c.if-eq.true)
    (stored_outside _ _ _ _ c.store_pair.ensures _ _ c.in-Err.is)

pub returns-else-eq : goal.returns-else-eq
unfolding strexd_of when◌then◌else◌
returns-else-eq c =
    rw (ne_eqb _ _ c.if-rm-eq15.false, sym c.eq.ensures ∙ c.if-eq.false) (beside_is c.fail.ensures)
