use Rattle.dataproc.specs.Dataproc.{dataproc_of}
use Rattle.dataproc.specs.Laws.Places.{placed_with_flags_lem, placed_value_lem}
use Rattle.std.proofs.Common.{eq-eqb, ne_eqb}
use Rattle.dataproc.proofs.execute.Goals as goal

pub returns-then-op-eq1 : goal.returns-then-op-eq1
unfolding dataproc_of
returns-then-op-eq1 c =
    rw (c.place_with_flags.ensures, c.compute-y.ensures, c.read_operands-x.ensures)
    (placed_with_flags_lem _ _ _ (eq-eqb _ _ c.if-op-eq1.true))

pub returns-else-op-eq1 : goal.returns-else-op-eq1
unfolding dataproc_of
returns-else-op-eq1 c =
    rw (c.place_value.ensures, c.compute_value-value.ensures, c.read_operands-x.ensures)
    (placed_value_lem _ _ _ _ _ _ _ _ (ne_eqb _ _ c.if-op-eq1.false))
