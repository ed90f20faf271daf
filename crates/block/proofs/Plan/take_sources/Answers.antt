use Rattle.bits.specs.Cases.{when◌then◌else◌}
use Rattle.block.specs.Laws.Sources.{sources_of}
use Rattle.block.proofs.Plan.take_sources.Goals.{then-moves, else-moves}
use Rattle.block.proofs.Plan.take_sources.Goals as goal

pub returns : goal.returns
unfolding sources_of when◌then◌else◌
returns c =
    elim c.if-moves.branch [
      | then-moves w ↦ rw (w.out-is, ← c.power.ensures.0, w.if-moves.true)
      | else-moves w ↦ rw (w.out-is, ← c.power.ensures.0, w.if-moves.false)
    ]
