use Rattle.bits.specs.Cases.{cases}
use Rattle.block.specs.Block.{back_of}
use Rattle.block.proofs.Plan.write_back.Goals as goal

pub returns-then-op-eq1 : goal.returns-then-op-eq1
unfolding back_of
returns-then-op-eq1 c = search cases

pub returns-else-op-eq1 : goal.returns-else-op-eq1
unfolding back_of
returns-else-op-eq1 c = search cases
