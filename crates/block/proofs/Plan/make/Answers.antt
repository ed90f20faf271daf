use Rattle.block.specs.Block.{plan_of}
use Rattle.block.proofs.Plan.make.Goals as goal

pub returns : goal.returns
unfolding plan_of
returns c = rw (c.find_start-start.ensures, c.move_base-moved.ensures, c.find_span.ensures, c.list_of-list.ensures)
