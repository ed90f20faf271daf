use Rattle.block.specs.UserBlock.{return_load_of}
use Rattle.block.proofs.load_return.Goals as goal

pub returns : goal.returns
unfolding return_load_of
returns c =
    rw (c.exchange_to.ensures, c.restore.ensures, c.load_listed.ensures, c.write_base-out.ensures)
