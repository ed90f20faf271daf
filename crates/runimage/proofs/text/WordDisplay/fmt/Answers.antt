use Rattle.std.proofs.Common.{arith}
use Rattle.runimage.proofs.Digits.{written}
use Rattle.runimage.proofs.text.WordDisplay.fmt.Goals as goal

pub returns-clause-writes : goal.returns-clause-writes
returns-clause-writes g c =
    let shown = written c.args.self.now.0 (omega arith) in
    rw (c.laid_out.ensures, c.in_radix.ensures, shown) at c.write.ensures.writes
