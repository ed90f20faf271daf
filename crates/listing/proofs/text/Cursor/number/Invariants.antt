use Rattle.std.proofs.Common.{length}
use Rattle.listing.specs.Reading.{LeadsTo}
use Rattle.listing.proofs.text.Cursor.number.Given as goal

abbrev pub invariant-loop-value : goal.invariant-loop-value
invariant-loop-value l = LeadsTo l.fn.self.rest.now l.self.rest.now

abbrev pub decreases-loop-value : goal.decreases-loop-value
decreases-loop-value l = length l.self.rest.now
