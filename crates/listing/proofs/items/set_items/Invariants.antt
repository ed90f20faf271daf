use Rattle.std.proofs.Common.{length}
use Rattle.listing.specs.Reading.{LeadsTo}
use Rattle.listing.proofs.items.set_items.Given as goal

abbrev pub invariant-loop-line : goal.invariant-loop-line
invariant-loop-line l = LeadsTo l.fn.line.rest.now l.line.rest.now

abbrev pub decreases-loop-line : goal.decreases-loop-line
decreases-loop-line l = length l.line.rest.now
