use Rattle.listing.specs.Laws.Reading.{leads_on}
use Rattle.listing.proofs.items.set_items.Goals as goal

pub loop-line-preserved : goal.loop-line-preserved
loop-line-preserved c = leads_on c.loop-line.invariant (leads_on c.pass.ensures.leads c.set_item.ensures)

pub returns-in_err-set_item : goal.returns-in_err-set_item
returns-in_err-set_item c = leads_on c.loop-line.invariant (leads_on c.pass.ensures.leads c.set_item.ensures)
