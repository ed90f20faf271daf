use Rattle.listing.specs.Laws.Reading.{leads_on}
use Rattle.replay.proofs.case.read_listed.Goals as goal

pub returns-in_err-second : goal.returns-in_err-second
returns-in_err-second c = leads_on c.pass.ensures.leads (leads_on c.pass-2.ensures.leads (leads_on c.field.ensures (leads_on c.field-2.ensures c.field-3.ensures)))

pub returns-in_err-count : goal.returns-in_err-count
returns-in_err-count c =
    leads_on c.pass.ensures.leads (leads_on c.pass-2.ensures.leads (leads_on c.field.ensures (leads_on c.field-2.ensures (leads_on c.field-3.ensures c.read_count.ensures))))

pub returns : goal.returns
returns c = leads_on c.pass.ensures.leads (leads_on c.pass-2.ensures.leads (leads_on c.field.ensures (leads_on c.field-2.ensures (leads_on c.field-3.ensures c.read_count.ensures))))
