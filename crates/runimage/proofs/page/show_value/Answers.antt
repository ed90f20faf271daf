use Rattle.bits.specs.Cases.{cases}
use Rattle.runimage.specs.Image.{shown_from}
use Rattle.runimage.proofs.page.show_value.Goals as goal

pub returns-in-2 : goal.returns-in-2
unfolding shown_from
returns-in-2 c = search cases

pub returns-in_default : goal.returns-in_default
unfolding shown_from
returns-in_default c = search cases

pub returns-in_default-2 : goal.returns-in_default-2
unfolding shown_from
returns-in_default-2 c = search cases
