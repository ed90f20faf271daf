use Rattle.bits.specs.Cases.{cases}
use Rattle.listing.specs.Digits.{digit_of}
use Rattle.listing.proofs.text.digit_value.Goals as goal

pub returns-in-48-to-57-clause-value : goal.returns-in-48-to-57-clause-value
unfolding digit_of
returns-in-48-to-57-clause-value c = search cases

pub returns-in-65-to-70-clause-value : goal.returns-in-65-to-70-clause-value
unfolding digit_of
returns-in-65-to-70-clause-value c = search cases

pub returns-in_default-clause-value : goal.returns-in_default-clause-value
unfolding digit_of
returns-in_default-clause-value c = search cases

pub returns-in_default-2-clause-value : goal.returns-in_default-2-clause-value
unfolding digit_of
returns-in_default-2-clause-value c = search cases

pub returns-in_default-3-clause-value : goal.returns-in_default-3-clause-value
unfolding digit_of
returns-in_default-3-clause-value c = search cases
