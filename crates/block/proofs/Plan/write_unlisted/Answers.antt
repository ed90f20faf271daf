use Rattle.bits.specs.Cases.{if_yes, if_no}
use Rattle.block.specs.Block.{unlisted_of}
use Rattle.std.proofs.Common.{sym, ◌∙◌}
use Rattle.block.proofs.Plan.write_unlisted.Goals as goal

pub returns-then-not-listed : goal.returns-then-not-listed
unfolding unlisted_of
returns-then-not-listed c = c.write_back.ensures ∙ sym (if_no _ _ _ (sym c.bit-listed.ensures ∙ c.if-not-listed.true))

pub returns-else-not-listed : goal.returns-else-not-listed
unfolding unlisted_of
returns-else-not-listed c = sym (if_yes _ _ _ (sym c.bit-listed.ensures ∙ c.if-not-listed.false))
