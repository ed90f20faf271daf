use Rattle.block.specs.Laws.Loops.{storing_first, storing_set, storing_clear, storing_last, under_none, under_here, stored_is}
use Rattle.std.proofs.Common.{◌<◌, rules, sym, ◌∙◌, arith}
use Rattle.block.proofs.Plan.store_listed.Goals.{then-rest-eq1, else-rest-eq1}
use Rattle.block.proofs.Plan.store_listed.Goals as goal

pub loop-value-init : goal.loop-value-init
loop-value-init c = storing_first c.args.self _ _ (search rules) c.requires

pub write32-requires : goal.write32-requires
write32-requires c = under_here c.loop-value.invariant.under c.loop-value-test.true c.if-rest-eq1.true

pub loop-value-preserved : goal.loop-value-preserved
loop-value-preserved c =
    let h = c.loop-value-test.true in
    elim c.if-rest-eq1.branch [
      | then-rest-eq1 w ↦ rw (w.mem-is, w.a-is, w.write32.ensures) (storing_set c.loop-value.invariant h w.if-rest-eq1.true)
      | else-rest-eq1 w ↦ rw (w.mem-is, w.a-is) (storing_clear c.loop-value.invariant h w.if-rest-eq1.false)
    ]

pub returns-after-loop-value : goal.returns-after-loop-value
returns-after-loop-value c =
    sym (stored_is c.args.self _ _ (search rules) ∙ storing_last c.loop-value.invariant (under_none c.loop-value.invariant.under (omega (arith, c.loop-value-test.false))))

pub returns-then-rest-eq0 : goal.returns-then-rest-eq0
returns-then-rest-eq0 c =
    sym (stored_is c.args.self _ _ (search rules) ∙ storing_last c.loop-value.invariant (omega (arith, c.if-rest-eq0.true)))
