use Rattle.memory.specs.Laws.Plans.{storing_first, storing_here, storing_next, storing_last}
use Rattle.std.proofs.Common.{◌<◌, arith}
use Rattle.std.proofs.lemmas.List.{get_or-take, length-take}
use Rattle.memory.proofs.store_words.Goals as goal

pub loop-value-init : goal.loop-value-init
loop-value-init c = storing_first _ _ _ _ c.requires.0

pub write32-requires : goal.write32-requires
write32-requires c =
    storing_here c.loop-value.invariant (omega (arith, c.loop-value-test.true, length-take c.args.count c.args.values.now))

pub loop-value-preserved : goal.loop-value-preserved
loop-value-preserved c =
    let k : c.loop-value.value-index < c.args.count = omega (arith, c.loop-value-test.true, length-take c.args.count c.args.values.now) in
    rw (c.write32.ensures, get_or-take c.args.count c.args.values.now c.loop-value.value-index 0 k) (storing_next c.loop-value.invariant k)

pub returns : goal.returns
returns c =
    storing_last c.loop-value.invariant (omega (arith, c.loop-value-test.false, length-take c.args.count c.args.values.now))
