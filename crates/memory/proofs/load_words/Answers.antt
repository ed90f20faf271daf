use Rattle.memory.specs.Laws.Plans.{loading_first, loading_here, loading_next, loading_last, loaded_front}
use Rattle.std.proofs.Common.{◌≤◌, arith}
use Rattle.std.proofs.lemmas.List.{length-take}
use Rattle.memory.proofs.load_words.Goals as goal

pub loop-value-init : goal.loop-value-init
loop-value-init c = loading_first _ _ _ _ c.requires.0

pub read32-requires : goal.read32-requires
read32-requires c =
    loading_here c.loop-value.invariant (omega (arith, c.loop-value-test.true, length-take c.args.count c.args.values.now))

pub loop-value-preserved : goal.loop-value-preserved
loop-value-preserved c =
    rw c.read32.ensures
    (loading_next c.loop-value.invariant (omega (arith, c.loop-value-test.true, length-take c.args.count c.args.values.now)))

pub returns : goal.returns
returns c =
    let k : c.args.count ≤ c.loop-value.value-index = omega (arith, c.loop-value-test.false, length-take c.args.count c.args.values.now) in
    loaded_front _ _ _ c.args.values.now _ (omega (arith, c.requires.1, c.told-values)) (loading_last c.loop-value.invariant k)
