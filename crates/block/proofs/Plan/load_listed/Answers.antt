use Rattle.block.specs.Laws.Loops.{loading_first, loading_set, loading_clear, loading_last, under_none, under_here, loaded_is}
use Rattle.std.proofs.Common.{◌<◌, rules, sym, ◌∙◌, arith}
use Rattle.block.proofs.Plan.load_listed.Goals.{then-rest-eq1, else-rest-eq1}
use Rattle.block.proofs.Plan.load_listed.Goals as goal

pub loop-i-init : goal.loop-i-init
loop-i-init g c = loading_first c.args.self _ _ _ (search rules) c.requires

pub read32-requires : goal.read32-requires
read32-requires g c =
    under_here c.loop-i.invariant.under c.loop-i-test.true c.if-rest-eq1.true

pub loop-i-preserved : goal.loop-i-preserved
loop-i-preserved g c =
    let h = c.loop-i-test.true in
    elim c.if-rest-eq1.branch [
      | then-rest-eq1 w ↦ rw (w.to-is, w.a-is, w.put.ensures, w.read32.ensures) (loading_set c.loop-i.invariant h w.if-rest-eq1.true)
      | else-rest-eq1 w ↦ rw (w.to-is, w.a-is) (loading_clear c.loop-i.invariant h w.if-rest-eq1.false)
    ]

pub returns : goal.returns
returns g c =
    sym (loaded_is _ c.args.self _ _ (search rules) ∙ loading_last c.loop-i.invariant (under_none c.loop-i.invariant.under (omega (arith, c.loop-i-test.false))))
