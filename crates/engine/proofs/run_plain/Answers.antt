use Rattle.cpu.specs.declared.Answer.TheVariants.{Timeout}
use Rattle.engine.specs.Run.{finished, ended_of}
use Rattle.engine.specs.Laws.Gate.{gated_by}
use Rattle.engine.specs.Laws.Going.{go_on, go_stop, go_none}
use Rattle.std.proofs.Common.{◌≡◌, sym, ap, ◌∙◌, arith, ℕ, ◌+◌, ◌≤◌}
use Rattle.engine.proofs.run_plain.Goals as goal

pub loop-k-preserved : goal.loop-k-preserved
loop-k-preserved c =
    let I = c.loop-k in
    let h : I.k + 1 ≤ c.args.budget = omega (arith, c.loop-k-test.true) in
    (h, c.step-s.auto.mem ∙ I.invariant.1, I.invariant.2 ∙ go_on _ _ I.cur I.mem c.loop-k-test.true c.step-s.ensures (sym c.is_done.ensures ∙ c.if-not-is_done.false))

pub returns-then-not-is_done : goal.returns-then-not-is_done
returns-then-not-is_done c =
    let I = c.loop-k in
    let stopped = sym c.is_done.ensures ∙ c.if-not-is_done.true in
    rw (c.from.ensures, c.is_call.ensures) (sym (I.invariant.2 ∙ go_stop _ _ I.cur I.mem c.loop-k-test.true c.step-s.ensures stopped))

pub returns-in-Ok : goal.returns-in-Ok
returns-in-Ok c =
    let I = c.loop-k in
    let e : c.args.budget ≡ I.k = omega (arith, I.invariant.0, c.loop-k-test.false) in
    let open_gate = sym c.in-Ok.is ∙ c.admit.ensures in
    ap (λ (k : ℕ). (finished I.cur Timeout k, I.mem)) e
    ∙ sym (I.invariant.2 ∙ go_none _ _ I.cur I.mem c.loop-k-test.false ∙ ap (ended_of I.k) (gated_by I.cur I.mem _ open_gate))

pub returns-in-Err : goal.returns-in-Err
returns-in-Err c =
    let I = c.loop-k in
    let e : c.args.budget ≡ I.k = omega (arith, I.invariant.0, c.loop-k-test.false) in
    let shut = sym c.in-Err.is ∙ c.admit.ensures in
    ap (λ (k : ℕ). (finished I.cur c.in-Err.answer k, I.mem)) e
    ∙ sym (I.invariant.2 ∙ go_none _ _ I.cur I.mem c.loop-k-test.false ∙ ap (ended_of I.k) (gated_by I.cur I.mem _ shut))
