use Rattle.cpu.specs.declared.Answer.TheVariants as answer
use Rattle.engine.specs.Run.{finished}
use Rattle.engine.specs.Step.{settled_of, blocked_of}
use Rattle.engine.specs.Laws.Walk.{Turned, step_thumb, step_lost, walk_none, goes_refused, turned_by, turned_on, turned_stop, turned_refused, stop_refuses, block_refuses}
use Rattle.std.proofs.Common.{◌≡◌, refl, sym, ap, ◌∙◌, arith, ℕ}
use Rattle.engine.proofs.go.Goals as goal
use Rattle.engine.proofs.go.Goals.{After-turn, in-Nothing, in-Flags, in-Sticky, in-Lanes, in-Exchange, in-Tagged, in-Untagged, in-Return, in-Moves, in-Block+in-Ok}

-- where an instruction has been executed: its step
abbrev turned : (c : After-turn) → Turned c.args.given c.args.budget c.args.m c.args.mem.now c.loop-k.k c.loop-k.cur c.loop-k.mem
turned c =
    let I = c.loop-k in
    turned_by _ _ _ _ I.k I.cur I.mem _ I.invariant c.loop-k-test.true c.if-cur.false
    (sym c.next_opcode.ensures ∙ c.in-Some.is) (c.turn.ensures ∙ rw c.of-seen.ensures)

pub returns-then-cur : goal.returns-then-cur
returns-then-cur c =
    let I = c.loop-k in
    goes_refused _ _ _ _ _ _ _ I.invariant.2 c.loop-k-test.true (step_thumb _ I.cur I.mem I.invariant.2.0 c.if-cur.true) refl refl

pub returns-in_default : goal.returns-in_default
returns-in_default c =
    let I = c.loop-k in
    goes_refused _ _ _ _ _ _ _ I.invariant.2 c.loop-k-test.true
    (step_lost _ I.cur I.mem I.invariant.2.0 c.if-cur.false (sym c.next_opcode.ensures ∙ c.in_default.is)) refl refl

pub returns-in-Err : goal.returns-in-Err
unfolding settled_of blocked_of
returns-in-Err c =
    let e = c.transfer_user.ensures in
    let r = block_refuses _ _ _ _ (sym (ap (λ x. x.0) e) ∙ c.in-Err.is) in
    rw c.refuse.ensures (turned_refused _ _ _ _ _ _ _ (turned (goal.at.returns-in-Err c).After-turn) c.in-Block.is (rw (← e, c.in-Err.is) refl) r.0 r.1)

pub returns-in-Call : goal.returns-in-Call
unfolding settled_of
returns-in-Call c =
    turned_stop _ _ _ _ _ _ _ (turned (goal.at.returns-in-Call c).After-turn) c.in-Call.is refl refl

pub returns-in-Stop : goal.returns-in-Stop
unfolding settled_of
returns-in-Stop c =
    let t = turned (goal.at.returns-in-Stop c).After-turn in
    let r = stop_refuses _ _ _ _ _ _ _ t _ c.in-Stop.is in
    rw c.refuse-in-Stop.ensures (turned_refused _ _ _ _ _ _ _ t c.in-Stop.is refl r.0 r.1)

pub loop-k-preserved : goal.loop-k-preserved
unfolding settled_of blocked_of
loop-k-preserved c =
    let t = turned (goal.at.loop-k-preserved c).After-turn in
    elim c.match-turn.branch [
      | in-Nothing w ↦ rw (w.cur-is, w.mem-is) (turned_on _ _ _ _ _ _ _ t w.in-Nothing.is refl c.turn.auto.mem)
      | in-Flags w ↦ rw (w.cur-is, w.mem-is) (turned_on _ _ _ _ _ _ _ t w.in-Flags.is refl c.turn.auto.mem)
      | in-Sticky w ↦ rw (w.cur-is, w.mem-is) (turned_on _ _ _ _ _ _ _ t w.in-Sticky.is refl c.turn.auto.mem)
      | in-Lanes w ↦ rw (w.cur-is, w.mem-is) (turned_on _ _ _ _ _ _ _ t w.in-Lanes.is refl c.turn.auto.mem)
      | in-Exchange w ↦ rw (w.cur-is, w.mem-is) (turned_on _ _ _ _ _ _ _ t w.in-Exchange.is refl c.turn.auto.mem)
      | in-Tagged w ↦ rw (w.cur-is, w.mem-is) (turned_on _ _ _ _ _ _ _ t w.in-Tagged.is refl c.turn.auto.mem)
      | in-Untagged w ↦ rw (w.cur-is, w.mem-is) (turned_on _ _ _ _ _ _ _ t w.in-Untagged.is refl c.turn.auto.mem)
      | in-Return w ↦ rw (w.cur-is, w.mem-is) (turned_on _ _ _ _ _ _ _ t w.in-Return.is (rw w.return_to-cur.ensures refl) c.turn.auto.mem)
      | in-Moves w ↦ rw (w.cur-is, w.mem-is) (turned_on _ _ _ _ _ _ _ t w.in-Moves.is (rw w.move_status-cur.ensures refl) c.turn.auto.mem)
      | in-Block+in-Ok w ↦ rw (w.cur-is, w.mem-is) (turned_on _ _ _ _ _ _ _ t w.in-Block.is (rw (← w.transfer_user.ensures, w.in-Ok.is) refl) (w.transfer_user.auto.mem ∙ c.turn.auto.mem))
    ]

pub returns : goal.returns
returns c =
    let I = c.loop-k in
    let e : c.args.budget ≡ I.k = omega (arith, I.invariant.0, c.loop-k-test.false) in
    (ap (λ (k : ℕ). (finished I.cur answer.Done k, I.mem)) e ∙ walk_none _ _ _ _ I.k I.cur I.mem I.invariant.2 c.loop-k-test.false, λ e. I.invariant.2.0)
