use Rattle.state.specs.State.{record_at, state_of}
use Rattle.state.specs.Laws.Words.{values_called}
use Rattle.std.proofs.Common.{rules}
use Rattle.state.proofs.read_saved.Goals as goal

pub returns : goal.returns
unfolding state_of
returns c =
    values_called _ _ (record_at c.args.bytes.now) 18 (λ q i r k. search rules) _ _ c.from_fn.ensures.items
