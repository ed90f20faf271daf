use Rattle.state.specs.State.{word}
use Rattle.state.specs.Laws.Words.{values_called, words_are}
use Rattle.std.proofs.Common.{rules, ◌∙◌}
use Rattle.state.proofs.read_words.Goals as goal

pub returns : goal.returns
returns g c =
    values_called _ _ (word c.args.bytes.now) c.args.from (λ q i r k. search rules) _ _ c.from_fn.ensures.items
    ∙ words_are _ _ _
