use Rattle.block.specs.Laws.Ways.{moves_user, refuses_user}
use Rattle.std.proofs.Common.{sym, ◌∙◌}
use Rattle.block.proofs.transfer_user.Goals as goal

pub move_user-requires : goal.move_user-requires
move_user-requires c =
    sym c.find_outside.ensures ∙ c.in-None.is

pub returns-in-None : goal.returns-in-None
returns-in-None c =
    moves_user c.args.m c.args.op _ c.make-p.ensures (sym c.find_outside.ensures ∙ c.in-None.is) c.move_user.ensures

pub returns-in-Some : goal.returns-in-Some
returns-in-Some c =
    refuses_user c.args.m c.args.op _ c.make-p.ensures _ (sym c.find_outside.ensures ∙ c.in-Some.is)
