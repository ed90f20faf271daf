use Rattle.bits.specs.Cases.{when◌then◌else◌}
use Rattle.shifter.specs.Shifts.{by_immediate_of}
use Rattle.shifter.specs.Laws.Shifts.{left_none, right_none, signed_none}
use Rattle.std.proofs.Common.{◌∙◌}
use Rattle.shifter.proofs.by_zero.Goals as goal

pub returns-in-Lsl : goal.returns-in-Lsl
returns-in-Lsl c =
    rw c.in-Lsl.is (left_none c.args.value 0 c.args.c c.ranges.value.fits)

pub returns-in-Lsr : goal.returns-in-Lsr
returns-in-Lsr c =
    rw c.in-Lsr.is (c.shift_right.ensures ∙ right_none c.args.value 0 c.args.c c.ranges.value.fits)

pub returns-in-Asr : goal.returns-in-Asr
returns-in-Asr c =
    rw c.in-Asr.is (c.shift_right_signed.ensures ∙ signed_none c.args.value 0 c.args.c c.ranges.value.fits)

pub returns-in-Ror : goal.returns-in-Ror
unfolding by_immediate_of when◌then◌else◌
returns-in-Ror c = rw (c.from.ensures, c.in-Ror.is)
