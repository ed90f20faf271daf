-- No two answers report the same number and values.
use Rattle.std.specs.Prelude.{◌≡◌, refl, ◌==◌}
use Rattle.std.proofs.Common.{sym, ap, ◌∙◌}
use Rattle.bits.specs.Cases.{when◌then◌else◌}
use Rattle.cpu.specs.declared.Answer.{Answer}
use Rattle.cpu.specs.declared.Answer.TheVariants.{Done, Supervisor, Undefined, Breakpoint, Coprocessor, Thumb, Fetch, Bus, BadState, TooLong, Timeout, TransferForm}
use Rattle.cpu.specs.declared.Report.{Report}
use Rattle.cpu.specs.Answers.{reported}

-- the answer of a report
answer_of : Report → Answer
answer_of r =
    when r.number == 0 then Done
    else when r.number == 1 then Supervisor r.first
    else when r.number == 2 then Undefined r.first r.second
    else when r.number == 3 then Breakpoint r.first r.second
    else when r.number == 4 then Coprocessor r.first
    else when r.number == 5 then Thumb
    else when r.number == 6 then Fetch r.first
    else when r.number == 7 then Bus r.first
    else when r.number == 8 then BadState
    else when r.number == 9 then TooLong
    else when r.number == 10 then Timeout
    else TransferForm r.first

back : (a : Answer) → answer_of (reported a) ≡ a
unfolding answer_of when◌then◌else◌
back Done = refl
back (Supervisor n) = refl
back (Undefined a b) = refl
back (Breakpoint a b) = refl
back (Coprocessor a) = refl
back Thumb = refl
back (Fetch a) = refl
back (Bus a) = refl
back BadState = refl
back TooLong = refl
back Timeout = refl
back (TransferForm a) = refl

pub reported_apart : (a b : Answer) → reported a ≡ reported b → a ≡ b
reported_apart a b e = sym (back a) ∙ ap answer_of e ∙ back b
