-- What a call answers: document 01's numbers and values (section 2), and the state that earns answer 8.
use Rattle.std.specs.Prelude.{Bool, true, false, not, ◌||◌, ℕ, get_or}
use Rattle.bits.specs.Cases.{◌<?◌}
use Rattle.psr.specs.declared.Status.{Status}
use Rattle.psr.specs.declared.Mode.TheVariants.{User}
use Rattle.cpu.specs.declared.Answer.{Answer}
use Rattle.cpu.specs.declared.Answer.TheVariants.{Done, Supervisor, Undefined, Breakpoint, Coprocessor, Thumb, Fetch, Bus, BadState, TooLong, Timeout, TransferForm}
use Rattle.cpu.specs.declared.Report.{Report}
use Rattle.cpu.specs.declared.Machine.{Machine}

abbrev pub report : ℕ → ℕ → ℕ → Report
report number first second = record { number = number; first = first; second = second }

abbrev pub reported : Answer → Report
reported Done = report 0 0 0
reported (Supervisor number) = report 1 number 0
reported (Undefined at opcode) = report 2 at opcode
reported (Breakpoint at number) = report 3 at number
reported (Coprocessor opcode) = report 4 opcode 0
reported Thumb = report 5 0 0
reported (Fetch at) = report 6 at 0
reported (Bus address) = report 7 address 0
reported BadState = report 8 0 0
reported TooLong = report 9 0 0
reported Timeout = report 10 0 0
reported (TransferForm opcode) = report 11 opcode 0

-- answers 0 and 1; every other answer refuses, and changes nothing
abbrev pub is_done : Answer → Bool
is_done Done = true
is_done (Supervisor n) = false
is_done (Undefined a o) = false
is_done (Breakpoint a n) = false
is_done (Coprocessor o) = false
is_done Thumb = false
is_done (Fetch a) = false
is_done (Bus a) = false
is_done BadState = false
is_done TooLong = false
is_done Timeout = false
is_done (TransferForm o) = false

abbrev pub is_call : Answer → Bool
is_call Done = false
is_call (Supervisor n) = true
is_call (Undefined a o) = false
is_call (Breakpoint a n) = false
is_call (Coprocessor o) = false
is_call Thumb = false
is_call (Fetch a) = false
is_call (Bus a) = false
is_call BadState = false
is_call TooLong = false
is_call Timeout = false
is_call (TransferForm o) = false

abbrev pub refuses : Answer → Bool
refuses answer = not (is_done answer || is_call answer)

-- what stands past the end of a list of records
abbrev pub no_status : Status
no_status =
    record
    { n = false; z = false; c = false; v = false; q = false; ge = 0; e = false; a = false; i = false; f = false; t = false; mode = User }

-- answer 8: a GE in any of the seven status records exceeds 15
unfoldable pub bad_of : Machine → Bool
bad_of m =
    (15 <? m.cpsr.ge)
    || (15 <? m.spsr.ge)
    || (15 <? (get_or m.saved 0 no_status).ge)
    || (15 <? (get_or m.saved 1 no_status).ge)
    || (15 <? (get_or m.saved 2 no_status).ge)
    || (15 <? (get_or m.saved 3 no_status).ge)
    || (15 <? (get_or m.saved 4 no_status).ge)
