-- The program runimage (document 01, section 8): where a run starts, and the numbers that are shown of it.
use Rattle.std.specs.Prelude.{None, ◌≡◌, false, ◌||◌, List, ℕ, replicate, ◌==◌}
use Rattle.bits.specs.Cases.{when◌then◌else◌}
use Rattle.psr.specs.declared.Status.{Status}
use Rattle.psr.specs.declared.Mode.TheVariants.{System}
use Rattle.psr.specs.Status.{packed_word_of}
use Rattle.cpu.specs.declared.Machine.{Machine}
use Rattle.cpu.specs.declared.Answer.{Answer}
use Rattle.cpu.specs.declared.Report.{Report}
use Rattle.cpu.specs.Answers.{reported}
use Rattle.engine.specs.declared.Finished.{Finished}
use Rattle.engine.specs.Run.{run_of}
use Rattle.runimage.specs.declared.page.Page.{Page}

-- the Rust's Psr::default
abbrev pub default_status : Status
default_status =
    record
    { n = false; z = false; c = false; v = false; q = false; ge = 0; e = false; a = false; i = false; f = false; t = false; mode = System }

-- address 0, System mode, saved records as Psr::default, no tag, all else zero
abbrev pub initial_of : Machine
initial_of =
    record {
      regs = replicate 16 0;
      cpsr = default_status;
      spsr = default_status;
      banked = replicate 12 0;
      saved = replicate 5 default_status;
      fiq = replicate 5 0;
      user = replicate 5 0;
      tag = None;
    }

-- the value shown beside an answer: number (1, 3), opcode (2, 4, 11), address (6, 7) or zero; of 2 and 3 the first value is the address A
unfoldable pub shown_from : Report → ℕ
shown_from r = when (r.number == 2) || (r.number == 3) then r.second else r.first

abbrev pub shown_of : Answer → ℕ
shown_of answer = shown_from (reported answer)

abbrev pub page_of : Finished → Page
page_of f =
    record {
      exit = (reported f.answer).number;
      shown = shown_of f.answer;
      steps = f.count;
      regs = f.machine.regs;
      cpsr = packed_word_of f.machine.cpsr;
    }

-- the page of a run of at most 10,000 steps over these bytes
abbrev pub Shows : List ℕ → Page → Type 0
Shows bytes page = page ≡ page_of (run_of 10000 initial_of bytes).0
