-- No room for a second outcome (document 01, section 7): for each public call, two outcomes that meet its promise are the same.
use Rattle.std.specs.Prelude.{◌≡◌, Bool, List, ℕ, Result}
use Rattle.std.proofs.Common.{sym, ◌∙◌}
use Rattle.psr.specs.declared.Status.{Status}
use Rattle.psr.specs.declared.GeTooLarge.{GeTooLarge}
use Rattle.psr.specs.Status.{Packs, Unpacks}
use Rattle.shifter.specs.declared.Operand.{Operand}
use Rattle.shifter.specs.Shifts.{ShiftsByImmediate, ShiftsByRegister}
use Rattle.cpu.specs.declared.Machine.{Machine}
use Rattle.engine.specs.declared.Stepped.{Stepped}
use Rattle.engine.specs.declared.Finished.{Finished}
use Rattle.engine.specs.Promises.{Steps, StepsWith, Runs}
use Rattle.exports.specs.Calls.{pack_call_of, unpack_call_of, shift_immediate_call_of, shift_register_call_of}
use Rattle.exports.specs.Steps.{Left, step_call_of, step_opcode_call_of, run_call_of}

-- each promise is an equation with a value that the input gives
same : {X : Type 0} {value r t : X} → r ≡ value → t ≡ value → r ≡ t
same p q = p ∙ sym q

pub packing : (s : Status) (r t : Result ℕ GeTooLarge) → Packs s r → Packs s t → r ≡ t
packing s r t p q = same p q

pub unpacking : (w : ℕ) (r t : Status) → Unpacks w r → Unpacks w t → r ≡ t
unpacking w r t p q = same p q

pub shifting_by_immediate : (kind value amount : ℕ) (carry : Bool) (r t : Operand)
    → ShiftsByImmediate kind value amount carry r → ShiftsByImmediate kind value amount carry t → r ≡ t
shifting_by_immediate kind value amount carry r t p q = same p q

pub shifting_by_register : (kind value amount : ℕ) (carry : Bool) (r t : Operand)
    → ShiftsByRegister kind value amount carry r → ShiftsByRegister kind value amount carry t → r ≡ t
shifting_by_register kind value amount carry r t p q = same p q

-- of a step and a run: the answer, the whole machine and every lent byte
pub stepping : (m : Machine) (l : List ℕ) (r t : Stepped × List ℕ) → Steps m l r → Steps m l t → r ≡ t
stepping m l r t p q = same p q

pub stepping_with_an_opcode : (m : Machine) (op : ℕ) (l : List ℕ) (r t : Stepped × List ℕ) → StepsWith m op l r → StepsWith m op l t → r ≡ t
stepping_with_an_opcode m op l r t p q = same p q

pub running : (m : Machine) (l : List ℕ) (budget : ℕ) (r t : Finished × List ℕ) → Runs m l budget r → Runs m l budget t → r ≡ t
running m l budget r t p q = same p q

-- ---- the exported calls, whose contracts (exports/src/lib.rt) are these equations

pub exported_packing : (word ge r t : ℕ) → r ≡ pack_call_of word ge → t ≡ pack_call_of word ge → r ≡ t
exported_packing word ge r t p q = same p q

pub exported_unpacking : (word r t : ℕ) → r ≡ unpack_call_of word → t ≡ unpack_call_of word → r ≡ t
exported_unpacking word r t p q = same p q

pub exported_shift_by_immediate : (kind value amount : ℕ) (carry : Bool) (r t : ℕ)
    → r ≡ shift_immediate_call_of kind value amount carry → t ≡ shift_immediate_call_of kind value amount carry → r ≡ t
exported_shift_by_immediate kind value amount carry r t p q = same p q

pub exported_shift_by_register : (kind value amount : ℕ) (carry : Bool) (r t : ℕ)
    → r ≡ shift_register_call_of kind value amount carry → t ≡ shift_register_call_of kind value amount carry → r ≡ t
exported_shift_by_register kind value amount carry r t p q = same p q

-- what is returned, and the bytes of the machine, of memory and of the answer
pub exported_step : (bytes l answer : List ℕ) (r t : Left) → r ≡ step_call_of bytes l answer → t ≡ step_call_of bytes l answer → r ≡ t
exported_step bytes l answer r t p q = same p q

pub exported_step_with_an_opcode : (bytes l : List ℕ) (op : ℕ) (answer : List ℕ) (r t : Left)
    → r ≡ step_opcode_call_of bytes l op answer → t ≡ step_opcode_call_of bytes l op answer → r ≡ t
exported_step_with_an_opcode bytes l op answer r t p q = same p q

pub exported_run : (bytes l : List ℕ) (budget : ℕ) (answer : List ℕ) (r t : Left)
    → r ≡ run_call_of bytes l budget answer → t ≡ run_call_of bytes l budget answer → r ≡ t
exported_run bytes l budget answer r t p q = same p q
