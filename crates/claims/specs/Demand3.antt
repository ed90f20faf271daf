-- Demand 3 (document 01, sections 4 and 7): SUBS and then SBCS subtract numbers of n words, ADDS and then ADCS add them, over steps of the machine.
use Rattle.std.specs.Prelude.{◌≡◌, true, not, ◌&&◌, ◌||◌, List, [], ◌∷◌, ℕ, ◌+◌, ◌%◌, ◌^◌, ◌<◌, get_or, set}
use Rattle.bits.specs.Fields.{◌⟨◌⟩, ◌⟨◌‥◌⟩}
use Rattle.psr.specs.Status.{passed_of}
use Rattle.alu.specs.Numbers.{Pair}
use Rattle.alu.specs.Chains.{View, Subtracted, Added}
use Rattle.memory.specs.Bytes.{word_at}
use Rattle.cpu.specs.declared.Machine.{Machine}
use Rattle.cpu.specs.declared.Answer.{Answer}
use Rattle.cpu.specs.declared.Answer.TheVariants.{Done}
use Rattle.dataproc.specs.Dataproc.{first_of, operand_of}
use Rattle.state.specs.Valid.{Words}
use Rattle.engine.specs.Step.{stepped, next_of}
use Rattle.engine.specs.Promises.{Steps, StepsWith}

-- a machine and the bytes that it is lent
pub record State : Type 0 where
  pub machine : Machine
  pub bytes : List ℕ

-- what it shows: N, Z, C and V of CPSR
abbrev pub view : View State
view =
    record {
      n = λ s. s.machine.cpsr.n;
      z = λ s. s.machine.cpsr.z;
      c = λ s. s.machine.cpsr.c;
      v = λ s. s.machine.cpsr.v;
    }

-- A, the address of the next instruction
abbrev pub address_of : State → ℕ
address_of s = next_of s.machine

-- a public call took s to t by the instruction op and answered so: a step, which fetches op at A, or a step with an opcode, which is given it
pub data Took (s : State) (op : ℕ) (answer : Answer) (t : State) : Type 0 where
  fetched : op ≡ word_at s.bytes (address_of s)
      → Steps s.machine s.bytes (stepped t.machine answer, t.bytes)
      → Took s op answer t
  given : StepsWith s.machine op s.bytes (stepped t.machine answer, t.bytes)
      → Took s op answer t

-- any number of steps, whatever they answer
pub data Between : State → State → Type 0 where
  none : {s : State} → Between s s
  more : {s t u : State} {op : ℕ} {answer : Answer} → Took s op answer t → Between t u → Between s u

-- bits 24-21 (A3.4, Table A3-2)
abbrev pub SUB : ℕ
SUB = 0b0010

abbrev pub ADD : ℕ
ADD = 0b0100

abbrev pub ADC : ℕ
ADC = 0b0101

abbrev pub SBC : ℕ
SBC = 0b0110

-- A3.4 and A5.1: op is the data-processing instruction k with S, under a condition, into a register other than r15, in any of the eleven forms
pub record Encodes (k op : ℕ) : Type 0 where
  pub condition : op ⟨ 31 ‥ 28 ⟩ < 15
  pub class : op ⟨ 27 ‥ 26 ⟩ ≡ 0
  pub operation : op ⟨ 24 ‥ 21 ⟩ ≡ k
  pub sets : op ⟨ 20 ⟩ ≡ true
  pub destination : op ⟨ 15 ‥ 12 ⟩ < 15
  -- an immediate, or a shifted register, where bits 7 and 4 are not both set
  pub form : (op ⟨ 25 ⟩ || not (op ⟨ 7 ⟩ && op ⟨ 4 ⟩)) ≡ true

-- the registers while it executes: r15 is A + 8, which first_of and operand_of read as A + 12 where a register holds the shift amount
abbrev pub reads_of : State → List ℕ
reads_of s = set s.machine.regs 15 ((address_of s + 8) % 2 ^ 32)

-- the two words that op reads in the state s: Rn, then the shifter operand
abbrev pub pair_of : State → ℕ → Pair
pair_of s op = record { first = first_of (reads_of s) op; second = (operand_of (reads_of s) op (view.c s)).value }

-- and what it has written in the state t: Rd
abbrev pub result_in : State → ℕ → ℕ
result_in t op = get_or t.machine.regs (op ⟨ 15 ‥ 12 ⟩) 0

-- A link: the instruction k, its condition passed, took s to t and answered 0; it read the pair p and wrote the word w.
-- That the registers are sixteen words holds of every machine in code, by its type.
pub record Link (k : ℕ) (s : State) (p : Pair) (w : ℕ) (t : State) : Type 0 where
  pub op : ℕ
  pub encoding : Encodes k op
  pub passed : passed_of (op ⟨ 31 ‥ 28 ⟩) (view.n s) (view.z s) (view.c s) (view.v s) ≡ true
  pub took : Took s op Done t
  pub registers : Words 16 s.machine.regs
  pub read : p ≡ pair_of s op
  pub wrote : w ≡ result_in t op

-- Chain next k s p ps ws t: from s a link of the instruction k on the pair p and links of `next` on ps, n ≥ 1 in all, wrote the words ws; t is the state after the last
pub data Chain (next : ℕ) : ℕ → State → Pair → List Pair → List ℕ → State → Type 0 where
  ends : {k : ℕ} {s t : State} {p : Pair} {w : ℕ} → Link k s p w t → Chain next k s p [] (w ∷ []) t
  -- between a link and the next any steps that leave C as the link left it
  goes : {k : ℕ} {s u u' t : State} {p q : Pair} {ps : List Pair} {w : ℕ} {ws : List ℕ}
      → Link k s p w u
      → Between u u'
      → view.c u' ≡ view.c u
      → Chain next next u' q ps ws t
      → Chain next k s p (q ∷ ps) (w ∷ ws) t

-- Demand 3, with `Subtracted` and `Added` of alu/specs/Chains.antt: the exact result modulo 2^(32 n), C, N and V of the long numbers, and Z of the last word only.
-- proofs/Demand3.antt has the proof.
pub record Demand3 : Type 0 where
  pub differences : {s t : State} {p : Pair} {ps : List Pair} {ws : List ℕ} → Chain SBC SUB s p ps ws t → Subtracted view p ps ws t
  pub sums : {s t : State} {p : Pair} {ps : List Pair} {ws : List ℕ} → Chain ADC ADD s p ps ws t → Added view p ps ws t
