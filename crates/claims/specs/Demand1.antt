-- Demand 1 (document 01, section 2): every opcode, state and memory ends in one of the numbers, in the order given there; a refusal changes nothing; a run keeps its finished steps and nothing of one refused. The statements; Laws/Demand1.antt proves them.
use Rattle.std.specs.Prelude.{◌≡◌, Bool, true, false, ◌||◌, List, [], ◌∷◌, ◌↔◌, ◌≢◌, ℕ, zero, suc, ◌+◌, ◌*◌, ◌/◌, ◌%◌, ◌^◌, ◌<◌, ◌≤◌, length, set, ◌==◌}
use Rattle.bits.specs.Fields.{◌⟨◌⟩, ◌⟨◌‥◌⟩}
use Rattle.psr.specs.Status.{passed_of}
use Rattle.memory.specs.Bytes.{word_at}
use Rattle.decode.specs.declared.Family.{Family}
use Rattle.decode.specs.declared.Family.TheVariants.{DataProcessing, MultiplyShort, MultiplyLong, Halfword, Saturating, Swap, Exclusive, Extra, StatusMove, BranchExchange, CountZeros, Breakpoint, Single, Media, Block, Branch, Coprocessor, CoprocessorMove, Supervisor, Undefined, BranchLinkExchange, ClearExclusive, ChangeState, Preload}
use Rattle.decode.specs.Families.{family_of}
use Rattle.cpu.specs.declared.Machine.{Machine}
use Rattle.cpu.specs.declared.Answer.{Answer}
use Rattle.cpu.specs.declared.Answer.TheVariants as answer
use Rattle.cpu.specs.Answers.{reported}
use Rattle.cpu.specs.With.{with_regs}
use Rattle.engine.specs.declared.Stepped.{Stepped}
use Rattle.engine.specs.declared.Finished.{Finished}
use Rattle.engine.specs.Step.{next_of, step_of}
use Rattle.cpu.specs.Laws.Fits.{AllFit}

-- ---- the numbers

-- the paper's number of an answer
abbrev pub number_of : Answer → ℕ
number_of answer = (reported answer).number

-- whether n stands in a list of numbers
abbrev pub among : ℕ → List ℕ → Bool
among n [] = false
among n (k ∷ rest) = (n == k) || among n rest

-- ---- the order of a step: 9, 8, 5, 6, then the instruction; each number is given exactly when

pub record InOrder (long bad thumb unfetched : Type 0) (n : ℕ) : Type 0 where
  pub nine : (n ≡ 9) ↔ long
  pub eight : (n ≡ 8) ↔ ((¬ long) × bad)
  pub five : (n ≡ 5) ↔ ((¬ long) × (¬ bad) × thumb)
  pub six : (n ≡ 6) ↔ ((¬ long) × (¬ bad) × (¬ thumb) × unfetched)
  pub others : (among n (0 ∷ 1 ∷ 2 ∷ 3 ∷ 4 ∷ 7 ∷ []) ≡ true) ↔ ((¬ long) × (¬ bad) × (¬ thumb) × (¬ unfetched))

-- more bytes than 65,536; a GE over 15 in one of the seven records; T set; A no multiple of 4, or A + 4 past the end
abbrev pub TooLong : List ℕ → Type 0
TooLong l = 65536 < length l

abbrev pub Bad : Machine → Type 0
Bad m = ¬ AllFit m

abbrev pub InThumb : Machine → Type 0
InThumb m = m.cpsr.t ≡ true

abbrev pub Unfetched : Machine → List ℕ → Type 0
Unfetched m l = ¬ ((next_of m % 4 ≡ 0) × (next_of m + 4 ≤ length l))

-- ---- an instruction that is reached: none of these holds

abbrev pub Reached : Type 0 → Machine → List ℕ → Type 0
Reached unfetched m l = (¬ TooLong l) × (¬ Bad m) × (¬ InThumb m) × (¬ unfetched)

-- its condition, bits 31-28, on the flags; 14 and 15 always pass
abbrev pub passes : Machine → ℕ → Bool
passes m op = passed_of (op ⟨ 31 ‥ 28 ⟩) m.cpsr.n m.cpsr.z m.cpsr.c m.cpsr.v

-- the numbers that the definition of each family can answer
abbrev pub numbers_of : Family → List ℕ
numbers_of DataProcessing = 0 ∷ []
numbers_of MultiplyShort = 0 ∷ []
numbers_of MultiplyLong = 0 ∷ []
numbers_of Halfword = 0 ∷ []
numbers_of Saturating = 0 ∷ []
numbers_of Swap = 0 ∷ 7 ∷ []
numbers_of Exclusive = 0 ∷ 2 ∷ 7 ∷ []
numbers_of Extra = 0 ∷ 2 ∷ 7 ∷ 11 ∷ []
numbers_of StatusMove = 0 ∷ []
numbers_of BranchExchange = 0 ∷ []
numbers_of CountZeros = 0 ∷ []
numbers_of Breakpoint = 3 ∷ []
numbers_of Single = 0 ∷ 7 ∷ []
numbers_of Media = 0 ∷ 2 ∷ []
numbers_of Block = 0 ∷ 7 ∷ []
numbers_of Branch = 0 ∷ []
numbers_of Coprocessor = 4 ∷ []
numbers_of CoprocessorMove = 0 ∷ 4 ∷ []
numbers_of Supervisor = 1 ∷ []
numbers_of Undefined = 2 ∷ []
numbers_of BranchLinkExchange = 0 ∷ []
numbers_of ClearExclusive = 0 ∷ []
numbers_of ChangeState = 0 ∷ []
numbers_of Preload = 0 ∷ []

-- SWI: bits 27-24 are 1111, condition 0 to 14
abbrev pub IsSwi : ℕ → Type 0
IsSwi op = (op ⟨ 31 ‥ 28 ⟩ ≢ 15) × (op ⟨ 27 ‥ 24 ⟩ ≡ 15)

-- BKPT: bits 27-23 are 00010, bit 20 is clear, bits 7-4 are 0111; bits 22-21 are not looked at (D4)
abbrev pub IsBkpt : ℕ → Type 0
IsBkpt op = (op ⟨ 31 ‥ 28 ⟩ ≢ 15) × (op ⟨ 27 ‥ 23 ⟩ ≡ 0b00010) × (op ⟨ 20 ⟩ ≡ false) × (op ⟨ 7 ‥ 4 ⟩ ≡ 0b0111)

-- a coprocessor's: bits 27-26 are 11 and it is no SWI; a register move, with bits 25 and 4 set, only where its number is 10, 11 or 15
abbrev pub IsCoprocessor : ℕ → Type 0
IsCoprocessor op =
    (op ⟨ 27 ‥ 26 ⟩ ≡ 0b11)
    × (¬ IsSwi op)
    × (op ⟨ 25 ⟩ ≡ true → op ⟨ 4 ⟩ ≡ true → among (op ⟨ 11 ‥ 8 ⟩) (10 ∷ 11 ∷ 15 ∷ []) ≡ true)

-- every machine has an r15 of 32 bits; a list of registers need not
abbrev pub HasR15 : Machine → Type 0
HasR15 m = (15 < length m.regs) × (next_of m < 2 ^ 32)

-- 2 and 7 have their own files, Undefined.antt and Accesses.antt; what is left is 0
pub record Answers (m : Machine) (op : ℕ) (a : Answer) : Type 0 where
  pub failed : passes m op ≡ false → number_of a ≡ 0
  pub passed : passes m op ≡ true → among (number_of a) (numbers_of (family_of op)) ≡ true
  pub one : (number_of a ≡ 1) ↔ ((passes m op ≡ true) × IsSwi op)
  pub one_value : number_of a ≡ 1 → a ≡ answer.Supervisor (op ⟨ 23 ‥ 0 ⟩)
  pub three : (number_of a ≡ 3) ↔ ((passes m op ≡ true) × IsBkpt op)
  pub three_value : HasR15 m → number_of a ≡ 3 → a ≡ answer.Breakpoint (next_of m) (op ⟨ 19 ‥ 8 ⟩ * 16 + op ⟨ 3 ‥ 0 ⟩)
  pub four : (number_of a ≡ 4) ↔ ((passes m op ≡ true) × IsCoprocessor op)
  pub four_value : number_of a ≡ 4 → a ≡ answer.Coprocessor op

-- ---- a step, whose opcode is op where it is reached

pub record Answered (unfetched : Type 0) (op : ℕ) (m : Machine) (l : List ℕ) (x : Stepped × List ℕ) : Type 0 where
  -- 10 is a run's; 11 is given by no opcode: none decodes to an extra transfer with bits 6-5 both zero
  pub number : among (number_of x.0.answer) (0 ∷ 1 ∷ 2 ∷ 3 ∷ 4 ∷ 5 ∷ 6 ∷ 7 ∷ 8 ∷ 9 ∷ []) ≡ true
  pub order : InOrder (TooLong l) (Bad m) (InThumb m) unfetched (number_of x.0.answer)
  pub six_value : number_of x.0.answer ≡ 6 → x.0.answer ≡ answer.Fetch (next_of m)
  pub instruction : Reached unfetched m l → Answers m op x.0.answer
  -- answer 1 leaves r15 = A + 4 with its low two bits clear, and changes nothing else
  pub called_machine : HasR15 m → number_of x.0.answer ≡ 1 → x.0.machine ≡ with_regs m (set m.regs 15 ((next_of m + 4) % 2 ^ 32 / 4 * 4))
  pub called_bytes : number_of x.0.answer ≡ 1 → x.1 ≡ l
  -- any answer but 0 and 1 leaves every register, flag, bank, tag and byte
  pub machine : number_of x.0.answer ≢ 0 → number_of x.0.answer ≢ 1 → x.0.machine ≡ m
  pub bytes : number_of x.0.answer ≢ 0 → number_of x.0.answer ≢ 1 → x.1 ≡ l

-- a step; a step with a given opcode fetches nothing
abbrev pub StepAnswered : Machine → List ℕ → Stepped × List ℕ → Type 0
StepAnswered m l x = Answered (Unfetched m l) (word_at l (next_of m)) m l x

abbrev pub GivenAnswered : Machine → ℕ → List ℕ → Stepped × List ℕ → Type 0
GivenAnswered m op l x = Answered ⊥ op m l x

-- ---- a run

-- the state after k single steps
unfoldable pub after : ℕ → Machine → List ℕ → Machine × List ℕ
after zero m l = (m, l)
after (suc k) m l = after k (step_of m l).0.machine (step_of m l).1

-- the single step that follows them, and its number
abbrev pub step_at : ℕ → Machine → List ℕ → Stepped × List ℕ
step_at k m l = step_of (after k m l).0 (after k m l).1

abbrev pub number_at : ℕ → Machine → List ℕ → ℕ
number_at k m l = number_of (step_at k m l).0.answer

-- the first k steps answer 0
abbrev pub Quiet : ℕ → Machine → List ℕ → Type 0
Quiet k m l = (i : ℕ) → i < k → number_at i m l ≡ 0

-- how a run ends that counts c steps: at the budget, in a step that answers 1 and counts, or in a refused step, which does not
pub data Ends (m : Machine) (l : List ℕ) (budget c : ℕ) (a : Answer) : Type 0 where
  at_budget : c ≡ budget → Quiet c m l → among (number_of a) (8 ∷ 9 ∷ 10 ∷ []) ≡ true → Ends m l budget c a
  at_call : (k : ℕ) → c ≡ suc k → c ≤ budget → Quiet k m l → a ≡ (step_at k m l).0.answer → number_of a ≡ 1 → Ends m l budget c a
  at_refusal : c < budget → Quiet c m l → a ≡ (step_at c m l).0.answer → number_of a ≢ 0 → number_of a ≢ 1 → Ends m l budget c a

pub record RunKeeps (m : Machine) (l : List ℕ) (budget : ℕ) (x : Finished × List ℕ) : Type 0 where
  pub number : among (number_of x.0.answer) (1 ∷ 2 ∷ 3 ∷ 4 ∷ 5 ∷ 6 ∷ 7 ∷ 8 ∷ 9 ∷ 10 ∷ []) ≡ true
  -- the order: 9, 8, then 10
  pub nine : (number_of x.0.answer ≡ 9) ↔ TooLong l
  pub eight : (number_of x.0.answer ≡ 8) ↔ ((¬ TooLong l) × Bad m)
  pub ten : (number_of x.0.answer ≡ 10) ↔ ((¬ TooLong l) × (¬ Bad m) × Quiet budget m l)
  -- the state is that of as many single steps as are counted
  pub machine : x.0.machine ≡ (after x.0.count m l).0
  pub bytes : x.1 ≡ (after x.0.count m l).1
  pub within : x.0.count ≤ budget
  pub ends : Ends m l budget x.0.count x.0.answer
