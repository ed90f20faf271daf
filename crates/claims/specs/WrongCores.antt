-- The wrong cores of document 01, section 7: none of them keeps the promise of a step, or of a run.
use Rattle.std.specs.Prelude.{◌≡◌, refl, false, List, [], ◌∷◌, ◌≢◌, ℕ, zero, suc, ◌+◌, ◌%◌, ◌^◌, get_or, set, None}
use Rattle.std.proofs.Common.{sym, ap, ◌∙◌, arith}
use Rattle.bits.specs.Cases.{when◌then◌else◌}
use Rattle.bits.specs.Fields.{bit_of}
use Rattle.psr.specs.declared.Mode.TheVariants.{System}
use Rattle.psr.specs.Status.{conditions, passed_of}
use Rattle.alu.specs.Sums.{sub_of}
use Rattle.shifter.specs.Shifts.{immediate_of}
use Rattle.memory.specs.Bytes.{word_at}
use Rattle.decode.specs.Families.{immediate_space_of, conditional_of, family_of}
use Rattle.cpu.specs.declared.Machine.{Machine}
use Rattle.cpu.specs.declared.Answer.TheVariants.{Undefined, Thumb, Fetch, Timeout}
use Rattle.cpu.specs.Answers.{no_status, bad_of, is_done, is_call}
use Rattle.cpu.specs.Outcomes.{landed_of}
use Rattle.cpu.specs.With.{with_regs}
use Rattle.dataproc.specs.Dataproc.{read_of, operand_of, result_of, placed_of, dataproc_of}
use Rattle.misc.specs.Stops.{swi_of}
use Rattle.arm.specs.Turn.{effect_of, turn_of}
use Rattle.engine.specs.declared.Stepped.{Stepped}
use Rattle.engine.specs.declared.Finished.{Finished}
use Rattle.engine.specs.Step.{stepped, going, settled_of, next_of, executed_of, fetches, taken_of, gated_of, step_of}
use Rattle.engine.specs.Run.{finished, ended_of, go_of, run_of}
use Rattle.engine.specs.Promises.{Steps, Runs}
use Rattle.claims.specs.Demand1.{number_of}

-- ---- cores and runs

abbrev pub Core : Type 0
Core = Machine → List ℕ → Stepped × List ℕ

abbrev pub KeepsStep : Core → Type 0
KeepsStep core = (m : Machine) (l : List ℕ) → Steps m l (core m l)

-- what a core does with the opcode that it has fetched
abbrev pub Doing : Type 0
Doing = Machine → ℕ → List ℕ → Stepped × List ℕ

-- a core that is right in answers 9, 8, 5 and 6, and then does with the opcode as it likes
unfoldable pub core_of : Doing → Core
core_of does m l =
    gated_of m l
    (when m.cpsr.t then (stepped m Thumb, l)
    else when fetches l (next_of m) then does m (word_at l (next_of m)) l
    else (stepped m (Fetch (next_of m)), l))

abbrev pub Runner : Type 0
Runner = Machine → List ℕ → ℕ → Finished × List ℕ

abbrev pub KeepsRun : Runner → Type 0
KeepsRun run = (m : Machine) (l : List ℕ) (budget : ℕ) → Runs m l budget (run m l budget)

-- a run whose steps are those of a core, which may be another one after k steps
unfoldable pub go_by : (ℕ → Core) → ℕ → ℕ → Machine → List ℕ → Finished × List ℕ
go_by cores zero k m l = ended_of k (gated_of m l (stepped m Timeout, l))
go_by cores (suc n) k m l =
    when is_done (cores k m l).0.answer then go_by cores n (k + 1) (cores k m l).0.machine (cores k m l).1
    else ended_of (k + bit_of (is_call (cores k m l).0.answer)) (cores k m l)

abbrev pub run_by : (ℕ → Core) → Runner
run_by cores m l budget = go_by cores budget 0 m l

-- the right ones keep the promises
pub right_core : KeepsStep (core_of executed_of)
unfolding core_of step_of taken_of
right_core m l = refl

going_right : (n k : ℕ) (m : Machine) (l : List ℕ) → go_by (λ _. step_of) n k m l ≡ go_of n k m l
unfolding go_by go_of
going_right zero k m l = refl
going_right (suc n) k m l =
    ap (λ (x : Finished × List ℕ). when is_done (step_of m l).0.answer then x else ended_of (k + bit_of (is_call (step_of m l).0.answer)) (step_of m l))
    (going_right n (k + 1) (step_of m l).0.machine (step_of m l).1)

pub right_run : KeepsRun (run_by (λ _. step_of))
right_run m l budget = going_right budget 0 m l

-- ---- the witness: runimage's machine and the image of document 01, section 8

-- System mode, at an address, all else zero
abbrev start_at : ℕ → Machine
start_at a =
    record {
      regs = 0 ∷ 0 ∷ 0 ∷ 0 ∷ 0 ∷ 0 ∷ 0 ∷ 0 ∷ 0 ∷ 0 ∷ 0 ∷ 0 ∷ 0 ∷ 0 ∷ 0 ∷ a ∷ [];
      cpsr = record { n = false; z = false; c = false; v = false; q = false; ge = 0; e = false; a = false; i = false; f = false; t = false; mode = System };
      spsr = no_status;
      banked = 0 ∷ 0 ∷ 0 ∷ 0 ∷ 0 ∷ 0 ∷ 0 ∷ 0 ∷ 0 ∷ 0 ∷ 0 ∷ 0 ∷ [];
      saved = no_status ∷ no_status ∷ no_status ∷ no_status ∷ no_status ∷ [];
      fiq = 0 ∷ 0 ∷ 0 ∷ 0 ∷ 0 ∷ [];
      user = 0 ∷ 0 ∷ 0 ∷ 0 ∷ 0 ∷ [];
      tag = None;
    }

-- 0: MOV r0, #5; 4: SUBS r0, r0, #5; 8: SWI 7
abbrev image : List ℕ
image = 0x05 ∷ 0x00 ∷ 0xA0 ∷ 0xE3 ∷ 0x05 ∷ 0x00 ∷ 0x50 ∷ 0xE2 ∷ 0x07 ∷ 0x00 ∷ 0x00 ∷ 0xEF ∷ []

abbrev r0_of : Machine → ℕ
r0_of m = get_or m.regs 0 0

-- MOV answers 0 and writes r0; SWI answers 1
moves : (number_of (step_of (start_at 0) image).0.answer ≡ 0) × (r0_of (step_of (start_at 0) image).0.machine ≡ 5)
unfolding step_of gated_of taken_of fetches word_at bad_of executed_of turn_of passed_of conditions family_of conditional_of immediate_space_of effect_of dataproc_of operand_of immediate_of read_of result_of placed_of landed_of settled_of when◌then◌else◌
moves = (refl, refl)

calls : number_of (step_of (start_at 8) image).0.answer ≡ 1
unfolding step_of gated_of taken_of fetches word_at bad_of executed_of turn_of passed_of conditions family_of conditional_of effect_of swi_of settled_of when◌then◌else◌
calls = refl

-- at both places the core comes to its opcode
reaches : (does : Doing) → (core_of does (start_at 0) image ≡ does (start_at 0) 0xE3A0_0005 image) × (core_of does (start_at 8) image ≡ does (start_at 8) 0xEF00_0007 image)
unfolding core_of gated_of fetches word_at bad_of when◌then◌else◌
reaches does = (refl, refl)

-- ---- the wrong ones

-- a core that always gives the same answer
pub same_answer : (does : Doing) (n : ℕ) → ((m : Machine) (op : ℕ) (l : List ℕ) → number_of (does m op l).0.answer ≡ n) → ¬ KeepsStep (core_of does)
same_answer does n same keeps =
    let number : Stepped × List ℕ → ℕ = λ x. number_of x.0.answer in
    let zero_is : n ≡ 0 = sym (same (start_at 0) 0xE3A0_0005 image) ∙ ap number (sym (reaches does).0 ∙ keeps (start_at 0) image) ∙ moves.0 in
    let one_is : n ≡ 1 = sym (same (start_at 8) 0xEF00_0007 image) ∙ ap number (sym (reaches does).1 ∙ keeps (start_at 8) image) ∙ calls in
    omega arith

-- a core that answers Undefined to everything
pub undefined_to_everything : ¬ KeepsStep (core_of (λ m op l. (stepped m (Undefined (next_of m) op), l)))
undefined_to_everything = same_answer _ 2 (λ m op l. refl)

-- a core that only advances r15
abbrev pub advance : Doing
advance m op l = (going (with_regs m (set m.regs 15 ((next_of m + 4) % 2 ^ 32))), l)

pub only_advances : ¬ KeepsStep (core_of advance)
only_advances keeps =
    let e : ◌≡◌ {A = ℕ} 0 5 = ap (λ (x : Stepped × List ℕ). r0_of x.0.machine) (sym (reaches advance).0 ∙ keeps (start_at 0) image) ∙ moves.1 in
    omega arith

-- a run that executes its first opcode and only advances over the others
abbrev pub first_only : ℕ → Core
first_only zero = step_of
first_only (suc k) = core_of advance

-- the image runs to its SWI in three steps; this run has only used up its budget then
runs : number_of (run_of 3 (start_at 0) image).0.answer ≡ 1
unfolding go_of step_of gated_of taken_of fetches word_at bad_of executed_of turn_of passed_of conditions family_of conditional_of immediate_space_of effect_of dataproc_of operand_of immediate_of read_of result_of sub_of placed_of landed_of swi_of settled_of when◌then◌else◌
runs = refl

runs_out : number_of (run_by first_only (start_at 0) image 3).0.answer ≡ 10
unfolding go_by core_of step_of gated_of taken_of fetches word_at bad_of executed_of turn_of passed_of conditions family_of conditional_of immediate_space_of effect_of dataproc_of operand_of immediate_of read_of result_of placed_of landed_of settled_of when◌then◌else◌
runs_out = refl

pub first_only_lem : ¬ KeepsRun (run_by first_only)
first_only_lem keeps =
    let e : ◌≡◌ {A = ℕ} 10 1 = sym runs_out ∙ ap (λ (x : Finished × List ℕ). number_of x.0.answer) (keeps (start_at 0) image 3) ∙ runs in
    omega arith

-- an invented count: with everything else right, no other count keeps the promise on any input
pub invented_count : (m : Machine) (l : List ℕ) (budget : ℕ) (x : Finished × List ℕ) → Runs m l budget x
    → (c : ℕ) → c ≢ x.0.count → ¬ Runs m l budget (finished x.0.machine x.0.answer c, x.1)
invented_count m l budget x p c other q = other (ap (λ (y : Finished × List ℕ). y.0.count) (q ∙ sym p))
