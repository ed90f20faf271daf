-- Row P13 of document 01, section 8, as a chain that the machine takes: what demand 3 asks of a chain can be met.
use Rattle.std.specs.Prelude.{◌≡◌, refl, Bool, true, false, ◌&&◌, List, [], ◌∷◌, ℕ, zero, suc, ◌^◌, replicate, None}
use Rattle.std.proofs.lemmas.Bool.{false≢true}
use Rattle.std.proofs.Common.{ltb-true, lit<}
use Rattle.bits.specs.Cases.{when◌then◌else◌, ◌<?◌}
use Rattle.bits.specs.Integers.{signed, outside}
use Rattle.psr.specs.Status.{conditions, passed_of}
use Rattle.psr.specs.With.{with_nzcv}
use Rattle.alu.specs.Numbers.{Pair}
use Rattle.alu.specs.Sums.{sub_of, sbc_of}
use Rattle.shifter.specs.Shifts.{type_of, by_immediate_of, immediate_of}
use Rattle.memory.specs.Bytes.{word_at}
use Rattle.decode.specs.Families.{register_space_of, immediate_space_of, conditional_of, family_of}
use Rattle.cpu.specs.declared.Answer.TheVariants.{Done}
use Rattle.cpu.specs.Answers.{bad_of, no_status}
use Rattle.dataproc.specs.Dataproc.{read_of, operand_of, result_of, placed_of, dataproc_of}
use Rattle.arm.specs.Turn.{effect_of, turn_of}
use Rattle.state.specs.Valid.{Fits}
use Rattle.engine.specs.Step.{settled_of, executed_of, fetches, taken_of, gated_of, step_of}
use Rattle.claims.specs.Demand3.{State, fetched, none, more, SUB, SBC, Chain, ends, goes}

-- SUBS r0, r2, r4; MOVS r6, #1; SBCS r1, r3, r5
abbrev program : List ℕ
program =
    0x04 ∷ 0x00 ∷ 0x52 ∷ 0xE0
    ∷ 0x01 ∷ 0x60 ∷ 0xB0 ∷ 0xE3
    ∷ 0x05 ∷ 0x10 ∷ 0xD3 ∷ 0xE0
    ∷ []

-- r0, r1, r6 and r15; the numbers stand in r2 and r3, r4 and r5
abbrev registers : ℕ → ℕ → ℕ → ℕ → List ℕ
registers r0 r1 r6 r15 = r0 ∷ r1 ∷ 0 ∷ 1 ∷ 1 ∷ 0 ∷ r6 ∷ 0 ∷ 0 ∷ 0 ∷ 0 ∷ 0 ∷ 0 ∷ 0 ∷ 0 ∷ r15 ∷ []

abbrev state : List ℕ → Bool → Bool → Bool → State
state regs n z c =
    record {
      machine =
          record {
            regs = regs;
            cpsr = with_nzcv no_status n z c false;
            spsr = no_status;
            banked = replicate 12 0;
            saved = replicate 5 no_status;
            fiq = replicate 5 0;
            user = replicate 5 0;
            tag = None;
          };
      bytes = program;
    }

abbrev pair : ℕ → ℕ → Pair
pair a b = record { first = a; second = b }

abbrev before : State
before = state (registers 0 0 0 0) false false false

abbrev linked : State
linked = state (registers 0xFFFF_FFFF 0 0 4) true false false

abbrev moved : State
moved = state (registers 0xFFFF_FFFF 0 1 8) false false false

abbrev after : State
after = state (registers 0xFFFF_FFFF 0 1 12) false true true

-- numbers that are words, by a test
abbrev words : List ℕ → Bool
words [] = true
words (x ∷ xs) = (x <? 2 ^ 32) && words xs

both : (a b : Bool) → (a && b) ≡ true → (a ≡ true) × (b ≡ true)
both true b e = (refl, e)
both false b e = absurd (false≢true e)

fit : (l : List ℕ) → words l ≡ true → Fits l
fit [] e i = lit< tt
fit (x ∷ xs) e zero = ltb-true x (2 ^ 32) (both (x <? 2 ^ 32) (words xs) e).0
fit (x ∷ xs) e (suc i) = fit xs (both (x <? 2 ^ 32) (words xs) e).1 i

-- N, Z and C of each state follow, and MOVS leaves C alone
pub p13 : Chain SBC SUB before (pair 0 1) (pair 1 0 ∷ []) (0xFFFF_FFFF ∷ 0 ∷ []) after
unfolding when◌then◌else◌ signed outside conditions passed_of sub_of sbc_of type_of by_immediate_of immediate_of word_at register_space_of immediate_space_of conditional_of family_of bad_of read_of operand_of result_of placed_of dataproc_of effect_of turn_of settled_of executed_of fetches taken_of gated_of step_of
p13 =
    goes
    (record {
      op = 0xE052_0004;
      encoding = record { condition = lit< tt; class = refl; operation = refl; sets = refl; destination = lit< tt; form = refl };
      passed = refl;
      took = fetched refl refl;
      registers = record { size = refl; fits = fit before.machine.regs refl };
      read = refl;
      wrote = refl;
    })
    (more {t = moved} {op = 0xE3B0_6001} {answer = Done} (fetched refl refl) none)
    refl
    (ends
    (record {
      op = 0xE0D3_1005;
      encoding = record { condition = lit< tt; class = refl; operation = refl; sets = refl; destination = lit< tt; form = refl };
      passed = refl;
      took = fetched refl refl;
      registers = record { size = refl; fits = fit moved.machine.regs refl };
      read = refl;
      wrote = refl;
    }))
