-- What every family keeps, so that the engine's claims follow once for all.
use Rattle.std.specs.Prelude.{◌≡◌, refl, Bool, true, false, List, ℕ, ◌≤◌}
use Rattle.std.proofs.Common.{sym, ap, ◌∙◌, arith, lit≤}
use Rattle.std.proofs.lemmas.Bool.{false≢true}
use Rattle.bits.specs.Cases.{if_both}
use Rattle.cpu.specs.declared.Answer.{Answer}
use Rattle.cpu.specs.declared.Outcome.{Outcome}
use Rattle.cpu.specs.declared.Outcome.TheVariants.{Nothing, Flags, Sticky, Lanes, Exchange, Tagged, Untagged, Return, Moves, Block, Call, Stop}
use Rattle.cpu.specs.Answers.{refuses}
use Rattle.cpu.specs.Outcomes.{sticky}

-- a refusal, and a block transfer with S, which waits for the whole machine
abbrev pub keeps : Outcome → Bool
keeps Nothing = false
keeps (Flags n z c v) = false
keeps Sticky = false
keeps (Lanes ge) = false
keeps (Exchange t) = false
keeps (Tagged at) = false
keeps Untagged = false
keeps (Return at) = false
keeps Moves = false
keeps Block = true
keeps (Call number) = false
keeps (Stop answer) = true

-- such an outcome has the registers and bytes as they came, a refusal says why, and a GE for the machine is of four bits
pub record Sound (regs l : List ℕ) (x : Outcome × List ℕ × List ℕ) : Type 0 where
  pub registers : keeps x.0 ≡ true → x.1 ≡ regs
  pub bytes : keeps x.0 ≡ true → x.2 ≡ l
  pub refusal : (answer : Answer) → x.0 ≡ Stop answer → refuses answer ≡ true
  pub ge_fits : (ge : ℕ) → x.0 ≡ Lanes ge → ge ≤ 15

never : {A : Type 0} {b : Bool} → b ≡ false → b ≡ true → A
never f t = absurd (false≢true (sym f ∙ t))

-- an outcome that goes on
pub sound_on : {regs l : List ℕ} {x : Outcome × List ℕ × List ℕ} → keeps x.0 ≡ false → ((ge : ℕ) → x.0 ≡ Lanes ge → ge ≤ 15) → Sound regs l x
sound_on f h =
    record {
      registers = λ e. never f e;
      bytes = λ e. never f e;
      refusal = λ a e. never f (ap keeps e);
      ge_fits = h;
    }

-- the GE that is left to set; 0 where none is
abbrev pub ge_in : Outcome → ℕ
ge_in Nothing = 0
ge_in (Flags n z c v) = 0
ge_in Sticky = 0
ge_in (Lanes ge) = ge
ge_in (Exchange t) = 0
ge_in (Tagged at) = 0
ge_in Untagged = 0
ge_in (Return at) = 0
ge_in Moves = 0
ge_in Block = 0
ge_in (Call number) = 0
ge_in (Stop answer) = 0

pub sound_going : {regs l : List ℕ} {o : Outcome} {regs' l' : List ℕ} → keeps o ≡ false → ge_in o ≤ 15 → Sound regs l (o, regs', l')
sound_going f h = sound_on f (λ ge e. rw (← ap ge_in e) h)

-- an outcome that stops with everything as it came
pub sound_stop : {regs l : List ℕ} (a : Answer) → refuses a ≡ true → Sound regs l (Stop a, regs, l)
sound_stop a e = record { registers = λ _. refl; bytes = λ _. refl; refusal = λ b p. cc; ge_fits = λ g p. let z : ◌≡◌ {A = ℕ} 0 1 = cc in omega arith }

-- a block transfer that waits for the whole machine
pub sound_wait : {regs l : List ℕ} → Sound regs l (Block, regs, l)
sound_wait = record { registers = λ _. refl; bytes = λ _. refl; refusal = λ b p. let z : ◌≡◌ {A = ℕ} 0 1 = cc in absurd (omega arith); ge_fits = λ g p. let z : ◌≡◌ {A = ℕ} 0 1 = cc in omega arith }

pub sound_sticky : {regs l : List ℕ} (on : Bool) {regs' l' : List ℕ} → Sound regs l (sticky on, regs', l')
unfolding sticky
sound_sticky {regs} {l} on {regs'} {l'} =
    if_both (λ (o : Outcome). Sound regs l (o, regs', l')) on (sound_going refl (lit≤ tt)) (sound_going refl (lit≤ tt))
