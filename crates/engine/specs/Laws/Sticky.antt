-- Q is cleared by nothing but MSR and a restored status.
use Rattle.std.specs.Prelude.{◌≡◌, refl, Bool, true, false, Option, Some, None, Result, not, ◌&&◌, List, [], ◌∷◌, ℕ, get_or, drop, ◌==◌}
use Rattle.std.proofs.Common.{sym}
use Rattle.std.proofs.lemmas.Bool.{false≢true}
use Rattle.bits.specs.Cases.{when◌then◌else◌, if_both}
use Rattle.bits.specs.Fields.{◌⟨◌⟩, ◌⟨◌‥◌⟩}
use Rattle.psr.specs.declared.Status.{Status}
use Rattle.psr.specs.declared.Mode.{Mode}
use Rattle.cpu.specs.declared.Machine.{Machine}
use Rattle.cpu.specs.declared.Answer.{Answer}
use Rattle.cpu.specs.declared.Outcome.TheVariants as outcome
use Rattle.cpu.specs.declared.Outcome.{Outcome}
use Rattle.banks.specs.Banks.{entered_of, switched_of, branched_to, exchanged_to, with_user_reg}
use Rattle.moves.specs.Moves.{mrs_of, msr_of, cps_status_of, cps_of, moves_of}
use Rattle.block.specs.declared.Plan.{Plan}
use Rattle.block.specs.Block.{put_each}
use Rattle.block.specs.UserBlock.{user_store_of, user_load_of, return_load_of, user_moved_of, user_guarded_of, user_block_of}
use Rattle.engine.specs.Step.{settled_of, blocked_of}

-- MSR, and not MRS (bit 21) or CPS (condition 15)
abbrev pub is_msr : ℕ → Bool
is_msr op = not (op ⟨ 31 ‥ 28 ⟩ == 15) && op ⟨ 21 ⟩

-- LDM (3): with S, a load whose list has r15
abbrev pub is_return_load : ℕ → Bool
is_return_load op = op ⟨ 20 ⟩ && op ⟨ 15 ⟩

-- what may clear Q: S into r15, MSR, LDM (3)
abbrev pub may_clear : Outcome → ℕ → Bool
may_clear outcome.Nothing op = false
may_clear (outcome.Flags n z c v) op = false
may_clear outcome.Sticky op = false
may_clear (outcome.Lanes ge) op = false
may_clear (outcome.Exchange t) op = false
may_clear (outcome.Tagged a) op = false
may_clear outcome.Untagged op = false
may_clear (outcome.Return to) op = true
may_clear outcome.Moves op = is_msr op
may_clear outcome.Block op = is_return_load op
may_clear (outcome.Call number) op = false
may_clear (outcome.Stop answer) op = false

abbrev Set : Machine → Type 0
Set m = m.cpsr.q ≡ true

by_moves : (a b : Bool) (x y z : Machine) → (not a && b) ≡ false → Set x → Set z → Set (when a then x else when b then y else z)
unfolding when◌then◌else◌
by_moves true b x y z e p r = p
by_moves false true x y z e p r = absurd (false≢true (sym e))
by_moves false false x y z e p r = r

switched_set : (m : Machine) (new : Mode) → Set m → Set (switched_of m new)
unfolding switched_of entered_of
switched_set m new q = if_both Set _ q q

cps_set : (m : Machine) (op : ℕ) → Set m → Set (cps_of m op)
unfolding cps_of cps_status_of
cps_set m op q =
    let s = if_both (λ (x : Status). x.q ≡ true) _ q q in
    if_both Set _ (if_both Set _ (switched_set _ _ s) s) q

moves_set : (m : Machine) (op : ℕ) → is_msr op ≡ false → Set m → Set (moves_of m op)
unfolding moves_of mrs_of
moves_set m op e q = by_moves (op ⟨ 31 ‥ 28 ⟩ == 15) (op ⟨ 21 ⟩) (cps_of m op) (msr_of m op) _ e (cps_set m op q) q

user_reg_set : (m : Machine) (r value : ℕ) → Set m → Set (with_user_reg m r value)
unfolding with_user_reg exchanged_to branched_to
user_reg_set m r value q = if_both Set _ q (if_both Set _ (if_both Set _ q q) (if_both Set _ (if_both Set _ q q) q))

each_set : (rs words : List ℕ) (m : Machine) → Set m → Set (put_each (λ x r v. with_user_reg x r v) m rs words)
unfolding put_each
each_set [] words m q = q
each_set (r ∷ rs) words m q = each_set rs (drop 1 words) (with_user_reg m r (get_or words 0 0)) (user_reg_set m r (get_or words 0 0) q)

by_load : (a b : Bool) (x y z : Machine × List ℕ) → (a && b) ≡ false → Set y.0 → Set z.0 → Set (when a then (when b then x else y) else z).0
unfolding when◌then◌else◌
by_load true true x y z e p r = absurd (false≢true (sym e))
by_load true false x y z e p r = p
by_load false b x y z e p r = r

user_moved_set : (p : Plan) (m : Machine) (op : ℕ) (l : List ℕ) → is_return_load op ≡ false → Set m → Set (user_moved_of p m op l).0
unfolding user_moved_of user_load_of user_store_of
user_moved_set p m op l e q =
    by_load (op ⟨ 20 ⟩) (op ⟨ 15 ⟩) (return_load_of p m op l, l) _ _ e (if_both Set _ (each_set _ _ _ q) (each_set _ _ _ q)) q

guarded_set : (f : Option ℕ) (m : Machine) (at : ℕ) (l : List ℕ) (done : Machine × List ℕ) → Set m → Set done.0
    → (let x : Result Machine Answer × List ℕ = user_guarded_of f l done in Set (blocked_of m at x.0 x.1).0.machine)
unfolding blocked_of user_guarded_of
guarded_set None m at l done q p = p
guarded_set (Some address) m at l done q p = q

user_set : (at : ℕ) (m : Machine) (op : ℕ) (l : List ℕ) → is_return_load op ≡ false → Set m
    → Set (blocked_of m at (user_block_of m op l).0 (user_block_of m op l).1).0.machine
unfolding user_block_of
user_set at m op l e q = guarded_set _ m at l _ q (user_moved_set _ m op l e q)

-- a Q that is set stays set
pub q_kept : (o : Outcome) (m : Machine) (at op : ℕ) (l : List ℕ) → may_clear o op ≡ false → Set m → Set (settled_of o m at op l).0.machine
unfolding settled_of
q_kept outcome.Nothing m at op l e q = q
q_kept (outcome.Flags n z c v) m at op l e q = q
q_kept outcome.Sticky m at op l e q = refl
q_kept (outcome.Lanes ge) m at op l e q = q
q_kept (outcome.Exchange t) m at op l e q = q
q_kept (outcome.Tagged a) m at op l e q = q
q_kept outcome.Untagged m at op l e q = q
q_kept (outcome.Return to) m at op l e q = absurd (false≢true (sym e))
q_kept outcome.Moves m at op l e q = moves_set m op e q
q_kept outcome.Block m at op l e q = user_set at m op l e q
q_kept (outcome.Call number) m at op l e q = q
q_kept (outcome.Stop answer) m at op l e q = q
