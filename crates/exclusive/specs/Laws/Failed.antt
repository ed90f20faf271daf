-- A store exclusive that fails makes no access and keeps the tag.
use Rattle.std.specs.Prelude.{◌≡◌, refl, false, Option, List, ◌⊎◌, ℕ}
use Rattle.std.proofs.Common.{inl, inr, ⊎_elim, arith}
use Rattle.bits.specs.Cases.{if_no, if_both}
use Rattle.bits.specs.Fields.{◌⟨◌⟩}
use Rattle.cpu.specs.declared.Answer.TheVariants.{Bus}
use Rattle.cpu.specs.declared.Answer.{Answer}
use Rattle.cpu.specs.declared.Outcome.{Outcome}
use Rattle.cpu.specs.declared.Outcome.TheVariants.{Nothing, Untagged, Stop}
use Rattle.cpu.specs.Outcomes.{undefined_of, landed_of}
use Rattle.transfer.specs.Transfers.{beside}
use Rattle.exclusive.specs.Exclusive.{succeeds, failed_of, strex_of, strexd_of, exclusive_of}

landed_nothing : (regs : List ℕ) (rd value : ℕ) → (landed_of regs rd value).0 ≡ Nothing
unfolding landed_of
landed_nothing regs rd value = if_both (λ (x : Outcome × List ℕ). x.0 ≡ Nothing) _ refl refl

-- a store that fails: no byte changes, the tag stays (D5), and no access is reported
pub record Failed (l : List ℕ) (x : Outcome × List ℕ × List ℕ) : Type 0 where
  pub bytes : x.2 ≡ l
  pub tag : (x.0 ≡ Nothing) ⊎ ((a : Answer) × (x.0 ≡ Stop a))
  pub access : (address : ℕ) → x.0 ≡ Stop (Bus address) → ⊥

pub failed_not_untagged : {l : List ℕ} {x : Outcome × List ℕ × List ℕ} → Failed l x → x.0 ≡ Untagged → ⊥
failed_not_untagged f e =
    ⊎_elim (λ k. let z : ◌≡◌ {A = ℕ} 0 1 = cc in omega arith) (λ k. let p = k.1 in let z : ◌≡◌ {A = ℕ} 0 1 = cc in omega arith) f.tag

module _ (regs : List ℕ) (op : ℕ) (l : List ℕ) where
  failed_undefined : Failed l (beside (undefined_of regs op) l)
  failed_undefined =
      record { bytes = refl; tag = inr (_, refl); access = λ address e. let z : ◌≡◌ {A = ℕ} 0 1 = cc in omega arith }

  failed_is : Failed l (beside (failed_of regs op) l)
  failed_is =
      record {
        bytes = refl;
        tag = inl (rw landed_nothing);
        access = λ address e. let k = rw landed_nothing at e in let z : ◌≡◌ {A = ℕ} 0 1 = cc in omega arith;
      }

  module _ (tag : Option ℕ) (fails : succeeds regs op tag ≡ false) where
    failed_one : Failed l (strex_of regs op tag l)
    unfolding strex_of
    failed_one = rw (if_no _ _ _ fails) failed_is

    failed_pair : Failed l (strexd_of regs op tag l)
    unfolding strexd_of
    failed_pair = rw (if_no (succeeds regs op tag) _ _ fails) (if_both (Failed l) _ failed_undefined failed_is)

    pub failed_store : op ⟨ 20 ⟩ ≡ false → Failed l (exclusive_of regs op tag l)
    unfolding exclusive_of
    failed_store store = rw (if_no _ _ _ store) (if_both (Failed l) _ failed_pair failed_one)
