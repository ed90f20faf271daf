-- A finished store changes only bytes of its plan, and a load none.
use Rattle.std.specs.Prelude.{◌≡◌, Bool, true, List, ℕ, get_or}
use Rattle.std.proofs.Math.Path.{refl}
use Rattle.std.proofs.Common.{◌∙◌, arith}
use Rattle.std.proofs.Math.Logic.{inl, inr, ⊎_elim}
use Rattle.bits.specs.Cases.{when◌then◌else◌, if_yes, if_both}
use Rattle.bits.specs.Fields.{◌⟨◌⟩}
use Rattle.memory.specs.declared.Width.TheVariants.{Half}
use Rattle.memory.specs.Bytes.{bytes_of, put_word}
use Rattle.memory.specs.Laws.Bytes.{Clear, byte_untouched, byte_word}
use Rattle.cpu.specs.declared.Outcome.{Outcome}
use Rattle.transfer.specs.Transfers.{byte_or_word_of, moved_of, address_of}
use Rattle.transfer.specs.Laws.Guards.{Untouched, guarded_both, guarded_untouched}
use Rattle.loadstore.specs.Single.{offset_of, rd_of, single_at, single_of}
use Rattle.loadstore.specs.Extra.{next_of, extra_offset_of, extra_load_of, extra_loads_of, strh_of, ldrd_of, strd_of, extra_at, extra_of}

-- the address of the first access
abbrev pub single_address_of : List ℕ → ℕ → Bool → ℕ
single_address_of regs op c = address_of regs op (moved_of regs op (offset_of regs op c))

abbrev pub extra_address_of : List ℕ → ℕ → ℕ
extra_address_of regs op = address_of regs op (moved_of regs op (extra_offset_of regs op))

-- memory is what it was
abbrev Kept : List ℕ → Outcome × List ℕ × List ℕ → Type 0
Kept l x = x.2 ≡ l

module _ (regs : List ℕ) (op : ℕ) (l : List ℕ) (moved address : ℕ) where
  same_single : (b : ℕ) → Clear address (bytes_of (byte_or_word_of op)) b → Untouched l b (single_at regs op l moved address)
  unfolding single_at
  same_single b h =
      guarded_untouched _ regs l b _
      (if_both (Untouched l b) _ refl (byte_untouched l address (byte_or_word_of op) _ b h))

  kept_single : op ⟨ 20 ⟩ ≡ true → (single_at regs op l moved address).2 ≡ l
  unfolding single_at when◌then◌else◌
  kept_single e = guarded_both (Kept l) _ regs l (λ a. refl) (rw e)

  load_untouched : (width value : ℕ) → (extra_load_of regs op l moved address width value).2 ≡ l
  load_untouched width value = guarded_both (Kept l) _ regs l (λ a. refl) refl

  pub ldrd_untouched : (ldrd_of regs op l moved address).2 ≡ l
  ldrd_untouched = guarded_both (Kept l) _ regs l (λ a. refl) refl

  pub strh_untouched : (b : ℕ) → Clear address 2 b → get_or (strh_of regs op l moved address).2 b 0 ≡ get_or l b 0
  strh_untouched b h =
      guarded_untouched _ regs l b _ (byte_untouched l address Half _ b h)

  pub strd_untouched : (b : ℕ) → Clear address 4 b → Clear (next_of address) 4 b → get_or (strd_of regs op l moved address).2 b 0 ≡ get_or l b 0
  strd_untouched b h k =
      guarded_untouched _ regs l b _
      (byte_word (put_word l address (get_or regs (rd_of op) 0)) (next_of address) _ b k ∙ byte_word l address _ b h)

  pub loads_untouched : (extra_loads_of regs op l moved address).2 ≡ l
  unfolding extra_loads_of
  loads_untouched = if_both (Kept l) _ (load_untouched 2 _) (if_both (Kept l) _ (load_untouched 1 _) (load_untouched 2 _))

  same_extra : (b : ℕ) → Clear address 4 b → Clear (next_of address) 4 b → Untouched l b (extra_at regs op l moved address)
  unfolding extra_at
  same_extra b h k =
      let n : Clear address 2 b = ⊎_elim (λ x. inl x) (λ x. inr (omega arith)) h in
      if_both (Untouched l b) _ refl
      (if_both (Untouched l b) _ (rw loads_untouched)
      (if_both (Untouched l b) _ (strh_untouched b n) (if_both (Untouched l b) _ refl (if_both (Untouched l b) _ (rw ldrd_untouched) (strd_untouched b h k)))))

  kept_extra : op ⟨ 20 ⟩ ≡ true → (extra_at regs op l moved address).2 ≡ l
  unfolding extra_at
  kept_extra e =
      if_both (Kept l) _ refl (rw (if_yes _ _ _ e) loads_untouched)

pub single_untouched : (regs : List ℕ) (op : ℕ) (c : Bool) (l : List ℕ) (b : ℕ) → Clear (single_address_of regs op c) (bytes_of (byte_or_word_of op)) b
    → get_or (single_of regs op c l).2 b 0 ≡ get_or l b 0
unfolding single_of
single_untouched regs op c l = same_single regs op l _ _

pub single_load_untouched : (regs : List ℕ) (op : ℕ) (c : Bool) (l : List ℕ) → op ⟨ 20 ⟩ ≡ true → (single_of regs op c l).2 ≡ l
unfolding single_of
single_load_untouched regs op c l = kept_single regs op l _ _

pub extra_untouched : (regs : List ℕ) (op : ℕ) (l : List ℕ) (b : ℕ) → Clear (extra_address_of regs op) 4 b → Clear (next_of (extra_address_of regs op)) 4 b
    → get_or (extra_of regs op l).2 b 0 ≡ get_or l b 0
unfolding extra_of
extra_untouched regs op l = same_extra regs op l _ _

pub extra_load_untouched : (regs : List ℕ) (op : ℕ) (l : List ℕ) → op ⟨ 20 ⟩ ≡ true → (extra_of regs op l).2 ≡ l
unfolding extra_of
extra_load_untouched regs op l = kept_extra regs op l _ _
