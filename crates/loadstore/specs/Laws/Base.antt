-- Write-back never undoes a load.
use Rattle.std.specs.Prelude.{◌≡◌, refl, List, ℕ, ◌<◌, length, get_or, set}
use Rattle.std.proofs.Common.{length-set, get_or-set_same, get_or-set_other, ne_eqb}
use Rattle.bits.specs.Cases.{when◌then◌else◌, if_both}
use Rattle.transfer.specs.Transfers.{based_of}
use Rattle.loadstore.specs.Single.{rd_of, taken_of, load_of}

length_based : (regs : List ℕ) (op moved : ℕ) → length (based_of regs op moved) ≡ length regs
unfolding based_of
length_based regs op moved = if_both (λ (g : List ℕ). length g ≡ length regs) _ (length-set regs _ moved) refl

-- a load whose destination is its base keeps the loaded value, and so does any other register but r15
pub load_keeps : (regs : List ℕ) (op moved value : ℕ) → rd_of op < length regs → (rd_of op ≡ 15 → ⊥)
    → get_or (load_of regs op moved value).1 (rd_of op) 0 ≡ value
unfolding taken_of when◌then◌else◌
load_keeps regs op moved value h n =
    let k : rd_of op < length (based_of regs op moved) = rw (length_based regs op moved) h in
    rw (ne_eqb (rd_of op) 15 n, get_or-set_other (set (based_of regs op moved) (rd_of op) value) 15 (rd_of op) _ 0 n)
    (get_or-set_same (based_of regs op moved) (rd_of op) value 0 k)
