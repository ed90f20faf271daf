-- The registers as STM stores them, as one array.
use Rattle.std.specs.Prelude.{◌≡◌, Bool, ◌&&◌, get_or, ◌==◌}
use Rattle.std.proofs.Math.Path.{refl, sym}
use Rattle.std.proofs.Common.{ap, ◌∙◌, arith, get_or-set_same, eqb-true}
use Rattle.std.proofs.Math.Bool.{true, false, and-false}
use mathlib.Core.List.{List}
use Prim.Native.Nat.{ℕ, ◌+◌, ◌%◌, ◌^◌, ◌<◌}
use Rattle.std.proofs.Math.ListN.{length, set, length-set}
use Rattle.std.proofs.Math.Seq.{get_or-set_other}
use Rattle.std.proofs.lemmas.Bool.{eqb-false}
use Rattle.bits.specs.Cases.{when◌then◌else◌, if_yes, if_no, if_both}
use Rattle.bits.specs.Fields.{◌⟨◌⟩, ◌⟨◌‥◌⟩}
use Rattle.block.specs.declared.Plan.{Plan}
use Rattle.memory.specs.Plans.{stored_of}
use Rattle.block.specs.Block.{count_of, stores_moved, source_of, stored_list_of}
use Rattle.block.specs.Laws.Lists.{same_registers}

unfoldable pub sources_of : Plan → List ℕ → ℕ → List ℕ
sources_of p regs op =
    set (when stores_moved p op then set regs (op ⟨ 19 ‥ 16 ⟩) p.moved else regs) 15 ((get_or regs 15 0 + 4) % 2 ^ 32)

-- memory with the listed registers' own values
abbrev pub stored_by : Plan → List ℕ → List ℕ → List ℕ
stored_by p values l = stored_list_of p (λ r. get_or values r 0) l

-- the first n of the values are those of the registers
abbrev pub Values : List ℕ → (ℕ → ℕ) → ℕ → Type 0
Values values source n = (r : ℕ) → r < n → get_or values r 0 ≡ source r

pub stored_values : (p : Plan) (source : ℕ → ℕ) (values l : List ℕ) → Values values source 16 → stored_by p values l ≡ stored_list_of p source l
stored_values p source values l h =
    ap (stored_of l p.start (count_of p.list)) (same_registers (λ r. get_or values r 0) source p.list h)

module _ (p : Plan) (regs : List ℕ) (op : ℕ) (sixteen : length regs ≡ 16) where
  based : List ℕ
  based = when stores_moved p op then set regs (op ⟨ 19 ‥ 16 ⟩) p.moved else regs

  length_based : length based ≡ 16
  unfolding based
  length_based = if_both (λ (x : List ℕ). length x ≡ 16) _ (length-set regs _ _ ∙ sixteen) sixteen

  base_at : (r : ℕ) (t u : Bool) → stores_moved p op ≡ t → (r == op ⟨ 19 ‥ 16 ⟩) ≡ u
      → get_or based r 0 ≡ (when (r == op ⟨ 19 ‥ 16 ⟩) && stores_moved p op then p.moved else get_or regs r 0)
  unfolding based when◌then◌else◌
  base_at r true true e d =
      let n : ℕ = op ⟨ 19 ‥ 16 ⟩ in
      let f : n < length regs = rw sixteen (omega arith) in
      rw (e, d) (rw (eqb-true r n d) (get_or-set_same regs n p.moved 0 f))
  base_at r true false e d = rw (e, d) (get_or-set_other regs (op ⟨ 19 ‥ 16 ⟩) r p.moved 0 (eqb-false r (op ⟨ 19 ‥ 16 ⟩) d))
  base_at r false u e d = rw (e, and-false (r == op ⟨ 19 ‥ 16 ⟩))

  source_on : (r : ℕ) (t : Bool) → (r == 15) ≡ t → get_or (sources_of p regs op) r 0 ≡ source_of p regs op r
  unfolding sources_of source_of based
  source_on r true e =
      let f : 15 < length based = rw length_based (omega arith) in
      rw (eqb-true r 15 e) (get_or-set_same based 15 _ 0 f ∙ sym (if_yes _ _ _ refl))
  source_on r false e =
      get_or-set_other based 15 r _ 0 (eqb-false r 15 e)
      ∙ base_at r (stores_moved p op) (r == op ⟨ 19 ‥ 16 ⟩) refl refl
      ∙ sym (if_no _ _ _ e)

  source_each : Values (sources_of p regs op) (source_of p regs op) 16
  source_each r h = source_on r (r == 15) refl

module _ (p : Plan) (regs : List ℕ) (op : ℕ) (l : List ℕ) where
  length_sources : length (sources_of p regs op) ≡ length regs
  unfolding sources_of
  length_sources =
      length-set (when stores_moved p op then set regs (op ⟨ 19 ‥ 16 ⟩) p.moved else regs) 15 _
      ∙ if_both (λ (x : List ℕ). length x ≡ length regs) _ (length-set regs _ _) refl

  pub stored_sources : (values : List ℕ) → length values ≡ 16 → values ≡ sources_of p regs op → stored_by p values l ≡ stored_list_of p (source_of p regs op) l
  stored_sources values h e =
      let sixteen : length regs ≡ 16 = sym length_sources ∙ ap length (sym e) ∙ h in
      rw e (stored_values p (source_of p regs op) (sources_of p regs op) l (source_each p regs op sixteen))
