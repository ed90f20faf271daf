-- Demand 3 on any machine: links that a machine took are a chain of numbers.
use Rattle.std.specs.Prelude.{◌≡◌, refl, Bool, true, false, List, ◌∷◌, ℕ}
use Rattle.std.proofs.Common.{ap, ◌∙◌, subst}
use Rattle.alu.specs.declared.Sum.{Sum}
use Rattle.alu.specs.Sums.{sbc_of, adc_of}
use Rattle.alu.specs.Numbers.{number_of, Pair, Words, words_of, last_of, Difference, Total}
use Rattle.alu.specs.Chains.{View, Flags, Links, ends, goes, Subtracted, Added}
use Rattle.alu.specs.Laws.Numbers.{difference, total}

module _ {S : Type 0} (view : View S) where
  record Chained (op : ℕ → ℕ → Bool → Sum) (k : Bool) (p : Pair) (ps : List Pair) (ws : List ℕ) (t : S) : Type 0 where
    wrote : ws ≡ words_of op k (p ∷ ps)
    flags : Flags view (last_of op k p ps) t

  chained : {op : ℕ → ℕ → Bool → Sum} {k : Bool} {p : Pair} {ps : List Pair} {ws : List ℕ} {t : S} → Links view op k p ps ws t → Chained op k p ps ws t
  chained (ends f) = record { wrote = refl; flags = f }
  chained {op} (goes {k} {p} {q} {ps} {ws} {t = t} f e l) =
      let r : Chained op (op p.first p.second k).carry q ps ws t = subst (λ (b : Bool). Chained op b q ps ws t) (e ∙ f.c_is) (chained l) in
      record { wrote = ap (λ (xs : List ℕ). (op p.first p.second k).value ∷ xs) r.wrote; flags = r.flags }

  pub subtracted : {p : Pair} {ps : List Pair} {ws : List ℕ} {t : S} → Links view sbc_of true p ps ws t → Words (p ∷ ps) → Subtracted view p ps ws t
  subtracted {p} {ps} {ws} {t} l w =
      let r : Chained sbc_of true p ps ws t = chained l in
      let d : Difference p ps = difference p ps w in
      record {
        result = ap number_of r.wrote ∙ d.result;
        carry = r.flags.c_is ∙ d.carry;
        below = rw (r.flags.n_is, r.flags.v_is) d.below;
        zero = r.flags.z_is;
      }

  pub added : {p : Pair} {ps : List Pair} {ws : List ℕ} {t : S} → Links view adc_of false p ps ws t → Words (p ∷ ps) → Added view p ps ws t
  added {p} {ps} {ws} {t} l w =
      let r : Chained adc_of false p ps ws t = chained l in
      let d : Total p ps = total p ps w in
      record {
        result = ap number_of r.wrote ∙ d.result;
        carry = r.flags.c_is ∙ d.carry;
        overflow = r.flags.v_is ∙ d.overflow;
        zero = r.flags.z_is;
      }
