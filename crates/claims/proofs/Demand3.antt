-- Demand 3 holds: a chain on the machine is a chain of links in the sense of alu/specs/Chains.antt.
use Rattle.std.specs.Prelude.{◌≡◌, Bool, true, false, List, [], ◌∷◌, ℕ, ◌≤◌}
use Rattle.std.proofs.Common.{sym, ◌∙◌, subst, leb-true, le-leb}
use Rattle.alu.specs.declared.Sum.{Sum}
use Rattle.alu.specs.Sums.{sbc_of, adc_of}
use Rattle.alu.specs.Numbers.{Pair, Words, A, B}
use Rattle.alu.specs.Chains as chains
use Rattle.alu.specs.Chains.{Links}
use Rattle.alu.proofs.Chains.{subtracted, added}
use Rattle.claims.specs.Demand3.{State, view, SUB, ADC, SBC, Chain, ends, goes, Demand3}
use Rattle.claims.proofs.Link.{Makes, subs_make, sbcs_make, adds_make, adcs_make}

-- the links of a chain, and that its operands are words
pub record Chained (f : ℕ → ℕ → Bool → Sum) (b : Bool) (p : Pair) (ps : List Pair) (ws : List ℕ) (t : State) : Type 0 where
  pub links : Links view f b p ps ws t
  pub words : Words (p ∷ ps)

-- `next` makes sums by f with the C that it finds, and k, the first, with the carry b
module _ (f : ℕ → ℕ → Bool → Sum) (next : ℕ) (further : (s : State) → Makes f (view.c s) next s) where
  chained : {k : ℕ} {s t : State} {p : Pair} {ps : List Pair} {ws : List ℕ} (b : Bool) → Makes f b k s → Chain next k s p ps ws t → Chained f b p ps ws t
  chained b first (ends {t = t} {p = p} {w = w} i) =
      let r = first p w t i in
      record {
        links = subst (λ (x : ℕ). Links view f b p [] (x ∷ []) t) (sym r.wrote) (chains.ends r.flags);
        words = (r.first_word, r.second_word, tt);
      }
  chained b first (goes {u = u} {u' = u'} {t = t} {p = p} {q = q} {ps = ps} {w = w} {ws = ws} i between same rest) =
      let r = first p w u i in
      let c = chained (view.c u') (further u') rest in
      record {
        links = subst (λ (x : ℕ). Links view f b p (q ∷ ps) (x ∷ ws) t) (sym r.wrote) (chains.goes {u' = u'} r.flags same c.links);
        words = (r.first_word, r.second_word, c.words);
      }

pub demand_3 : Demand3
demand_3 =
    record {
      differences = λ h. let c = chained sbc_of SBC sbcs_make true (subs_make _) h in subtracted view c.links c.words;
      sums = λ h. let c = chained adc_of ADC adcs_make false (adds_make _) h in added view c.links c.words;
    }

-- of the differences in words: C is set exactly when A is not below B
module _ {s t : State} {p : Pair} {ps : List Pair} {ws : List ℕ} (h : Chain SBC SUB s p ps ws t) where
  pub set_not_below : view.c t ≡ true → B (p ∷ ps) ≤ A (p ∷ ps)
  set_not_below e = leb-true _ _ (sym (demand_3.differences h).carry ∙ e)

  pub not_below_set : B (p ∷ ps) ≤ A (p ∷ ps) → view.c t ≡ true
  not_below_set l = (demand_3.differences h).carry ∙ le-leb _ _ l
