-- Answer 2 is given exactly for the undefined codes.
use Rattle.std.specs.Prelude.{◌≡◌, Bool, true, false, not, ◌&&◌, List, [], ◌∷◌, ◌≢◌, ℕ, ◌==◌, Option, Some, None, is_some, is_none}
use Rattle.std.proofs.Math.Path.{refl}
use Rattle.std.proofs.Common.{sym, ap, subst, ◌∙◌}
use Rattle.std.proofs.lemmas.Bool.{false≢true}
use Rattle.bits.specs.Cases.{when◌then◌else◌, if_both}
use Rattle.bits.specs.Fields.{◌⟨◌‥◌⟩}
use Rattle.lanes.specs.declared.Variant.{Variant}
use Rattle.lanes.specs.declared.Operation.{Operation}
use Rattle.lanes.specs.declared.Extension.{Extension}
use Rattle.decode.specs.declared.Family.{Family}
use Rattle.decode.specs.declared.Family.TheVariants as family
use Rattle.decode.specs.Families.{family_of}
use Rattle.cpu.specs.declared.Machine.{Machine}
use Rattle.cpu.specs.declared.Answer.{Answer}
use Rattle.cpu.specs.declared.Answer.TheVariants as answer
use Rattle.cpu.specs.declared.Outcome.{Outcome}
use Rattle.cpu.specs.Outcomes.{own_of, undefined_of}
use Rattle.cpu.specs.With.{with_regs}
use Rattle.transfer.specs.Transfers.{beside}
use Rattle.media.specs.Media.{coded, allocated, put_with, combined_of, in_parallel_of, parallel_family_of, packed_of, saturate_of, saturate16_of, extended_of, extend_family_of, reversal_of, packing_of, dual_word_of, most_word_of, dual_multiply_of, usad_of, media_of}
use Rattle.media.specs.Laws.Codes.{allocated_is, unextended_is}
use Rattle.loadstore.specs.Extra.{extra_loads_of, extra_at, extra_of}
use Rattle.exclusive.specs.Exclusive.{ldrex_of, ldrexd_of, strex_of, strexd_of, exclusive_of}
use Rattle.arm.specs.declared.Seen.{Seen}
use Rattle.arm.specs.Turn.{seen_of, effect_of}
use Rattle.engine.specs.declared.Stepped.{Stepped}
use Rattle.engine.specs.Step.{settled_of, next_of, executed_of}
use Rattle.claims.specs.Laws.Choices.{so, if_pair, if_test, if_not}
use Rattle.claims.specs.Demand1.{number_of, among, numbers_of, passes}
use Rattle.claims.specs.Demand2.{lent, settled}
use Rattle.claims.specs.Undefined.{packing_undefined, media_undefined, extra_undefined, exclusive_undefined, undefined_by, is_undefined, Refused}
use Rattle.claims.specs.Laws.Families.{allows, told_effect, told_sticky, landed, guarded}
use Rattle.claims.specs.Laws.Composition.{executed_passed, executed_failed}
use Rattle.claims.specs.Laws.Instructions.{wrong, told_settled, own_address}

-- numbers of outcomes that are no 2
abbrev calm : List ℕ
calm = 0 ∷ 1 ∷ 3 ∷ 4 ∷ 7 ∷ 11 ∷ []

abbrev Calm : Outcome × List ℕ × List ℕ → Type 0
Calm x = allows x.0 calm ≡ true

module _ (m : Machine) (op : ℕ) (regs l : List ℕ) where
  abbrev answer_of : Outcome × List ℕ × List ℕ → Answer
  answer_of x = (settled m op x).0.answer

  abbrev Says : Bool → Answer → Type 0
  Says true a = a ≡ answer.Undefined (own_of regs) op
  Says false a = number_of a ≢ 2

  record Tells (u : Bool) (x : Outcome × List ℕ × List ℕ) : Type 0 where
    says : Says u (answer_of x)

  defined : (ns : List ℕ) (x : Outcome × List ℕ × List ℕ) → allows x.0 ns ≡ true → among 2 ns ≡ false → Tells false x
  defined ns x t f =
      record { says = λ n. false≢true (sym f ∙ (rw n at (told_settled x.0 (with_regs m x.1) (next_of m) op x.2 ns t))) }

  still : (x : Outcome × List ℕ × List ℕ) → Calm x → Tells false x
  still x t = defined calm x t refl

  refused : Tells true (beside (undefined_of regs op) l)
  unfolding settled_of
  refused = record { says = refl }

  -- media
  abbrev Alone : Outcome × List ℕ → Type 0
  Alone x = Calm (beside x l)

  abbrev Beside : Bool → Outcome × List ℕ → Type 0
  Beside u x = Tells u (beside x l)

  with_ge : (rd value : ℕ) (ge : Option ℕ) → Alone (put_with regs rd value ge)
  unfolding put_with
  with_ge rd value (Some ge) = refl
  with_ge rd value None = refl

  by_codes : (v : Option Variant) (o : Option Operation) → Beside (not (is_some v && is_some o)) (in_parallel_of regs op v o)
  unfolding in_parallel_of combined_of
  by_codes (Some v) (Some o) = still _ (with_ge _ _ _)
  by_codes (Some v) None = refused
  by_codes None o = refused

  in_parallel : Beside (not (allocated op)) (parallel_family_of regs op)
  unfolding parallel_family_of
  in_parallel = rw (allocated_is op) (by_codes _ _)

  by_extension : (e : Option Extension) → Beside (is_none e) (extended_of regs op e)
  unfolding extended_of
  by_extension (Some e) = still _ refl
  by_extension None = refused

  extended : Beside (op ⟨ 21 ‥ 20 ⟩ == 1) (extend_family_of regs op)
  unfolding extend_family_of
  extended = rw (unextended_is op) (by_extension _)

  packed : Alone (packed_of regs op)
  unfolding packed_of
  packed = if_both Alone _ refl refl

  saturated : Alone (saturate_of regs op)
  unfolding saturate_of
  saturated = if_both Alone _ (told_sticky calm refl _) (told_sticky calm refl _)

  saturated16 : Alone (saturate16_of regs op)
  unfolding saturate16_of
  saturated16 = if_both Alone _ (told_sticky calm refl _) (told_sticky calm refl _)

  packs : Alone (when op ⟨ 22 ‥ 20 ⟩ == 0 then packed_of regs op else saturate_of regs op)
  packs = if_both Alone _ packed saturated

  in_packing : (ge : ℕ) → Beside (packing_undefined op) (packing_of regs op ge)
  unfolding packing_undefined packing_of reversal_of
  in_packing ge =
      if_pair Beside _ (still _ packs)
      (if_pair Beside _ extended
      (if_pair Beside _ (still _ refl)
      (if_pair Beside _ (still _ saturated16)
      (if_pair Beside _ (still _ refl)
      (if_pair Beside _ (still _ refl) (if_pair Beside _ (still _ refl) (if_pair Beside _ (still _ refl) refused)))))))

  dual : Alone (dual_word_of regs op)
  unfolding dual_word_of
  dual = if_both Alone _ (told_sticky calm refl _) (told_sticky calm refl _)

  most : Alone (most_word_of regs op)
  unfolding most_word_of
  most = if_both Alone _ refl refl

  summed : Alone (usad_of regs op)
  unfolding usad_of
  summed = if_both Alone _ refl refl

  in_media : (ge : ℕ) → Beside (media_undefined op) (media_of regs op ge)
  unfolding media_undefined media_of dual_multiply_of
  in_media ge =
      if_pair Beside _ in_parallel
      (if_pair Beside _ (in_packing ge)
      (if_pair Beside _
      (if_pair Beside _ (still _ dual) (if_pair Beside _ (still _ refl) (if_pair Beside _ (still _ most) refused)))
      (if_not Beside (coded op 0 0) (still _ summed) refused)))

  -- extra and exclusive transfers
  in_extra : Tells (extra_undefined op) (extra_of regs op l)
  unfolding extra_undefined extra_of extra_at extra_loads_of
  in_extra =
      if_pair Tells _ (still _ refl)
      (if_pair Tells _
      (still _
      (if_both Calm _ (guarded calm refl refl _ regs l _ (landed calm refl _ _ _))
      (if_both Calm _ (guarded calm refl refl _ regs l _ (landed calm refl _ _ _)) (guarded calm refl refl _ regs l _ (landed calm refl _ _ _)))))
      (if_pair Tells _ (still _ (guarded calm refl refl _ regs l _ refl))
      (if_test Tells _ refused
      (still _ (if_both Calm _ (guarded calm refl refl _ regs l _ (landed calm refl _ _ _)) (guarded calm refl refl _ regs l _ refl))))))

  in_exclusive : (tag : Option ℕ) → Tells (exclusive_undefined op) (exclusive_of regs op tag l)
  unfolding exclusive_undefined exclusive_of ldrex_of ldrexd_of strex_of strexd_of
  in_exclusive tag =
      if_pair Tells _
      (if_pair Tells _ (if_test Tells _ refused (still _ (guarded calm refl refl _ regs l _ refl))) (still _ (guarded calm refl refl _ regs l _ refl)))
      (if_pair Tells _
      (if_test Tells _ refused (still _ (if_both Calm _ (guarded calm refl refl _ regs l _ refl) (landed calm refl regs _ _))))
      (still _ (if_both Calm _ (guarded calm refl refl _ regs l _ refl) (landed calm refl regs _ _))))

  -- every other family
  plain : (f : Family) (s : Seen) → among 2 (numbers_of f) ≡ false → Tells false (effect_of f regs op s l)
  plain f s e = defined (numbers_of f) _ (told_effect f regs op s l) e

  tells : (f : Family) (s : Seen) → Tells (undefined_by f op) (effect_of f regs op s l)
  unfolding effect_of
  tells family.Undefined s = refused
  tells family.Media s = in_media s.ge
  tells family.Extra s = in_extra
  tells family.Exclusive s = in_exclusive s.tag
  tells family.DataProcessing s = plain family.DataProcessing s refl
  tells family.MultiplyShort s = plain family.MultiplyShort s refl
  tells family.MultiplyLong s = plain family.MultiplyLong s refl
  tells family.Halfword s = plain family.Halfword s refl
  tells family.Saturating s = plain family.Saturating s refl
  tells family.Swap s = plain family.Swap s refl
  tells family.StatusMove s = plain family.StatusMove s refl
  tells family.BranchExchange s = plain family.BranchExchange s refl
  tells family.CountZeros s = plain family.CountZeros s refl
  tells family.Breakpoint s = plain family.Breakpoint s refl
  tells family.Single s = plain family.Single s refl
  tells family.Block s = plain family.Block s refl
  tells family.Branch s = plain family.Branch s refl
  tells family.Coprocessor s = plain family.Coprocessor s refl
  tells family.CoprocessorMove s = plain family.CoprocessorMove s refl
  tells family.Supervisor s = plain family.Supervisor s refl
  tells family.BranchLinkExchange s = plain family.BranchLinkExchange s refl
  tells family.ClearExclusive s = plain family.ClearExclusive s refl
  tells family.ChangeState s = plain family.ChangeState s refl
  tells family.Preload s = plain family.Preload s refl

module _ (m : Machine) (op : ℕ) (l : List ℕ) where
  abbrev answered : Answer
  answered = (executed_of m op l).0.answer

  says_passed : passes m op ≡ true → Says m op (lent m) l (is_undefined op) answered
  says_passed e =
      subst (λ (y : Stepped × List ℕ). Says m op (lent m) l (is_undefined op) y.0.answer) (sym (executed_passed m op l e))
      (tells m op (lent m) l (family_of op) (seen_of m)).says

  refuses : passes m op ≡ true → is_undefined op ≡ true → answered ≡ answer.Undefined (own_of (lent m)) op
  refuses e u = rw u at (says_passed e)

  fails_not : passes m op ≡ false → number_of answered ≢ 2
  fails_not e n = wrong refl (sym n ∙ ap (λ (y : Stepped × List ℕ). number_of y.0.answer) (executed_failed m op l e))

  refuses_only : number_of answered ≡ 2 → (passes m op ≡ true) × (is_undefined op ≡ true)
  refuses_only n =
      let e = so (passes m op) (λ e. fails_not e n) in
      (e, so (is_undefined op) (λ u. (rw u at (says_passed e)) n))

  pub refused_is : Refused m op answered
  refused_is =
      record {
        two = (refuses_only, λ p. ap number_of (refuses p.0 p.1));
        two_value = λ v n. let p = refuses_only n in refuses p.0 p.1 ∙ ap (λ (a : ℕ). answer.Undefined a op) (own_address m op l v);
      }
