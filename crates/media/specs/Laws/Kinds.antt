-- What a media instruction leaves to do: nothing, Q, GE of four bits, or a refusal; and it keeps the number of registers.
use Rattle.std.specs.Prelude.{◌≡◌, Bool, List, ◌⊎◌, ℕ, ◌≤◌, length, set, Option, Some, None}
use Rattle.std.proofs.Math.Path.{refl}
use Rattle.std.proofs.Common.{ap, ◌∙◌, inl, inr, arith, length-set}
use Rattle.std.proofs.Math.Bool.{true, false}
use Rattle.bits.specs.Cases.{when◌then◌else◌, if_both}
use Rattle.lanes.specs.declared.Variant.{Variant}
use Rattle.lanes.specs.declared.Operation.{Operation}
use Rattle.lanes.specs.declared.Extension.{Extension}
use Rattle.lanes.specs.declared.Combined.{Combined}
use Rattle.lanes.specs.Laws.Ge.{Small, parallel_ge}
use Rattle.cpu.specs.declared.Answer.{Answer}
use Rattle.cpu.specs.declared.Outcome.{Outcome}
use Rattle.cpu.specs.declared.Outcome.TheVariants as outcome
use Rattle.cpu.specs.Outcomes.{sticky, advanced, put_of, undefined_of}
use Rattle.media.specs.Media.{put_with, combined_of, in_parallel_of, parallel_family_of, packed_of, saturate_of, saturate16_of, extended_of, extend_family_of, reversal_of, packing_of, dual_word_of, most_word_of, dual_multiply_of, usad_of, media_of}

module _ (regs : List ℕ) (op : ℕ) where
  -- what can be left: nothing, Q, GE of four bits, or the refusal of an undefined code, with the registers as they came
  abbrev pub MediaLeft : Outcome × List ℕ → Type 0
  MediaLeft x =
      (x.0 ≡ outcome.Nothing)
      ⊎ ((x.0 ≡ outcome.Sticky)
      ⊎ (((ge : ℕ) × (x.0 ≡ outcome.Lanes ge) × (ge ≤ 15)) ⊎ (x ≡ undefined_of regs op)))

  abbrev Keeps : Outcome × List ℕ → Type 0
  Keeps x = MediaLeft x × (length x.1 ≡ length regs)

  stop_of : {x : Outcome × List ℕ} → MediaLeft x → (a : Answer) → x.0 ≡ outcome.Stop a → x ≡ undefined_of regs op
  stop_of (inl p) a e = let z : ◌≡◌ {A = ℕ} 0 1 = cc in absurd (omega arith)
  stop_of (inr (inl p)) a e = let z : ◌≡◌ {A = ℕ} 0 1 = cc in absurd (omega arith)
  stop_of (inr (inr (inl p))) a e = let q = p.1 in let z : ◌≡◌ {A = ℕ} 0 1 = cc in absurd (omega arith)
  stop_of (inr (inr (inr p))) a e = p

  ge_of : {x : Outcome × List ℕ} → MediaLeft x → (ge : ℕ) → x.0 ≡ outcome.Lanes ge → ge ≤ 15
  ge_of (inl p) ge e = let z : ◌≡◌ {A = ℕ} 0 1 = cc in omega arith
  ge_of (inr (inl p)) ge e = let z : ◌≡◌ {A = ℕ} 0 1 = cc in omega arith
  ge_of (inr (inr (inl p))) ge e = let q = p.1 in let h = p.2 in let s : p.0 ≡ ge = cc in rw s at h
  ge_of (inr (inr (inr p))) ge e = let k = ap (λ (y : Outcome × List ℕ). y.0) p in let z : ◌≡◌ {A = ℕ} 0 1 = cc in omega arith

  written : (rd value : ℕ) → length (advanced (set regs rd value)) ≡ length regs
  written rd value = length-set (set regs rd value) 15 _ ∙ length-set regs rd value

  refused : Keeps (undefined_of regs op)
  refused = (inr (inr (inr refl)), refl)

  put : (rd value : ℕ) → Keeps (put_of regs rd value)
  put rd value = (inl refl, written rd value)

  -- a register written that may set Q
  marked : (rd value : ℕ) (q : Bool) → Keeps (sticky q, advanced (set regs rd value))
  unfolding sticky when◌then◌else◌
  marked rd value true = (inr (inl refl), written rd value)
  marked rd value false = put rd value

  put_ge : (rd value : ℕ) (ge : Option ℕ) → Small ge → Keeps (put_with regs rd value ge)
  unfolding put_with
  put_ge rd value (Some ge) h = (inr (inr (inl (ge, refl, h))), written rd value)
  put_ge rd value None h = put rd value

  combined : (x : Combined) → Small x.ge → Keeps (combined_of regs op x)
  unfolding combined_of
  combined x h = put_ge _ _ x.ge h

  by_codes : (v : Option Variant) (o : Option Operation) → Keeps (in_parallel_of regs op v o)
  unfolding in_parallel_of
  by_codes (Some v) (Some o) = combined _ (parallel_ge v o _ _)
  by_codes (Some v) None = refused
  by_codes None o = refused

  in_parallel : Keeps (parallel_family_of regs op)
  unfolding parallel_family_of
  in_parallel = by_codes _ _

  packed : Keeps (packed_of regs op)
  unfolding packed_of
  packed = if_both Keeps _ (put _ _) (put _ _)

  saturated : Keeps (saturate_of regs op)
  unfolding saturate_of
  saturated = if_both Keeps _ (marked _ _ _) (marked _ _ _)

  saturated16 : Keeps (saturate16_of regs op)
  unfolding saturate16_of
  saturated16 = if_both Keeps _ (marked _ _ _) (marked _ _ _)

  by_extension : (e : Option Extension) → Keeps (extended_of regs op e)
  unfolding extended_of
  by_extension (Some e) = put _ _
  by_extension None = refused

  extended : Keeps (extend_family_of regs op)
  unfolding extend_family_of
  extended = by_extension _

  reversed : Keeps (reversal_of regs op)
  unfolding reversal_of
  reversed =
      if_both Keeps _ (put _ _) (if_both Keeps _ (put _ _) (if_both Keeps _ (put _ _) (if_both Keeps _ (put _ _) refused)))

  dual : Keeps (dual_word_of regs op)
  unfolding dual_word_of
  dual = if_both Keeps _ (marked _ _ _) (marked _ _ _)

  most : Keeps (most_word_of regs op)
  unfolding most_word_of
  most = if_both Keeps _ (put _ _) (put _ _)

  multiplied : Keeps (dual_multiply_of regs op)
  unfolding dual_multiply_of
  multiplied = if_both Keeps _ dual (if_both Keeps _ (inl refl, simp length-set) (if_both Keeps _ most refused))

  summed : Keeps (usad_of regs op)
  unfolding usad_of
  summed = if_both Keeps _ (put _ _) (put _ _)

  module _ (ge : ℕ) where
    in_packing : Keeps (packing_of regs op ge)
    unfolding packing_of
    in_packing =
        if_both Keeps _ (if_both Keeps _ packed saturated)
        (if_both Keeps _ extended (if_both Keeps _ (put _ _) (if_both Keeps _ saturated16 reversed)))

    keeps : Keeps (media_of regs op ge)
    unfolding media_of
    keeps =
        if_both Keeps _ in_parallel (if_both Keeps _ in_packing (if_both Keeps _ multiplied (if_both Keeps _ summed refused)))

    pub kinds_of_media : MediaLeft (media_of regs op ge)
    kinds_of_media = keeps.0

    pub media_stops : (a : Answer) → (media_of regs op ge).0 ≡ outcome.Stop a → media_of regs op ge ≡ undefined_of regs op
    media_stops = stop_of keeps.0

    pub ge_of_media : (g : ℕ) → (media_of regs op ge).0 ≡ outcome.Lanes g → g ≤ 15
    ge_of_media = ge_of keeps.0

    pub length_of_media : length (media_of regs op ge).1 ≡ length regs
    length_of_media = keeps.1
