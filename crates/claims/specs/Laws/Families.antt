-- Which numbers an instruction can answer: the table of Demand1 holds of every family.
use Rattle.std.specs.Prelude.{◌≡◌, refl, Bool, true, ◌&&◌, List, [], ◌∷◌, ◌≢◌, ℕ, ◌==◌, Option}
use Rattle.std.proofs.Common.{inl, inr, eqb-true}
use Rattle.bits.specs.Cases.{if_both}
use Rattle.bits.specs.Fields.{◌⟨◌‥◌⟩}
use Rattle.decode.specs.declared.Family.{Family}
use Rattle.decode.specs.declared.Family.TheVariants as family
use Rattle.cpu.specs.declared.Outcome.TheVariants as outcome
use Rattle.cpu.specs.declared.Outcome.{Outcome}
use Rattle.cpu.specs.Outcomes.{sticky, landed_of, exchanged_of}
use Rattle.transfer.specs.Transfers.{guarded_of}
use Rattle.transfer.specs.Laws.Guards.{guarded_both}
use Rattle.dataproc.specs.Dataproc.{placed_of, dataproc_of}
use Rattle.multiply.specs.Multiply.{settled_of, short_of, wide_settled_of, long_multiply_of, halfword_of, saturating_of}
use Rattle.media.specs.Media.{media_of}
use Rattle.media.specs.Laws.Kinds.{MediaLeft, kinds_of_media}
use Rattle.misc.specs.Branches.{branch_of, branch_exchange_of, branch_link_exchange_of, clz_of}
use Rattle.misc.specs.Stops.{swi_of, bkpt_of, coprocessor_of, coprocessor_move_of, clrex_of}
use Rattle.loadstore.specs.Single.{taken_of, single_at, single_of}
use Rattle.loadstore.specs.Extra.{extra_loads_of, extra_at, extra_of}
use Rattle.exclusive.specs.Exclusive.{swap_of, ldrex_of, ldrexd_of, strex_of, strexd_of, exclusive_of}
use Rattle.block.specs.Block.{store_of, continued_of, load_of, block_of}
use Rattle.arm.specs.declared.Seen.{Seen}
use Rattle.arm.specs.Turn.{effect_of}
use Rattle.claims.specs.Laws.Choices.{if_by}
use Rattle.claims.specs.Demand1.{number_of, among, numbers_of}

-- the numbers that an outcome of a kind can come to are in a list
abbrev pub allows : Outcome → List ℕ → Bool
allows outcome.Nothing ns = among 0 ns
allows (outcome.Flags n z c v) ns = among 0 ns
allows outcome.Sticky ns = among 0 ns
allows (outcome.Lanes ge) ns = among 0 ns
allows (outcome.Exchange t) ns = among 0 ns
allows (outcome.Tagged a) ns = among 0 ns
allows outcome.Untagged ns = among 0 ns
allows (outcome.Return to) ns = among 0 ns
allows outcome.Moves ns = among 0 ns
allows outcome.Block ns = among 0 ns && among 7 ns
allows (outcome.Call number) ns = among 1 ns
allows (outcome.Stop answer) ns = among (number_of answer) ns

-- families that can go on: 0 is in the list
module _ (ns : List ℕ) (z : among 0 ns ≡ true) where
  abbrev Told : Outcome → Type 0
  Told o = allows o ns ≡ true

  abbrev Alone : Outcome × List ℕ → Type 0
  Alone x = Told x.0

  abbrev Whole : Outcome × List ℕ × List ℕ → Type 0
  Whole x = Told x.0

  pub told_sticky : (on : Bool) → Told (sticky on)
  unfolding sticky
  told_sticky on = if_both Told on z z

  pub landed : (regs : List ℕ) (rd value : ℕ) → Alone (landed_of regs rd value)
  unfolding landed_of
  landed regs rd value = if_both Alone _ z z

  pub exchanged : (regs : List ℕ) (to : ℕ) → Alone (exchanged_of regs to)
  unfolding exchanged_of
  exchanged regs to = if_both Alone _ z z

  told_dataproc : (regs : List ℕ) (op : ℕ) (c v : Bool) → Alone (dataproc_of regs op c v)
  unfolding dataproc_of placed_of
  told_dataproc regs op c v =
      if_both Alone _ (if_both Alone _ z z) (if_both Alone _ (if_both Alone _ z z) (landed regs _ _))

  told_short : (regs : List ℕ) (op : ℕ) (c v : Bool) → Alone (short_of regs op c v)
  unfolding short_of settled_of
  told_short regs op c v = if_both Alone _ (if_both Alone _ z z) (if_both Alone _ z z)

  told_long : (regs : List ℕ) (op : ℕ) (c v : Bool) → Alone (long_multiply_of regs op c v)
  unfolding long_multiply_of wide_settled_of
  told_long regs op c v = if_both Alone _ z (if_both Alone _ z z)

  told_halfword : (regs : List ℕ) (op : ℕ) → Alone (halfword_of regs op)
  unfolding halfword_of
  told_halfword regs op =
      if_both Alone _ (told_sticky _)
      (if_both Alone _ (if_both Alone _ z (told_sticky _)) (if_both Alone _ z z))

  told_saturating : (regs : List ℕ) (op : ℕ) → Alone (saturating_of regs op)
  unfolding saturating_of
  told_saturating regs op = if_both Alone _ (told_sticky _) (told_sticky _)

  told_branch : (regs : List ℕ) (op : ℕ) → Alone (branch_of regs op)
  unfolding branch_of
  told_branch regs op = if_both Alone _ z z

  told_branch_exchange : (regs : List ℕ) (op : ℕ) → Alone (branch_exchange_of regs op)
  unfolding branch_exchange_of
  told_branch_exchange regs op = if_both Alone _ (exchanged _ _) (exchanged regs _)

  told_move : (regs : List ℕ) (op : ℕ) → among 4 ns ≡ true → Alone (coprocessor_move_of regs op)
  unfolding coprocessor_move_of coprocessor_of
  told_move regs op four = if_both Alone _ four z

  told_media : (regs : List ℕ) (op ge : ℕ) → among 2 ns ≡ true → MediaLeft regs op (media_of regs op ge) → Alone (media_of regs op ge)
  told_media regs op ge two (inl p) = rw p z
  told_media regs op ge two (inr (inl p)) = rw p z
  told_media regs op ge two (inr (inr (inl p))) = rw p.1 z
  told_media regs op ge two (inr (inr (inr p))) = rw p two

  -- transfers: 7 is in the list too
  module _ (seven : among 7 ns ≡ true) where
    pub guarded : (f : Option ℕ) (regs l : List ℕ) (done : Outcome × List ℕ × List ℕ) → Whole done → Whole (guarded_of f regs l done)
    guarded f regs l done = guarded_both Whole f regs l (λ address. seven)

    told_single : (regs : List ℕ) (op : ℕ) (c : Bool) (l : List ℕ) → Whole (single_of regs op c l)
    unfolding single_of single_at taken_of
    told_single regs op c l =
        guarded _ regs l _ (if_both Whole _ (if_both Alone _ (exchanged _ _) z) z)

    told_block : (regs : List ℕ) (op : ℕ) (l : List ℕ) → (among 0 ns && among 7 ns) ≡ true → Whole (block_of regs op l)
    unfolding block_of store_of load_of continued_of
    told_block regs op l both =
        if_both Whole _ both (guarded _ regs l _ (if_both Whole _ (if_both Alone _ (exchanged _ _) z) z))

    told_swap : (regs : List ℕ) (op : ℕ) (l : List ℕ) → Whole (swap_of regs op l)
    unfolding swap_of
    told_swap regs op l = guarded _ regs l _ (landed regs _ _)

    told_extra : (regs : List ℕ) (op : ℕ) (l : List ℕ) → among 2 ns ≡ true → ((op ⟨ 6 ‥ 5 ⟩ == 0) ≡ true → among 11 ns ≡ true) → Whole (extra_of regs op l)
    unfolding extra_of extra_at extra_loads_of
    told_extra regs op l two form =
        if_by Whole (op ⟨ 6 ‥ 5 ⟩ == 0) form
        (if_both Whole _
        (if_both Whole _ (guarded _ regs l _ (landed _ _ _)) (if_both Whole _ (guarded _ regs l _ (landed _ _ _)) (guarded _ regs l _ (landed _ _ _))))
        (if_both Whole _ (guarded _ regs l _ z)
        (if_both Whole _ two (if_both Whole _ (guarded _ regs l _ (landed _ _ _)) (guarded _ regs l _ z)))))

    told_exclusive : (regs : List ℕ) (op : ℕ) (tag : Option ℕ) (l : List ℕ) → among 2 ns ≡ true → Whole (exclusive_of regs op tag l)
    unfolding exclusive_of ldrex_of ldrexd_of strex_of strexd_of
    told_exclusive regs op tag l two =
        if_both Whole _
        (if_both Whole _ (if_both Whole _ two (guarded _ regs l _ z)) (guarded _ regs l _ z))
        (if_both Whole _
        (if_both Whole _ two (if_both Whole _ (guarded _ regs l _ z) (landed regs _ _)))
        (if_both Whole _ (guarded _ regs l _ z) (landed regs _ _)))

pub told_effect : (f : Family) (regs : List ℕ) (op : ℕ) (s : Seen) (l : List ℕ)
    → (let o = (effect_of f regs op s l).0 in allows o (numbers_of f)) ≡ true
unfolding effect_of branch_link_exchange_of clz_of swi_of bkpt_of coprocessor_of clrex_of
told_effect family.DataProcessing regs op s l = told_dataproc _ refl regs op s.c s.v
told_effect family.MultiplyShort regs op s l = told_short _ refl regs op s.c s.v
told_effect family.MultiplyLong regs op s l = told_long _ refl regs op s.c s.v
told_effect family.Halfword regs op s l = told_halfword _ refl regs op
told_effect family.Saturating regs op s l = told_saturating _ refl regs op
told_effect family.Media regs op s l = told_media _ refl regs op s.ge refl (kinds_of_media regs op s.ge)
told_effect family.Branch regs op s l = told_branch _ refl regs op
told_effect family.BranchExchange regs op s l = told_branch_exchange _ refl regs op
told_effect family.BranchLinkExchange regs op s l = refl
told_effect family.CountZeros regs op s l = refl
told_effect family.Single regs op s l = told_single _ refl refl regs op s.c l
told_effect family.Extra regs op s l = told_extra _ refl refl regs op l refl (λ _. refl)
told_effect family.Block regs op s l = told_block _ refl refl regs op l refl
told_effect family.Swap regs op s l = told_swap _ refl refl regs op l
told_effect family.Exclusive regs op s l = told_exclusive _ refl refl regs op s.tag l refl
told_effect family.ClearExclusive regs op s l = refl
told_effect family.StatusMove regs op s l = refl
told_effect family.ChangeState regs op s l = refl
told_effect family.Preload regs op s l = refl
told_effect family.Supervisor regs op s l = refl
told_effect family.Breakpoint regs op s l = refl
told_effect family.Coprocessor regs op s l = refl
told_effect family.CoprocessorMove regs op s l = told_move _ refl regs op refl
told_effect family.Undefined regs op s l = refl

-- an extra transfer whose bits 6-5 are not both zero does not answer 11
pub told_form : (regs : List ℕ) (op : ℕ) (s : Seen) (l : List ℕ) → op ⟨ 6 ‥ 5 ⟩ ≢ 0
    → (let o = (effect_of family.Extra regs op s l).0 in allows o (0 ∷ 2 ∷ 7 ∷ [])) ≡ true
unfolding effect_of
told_form regs op s l n = told_extra (0 ∷ 2 ∷ 7 ∷ []) refl refl regs op l refl (λ e. absurd (n (eqb-true _ _ e)))
