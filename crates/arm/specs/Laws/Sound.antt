-- Every family is sound: where it stops, the registers and bytes are as they came.
use Rattle.std.proofs.Math.Path.{refl}
use Rattle.std.proofs.Common.{ap, inl, inr, lit≤}
use Rattle.std.specs.Prelude.{Bool, ℕ, Option, ◌+◌, ◌%◌, ◌^◌, set}
use mathlib.Core.List.{List}
use Rattle.bits.specs.Cases.{if_both}
use Rattle.decode.specs.declared.Family.{Family}
use Rattle.decode.specs.declared.Family.TheVariants as family
use Rattle.decode.specs.Families.{family_of}
use Rattle.cpu.specs.declared.Answer.TheVariants.{Undefined, Breakpoint, Coprocessor, Bus, TransferForm}
use Rattle.cpu.specs.declared.Outcome.{Outcome}
use Rattle.cpu.specs.Outcomes.{own_of, landed_of, exchanged_of}
use Rattle.cpu.specs.Laws.Sound.{Sound, keeps, sound_on, sound_going, sound_stop, sound_wait, sound_sticky}
use Rattle.transfer.specs.Transfers.{beside, guarded_of}
use Rattle.transfer.specs.Laws.Guards.{guarded_both}
use Rattle.dataproc.specs.Dataproc.{placed_of, dataproc_of}
use Rattle.multiply.specs.Multiply.{settled_of, short_of, wide_settled_of, long_multiply_of, halfword_of, saturating_of}
use Rattle.media.specs.Media.{media_of}
use Rattle.media.specs.Laws.Kinds.{MediaLeft, kinds_of_media, ge_of_media}
use Rattle.misc.specs.Branches.{branch_of, branch_exchange_of, branch_link_exchange_of, clz_of}
use Rattle.misc.specs.Stops.{swi_of, bkpt_of, coprocessor_of, coprocessor_move_of, clrex_of}
use Rattle.loadstore.specs.Single.{taken_of, single_at, single_of}
use Rattle.loadstore.specs.Extra.{extra_loads_of, extra_at, extra_of}
use Rattle.exclusive.specs.Exclusive.{swap_of, ldrex_of, ldrexd_of, strex_of, strexd_of, exclusive_of}
use Rattle.block.specs.Block.{store_of, continued_of, load_of, block_of}
use Rattle.arm.specs.declared.Seen.{Seen}
use Rattle.arm.specs.Turn.{effect_of, turn_of}

module _ (regs l : List ℕ) where
  abbrev Alone : Outcome × List ℕ → Type 0
  Alone x = Sound regs l (beside x l)

  landed : (now : List ℕ) (rd value : ℕ) (l' : List ℕ) → Sound regs l (beside (landed_of now rd value) l')
  unfolding landed_of
  landed now rd value l' =
      if_both (λ (x : Outcome × List ℕ). Sound regs l (beside x l')) _ (sound_going refl (lit≤ tt)) (sound_going refl (lit≤ tt))

  exchanged : (now : List ℕ) (to : ℕ) → Alone (exchanged_of now to)
  unfolding exchanged_of
  exchanged now to = if_both Alone _ (sound_going refl (lit≤ tt)) (sound_going refl (lit≤ tt))

  guarded : (f : Option ℕ) {done : Outcome × List ℕ × List ℕ} → Sound regs l done → Sound regs l (guarded_of f regs l done)
  guarded f = guarded_both (Sound regs l) f regs l (λ address. sound_stop (Bus address) refl)

  sound_dataproc : (op : ℕ) (c v : Bool) → Alone (dataproc_of regs op c v)
  unfolding dataproc_of placed_of
  sound_dataproc op c v =
      if_both Alone _
      (if_both Alone _ (sound_going refl (lit≤ tt)) (sound_going refl (lit≤ tt)))
      (if_both Alone _ (if_both Alone _ (sound_going refl (lit≤ tt)) (sound_going refl (lit≤ tt))) (landed regs _ _ l))

  settled : (op value : ℕ) (c v : Bool) → Alone (settled_of regs op value c v)
  unfolding settled_of
  settled op value c v = if_both Alone _ (sound_going refl (lit≤ tt)) (sound_going refl (lit≤ tt))

  sound_short : (op : ℕ) (c v : Bool) → Alone (short_of regs op c v)
  unfolding short_of
  sound_short op c v = if_both Alone _ (settled op _ c v) (settled op _ c v)

  sound_long : (op : ℕ) (c v : Bool) → Alone (long_multiply_of regs op c v)
  unfolding long_multiply_of wide_settled_of
  sound_long op c v =
      if_both Alone _ (sound_going refl (lit≤ tt)) (if_both Alone _ (sound_going refl (lit≤ tt)) (sound_going refl (lit≤ tt)))

  sound_halfword : (op : ℕ) → Alone (halfword_of regs op)
  unfolding halfword_of
  sound_halfword op =
      if_both Alone _ (sound_sticky _)
      (if_both Alone _ (if_both Alone _ (sound_going refl (lit≤ tt)) (sound_sticky _)) (if_both Alone _ (sound_going refl (lit≤ tt)) (sound_going refl (lit≤ tt))))

  sound_saturating : (op : ℕ) → Alone (saturating_of regs op)
  unfolding saturating_of
  sound_saturating op = if_both Alone _ (sound_sticky _) (sound_sticky _)

  media_left : (op ge : ℕ) → MediaLeft regs op (media_of regs op ge) → Alone (media_of regs op ge)
  media_left op ge (inl p) = sound_on (ap keeps p) (ge_of_media regs op ge)
  media_left op ge (inr (inl p)) = sound_on (ap keeps p) (ge_of_media regs op ge)
  media_left op ge (inr (inr (inl p))) = sound_on (ap keeps p.1) (ge_of_media regs op ge)
  media_left op ge (inr (inr (inr p))) = rw p (sound_stop (Undefined (own_of regs) op) refl)

  sound_branch : (op : ℕ) → Alone (branch_of regs op)
  unfolding branch_of
  sound_branch op = if_both Alone _ (sound_going refl (lit≤ tt)) (sound_going refl (lit≤ tt))

  sound_branch_exchange : (op : ℕ) → Alone (branch_exchange_of regs op)
  unfolding branch_exchange_of
  sound_branch_exchange op = if_both Alone _ (exchanged _ _) (exchanged regs _)

  sound_move : (op : ℕ) → Alone (coprocessor_move_of regs op)
  unfolding coprocessor_move_of coprocessor_of
  sound_move op = if_both Alone _ (sound_stop (Coprocessor op) refl) (sound_going refl (lit≤ tt))

  sound_single : (op : ℕ) (c : Bool) → Sound regs l (single_of regs op c l)
  unfolding single_of single_at taken_of
  sound_single op c =
      guarded _ (if_both (Sound regs l) _ (if_both Alone _ (exchanged _ _) (sound_going refl (lit≤ tt))) (sound_going refl (lit≤ tt)))

  sound_extra : (op : ℕ) → Sound regs l (extra_of regs op l)
  unfolding extra_of extra_at extra_loads_of
  sound_extra op =
      if_both (Sound regs l) _ (sound_stop (TransferForm op) refl)
      (if_both (Sound regs l) _
      (if_both (Sound regs l) _ (guarded _ (landed _ _ _ l)) (if_both (Sound regs l) _ (guarded _ (landed _ _ _ l)) (guarded _ (landed _ _ _ l))))
      (if_both (Sound regs l) _ (guarded _ (sound_going refl (lit≤ tt)))
      (if_both (Sound regs l) _ (sound_stop (Undefined (own_of regs) op) refl)
      (if_both (Sound regs l) _ (guarded _ (landed _ _ _ l)) (guarded _ (sound_going refl (lit≤ tt)))))))

  sound_block : (op : ℕ) → Sound regs l (block_of regs op l)
  unfolding block_of store_of load_of continued_of
  sound_block op =
      if_both (Sound regs l) _ sound_wait
      (guarded _ (if_both (Sound regs l) _ (if_both Alone _ (exchanged _ _) (sound_going refl (lit≤ tt))) (sound_going refl (lit≤ tt))))

  sound_swap : (op : ℕ) → Sound regs l (swap_of regs op l)
  unfolding swap_of
  sound_swap op = guarded _ (landed regs _ _ _)

  sound_exclusive : (op : ℕ) (tag : Option ℕ) → Sound regs l (exclusive_of regs op tag l)
  unfolding exclusive_of ldrex_of ldrexd_of strex_of strexd_of
  sound_exclusive op tag =
      if_both (Sound regs l) _
      (if_both (Sound regs l) _
      (if_both (Sound regs l) _ (sound_stop (Undefined (own_of regs) op) refl) (guarded _ (sound_going refl (lit≤ tt))))
      (guarded _ (sound_going refl (lit≤ tt))))
      (if_both (Sound regs l) _
      (if_both (Sound regs l) _ (sound_stop (Undefined (own_of regs) op) refl)
      (if_both (Sound regs l) _ (guarded _ (sound_going refl (lit≤ tt))) (landed regs _ _ l)))
      (if_both (Sound regs l) _ (guarded _ (sound_going refl (lit≤ tt))) (landed regs _ _ l)))

pub sound_effect : (f : Family) (regs : List ℕ) (op : ℕ) (s : Seen) (l : List ℕ) → Sound regs l (effect_of f regs op s l)
unfolding effect_of branch_link_exchange_of clz_of swi_of bkpt_of coprocessor_of clrex_of
sound_effect family.DataProcessing regs op s l = sound_dataproc regs l op s.c s.v
sound_effect family.MultiplyShort regs op s l = sound_short regs l op s.c s.v
sound_effect family.MultiplyLong regs op s l = sound_long regs l op s.c s.v
sound_effect family.Halfword regs op s l = sound_halfword regs l op
sound_effect family.Saturating regs op s l = sound_saturating regs l op
sound_effect family.Media regs op s l = media_left regs l op s.ge (kinds_of_media regs op s.ge)
sound_effect family.Branch regs op s l = sound_branch regs l op
sound_effect family.BranchExchange regs op s l = sound_branch_exchange regs l op
sound_effect family.BranchLinkExchange regs op s l = sound_going refl (lit≤ tt)
sound_effect family.CountZeros regs op s l = sound_going refl (lit≤ tt)
sound_effect family.Single regs op s l = sound_single regs l op s.c
sound_effect family.Extra regs op s l = sound_extra regs l op
sound_effect family.Block regs op s l = sound_block regs l op
sound_effect family.Swap regs op s l = sound_swap regs l op
sound_effect family.Exclusive regs op s l = sound_exclusive regs l op s.tag
sound_effect family.ClearExclusive regs op s l = sound_going refl (lit≤ tt)
sound_effect family.StatusMove regs op s l = sound_going refl (lit≤ tt)
sound_effect family.ChangeState regs op s l = sound_going refl (lit≤ tt)
sound_effect family.Preload regs op s l = sound_going refl (lit≤ tt)
sound_effect family.Supervisor regs op s l = sound_going refl (lit≤ tt)
sound_effect family.Breakpoint regs op s l = sound_stop (Breakpoint _ _) refl
sound_effect family.Coprocessor regs op s l = sound_stop (Coprocessor op) refl
sound_effect family.CoprocessorMove regs op s l = sound_move regs l op
sound_effect family.Undefined regs op s l = sound_stop (Undefined (own_of regs) op) refl

-- an instruction at `at`: the registers it was lent have r15 = A + 8
pub sound_turn : (regs : List ℕ) (at op : ℕ) (s : Seen) (l : List ℕ) → Sound (set regs 15 ((at + 8) % 2 ^ 32)) l (turn_of regs at op s l)
unfolding turn_of
sound_turn regs at op s l =
    if_both (Sound (set regs 15 ((at + 8) % 2 ^ 32)) l) _
    (sound_effect (family_of op) (set regs 15 ((at + 8) % 2 ^ 32)) op s l)
    (sound_going refl (lit≤ tt))
