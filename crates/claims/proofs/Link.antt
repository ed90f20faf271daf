-- What one link leaves: its word in Rd and its flags in CPSR.
use Rattle.std.specs.Prelude.{◌≡◌, Bool, true, false, ℕ, ◌+◌, ◌-◌, ◌%◌, ◌^◌, ◌<◌, set}
use Rattle.std.proofs.Common.{sym, ◌∙◌, subst, arith, mod-lt, length-set, pow_pos}
use Rattle.std.proofs.Math.Path.{ap}
use mathlib.Core.List.{List}
use Rattle.std.proofs.Math.ListN.{get_or}
use Rattle.std.proofs.Math.Seq.{get_or-set_same, get_or-set_other}
use Rattle.bits.specs.Cases.{when◌then◌else◌}
use Rattle.bits.specs.Fields.{◌⟨◌⟩, ◌⟨◌‥◌⟩}
use Rattle.alu.specs.declared.Sum.{Sum}
use Rattle.alu.specs.Sums.{sbc_of, adc_of}
use Rattle.alu.specs.Numbers.{Pair}
use Rattle.alu.specs.Chains.{Flags}
use Rattle.cpu.specs.declared.Machine.{Machine}
use Rattle.cpu.specs.declared.Outcome.{Outcome}
use Rattle.cpu.specs.With.{with_regs}
use Rattle.transfer.specs.Transfers.{beside}
use Rattle.dataproc.specs.Dataproc.{first_of, operand_of, dataproc_of}
use Rattle.dataproc.specs.Laws.Links.{linked_of, subs_links, sbcs_links, adds_links, adcs_links}
use Rattle.arm.specs.Turn.{effect_of, turn_of}
use Rattle.state.specs.Valid.{Fits}
use Rattle.engine.specs.declared.Stepped.{Stepped}
use Rattle.engine.specs.Step.{going, next_of, turned_of, settled_of, executed_of}
use Rattle.claims.specs.Demand3.{State, view, reads_of, result_in, SUB, ADD, ADC, SBC, Link}
use Rattle.claims.specs.Laws.Operands.{fits_set, first_lt, operand_lt}
use Rattle.claims.specs.Laws.Family.{data_processing}
use Rattle.claims.specs.Laws.Finished.{took_executed}

-- w and the flags of t are those of the sum that f makes of the pair p and the carry b
pub record Linked (f : ℕ → ℕ → Bool → Sum) (b : Bool) (p : Pair) (w : ℕ) (t : State) : Type 0 where
  pub flags : Flags view (f p.first p.second b) t
  pub wrote : w ≡ (f p.first p.second b).value
  pub first_word : p.first < 2 ^ 32
  pub second_word : p.second < 2 ^ 32

module _ {k : ℕ} {s : State} {p : Pair} {w : ℕ} {t : State} (i : Link k s p w t) where
  abbrev m : Machine
  m = s.machine

  abbrev regs : List ℕ
  regs = reads_of s

  abbrev rd : ℕ
  rd = i.op ⟨ 15 ‥ 12 ⟩

  not_r15 : rd ≡ 15 → ⊥
  not_r15 e = omega (arith, i.encoding.destination)

  module _ (r : Sum) (same : dataproc_of regs i.op (view.c s) (view.v s) ≡ linked_of regs i.op r) where
    turned : turned_of m i.op s.bytes ≡ beside (linked_of regs i.op r) s.bytes
    unfolding turn_of effect_of when◌then◌else◌
    turned = rw (i.passed, data_processing i.encoding, same)

    abbrev settle : Outcome × List ℕ × List ℕ → Stepped × List ℕ
    settle x = settled_of x.0 (with_regs m x.1) (next_of m) i.op x.2

    after : (going t.machine, t.bytes) ≡ settle (beside (linked_of regs i.op r) s.bytes)
    unfolding executed_of
    after = took_executed i.took ∙ ap settle turned

    left_flags : Flags view r t
    unfolding settled_of
    left_flags =
        record {
          n_is = ap (λ (x : Stepped × List ℕ). x.0.machine.cpsr.n) after;
          z_is = ap (λ (x : Stepped × List ℕ). x.0.machine.cpsr.z) after;
          c_is = ap (λ (x : Stepped × List ℕ). x.0.machine.cpsr.c) after;
          v_is = ap (λ (x : Stepped × List ℕ). x.0.machine.cpsr.v) after;
        }

    abbrev written : List ℕ
    written = set regs rd r.value

    left_word : result_in t i.op ≡ r.value
    unfolding settled_of
    left_word =
        ap (λ (x : Stepped × List ℕ). get_or x.0.machine.regs rd 0) after
        ∙ get_or-set_other written 15 rd ((get_or written 15 0 + (2 ^ 32 - 4)) % 2 ^ 32) 0 not_r15
        ∙ get_or-set_same regs rd r.value 0 (rw (length-set m.regs 15 ((next_of m + 8) % 2 ^ 32), i.registers.size) (omega (arith, i.encoding.destination)))

  -- from what dataproc/specs/Laws/Links.antt says of the operation
  linked : (f : ℕ → ℕ → Bool → Sum) (b : Bool)
      → (i.op ⟨ 24 ‥ 21 ⟩ ≡ k
      → i.op ⟨ 20 ⟩ ≡ true
      → (rd ≡ 15 → ⊥)
      → dataproc_of regs i.op (view.c s) (view.v s) ≡ linked_of regs i.op (f (first_of regs i.op) (operand_of regs i.op (view.c s)).value b))
      → Linked f b p w t
  linked f b links =
      let same = links i.encoding.operation i.encoding.sets not_r15 in
      let fits : Fits regs = fits_set m.regs 15 ((next_of m + 8) % 2 ^ 32) (mod-lt (next_of m + 8) (pow_pos 32)) i.registers.fits in
      subst (λ (q : Pair). Linked f b q w t) (sym i.read)
      (record {
        flags = left_flags _ same;
        wrote = i.wrote ∙ left_word _ same;
        first_word = first_lt regs fits i.op;
        second_word = operand_lt regs fits i.op (view.c s);
      })

-- every link of the instruction k from s makes the sum that f makes with the carry b
abbrev pub Makes : (ℕ → ℕ → Bool → Sum) → Bool → ℕ → State → Type 0
Makes f b k s = (p : Pair) (w : ℕ) (t : State) → Link k s p w t → Linked f b p w t

module _ (s : State) where
  pub subs_make : Makes sbc_of true SUB s
  subs_make p w t i = linked i sbc_of true (subs_links (reads_of s) i.op (view.c s) (view.v s))

  pub sbcs_make : Makes sbc_of (view.c s) SBC s
  sbcs_make p w t i = linked i sbc_of (view.c s) (sbcs_links (reads_of s) i.op (view.c s) (view.v s))

  pub adds_make : Makes adc_of false ADD s
  adds_make p w t i = linked i adc_of false (adds_links (reads_of s) i.op (view.c s) (view.v s))

  pub adcs_make : Makes adc_of (view.c s) ADC s
  adcs_make p w t i = linked i adc_of (view.c s) (adcs_links (reads_of s) i.op (view.c s) (view.v s))
