-- An opcode of a link is of the data-processing family, by the encodings of Demand2.
use Rattle.std.specs.Prelude.{◌≡◌, refl, Bool, true, false, not, ◌&&◌, ◌||◌, ◌≢◌, ℕ, ◌+◌, ◌*◌, ◌/◌, ◌%◌, ◌^◌}
use Rattle.std.proofs.Common.{sym, ◌∙◌, arith, eqb-true}
use Rattle.std.proofs.lemmas.Bool.{false≢true, eqb-false, not-true}
use Rattle.bits.specs.Fields.{◌⟨◌⟩, ◌⟨◌‥◌⟩}
use Rattle.decode.specs.declared.Family.TheVariants.{DataProcessing}
use Rattle.decode.specs.Families.{family_of}
use Rattle.claims.specs.Demand2.{Miscellaneous}
use Rattle.claims.specs.Demand3.{Encodes}
use Rattle.claims.specs.Laws.Decoding.{operations, tables}

-- bits 27-25, as 27-26 and 25
space_is : (op : ℕ) → op ⟨ 27 ‥ 25 ⟩ ≡ op ⟨ 27 ‥ 26 ⟩ * 2 + op / 2 ^ 25 % 2
space_is op = omega arith

module _ {k op : ℕ} (e : Encodes k op) where
  conditional : op ⟨ 31 ‥ 28 ⟩ ≢ 15
  conditional z = omega (arith, e.condition, z)

  no_compare : ¬ Miscellaneous op
  no_compare m = false≢true (sym m.1 ∙ e.sets)

  by_form : (b : Bool) → op ⟨ 25 ⟩ ≡ b → (b || not (op ⟨ 7 ⟩ && op ⟨ 4 ⟩)) ≡ true → family_of op ≡ DataProcessing
  by_form true i f =
      let space : op ⟨ 27 ‥ 25 ⟩ ≡ 1 = let one = eqb-true (op / 2 ^ 25 % 2) 1 i in omega (arith, e.class, space_is op) in
      ((tables op).conditional conditional).data_processing_immediate space no_compare
  by_form false i f =
      let space : op ⟨ 27 ‥ 25 ⟩ ≡ 0 = let other = eqb-false (op / 2 ^ 25 % 2) 1 i in omega (arith, e.class, space_is op) in
      operations op conditional space (not-true (op ⟨ 7 ⟩ && op ⟨ 4 ⟩) f) no_compare

  pub data_processing : family_of op ≡ DataProcessing
  data_processing = by_form (op ⟨ 25 ⟩) refl e.form
