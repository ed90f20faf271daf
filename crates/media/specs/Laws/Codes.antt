-- The codes that name a variant, an operation or an extension, by their bits.
use Rattle.std.specs.Prelude.{◌≡◌, ℕ, suc, zero, ◌/◌, ◌%◌, ◌^◌, ◌<◌, not, ◌&&◌, ◌||◌, ◌==◌, is_some, is_none, refl}
use Rattle.std.proofs.Common.{arith, mod-lt, lit<}
use Rattle.bits.specs.Cases.{when◌then◌else◌, ◌<?◌}
use Rattle.bits.specs.Fields.{◌⟨◌‥◌⟩}
use Rattle.media.specs.Media.{variant_of, operation_of, extension_of, allocated}

-- a fact about numbers below 8, checked one by one
below_8 : (P : ℕ → Type 0) → P 0 → P 1 → P 2 → P 3 → P 4 → P 5 → P 6 → P 7 → (k : ℕ) → k < 8 → P k
below_8 P p0 p1 p2 p3 p4 p5 p6 p7 zero h = p0
below_8 P p0 p1 p2 p3 p4 p5 p6 p7 (suc zero) h = p1
below_8 P p0 p1 p2 p3 p4 p5 p6 p7 (suc (suc zero)) h = p2
below_8 P p0 p1 p2 p3 p4 p5 p6 p7 (suc (suc (suc zero))) h = p3
below_8 P p0 p1 p2 p3 p4 p5 p6 p7 (suc (suc (suc (suc zero)))) h = p4
below_8 P p0 p1 p2 p3 p4 p5 p6 p7 (suc (suc (suc (suc (suc zero))))) h = p5
below_8 P p0 p1 p2 p3 p4 p5 p6 p7 (suc (suc (suc (suc (suc (suc zero)))))) h = p6
below_8 P p0 p1 p2 p3 p4 p5 p6 p7 (suc (suc (suc (suc (suc (suc (suc zero))))))) h = p7
below_8 P p0 p1 p2 p3 p4 p5 p6 p7 (suc (suc (suc (suc (suc (suc (suc (suc k)))))))) h = absurd (omega arith)

variant_is : (k : ℕ) → k < 8 → not (k % 4 == 0) ≡ is_some (variant_of k)
unfolding variant_of when◌then◌else◌
variant_is = below_8 (λ k. not (k % 4 == 0) ≡ is_some (variant_of k)) refl refl refl refl refl refl refl refl

operation_is : (k : ℕ) → k < 8 → ((k <? 5) || (k == 7)) ≡ is_some (operation_of k)
unfolding operation_of when◌then◌else◌
operation_is = below_8 (λ k. ((k <? 5) || (k == 7)) ≡ is_some (operation_of k)) refl refl refl refl refl refl refl refl

extension_is : (k : ℕ) → k < 8 → (k % 4 == 1) ≡ is_none (extension_of k)
unfolding extension_of when◌then◌else◌
extension_is = below_8 (λ k. (k % 4 == 1) ≡ is_none (extension_of k)) refl refl refl refl refl refl refl refl

module _ (op : ℕ) where
  low_two : op ⟨ 21 ‥ 20 ⟩ ≡ op ⟨ 22 ‥ 20 ⟩ % 4
  low_two = omega arith

  pub allocated_is : allocated op ≡ (is_some (variant_of (op ⟨ 22 ‥ 20 ⟩)) && is_some (operation_of (op ⟨ 7 ‥ 5 ⟩)))
  allocated_is =
      rw (low_two, variant_is (op ⟨ 22 ‥ 20 ⟩) (mod-lt (op / 2 ^ 20) (lit< tt)), operation_is (op ⟨ 7 ‥ 5 ⟩) (mod-lt (op / 2 ^ 5) (lit< tt)))

  pub unextended_is : (op ⟨ 21 ‥ 20 ⟩ == 1) ≡ is_none (extension_of (op ⟨ 22 ‥ 20 ⟩))
  unextended_is = rw (low_two, extension_is (op ⟨ 22 ‥ 20 ⟩) (mod-lt (op / 2 ^ 20) (lit< tt)))
