-- A field of bits 27-20 or of bits 7-4, by which decoding goes, is a field of the opcode.
use Rattle.std.specs.Prelude.{◌≡◌, ℕ, ◌/◌, ◌%◌, ◌^◌, ◌==◌}
use Rattle.std.proofs.Common.{ap, arith}
use Rattle.bits.specs.Fields.{◌⟨◌⟩, ◌⟨◌‥◌⟩}

module _ (op : ℕ) where
  abbrev pub hi : ℕ
  hi = op ⟨ 27 ‥ 20 ⟩

  abbrev pub lo : ℕ
  lo = op ⟨ 7 ‥ 4 ⟩

  pub bits_27_25 : hi ⟨ 7 ‥ 5 ⟩ ≡ op ⟨ 27 ‥ 25 ⟩
  bits_27_25 = omega arith

  pub bits_24_23 : hi ⟨ 4 ‥ 3 ⟩ ≡ op ⟨ 24 ‥ 23 ⟩
  bits_24_23 = omega arith

  pub bits_23_21 : hi ⟨ 3 ‥ 1 ⟩ ≡ op ⟨ 23 ‥ 21 ⟩
  bits_23_21 = omega arith

  pub bits_22_21 : hi ⟨ 2 ‥ 1 ⟩ ≡ op ⟨ 22 ‥ 21 ⟩
  bits_22_21 = omega arith

  pub bits_6_5 : lo ⟨ 2 ‥ 1 ⟩ ≡ op ⟨ 6 ‥ 5 ⟩
  bits_6_5 = omega arith

  pub bit_24 : hi ⟨ 4 ⟩ ≡ op ⟨ 24 ⟩
  bit_24 = let e : hi / 2 ^ 4 % 2 ≡ op / 2 ^ 24 % 2 = omega arith in ap (λ (x : ℕ). x == 1) e

  pub bit_23 : hi ⟨ 3 ⟩ ≡ op ⟨ 23 ⟩
  bit_23 = let e : hi / 2 ^ 3 % 2 ≡ op / 2 ^ 23 % 2 = omega arith in ap (λ (x : ℕ). x == 1) e

  pub bit_21 : hi ⟨ 1 ⟩ ≡ op ⟨ 21 ⟩
  bit_21 = let e : hi / 2 ^ 1 % 2 ≡ op / 2 ^ 21 % 2 = omega arith in ap (λ (x : ℕ). x == 1) e

  pub bit_20 : hi ⟨ 0 ⟩ ≡ op ⟨ 20 ⟩
  bit_20 = let e : hi % 2 ≡ op / 2 ^ 20 % 2 = omega arith in ap (λ (x : ℕ). x == 1) e

  pub bit_7 : lo ⟨ 3 ⟩ ≡ op ⟨ 7 ⟩
  bit_7 = let e : lo / 2 ^ 3 % 2 ≡ op / 2 ^ 7 % 2 = omega arith in ap (λ (x : ℕ). x == 1) e

  pub bit_4 : lo ⟨ 0 ⟩ ≡ op ⟨ 4 ⟩
  bit_4 = let e : lo % 2 ≡ op / 2 ^ 4 % 2 = omega arith in ap (λ (x : ℕ). x == 1) e
