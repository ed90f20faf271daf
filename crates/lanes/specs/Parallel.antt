-- Parallel add and subtract (DDI 0100I, A4.1): a lane of k bits in the six variants, and the lanes that each operation combines.
use Rattle.std.specs.Prelude.{Bool, true, false, List, [], ◌∷◌, ℕ, ◌+◌, ◌*◌, ◌%◌, ◌^◌, ℤ, pos, ◌+ℤ◌, ◌-ℤ◌, get_or}
use Rattle.std.specs.Bool.{then_some}
use Rattle.std.specs.Int.Signed.{le_z, shr_z}
use Rattle.bits.specs.Cases.{when◌then◌else◌}
use Rattle.bits.specs.Fields.{◌⟨◌‥◌⟩, bit_of}
use Rattle.bits.specs.Integers.{signed, wrap}
use Rattle.alu.specs.declared.Fitted.{Fitted}
use Rattle.alu.specs.Saturation.{signed_sat_of, unsigned_sat_of}
use Rattle.lanes.specs.declared.Variant.{Variant}
use Rattle.lanes.specs.declared.Variant.TheVariants.{Signed, Saturating, SignedHalving, Unsigned, UnsignedSaturating, UnsignedHalving}
use Rattle.lanes.specs.declared.Operation.{Operation}
use Rattle.lanes.specs.declared.Operation.TheVariants.{Add16, Asx, Sax, Sub16, Add8, Sub8}
use Rattle.lanes.specs.declared.Lane.{Lane}
use Rattle.lanes.specs.declared.Combined.{Combined}

-- the exact sum or difference of two integers
unfoldable pub result_of : Bool → ℤ → ℤ → ℤ
result_of sub x y = when sub then x -ℤ y else x +ℤ y

-- of two lanes of k bits read as signed, and read as unsigned
abbrev pub signed_of : ℕ → Bool → ℕ → ℕ → ℤ
signed_of k sub x y = result_of sub (signed k x) (signed k y)

abbrev pub unsigned_of : Bool → ℕ → ℕ → ℤ
unsigned_of sub x y = result_of sub (pos x) (pos y)

-- the exact result modulo 2^k; GE where it is not below `from`
abbrev pub wrapped_of : ℕ → ℕ → ℤ → Lane
wrapped_of k from z = record { value = wrap k z; ge = le_z (pos from) z }

-- what SignedSat or UnsignedSat gives, in the lane; no GE
abbrev pub kept_of : ℕ → Fitted → Lane
kept_of k s = record { value = s.value % 2 ^ k; ge = false }

-- sum[k:1] of the exact result, which is its half rounded down; no GE
abbrev pub halved_of : ℕ → ℤ → Lane
halved_of k z = record { value = wrap k (shr_z z 2); ge = false }

-- an unsigned GE is NOT BorrowFrom of a difference, CarryFrom of a sum
unfoldable pub unsigned_from : ℕ → Bool → ℕ
unsigned_from k sub = when sub then 0 else 2 ^ k

-- a lane of k bits, by the prefix: S (A4.1.62-64, 93-95), Q (47-49, 53-55), SH (68-73), U (118-120, 140-142), UQ (130-135), UH (121-126)
unfoldable pub lane_of : Variant → ℕ → Bool → ℕ → ℕ → Lane
lane_of Signed k sub x y = wrapped_of k 0 (signed_of k sub x y)
lane_of Saturating k sub x y = kept_of k (signed_sat_of k (signed_of k sub x y))
lane_of SignedHalving k sub x y = halved_of k (signed_of k sub x y)
lane_of Unsigned k sub x y = wrapped_of k (unsigned_from k sub) (unsigned_of sub x y)
lane_of UnsignedSaturating k sub x y = kept_of k (unsigned_sat_of k (unsigned_of sub x y))
lane_of UnsignedHalving k sub x y = halved_of k (unsigned_of sub x y)

-- S and U set GE, the others leave it
abbrev pub sets_ge : Variant → Bool
sets_ge Signed = true
sets_ge Saturating = false
sets_ge SignedHalving = false
sets_ge Unsigned = true
sets_ge UnsignedSaturating = false
sets_ge UnsignedHalving = false

-- bits 15-0 and 31-16 of a word of four bytes
abbrev pub low_of : List ℕ → ℕ
low_of w = get_or w 0 0 + get_or w 1 0 * 2 ^ 8

abbrev pub high_of : List ℕ → ℕ
high_of w = get_or w 2 0 + get_or w 3 0 * 2 ^ 8

-- GE[0] to GE[3] as a number
abbrev pub ge_of : Bool → Bool → Bool → Bool → ℕ
ge_of a b c d = bit_of a + bit_of b * 2 + bit_of c * 4 + bit_of d * 8

-- two halfword lanes: the low one's GE is GE[1:0], the high one's GE[3:2]; GE where the variant sets it
unfoldable pub halves_of : Variant → Lane → Lane → Combined
halves_of v low high =
    record {
      lanes = low.value ⟨ 7 ‥ 0 ⟩ ∷ low.value ⟨ 15 ‥ 8 ⟩ ∷ high.value ⟨ 7 ‥ 0 ⟩ ∷ high.value ⟨ 15 ‥ 8 ⟩ ∷ [];
      ge = then_some (sets_ge v) (ge_of low.ge low.ge high.ge high.ge);
    }

-- four byte lanes; GE likewise
unfoldable pub bytes_of : Variant → Lane → Lane → Lane → Lane → Combined
bytes_of v a b c d =
    record {
      lanes = a.value ∷ b.value ∷ c.value ∷ d.value ∷ [];
      ge = then_some (sets_ge v) (ge_of a.ge b.ge c.ge d.ge);
    }

-- each byte of n with the same byte of m
unfoldable pub bytewise_of : Variant → Bool → List ℕ → List ℕ → Combined
bytewise_of v sub n m =
    bytes_of v
    (lane_of v 8 sub (get_or n 0 0) (get_or m 0 0))
    (lane_of v 8 sub (get_or n 1 0) (get_or m 1 0))
    (lane_of v 8 sub (get_or n 2 0) (get_or m 2 0))
    (lane_of v 8 sub (get_or n 3 0) (get_or m 3 0))

-- halfword lanes
abbrev pub sum_of : Variant → ℕ → ℕ → Lane
sum_of v x y = lane_of v 16 false x y

abbrev pub difference_of : Variant → ℕ → ℕ → Lane
difference_of v x y = lane_of v 16 true x y

-- n and m are the bytes of Rn and Rm; for the prefix S: A4.1.62 SADD16, A4.1.64 SADDSUBX, A4.1.95 SSUBADDX, A4.1.93 SSUB16, A4.1.63 SADD8, A4.1.94 SSUB8
unfoldable pub parallel_of : Variant → Operation → List ℕ → List ℕ → Combined
parallel_of v Add16 n m = halves_of v (sum_of v (low_of n) (low_of m)) (sum_of v (high_of n) (high_of m))
parallel_of v Asx n m = halves_of v (difference_of v (low_of n) (high_of m)) (sum_of v (high_of n) (low_of m))
parallel_of v Sax n m = halves_of v (sum_of v (low_of n) (high_of m)) (difference_of v (high_of n) (low_of m))
parallel_of v Sub16 n m = halves_of v (difference_of v (low_of n) (low_of m)) (difference_of v (high_of n) (high_of m))
parallel_of v Add8 n m = bytewise_of v false n m
parallel_of v Sub8 n m = bytewise_of v true n m
