-- Where a parallel sum sets GE, it is of four bits.
use Rattle.std.specs.Prelude.{Bool, true, false, List, ℕ, ◌≤◌, ◌<◌, Option, Some, None, IfSome}
use Rattle.std.specs.Bool.{then_some}
use Rattle.std.proofs.Common.{arith}
use Rattle.bits.specs.Laws.Bools.{bit_le}
use Rattle.lanes.specs.declared.Variant.{Variant}
use Rattle.lanes.specs.declared.Operation.{Operation}
use Rattle.lanes.specs.declared.Operation.TheVariants.{Add16, Asx, Sax, Sub16, Add8, Sub8}
use Rattle.lanes.specs.declared.Lane.{Lane}
use Rattle.lanes.specs.Parallel.{sets_ge, ge_of, halves_of, bytes_of, bytewise_of, parallel_of}

ge_small : (a b c d : Bool) → ge_of a b c d ≤ 15
ge_small a b c d = omega (arith, bit_le a, bit_le b, bit_le c, bit_le d)

abbrev pub Small : Option ℕ → Type 0
Small ge = IfSome ge (λ n. n ≤ 15)

pub where_set : (P : ℕ → Type 0) (b : Bool) {n : ℕ} → P n → IfSome (then_some b n) P
where_set P true h = h
where_set P false h = tt

halves_ge : (v : Variant) (low high : Lane) → Small (halves_of v low high).ge
unfolding halves_of
halves_ge v low high = where_set (λ n. n ≤ 15) (sets_ge v) (ge_small low.ge low.ge high.ge high.ge)

bytes_ge : (v : Variant) (a b c d : Lane) → Small (bytes_of v a b c d).ge
unfolding bytes_of
bytes_ge v a b c d = where_set (λ n. n ≤ 15) (sets_ge v) (ge_small a.ge b.ge c.ge d.ge)

pub parallel_ge : (v : Variant) (o : Operation) (n m : List ℕ) → Small (parallel_of v o n m).ge
unfolding parallel_of bytewise_of
parallel_ge v Add16 n m = halves_ge v _ _
parallel_ge v Asx n m = halves_ge v _ _
parallel_ge v Sax n m = halves_ge v _ _
parallel_ge v Sub16 n m = halves_ge v _ _
parallel_ge v Add8 n m = bytes_ge v _ _ _ _
parallel_ge v Sub8 n m = bytes_ge v _ _ _ _

below : (ge : Option ℕ) → Small ge → IfSome ge (λ n. n < 16)
below (Some n) h = omega (arith, h)
below None h = tt

-- the same as the code's promise has it
pub halves_below : (v : Variant) (low high : Lane) → IfSome (halves_of v low high).ge (λ n. n < 16)
halves_below v low high = below _ (halves_ge v low high)

pub bytewise_below : (v : Variant) (sub : Bool) (n m : List ℕ) → IfSome (bytewise_of v sub n m).ge (λ n. n < 16)
unfolding bytewise_of
bytewise_below v sub n m = below _ (bytes_ge v _ _ _ _)
