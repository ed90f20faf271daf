-- Bools, and the number of a bool.
use Rattle.std.specs.Prelude.{◌≡◌, ◌+◌, ◌≤◌, Bool, true, false, not, ◌||◌, ◌==◌, refl}
use Rattle.std.proofs.Common.{sym, lit≤}
use Rattle.std.proofs.lemmas.Bool.{false≢true}
use Rattle.bits.specs.Fields.{bit_of}

pub bit_le : (b : Bool) → bit_of b ≤ 1
bit_le true = lit≤ tt
bit_le false = lit≤ tt

pub bit_not : (b : Bool) → bit_of (not b) + bit_of b ≡ 1
bit_not true = refl
bit_not false = refl

pub bit_eqb : (b : Bool) → (bit_of b == 1) ≡ b
bit_eqb true = refl
bit_eqb false = refl

pub neither : (a b : Bool) → (a || b) ≡ false → (a ≡ false) × (b ≡ false)
neither true b e = absurd (false≢true (sym e))
neither false b e = (refl, e)
