-- SEL, USAD8 and USADA8, on words as their four bytes, the lowest first.
use Rattle.std.specs.Prelude.{List, [], ◌∷◌, ℕ, ◌+◌, ◌-◌, ◌%◌, ◌^◌, get_or}
use Rattle.bits.specs.Cases.{when◌then◌else◌, ◌<?◌}
use Rattle.bits.specs.Fields.{◌⟨◌⟩}

-- A4.1.66 SEL: each byte of Rn where its GE bit is set, else of Rm
unfoldable pub sel_of : ℕ → List ℕ → List ℕ → List ℕ
sel_of ge n m =
    (when ge ⟨ 0 ⟩ then get_or n 0 0 else get_or m 0 0)
    ∷ (when ge ⟨ 1 ⟩ then get_or n 1 0 else get_or m 1 0)
    ∷ (when ge ⟨ 2 ⟩ then get_or n 2 0 else get_or m 2 0)
    ∷ (when ge ⟨ 3 ⟩ then get_or n 3 0 else get_or m 3 0)
    ∷ []

-- the absolute difference of two bytes
unfoldable pub distance : ℕ → ℕ → ℕ
distance x y = when x <? y then y - x else x - y

-- of each byte of Rm and that of Rs
abbrev pub distances_of : List ℕ → List ℕ → List ℕ
distances_of m s =
    distance (get_or m 0 0) (get_or s 0 0)
    ∷ distance (get_or m 1 0) (get_or s 1 0)
    ∷ distance (get_or m 2 0) (get_or s 2 0)
    ∷ distance (get_or m 3 0) (get_or s 3 0)
    ∷ []

-- A4.1.136 USAD8: the sum of the absolute differences
unfoldable pub usad8_of : List ℕ → List ℕ → ℕ
usad8_of m s =
    distance (get_or m 0 0) (get_or s 0 0)
    + distance (get_or m 1 0) (get_or s 1 0)
    + distance (get_or m 2 0) (get_or s 2 0)
    + distance (get_or m 3 0) (get_or s 3 0)

-- A4.1.137 USADA8: added to Rn
unfoldable pub usada8_of : List ℕ → List ℕ → ℕ → ℕ
usada8_of m s n = (n + usad8_of m s) % 2 ^ 32
