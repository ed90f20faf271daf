-- A word as the page shows it, in ASCII: a space (32) and eight hexadecimal digits with capital letters, the highest first.
use Rattle.std.specs.Prelude.{List, [], ◌∷◌, ℕ, ◌+◌}
use Rattle.bits.specs.Cases.{when◌then◌else◌, ◌<?◌}
use Rattle.bits.specs.Fields.{◌⟨◌‥◌⟩}

-- 48 is 0, and 65 is A
unfoldable pub glyph_of : ℕ → ℕ
glyph_of d = when d <? 10 then 48 + d else 55 + d

unfoldable pub spaced_of : ℕ → List ℕ
spaced_of x =
    32
    ∷ glyph_of (x ⟨ 31 ‥ 28 ⟩)
    ∷ glyph_of (x ⟨ 27 ‥ 24 ⟩)
    ∷ glyph_of (x ⟨ 23 ‥ 20 ⟩)
    ∷ glyph_of (x ⟨ 19 ‥ 16 ⟩)
    ∷ glyph_of (x ⟨ 15 ‥ 12 ⟩)
    ∷ glyph_of (x ⟨ 11 ‥ 8 ⟩)
    ∷ glyph_of (x ⟨ 7 ‥ 4 ⟩)
    ∷ glyph_of (x ⟨ 3 ‥ 0 ⟩)
    ∷ []
