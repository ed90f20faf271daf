-- The parts of the way out, joined.
use Rattle.std.specs.Prelude.{Option, Some, None, ◌≡◌, refl, length}
use mathlib.Core.List.{List, ◌++◌, map}
use Prim.Native.Nat.{ℕ}
use Rattle.std.proofs.Common.{arith}
use Rattle.std.proofs.Math.ListN.{length-append}
use Rattle.cpu.specs.declared.Machine.{Machine}
use Rattle.psr.specs.Status.{packed_word_of}
use Rattle.state.specs.State.{bytes_of, records_of, ge_number_of, tag_words_of, state_words_of}
use Rattle.state.specs.Laws.Words.{placed, placed_join, placed_all}

-- the first thirty words placed, and the others behind them
unfoldable pub front_placed : List ℕ → Machine → List ℕ
front_placed l m = placed (placed (placed l 0 m.regs) 16 (map packed_word_of (records_of m))) 23 (map ge_number_of (records_of m))

unfoldable pub back_placed : List ℕ → Machine → List ℕ
back_placed l m = placed (placed (placed (placed l 30 m.banked) 42 m.fiq) 47 m.user) 52 (tag_words_of m.tag)

-- the lengths of the arrays of a machine
pub record Sized (m : Machine) : Type 0 where
  pub regs : length m.regs ≡ 16
  pub banked : length m.banked ≡ 12
  pub fiq : length m.fiq ≡ 5
  pub user : length m.user ≡ 5

length_tag : (t : Option ℕ) → length (tag_words_of t) ≡ 2
length_tag None = refl
length_tag (Some a) = refl

module _ (m : Machine) (s : Sized m) where
  pub length_words : length (state_words_of m) ≡ 54
  unfolding state_words_of
  length_words =
      let t = length_tag m.tag in
      simp length-append (omega arith)

  pub all_placed : (l : List ℕ) → length l ≡ 216 → back_placed (front_placed l m) m ≡ bytes_of (state_words_of m)
  unfolding front_placed back_placed state_words_of
  all_placed l h =
      let w₁₆ : List ℕ = m.regs in
      let w₂₃ : List ℕ = w₁₆ ++ map packed_word_of (records_of m) in
      let w₃₀ : List ℕ = w₂₃ ++ map ge_number_of (records_of m) in
      let w₄₂ : List ℕ = w₃₀ ++ m.banked in
      let w₄₇ : List ℕ = w₄₂ ++ m.fiq in
      let w₅₂ : List ℕ = w₄₇ ++ m.user in
      rw (
        placed_join l 0 16 w₁₆ (map packed_word_of (records_of m)) (omega arith),
        placed_join l 0 23 w₂₃ (map ge_number_of (records_of m)) (simp length-append (omega arith)),
        placed_join l 0 30 w₃₀ m.banked (simp length-append (omega arith)),
        placed_join l 0 42 w₄₂ m.fiq (simp length-append (omega arith)),
        placed_join l 0 47 w₄₇ m.user (simp length-append (omega arith)),
        placed_join l 0 52 w₅₂ (tag_words_of m.tag) (simp length-append (omega arith)),
      )
      (placed_all l (state_words_of m) (rw length_words h))
