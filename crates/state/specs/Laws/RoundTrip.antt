-- A machine written and read again is the same machine, where no GE exceeds 15; a machine read is valid.
use Rattle.std.specs.Result.{result_unwrap_or}
use Rattle.std.specs.Prelude.{Result, Option, Some, None, ◌≡◌, false, eqb, ltb, take}
use Rattle.std.proofs.Math.Path.{refl, sym, ap}
use Rattle.std.proofs.Common.{◌∙◌, add-one, lit<, lit≤, drop-cons, drop-drop, drop_at, take_at, get_or-drop}
use mathlib.Core.List.{List, [], ◌∷◌, ◌++◌, map, append_assoc}
use Prim.Native.Nat.{ℕ, zero, suc, ◌+◌, ◌*◌, ◌^◌, ◌≤◌, ◌<◌}
use native.Mathlib.Omega.{arith}
use Rattle.std.proofs.Math.ListN.{length, get_or, drop}
use borrow.Author.Tests.{le-ltb, le-leb}
use Rattle.bits.specs.Cases.{when◌then◌else◌, if_no, if_both}
use Rattle.bits.specs.Laws.Words.{join_lanes}
use Rattle.bits.specs.Laws.Bools.{bit_le}
use Rattle.psr.specs.declared.GeTooLarge.{GeTooLarge}
use Rattle.psr.specs.declared.Status.{Status}
use Rattle.psr.specs.Status.{word_of, status_of, packed_of, packed_word_of}
use Rattle.psr.specs.With.{with_ge}
use Rattle.psr.specs.Laws.Packing.{mode_lt, unpack_pack}
use Rattle.memory.specs.Bytes.{word_at}
use Rattle.memory.specs.Laws.Bytes.{Bytes, word_lt}
use Rattle.cpu.specs.Answers.{no_status, bad_of}
use Rattle.cpu.specs.Laws.Fits.{AllFit, good_fits}
use Rattle.cpu.specs.declared.Machine.{Machine}
use Rattle.state.specs.State.{word, words_from, bytes_of, ge_byte_of, tag_of, state_of, banked_record_of, records_of, ge_number_of, tag_words_of, state_words_of, state_bytes_of}
use Rattle.state.specs.Valid.{Fits, Words, TagFits, Valid}
use Rattle.state.specs.Laws.Words.{length_from}
use Rattle.state.specs.Laws.Parts.{length_words}

-- words come back out of their bytes
word_later : (a b c d : ℕ) (l : List ℕ) (i : ℕ) → word (a ∷ b ∷ c ∷ d ∷ l) (suc i) ≡ word l i
unfolding word_at
word_later a b c d l i =
    let e : 4 * suc i ≡ suc (suc (suc (suc (4 * i)))) = omega arith in
    let e₁ : 4 * suc i + 1 ≡ suc (suc (suc (suc (4 * i + 1)))) = omega arith in
    let e₂ : 4 * suc i + 2 ≡ suc (suc (suc (suc (4 * i + 2)))) = omega arith in
    let e₃ : 4 * suc i + 3 ≡ suc (suc (suc (suc (4 * i + 3)))) = omega arith in
    rw (e₁, e₂, e₃, e)

word_back : (ws : List ℕ) → Fits ws → (i : ℕ) → word (bytes_of ws) i ≡ get_or ws i 0
unfolding bytes_of word_at
word_back [] f i = refl
word_back (w ∷ ws) f zero = join_lanes w (f 0)
word_back (w ∷ ws) f (suc i) = word_later _ _ _ _ (bytes_of ws) i ∙ word_back ws (λ k. f (suc k)) i

words_back : (ws : List ℕ) → Fits ws → (i n : ℕ) → i + n ≤ length ws → words_from (bytes_of ws) i n ≡ take n (drop i ws)
unfolding words_from
words_back ws f i zero h = refl
words_back ws f i (suc n) h =
    let k : i < length ws = omega arith in
    rw (word_back ws f i, words_back ws f (i + 1) n (omega arith), add-one i, drop-cons ws i 0 k)

-- the parts of a list, one behind the other
module _ (ws p q : List ℕ) (i n : ℕ) (e : drop i ws ≡ p ++ q) (h : length p ≡ n) where
  part_here : take n (drop i ws) ≡ p
  part_here = rw e (take_at p q n h)

  part_next : (j : ℕ) → i + n ≡ j → drop j ws ≡ q
  part_next j k = rw (← k, ← drop-drop n i ws, e) (drop_at p q n h)

fits_append : (xs ys : List ℕ) → Fits xs → Fits ys → Fits (xs ++ ys)
fits_append [] ys f g i = g i
fits_append (x ∷ xs) ys f g zero = f 0
fits_append (x ∷ xs) ys f g (suc i) = fits_append xs ys (λ k. f (suc k)) g i

fits_tag : (t : Option ℕ) → TagFits t → Fits (tag_words_of t)
fits_tag None h zero = lit< tt
fits_tag None h (suc zero) = lit< tt
fits_tag None h (suc (suc i)) = lit< tt
fits_tag (Some a) h zero = lit< tt
fits_tag (Some a) h (suc zero) = h
fits_tag (Some a) h (suc (suc i)) = lit< tt

-- a number of each record, where it is a word for each whose GE fits
fits_map : (f : Status → ℕ) → ((s : Status) → s.ge ≤ 15 → f s < 2 ^ 32) → (l : List Status) → ((i : ℕ) → (get_or l i no_status).ge ≤ 15) → Fits (map f l)
fits_map f g [] h i = lit< tt
fits_map f g (s ∷ l) h zero = g s (h 0)
fits_map f g (s ∷ l) h (suc i) = fits_map f g l (λ k. h (suc k)) i

-- a record whose GE fits: its packed word, that this is a word, and the record back
module _ (s : Status) (h : s.ge ≤ 15) where
  packed_is : packed_word_of s ≡ word_of s
  unfolding packed_of
  packed_is = ap (λ (p : Result ℕ GeTooLarge). result_unwrap_or p 0) (if_no (ltb 15 s.ge) _ _ (le-ltb 15 s.ge h))

  packed_lt : packed_word_of s < 2 ^ 32
  unfolding word_of
  packed_lt =
      rw packed_is
      (omega (arith, bit_le s.n, bit_le s.z, bit_le s.c, bit_le s.v, bit_le s.q, bit_le s.e, bit_le s.a, bit_le s.i, bit_le s.f, bit_le s.t, mode_lt s.mode))

  record_back : (a b : ℕ) → a ≡ packed_word_of s → b ≡ s.ge → with_ge (status_of a) (ge_byte_of b) ≡ s
  unfolding ge_byte_of when◌then◌else◌
  record_back a b p q =
      let k : s.ge ≤ 255 = omega arith in
      rw (p, q, packed_is, le-leb s.ge 255 k, unpack_pack s h)

tag_back : (t : Option ℕ) (a b : ℕ) → a ≡ get_or (tag_words_of t) 0 0 → b ≡ get_or (tag_words_of t) 1 0 → (when eqb a 0 then None else Some b) ≡ t
unfolding when◌then◌else◌
tag_back None a b p q = rw p
tag_back (Some x) a b p q = rw (p, q)

five : (l : List Status) → length l ≡ 5
    → get_or l 0 no_status ∷ get_or l 1 no_status ∷ get_or l 2 no_status ∷ get_or l 3 no_status ∷ get_or l 4 no_status ∷ [] ≡ l
five [] h = absurd (omega arith)
five (a ∷ []) h = absurd (omega arith)
five (a ∷ b ∷ []) h = absurd (omega arith)
five (a ∷ b ∷ c ∷ []) h = absurd (omega arith)
five (a ∷ b ∷ c ∷ d ∷ []) h = absurd (omega arith)
five (a ∷ b ∷ c ∷ d ∷ e ∷ []) h = refl
five (a ∷ b ∷ c ∷ d ∷ e ∷ f ∷ l) h = absurd (omega arith)

ge_fits : (m : Machine) → AllFit m → (i : ℕ) → (get_or (records_of m) i no_status).ge ≤ 15
ge_fits m f zero = f.current
ge_fits m f (suc zero) = f.saved
ge_fits m f (suc (suc zero)) = f.banked 0 (lit< tt)
ge_fits m f (suc (suc (suc zero))) = f.banked 1 (lit< tt)
ge_fits m f (suc (suc (suc (suc zero)))) = f.banked 2 (lit< tt)
ge_fits m f (suc (suc (suc (suc (suc zero))))) = f.banked 3 (lit< tt)
ge_fits m f (suc (suc (suc (suc (suc (suc zero)))))) = f.banked 4 (lit< tt)
ge_fits m f (suc (suc (suc (suc (suc (suc (suc i))))))) = lit≤ tt

-- what stands behind each part of the way out
abbrev after_user : Machine → List ℕ
after_user m = tag_words_of m.tag

abbrev after_fiq : Machine → List ℕ
after_fiq m = m.user ++ after_user m

abbrev after_banked : Machine → List ℕ
after_banked m = m.fiq ++ after_fiq m

abbrev after_numbers : Machine → List ℕ
after_numbers m = m.banked ++ after_banked m

abbrev after_packed : Machine → List ℕ
after_packed m = map ge_number_of (records_of m) ++ after_numbers m

abbrev after_regs : Machine → List ℕ
after_regs m = map packed_word_of (records_of m) ++ after_packed m

parts : (m : Machine) → state_words_of m ≡ m.regs ++ after_regs m
unfolding state_words_of
parts m = simp append_assoc

module _ (m : Machine) (v : Valid m) (e : bad_of m ≡ false) where
  all_fit : Fits (state_words_of m)
  all_fit i =
      let g = ge_fits m (good_fits m e) in
      let f₆ : Fits (after_user m) = fits_tag m.tag v.tag in
      let f₅ : Fits (after_fiq m) = fits_append m.user (after_user m) v.user.fits f₆ in
      let f₄ : Fits (after_banked m) = fits_append m.fiq (after_fiq m) v.fiq.fits f₅ in
      let f₃ : Fits (after_numbers m) = fits_append m.banked (after_banked m) v.banked.fits f₄ in
      let f₂ : Fits (after_packed m) =
      fits_append (map ge_number_of (records_of m)) (after_numbers m) (fits_map ge_number_of (λ s h. omega arith) (records_of m) g) f₃ in
      let f₁ : Fits (after_regs m) = fits_append (map packed_word_of (records_of m)) (after_packed m) (fits_map packed_word_of packed_lt (records_of m) g) f₂ in
      rw (parts m) (fits_append m.regs (after_regs m) v.regs.fits f₁ i)

  pub read_written : state_of (state_bytes_of m) ≡ m
  unfolding state_of tag_of
  read_written =
      let ws : List ℕ = state_words_of m in
      let size : length ws ≡ 54 = length_words m (record { regs = v.regs.size; banked = v.banked.size; fiq = v.fiq.size; user = v.user.size }) in
      let g = ge_fits m (good_fits m e) in
      let packed : List ℕ = map packed_word_of (records_of m) in
      let numbers : List ℕ = map ge_number_of (records_of m) in
      let d₁₆ = part_next ws m.regs (after_regs m) 0 16 (parts m) v.regs.size 16 refl in
      let d₂₃ = part_next ws packed (after_packed m) 16 7 d₁₆ refl 23 refl in
      let d₃₀ = part_next ws numbers (after_numbers m) 23 7 d₂₃ refl 30 refl in
      let d₄₂ = part_next ws m.banked (after_banked m) 30 12 d₃₀ v.banked.size 42 refl in
      let d₄₇ = part_next ws m.fiq (after_fiq m) 42 5 d₄₂ v.fiq.size 47 refl in
      let d₅₂ = part_next ws m.user (after_user m) 47 5 d₄₇ v.user.size 52 refl in
      let at : (i k : ℕ) (r : List ℕ) → drop i ws ≡ r → word (bytes_of ws) (i + k) ≡ get_or r k 0 =
      λ i k r d. word_back ws all_fit (i + k) ∙ sym (get_or-drop i ws k 0) ∙ rw d in
      let status : (k : ℕ) → word (bytes_of ws) (16 + k) ≡ get_or (after_regs m) k 0 = λ k. at 16 k _ d₁₆ in
      let number : (k : ℕ) → word (bytes_of ws) (23 + k) ≡ get_or (after_packed m) k 0 = λ k. at 23 k _ d₂₃ in
      let regs = words_back ws all_fit 0 16 (omega arith) ∙ part_here ws m.regs (after_regs m) 0 16 (parts m) v.regs.size in
      let cpsr = record_back m.cpsr (g 0) _ _ (status 0) (number 0) in
      let spsr = record_back m.spsr (g 1) _ _ (status 1) (number 1) in
      let s₀ = record_back (banked_record_of m 0) (g 2) _ _ (status 2) (number 2) in
      let s₁ = record_back (banked_record_of m 1) (g 3) _ _ (status 3) (number 3) in
      let s₂ = record_back (banked_record_of m 2) (g 4) _ _ (status 4) (number 4) in
      let s₃ = record_back (banked_record_of m 3) (g 5) _ _ (status 5) (number 5) in
      let s₄ = record_back (banked_record_of m 4) (g 6) _ _ (status 6) (number 6) in
      let saved : (state_of (state_bytes_of m)).saved ≡ m.saved = rw (s₀, s₁, s₂, s₃, s₄) (five m.saved v.saved) in
      let banked = words_back ws all_fit 30 12 (omega arith) ∙ part_here ws m.banked (after_banked m) 30 12 d₃₀ v.banked.size in
      let fiq = words_back ws all_fit 42 5 (omega arith) ∙ part_here ws m.fiq (after_fiq m) 42 5 d₄₂ v.fiq.size in
      let user = words_back ws all_fit 47 5 (omega arith) ∙ part_here ws m.user (after_user m) 47 5 d₄₇ v.user.size in
      let tag = tag_back m.tag _ _ (at 52 0 _ d₅₂) (at 52 1 _ d₅₂) in
      λ j. record { regs = regs j; cpsr = cpsr j; spsr = spsr j; banked = banked j; saved = saved j; fiq = fiq j; user = user j; tag = tag j }

-- every machine that comes out of bytes is valid
from_fits : (l : List ℕ) → Bytes l → (i n : ℕ) → Fits (words_from l i n)
unfolding words_from
from_fits l b i zero k = lit< tt
from_fits l b i (suc n) zero = word_lt l (4 * i) b
from_fits l b i (suc n) (suc k) = from_fits l b (i + 1) n k

pub valid_read : (l : List ℕ) → Bytes l → Valid (state_of l)
unfolding state_of tag_of
valid_read l b =
    let from : (i n : ℕ) → Words n (words_from l i n) = λ i n. record { size = length_from l i n; fits = from_fits l b i n } in
    record {
      regs = from 0 16;
      banked = from 30 12;
      saved = refl;
      fiq = from 42 5;
      user = from 47 5;
      tag = if_both TagFits (eqb (word l 52) 0) tt (word_lt l (4 * 53) b);
    }
