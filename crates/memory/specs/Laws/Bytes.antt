-- Reads after writes, untouched bytes, lengths and bounds, for every width at once.
use Rattle.std.specs.Prelude.{◌≡◌, refl, Bool, true, false, ◌⊎◌, List, ℕ, zero, suc, ◌+◌, ◌*◌, ◌/◌, ◌%◌, ◌^◌, ◌≤◌, ◌<◌, eqb, length, get_or, set}
use Rattle.std.proofs.Common.{◌∙◌, inl, inr, ⊎_elim, arith, pow-add, length-set, get_or-set_same, get_or-set_other, eqb-true}
use Rattle.std.proofs.lemmas.Nat.{mod-pow-add}
use Rattle.std.proofs.Math.Seq.{set_out}
use Rattle.std.proofs.lemmas.Bool.{eqb-false}
use Rattle.bits.specs.Laws.Order.{split}
use Rattle.memory.specs.declared.Width.{Width}
use Rattle.memory.specs.declared.Width.TheVariants.{Byte, Half, Word}
use Rattle.memory.specs.Bytes.{half_at, word_at, put_half, put_word, bytes_of, read_of, written_of}

-- the number in n bytes and the n low bytes of a number, for any n
unfoldable number_at : List ℕ → ℕ → ℕ → ℕ
number_at l at zero = 0
number_at l at (suc n) = get_or l at 0 + number_at l (at + 1) n * 2 ^ 8

unfoldable put_number : List ℕ → ℕ → ℕ → ℕ → List ℕ
put_number l at zero v = l
put_number l at (suc n) v = put_number (set l at (v % 2 ^ 8)) (at + 1) n (v / 2 ^ 8)

-- b lies outside the n bytes from at on
abbrev pub Clear : ℕ → ℕ → ℕ → Type 0
Clear at n b = (b < at) ⊎ (at + n ≤ b)

length_number : (l : List ℕ) (at n v : ℕ) → length (put_number l at n v) ≡ length l
unfolding put_number
length_number l at zero v = refl
length_number l at (suc n) v = length_number (set l at (v % 2 ^ 8)) (at + 1) n (v / 2 ^ 8) ∙ length-set l at (v % 2 ^ 8)

byte_number : (l : List ℕ) (at n v b : ℕ) → Clear at n b → get_or (put_number l at n v) b 0 ≡ get_or l b 0
unfolding put_number
byte_number l at zero v b h = refl
byte_number l at (suc n) v b h =
    let k : Clear (at + 1) n b = ⊎_elim (λ x. inl (omega arith)) (λ x. inr (omega arith)) h in
    let f : b ≡ at → ⊥ = λ e. ⊎_elim (λ x. omega arith) (λ x. omega arith) h in
    byte_number (set l at (v % 2 ^ 8)) (at + 1) n (v / 2 ^ 8) b k ∙ get_or-set_other l at b (v % 2 ^ 8) 0 f

number_same : (l : List ℕ) (at n v : ℕ) → at + n ≤ length l → number_at (put_number l at n v) at n ≡ v % 2 ^ (8 * n)
unfolding put_number number_at
number_same l at zero v h = omega arith
number_same l at (suc n) v h =
    let x : List ℕ = set l at (v % 2 ^ 8) in
    let f : at < length l = omega arith in
    let g : at + 1 + n ≤ length x = rw (length-set l at (v % 2 ^ 8)) (omega arith) in
    let low : get_or (put_number x (at + 1) n (v / 2 ^ 8)) at 0 ≡ v % 2 ^ 8 =
    byte_number x (at + 1) n (v / 2 ^ 8) at (inl (omega arith)) ∙ get_or-set_same l at (v % 2 ^ 8) 0 f in
    let e : 8 * suc n ≡ 8 * n + 8 = omega arith in
    rw (low, number_same x (at + 1) n (v / 2 ^ 8) g, e, mod-pow-add v (8 * n) 8) (omega arith)

number_away : (l : List ℕ) (at n v b m : ℕ) → (b + m ≤ at) ⊎ (at + n ≤ b) → number_at (put_number l at n v) b m ≡ number_at l b m
unfolding number_at
number_away l at n v b zero h = refl
number_away l at n v b (suc m) h =
    let k : Clear at n b = ⊎_elim (λ x. inl (omega arith)) (λ x. inr (omega arith)) h in
    let j : (b + 1 + m ≤ at) ⊎ (at + n ≤ b + 1) = ⊎_elim (λ x. inl (omega arith)) (λ x. inr (omega arith)) h in
    rw (byte_number l at n v b k, number_away l at n v (b + 1) m j)

-- every number of the list is a byte
abbrev pub Bytes : List ℕ → Type 0
Bytes l = (i : ℕ) → get_or l i 0 < 2 ^ 8

bytes_set : (l : List ℕ) (at v : ℕ) → v < 2 ^ 8 → Bytes l → Bytes (set l at v)
bytes_set l at v h b i = go (eqb i at) refl
  where
    go : (t : Bool) → eqb i at ≡ t → get_or (set l at v) i 0 < 2 ^ 8
    go true e =
        rw (eqb-true i at e)
        (⊎_elim (λ k. rw (get_or-set_same l at v 0 k) h) (λ k. rw (set_out l at v k) (b at)) (split at (length l)))
    go false e = rw (get_or-set_other l at i v 0 (eqb-false i at e)) (b i)

bytes_number : (l : List ℕ) (at n v : ℕ) → Bytes l → Bytes (put_number l at n v)
unfolding put_number
bytes_number l at zero v b = b
bytes_number l at (suc n) v b = bytes_number (set l at (v % 2 ^ 8)) (at + 1) n (v / 2 ^ 8) (bytes_set l at (v % 2 ^ 8) (omega arith) b)

number_lt : (l : List ℕ) (at n : ℕ) → Bytes l → number_at l at n < 2 ^ (8 * n)
unfolding number_at
number_lt l at zero b = omega arith
number_lt l at (suc n) b =
    let e : 8 * suc n ≡ 8 * n + 8 = omega arith in
    rw (e, pow-add 2 (8 * n) 8) (omega (arith, b at, number_lt l (at + 1) n b))

second : (at : ℕ) → at + 1 + 1 ≡ at + 2
second at = omega arith

third : (at : ℕ) → at + 2 + 1 ≡ at + 3
third at = omega arith

-- the three widths are instances
read_is : (l : List ℕ) (at : ℕ) (w : Width) → read_of l at w ≡ number_at l at (bytes_of w)
unfolding half_at word_at number_at
read_is l at Byte = omega arith
read_is l at Half = omega arith
read_is l at Word = rw (second at, third at) (omega arith)

written_is : (l : List ℕ) (at : ℕ) (w : Width) (v : ℕ) → written_of l at w v ≡ put_number l at (bytes_of w) v
unfolding put_half put_word put_number
written_is l at Byte v = refl
written_is l at Half v = refl
written_is l at Word v =
    let e : v / 2 ^ 8 / 2 ^ 8 ≡ v / 2 ^ 16 = omega arith in
    let f : v / 2 ^ 16 / 2 ^ 8 ≡ v / 2 ^ 24 = omega arith in
    rw (second at, third at, e, f)

module _ (l : List ℕ) (at : ℕ) (w : Width) (v : ℕ) where
  pub length_written : length (written_of l at w v) ≡ length l
  length_written = rw (written_is l at w v) (length_number l at (bytes_of w) v)

  pub read_written : at + bytes_of w ≤ length l → read_of (written_of l at w v) at w ≡ v % 2 ^ (8 * bytes_of w)
  read_written k = rw (read_is (written_of l at w v) at w, written_is l at w v) (number_same l at (bytes_of w) v k)

  pub byte_untouched : (b : ℕ) → Clear at (bytes_of w) b → get_or (written_of l at w v) b 0 ≡ get_or l b 0
  byte_untouched b k = rw (written_is l at w v) (byte_number l at (bytes_of w) v b k)

  pub read_untouched : (b : ℕ) (u : Width) → (b + bytes_of u ≤ at) ⊎ (at + bytes_of w ≤ b) → read_of (written_of l at w v) b u ≡ read_of l b u
  read_untouched b u k =
      rw (read_is (written_of l at w v) b u, read_is l b u, written_is l at w v) (number_away l at (bytes_of w) v b (bytes_of u) k)

  pub bytes_written : Bytes l → Bytes (written_of l at w v)
  bytes_written b = rw (written_is l at w v) (bytes_number l at (bytes_of w) v b)

pub read_lt : (l : List ℕ) (at : ℕ) (w : Width) → Bytes l → read_of l at w < 2 ^ (8 * bytes_of w)
read_lt l at w b = rw (read_is l at w) (number_lt l at (bytes_of w) b)

-- words, with which transfers of several go
module _ (l : List ℕ) (at v : ℕ) where
  pub length_word : length (put_word l at v) ≡ length l
  length_word = length_written l at Word v

  pub byte_word : (b : ℕ) → Clear at 4 b → get_or (put_word l at v) b 0 ≡ get_or l b 0
  byte_word = byte_untouched l at Word v

  pub bytes_word : Bytes l → Bytes (put_word l at v)
  bytes_word = bytes_written l at Word v

  pub word_same : at + 4 ≤ length l → word_at (put_word l at v) at ≡ v % 2 ^ 32
  word_same = read_written l at Word v

  pub word_away : (b : ℕ) → (b + 4 ≤ at) ⊎ (at + 4 ≤ b) → word_at (put_word l at v) b ≡ word_at l b
  word_away b = read_untouched l at Word v b Word

pub word_lt : (l : List ℕ) (at : ℕ) → Bytes l → word_at l at < 2 ^ 32
word_lt l at = read_lt l at Word
