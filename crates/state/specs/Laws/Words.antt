-- Words read from bytes and placed into bytes, one turn at a time.
use Rattle.std.specs.Prelude.{◌≡◌, refl, List, [], ◌∷◌, ◌++◌, ℕ, zero, suc, ◌+◌, ◌*◌, ◌≤◌, ◌<◌, length, get_or, set, drop}
use Rattle.std.proofs.Common.{sym, ap, ◌∙◌, append-nil, arith, drop_of_length-le}
use Rattle.std.specs.Fn.{Mut, Called}
use Rattle.std.specs.Array.{IsFromFnResult, IsFromFnResultFrom}
use Rattle.std.proofs.lemmas.List.{drop_more}
use Rattle.std.proofs.lemmas.List.Edits.{sets, sets-eq}
use Rattle.std.proofs.Math.Seq.{drop-length}
use Rattle.bits.specs.Words.{lanes_of}
use Rattle.memory.specs.Bytes.{put_word}
use Rattle.state.specs.State.{word, words_from, bytes_of}

pub length_from : (l : List ℕ) (i n : ℕ) → length (words_from l i n) ≡ n
unfolding words_from
length_from l i zero = refl
length_from l i (suc n) = ap suc (length_from l (i + 1) n)

pub length_bytes : (ws : List ℕ) → length (bytes_of ws) ≡ 4 * length ws
unfolding bytes_of
length_bytes [] = refl
length_bytes (w ∷ ws) = let e = length_bytes ws in omega arith

bytes_append : (xs ys : List ℕ) → bytes_of (xs ++ ys) ≡ bytes_of xs ++ bytes_of ys
unfolding bytes_of
bytes_append [] ys = refl
bytes_append (x ∷ xs) ys = rw (bytes_append xs ys)

-- values stored over a whole list are what stands there
sets_all : (l vs : List ℕ) → length l ≡ length vs → sets l 0 vs ≡ vs
sets_all l vs h =
    let e : 0 + length vs ≡ length l = omega arith in
    sets-eq vs l 0 (omega arith) ∙ rw (e, drop-length l, append-nil vs)

-- values stored behind values
sets_join : (l : List ℕ) (i j : ℕ) (xs ys : List ℕ) → i + length xs ≡ j → sets (sets l i xs) j ys ≡ sets l i (xs ++ ys)
sets_join l i j [] ys h = let e : j ≡ i = omega arith in rw e
sets_join l i j (x ∷ xs) ys h = sets_join (set l i x) (suc i) j xs ys (omega arith)

-- the values of a function at n numbers from i on
abbrev pub values_from : {B : Type 0} → (ℕ → B) → ℕ → ℕ → List B
values_from v i zero = []
values_from v i (suc n) = v i ∷ values_from v (i + 1) n

-- calls that each give such a value
module _ {F B : Type 0} (g : Mut F (ℕ × Unit {0}) B) (f : F) (v : ℕ → B) (from : ℕ) (gives : (q : F) (i : ℕ) (r : B) → Called g f (i, tt) r q → (q ≡ f) × (r ≡ v (from + i))) where
  calls_from : (xs : List B) (n i k : ℕ) (p : F) → p ≡ f → i + n ≡ length xs → from + i ≡ k → IsFromFnResultFrom g p xs i n → drop i xs ≡ values_from v k n
  calls_from xs zero i k p s e m h = drop_of_length-le xs (omega arith)
  calls_from xs (suc n) i k p s e m (q, x, at, call, rest) =
      let o = gives q i x (rw s at call) in
      rw (← m, drop_more xs i x (omega arith), at.1 x, o.1, calls_from xs n (i + 1) (from + i + 1) q o.0 (omega arith) (omega arith) rest)

  pub values_called : (xs : List B) (n : ℕ) → IsFromFnResult g f xs n → xs ≡ values_from v from n
  values_called xs n h = calls_from xs n 0 from f refl (omega (arith, h.long)) (omega arith) h.each

pub words_are : (l : List ℕ) (i n : ℕ) → values_from (word l) i n ≡ words_from l i n
unfolding words_from
words_are l i zero = refl
words_are l i (suc n) = rw (words_are l (i + 1) n)

-- words placed from word i on
unfoldable pub placed : List ℕ → ℕ → List ℕ → List ℕ
placed l i ws = sets l (4 * i) (bytes_of ws)

pub placed_join : (l : List ℕ) (i j : ℕ) (xs ys : List ℕ) → i + length xs ≡ j → placed (placed l i xs) j ys ≡ placed l i (xs ++ ys)
unfolding placed
placed_join l i j xs ys h =
    let n : length (bytes_of xs) ≡ 4 * length xs = length_bytes xs in
    sets_join l (4 * i) (4 * j) (bytes_of xs) (bytes_of ys) (omega arith) ∙ rw (bytes_append xs ys)

pub placed_all : (l ws : List ℕ) → length l ≡ 4 * length ws → placed l 0 ws ≡ bytes_of ws
unfolding placed
placed_all l ws h = let n : length (bytes_of ws) ≡ 4 * length ws = length_bytes ws in sets_all l (bytes_of ws) (omega arith)

put_sets : (l : List ℕ) (at v : ℕ) → put_word l at v ≡ sets l at (lanes_of v)
unfolding put_word
put_sets l at v =
    let e : at + 1 ≡ suc at = omega arith in
    let f : at + 2 ≡ suc (suc at) = omega arith in
    let g : at + 3 ≡ suc (suc (suc at)) = omega arith in
    rw (e, f, g)

placed_next : (l : List ℕ) (k v : ℕ) (ws : List ℕ) → placed l k (v ∷ ws) ≡ placed (put_word l (4 * k) v) (k + 1) ws
unfolding placed bytes_of
placed_next l k v ws = sym (rw (put_sets l (4 * k) v) (sets_join l (4 * k) (4 * (k + 1)) (lanes_of v) (bytes_of ws) (omega arith)))

-- of words that go to their places in turn, word i and those behind it
pub placed_turn : (l : List ℕ) (from i : ℕ) (ws : List ℕ) → i < length ws
    → placed (put_word l (4 * (from + i)) (get_or ws i 0)) (from + (i + 1)) (drop (i + 1) ws) ≡ placed l (from + i) (drop i ws)
placed_turn l from i ws h =
    let e : from + (i + 1) ≡ from + i + 1 = omega arith in
    rw (e, drop_more ws i 0 h) (sym (placed_next l (from + i) (get_or ws i 0) (drop (i + 1) ws)))

-- and past the last of them
pub placed_past : (l : List ℕ) (k i : ℕ) (ws : List ℕ) → length ws ≤ i → placed l k (drop i ws) ≡ l
unfolding placed bytes_of
placed_past l k i ws h = rw (drop_of_length-le ws h)
