-- Plans a turn at a time, and what their answers say of every access.
use Rattle.std.specs.Prelude.{◌≡◌, Bool, true, false, Option, Some, None, Result, Ok, Err, List, [], ◌∷◌, ◌++◌, ℕ, zero, suc, ◌+◌, ◌-◌, ◌*◌, ◌%◌, ◌^◌, ◌≤◌, ◌<◌, length, get_or, set, take, drop}
use Rattle.std.proofs.Math.Path.{refl, sym, ap}
use Rattle.std.proofs.Common.{◌∙◌, mod-eq_of_lt, mul-suc, get_or-drop, drop-drop, append-nil, length-take-le, rules, ltb-true, ltb-false, lt-ltb, le-ltb}
use native.Mathlib.Omega.{arith}
use Rattle.std.proofs.Math.Numerals.{add-one}
use Rattle.std.proofs.Math.Nat.{mod-add-mod}
use Rattle.std.proofs.lemmas.List.{drop_all}
use Rattle.std.proofs.lemmas.List.Edits.{sets, sets-eq}
use Rattle.bits.specs.Cases.{when◌then◌else◌, if_yes, if_no}
use Rattle.bits.specs.Laws.Order.{left_next}
use Rattle.memory.specs.Bytes.{word_at, put_word}
use Rattle.memory.specs.Plans.{accesses_of, reaches_out, first_out, outside_of, words_at, loaded_of, put_words, stored_of, within_of, kept_of, performed_of}
use Rattle.memory.specs.declared.Outside.{Outside}
use Rattle.memory.specs.Laws.Bytes.{Clear, Bytes, length_word, byte_word, bytes_word}

-- one turn of a run of accesses, and its end
pub accesses_next : (at width n : ℕ) → 0 < n → accesses_of at width n ≡ at ∷ accesses_of ((at + width) % 2 ^ 32) width (n - 1)
unfolding accesses_of
accesses_next at width zero h = absurd (omega arith)
accesses_next at width (suc n) h = let e : suc n - 1 ≡ n = omega arith in rw e

pub accesses_end : (at width n : ℕ) → n ≤ 0 → accesses_of at width n ≡ []
unfolding accesses_of
accesses_end at width zero h = refl
accesses_end at width (suc n) h = absurd (omega arith)

pub length_accesses : (at width n : ℕ) → length (accesses_of at width n) ≡ n
unfolding accesses_of
length_accesses at width zero = refl
length_accesses at width (suc n) = ap suc (length_accesses ((at + width) % 2 ^ 32) width n)

-- the access at place i
pub access_at : (at width n i : ℕ) → at < 2 ^ 32 → i < n → get_or (accesses_of at width n) i 0 ≡ (at + width * i) % 2 ^ 32
unfolding accesses_of
access_at at width zero i h k = absurd (omega arith)
access_at at width (suc n) zero h k = let e : at + width * 0 ≡ at = omega arith in rw (e, mod-eq_of_lt h)
access_at at width (suc n) (suc i) h k =
    let e : at + width + width * i ≡ at + width * suc i = omega (arith, mul-suc width i) in
    access_at ((at + width) % 2 ^ 32) width n i (omega arith) (omega arith) ∙ mod-add-mod (at + width) (2 ^ 32) (width * i) ∙ rw e

module _ (len width a : ℕ) (rest : List ℕ) where
  first_here : reaches_out len a width ≡ true → first_out len width (a ∷ rest) ≡ Some a
  unfolding first_out
  first_here e = rw if_yes

  first_later : reaches_out len a width ≡ false → first_out len width (a ∷ rest) ≡ first_out len width rest
  unfolding first_out
  first_later e = rw if_no

  first_inside : first_out len width (a ∷ rest) ≡ None → (a + width ≤ len) × (first_out len width rest ≡ None)
  first_inside h = go (reaches_out len a width) refl
    where
      go : (t : Bool) → reaches_out len a width ≡ t → (a + width ≤ len) × (first_out len width rest ≡ None)
      go true e = let z : ◌≡◌ {A = ℕ} 0 1 = cc (first_here e) in absurd (omega arith)
      go false e = (ltb-false len (a + width) e, sym (first_later e) ∙ h)

-- where the answer is None, every access lies inside
pub inside_each : (len width : ℕ) (accesses : List ℕ) → first_out len width accesses ≡ None
    → (i : ℕ) → i < length accesses → get_or accesses i 0 + width ≤ len
inside_each len width [] h i k = absurd (omega arith)
inside_each len width (a ∷ rest) h zero k = (first_inside len width a rest h).0
inside_each len width (a ∷ rest) h (suc i) k = inside_each len width rest (first_inside len width a rest h).1 i (omega arith)

-- where the answer is Some a, some access is at a and has a byte outside, and every access before it lies inside
pub record First (len width : ℕ) (accesses : List ℕ) (a : ℕ) : Type 0 where
  pub place : ℕ
  pub listed : place < length accesses
  pub address : get_or accesses place 0 ≡ a
  pub reaches : len < a + width
  pub before : (i : ℕ) → i < place → get_or accesses i 0 + width ≤ len

pub outside_first : (len width : ℕ) (accesses : List ℕ) (a : ℕ) → first_out len width accesses ≡ Some a → First len width accesses a
unfolding first_out
outside_first len width [] a h = let z : ◌≡◌ {A = ℕ} 0 1 = cc in absurd (omega arith)
outside_first len width (x ∷ rest) a h = go (outside_first len width rest a) (reaches_out len x width) refl
  where
    go : (first_out len width rest ≡ Some a → First len width rest a) → (t : Bool) → reaches_out len x width ≡ t → First len width (x ∷ rest) a
    go more true e =
        let q : x ≡ a = cc (first_here len width x rest e) in
        record {
          place = 0;
          listed = omega arith;
          address = q;
          reaches = omega (arith, ltb-true len (x + width) e);
          before = λ i k. absurd (omega arith);
        }
    go more false e =
        let r : First len width rest a = more (sym (first_later len width x rest e) ∙ h) in
        record {
          place = suc r.place;
          listed = omega (arith, r.listed);
          address = r.address;
          reaches = r.reaches;
          before = before r.place r.before;
        }
      where
        before : (p : ℕ) → ((i : ℕ) → i < p → get_or rest i 0 + width ≤ len) → (i : ℕ) → i < suc p → get_or (x ∷ rest) i 0 + width ≤ len
        before p f zero k = ltb-false len (x + width) e
        before p f (suc i) k = f i (omega arith)

module _ (len at width n : ℕ) where
  pub out_here : 0 < n → reaches_out len at width ≡ true → outside_of len at width n ≡ Some at
  out_here h e = rw (accesses_next at width n h) (first_here len width at _ e)

  pub out_later : 0 < n → reaches_out len at width ≡ false → outside_of len at width n ≡ outside_of len ((at + width) % 2 ^ 32) width (n - 1)
  out_later h e = rw (accesses_next at width n h) (first_later len width at _ e)

  pub out_none : n ≤ 0 → outside_of len at width n ≡ None
  unfolding first_out
  out_none h = rw (accesses_end at width n h)

  -- where all lie inside, so does the first, and so do the others
  pub inside_next : 0 < n → outside_of len at width n ≡ None → (at + width ≤ len) × (outside_of len ((at + width) % 2 ^ 32) width (n - 1) ≡ None)
  inside_next h e = first_inside len width at _ (rw (accesses_next at width n h) at e)

-- one access alone, and two
pub inside_one : (len at width : ℕ) → outside_of len at width 1 ≡ None → at + width ≤ len
inside_one len at width h = (inside_next len at width 1 (omega arith) h).0

pub inside_two : (len at width : ℕ) → outside_of len at width 2 ≡ None → (at + width ≤ len) × ((at + width) % 2 ^ 32 + width ≤ len)
inside_two len at width h =
    let n = inside_next len at width 2 (omega arith) h in
    (n.0, inside_one len ((at + width) % 2 ^ 32) width n.1)

pub out_one : (len at width : ℕ) → outside_of len at width 1 ≡ (when reaches_out len at width then Some at else None)
unfolding first_out accesses_of
out_one len at width = refl

-- what a caller knows of an access once `reaches_out` answered false: `search reached` closes what a read or a write requires
pub told_inside : (len at width : ℕ) (r : Bool) → r ≡ reaches_out len at width → r ≡ false → at + width ≤ len
told_inside len at width r e h = ltb-false len (at + width) (sym e ∙ h)

pub ruleset reached = (rules, told_inside)

-- a run that lies inside does not wrap: it is the bytes from at to at + width * n
pub inside_span : (len at width n : ℕ) → len < 2 ^ 32 → outside_of len at width (suc n) ≡ None → at + width * suc n ≤ len
unfolding accesses_of
inside_span len at width zero l h = omega (arith, (first_inside len width at _ h).0)
inside_span len at width (suc n) l h =
    let k : at + width ≤ len = (first_inside len width at _ h).0 in
    let e : (at + width) % 2 ^ 32 ≡ at + width = omega arith in
    omega (arith, mul-suc width (suc n), rw e at (inside_span len ((at + width) % 2 ^ 32) width n l (first_inside len width at _ h).1))

pub span_inside : (len at width n : ℕ) → at + width * n ≤ len → outside_of len at width n ≡ None
unfolding accesses_of first_out
span_inside len at width zero h = refl
span_inside len at width (suc n) h =
    let k : at + width ≤ len = omega (arith, mul-suc width n) in
    first_later len width at (accesses_of ((at + width) % 2 ^ 32) width n) (le-ltb len (at + width) k)
    ∙ span_inside len ((at + width) % 2 ^ 32) width n (omega (arith, mul-suc width n))

-- the address wraps to 0 behind the last word, the access there does not: it is the first that is reported
pub last_word : (len : ℕ) → len ≤ 65536 → outside_of len 0xFFFFFFFC 4 2 ≡ Some 0xFFFFFFFC
last_word len h = out_here len 0xFFFFFFFC 4 2 (omega arith) (lt-ltb len 0x100000000 (omega arith))

-- a transfer of words stores no other byte, keeps the length, and stores bytes
pub length_words : (l addresses values : List ℕ) → length (put_words l addresses values) ≡ length l
unfolding put_words
length_words l [] values = refl
length_words l (a ∷ rest) values = length_words (put_word l a (get_or values 0 0)) rest (drop 1 values) ∙ length_word l a (get_or values 0 0)

pub bytes_words : (l addresses values : List ℕ) → Bytes l → Bytes (put_words l addresses values)
unfolding put_words
bytes_words l [] values b = b
bytes_words l (a ∷ rest) values b = bytes_words (put_word l a (get_or values 0 0)) rest (drop 1 values) (bytes_word l a (get_or values 0 0) b)

pub byte_words : (l addresses values : List ℕ) (b : ℕ) → ((i : ℕ) → i < length addresses → Clear (get_or addresses i 0) 4 b)
    → get_or (put_words l addresses values) b 0 ≡ get_or l b 0
unfolding put_words
byte_words l [] values b h = refl
byte_words l (a ∷ rest) values b h =
    byte_words (put_word l a (get_or values 0 0)) rest (drop 1 values) b (λ i k. h (suc i) (omega arith))
    ∙ byte_word l a (get_or values 0 0) b (h 0 (omega arith))

pub length_words_at : (l addresses : List ℕ) → length (words_at l addresses) ≡ length addresses
unfolding words_at
length_words_at l [] = refl
length_words_at l (a ∷ rest) = ap suc (length_words_at l rest)

-- what a load leaves in values that have room for it: the words, and behind them what was there
pub loaded_is : (l : List ℕ) (at count : ℕ) (values : List ℕ) → count ≤ length values
    → loaded_of l at count values ≡ words_at l (accesses_of at 4 count) ++ drop count values
unfolding loaded_of
loaded_is l at count values h =
    let n : length (words_at l (accesses_of at 4 count)) ≡ count = length_words_at l (accesses_of at 4 count) ∙ length_accesses at 4 count in
    sets-eq (words_at l (accesses_of at 4 count)) values 0 (rw n (omega arith)) ∙ rw n (let e : 0 + count ≡ count = omega arith in rw e)

-- the same where the words went into the first of the values alone
pub loaded_front : (l : List ℕ) (at count : ℕ) (values front : List ℕ) → count ≤ length values → front ≡ loaded_of l at count (take count values)
    → front ++ drop count values ≡ loaded_of l at count values
loaded_front l at count values front h e =
    let n : length (take count values) ≡ count = length-take-le count values h in
    let z : drop count (take count values) ≡ [] = drop_all count (take count values) (omega (arith, n)) in
    rw (e, loaded_is l at count (take count values) (omega (arith, n)), z, loaded_is l at count values h, append-nil)

-- A load under way: i words are in their places, the others will come from a on.
pub record Loading (l : List ℕ) (at count : ℕ) (before values : List ℕ) (a i : ℕ) : Type 0 where
  pub inside : outside_of (length l) a 4 (count - i) ≡ None
  pub whole : loaded_of l at count before ≡ sets values i (words_at l (accesses_of a 4 (count - i)))

pub loading_first : (l : List ℕ) (at count : ℕ) (values : List ℕ) → outside_of (length l) at 4 count ≡ None → Loading l at count values values at 0
unfolding loaded_of
loading_first l at count values h = let e : count - 0 ≡ count = omega arith in record { inside = rw e h; whole = rw e }

module _ {l : List ℕ} {at count : ℕ} {before values : List ℕ} {a i : ℕ} (s : Loading l at count before values a i) where
  pub loading_here : i < count → a + 4 ≤ length l
  loading_here h = (inside_next (length l) a 4 (count - i) (omega arith) s.inside).0

  pub loading_next : i < count → Loading l at count before (set values i (word_at l a)) ((a + 4) % 2 ^ 32) (i + 1)
  unfolding words_at
  loading_next h =
      let p : 0 < count - i = omega arith in
      record {
        inside = rw (← left_next count i) (inside_next (length l) a 4 (count - i) p s.inside).1;
        whole = s.whole ∙ rw (accesses_next a 4 (count - i) p, left_next count i, add-one i);
      }

  pub loading_last : count ≤ i → values ≡ loaded_of l at count before
  unfolding words_at
  loading_last h = let z : count - i ≤ 0 = omega arith in sym (s.whole ∙ rw (accesses_end a 4 (count - i) z))

put_next : (l : List ℕ) (a i : ℕ) (rest values : List ℕ) → put_words l (a ∷ rest) (drop i values) ≡ put_words (put_word l a (get_or values i 0)) rest (drop (i + 1) values)
unfolding put_words
put_next l a i rest values =
    let e : i + 0 ≡ i = omega arith in
    let h : get_or (drop i values) 0 0 ≡ get_or values i 0 = get_or-drop i values 0 0 ∙ rw e in
    let k : drop 1 (drop i values) ≡ drop (i + 1) values = drop-drop 1 i values in
    let p : put_words l (a ∷ rest) (drop i values) ≡ put_words (put_word l a (get_or (drop i values) 0 0)) rest (drop 1 (drop i values)) = refl in
    p ∙ rw (h, k)

-- A store under way: i values are in their places, the others will go from a on.
pub record Storing (before : List ℕ) (at count : ℕ) (values l : List ℕ) (a i : ℕ) : Type 0 where
  pub inside : outside_of (length l) a 4 (count - i) ≡ None
  pub whole : stored_of before at count values ≡ put_words l (accesses_of a 4 (count - i)) (drop i values)

pub storing_first : (l : List ℕ) (at count : ℕ) (values : List ℕ) → outside_of (length l) at 4 count ≡ None → Storing l at count values l at 0
unfolding stored_of
storing_first l at count values h = let e : count - 0 ≡ count = omega arith in record { inside = rw e h; whole = rw e }

module _ {before : List ℕ} {at count : ℕ} {values l : List ℕ} {a i : ℕ} (s : Storing before at count values l a i) where
  pub storing_here : i < count → a + 4 ≤ length l
  storing_here h = (inside_next (length l) a 4 (count - i) (omega arith) s.inside).0

  pub storing_next : i < count → Storing before at count values (put_word l a (get_or values i 0)) ((a + 4) % 2 ^ 32) (i + 1)
  storing_next h =
      let p : 0 < count - i = omega arith in
      record {
        inside = rw (length_word l a (get_or values i 0), ← left_next count i) (inside_next (length l) a 4 (count - i) p s.inside).1;
        whole = s.whole ∙ rw (accesses_next a 4 (count - i) p, put_next, left_next count i);
      }

  pub storing_last : count ≤ i → l ≡ stored_of before at count values
  unfolding put_words
  storing_last h = let z : count - i ≤ 0 = omega arith in sym (s.whole ∙ rw (accesses_end a 4 (count - i) z))

-- the tested answer of a plan, and what it says of the test
module _ {A : Type 0} where
  pub within_ok : (f : Option ℕ) (x y : A) → within_of f x ≡ Ok y → (f ≡ None) × (x ≡ y)
  unfolding within_of
  within_ok None x y e = (refl, cc)
  within_ok (Some a) x y e = let z : ◌≡◌ {A = ℕ} 0 1 = cc in absurd (omega arith)

  pub within_err : (f : Option ℕ) (x : A) (o : Outside) → within_of f x ≡ Err o → f ≡ Some o.0
  unfolding within_of
  within_err None x o e = let z : ◌≡◌ {A = ℕ} 0 1 = cc in absurd (omega arith)
  within_err (Some a) x o e = let k : record { 0 = a } ≡ o = cc in ap (λ (o : Outside). Some o.0) k

-- what a caller learns where a plan was performed, and where it was refused: r is the answer, x what stands afterwards
module _ {A : Type 0} {r : Result Unit Outside} {x : A} (f : Option ℕ) (before after : A) (e : ◌≡◌ {A = Result Unit Outside × A} (r, x) (performed_of f before after)) where
  pub performed_same : r ≡ within_of f tt
  performed_same = ap (λ (p : Result Unit Outside × A). p.0) e

  performed_kept : x ≡ kept_of f before after
  performed_kept = ap (λ (p : Result Unit Outside × A). p.1) e

  pub performed_none : r ≡ Ok tt → f ≡ None
  performed_none h = (within_ok f tt tt (sym performed_same ∙ h)).0

  pub performed_some : (o : Outside) → r ≡ Err o → f ≡ Some o.0
  performed_some o h = within_err f tt o (sym performed_same ∙ h)

  pub performed_inside : r ≡ Ok tt → x ≡ after
  unfolding kept_of
  performed_inside h = performed_kept ∙ rw (performed_none h)

  pub performed_outside : (o : Outside) → r ≡ Err o → x ≡ before
  unfolding kept_of
  performed_outside o h = performed_kept ∙ rw (performed_some o h)
