-- A transfer a register at a time.
use Rattle.std.specs.Prelude.{◌≡◌, None, ℕ, suc, ◌+◌, ◌-◌, ◌/◌, ◌%◌, ◌^◌, ◌≤◌, ◌<◌}
use Rattle.std.proofs.Math.Path.{refl, ap}
use Rattle.std.proofs.Common.{◌∙◌, arith}
use mathlib.Core.List.{List, [], ◌∷◌, map}
use Rattle.std.proofs.Math.ListN.{length}
use Rattle.memory.specs.Bytes.{word_at, put_word}
use Rattle.memory.specs.Plans.{accesses_of, outside_of, words_at, put_words, stored_of}
use Rattle.memory.specs.Laws.Plans.{inside_next}
use Rattle.memory.specs.Laws.Bytes.{length_word}
use Rattle.block.specs.declared.Plan.{Plan}
use Rattle.block.specs.Block.{found_of, stored_list_of, put_each, loaded_list_of}
use Rattle.block.specs.Laws.Lists.{rest_of, halved_is, rest_set, rest_clear, rest_small, rest_none, count_rest}

-- A transfer under way: the registers of rest, from i on, have their words from a on.
pub record Under (len rest a i : ℕ) : Type 0 where
  pub small : rest < 2 ^ (16 - i)
  pub inside : outside_of len a 4 (length (rest_of i rest)) ≡ None

pub under_first : (p : Plan) (len : ℕ) → p.list < 2 ^ 16 → found_of p len ≡ None → Under len p.list p.start 0
under_first p len s t = record { small = s; inside = rw (count_rest p.list s) at t }

-- behind the sixteenth register nothing is left
pub under_none : {len rest a i : ℕ} → Under len rest a i → 16 ≤ i → rest ≤ 0
under_none {i = i} u h = let e : 16 - i ≡ 0 = omega arith in omega (arith, rw e at u.small)

module _ {len rest a i : ℕ} (u : Under len rest a i) (h : i < 16) where
  under_next : rest % 2 ≡ 1 → (a + 4 ≤ len) × (outside_of len ((a + 4) % 2 ^ 32) 4 (length (rest_of (i + 1) (rest / 2))) ≡ None)
  under_next b =
      let n : ℕ = length (rest_of (i + 1) (rest / 2)) in
      let e : suc n - 1 ≡ n = omega arith in
      rw e at (inside_next len a 4 (suc n) (omega arith) (rw (rest_set i rest h b) at u.inside))

  pub under_here : rest % 2 ≡ 1 → a + 4 ≤ len
  under_here b = (under_next b).0

  pub under_set : rest % 2 ≡ 1 → Under len (rest / 2) ((a + 4) % 2 ^ 32) (i + 1)
  under_set b = record { small = rest_small i rest h u.small; inside = (under_next b).1 }

  pub under_clear : (rest % 2 ≡ 1 → ⊥) → Under len (rest / 2) a (i + 1)
  under_clear b =
      record { small = rest_small i rest h u.small; inside = rw (rest_clear i rest h b) at u.inside }

-- a store, a register at a time
unfoldable pub stored_from : (ℕ → ℕ) → List ℕ → ℕ → List ℕ → List ℕ
stored_from source l at [] = l
stored_from source l at (r ∷ rest) = stored_from source (put_word l at (source r)) ((at + 4) % 2 ^ 32) rest

stored_from_lem : (source : ℕ → ℕ) (l : List ℕ) (at : ℕ) (rs : List ℕ) → stored_of l at (length rs) (map source rs) ≡ stored_from source l at rs
unfolding stored_of put_words accesses_of stored_from
stored_from_lem source l at [] = refl
stored_from_lem source l at (r ∷ rs) = stored_from_lem source (put_word l at (source r)) ((at + 4) % 2 ^ 32) rs

pub stored_is : (p : Plan) (source : ℕ → ℕ) (l : List ℕ) → p.list < 2 ^ 16 → stored_list_of p source l ≡ stored_from source l p.start (rest_of 0 p.list)
stored_is p source l h =
    rw (halved_is p.list, count_rest p.list h) (stored_from_lem source l p.start (rest_of 0 p.list))

-- A store under way: what is to come makes of l what the whole makes of memory as it was.
pub record Storing (source : ℕ → ℕ) (before : List ℕ) (at list : ℕ) (l : List ℕ) (rest a i : ℕ) : Type 0 where
  pub under : Under (length l) rest a i
  pub whole : stored_from source before at (rest_of 0 list) ≡ stored_from source l a (rest_of i rest)
  pub long : length l ≡ length before

pub storing_first : (p : Plan) (source : ℕ → ℕ) (l : List ℕ) → p.list < 2 ^ 16 → found_of p (length l) ≡ None → Storing source l p.start p.list l p.list p.start 0
storing_first p source l s t = record { under = under_first p (length l) s t; whole = refl; long = refl }

module _ {source : ℕ → ℕ} {before : List ℕ} {at list : ℕ} {l : List ℕ} {rest a i : ℕ} (s : Storing source before at list l rest a i) where
  pub storing_set : i < 16 → rest % 2 ≡ 1 → Storing source before at list (put_word l a (source i)) (rest / 2) ((a + 4) % 2 ^ 32) (i + 1)
  unfolding stored_from
  storing_set h b =
      let n : length (put_word l a (source i)) ≡ length l = length_word l a (source i) in
      record {
        under = rw n (under_set s.under h b);
        whole = s.whole ∙ ap (stored_from source l a) (rest_set i rest h b);
        long = n ∙ s.long;
      }

  pub storing_clear : i < 16 → (rest % 2 ≡ 1 → ⊥) → Storing source before at list l (rest / 2) a (i + 1)
  storing_clear h b =
      record {
        under = under_clear s.under h b;
        whole = s.whole ∙ ap (stored_from source l a) (rest_clear i rest h b);
        long = s.long;
      }

  pub storing_last : rest ≤ 0 → stored_from source before at (rest_of 0 list) ≡ l
  unfolding stored_from
  storing_last h = s.whole ∙ ap (stored_from source l a) (rest_none i rest h)

-- a load, a register at a time
unfoldable pub loaded_from : {A : Type 0} → (A → ℕ → ℕ → A) → A → List ℕ → ℕ → List ℕ → A
loaded_from put x l at [] = x
loaded_from put x l at (r ∷ rest) = loaded_from put (put x r (word_at l at)) l ((at + 4) % 2 ^ 32) rest

module _ {A : Type 0} (put : A → ℕ → ℕ → A) where
  loaded_from_lem : (x : A) (l : List ℕ) (at : ℕ) (rs : List ℕ) → put_each put x rs (words_at l (accesses_of at 4 (length rs))) ≡ loaded_from put x l at rs
  unfolding put_each words_at accesses_of loaded_from
  loaded_from_lem x l at [] = refl
  loaded_from_lem x l at (r ∷ rs) = loaded_from_lem (put x r (word_at l at)) l ((at + 4) % 2 ^ 32) rs

  pub loaded_is : (p : Plan) (x : A) (l : List ℕ) → p.list < 2 ^ 16 → loaded_list_of p put x l ≡ loaded_from put x l p.start (rest_of 0 p.list)
  loaded_is p x l h =
      rw (halved_is p.list, count_rest p.list h) (loaded_from_lem x l p.start (rest_of 0 p.list))

-- A load under way, into registers or a machine.
pub record Loading {A : Type 0} (put : A → ℕ → ℕ → A) (before : A) (l : List ℕ) (at list : ℕ) (x : A) (rest a i : ℕ) : Type 0 where
  pub under : Under (length l) rest a i
  pub whole : loaded_from put before l at (rest_of 0 list) ≡ loaded_from put x l a (rest_of i rest)

pub loading_first : {A : Type 0} (p : Plan) (put : A → ℕ → ℕ → A) (x : A) (l : List ℕ) → p.list < 2 ^ 16 → found_of p (length l) ≡ None
    → Loading put x l p.start p.list x p.list p.start 0
loading_first p put x l s t = record { under = under_first p (length l) s t; whole = refl }

module _ {A : Type 0} {put : A → ℕ → ℕ → A} {before : A} {l : List ℕ} {at list : ℕ} {x : A} {rest a i : ℕ} (s : Loading put before l at list x rest a i) where
  pub loading_set : i < 16 → rest % 2 ≡ 1 → Loading put before l at list (put x i (word_at l a)) (rest / 2) ((a + 4) % 2 ^ 32) (i + 1)
  unfolding loaded_from
  loading_set h b =
      record {
        under = under_set s.under h b;
        whole = s.whole ∙ ap (loaded_from put x l a) (rest_set i rest h b);
      }

  pub loading_clear : i < 16 → (rest % 2 ≡ 1 → ⊥) → Loading put before l at list x (rest / 2) a (i + 1)
  loading_clear h b =
      record {
        under = under_clear s.under h b;
        whole = s.whole ∙ ap (loaded_from put x l a) (rest_clear i rest h b);
      }

  pub loading_last : rest ≤ 0 → loaded_from put before l at (rest_of 0 list) ≡ x
  unfolding loaded_from
  loading_last h = s.whole ∙ ap (loaded_from put x l a) (rest_none i rest h)
