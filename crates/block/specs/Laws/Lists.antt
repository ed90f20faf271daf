-- The list of registers by halving its bits, and its count.
use Rattle.std.specs.Prelude.{◌≡◌, refl, Bool, true, false, List, [], ◌∷◌, map, ℕ, zero, suc, ◌+◌, ◌-◌, ◌*◌, ◌/◌, ◌%◌, ◌^◌, ◌≤◌, ◌<◌, length, ◌==◌}
use Rattle.std.proofs.Common.{sym, ap, ◌∙◌, ⊎_elim, arith, shr-shr, eq-eqb, ne_eqb, eqb-true}
use Rattle.std.proofs.lemmas.Bool.{eqb-false}
use Rattle.bits.specs.Cases.{when◌then◌else◌, if_yes, if_no, if_both}
use Rattle.bits.specs.Words.{ones_of}
use Rattle.bits.specs.Laws.Order.{split, left_suc}
use Rattle.bits.specs.Laws.Words.{shr_is}
use Rattle.bits.specs.Laws.Count.{ones_is}
use Rattle.block.specs.Block.{listed_from, registers_of}

-- of the n registers from i on, those whose bit is set in rest, whose bit 0 is that of register i
unfoldable pub halved_from : ℕ → ℕ → ℕ → List ℕ
halved_from zero i rest = []
halved_from (suc n) i rest = when rest % 2 == 1 then i ∷ halved_from n (i + 1) (rest / 2) else halved_from n (i + 1) (rest / 2)

halved_listed : (n i list : ℕ) → listed_from list i n ≡ halved_from n i (list / 2 ^ i)
unfolding listed_from halved_from
halved_listed zero i list = refl
halved_listed (suc n) i list =
    let e : list / 2 ^ (i + 1) ≡ list / 2 ^ i / 2 = sym (shr-shr list i 1) in
    rw (shr_is list i, halved_listed n (i + 1) list, e)

pub halved_is : (list : ℕ) → registers_of list ≡ halved_from 16 0 list
halved_is list = let e : list / 2 ^ 0 ≡ list = omega arith in rw e at (halved_listed 16 0 list)

-- what is left of a list from register i on
abbrev pub rest_of : ℕ → ℕ → List ℕ
rest_of i rest = halved_from (16 - i) i rest

module _ (i rest : ℕ) (h : i < 16) where
  pub rest_set : rest % 2 ≡ 1 → rest_of i rest ≡ i ∷ rest_of (i + 1) (rest / 2)
  unfolding halved_from
  rest_set b = rw (left_suc 16 i h) (if_yes _ _ _ (eq-eqb (rest % 2) 1 b))

  pub rest_clear : (rest % 2 ≡ 1 → ⊥) → rest_of i rest ≡ rest_of (i + 1) (rest / 2)
  unfolding halved_from
  rest_clear b = rw (left_suc 16 i h) (if_no _ _ _ (ne_eqb (rest % 2) 1 b))

  pub rest_small : rest < 2 ^ (16 - i) → rest / 2 < 2 ^ (16 - (i + 1))
  rest_small s = let p : 2 ^ (16 - i) ≡ 2 * 2 ^ (16 - (i + 1)) = rw (left_suc 16 i h) (omega arith) in omega arith

halved_zero : (n i : ℕ) → halved_from n i 0 ≡ []
unfolding halved_from when◌then◌else◌
halved_zero zero i = refl
halved_zero (suc n) i = halved_zero n (i + 1)

pub rest_none : (i rest : ℕ) → rest ≤ 0 → rest_of i rest ≡ []
rest_none i rest h = let e : rest ≡ 0 = omega arith in rw e (halved_zero (16 - i) i)

-- how many registers there are
count_halved : (n i rest : ℕ) → length (halved_from n i rest) ≡ ones_of n rest
unfolding halved_from ones_of
count_halved zero i rest = refl
count_halved (suc n) i rest = go (count_halved n (i + 1) (rest / 2)) (rest % 2 == 1) refl
  where
    go : length (halved_from n (i + 1) (rest / 2)) ≡ ones_of n (rest / 2) → (t : Bool) → (rest % 2 == 1) ≡ t → length (halved_from (suc n) i rest) ≡ ones_of (suc n) rest
    go ih true e = ap length (if_yes _ _ _ e) ∙ omega (arith, ih, eqb-true (rest % 2) 1 e)
    go ih false e = ap length (if_no _ _ _ e) ∙ omega (arith, ih, eqb-false (rest % 2) 1 e)

pub count_rest : (list : ℕ) → list < 2 ^ 16 → ones_of 32 list ≡ length (rest_of 0 list)
count_rest list h = sym (ones_is 32 list (omega arith)) ∙ ones_is 16 list h ∙ sym (count_halved 16 0 list)

-- the count of set bits is the number of registers
pub count_registers : (list : ℕ) → list < 2 ^ 16 → ones_of 32 list ≡ length (registers_of list)
count_registers list h = count_rest list h ∙ ap length (sym (halved_is list))

-- two values for each register agree where they agree on the sixteen
same_from : (f g : ℕ → ℕ) (list i n : ℕ) → i + n ≤ 16 → ((r : ℕ) → r < 16 → f r ≡ g r) → map f (listed_from list i n) ≡ map g (listed_from list i n)
unfolding listed_from
same_from f g list i zero k h = refl
same_from f g list i (suc n) k h =
    let more : map f (listed_from list (i + 1) n) ≡ map g (listed_from list (i + 1) n) = same_from f g list (i + 1) n (omega arith) h in
    if_both (λ (rs : List ℕ). map f rs ≡ map g rs) _ (rw (h i (omega arith), more)) more

pub same_registers : (f g : ℕ → ℕ) (list : ℕ) → ((r : ℕ) → r < 16 → f r ≡ g r) → map f (registers_of list) ≡ map g (registers_of list)
same_registers f g list h = same_from f g list 0 16 (omega arith) h
