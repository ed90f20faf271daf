-- Chains on a machine: any machine that shows N, Z, C and V, and any steps between two links that leave C alone.
use Rattle.std.specs.Prelude.{◌≡◌, Bool, true, false, List, [], ◌∷◌, ℕ, ◌+◌, ◌%◌, ◌^◌, pos, ◌+ℤ◌, ◌-ℤ◌, ◌==◌}
use Rattle.std.specs.Int.Signed.{lt_z}
use Rattle.bits.specs.Cases.{◌≤?◌}
use Rattle.bits.specs.Integers.{signed, wrap, outside}
use Rattle.alu.specs.declared.Sum.{Sum}
use Rattle.alu.specs.Sums.{sbc_of, adc_of, negative}
use Rattle.alu.specs.Numbers.{number_of, Pair, last_of, A, B, width, differ}

-- what a machine with states S shows
pub record View (S : Type 0) : Type 1 where
  pub n : S → Bool
  pub z : S → Bool
  pub c : S → Bool
  pub v : S → Bool

module _ {S : Type 0} (view : View S) where
  -- the flags of the state t are those of the sum r
  pub record Flags (r : Sum) (t : S) : Type 0 where
    pub n_is : view.n t ≡ negative r.value
    pub z_is : view.z t ≡ (r.value == 0)
    pub c_is : view.c t ≡ r.carry
    pub v_is : view.v t ≡ r.overflow

  -- Links op k p ps ws t: with carry k the first link takes the pair p and the further ones ps, they write the words ws, and t is the state after the last
  pub data Links (op : ℕ → ℕ → Bool → Sum) : Bool → Pair → List Pair → List ℕ → S → Type 0 where
    ends : {k : Bool} {p : Pair} {t : S}
        → Flags (op p.first p.second k) t
        → Links op k p [] ((op p.first p.second k).value ∷ []) t
    -- u is the state after a link and u' the state before the next: whatever comes between leaves C alone
    goes : {k : Bool} {p q : Pair} {ps : List Pair} {ws : List ℕ} {u u' t : S}
        → Flags (op p.first p.second k) u
        → view.c u' ≡ view.c u
        → Links op (view.c u') q ps ws t
        → Links op k p (q ∷ ps) ((op p.first p.second k).value ∷ ws) t

  -- Demand 3 on a machine for SUBS and then SBCS: ws is what they wrote, t the state after the last of them
  pub record Subtracted (p : Pair) (ps : List Pair) (ws : List ℕ) (t : S) : Type 0 where
    pub result : number_of ws ≡ wrap (width (p ∷ ps)) (pos (A (p ∷ ps)) -ℤ pos (B (p ∷ ps)))
    pub carry : view.c t ≡ (B (p ∷ ps) ≤? A (p ∷ ps))
    pub below : differ (view.n t) (view.v t) ≡ lt_z (signed (width (p ∷ ps)) (A (p ∷ ps))) (signed (width (p ∷ ps)) (B (p ∷ ps)))
    -- Z speaks of the last word only
    pub zero : view.z t ≡ ((last_of sbc_of true p ps).value == 0)

  -- and for ADDS and then ADCS
  pub record Added (p : Pair) (ps : List Pair) (ws : List ℕ) (t : S) : Type 0 where
    pub result : number_of ws ≡ (A (p ∷ ps) + B (p ∷ ps)) % 2 ^ width (p ∷ ps)
    pub carry : view.c t ≡ (2 ^ width (p ∷ ps) ≤? A (p ∷ ps) + B (p ∷ ps))
    pub overflow : view.v t
        ≡ outside (width (p ∷ ps)) (signed (width (p ∷ ps)) (A (p ∷ ps)) +ℤ signed (width (p ∷ ps)) (B (p ∷ ps)))
    pub zero : view.z t ≡ ((last_of adc_of false p ps).value == 0)
