-- GE within four bits in all seven status records: exactly where the state earns no answer 8.
use Rattle.std.specs.Prelude.{◌≡◌, false, get_or}
use Prim.Native.Nat.{ℕ, zero, suc, ◌≤◌, ◌<◌}
use Rattle.std.proofs.Common.{arith}
use borrow.Author.Tests.{le-ltb, ltb-false}
use Rattle.bits.specs.Laws.Bools.{neither}
use Rattle.psr.specs.declared.Status.{Status}
use Rattle.cpu.specs.declared.Machine.{Machine}
use Rattle.cpu.specs.Answers.{bad_of, no_status}

abbrev pub Fits : Status → Type 0
Fits s = s.ge ≤ 15

-- the seven records of a machine
pub record AllFit (m : Machine) : Type 0 where
  pub current : Fits m.cpsr
  pub saved : Fits m.spsr
  pub banked : (i : ℕ) → i < 5 → Fits (get_or m.saved i no_status)

module _ (m : Machine) where
  abbrev at : ℕ → ℕ
  at i = (get_or m.saved i no_status).ge

  -- what a machine that does not earn answer 8 has
  pub good_fits : bad_of m ≡ false → AllFit m
  unfolding bad_of
  good_fits e =
      let e6 = neither _ _ e in
      let e5 = neither _ _ e6.0 in
      let e4 = neither _ _ e5.0 in
      let e3 = neither _ _ e4.0 in
      let e2 = neither _ _ e3.0 in
      let e1 = neither _ _ e2.0 in
      record {
        current = ltb-false 15 _ e1.0;
        saved = ltb-false 15 _ e1.1;
        banked = five (ltb-false 15 _ e2.1) (ltb-false 15 _ e3.1) (ltb-false 15 _ e4.1) (ltb-false 15 _ e5.1) (ltb-false 15 _ e6.1);
      }
    where
      five : at 0 ≤ 15 → at 1 ≤ 15 → at 2 ≤ 15 → at 3 ≤ 15 → at 4 ≤ 15 → (i : ℕ) → i < 5 → at i ≤ 15
      five a b c d e zero h = a
      five a b c d e (suc zero) h = b
      five a b c d e (suc (suc zero)) h = c
      five a b c d e (suc (suc (suc zero))) h = d
      five a b c d e (suc (suc (suc (suc zero)))) h = e
      five a b c d e (suc (suc (suc (suc (suc i))))) h = absurd (omega arith)

  pub fits_good : AllFit m → bad_of m ≡ false
  unfolding bad_of
  fits_good f =
      rw (
        le-ltb 15 _ f.current,
        le-ltb 15 _ f.saved,
        le-ltb 15 _ (f.banked 0 (omega arith)),
        le-ltb 15 _ (f.banked 1 (omega arith)),
        le-ltb 15 _ (f.banked 2 (omega arith)),
        le-ltb 15 _ (f.banked 3 (omega arith)),
        le-ltb 15 _ (f.banked 4 (omega arith)),
      )
