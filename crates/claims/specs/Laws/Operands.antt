-- Both operands of a data-processing instruction are words where the registers are.
use Rattle.std.specs.Prelude.{Bool, List, [], ◌∷◌, ℕ, zero, suc, ◌+◌, ◌*◌, ◌%◌, ◌^◌, ◌<◌, get_or, set}
use Rattle.std.proofs.Common.{arith, lit<, pow_pos}
use Rattle.std.proofs.Math.Nat.{mod-lt}
use Rattle.std.specs.Int.Signed.{shr_z}
use Rattle.bits.specs.Cases.{if_both}
use Rattle.bits.specs.Integers.{signed}
use Rattle.bits.specs.Laws.Wrap.{wrap_lt}
use Rattle.bits.specs.Laws.Words.{rotated_lt}
use Rattle.bits.specs.Laws.Bools.{bit_le}
use Rattle.shifter.specs.declared.ShiftType.{ShiftType}
use Rattle.shifter.specs.declared.ShiftType.TheVariants.{Lsl, Lsr, Asr, Ror}
use Rattle.shifter.specs.declared.Operand.{Operand}
use Rattle.shifter.specs.Shifts.{shifted_of, signs_of, by_immediate_of, by_register_of, immediate_of}
use Rattle.shifter.specs.Laws.Shifts.{right_lt}
use Rattle.dataproc.specs.Dataproc.{read_of, first_of, operand_of}
use Rattle.state.specs.Valid.{Fits}

abbrev Word : ℕ → Type 0
Word x = x < 2 ^ 32

-- a word stored among words
pub fits_set : (l : List ℕ) (k x : ℕ) → Word x → Fits l → Fits (set l k x)
fits_set [] k x h f i = f i
fits_set (y ∷ ys) zero x h f zero = h
fits_set (y ∷ ys) zero x h f (suc i) = f (suc i)
fits_set (y ∷ ys) (suc k) x h f zero = f zero
fits_set (y ∷ ys) (suc k) x h f (suc i) = fits_set ys k x h (λ j. f (suc j)) i

abbrev WordIn : Operand → Type 0
WordIn o = Word o.value

module _ (x : ℕ) (hx : Word x) where
  signs_lt : Word (signs_of x)
  unfolding signs_of
  signs_lt = if_both Word _ (lit< tt) (lit< tt)

  left_lt : (n : ℕ) → Word (shifted_of Lsl x n)
  unfolding shifted_of
  left_lt n = mod-lt (x * 2 ^ n) (pow_pos 32)

  logical_lt : (n : ℕ) → Word (shifted_of Lsr x n)
  unfolding shifted_of
  logical_lt n = right_lt x n hx

  arithmetic_lt : (n : ℕ) → Word (shifted_of Asr x n)
  unfolding shifted_of
  arithmetic_lt n = wrap_lt 32 (shr_z (signed 32 x) (2 ^ n))

  turned_lt : (n : ℕ) → n < 32 → Word (shifted_of Ror x n)
  unfolding shifted_of
  turned_lt n h = rotated_lt x n hx h

  by_immediate_lt : (ty : ShiftType) (n : ℕ) (c : Bool) → n < 32 → WordIn (by_immediate_of ty x n c)
  unfolding by_immediate_of
  by_immediate_lt Lsl n c h = if_both WordIn _ hx (left_lt n)
  by_immediate_lt Lsr n c h = if_both WordIn _ (lit< tt) (logical_lt n)
  by_immediate_lt Asr n c h = if_both WordIn _ signs_lt (arithmetic_lt n)
  by_immediate_lt Ror n c h = if_both WordIn _ (omega (arith, bit_le c)) (turned_lt n h)

  by_register_lt : (ty : ShiftType) (n : ℕ) (c : Bool) → WordIn (by_register_of ty x n c)
  unfolding by_register_of
  by_register_lt Lsl n c = if_both WordIn _ hx (if_both WordIn _ (left_lt n) (if_both WordIn _ (lit< tt) (lit< tt)))
  by_register_lt Lsr n c = if_both WordIn _ hx (if_both WordIn _ (logical_lt n) (if_both WordIn _ (lit< tt) (lit< tt)))
  by_register_lt Asr n c = if_both WordIn _ hx (if_both WordIn _ (arithmetic_lt n) signs_lt)
  by_register_lt Ror n c = if_both WordIn _ hx (if_both WordIn _ hx (turned_lt (n % 32) (mod-lt n (lit< tt))))

immediate_lt : (x n : ℕ) (c : Bool) → x < 256 → n < 16 → WordIn (immediate_of x n c)
unfolding immediate_of
immediate_lt x n c hx h = if_both WordIn _ (omega arith) (rotated_lt x (n * 2) (omega arith) (omega arith))

module _ (regs : List ℕ) (fits : Fits regs) (op : ℕ) where
  read_lt : (r : ℕ) (late : Bool) → Word (read_of regs r late)
  unfolding read_of
  read_lt r late = if_both Word _ (mod-lt (get_or regs 15 0 + 4) (pow_pos 32)) (fits r)

  pub first_lt : Word (first_of regs op)
  first_lt = read_lt _ _

  pub operand_lt : (c : Bool) → WordIn (operand_of regs op c)
  unfolding operand_of
  operand_lt c =
      if_both WordIn _ (immediate_lt _ _ c (omega arith) (omega arith))
      (if_both WordIn _ (by_register_lt _ (read_lt _ _) _ _ c) (by_immediate_lt _ (read_lt _ _) _ _ c (omega arith)))
