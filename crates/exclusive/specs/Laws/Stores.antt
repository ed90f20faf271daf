-- A finished swap or store exclusive changes only bytes of its plan.
use Rattle.std.specs.Prelude.{◌≡◌, Option, List, ℕ, get_or}
use Rattle.std.proofs.Math.Path.{refl}
use Rattle.std.proofs.Common.{◌∙◌}
use Rattle.bits.specs.Cases.{if_both}
use Rattle.memory.specs.Bytes.{bytes_of, put_word}
use Rattle.memory.specs.Laws.Bytes.{Clear, byte_untouched, byte_word}
use Rattle.transfer.specs.Transfers.{byte_or_word_of, base_of}
use Rattle.transfer.specs.Laws.Guards.{Untouched, guarded_untouched}
use Rattle.exclusive.specs.Exclusive.{source_of, swap_of, width_of, second_of, strex_of, strexd_of}

module _ (regs : List ℕ) (op : ℕ) (l : List ℕ) (b : ℕ) where
  pub swap_untouched : Clear (base_of regs op) (bytes_of (byte_or_word_of op)) b → get_or (swap_of regs op l).2 b 0 ≡ get_or l b 0
  unfolding swap_of
  swap_untouched h = guarded_untouched _ regs l b _ (byte_untouched l (base_of regs op) (byte_or_word_of op) _ b h)

  pub strex_untouched : (tag : Option ℕ) → Clear (base_of regs op) (bytes_of (width_of op)) b → get_or (strex_of regs op tag l).2 b 0 ≡ get_or l b 0
  unfolding strex_of
  strex_untouched tag h =
      if_both (Untouched l b) _
      (guarded_untouched _ regs l b _ (byte_untouched l (base_of regs op) (width_of op) _ b h))
      refl

  pub strexd_untouched : (tag : Option ℕ) → Clear (base_of regs op) 4 b → Clear (second_of regs op) 4 b → get_or (strexd_of regs op tag l).2 b 0 ≡ get_or l b 0
  unfolding strexd_of
  strexd_untouched tag h k =
      if_both (Untouched l b) _ refl
      (if_both (Untouched l b) _
      (guarded_untouched _ regs l b _
      (byte_word (put_word l (base_of regs op) (source_of regs op)) (second_of regs op) _ b k ∙ byte_word l (base_of regs op) _ b h))
      refl)
