-- The loads and stores of one value as the code makes them: at a place, a number of some width, by its sign or not.
use Rattle.std.specs.Prelude.{Bool, List, ℕ, ◌*◌, length}
use Rattle.bits.specs.Cases.{when◌then◌else◌}
use Rattle.bits.specs.Words.{extended_of}
use Rattle.memory.specs.declared.Width.{Width}
use Rattle.memory.specs.Bytes.{bytes_of, read_of}
use Rattle.memory.specs.Plans.{outside_of}
use Rattle.cpu.specs.declared.Outcome.{Outcome}
use Rattle.transfer.specs.Transfers.{guarded_of, beside, moved_of, address_of}
use Rattle.loadstore.specs.declared.Place.{Place}
use Rattle.loadstore.specs.Single.{load_of, store_of}
use Rattle.loadstore.specs.Extra.{extra_load_of}

abbrev pub place_of : List ℕ → ℕ → ℕ → Place
place_of regs op offset = record { moved = moved_of regs op offset; at = address_of regs op (moved_of regs op offset) }

abbrev pub tested_load_of : List ℕ → ℕ → List ℕ → ℕ → ℕ → Width → Outcome × List ℕ × List ℕ
tested_load_of regs op l moved address width =
    guarded_of (outside_of (length l) address (bytes_of width) 1) regs l (beside (load_of regs op moved (read_of l address width)) l)

unfoldable pub widened_of : Width → Bool → ℕ → ℕ
widened_of width sign x = when sign then extended_of (8 * bytes_of width) x else x

abbrev pub wide_load_of : List ℕ → ℕ → List ℕ → ℕ → ℕ → Width → Bool → Outcome × List ℕ × List ℕ
wide_load_of regs op l moved address width sign =
    extra_load_of regs op l moved address (bytes_of width) (widened_of width sign (read_of l address width))

abbrev pub tested_store_of : List ℕ → ℕ → List ℕ → ℕ → ℕ → Width → ℕ → Outcome × List ℕ × List ℕ
tested_store_of regs op l moved address width value =
    guarded_of (outside_of (length l) address (bytes_of width) 1) regs l (store_of regs op l moved address width value)
