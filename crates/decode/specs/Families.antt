-- Which family of instructions an opcode belongs to (DDI 0100I, A3.1 and its encoding tables; document 01, section 3), by bits 27-20 and 7-4 alone.
use Rattle.std.specs.Prelude.{Bool, not, ◌&&◌, ℕ, ◌==◌}
use Rattle.bits.specs.Cases.{when◌then◌else◌, ◌<?◌}
use Rattle.bits.specs.Fields.{◌⟨◌⟩, ◌⟨◌‥◌⟩}
use Rattle.decode.specs.declared.Family.{Family}
use Rattle.decode.specs.declared.Family.TheVariants.{DataProcessing, MultiplyShort, MultiplyLong, Halfword, Saturating, Swap, Exclusive, Extra, StatusMove, BranchExchange, CountZeros, Breakpoint, Single, Media, Block, Branch, Coprocessor, CoprocessorMove, Supervisor, Undefined, BranchLinkExchange, ClearExclusive, ChangeState, Preload}

-- hi is bits 27-20, so that hi ⟨ 7 ‥ 5 ⟩ is bits 27-25, hi ⟨ 4 ⟩ bit 24, hi ⟨ 0 ⟩ bit 20; lo is bits 7-4, so that lo ⟨ 3 ⟩ is bit 7 and lo ⟨ 0 ⟩ bit 4.

-- bits 27-25 of 000 with bits 7 and 4 set and bits 6-5 clear: multiplies by bits 23-21, or synchronization (Figure A3-3)
unfoldable pub multiply_or_swap_of : ℕ → Family
multiply_or_swap_of hi =
    when hi ⟨ 4 ⟩ then (when hi ⟨ 3 ⟩ then Exclusive else Swap)
    else when hi ⟨ 3 ‥ 1 ⟩ <? 2 then MultiplyShort
    else when hi ⟨ 3 ‥ 1 ⟩ == 3 then Undefined
    else MultiplyLong

-- bits 24-23 of 10 with S clear: the miscellaneous instructions (Figure A3-4); D3: BXJ, lo of 2, is Undefined; D4: bits 22-21 tell only CLZ from BX
unfoldable pub miscellaneous_of : ℕ → ℕ → Family
miscellaneous_of hi lo =
    when lo == 0 then StatusMove
    else when lo == 1 then (when hi ⟨ 2 ‥ 1 ⟩ == 3 then CountZeros else BranchExchange)
    else when lo == 3 then BranchExchange
    else when lo == 5 then Saturating
    else when lo == 7 then Breakpoint
    else when lo ⟨ 3 ⟩ then Halfword
    else Undefined

-- an operation with S clear whose code is a compare's
abbrev pub compares_nothing : ℕ → Bool
compares_nothing hi = (hi ⟨ 4 ‥ 3 ⟩ == 2) && not (hi ⟨ 0 ⟩)

-- bits 27-25 of 000
unfoldable pub register_space_of : ℕ → ℕ → Family
register_space_of hi lo =
    when lo ⟨ 3 ⟩ && lo ⟨ 0 ⟩ then (when lo ⟨ 2 ‥ 1 ⟩ == 0 then multiply_or_swap_of hi else Extra)
    else when compares_nothing hi then miscellaneous_of hi lo
    else DataProcessing

-- bits 27-25 of 001
unfoldable pub immediate_space_of : ℕ → Family
immediate_space_of hi =
    when compares_nothing hi then (when hi ⟨ 1 ⟩ then StatusMove else Undefined)
    else DataProcessing

-- conditions 0 to 14 (Figure A3-1)
unfoldable pub conditional_of : ℕ → ℕ → Family
conditional_of hi lo =
    when hi ⟨ 7 ‥ 5 ⟩ == 0 then register_space_of hi lo
    else when hi ⟨ 7 ‥ 5 ⟩ == 1 then immediate_space_of hi
    else when hi ⟨ 7 ‥ 5 ⟩ == 2 then Single
    else when hi ⟨ 7 ‥ 5 ⟩ == 3 then (when lo ⟨ 0 ⟩ then Media else Single)
    else when hi ⟨ 7 ‥ 5 ⟩ == 4 then Block
    else when hi ⟨ 7 ‥ 5 ⟩ == 5 then Branch
    else when hi ⟨ 7 ‥ 5 ⟩ == 6 then Coprocessor
    else when hi ⟨ 4 ⟩ then Supervisor
    else when lo ⟨ 0 ⟩ then CoprocessorMove
    else Coprocessor

-- condition 15, in document 01's order: BLX, CLREX, then by bits 27-25
unfoldable pub unconditional_of : ℕ → ℕ → Family
unconditional_of hi lo =
    when hi ⟨ 7 ‥ 5 ⟩ == 5 then BranchLinkExchange
    else when (hi == 0x57) && (lo == 1) then ClearExclusive
    else when hi ⟨ 7 ‥ 5 ⟩ == 0 then ChangeState
    else when (hi ⟨ 7 ‥ 5 ⟩ == 2) then Preload
    else when (hi ⟨ 7 ‥ 5 ⟩ == 3) then Preload
    else when hi ⟨ 7 ‥ 5 ⟩ == 6 then Coprocessor
    else when hi ⟨ 7 ‥ 5 ⟩ == 7 then (when lo ⟨ 0 ⟩ then CoprocessorMove else Coprocessor)
    else Undefined

unfoldable pub family_of : ℕ → Family
family_of op =
    when op ⟨ 31 ‥ 28 ⟩ == 15 then unconditional_of (op ⟨ 27 ‥ 20 ⟩) (op ⟨ 7 ‥ 4 ⟩)
    else conditional_of (op ⟨ 27 ‥ 20 ⟩) (op ⟨ 7 ‥ 4 ⟩)
