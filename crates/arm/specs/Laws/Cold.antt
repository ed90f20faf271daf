-- The families that stand behind one call.
use Rattle.std.specs.Prelude.{◌≡◌, Bool, true, false}
use Rattle.std.proofs.Common.{sym, ◌∙◌, ap}
use Rattle.std.proofs.lemmas.Bool.{false≢true}
use Rattle.decode.specs.declared.Family.{Family}
use Rattle.decode.specs.declared.Family.TheVariants.{DataProcessing, MultiplyShort, MultiplyLong, Halfword, Saturating, Swap, Exclusive, Extra, StatusMove, BranchExchange, CountZeros, Breakpoint, Single, Media, Block, Branch, Coprocessor, CoprocessorMove, Supervisor, Undefined, BranchLinkExchange, ClearExclusive, ChangeState, Preload}

abbrev pub is_cold : Family → Bool
is_cold DataProcessing = false
is_cold MultiplyShort = false
is_cold MultiplyLong = false
is_cold Media = false
is_cold Branch = false
is_cold BranchExchange = false
is_cold CountZeros = false
is_cold Single = false
is_cold Block = false
is_cold Halfword = false
is_cold Saturating = false
is_cold Swap = false
is_cold Exclusive = false
is_cold Extra = false
is_cold StatusMove = true
is_cold Breakpoint = true
is_cold Coprocessor = true
is_cold CoprocessorMove = true
is_cold Supervisor = true
is_cold Undefined = true
is_cold BranchLinkExchange = true
is_cold ClearExclusive = true
is_cold ChangeState = true
is_cold Preload = false

-- a family cannot be cold and be one that is not
pub not_cold : {A : Type 0} {f g : Family} → is_cold f ≡ true → f ≡ g → is_cold g ≡ false → A
not_cold {f = f} {g = g} p e q = absurd (false≢true (sym q ∙ (ap is_cold (sym e) ∙ p)))
