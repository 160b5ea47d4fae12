-- The exit statuses of refusals.
use Rattle.std.proofs.Common.{◌≡◌, ℕ, ◌==◌, ◌||◌, Bool, false, refl}
use Rattle.zint_answers.specs.Refusals.{refusal_status}
use Rattle.zint_answers.specs.SymbolFaults.{symbol_status}
use Rattle.zint_answers.specs.declared.refusal.Refusal.{Refusal}
use Rattle.zint_answers.specs.declared.refusal.Refusal.TheVariants as refusal
use Rattle.zint_answers.specs.declared.symbol_fault.SymbolFault.{SymbolFault}
use Rattle.zint_answers.specs.declared.symbol_fault.SymbolFault.TheVariants as fault

-- whether a status says how the outside went: well, input that is not read, want of memory, output that is not written
abbrev pub is_outside : ℕ → Bool
is_outside status = (status == 0) || (status == 10) || (status == 11) || (status == 12)

symbol_inside : (fault : SymbolFault) → is_outside (symbol_status fault) ≡ false
symbol_inside (fault.NoFinder x y) = refl
symbol_inside (fault.BadMode words) = refl
symbol_inside (fault.TooDamaged codewords check) = refl
symbol_inside (fault.BadWord place) = refl
symbol_inside (fault.BadSpelling place) = refl
symbol_inside (fault.BadPattern place) = refl
symbol_inside (fault.BadValue place) = refl

-- the status of a refusal is none of these
pub refusal_inside : (refusal : Refusal) → is_outside (refusal_status refusal) ≡ false
refusal_inside refusal.Usage = refl
refusal_inside (refusal.TooLong limit unit) = refl
refusal_inside (refusal.BadData kind place) = refl
refusal_inside (refusal.BadSegment kind place segment) = refl
refusal_inside (refusal.BadCheck given place wanted) = refl
refusal_inside (refusal.BadOption text) = refl
refusal_inside (refusal.NoFit misfit) = refl
refusal_inside (refusal.BadImage fault) = refl
refusal_inside (refusal.BadSymbol fault) = symbol_inside fault
