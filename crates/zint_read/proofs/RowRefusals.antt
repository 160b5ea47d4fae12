-- What a fault of a row is here is a refusal of the step; and what its reader asks for.
use Rattle.std.proofs.Common.{◌≡◌, ◌≤◌, ℕ, Bool, true, false, length, nat_eq, codes, if◌then◌else◌, List, drop, slice_get, option_map, Option, Some, None, MatchOption, Err, Result, refl, sym, subst, IfSome}
use Rattle.bar_base.specs.declared.element.Element.{Element}
use Rattle.bar_base.specs.declared.element.Element.TheVariants.{Fnc1}
use Rattle.gs1_check.specs.LeadingStrings.{HasNoText, IsOnlyText}
use Rattle.std.specs.List.{starts_with}
use Rattle.bar_base.specs.Input.{limit_for}
use Rattle.bar_base.specs.Limits.{most_bytes}
use Rattle.linear_reader.specs.Patterns.{IsRowSymbol}
use Rattle.zint_settings.specs.Looks.{row_number}
use Rattle.zint_settings.specs.declared.look.RowSymbology.{RowSymbology}
use Rattle.zint_settings.specs.declared.look.RowSymbology.TheVariants as number
use Rattle.linear_reader.specs.RowText.{IsRowFault}
use Rattle.linear_reader.specs.Scan.{refusal_of}
use Rattle.linear_reader.specs.declared.parsing.RowFault.{RowFault}
use Rattle.linear_reader.specs.declared.parsing.RowFault.TheVariants as row
use Rattle.linear_reader.specs.declared.scan.Scan.{Scan}
use Rattle.linear_reader.specs.declared.scan.ScanFault.{ScanFault}
use Rattle.linear_reader.specs.declared.scan.ScanFault.TheVariants as scan
use Rattle.zint_answers.specs.Steps.{Refuses, answered}
use Rattle.zint_answers.specs.declared.fault.Fault.{Fault}
use Rattle.zint_read.specs.readers.Row.{IsGs1Behind, IsRowGs1, row_fault, scan_fault, shows_row}

pub row_refused : (bytes : List ℕ) (fault : RowFault) (f : Fault) → f ≡ row_fault fault → IsRowFault bytes fault → Refuses (shows_row bytes) f
row_refused bytes row.NoMemory f is refused = subst (Refuses (shows_row bytes)) (sym is) tt
row_refused bytes (row.BadText place) f is refused = subst (Refuses (shows_row bytes)) (sym is) (row.BadText place, refused, refl)
row_refused bytes (row.BadSide width rows) f is refused = subst (Refuses (shows_row bytes)) (sym is) (row.BadSide width rows, refused, refl)

pub scan_refused : (given : Result Scan ScanFault) (fault : ScanFault) (f : Fault) → f ≡ scan_fault fault
    → IfSome (refusal_of fault) (λ refused. given ≡ Err refused) → Refuses (answered scan_fault given) f
scan_refused given scan.NoMemory f is gives = subst (Refuses (answered scan_fault given)) (sym is) tt
scan_refused given scan.NoStart f is gives = subst (Refuses (answered scan_fault given)) (sym is) (scan.NoStart, gives, refl)
scan_refused given (scan.BadPattern place) f is gives = subst (Refuses (answered scan_fault given)) (sym is) (scan.BadPattern place, gives, refl)
scan_refused given (scan.BadCheck place g w) f is gives = subst (Refuses (answered scan_fault given)) (sym is) (scan.BadCheck place g w, gives, refl)
scan_refused given (scan.BadSpelling place) f is gives = subst (Refuses (answered scan_fault given)) (sym is) (scan.BadSpelling place, gives, refl)

-- What stands behind FNC1.
pub behind_fnc1 : {A : Type 0} (view : A → List ℕ) (body rest : List Element) (shown : Option A) → slice_get body 0 ≡ Some Fnc1 → rest ≡ drop 1 body
    → MatchOption shown (HasNoText rest) (λ t. IsOnlyText (view t) rest) → IsRowGs1 body (option_map view shown)
behind_fnc1 view body rest None first is none = subst (λ (f : Option Element). IsGs1Behind f (drop 1 body) None) (sym first) (subst HasNoText is none)
behind_fnc1 view body rest (Some t) first is only =
    subst (λ (f : Option Element). IsGs1Behind f (drop 1 body) (Some (view t))) (sym first) (subst (IsOnlyText (view t)) is only)

-- the number of each symbology whose rows are read is one of these
pub row_symbol : (symbology : RowSymbology) → IsRowSymbol (row_number symbology)
row_symbol number.Code39 = refl
row_symbol number.ExtendedCode39 = refl
row_symbol number.Code128 = refl
row_symbol number.Code93 = refl
row_symbol number.Itf14 = refl

-- a line within the limit
pub row_within : (bytes : List ℕ) → length bytes ≤ limit_for most_bytes most_bytes bytes → length bytes ≤ 65536
row_within bytes = elim (starts_with nat_eq bytes (codes "BM")) as (λ (b : Bool). length bytes ≤ (if b then most_bytes else most_bytes) → length bytes ≤ 65536) [ true ↦ λ few. few | false ↦ λ few. few ]
