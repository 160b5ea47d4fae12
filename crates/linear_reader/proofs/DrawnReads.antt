-- What a call gives on a row that is drawn.
use Rattle.std.proofs.Common.{◌≡◌, ℕ, Bool, List, Result, Ok, Err, refl, sym, subst, ap, ◌∙◌}
use Rattle.bar_base.specs.Results.{Gives}
use Rattle.bar_base.specs.declared.element.Element.{Element}
use Rattle.linear_reader.specs.declared.symbology.RowSymbology.{RowSymbology}
use Rattle.linear_reader.specs.declared.symbology.RowSymbology.TheVariants.{Code39, Code39Full, Code93, Code128, Itf14}
use Rattle.linear_reader.specs.declared.scan.Scan.{Scan}
use Rattle.linear_reader.specs.declared.scan.ScanFault.{ScanFault}
use Rattle.linear_reader.specs.declared.scan.ScanFault.TheVariants.{NoMemory, NoStart, BadPattern, BadCheck, BadSpelling}
use Rattle.linear_reader.specs.Drawn.{IsDrawnAs, IsReadAs, GivesScan, ReadsAs, ReadsDrawn}
use Rattle.linear_reader.specs.Scan.{refusal_of, row_scan}
use Rattle.linear_reader.proofs.Drawn128.{reads128}
use Rattle.linear_reader.proofs.Drawn39.{text39, text39_full}
use Rattle.linear_reader.proofs.Drawn93.{text93}
use Rattle.linear_reader.proofs.DrawnItf.{text14}

given_scan : (scan : Scan) (defined : Result Scan ScanFault) (result : Result Scan ScanFault) → Gives refusal_of (λ s. s) result defined → defined ≡ Ok scan → GivesScan scan result
given_scan scan defined (Ok given) gives is = cc
given_scan scan defined (Err NoMemory) gives is = refl
given_scan scan defined (Err NoStart) gives is = absurd (cc)
given_scan scan defined (Err (BadPattern place)) gives is = absurd (cc)
given_scan scan defined (Err (BadCheck place given wanted)) gives is = absurd (cc)
given_scan scan defined (Err (BadSpelling place)) gives is = absurd (cc)

reads_as : (s : RowSymbology) (drawn : List Bool) (body : List Element) (checks : List ℕ) (modules : List Bool) (result : Result Scan ScanFault)
    → Gives refusal_of (λ scan. scan) result (row_scan s modules) → IsReadAs s drawn body checks → ReadsAs drawn body checks modules result
reads_as s drawn body checks modules result gives read = record {
  forward = λ same. given_scan _ (row_scan s modules) result gives (ap (row_scan s) same ∙ read.forward);
  backward = λ same. given_scan _ (row_scan s modules) result gives (ap (row_scan s) same ∙ read.backward);
}

-- A row that is drawn gives what was drawn.
pub reads_drawn : (s : RowSymbology) (modules : List Bool) (result : Result Scan ScanFault) → Gives refusal_of (λ scan. scan) result (row_scan s modules) → ReadsDrawn s modules result
reads_drawn Code39 modules result gives = λ text symbol drawn. reads_as Code39 _ _ _ modules result gives (text39 text symbol drawn)
reads_drawn Code39Full modules result gives = λ text symbol drawn. reads_as Code39Full _ _ _ modules result gives (text39_full text symbol drawn)
reads_drawn Code93 modules result gives = λ text symbol drawn. reads_as Code93 _ _ _ modules result gives (text93 text symbol drawn)
reads_drawn Code128 modules result gives = λ values elements spells. reads_as Code128 _ _ _ modules result gives (reads128 values elements spells)
reads_drawn Itf14 modules result gives = λ text digits symbol drawn are. reads_as Itf14 _ _ _ modules result gives (text14 text digits symbol drawn are)

as_drawn : (s : RowSymbology) (modules drawn : List Bool) (body other : List Element) (checks given : List ℕ) → modules ≡ drawn → body ≡ other → checks ≡ given
    → IsReadAs s drawn other given → IsReadAs s modules body checks
as_drawn s modules drawn body other checks given same_modules same_body same_checks is =
    subst (λ (ms : List Bool). IsReadAs s ms body checks) (sym same_modules)
    (subst (λ (es : List Element). IsReadAs s drawn es checks) (sym same_body)
    (subst (λ (cs : List ℕ). IsReadAs s drawn other cs) (sym same_checks) is))

-- A row that is drawn reads as what was drawn.
pub drawn_reads : (s : RowSymbology) (modules : List Bool) (body : List Element) (checks : List ℕ) → IsDrawnAs s modules body checks → IsReadAs s modules body checks
drawn_reads Code39 modules body checks d = as_drawn Code39 modules _ body _ checks _ d.modules_are d.body_is d.checks_are (text39 d.text d.symbol d.drawn)
drawn_reads Code39Full modules body checks d = as_drawn Code39Full modules _ body _ checks _ d.modules_are d.body_is d.checks_are (text39_full d.text d.symbol d.drawn)
drawn_reads Code93 modules body checks d = as_drawn Code93 modules _ body _ checks _ d.modules_are d.body_is d.checks_are (text93 d.text d.symbol d.drawn)
drawn_reads Code128 modules body checks d = as_drawn Code128 modules _ body body checks _ d.modules_are refl d.checks_are (reads128 d.values body d.spelled)
drawn_reads Itf14 modules body checks d =
    as_drawn Itf14 modules _ body _ checks _ d.modules_are d.body_is d.checks_are (text14 d.text d.digits d.symbol d.drawn d.fourteen_are)
