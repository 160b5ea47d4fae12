-- The details of fault lines.
use Rattle.std.specs.Prelude.{ℕ, List, ◌++◌, codes, decimal}
use Rattle.zint_answers.specs.declared.detail.Kind.{Kind}
use Rattle.zint_answers.specs.declared.detail.Kind.TheVariants.{Empty, Escape, Text, Character, Number, Bracket, Identifier, Length, Date}
use Rattle.zint_answers.specs.declared.detail.Unit.{Unit}
use Rattle.zint_answers.specs.declared.detail.Unit.TheVariants.{Bytes, Elements}
use Rattle.aztec_layout.specs.declared.choice.NoFit.{NoFit}
use Rattle.zint_answers.specs.Report.{size_text}

-- the word for a kind of bad data
abbrev pub kind_text : Kind → List ℕ
kind_text Empty = codes "empty"
kind_text Escape = codes "escape"
kind_text Text = codes "text"
kind_text Character = codes "character"
kind_text Number = codes "number"
kind_text Bracket = codes "bracket"
kind_text Identifier = codes "identifier"
kind_text Length = codes "length"
kind_text Date = codes "date"

-- bad data: its kind and its place
abbrev pub place_detail_of : Kind → (place : ℕ) → List ℕ
place_detail_of kind place = kind_text kind ++ codes " at " ++ decimal place

-- bad data in a segment behind the first: its kind, its place, and the number of the segment
abbrev pub segment_detail_of : Kind → (place segment : ℕ) → List ℕ
segment_detail_of kind place segment = kind_text kind ++ codes " at " ++ decimal place ++ codes " in segment " ++ decimal segment

-- a wrong check digit: the digit, its place, and the digit that it should be
abbrev pub check_detail_of : (given place wanted : ℕ) → List ℕ
check_detail_of given place wanted =
    decimal given ++ codes " at " ++ decimal place ++ codes ", wanted " ++ decimal wanted

-- the word for what a limit counts
abbrev pub unit_text : Unit → List ℕ
unit_text Bytes = codes "bytes"
unit_text Elements = codes "elements"

-- a passed limit
abbrev pub limit_detail_of : (limit : ℕ) → Unit → List ℕ
limit_detail_of limit unit = codes "more than " ++ decimal limit ++ codes " " ++ unit_text unit

-- data that no allowed size holds: its codewords, the last allowed size and what that holds
abbrev pub size_detail_of : NoFit → List ℕ
size_detail_of misfit =
    decimal misfit.needed ++ codes " data codewords, " ++ size_text misfit.last
    ++ codes " holds " ++ decimal misfit.held
