-- The exit status and the detail of each refusal.
use Rattle.std.specs.Prelude.{ℕ, List, codes, string_bytes}
use Rattle.zint_answers.specs.Detail.{check_detail_of, limit_detail_of, place_detail_of, segment_detail_of, size_detail_of}
use Rattle.zint_answers.specs.ImageFaults.{image_detail_of, image_status}
use Rattle.zint_answers.specs.SymbolFaults.{symbol_detail_of, symbol_status}
use Rattle.zint_answers.specs.declared.refusal.Refusal.{Refusal}
use Rattle.zint_answers.specs.declared.refusal.Refusal.TheVariants.{Usage, TooLong, BadData, BadSegment, BadCheck, BadOption, NoFit, BadImage, BadSymbol}

-- the exit status of a refusal
abbrev pub refusal_status : Refusal → ℕ
refusal_status Usage = 1
refusal_status (TooLong limit unit) = 5
refusal_status (BadData kind place) = 6
refusal_status (BadSegment kind place segment) = 6
refusal_status (BadCheck given place wanted) = 7
refusal_status (BadOption text) = 8
refusal_status (NoFit misfit) = 9
refusal_status (BadImage fault) = image_status fault
refusal_status (BadSymbol fault) = symbol_status fault

-- what a refusal is about
abbrev pub refusal_detail : Refusal → List ℕ
refusal_detail Usage = codes "usage"
refusal_detail (TooLong limit unit) = limit_detail_of limit unit
refusal_detail (BadData kind place) = place_detail_of kind place
refusal_detail (BadSegment kind place segment) = segment_detail_of kind place segment
refusal_detail (BadCheck given place wanted) = check_detail_of given place wanted
refusal_detail (BadOption text) = string_bytes text
refusal_detail (NoFit misfit) = size_detail_of misfit
refusal_detail (BadImage fault) = image_detail_of fault
refusal_detail (BadSymbol fault) = symbol_detail_of fault
