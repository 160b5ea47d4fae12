-- What keeps a picture from being read: its exit status and its detail.
use Rattle.std.specs.Prelude.{ℕ, List, ◌++◌, codes, decimal}
use Rattle.zint_answers.specs.Report.{numbers_text}
use Rattle.zint_answers.specs.declared.symbol_fault.SymbolFault.{SymbolFault}
use Rattle.zint_answers.specs.declared.symbol_fault.SymbolFault.TheVariants.{NoFinder, BadMode, TooDamaged, BadWord, BadSpelling, BadPattern, BadValue}

-- the exit status
abbrev pub symbol_status : SymbolFault → ℕ
symbol_status (NoFinder x y) = 14
symbol_status (BadMode words) = 15
symbol_status (TooDamaged codewords check) = 16
symbol_status (BadWord place) = 17
symbol_status (BadSpelling place) = 17
symbol_status (BadPattern place) = 17
symbol_status (BadValue place) = 17

-- damage that cannot be corrected: the codewords, and the check codewords among them
abbrev pub damage_detail_of : (codewords check : ℕ) → List ℕ
damage_detail_of codewords check = decimal codewords ++ codes " codewords, " ++ decimal check ++ codes " check"

-- what it is about
abbrev pub symbol_detail_of : SymbolFault → List ℕ
symbol_detail_of (NoFinder x y) = decimal x ++ codes "," ++ decimal y
symbol_detail_of (BadMode words) = numbers_text words
symbol_detail_of (TooDamaged codewords check) = damage_detail_of codewords check
symbol_detail_of (BadWord place) = codes "codeword " ++ decimal place
symbol_detail_of (BadSpelling place) = codes "bit " ++ decimal place
symbol_detail_of (BadPattern place) = codes "module " ++ decimal place
symbol_detail_of (BadValue place) = codes "value " ++ decimal place
