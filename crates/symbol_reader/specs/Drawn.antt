-- The symbol of a message, a picture near it, and what reading such a picture gives.
use Rattle.std.specs.Prelude.{◌≡◌, ℕ, ◌+◌, ◌-◌, ◌*◌, ◌≤◌, true, false, All, IfErr, IfOk, List, Bool, Result, Ok, Err, length}
use Rattle.bar_base.specs.Picture.{Picture, module_at, row_count}
use Rattle.bar_base.specs.declared.message.Message.{Message}
use Rattle.galois.specs.CheckNumbers.{IsContinuation, apart, known_apart, polynomial_of}
use Rattle.galois.specs.CheckWord.{lost_count}
use Rattle.aztec_layout.specs.declared.sizes.Size.{Size}
use Rattle.aztec_layout.specs.Core.{is_core}
use Rattle.aztec_layout.specs.CoreReading.{AreModeWords, middle_of}
use Rattle.aztec_layout.specs.DataReading.{AreCodewords}
use Rattle.aztec_layout.specs.ModeMessage.{CanHold, check_words}
use Rattle.aztec_layout.specs.Sizes.{IsSize, codeword_width, codewords_of}
use Rattle.aztec_layout.specs.Stuffing.{Carries}
use Rattle.aztec_layout.specs.SymbolGrid.{IsSymbolGrid}
use Rattle.aztec_modes.specs.Message.{SpellsMessage}
use Rattle.aztec_modes.specs.Reading.{IsProper}
use Rattle.symbol_reader.specs.declared.grid_fault.GridFault.{GridFault}
use Rattle.symbol_reader.specs.declared.grid_fault.GridFault.TheVariants.{NoMemory}
use Rattle.symbol_reader.specs.Reading.{IsGridFault, IsReadingOf}
use Rattle.symbol_reader.specs.Sight.{AreSeenCodewords, AreSeenModes, Sight, sight_of}
use Rattle.symbol_reader.specs.declared.reading.LostReading.{LostReading}
use Rattle.symbol_reader.specs.declared.reading.Reading.{Reading}
use Rattle.symbol_reader.specs.declared.unknown.Unknown.{Unknown}

-- A drawn symbol of a message: bits that spell it, by whatever codes; data codewords that carry them; the check codewords
-- behind these; and the picture of all codewords in a size that can name so many data codewords
-- (ISO/IEC 24778, Character encodation, bit stuffing, error correction, symbol structure).
pub record IsMessageSymbol (message : Message) (size : Size) (held : ℕ) (codewords : List ℕ) (drawn : Picture) : Type 0 where
  pub proper : IsProper message
  pub bits : List Bool
  pub spelled : SpellsMessage message bits
  pub words : List ℕ
  pub carried : Carries (codeword_width size) bits words
  pub held_is : held ≡ length words
  pub sized : IsSize size
  pub can_hold : CanHold size held
  pub coded :
      IsContinuation (codeword_width size) (polynomial_of (codeword_width size)) words (codewords_of size - length words)
      codewords
  pub grid : IsSymbolGrid size held codewords drawn

-- A picture is near a drawn symbol where it has its side, its finder and its orientation marks, and where at most half as
-- many of its mode words and of its codewords differ from the drawn ones as there are check words of each. The reference
-- grid and the bits in front of the codewords are free (ISO/IEC 24778, error correction).
pub record IsNearSymbol (size : Size) (held : ℕ) (codewords : List ℕ) (drawn picture : Picture) : Type 0 where
  pub width : picture.width ≡ drawn.width
  pub rows : row_count picture ≡ row_count drawn
  pub core : (x y : ℕ) → is_core size.full (middle_of drawn) x y ≡ true → module_at picture x y ≡ module_at drawn x y
  pub drawn_modes : List ℕ
  pub drawn_shown : AreModeWords size.full drawn drawn_modes
  pub modes : List ℕ
  pub modes_shown : AreModeWords size.full picture modes
  pub modes_near : 2 * apart modes drawn_modes ≤ check_words size.full
  pub words : List ℕ
  pub words_shown : AreCodewords size picture words
  pub words_near : 2 * apart words codewords ≤ codewords_of size - held

-- The same of a picture of which some modules are unknown: finder and marks are known, and twice the number of known words
-- that differ and the number of lost ones are together at most the number of check words, of the mode words and of the
-- codewords (ISO/IEC 24778, error correction: errors and erasures).
pub record IsNearSeen (size : Size) (held : ℕ) (codewords : List ℕ) (drawn : Picture) (sight : Sight) : Type 0 where
  pub width : sight.picture.width ≡ drawn.width
  pub rows : row_count sight.picture ≡ row_count drawn
  pub dark_width : sight.dark.width ≡ drawn.width
  pub dark_rows : row_count sight.dark ≡ row_count drawn
  pub core : (x y : ℕ) → is_core size.full (middle_of drawn) x y ≡ true → module_at sight.picture x y ≡ module_at drawn x y
  pub dark_core : (x y : ℕ) → is_core size.full (middle_of drawn) x y ≡ true → module_at sight.dark x y ≡ module_at drawn x y
  pub drawn_modes : List ℕ
  pub drawn_shown : AreModeWords size.full drawn drawn_modes
  pub modes : List ℕ
  pub lost_modes : List Bool
  pub modes_seen : AreSeenModes size.full sight modes lost_modes
  pub modes_near : 2 * known_apart lost_modes modes drawn_modes + lost_count lost_modes ≤ check_words size.full
  pub words : List ℕ
  pub lost : List Bool
  pub words_seen : AreSeenCodewords size sight words lost
  pub words_near : 2 * known_apart lost words codewords + lost_count lost ≤ codewords_of size - held

-- An answer says a message, the size of its symbol and the number of data codewords, unless memory is wanting.
abbrev pub Says : Message → (size : Size) (held : ℕ) → Result Reading GridFault → Type 0
Says message size held (Ok reading) = (reading.message ≡ message) × (reading.size ≡ size) × (reading.held ≡ held)
Says message size held (Err fault) = fault ≡ NoMemory

-- The same with no codeword that was corrected.
abbrev pub SaysWhole : Message → (size : Size) (held : ℕ) → Result Reading GridFault → Type 0
SaysWhole message size held (Ok reading) = Says message size held (Ok reading) × (reading.corrected ≡ 0)
SaysWhole message size held (Err fault) = fault ≡ NoMemory

-- Whatever message was drawn in whatever symbol: where the picture is near the symbol, it reads as that message.
abbrev pub ReadsBack : Picture → Result Reading GridFault → Type 0
ReadsBack picture result = (message : Message) (size : Size) (held : ℕ) (codewords : List ℕ) (drawn : Picture)
    → IsMessageSymbol message size held codewords drawn → IsNearSymbol size held codewords drawn picture
    → Says message size held result

-- Where the picture is a drawn symbol, it reads as its message, with no codeword corrected.
abbrev pub ReadsWhole : Picture → Result Reading GridFault → Type 0
ReadsWhole picture result = (message : Message) (size : Size) (held : ℕ) (codewords : List ℕ)
    → IsMessageSymbol message size held codewords picture → SaysWhole message size held result

-- An answer says the same of a picture with unknown modules.
abbrev pub SaysLost : Message → (size : Size) (held : ℕ) → Result LostReading GridFault → Type 0
SaysLost message size held (Ok read) = Says message size held (Ok read.reading)
SaysLost message size held (Err fault) = fault ≡ NoMemory

-- Whatever message was drawn in whatever symbol: where the picture with its unknown modules is near the symbol, it reads as
-- that message.
abbrev pub ReadsLostBack : Unknown → Result LostReading GridFault → Type 0
ReadsLostBack unknown result = (message : Message) (size : Size) (held : ℕ) (codewords : List ℕ) (drawn : Picture)
    → IsMessageSymbol message size held codewords drawn → IsNearSeen size held codewords drawn (sight_of unknown)
    → SaysLost message size held result

-- Where all modules are known, the picture reads as it does without any that could be unknown, and nothing is lost.
abbrev pub ReadsKnown : Unknown → Result LostReading GridFault → Type 0
ReadsKnown unknown result = All (λ gone. gone ≡ false) unknown.lost.modules
    → IfOk result (λ read. IsReadingOf unknown.grid read.reading × (read.lost ≡ 0)) × IfErr result (IsGridFault unknown.grid)
