-- The Aztec symbol in an image, read (ISO/IEC 24778, reference decode algorithm).
use Rattle.std.specs.Prelude.{ℕ, ◌-◌, List}
use Rattle.bar_base.specs.Picture.{Picture}
use Rattle.bar_base.specs.declared.message.Message.{Message}
use Rattle.aztec_layout.specs.Sizes.{codewords_of}
use Rattle.aztec_layout.specs.declared.sizes.Size.{Size}
use Rattle.symbol_reader.specs.Drawn.{IsMessageSymbol, IsNearSeen}
use Rattle.symbol_reader.specs.Reading.{IsFaultIn, IsReadingIn}
use Rattle.symbol_reader.specs.Sight.{Sight}
use Rattle.symbol_reader.specs.declared.grid_fault.GridFault.{GridFault}
use Rattle.symbol_reader.specs.declared.grid_fault.GridFault.TheVariants as grid
use Rattle.symbol_reader.specs.declared.reading.LostReading.{LostReading}
use Rattle.zint_settings.specs.declared.look.Frame.{Frame}
use Rattle.bar_base.specs.Steps.{Step, ◌>>=◌, never_refused}
use Rattle.zint_answers.specs.Steps.{related}
use Rattle.zint_answers.specs.declared.fault.Fault.{Fault}
use Rattle.zint_answers.specs.declared.fault.Fault.TheVariants.{NoMemory, Refused}
use Rattle.zint_answers.specs.declared.image_fault.ImageFault.TheVariants.{Side}
use Rattle.zint_answers.specs.declared.refusal.Refusal.TheVariants.{BadImage, BadSymbol}
use Rattle.zint_answers.specs.declared.symbol_fault.SymbolFault.TheVariants.{NoFinder, BadMode, TooDamaged, BadWord, BadSpelling}
use Rattle.zint_read.specs.ReadReport.{IsReportOf}
use Rattle.zint_read.specs.frames.{IsWritten, ShowsSymbol, sees, tells_lost}
use Rattle.zint_answers.specs.declared.refusal.Refusal.{Refusal}

-- what a fault of a picture is here
abbrev pub grid_fault : GridFault → Fault
grid_fault grid.NoMemory = NoMemory
grid_fault (grid.BadSide width rows) = Refused (BadImage (Side width rows))
grid_fault (grid.NoFinder x y) = Refused (BadSymbol (NoFinder x y))
grid_fault (grid.BadMode words) = Refused (BadSymbol (BadMode words))
grid_fault (grid.TooDamaged codewords check) = Refused (BadSymbol (TooDamaged codewords check))
grid_fault (grid.BadSpelling place) = Refused (BadSymbol (BadSpelling place))
grid_fault (grid.BadWord place) = Refused (BadSymbol (BadWord place))

-- what a picture reads as, of which some modules may be unknown
abbrev pub reads_sight : Sight → Step LostReading Refusal
reads_sight sight = related grid_fault (λ read. IsReadingIn sight read.reading read.lost) (IsFaultIn sight)

-- The read report of the symbol in an image: what is seen of it, what that reads as, and the lines that tell it.
unfoldable pub reads_aztec : Frame → (bytes : List ℕ) → Step (List ℕ) Refusal
reads_aztec frame bytes = do
  sight ← sees frame bytes
  read ← reads_sight sight
  never_refused (IsReportOf (tells_lost frame) read)

-- What was drawn: a message, the size of its symbol, and the number of data codewords.
pub record DrawnMessage : Type 0 where
  pub message : Message
  pub size : Size
  pub held : ℕ

-- A picture, of which some modules may be unknown, is near a drawn symbol of a message (ISO/IEC 24778, error correction).
pub record IsNearDrawn (drawn : DrawnMessage) (sight : Sight) : Type 0 where
  pub codewords : List ℕ
  pub grid : Picture
  pub symbol : IsMessageSymbol drawn.message drawn.size drawn.held codewords grid
  pub near : IsNearSeen drawn.size drawn.held codewords grid sight

-- An image has a picture to show, in a frame, that is near what was drawn.
pub record HasNearDrawn (frame : Frame) (bytes : List ℕ) (drawn : DrawnMessage) : Type 0 where
  pub sight : Sight
  pub near : IsNearDrawn drawn sight
  pub shown : ShowsSymbol frame bytes drawn.size sight

-- An image is a symbol of what was drawn, as it is written.
pub record IsWrittenOf (frame : Frame) (bytes : List ℕ) (drawn : DrawnMessage) : Type 0 where
  pub codewords : List ℕ
  pub grid : Picture
  pub symbol : IsMessageSymbol drawn.message drawn.size drawn.held codewords grid
  pub written : IsWritten frame bytes drawn.size grid

-- what is read of what was drawn, with so many codewords that were wrong, and so many that were lost
abbrev pub reading_of : DrawnMessage → (corrected lost : ℕ) → LostReading
reading_of drawn corrected lost = record {
  reading = record {
    message = drawn.message;
    size = drawn.size;
    held = drawn.held;
    check = codewords_of drawn.size - drawn.held;
    corrected = corrected;
  };
  lost = lost;
}

-- The read report of what was drawn, whatever was corrected and lost.
pub record TellsMessage (frame : Frame) (drawn : DrawnMessage) (report : List ℕ) : Type 0 where
  pub corrected : ℕ
  pub lost : ℕ
  pub told : IsReportOf (tells_lost frame) (reading_of drawn corrected lost) report

-- The same where nothing was corrected, and nothing lost.
abbrev pub TellsWhole : Frame → DrawnMessage → (report : List ℕ) → Type 0
TellsWhole frame drawn report = IsReportOf (tells_lost frame) (reading_of drawn 0 0) report
