-- The Aztec symbol in an image has one report, and what was drawn is told: what is near it, and what is written of it.
use Rattle.std.proofs.Common.{◌≡◌, ℕ, ◌-◌, ◌∙◌, List, Result, Ok, Err, refl, sym, ap, subst, inl, inr}
use Rattle.bar_base.specs.declared.message.Message.{Message}
use Rattle.aztec_layout.specs.Sizes.{codewords_of}
use Rattle.aztec_layout.specs.declared.sizes.Size.{Size}
use Rattle.symbol_reader.specs.Reading.{IsFaultIn, IsReadingIn}
use Rattle.symbol_reader.specs.Sight.{Sight, known}
use Rattle.symbol_reader.specs.declared.grid_fault.GridFault.TheVariants as grid
use Rattle.symbol_reader.specs.declared.reading.LostReading.{LostReading}
use Rattle.symbol_reader.specs.declared.reading.Reading.{Reading}
use Rattle.symbol_reader.proofs.DrawnReads.{near_itself, near_seen, no_fault_near, reads_whole, says}
use Rattle.symbol_reader.proofs.DrawnTexts.{drawn_matrix}
use Rattle.symbol_reader.proofs.OneFault.{grid_fault_once}
use Rattle.symbol_reader.proofs.ReadOnce.{can_read, fault_is, lost_once, none_gone, nothing_lost}
use Rattle.zint_settings.specs.Looks.{IsFrame}
use Rattle.zint_settings.specs.declared.look.Frame.{Frame}
use Rattle.bar_base.specs.Steps.{never_refused}
use Rattle.zint_answers.specs.declared.fault.Fault.TheVariants.{NoMemory, Refused}
use Rattle.zint_answers.specs.declared.refusal.Refusal.{Refusal}
use Rattle.bar_base.proofs.OneStep.{IsOne, never_one, then_one}
use Rattle.zint_answers.proofs.OneStep.{related_one}
use Rattle.zint_read.specs.Images.{IsWithin}
use Rattle.zint_read.specs.ReadReport.{IsReportOf}
use Rattle.zint_read.specs.frames.{ShowsSymbol, sees, tells_lost}
use Rattle.zint_read.specs.readers.Aztec.{DrawnMessage, HasNearDrawn, IsNearDrawn, IsWrittenOf, TellsMessage, TellsWhole, grid_fault, reading_of, reads_aztec, reads_sight}
use Rattle.zint_read.proofs.FrameLaws.{frame_laws, written_shown}
use Rattle.zint_read.proofs.ImagesOnce.{either_fault}
use Rattle.zint_read.proofs.OneReport.{report_once}

reads_sight_one : (sight : Sight) → IsOne (reads_sight sight)
reads_sight_one sight =
    related_one grid_fault (λ read. IsReadingIn sight read.reading read.lost) (IsFaultIn sight)
    (λ read other p q. lost_once sight read other p q)
    (λ read fault is refused. ap grid_fault (fault_is sight read.reading.message read.reading.size read.reading.held is.codewords (can_read sight read.reading read.lost is) fault refused))
    (λ f g p q. either_fault grid_fault _ NoMemory f g refl (grid_fault_once sight f g p q))

-- An image has one report, or one refusal.
pub reads_aztec_one : (frame : Frame) (bytes : List ℕ) → IsOne (reads_aztec frame bytes)
unfolding reads_aztec
reads_aztec_one frame bytes =
    then_one (sees frame bytes) _ ((frame_laws frame bytes).one)
    (λ sight. then_one (reads_sight sight) _ (reads_sight_one sight) (λ read. never_one (IsReportOf (tells_lost frame) read) (report_once (tells_lost frame) read)))

reading_with : Message → Size → (held check corrected : ℕ) → Reading
reading_with message size held check corrected = record { message = message; size = size; held = held; check = check; corrected = corrected }

-- a reading with these parts
reading_is : (reading : Reading) (drawn : DrawnMessage) → reading.message ≡ drawn.message → reading.size ≡ drawn.size → reading.held ≡ drawn.held
    → reading.check ≡ codewords_of reading.size - reading.held → reading ≡ (reading_of drawn reading.corrected 0).reading
unfolding reading_with
reading_is reading drawn is_message is_size is_held is_check =
    let check : reading.check ≡ codewords_of drawn.size - drawn.held =
    is_check ∙ ap (λ (s : Size). codewords_of s - reading.held) is_size ∙ ap (λ (n : ℕ). codewords_of drawn.size - n) is_held in
    ap (λ (m : Message). reading_with m reading.size reading.held reading.check reading.corrected) is_message
    ∙ ap (λ (s : Size). reading_with drawn.message s reading.held reading.check reading.corrected) is_size
    ∙ ap (λ (n : ℕ). reading_with drawn.message drawn.size n reading.check reading.corrected) is_held
    ∙ ap (λ (n : ℕ). reading_with drawn.message drawn.size drawn.held n reading.corrected) check

read_with : Reading → ℕ → LostReading
read_with reading lost = record { reading = reading; lost = lost }

-- what a picture near a drawn symbol reads as
read_is : (drawn : DrawnMessage) (sight : Sight) (near : IsNearDrawn drawn sight) (read : LostReading) → IsReadingIn sight read.reading read.lost
    → read ≡ reading_of drawn read.reading.corrected read.lost
unfolding read_with
read_is drawn sight near read is =
    let found = says drawn.message drawn.size drawn.held near.codewords near.grid near.symbol sight near.near read.reading read.lost is in
    ap (λ (r : Reading). read_with r read.lost) (reading_is read.reading drawn found.0 found.1 found.2 is.check)

-- Where an image has a picture to show that is near what was drawn, and all that it reads as is told so, every answer to it tells it.
shown_told : (frame : Frame) (bytes : List ℕ) (drawn : DrawnMessage) (sight : Sight) (Told : List ℕ → Type 0) → IsNearDrawn drawn sight → ShowsSymbol frame bytes drawn.size sight
    → ((read : LostReading) (report : List ℕ) → IsReadingIn sight read.reading read.lost → IsReportOf (tells_lost frame) read report → Told report)
    → (answer : Result (List ℕ) Refusal) → reads_aztec frame bytes answer → never_refused Told answer
unfolding reads_aztec
shown_told frame bytes drawn sight Told near shown tells (Ok report) (other, seen, (read, is, told)) =
    let same : other ≡ sight = (frame_laws frame bytes).near_seen drawn sight other near shown seen (Ok read) is in
    tells read report (subst (λ (z : Sight). IsReadingIn z read.reading read.lost) same is) told
shown_told frame bytes drawn sight Told near shown tells (Err refusal) (inl refused) = (frame_laws frame bytes).not_refused drawn sight near shown refusal refused
shown_told frame bytes drawn sight Told near shown tells (Err refusal) (inr (other, seen, inl (fault, refused, is))) =
    let same : other ≡ sight = (frame_laws frame bytes).near_seen drawn sight other near shown seen (Err refusal) (fault, refused, is) in
    let none : fault ≡ grid.NoMemory =
    no_fault_near drawn.message drawn.size drawn.held near.codewords near.grid near.symbol sight near.near fault (subst (λ (z : Sight). IsFaultIn z fault) same refused) in
    let e : NoMemory ≡ Refused refusal = ap grid_fault (sym none) ∙ is in
    cc
shown_told frame bytes drawn sight Told near shown tells (Err refusal) (inr (other, seen, inr (read, is, never))) = never

-- Every answer to an image that has something near to show tells what was drawn.
pub aztec_told : (frame : Frame) (bytes : List ℕ) (drawn : DrawnMessage) → HasNearDrawn frame bytes drawn
    → (answer : Result (List ℕ) Refusal) → reads_aztec frame bytes answer → never_refused (TellsMessage frame drawn) answer
aztec_told frame bytes drawn has = shown_told frame bytes drawn has.sight (TellsMessage frame drawn) has.near has.shown (λ read report is told. record {
  corrected = read.reading.corrected;
  lost = read.lost;
  told = subst (λ (r : LostReading). IsReportOf (tells_lost frame) r report) (read_is drawn has.sight has.near read is) told;
})

-- A symbol that is written is near itself.
near_written : (frame : Frame) (bytes : List ℕ) (drawn : DrawnMessage) (whole : IsWrittenOf frame bytes drawn) → IsNearDrawn drawn (known whole.grid)
near_written frame bytes drawn whole =
    let itself = near_itself drawn.message drawn.size drawn.held whole.codewords whole.grid whole.symbol in
    record {
      codewords = whole.codewords;
      grid = whole.grid;
      symbol = whole.symbol;
      near = near_seen drawn.message drawn.size drawn.held whole.codewords whole.grid whole.symbol whole.grid itself;
    }

-- nothing of it is corrected, and nothing lost
whole_read : (frame : Frame) (bytes : List ℕ) (drawn : DrawnMessage) (whole : IsWrittenOf frame bytes drawn) (read : LostReading)
    → IsReadingIn (known whole.grid) read.reading read.lost → read ≡ reading_of drawn 0 0
whole_read frame bytes drawn whole read is =
    let none : read.lost ≡ 0 = none_gone whole.grid read.reading read.lost is in
    let says = reads_whole whole.grid (Ok read.reading) (nothing_lost whole.grid read.reading read.lost is) tt drawn.message drawn.size drawn.held whole.codewords whole.symbol in
    read_is drawn (known whole.grid) (near_written frame bytes drawn whole) read is
    ∙ ap (λ (n : ℕ). reading_of drawn n read.lost) says.1 ∙ ap (reading_of drawn 0) none

-- A symbol that is written is within the limit, and every answer to it tells what was drawn, with nothing corrected.
pub aztec_whole : (frame : Frame) (bytes : List ℕ) (drawn : DrawnMessage) → IsFrame frame → IsWrittenOf frame bytes drawn
    → IsWithin bytes × ((answer : Result (List ℕ) Refusal) → reads_aztec frame bytes answer → never_refused (TellsWhole frame drawn) answer)
aztec_whole frame bytes drawn valid whole =
    let matrix = drawn_matrix drawn.size drawn.held whole.codewords whole.grid whole.symbol.sized whole.symbol.grid in
    let shown = written_shown frame bytes drawn.size whole.grid valid matrix whole.written in (
      shown.0,
      shown_told frame bytes drawn (known whole.grid) (TellsWhole frame drawn) (near_written frame bytes drawn whole) shown.1
          (λ read report is told. subst (λ (r : LostReading). IsReportOf (tells_lost frame) r report) (whole_read frame bytes drawn whole read is) told),
    )
