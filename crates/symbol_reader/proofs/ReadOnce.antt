-- A picture has at most one reading, and where it has one, no refusal but want of memory is right for it.
use Rattle.std.proofs.Common.{◌≡◌, ℕ, ◌-◌, inl, inr, Bool, false, List, ◌++◌, take, refl, sym, ap, subst, ◌∙◌}
use Rattle.std.specs.Prelude.{All, Option, Some, None, Result, Ok, Err, IfErr, IfOk, IfSome, is_some}
use Rattle.bar_base.specs.Picture.{Picture}
use Rattle.bar_base.specs.declared.message.Append.{Append}
use Rattle.bar_base.specs.declared.message.Message.{Message}
use Rattle.galois.specs.CheckNumbers.{IsNearIn, known_apart, polynomial_of}
use Rattle.galois.specs.CheckWord.{lost_count}
use Rattle.aztec_modes.specs.Message.{eci_elements, gs1_elements, header_elements, message_elements}
use Rattle.aztec_modes.specs.Reading.{IsBadAt, IsHeader, IsReading}
use Rattle.aztec_modes.proofs.FilledReadings.{reading_once}
use Rattle.aztec_modes.proofs.ReadingOnce.{reads_once, stops_apart}
use Rattle.aztec_layout.specs.declared.sizes.Size.{Size}
use Rattle.aztec_layout.specs.ModeMessage.{CanHold, IsModeMessage, check_words}
use Rattle.aztec_layout.specs.Sizes.{codeword_width, codewords_of}
use Rattle.aztec_layout.specs.Stuffing.{IsFirstBad, IsWord, unstuffed}
use Rattle.symbol_reader.specs.Reading.{AreCorrected, HasBadMode, HasBadSpelling, HasBadWord, HasDamage, IsFaultIn, IsGridFault, IsFound, IsLostReadingOf, IsMode, IsReadingIn, IsReadingOf}
use Rattle.aztec_layout.proofs.ShownCodewords.{codewords_once}
use Rattle.symbol_reader.specs.Sight.{AreSeenCodewords, AreSeenModes, Sight, known, lost_between, sight_of}
use Rattle.symbol_reader.specs.declared.reading.LostReading.{LostReading}
use Rattle.symbol_reader.specs.declared.unknown.Unknown.{Unknown}
use Rattle.symbol_reader.specs.declared.grid_fault.GridFault.{GridFault}
use Rattle.symbol_reader.specs.declared.grid_fault.GridFault.TheVariants.{NoMemory, BadSide, NoFinder, BadMode, TooDamaged, BadSpelling, BadWord}
use Rattle.symbol_reader.specs.declared.reading.Reading.{Reading}
use Rattle.symbol_reader.proofs.OneSize.{found_once, held_once}
use Rattle.symbol_reader.proofs.Sights.{modes_once, none_lost, same_here, seen_once}

-- No place keeps bits that have a reading from being read.
bad_apart : (width : ℕ) (bits : List Bool) (place : ℕ) (message : Message) → IsBadAt width bits place → IsReading width bits message → ⊥
unfolding message_elements
bad_apart width bits place message (inl stops) reading = stops_apart width stops reading.reads
bad_apart width bits place message (inr (at, none)) reading =
    by_append message.append refl reading.proper.header (λ is. reading.unmarked is none.marked)
  where
    by_append : (append : Option Append) → message.append ≡ append → IfSome append IsHeader → (is_some append ≡ false → ⊥) → ⊥
    by_append None is header some = some refl
    by_append (Some a) is header some =
        none.none a (gs1_elements message.gs1 ++ (eci_elements message.eci ++ message.body)) header
        (reads_once width none.reads reading.reads ∙ ap (λ (x : Option Append). header_elements x ++ (gs1_elements message.gs1 ++ (eci_elements message.eci ++ message.body))) is)

-- A picture can be read as a message: by words near those that it shows, whether or not others are as near.
pub record CanRead (sight : Sight) (message : Message) (size : Size) (held : ℕ) (codewords : List ℕ) : Type 0 where
  pub found : IsFound sight size
  pub modes : List ℕ
  pub lost_modes : List Bool
  pub modes_seen : AreSeenModes size.full sight modes lost_modes
  pub mode : List ℕ
  pub mode_near : IsNearIn 4 (polynomial_of 4) (check_words size.full) lost_modes modes mode
  pub named : IsModeMessage size held mode
  pub can_hold : CanHold size held
  pub words : List ℕ
  pub lost : List Bool
  pub words_seen : AreSeenCodewords size sight words lost
  pub words_near : IsNearIn (codeword_width size) (polynomial_of (codeword_width size)) (codewords_of size - held) lost words codewords
  pub good : All (IsWord (codeword_width size)) (take held codewords)
  pub reading : IsReading (codeword_width size) (unstuffed (codeword_width size) (take held codewords)) message

-- What a picture reads as, it can be read as.
pub can_read : (sight : Sight) (reading : Reading) (gone : ℕ) → (is : IsReadingIn sight reading gone) → CanRead sight reading.message reading.size reading.held is.codewords
can_read sight reading gone is = record {
  found = is.corrected.mode.found;
  modes = is.corrected.mode.words;
  lost_modes = is.corrected.mode.lost;
  modes_seen = is.corrected.mode.seen;
  mode = is.corrected.mode.mode;
  mode_near = is.corrected.mode.corrected.near;
  named = is.corrected.mode.message;
  can_hold = is.corrected.mode.can_hold;
  words = is.corrected.words;
  lost = is.corrected.lost;
  words_seen = is.corrected.seen;
  words_near = is.corrected.corrected.near;
  good = is.good;
  reading = is.message;
}

module _ (sight : Sight) (message : Message) (size : Size) (held : ℕ) (codewords : List ℕ) (can : CanRead sight message size held codewords) where
  mode_near_of : (words : List ℕ) (lost : List Bool) → AreSeenModes size.full sight words lost
      → IsNearIn 4 (polynomial_of 4) (check_words size.full) lost words can.mode
  mode_near_of words lost seen =
      same_here (modes_once size.full sight can.modes words can.lost_modes lost can.modes_seen seen)
      (λ gone ws. IsNearIn 4 (polynomial_of 4) (check_words size.full) gone ws can.mode) can.mode_near

  mode_is : (h : ℕ) → IsMode sight size h → h ≡ held
  mode_is h is =
      let mode : can.mode ≡ is.mode = is.corrected.only can.mode (mode_near_of is.words is.lost is.seen) in
      held_once size h held is.mode can.found.side.sized is.can_hold can.can_hold is.message (subst (λ (ws : List ℕ). IsModeMessage size held ws) mode can.named)

  -- The codewords that the picture is near to, for any number of data codewords that it says.
  near_of : (h : ℕ) (words : List ℕ) (lost : List Bool) → h ≡ held → AreSeenCodewords size sight words lost
      → IsNearIn (codeword_width size) (polynomial_of (codeword_width size)) (codewords_of size - h) lost words codewords
  near_of h words lost is seen =
      subst (λ (n : ℕ). IsNearIn (codeword_width size) (polynomial_of (codeword_width size)) (codewords_of size - n) lost words codewords) (sym is)
      (same_here (seen_once sight size can.words words can.lost lost can.words_seen seen)
      (λ gone ws. IsNearIn (codeword_width size) (polynomial_of (codeword_width size)) (codewords_of size - held) gone ws codewords) can.words_near)

  -- How many of the known codewords are wrong, and how many are lost.
  pub record AreCounted (errors gone : ℕ) (shown : List ℕ) (lost : List Bool) : Type 0 where
    pub errors_are : errors ≡ known_apart lost shown codewords
    pub gone_are : gone ≡ lost_count lost

  record IsSame (s : Size) (h : ℕ) (words : List ℕ) (errors gone : ℕ) : Type 0 where
    size_is : s ≡ size
    held_is : h ≡ held
    words_are : words ≡ codewords
    counted : (shown : List ℕ) (lost : List Bool) → AreSeenCodewords size sight shown lost → AreCounted errors gone shown lost

  same_read : (h : ℕ) (words : List ℕ) (errors gone : ℕ) → AreCorrected sight size h words errors gone → IsSame size h words errors gone
  same_read h words errors gone is =
      let held_is : h ≡ held = mode_is h is.mode in
      let words_are : codewords ≡ words = is.corrected.only codewords (near_of h is.words is.lost held_is is.seen) in
      record {
        size_is = refl;
        held_is = held_is;
        words_are = sym words_are;
        counted = λ shown lost seen.
            same_here (seen_once sight size is.words shown is.lost lost is.seen seen) (λ bs ws. AreCounted errors gone ws bs)
            (record { errors_are = is.counted ∙ ap (known_apart is.lost is.words) (sym words_are); gone_are = is.gone_are });
      }

  same_as : (s : Size) (h : ℕ) (words : List ℕ) (errors gone : ℕ) → AreCorrected sight s h words errors gone → IsSame s h words errors gone
  same_as s h words errors gone is =
      let size_is : s ≡ size = found_once sight s size is.mode.found can.found in
      let here = same_read h words errors gone (subst (λ (z : Size). AreCorrected sight z h words errors gone) size_is is) in
      record { size_is = size_is; held_is = here.held_is; words_are = here.words_are; counted = here.counted }

  -- What holds of the corrected codewords of the picture holds of these.
  moved : (P : Size → List ℕ → Type 0) (s : Size) (h : ℕ) (words : List ℕ) (errors gone : ℕ) → AreCorrected sight s h words errors gone
      → P s (take h words) → P size (take held codewords)
  moved P s h words errors gone is holds =
      let same = same_as s h words errors gone is in
      subst (λ (ws : List ℕ). P size (take held ws)) same.words_are
      (subst (λ (n : ℕ). P size (take n words)) same.held_is (subst (λ (z : Size). P z (take h words)) same.size_is holds))

  -- A reading of the picture is this one.
  pub record IsThis (reading : Reading) (gone : ℕ) : Type 0 where
    pub message_is : reading.message ≡ message
    pub size_is : reading.size ≡ size
    pub held_is : reading.held ≡ held
    pub counted : (shown : List ℕ) (lost : List Bool) → AreSeenCodewords size sight shown lost → AreCounted reading.corrected gone shown lost

  pub reading_is : (reading : Reading) (gone : ℕ) → IsReadingIn sight reading gone → IsThis reading gone
  reading_is reading gone is =
      let same = same_as reading.size reading.held is.codewords reading.corrected gone is.corrected in
      record {
        message_is = reading_once (codeword_width size) (unstuffed (codeword_width size) (take held codewords)) reading.message message
            (moved (λ s words. IsReading (codeword_width s) (unstuffed (codeword_width s) words) reading.message)
            reading.size reading.held is.codewords reading.corrected gone is.corrected is.message) can.reading;
        size_is = same.size_is;
        held_is = same.held_is;
        counted = same.counted;
      }

  no_bad_mode : (words : List ℕ) → HasBadMode sight words → ⊥
  no_bad_mode words is =
      let same : is.size ≡ size = found_once sight is.size size is.found can.found in
      let seen : AreSeenModes size.full sight words is.lost = subst (λ (z : Size). AreSeenModes z.full sight words is.lost) same is.seen in
      subst (λ (z : Size). CanHold z held → IsModeMessage z held can.mode → IsNearIn 4 (polynomial_of 4) (check_words z.full) is.lost words can.mode → ⊥)
      same (is.none held can.mode) can.can_hold can.named (mode_near_of words is.lost seen)

  no_damage : (count check : ℕ) → HasDamage sight count check → ⊥
  no_damage count check is =
      let same : is.size ≡ size = found_once sight is.size size is.mode.found can.found in
      let mode : IsMode sight size is.held = subst (λ (z : Size). IsMode sight z is.held) same is.mode in
      let seen : AreSeenCodewords size sight is.words is.lost = subst (λ (z : Size). AreSeenCodewords z sight is.words is.lost) same is.seen in
      subst (λ (z : Size). IsNearIn (codeword_width z) (polynomial_of (codeword_width z)) (codewords_of z - is.held) is.lost is.words codewords → ⊥)
      same (is.none codewords) (near_of is.held is.words is.lost (mode_is is.held mode) seen)

  no_bad_word : (place : ℕ) → HasBadWord sight place → ⊥
  no_bad_word place is =
      let here : IsFirstBad (codeword_width size) (take held codewords) place =
      moved (λ s words. IsFirstBad (codeword_width s) words place) is.size is.held is.codewords is.errors is.gone is.corrected is.bad in
      here.bad (can.good place 0 here.within)

  no_bad_spelling : (place : ℕ) → HasBadSpelling sight place → ⊥
  no_bad_spelling place is =
      bad_apart (codeword_width size) (unstuffed (codeword_width size) (take held codewords)) place message
      (moved (λ s words. IsBadAt (codeword_width s) (unstuffed (codeword_width s) words) place) is.size is.held is.codewords is.errors is.gone is.corrected is.bad)
      can.reading

  -- No refusal but want of memory is right for the picture.
  pub fault_is : (fault : GridFault) → IsFaultIn sight fault → fault ≡ NoMemory
  fault_is NoMemory is = refl
  fault_is (BadSide width rows) (_, _, none) = absurd (none size can.found.side)
  fault_is (NoFinder x y) is = absurd (is.none size can.found)
  fault_is (BadMode words) is = absurd (no_bad_mode words is)
  fault_is (TooDamaged count check) is = absurd (no_damage count check is)
  fault_is (BadSpelling place) is = absurd (no_bad_spelling place is)
  fault_is (BadWord place) is = absurd (no_bad_word place is)

reading_with : Message → Size → (held check corrected : ℕ) → Reading
reading_with message size held check corrected = record { message = message; size = size; held = held; check = check; corrected = corrected }

record IsOther (reading other : Reading) (gone gone' : ℕ) : Type 0 where
  reading_same : other ≡ reading
  gone_same : gone' ≡ gone

-- A picture has at most one reading.
same_reading : (sight : Sight) (reading other : Reading) (gone gone' : ℕ) → IsReadingIn sight reading gone → IsReadingIn sight other gone' → IsOther reading other gone gone'
unfolding reading_with
same_reading sight reading other gone gone' is is' =
    let can = can_read sight reading gone is in
    let same = reading_is sight reading.message reading.size reading.held is.codewords can other gone' is' in
    let check : other.check ≡ reading.check =
    is'.check ∙ ap (λ (z : Size). codewords_of z - other.held) same.size_is ∙ ap (λ (n : ℕ). codewords_of reading.size - n) same.held_is ∙ sym is.check in
    let counted = same.counted is.corrected.words is.corrected.lost is.corrected.seen in
    record {
      reading_same =
          ap (λ (m : Message). reading_with m other.size other.held other.check other.corrected) same.message_is
          ∙ ap (λ (z : Size). reading_with reading.message z other.held other.check other.corrected) same.size_is
          ∙ ap (λ (n : ℕ). reading_with reading.message reading.size n other.check other.corrected) same.held_is
          ∙ ap (λ (n : ℕ). reading_with reading.message reading.size reading.held n other.corrected) check
          ∙ ap (λ (n : ℕ). reading_with reading.message reading.size reading.held reading.check n) (counted.errors_are ∙ sym is.corrected.counted);
      gone_same = counted.gone_are ∙ sym is.corrected.gone_are;
    }

pub only_reading : (picture : Picture) (result : Result Reading GridFault) → IfOk result (IsReadingOf picture)
    → IfOk result (λ reading. (other : Reading) → IsReadingOf picture other → other ≡ reading)
only_reading picture (Ok reading) is = λ other is'. (same_reading (known picture) reading other 0 0 is is').reading_same
only_reading picture (Err fault) is = is

pub no_fault : (picture : Picture) (result : Result Reading GridFault) → IfErr result (IsGridFault picture)
    → IfErr result (λ fault. (other : Reading) → IsReadingOf picture other → fault ≡ NoMemory)
no_fault picture (Ok reading) is = is
no_fault picture (Err fault) is = λ other reads.
    fault_is (known picture) other.message other.size other.held reads.codewords (can_read (known picture) other 0 reads) fault is

-- In a picture whose modules are all known nothing is lost.
pub none_gone : (picture : Picture) (reading : Reading) (gone : ℕ) → IsReadingIn (known picture) reading gone → gone ≡ 0
none_gone picture reading gone is =
    let seen = is.corrected.seen in
    is.corrected.gone_are ∙ ap lost_count seen.lost_are
    ∙ ap (λ (ws : List ℕ). lost_count (lost_between is.corrected.words ws)) (codewords_once picture reading.size seen.others is.corrected.words seen.shown_dark seen.shown)
    ∙ none_lost is.corrected.words

pub nothing_lost : (picture : Picture) (reading : Reading) (gone : ℕ) → IsReadingIn (known picture) reading gone → IsReadingOf picture reading
nothing_lost picture reading gone is = subst (λ (n : ℕ). IsReadingIn (known picture) reading n) (none_gone picture reading gone is) is

lost_with : Reading → ℕ → LostReading
lost_with reading gone = record { reading = reading; lost = gone }

-- The same of pictures with unknown modules.
pub lost_once : (sight : Sight) (read other : LostReading) → IsReadingIn sight read.reading read.lost → IsReadingIn sight other.reading other.lost → read ≡ other
unfolding lost_with
lost_once sight read other is is' =
    let same = same_reading sight other.reading read.reading other.lost read.lost is' is in
    ap (λ (r : Reading). lost_with r read.lost) same.reading_same ∙ ap (lost_with other.reading) same.gone_same

pub only_lost : (unknown : Unknown) (result : Result LostReading GridFault) → IfOk result (IsLostReadingOf unknown)
    → IfOk result (λ read. (other : LostReading) → IsLostReadingOf unknown other → other ≡ read)
only_lost unknown (Ok read) is = λ other is'. lost_once (sight_of unknown) other read is' is
only_lost unknown (Err fault) is = is

pub no_lost_fault : (unknown : Unknown) (result : Result LostReading GridFault) → IfErr result (IsFaultIn (sight_of unknown))
    → IfErr result (λ fault. (other : LostReading) → IsLostReadingOf unknown other → fault ≡ NoMemory)
no_lost_fault unknown (Ok read) is = is
no_lost_fault unknown (Err fault) is = λ other reads.
    fault_is (sight_of unknown) other.reading.message other.reading.size other.reading.held reads.codewords (can_read (sight_of unknown) other.reading other.lost reads) fault is
