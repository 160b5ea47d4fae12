-- A picture near the symbol of a message reads as that message, and the symbol itself with nothing corrected.
use Rattle.std.proofs.Common.{◌≡◌, ℕ, ◌+◌, ◌-◌, ◌*◌, ◌/◌, ◌<◌, ◌≤◌, Bool, true, false, List, [], ◌∷◌, Some, length, take, refl, sym, ap, subst, ◌∙◌, arith}
use Rattle.std.specs.Prelude.{All, replicate, slice_get, ◌==◌, if◌then◌else◌, Result, Ok, Err, IfErr, IfOk}
use Rattle.std.proofs.lemmas.Bool.Decides.{nat_tests}
use Rattle.std.proofs.lemmas.List.{length-replicate}
use Rattle.bar_base.specs.Picture.{Picture, module_at, row_count}
use Rattle.bar_base.specs.declared.message.Message.{Message}
use Rattle.bar_base.proofs.ListLemmas.{slice_get-append_right}
use Rattle.galois.specs.CheckNumbers.{IsCheckWordIn, IsNearIn, apart, known_apart, polynomial_of}
use Rattle.galois.specs.CheckWord.{distance, lost_count}
use Rattle.aztec_modes.specs.Reading.{IsReading}
use Rattle.aztec_modes.proofs.FilledReadings.{message_reads}
use Rattle.aztec_layout.specs.declared.sizes.Size.{Size}
use Rattle.aztec_layout.specs.Core.{is_core, is_dark_core}
use Rattle.aztec_layout.specs.CoreReading.{HasFinder}
use Rattle.aztec_layout.specs.DataReading.{AreCodewords}
use Rattle.aztec_layout.specs.ModeMessage.{check_words, word_bits}
use Rattle.aztec_layout.specs.Sizes.{codeword_width, codewords_of, lead_bits, side_of}
use Rattle.aztec_layout.specs.Stuffing.{IsWord, unstuffed}
use Rattle.aztec_layout.specs.SymbolGrid.{ShowsAll, data_bits}
use Rattle.aztec_layout.proofs.ReadLemmas.{mode_words_once}
use Rattle.aztec_layout.proofs.ShownLemmas.{symbol_shows}
use Rattle.aztec_layout.proofs.SizeLemmas.{width_few}
use Rattle.symbol_reader.specs.Drawn.{IsMessageSymbol, IsNearSeen, IsNearSymbol, ReadsBack, ReadsKnown, ReadsLostBack, ReadsWhole, Says, SaysWhole}
use Rattle.symbol_reader.specs.Reading.{IsFaultIn, IsGridFault, IsFound, IsLostReadingOf, IsReadingIn, IsReadingOf}
use Rattle.symbol_reader.specs.Sight.{Sight, darkened, known, lost_between, sight_of}
use Rattle.symbol_reader.specs.declared.reading.LostReading.{LostReading}
use Rattle.symbol_reader.specs.declared.unknown.Unknown.{Unknown}
use Rattle.symbol_reader.specs.declared.grid_fault.GridFault.{GridFault}
use Rattle.symbol_reader.specs.declared.grid_fault.GridFault.TheVariants.{NoMemory}
use Rattle.symbol_reader.specs.declared.reading.Reading.{Reading}
use Rattle.symbol_reader.proofs.ReadOnce.{CanRead, fault_is, none_gone, nothing_lost, reading_is}
use Rattle.symbol_reader.proofs.Sights.{all_known, darkened_none, none_lost}

module _ (message : Message) (size : Size) (held : ℕ) (codewords : List ℕ) (drawn : Picture) (symbol : IsMessageSymbol message size held codewords drawn) where
  counted : length codewords ≡ codewords_of size
  counted = omega (arith, symbol.coded.continues.counted, symbol.can_hold.few, symbol.held_is)

  data_words : take held codewords ≡ symbol.words
  data_words = ap (λ (n : ℕ). take n codewords) symbol.held_is ∙ symbol.coded.continues.begins

  shows : ShowsAll size held codewords drawn
  shows = symbol_shows size held codewords drawn symbol.sized.0 counted symbol.grid

  check : IsCheckWordIn (codeword_width size) (polynomial_of (codeword_width size)) codewords (codewords_of size - held)
  check =
      subst (λ (n : ℕ). IsCheckWordIn (codeword_width size) (polynomial_of (codeword_width size)) codewords (codewords_of size - n))
      (sym symbol.held_is) symbol.coded.continues.check

  good : All (IsWord (codeword_width size)) (take held codewords)
  good = subst (λ (ws : List ℕ). All (IsWord (codeword_width size)) ws) (sym data_words) symbol.carried.each

  reading : IsReading (codeword_width size) (unstuffed (codeword_width size) (take held codewords)) message
  reading =
      subst (λ (bits : List Bool). IsReading (codeword_width size) bits message) (sym (ap (unstuffed (codeword_width size)) data_words ∙ symbol.carried.whole))
      (message_reads (codeword_width size) (omega (arith, width_few size)) symbol.carried.ones symbol.carried.few message symbol.bits symbol.proper symbol.spelled)

  module _ (sight : Sight) (near : IsNearSeen size held codewords drawn sight) where
    stands_in : (picture : Picture) → picture.width ≡ drawn.width → row_count picture ≡ row_count drawn
        → ((x y : ℕ) → is_core size.full (drawn.width / 2) x y ≡ true → module_at picture x y ≡ module_at drawn x y) → HasFinder size.full picture
    stands_in picture width rows core x y in_x in_y is =
        let here : is_core size.full (drawn.width / 2) x y ≡ true = ap (λ (w : ℕ). is_core size.full (w / 2) x y) (sym width) ∙ is in
        core x y here
        ∙ shows.core x y (subst (λ (w : ℕ). x < w) width in_x) (subst (λ (n : ℕ). y < n) rows in_y) here
        ∙ ap (λ (w : ℕ). Some (is_dark_core size.full (w / 2) x y)) (sym width)

    found : IsFound sight size
    found =
        let square = symbol.grid.shown.square in
        record {
          side = record {
            sized = symbol.sized;
            width = near.width ∙ square.width;
            rows = near.rows ∙ ap length square.heights ∙ length-replicate (side_of size) 1;
          };
          finder = record {
            stands = stands_in sight.picture near.width near.rows near.core;
            stands_dark = stands_in sight.dark near.dark_width near.dark_rows near.dark_core;
            width = near.dark_width ∙ sym near.width;
            rows = near.dark_rows ∙ sym near.rows;
          };
        }

    mode_near : IsNearIn 4 (polynomial_of 4) (check_words size.full) near.lost_modes near.modes shows.modes
    mode_near = record {
      long = shows.mode.counted ∙ sym near.modes_seen.shown.counted;
      check = shows.message.coded;
      near = subst (λ (ws : List ℕ). 2 * known_apart near.lost_modes near.modes ws + lost_count near.lost_modes ≤ check_words size.full)
          (mode_words_once size.full drawn near.drawn_modes shows.modes near.drawn_shown shows.mode) near.modes_near;
    }

    -- A picture near the symbol can be read as the message.
    pub near_can_read : CanRead sight message size held codewords
    near_can_read = record {
      found = found;
      modes = near.modes;
      lost_modes = near.lost_modes;
      modes_seen = near.modes_seen;
      mode = shows.modes;
      mode_near = mode_near;
      named = shows.message;
      can_hold = symbol.can_hold;
      words = near.words;
      lost = near.lost;
      words_seen = near.words_seen;
      words_near = record { long = counted ∙ sym near.words_seen.shown.counted; check = check; near = near.words_near };
      good = good;
      reading = reading;
    }

  -- A picture near the symbol is near it with nothing lost.
  pub near_seen : (picture : Picture) → IsNearSymbol size held codewords drawn picture → IsNearSeen size held codewords drawn (known picture)
  near_seen picture near = record {
    width = near.width;
    rows = near.rows;
    dark_width = near.width;
    dark_rows = near.rows;
    core = near.core;
    dark_core = near.core;
    drawn_modes = near.drawn_modes;
    drawn_shown = near.drawn_shown;
    modes = near.modes;
    lost_modes = lost_between near.modes near.modes;
    modes_seen = record { shown = near.modes_shown; others = near.modes; shown_dark = near.modes_shown; lost_are = refl };
    modes_near = omega (arith, all_known near.modes near.drawn_modes, none_lost near.modes, near.modes_near);
    words = near.words;
    lost = lost_between near.words near.words;
    words_seen = record { shown = near.words_shown; others = near.words; shown_dark = near.words_shown; lost_are = refl };
    words_near = omega (arith, all_known near.words codewords, none_lost near.words, near.words_near);
  }

  same_number : (n : ℕ) → (n == n) ≡ true
  same_number n = grind (arith, nat_tests)

  apart_self : (words : List ℕ) → apart words words ≡ 0
  unfolding distance
  apart_self [] = refl
  apart_self (w ∷ words) =
      ap (λ (b : Bool). (if b then 0 else 1) + apart words words) (same_number w) ∙ ap (λ (n : ℕ). 0 + n) (apart_self words)

  bit_of : (t : ℕ) → slice_get (data_bits size codewords) (lead_bits size + t) ≡ slice_get (word_bits (codeword_width size) codewords) t
  bit_of t =
      ap (λ (n : ℕ). slice_get (data_bits size codewords) (n + t)) (sym (length-replicate (lead_bits size) false))
      ∙ slice_get-append_right (replicate (lead_bits size) false) (word_bits (codeword_width size) codewords) t

  itself_shown : AreCodewords size drawn codewords
  itself_shown = record {
    counted = counted;
    each = symbol.coded.continues.check.each;
    bits = λ t x y inside place. shows.bits (lead_bits size + t) x y place ∙ bit_of t;
  }

  -- A symbol is near itself.
  pub near_itself : IsNearSymbol size held codewords drawn drawn
  near_itself = record {
    width = refl;
    rows = refl;
    core = λ x y core. refl;
    drawn_modes = shows.modes;
    drawn_shown = shows.mode;
    modes = shows.modes;
    modes_shown = shows.mode;
    modes_near = omega (arith, apart_self shows.modes);
    words = codewords;
    words_shown = itself_shown;
    words_near = omega (arith, apart_self codewords);
  }

  pub says : (sight : Sight) (near : IsNearSeen size held codewords drawn sight) (read : Reading) (gone : ℕ) → IsReadingIn sight read gone → Says message size held (Ok read)
  says sight near read gone is =
      let same = reading_is sight message size held codewords (near_can_read sight near) read gone is in
      (same.message_is, same.size_is, same.held_is)

  pub no_fault_near : (sight : Sight) (near : IsNearSeen size held codewords drawn sight) (fault : GridFault) → IsFaultIn sight fault → fault ≡ NoMemory
  no_fault_near sight near fault refused = fault_is sight message size held codewords (near_can_read sight near) fault refused

  says_whole : (result : Result Reading GridFault) → IfOk result (IsReadingOf drawn) → IfErr result (IsGridFault drawn) → SaysWhole message size held result
  says_whole (Ok r) is refused =
      let near = near_seen drawn near_itself in
      let same = reading_is (known drawn) message size held codewords (near_can_read (known drawn) near) r 0 is in
      let counted = same.counted codewords (lost_between codewords codewords) (record { shown = itself_shown; others = codewords; shown_dark = itself_shown; lost_are = refl }) in
      ((same.message_is, same.size_is, same.held_is), counted.errors_are ∙ all_known codewords codewords ∙ apart_self codewords)
  says_whole (Err fault) is refused = no_fault_near (known drawn) (near_seen drawn near_itself) fault refused

-- Any answer that the definition of reading licenses reads back what was drawn.
pub reads_back : (picture : Picture) (result : Result Reading GridFault) → IfOk result (IsReadingOf picture) → IfErr result (IsGridFault picture) → ReadsBack picture result
reads_back picture (Ok read) is refused = λ message size held codewords drawn symbol near.
    says message size held codewords drawn symbol (known picture) (near_seen message size held codewords drawn symbol picture near) read 0 is
reads_back picture (Err fault) is refused = λ message size held codewords drawn symbol near.
    no_fault_near message size held codewords drawn symbol (known picture) (near_seen message size held codewords drawn symbol picture near) fault refused

pub reads_whole : (picture : Picture) (result : Result Reading GridFault) → IfOk result (IsReadingOf picture) → IfErr result (IsGridFault picture) → ReadsWhole picture result
reads_whole picture result is refused = λ message size held codewords symbol. says_whole message size held codewords picture symbol result is refused

-- The same of pictures with unknown modules.
pub reads_lost_back : (unknown : Unknown) (result : Result LostReading GridFault) → IfOk result (IsLostReadingOf unknown) → IfErr result (IsFaultIn (sight_of unknown))
    → ReadsLostBack unknown result
reads_lost_back unknown (Ok read) is refused = λ message size held codewords drawn symbol near.
    says message size held codewords drawn symbol (sight_of unknown) near read.reading read.lost is
reads_lost_back unknown (Err fault) is refused = λ message size held codewords drawn symbol near.
    no_fault_near message size held codewords drawn symbol (sight_of unknown) near fault refused

-- Where all modules are known, such a picture is one whose modules are all known.
pub reads_known : (unknown : Unknown) (result : Result LostReading GridFault) → length unknown.grid.modules ≤ length unknown.lost.modules
    → IfOk result (IsLostReadingOf unknown) → IfErr result (IsFaultIn (sight_of unknown)) → ReadsKnown unknown result
reads_known unknown result long is refused = λ none. by_result result is refused (darkened_none unknown.grid unknown.lost long none)
  where
    by_result : (result : Result LostReading GridFault) → IfOk result (IsLostReadingOf unknown) → IfErr result (IsFaultIn (sight_of unknown))
        → darkened unknown.grid unknown.lost ≡ unknown.grid
        → IfOk result (λ read. IsReadingOf unknown.grid read.reading × (read.lost ≡ 0)) × IfErr result (IsGridFault unknown.grid)
    by_result (Ok read) is refused same =
        let there : IsReadingIn (known unknown.grid) read.reading read.lost =
        subst (λ (dark : Picture). IsReadingIn (record { picture = unknown.grid; dark = dark }) read.reading read.lost) same is in
        ((nothing_lost unknown.grid read.reading read.lost there, none_gone unknown.grid read.reading read.lost there), tt)
    by_result (Err fault) is refused same = (tt, subst (λ (dark : Picture). IsFaultIn (record { picture = unknown.grid; dark = dark }) fault) same refused)
