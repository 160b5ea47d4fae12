-- What is drawn can be read: finder and marks stand, and each bit of mode message and data is at its place.
use Rattle.std.proofs.Common.{◌≡◌, ℕ, ◌+◌, ◌*◌, ◌/◌, ◌<◌, ◌≤◌, Bool, true, false, List, Some, length, get_or, refl, ap, subst, sym, ◌∙◌, inl, inr, ⊎_elim, arith}
use Rattle.std.specs.Prelude.{IsTrue, slice_get}
use Rattle.std.proofs.lemmas.Bool.Decides.{nat_tests}
use Rattle.std.proofs.lemmas.List.{length-replicate}
use Rattle.std.proofs.lemmas.Nat.{mul-add-lt}
use Rattle.std.proofs.lemmas.Option.{slice_get-get_or, slice_get_within}
use Rattle.bar_base.specs.Picture.{Picture, module_at}
use Rattle.aztec_layout.specs.declared.sizes.Size.{Size}
use Rattle.aztec_layout.specs.Core.{is_core, is_dark_core, is_dark_fixed, is_dark_mark, is_finder, is_light_mark, mode_place, mode_run, rim_of}
use Rattle.aztec_layout.specs.CoreReading.{middle_of}
use Rattle.aztec_layout.specs.ModeMessage.{check_words, front_words, word_bits}
use Rattle.aztec_layout.specs.Places.{IsDataModule, IsBitPlace, centre_of}
use Rattle.aztec_layout.specs.Sizes.{layer_bits, codewords_of, side_of}
use Rattle.aztec_layout.specs.SymbolGrid.{IsDark, IsDataDot, IsGridWith, IsModeDot, IsSquare, IsSymbolGrid, ShowsAll, data_bits}
use Rattle.aztec_layout.proofs.BitLemmas.{length-data_bits, length-word_bits}
use Rattle.aztec_layout.proofs.CoreLemmas.{core_fixed, mode_not_fixed, mode_once, mode_side, none_of, not_fixed, side_not_core}
use Rattle.aztec_layout.proofs.SizeParts.{size_at}
use Rattle.aztec_layout.proofs.Spots.{centre_room, place_apart, place_below, place_free}

-- a module of a square picture is dark or light
pub module_in : (side : ℕ) (g : Picture) (x y : ℕ) → IsSquare side g → x < side → y < side →
    (m : Bool) × (module_at g x y ≡ Some m)
module_in side g x y square in_x in_y =
    let e : y * g.width + x ≡ y * side + x = ap (λ (w : ℕ). y * w + x) square.width in
    let inside : y * side + x < side * side = mul-add-lt y side x side in_y in_x in
    let inside' : y * g.width + x < length g.modules = omega (arith, e, inside, square.whole) in
    (get_or g.modules (y * g.width + x) false, slice_get-get_or g.modules (y * g.width + x) false inside')

-- a module is as a test says, where it is dark exactly where the test holds
pub module_is : (side : ℕ) (g : Picture) (x y : ℕ) (b : Bool) → IsSquare side g → x < side → y < side →
    (module_at g x y ≡ Some true → b ≡ true) → (b ≡ true → module_at g x y ≡ Some true) → module_at g x y ≡ Some b
module_is side g x y b square in_x in_y to from =
    decide (module_in side g x y square in_x in_y).0 b (module_in side g x y square in_x in_y).1 to from
  where
    decide : (m b : Bool) → module_at g x y ≡ Some m → (module_at g x y ≡ Some true → b ≡ true) → (b ≡ true → module_at g x y ≡ Some true) → module_at g x y ≡ Some b
    decide true true is to from = is
    decide false false is to from = is
    decide true false is to from = let wrong : false ≡ true = to is in absurd (cc)
    decide false true is to from = from refl

pub some_same : (a b : Bool) → Some a ≡ Some b → a ≡ b
some_same a b e = cc

not_both : (b : Bool) → b ≡ false → IsTrue b → ⊥
not_both true never is = cc
not_both false never is = cc

-- a dark module that is free is the place of a data bit that is 1
free_dark : (s : Size) (modes words : List ℕ) (x y : ℕ) → length (word_bits 4 modes) ≡ 4 * mode_run s.full → IsDataModule s x y → IsDark s modes words x y →
    IsDataDot s (data_bits s words) x y
free_dark s modes words x y long free dark = ⊎_elim
    (λ fixed. absurd (not_both (is_dark_fixed s.full (centre_of s) x y) (not_fixed s.full (centre_of s) x y free.finder free.dark_marks free.reference) fixed))
    (λ d. ⊎_elim
    (λ mode. absurd (free.mode mode.bit (subst (λ (n : ℕ). mode.bit < n) long (slice_get_within (word_bits 4 modes) mode.bit true mode.one)) mode.place))
    (λ data_. data_) d) dark

-- each data bit is at its place
pub bit_shown : (s : Size) (modes words : List ℕ) (g : Picture) (bit x y : ℕ) → length (word_bits 4 modes) ≡ 4 * mode_run s.full →
    length (data_bits s words) ≡ layer_bits s → IsGridWith s modes words g → IsBitPlace s bit x y → module_at g x y ≡ slice_get (data_bits s words) bit
bit_shown s modes words g bit x y long all drawn p =
    let free : IsDataModule s x y = place_free s bit x y p in
    let inside : bit < length (data_bits s words) = subst (λ (n : ℕ). bit < n) (sym all) (place_below s bit x y p) in
    let b : Bool = get_or (data_bits s words) bit false in
    let here : slice_get (data_bits s words) bit ≡ Some b = slice_get-get_or (data_bits s words) bit false inside in
    module_is (side_of s) g x y b drawn.square free.column free.row
    (λ dark. is_one b here (free_dark s modes words x y long free ((drawn.dark x y free.column free.row).0 dark)))
    (λ one. (drawn.dark x y free.column free.row).1 (inr (inr (record { bit = bit; one = here ∙ ap Some one; place = p }))))
    ∙ sym here
  where
    is_one : (b : Bool) → slice_get (data_bits s words) bit ≡ Some b → IsDataDot s (data_bits s words) x y → b ≡ true
    is_one b here dot =
        some_same b true (sym here ∙ ap (slice_get (data_bits s words)) (place_apart s bit dot.bit x y p dot.place) ∙ dot.one)

-- finder and marks stand
pub core_shown : (s : Size) (modes words : List ℕ) (g : Picture) (x y : ℕ) → 1 ≤ s.layers → length (word_bits 4 modes) ≡ 4 * mode_run s.full →
    IsGridWith s modes words g → x < side_of s → y < side_of s → is_core s.full (centre_of s) x y ≡ true →
    module_at g x y ≡ Some (is_dark_core s.full (centre_of s) x y)
core_shown s modes words g x y some long drawn in_x in_y core =
    let room : rim_of s.full ≤ centre_of s = centre_room s some in
    let same : is_dark_fixed s.full (centre_of s) x y ≡ is_dark_core s.full (centre_of s) x y = core_fixed s.full (centre_of s) x y room core in
    module_is (side_of s) g x y (is_dark_core s.full (centre_of s) x y) drawn.square in_x in_y
    (λ dark. ⊎_elim
    (λ fixed. sym same ∙ fixed)
    (λ d. absurd (⊎_elim
    (λ mode. not_core mode (subst (λ (n : ℕ). mode.bit < n) long (slice_get_within (word_bits 4 modes) mode.bit true mode.one)) room)
    (λ data_. free_core (place_free s data_.bit x y data_.place)) d))
    ((drawn.dark x y in_x in_y).0 dark))
    (λ is. (drawn.dark x y in_x in_y).1 (inl (same ∙ is)))
  where
    not_core : (mode : IsModeDot s.full (centre_of s) (word_bits 4 modes) x y) → mode.bit < 4 * mode_run s.full → rim_of s.full ≤ centre_of s → ⊥
    not_core mode inside room =
        not_both (is_core s.full (centre_of s) x y)
        (ap (λ (p : ℕ × ℕ). is_core s.full (centre_of s) p.0 p.1) mode.place
        ∙ side_not_core s.full (centre_of s) (mode_place s.full (centre_of s) mode.bit).0 (mode_place s.full (centre_of s) mode.bit).1 room
        (mode_side s.full (centre_of s) mode.bit room inside))
        core

    free_core : IsDataModule s x y → ⊥
    free_core free = not_both (is_core s.full (centre_of s) x y)
        (none_of (is_finder s.full (centre_of s) x y) (is_dark_mark s.full (centre_of s) x y) (is_light_mark s.full (centre_of s) x y) free.finder free.dark_marks free.light_marks)
        core

-- each bit of the mode message is at its place
pub mode_shown : (s : Size) (modes words : List ℕ) (g : Picture) (t : ℕ) → 1 ≤ s.layers → length (word_bits 4 modes) ≡ 4 * mode_run s.full →
    IsGridWith s modes words g → t < 4 * mode_run s.full → (mode_place s.full (centre_of s) t).0 < side_of s → (mode_place s.full (centre_of s) t).1 < side_of s →
    module_at g (mode_place s.full (centre_of s) t).0 (mode_place s.full (centre_of s) t).1 ≡ slice_get (word_bits 4 modes) t
mode_shown s modes words g t some long drawn inside in_x in_y =
    let x : ℕ = (mode_place s.full (centre_of s) t).0 in
    let y : ℕ = (mode_place s.full (centre_of s) t).1 in
    let room : rim_of s.full ≤ centre_of s = centre_room s some in
    let b : Bool = get_or (word_bits 4 modes) t false in
    let here : slice_get (word_bits 4 modes) t ≡ Some b =
    slice_get-get_or (word_bits 4 modes) t false (subst (λ (n : ℕ). t < n) (sym long) inside) in
    module_is (side_of s) g x y b drawn.square in_x in_y
    (λ dark. is_one b here room ((drawn.dark x y in_x in_y).0 dark))
    (λ one. (drawn.dark x y in_x in_y).1 (inr (inl (record { bit = t; one = here ∙ ap Some one; place = refl }))))
    ∙ sym here
  where
    is_one : (b : Bool) → slice_get (word_bits 4 modes) t ≡ Some b → rim_of s.full ≤ centre_of s →
        IsDark s modes words (mode_place s.full (centre_of s) t).0 (mode_place s.full (centre_of s) t).1 → b ≡ true
    is_one b here room dark = ⊎_elim
        (λ fixed. absurd (not_both (is_dark_fixed s.full (centre_of s) (mode_place s.full (centre_of s) t).0 (mode_place s.full (centre_of s) t).1)
        (mode_not_fixed s.full (centre_of s) t room inside) fixed))
        (λ d. ⊎_elim
        (λ mode. some_same b true (sym here ∙ ap (slice_get (word_bits 4 modes))
        (mode_once s.full (centre_of s) t mode.bit room inside
        (subst (λ (n : ℕ). mode.bit < n) long (slice_get_within (word_bits 4 modes) mode.bit true mode.one))
        (ap (λ (p : ℕ × ℕ). p.0) mode.place) (ap (λ (p : ℕ × ℕ). p.1) mode.place)) ∙ mode.one))
        (λ data_. absurd ((place_free s data_.bit (mode_place s.full (centre_of s) t).0 (mode_place s.full (centre_of s) t).1 data_.place).mode t inside refl)) d) dark

mode_inside_at : (f : Bool) (layers t : ℕ) → 1 ≤ layers → t < 4 * mode_run f →
    ((mode_place f (centre_of (size_at f layers)) t).0 < side_of (size_at f layers)) × ((mode_place f (centre_of (size_at f layers)) t).1 < side_of (size_at f layers))
mode_inside_at true layers t some inside = (grind (arith, nat_tests), grind (arith, nat_tests))
mode_inside_at false layers t some inside = (grind (arith, nat_tests), grind (arith, nat_tests))

mode_words_counted : (f : Bool) → front_words f + check_words f ≡ mode_run f
mode_words_counted true = refl
mode_words_counted false = refl

-- a picture of a symbol shows all
pub symbol_shows : (s : Size) (held : ℕ) (words : List ℕ) (g : Picture) → 1 ≤ s.layers → length words ≡ codewords_of s → IsSymbolGrid s held words g →
    ShowsAll s held words g
symbol_shows s held words g some counted h =
    let number : length h.modes ≡ mode_run s.full = h.message.counted ∙ mode_words_counted s.full in
    let long : length (word_bits 4 h.modes) ≡ 4 * mode_run s.full = omega (arith, length-word_bits 4 h.modes, number) in
    let middle : middle_of g ≡ centre_of s = ap (λ (w : ℕ). w / 2) h.shown.square.width in
    record {
      core = λ x y in_x in_y. subst (λ (m : ℕ). is_core s.full m x y ≡ true → module_at g x y ≡ Some (is_dark_core s.full m x y)) (sym middle)
          (core_shown s h.modes words g x y some long h.shown (subst (λ (n : ℕ). x < n) h.shown.square.width in_x)
          (subst (λ (n : ℕ). y < n) (ap length h.shown.square.heights ∙ length-replicate (side_of s) 1) in_y));
      modes = h.modes;
      message = h.message;
      mode = record {
        counted = number;
        each = h.message.coded.each;
        bits = λ t inside. subst (λ (m : ℕ). slice_get (word_bits 4 h.modes) t ≡ module_at g (mode_place s.full m t).0 (mode_place s.full m t).1) (sym middle)
            (sym (mode_shown s h.modes words g t some long h.shown inside
            (mode_inside_at s.full s.layers t some inside).0 (mode_inside_at s.full s.layers t some inside).1));
      };
      bits = λ bit x y p. bit_shown s h.modes words g bit x y long (length-data_bits s words counted) h.shown p;
    }
