-- A picture has one reading, or there is one reason why it has none.
use Rattle.std.proofs.Common.{◌≡◌, ◌⊎◌, ℕ, ◌-◌, ◌<◌, inl, inr, Bool, true, false, List, take, refl, sym, ap, subst, ◌∙◌, arith}
use Rattle.std.proofs.lemmas.Bool.{cases_order}
use Rattle.std.proofs.lemmas.List.{get_or-take, length-take-le}
use Rattle.aztec_layout.specs.declared.sizes.Size.{Size}
use Rattle.aztec_layout.specs.ModeMessage.{IsModeMessage}
use Rattle.aztec_layout.specs.Sizes.{codeword_width, codewords_of}
use Rattle.aztec_layout.specs.Stuffing.{IsFirstBad, IsWord, unstuffed}
use Rattle.aztec_modes.specs.Reading.{IsBadAt}
use Rattle.aztec_modes.proofs.ReadingOnce.{bad_once}
use Rattle.symbol_reader.specs.Correction.{IsOnlyNear}
use Rattle.symbol_reader.specs.Reading.{AreCorrected, HasBadMode, HasBadSpelling, HasBadWord, HasDamage, HasNoFinder, IsFaultIn, IsMode}
use Rattle.symbol_reader.specs.Sight.{AreSeenModes, IsFirstWrong, Sight}
use Rattle.symbol_reader.specs.declared.grid_fault.GridFault.{GridFault}
use Rattle.symbol_reader.specs.declared.grid_fault.GridFault.TheVariants.{NoMemory, BadSide, NoFinder, BadMode, TooDamaged, BadSpelling, BadWord}
use Rattle.symbol_reader.proofs.Finders.{wrong_apart}
use Rattle.symbol_reader.proofs.OneSize.{found_once, held_once}
use Rattle.symbol_reader.proofs.Sights.{SameSeen, modes_once, same_here, seen_once}

near_moved : {bits poly check : ℕ} (word word' : List ℕ) (lost lost' : List Bool) (other : List ℕ) → SameSeen word' word lost' lost → IsOnlyNear bits poly check lost' word' other
    → IsOnlyNear bits poly check lost word other
near_moved {bits} {poly} {check} word word' lost lost' other same is = same_here same (λ gone ws. IsOnlyNear bits poly check gone ws other) is

-- The first module that is wrong is one.
row_once : (full : Bool) (sight : Sight) (x y x' y' : ℕ) → IsFirstWrong full sight x y → IsFirstWrong full sight x' y' → y < y' → ⊥
row_once full sight x y x' y' p q before = wrong_apart full sight x y p.wrong (q.above x y p.column before)

column_once : (full : Bool) (sight : Sight) (x y x' : ℕ) → IsFirstWrong full sight x y → IsFirstWrong full sight x' y → x < x' → ⊥
column_once full sight x y x' p q before = wrong_apart full sight x y p.wrong (q.before x before)

one_row : (full : Bool) (sight : Sight) (x y x' y' : ℕ) → IsFirstWrong full sight x y → IsFirstWrong full sight x' y' → y ≡ y'
one_row full sight x y x' y' p q = by_order (cases_order y y')
  where
    by_order : (y ≡ y') ⊎ ((y < y') ⊎ (y' < y)) → y ≡ y'
    by_order (inl same) = same
    by_order (inr (inl before)) = absurd (row_once full sight x y x' y' p q before)
    by_order (inr (inr behind)) = absurd (row_once full sight x' y' x y q p behind)

one_column : (full : Bool) (sight : Sight) (x y x' : ℕ) → IsFirstWrong full sight x y → IsFirstWrong full sight x' y → x ≡ x'
one_column full sight x y x' p q = by_order (cases_order x x')
  where
    by_order : (x ≡ x') ⊎ ((x < x') ⊎ (x' < x)) → x ≡ x'
    by_order (inl same) = same
    by_order (inr (inl before)) = absurd (column_once full sight x y x' p q before)
    by_order (inr (inr behind)) = absurd (column_once full sight x' y x q p behind)

kind_once : (full full' : Bool) → (full ≡ false → full' ≡ false) → (full' ≡ false → full ≡ false) → full ≡ full'
kind_once true true to from = refl
kind_once false false to from = refl
kind_once true false to from = from refl
kind_once false true to from = sym (to refl)

finder_once : (sight : Sight) (x y x' y' : ℕ) → HasNoFinder sight x y → HasNoFinder sight x' y' → NoFinder x y ≡ NoFinder x' y'
finder_once sight x y x' y' p q =
    let kinds : p.size.full ≡ q.size.full = kind_once p.size.full q.size.full (q.compact p.size p.side) (p.compact q.size q.side) in
    let first : IsFirstWrong q.size.full sight x y = subst (λ (f : Bool). IsFirstWrong f sight x y) kinds p.first in
    let rows : y ≡ y' = one_row q.size.full sight x y x' y' first q.first in
    let columns : x ≡ x' = one_column q.size.full sight x y' x' (subst (λ (b : ℕ). IsFirstWrong q.size.full sight x b) rows first) q.first in
    ap (λ (a : ℕ). NoFinder a y) columns ∙ ap (λ (b : ℕ). NoFinder x' b) rows

-- The mode words of a picture name one size and one number of data codewords.
mode_here : (sight : Sight) (size : Size) (held held' : ℕ) → IsMode sight size held → IsMode sight size held' → held ≡ held'
mode_here sight size held held' p q =
    let modes : p.mode ≡ q.mode =
    q.corrected.only p.mode (near_moved q.words p.words q.lost p.lost p.mode (modes_once size.full sight p.words q.words p.lost q.lost p.seen q.seen) p.corrected).near in
    held_once size held held' q.mode q.found.side.sized p.can_hold q.can_hold (subst (λ (ws : List ℕ). IsModeMessage size held ws) modes p.message) q.message

mode_once : (sight : Sight) (size size' : Size) (held held' : ℕ) → IsMode sight size held → IsMode sight size' held' → held ≡ held'
mode_once sight size size' held held' p q =
    mode_here sight size' held held' (subst (λ (s : Size). IsMode sight s held) (found_once sight size size' p.found q.found) p) q

no_mode_here : (sight : Sight) (words : List ℕ) (p : HasBadMode sight words) (held : ℕ) → IsMode sight p.size held → ⊥
no_mode_here sight words p held is =
    p.none held is.mode is.can_hold is.message
    (near_moved words is.words p.lost is.lost is.mode (modes_once p.size.full sight is.words words is.lost p.lost is.seen p.seen) is.corrected).near

no_mode : (sight : Sight) (words : List ℕ) (size : Size) (held : ℕ) → HasBadMode sight words → IsMode sight size held → ⊥
no_mode sight words size held p is =
    no_mode_here sight words p held (subst (λ (s : Size). IsMode sight s held) (found_once sight size p.size is.found p.found) is)

mode_words_same : (sight : Sight) (words words' : List ℕ) → HasBadMode sight words → HasBadMode sight words' → words ≡ words'
mode_words_same sight words words' p q =
    let same : p.size ≡ q.size = found_once sight p.size q.size p.found q.found in
    (modes_once q.size.full sight words words' p.lost q.lost (subst (λ (s : Size). AreSeenModes s.full sight words p.lost) same p.seen) q.seen).words_same

-- The codewords of a picture are corrected to one list.
corrected_moved : (sight : Sight) (size size' : Size) (held held' : ℕ) (codewords : List ℕ) (errors gone : ℕ)
    → AreCorrected sight size held codewords errors gone → IsMode sight size' held' → AreCorrected sight size' held' codewords errors gone
corrected_moved sight size size' held held' codewords errors gone p q =
    subst (λ (n : ℕ). AreCorrected sight size' n codewords errors gone) (mode_once sight size size' held held' p.mode q)
    (subst (λ (s : Size). AreCorrected sight s held codewords errors gone) (found_once sight size size' p.mode.found q.found) p)

corrected_here : (sight : Sight) (size : Size) (held : ℕ) (codewords codewords' : List ℕ) (errors errors' gone gone' : ℕ)
    → AreCorrected sight size held codewords errors gone → AreCorrected sight size held codewords' errors' gone' → codewords ≡ codewords'
corrected_here sight size held codewords codewords' errors errors' gone gone' p q =
    q.corrected.only codewords (near_moved q.words p.words q.lost p.lost codewords (seen_once sight size p.words q.words p.lost q.lost p.seen q.seen) p.corrected).near

-- What holds of the data codewords holds of them however they were corrected.
moved : (P : Size → List ℕ → Type 0) (sight : Sight) (size size' : Size) (held held' : ℕ) (codewords codewords' : List ℕ) (errors errors' gone gone' : ℕ)
    → AreCorrected sight size held codewords errors gone → AreCorrected sight size' held' codewords' errors' gone'
    → P size (take held codewords) → P size' (take held' codewords')
moved P sight size size' held held' codewords codewords' errors errors' gone gone' p q holds =
    let there : AreCorrected sight size' held' codewords errors gone = corrected_moved sight size size' held held' codewords errors gone p q.mode in
    subst (λ (ws : List ℕ). P size' (take held' ws)) (corrected_here sight size' held' codewords codewords' errors errors' gone gone' there q)
    (subst (λ (n : ℕ). P size' (take n codewords)) (mode_once sight size size' held held' p.mode q.mode)
    (subst (λ (s : Size). P s (take held codewords)) (found_once sight size size' p.mode.found q.mode.found) holds))

damage_here : (sight : Sight) (count check : ℕ) (p : HasDamage sight count check) (codewords : List ℕ) (errors gone : ℕ)
    → AreCorrected sight p.size p.held codewords errors gone → ⊥
damage_here sight count check p codewords errors gone is =
    p.none codewords (near_moved p.words is.words p.lost is.lost codewords (seen_once sight p.size is.words p.words is.lost p.lost is.seen p.seen) is.corrected).near

no_damage : (sight : Sight) (count check : ℕ) (size : Size) (held : ℕ) (codewords : List ℕ) (errors gone : ℕ)
    → HasDamage sight count check → AreCorrected sight size held codewords errors gone → ⊥
no_damage sight count check size held codewords errors gone p is =
    damage_here sight count check p codewords errors gone (corrected_moved sight size p.size held p.held codewords errors gone is p.mode)

damage_once : (sight : Sight) (count check count' check' : ℕ) → HasDamage sight count check → HasDamage sight count' check'
    → TooDamaged count check ≡ TooDamaged count' check'
damage_once sight count check count' check' p q =
    let sizes : p.size ≡ q.size = found_once sight p.size q.size p.mode.found q.mode.found in
    let helds : p.held ≡ q.held = mode_once sight p.size q.size p.held q.held p.mode q.mode in
    let counts : count ≡ count' = p.count_is ∙ ap (λ (s : Size). codewords_of s) sizes ∙ sym q.count_is in
    let checks : check ≡ check' =
    p.check_is ∙ ap (λ (s : Size). codewords_of s - p.held) sizes ∙ ap (λ (n : ℕ). codewords_of q.size - n) helds ∙ sym q.check_is in
    ap (λ (n : ℕ). TooDamaged n check) counts ∙ ap (λ (n : ℕ). TooDamaged count' n) checks

-- The first codeword that carries nothing is one.
not_before : (width : ℕ) (words : List ℕ) (place place' : ℕ) → IsFirstBad width words place → IsFirstBad width words place' → place < place' → ⊥
not_before width words place place' p q before =
    p.bad (subst (λ (w : ℕ). IsWord width w) (get_or-take place' words place 0 before)
    (q.before place 0 (omega (arith, before, p.within, length-take-le place' words (omega (arith, q.within))))))

bad_word_once : (width : ℕ) (words : List ℕ) (place place' : ℕ) → IsFirstBad width words place → IsFirstBad width words place' → place ≡ place'
bad_word_once width words place place' p q = by_order (cases_order place place')
  where
    by_order : (place ≡ place') ⊎ ((place < place') ⊎ (place' < place)) → place ≡ place'
    by_order (inl same) = same
    by_order (inr (inl before)) = absurd (not_before width words place place' p q before)
    by_order (inr (inr behind)) = absurd (not_before width words place' place q p behind)

words_same : (sight : Sight) (place place' : ℕ) → HasBadWord sight place → HasBadWord sight place' → place ≡ place'
words_same sight place place' p q =
    bad_word_once (codeword_width q.size) (take q.held q.codewords) place place'
    (moved (λ s words. IsFirstBad (codeword_width s) words place) sight p.size q.size p.held q.held p.codewords q.codewords p.errors q.errors p.gone q.gone p.corrected q.corrected p.bad) q.bad

spellings_same : (sight : Sight) (place place' : ℕ) → HasBadSpelling sight place → HasBadSpelling sight place' → place ≡ place'
spellings_same sight place place' p q =
    bad_once (codeword_width q.size) (unstuffed (codeword_width q.size) (take q.held q.codewords)) place place'
    (moved (λ s words. IsBadAt (codeword_width s) (unstuffed (codeword_width s) words) place) sight p.size q.size p.held q.held p.codewords q.codewords
    p.errors q.errors p.gone q.gone p.corrected q.corrected p.bad) q.bad

word_or_spelling : (sight : Sight) (place place' : ℕ) → HasBadWord sight place → HasBadSpelling sight place' → ⊥
word_or_spelling sight place place' p q =
    let here : IsFirstBad (codeword_width q.size) (take q.held q.codewords) place =
    moved (λ s words. IsFirstBad (codeword_width s) words place) sight p.size q.size p.held q.held p.codewords q.codewords p.errors q.errors p.gone q.gone p.corrected q.corrected p.bad in
    here.bad (q.good place 0 here.within)

-- Besides want of memory a picture has one fault.
pub grid_fault_once : (sight : Sight) (fault other : GridFault) → IsFaultIn sight fault → IsFaultIn sight other
    → (fault ≡ NoMemory) ⊎ ((other ≡ NoMemory) ⊎ (fault ≡ other))
grid_fault_once sight NoMemory other p q = inl refl
grid_fault_once sight fault NoMemory p q = inr (inl refl)
grid_fault_once sight (BadSide w h) (BadSide w' h') p q = inr (inr (ap (λ (n : ℕ). BadSide n h) (p.0 ∙ sym q.0) ∙ ap (λ (n : ℕ). BadSide w' n) (p.1 ∙ sym q.1)))
grid_fault_once sight (BadSide w h) (NoFinder x y) p q = absurd (p.2 q.size q.side)
grid_fault_once sight (BadSide w h) (BadMode words) p q = absurd (p.2 q.size q.found.side)
grid_fault_once sight (BadSide w h) (TooDamaged n c) p q = absurd (p.2 q.size q.mode.found.side)
grid_fault_once sight (BadSide w h) (BadSpelling k) p q = absurd (p.2 q.size q.corrected.mode.found.side)
grid_fault_once sight (BadSide w h) (BadWord k) p q = absurd (p.2 q.size q.corrected.mode.found.side)
grid_fault_once sight (NoFinder x y) (BadSide w h) p q = absurd (q.2 p.size p.side)
grid_fault_once sight (NoFinder x y) (NoFinder x' y') p q = inr (inr (finder_once sight x y x' y' p q))
grid_fault_once sight (NoFinder x y) (BadMode words) p q = absurd (p.none q.size q.found)
grid_fault_once sight (NoFinder x y) (TooDamaged n c) p q = absurd (p.none q.size q.mode.found)
grid_fault_once sight (NoFinder x y) (BadSpelling k) p q = absurd (p.none q.size q.corrected.mode.found)
grid_fault_once sight (NoFinder x y) (BadWord k) p q = absurd (p.none q.size q.corrected.mode.found)
grid_fault_once sight (BadMode words) (BadSide w h) p q = absurd (q.2 p.size p.found.side)
grid_fault_once sight (BadMode words) (NoFinder x y) p q = absurd (q.none p.size p.found)
grid_fault_once sight (BadMode words) (BadMode words') p q = inr (inr (ap (λ (ws : List ℕ). BadMode ws) (mode_words_same sight words words' p q)))
grid_fault_once sight (BadMode words) (TooDamaged n c) p q = absurd (no_mode sight words q.size q.held p q.mode)
grid_fault_once sight (BadMode words) (BadSpelling k) p q = absurd (no_mode sight words q.size q.held p q.corrected.mode)
grid_fault_once sight (BadMode words) (BadWord k) p q = absurd (no_mode sight words q.size q.held p q.corrected.mode)
grid_fault_once sight (TooDamaged n c) (BadSide w h) p q = absurd (q.2 p.size p.mode.found.side)
grid_fault_once sight (TooDamaged n c) (NoFinder x y) p q = absurd (q.none p.size p.mode.found)
grid_fault_once sight (TooDamaged n c) (BadMode words) p q = absurd (no_mode sight words p.size p.held q p.mode)
grid_fault_once sight (TooDamaged n c) (TooDamaged n' c') p q = inr (inr (damage_once sight n c n' c' p q))
grid_fault_once sight (TooDamaged n c) (BadSpelling k) p q = absurd (no_damage sight n c q.size q.held q.codewords q.errors q.gone p q.corrected)
grid_fault_once sight (TooDamaged n c) (BadWord k) p q = absurd (no_damage sight n c q.size q.held q.codewords q.errors q.gone p q.corrected)
grid_fault_once sight (BadSpelling k) (BadSide w h) p q = absurd (q.2 p.size p.corrected.mode.found.side)
grid_fault_once sight (BadSpelling k) (NoFinder x y) p q = absurd (q.none p.size p.corrected.mode.found)
grid_fault_once sight (BadSpelling k) (BadMode words) p q = absurd (no_mode sight words p.size p.held q p.corrected.mode)
grid_fault_once sight (BadSpelling k) (TooDamaged n c) p q = absurd (no_damage sight n c p.size p.held p.codewords p.errors p.gone q p.corrected)
grid_fault_once sight (BadSpelling k) (BadSpelling k') p q = inr (inr (ap (λ (n : ℕ). BadSpelling n) (spellings_same sight k k' p q)))
grid_fault_once sight (BadSpelling k) (BadWord k') p q = absurd (word_or_spelling sight k' k q p)
grid_fault_once sight (BadWord k) (BadSide w h) p q = absurd (q.2 p.size p.corrected.mode.found.side)
grid_fault_once sight (BadWord k) (NoFinder x y) p q = absurd (q.none p.size p.corrected.mode.found)
grid_fault_once sight (BadWord k) (BadMode words) p q = absurd (no_mode sight words p.size p.held q p.corrected.mode)
grid_fault_once sight (BadWord k) (TooDamaged n c) p q = absurd (no_damage sight n c p.size p.held p.codewords p.errors p.gone q p.corrected)
grid_fault_once sight (BadWord k) (BadSpelling k') p q = absurd (word_or_spelling sight k k' p q)
grid_fault_once sight (BadWord k) (BadWord k') p q = inr (inr (ap (λ (n : ℕ). BadWord n) (words_same sight k k' p q)))

-- a picture whose mode message names its size has no bad one
pub no_bad_mode : (sight : Sight) (size : Size) (held : ℕ) → IsMode sight size held → (words : List ℕ) → HasBadMode sight words → ⊥
no_bad_mode sight size held is words bad = no_mode sight words size held bad is
