-- What a picture of which some modules are unknown shows.
use Rattle.std.proofs.Common.{◌≡◌, ℕ, zero, suc, ◌+◌, ◌<◌, ◌≤◌, Bool, true, false, not, cond, List, [], ◌∷◌, ◌++◌, Some, length, get_or, take, refl, sym, ap, subst, ◌∙◌, arith}
use Rattle.std.specs.Prelude.{All, slice_get, ◌==◌, ◌||◌, if◌then◌else◌}
use Rattle.std.proofs.lemmas.Bool.Decides.{nat_tests}
use Rattle.std.proofs.lemmas.List.Elements.{All-head, All-tail}
use Rattle.std.proofs.lemmas.List.Sums.{sum_by-cons}
use Rattle.bar_base.specs.Picture.{IsShaped, Picture}
use Rattle.galois.specs.CheckNumbers.{apart, known_apart}
use Rattle.galois.specs.CheckWord.{distance, known_distance, lost_count}
use Rattle.aztec_layout.specs.declared.sizes.Size.{Size}
use Rattle.aztec_layout.proofs.ReadLemmas.{mode_words_once}
use Rattle.aztec_layout.proofs.ShownCodewords.{codewords_once}
use Rattle.symbol_reader.specs.Sight.{AreSeenCodewords, AreSeenModes, Sight, dark_in_either, darkened, lost_between}

-- Words and lost places that are the same.
pub record SameSeen (words words' : List ℕ) (lost lost' : List Bool) : Type 0 where
  pub words_same : words ≡ words'
  pub lost_same : lost ≡ lost'

pub same_here : {words words' : List ℕ} {lost lost' : List Bool} → SameSeen words words' lost lost' → (P : List Bool → List ℕ → Type 0) → P lost words → P lost' words'
same_here {words} {words'} {lost} {lost'} same P is = subst (λ (ws : List ℕ). P lost' ws) same.words_same (subst (λ (bs : List Bool). P bs words) same.lost_same is)

pub modes_once : (full : Bool) (sight : Sight) (words words' : List ℕ) (lost lost' : List Bool) → AreSeenModes full sight words lost → AreSeenModes full sight words' lost'
    → SameSeen words words' lost lost'
modes_once full sight words words' lost lost' p q =
    let same : words ≡ words' = mode_words_once full sight.picture words words' p.shown q.shown in
    let others : p.others ≡ q.others = mode_words_once full sight.dark p.others q.others p.shown_dark q.shown_dark in
    record {
      words_same = same;
      lost_same = p.lost_are ∙ ap (λ (ws : List ℕ). lost_between ws p.others) same ∙ ap (lost_between words') others ∙ sym q.lost_are;
    }

pub seen_once : (sight : Sight) (size : Size) (words words' : List ℕ) (lost lost' : List Bool) → AreSeenCodewords size sight words lost → AreSeenCodewords size sight words' lost'
    → SameSeen words words' lost lost'
seen_once sight size words words' lost lost' p q =
    let same : words ≡ words' = codewords_once sight.picture size words words' p.shown q.shown in
    let others : p.others ≡ q.others = codewords_once sight.dark size p.others q.others p.shown_dark q.shown_dark in
    record {
      words_same = same;
      lost_same = p.lost_are ∙ ap (λ (ws : List ℕ). lost_between ws p.others) same ∙ ap (lost_between words') others ∙ sym q.lost_are;
    }

-- Words that are the same twice are known.
same_number : (n : ℕ) → (n == n) ≡ true
same_number n = grind (arith, nat_tests)

not_same : (n : ℕ) → not (n == n) ≡ false
not_same n = ap not (same_number n)

pub none_lost : (words : List ℕ) → lost_count (lost_between words words) ≡ 0
unfolding lost_between
none_lost [] = refl
none_lost (w ∷ words) =
    let f : Bool → ℕ = λ b. cond b 1 0 in
    sum_by-cons f (not (w == w)) (lost_between words words) ∙ ap (λ (b : Bool). f b + lost_count (lost_between words words)) (not_same w) ∙ ap (λ (n : ℕ). 0 + n) (none_lost words)

pub all_known : (words others : List ℕ) → known_apart (lost_between words words) words others ≡ apart words others
unfolding lost_between distance known_distance
all_known [] others = refl
all_known (w ∷ words) [] = refl
all_known (w ∷ words) (o ∷ others) =
    ap (λ (b : Bool). (if b || (w == o) then 0 else 1) + known_apart (lost_between words words) words others) (not_same w)
    ∙ ap (λ (n : ℕ). (if w == o then 0 else 1) + n) (all_known words others)

pub length-lost_between : (words others : List ℕ) → length others ≡ length words → length (lost_between words others) ≡ length words
unfolding lost_between
length-lost_between [] others long = refl
length-lost_between (w ∷ words) [] long = absurd (omega arith)
length-lost_between (w ∷ words) (o ∷ others) long = ap suc (length-lost_between words others (omega arith))

-- A picture whose modules are all known is not changed by them.
either_none : (modules lost : List Bool) → length modules ≤ length lost → All (λ gone. gone ≡ false) lost → dark_in_either modules lost ≡ modules
unfolding dark_in_either
either_none [] lost long none = refl
either_none (m ∷ modules) [] long none = absurd (omega arith)
either_none (m ∷ modules) (l ∷ lost) long none =
    ap (λ (b : Bool). (m || b) ∷ dark_in_either modules lost) (All-head (λ (gone : Bool). gone ≡ false) l lost none)
    ∙ ap (λ (b : Bool). b ∷ dark_in_either modules lost) (either_false m)
    ∙ ap (λ (ms : List Bool). m ∷ ms) (either_none modules lost (omega arith) (All-tail (λ (gone : Bool). gone ≡ false) l lost none))
  where
    either_false : (b : Bool) → (b || false) ≡ b
    either_false true = refl
    either_false false = refl

pub darkened_none : (picture lost : Picture) → length picture.modules ≤ length lost.modules → All (λ gone. gone ≡ false) lost.modules → darkened picture lost ≡ picture
darkened_none picture lost long none =
    ap (λ (ms : List Bool). record picture { modules = ms }) (either_none picture.modules lost.modules long none)

pub length-either : (modules lost : List Bool) → length modules ≤ length lost → length (dark_in_either modules lost) ≡ length modules
unfolding dark_in_either
length-either [] lost long = refl
length-either (m ∷ modules) [] long = absurd (omega arith)
length-either (m ∷ modules) (l ∷ lost) long = ap suc (length-either modules lost (omega arith))

pub take_got : {A : Type 0} (xs : List A) (at : ℕ) (x : A) → slice_get xs at ≡ Some x → take (at + 1) xs ≡ take at xs ++ x ∷ []
take_got [] at x is = cc is
take_got (y ∷ xs) zero x is = let e : y ≡ x = cc is in ap (λ z. z ∷ []) e
take_got (y ∷ xs) (suc at) x is =
    let e : suc at + 1 ≡ suc (at + 1) = omega arith in
    rw e (ap (λ zs. y ∷ zs) (take_got xs at x is))

pub lost_next : (words others : List ℕ) (at : ℕ) → at < length words → at < length others
    → lost_between (take (at + 1) words) (take (at + 1) others) ≡ lost_between (take at words) (take at others) ++ not (get_or words at 0 == get_or others at 0) ∷ []
unfolding lost_between
lost_next [] others at inside inside' = absurd (omega arith)
lost_next (w ∷ words) [] at inside inside' = absurd (omega arith)
lost_next (w ∷ words) (o ∷ others) zero inside inside' = refl
lost_next (w ∷ words) (o ∷ others) (suc at) inside inside' =
    let e : suc at + 1 ≡ suc (at + 1) = omega arith in
    rw e (ap (λ (bs : List Bool). not (w == o) ∷ bs) (lost_next words others at (omega arith) (omega arith)))

pub either_at : (modules lost : List Bool) (at : ℕ) (a b : Bool) → slice_get modules at ≡ Some a → slice_get lost at ≡ Some b
    → slice_get (dark_in_either modules lost) at ≡ Some (a || b)
unfolding dark_in_either
either_at [] lost at a b of_a of_b = cc of_a
either_at (m ∷ modules) [] at a b of_a of_b = cc of_b
either_at (m ∷ modules) (l ∷ lost) zero a b of_a of_b =
    let e : m ≡ a = cc of_a in let f : l ≡ b = cc of_b in rw (e, f) refl
either_at (m ∷ modules) (l ∷ lost) (suc at) a b of_a of_b = either_at modules lost at a b of_a of_b

-- A picture with other modules, but as many, has a shape.
pub reshaped : (picture : Picture) (width : ℕ) (heights : List ℕ) (modules : List Bool) → IsShaped picture → width ≡ picture.width → heights ≡ picture.heights
    → length modules ≡ length picture.modules → IsShaped (record { width = width; heights = heights; modules = modules })
reshaped picture width heights modules shape is_width is_heights long =
    subst (λ (n : ℕ). IsShaped (record { width = n; heights = heights; modules = modules })) (sym is_width)
    (subst (λ (hs : List ℕ). IsShaped (record { width = picture.width; heights = hs; modules = modules })) (sym is_heights)
    (record {
      whole = long ∙ shape.whole;
      wide = shape.wide;
      narrow = shape.narrow;
      tall = shape.tall;
      short = shape.short;
      small = shape.small;
      heights = shape.heights;
    }))
