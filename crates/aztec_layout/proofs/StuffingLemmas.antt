-- Stuffed codewords: the bits that they stand for tell them, and going from the left makes the shortest list.
use Rattle.std.proofs.Common.{◌≡◌, ℕ, ◌+◌, ◌-◌, ◌*◌, ◌/◌, ◌%◌, ◌^◌, ◌<◌, ◌≤◌, Bool, true, false, List, [], ◌∷◌, ◌++◌, length, take, drop, get_or, cond, Some, zero, suc, refl, ap, subst, sym, ◌∙◌, append_assoc, append-nil, ⊎_elim, arith}
use Rattle.std.specs.Prelude.{◌==◌, ◌||◌, All, replicate}
use Rattle.std.proofs.Math.Nat.{mul-le-mul_left}
use Rattle.std.proofs.Math.Seq.{take-add, take-append-add}
use Rattle.std.proofs.lemmas.Bool.{cases_lt}
use Rattle.std.proofs.lemmas.List.{get_or-append_right, get_or_append_left, get_or_default, get_or-drop, length-drop, get_or-replicate, get_or_past, length-append, length-replicate, length-take-le, take-take, take_at, replicate-append-replicate, take-append-drop, take-replicate}
use Rattle.std.proofs.lemmas.List.Concat.{flat_map-append}
use Rattle.std.proofs.lemmas.List.Elements.{All-head, All-nil, All-push, All-tail}
use Rattle.std.proofs.lemmas.Bool.Decides.{nat_tests}
use Rattle.std.specs.List.{slice_get}
use Rattle.std.proofs.lemmas.Option.{get_or_from_slice_get, slice_get_within}
use Rattle.bar_base.specs.Bits.{to_bits}
use Rattle.bar_base.proofs.ListLemmas.{take_next}
use Rattle.aztec_layout.specs.Smallest.{CountsUpTo}
use Rattle.aztec_layout.specs.Stuffing.{CountsStuffed, IsFirstBad, IsStuffed, IsWord, Carries, with_ones, is_alike, taken, unstuffed}
use Rattle.bar_base.proofs.NumberBits.{SameNumber, length-to_bits, to_bits-half, to_bits_once}

-- The bits that a codeword stands for begin with those in front of its last one; `last_of` is what comes after them.
abbrev last_of : (width word : ℕ) → List Bool
last_of width word = cond (is_alike width word) [] ((word % 2 == 1) ∷ [])

taken_cases : (alike : Bool) (n word : ℕ) → suc n - 1 ≡ n →
    cond alike (to_bits (suc n - 1) (word / 2)) (to_bits (suc n) word) ≡ to_bits n (word / 2) ++ cond alike [] ((word % 2 == 1) ∷ [])
taken_cases true n word e = ap (λ (k : ℕ). to_bits k (word / 2)) e ∙ sym (append-nil (to_bits n (word / 2)))
taken_cases false n word e = to_bits-half n word

taken-parts : (n word : ℕ) → taken (suc n) word ≡ to_bits n (word / 2) ++ last_of (suc n) word
taken-parts n word = taken_cases (is_alike (suc n) word) n word (omega arith)

-- codewords whose bits in front are alike, and the same, are one codeword
alike_once : (n v w : ℕ) → IsWord (suc n) v → IsWord (suc n) w → is_alike (suc n) v ≡ true → v / 2 ≡ w / 2 → v ≡ w
alike_once n v w is-v is-w alike halves =
    let e : suc n - 1 ≡ n = omega arith in
    let alike' : ((v / 2 == 0) || (v / 2 + 1 == 2 ^ n)) ≡ true =
    ap (λ (k : ℕ). (v / 2 == 0) || (v / 2 + 1 == 2 ^ k)) (sym e) ∙ alike in
    grind (arith, nat_tests)

last_once : (alike : Bool) (n v w : ℕ) (x y : List Bool) → IsWord (suc n) v → IsWord (suc n) w → is_alike (suc n) v ≡ alike → v / 2 ≡ w / 2 →
    cond alike [] ((v % 2 == 1) ∷ []) ++ x ≡ cond alike [] ((w % 2 == 1) ∷ []) ++ y → SameNumber v w x y
last_once true n v w x y is-v is-w alike halves same = record { number = alike_once n v w is-v is-w alike halves; rest = same }
last_once false n v w x y is-v is-w alike halves same =
    let last : (v % 2 == 1) ≡ (w % 2 == 1) = cc (same) in
    record { number = same_last v w halves last; rest = cc (same) }
  where
    same_last : (v w : ℕ) → v / 2 ≡ w / 2 → (v % 2 == 1) ≡ (w % 2 == 1) → v ≡ w
    same_last v w halves last = grind (arith, nat_tests)

-- the bits of a list of codewords tell the first codeword
pub word_once : (width v w : ℕ) (x y : List Bool) → IsWord width v → IsWord width w →
    taken width v ++ x ≡ taken width w ++ y → SameNumber v w x y
word_once zero v w x y is-v is-w same = absurd (omega arith)
word_once (suc n) v w x y is-v is-w same =
    let h : SameNumber (v / 2) (w / 2) (last_of (suc n) v ++ x) (last_of (suc n) w ++ y) =
    to_bits_once n (v / 2) (w / 2) (last_of (suc n) v ++ x) (last_of (suc n) w ++ y) (omega arith) (omega arith)
    (sym (append_assoc (to_bits n (v / 2)) (last_of (suc n) v) x) ∙ sym (ap (λ (s : List Bool). s ++ x) (taken-parts n v)) ∙ same
    ∙ ap (λ (s : List Bool). s ++ y) (taken-parts n w) ∙ append_assoc (to_bits n (w / 2)) (last_of (suc n) w) y) in
    let alike : is_alike (suc n) v ≡ is_alike (suc n) w =
    ap (λ (k : ℕ). (k == 0) || (k + 1 == 2 ^ (suc n - 1))) h.number in
    last_once (is_alike (suc n) v) n v w x y is-v is-w refl h.number
    (h.rest ∙ ap (λ (a : Bool). cond a [] ((w % 2 == 1) ∷ []) ++ y) (sym alike))

-- two lists of one length whose bits agree as far as both go are one list
pub words_once : (width : ℕ) (vs ws : List ℕ) (x y : List Bool) → All (IsWord width) vs → All (IsWord width) ws → length vs ≡ length ws →
    unstuffed width vs ++ x ≡ unstuffed width ws ++ y → vs ≡ ws
words_once width [] [] x y each-v each-w same-length same = refl
words_once width [] (w ∷ ws) x y each-v each-w same-length same = absurd (omega arith)
words_once width (v ∷ vs) [] x y each-v each-w same-length same = absurd (omega arith)
words_once width (v ∷ vs) (w ∷ ws) x y each-v each-w same-length same =
    let h : SameNumber v w (unstuffed width vs ++ x) (unstuffed width ws ++ y) =
    word_once width v w (unstuffed width vs ++ x) (unstuffed width ws ++ y) (All-head (IsWord width) v vs each-v) (All-head (IsWord width) w ws each-w)
    (sym (append_assoc (taken width v) (unstuffed width vs) x) ∙ same ∙ append_assoc (taken width w) (unstuffed width ws) y) in
    let rest : vs ≡ ws = words_once width vs ws x y (All-tail (IsWord width) v vs each-v) (All-tail (IsWord width) w ws each-w) (omega arith) h.rest in
    ap (λ (k : ℕ). k ∷ vs) h.number ∙ ap (λ (s : List ℕ). w ∷ s) rest

-- what codewords stand for begins the filled bits
carried_in_ones : (width : ℕ) (bits : List Bool) (ws : List ℕ) (s : Carries width bits ws) →
    unstuffed width ws ++ replicate (width - s.ones) true ≡ with_ones width bits
carried_in_ones width bits ws s =
    ap (λ (t : List Bool). t ++ replicate (width - s.ones) true) s.whole ∙ append_assoc bits (replicate s.ones true) (replicate (width - s.ones) true)
    ∙ ap (λ (t : List Bool). bits ++ t) (replicate-append-replicate s.ones (width - s.ones) true ∙
    ap (λ (k : ℕ). replicate k true) (let few : s.ones < width = s.few in let e : s.ones + (width - s.ones) ≡ width = omega arith in e))

-- there is only one list of stuffed codewords
pub stuffed_once : (width : ℕ) (bits : List Bool) (vs ws : List ℕ) → IsStuffed width bits vs → IsStuffed width bits ws → vs ≡ ws
stuffed_once width bits vs ws p q =
    let le : length vs ≤ length ws = p.shortest ws q.carried in
    let ge : length ws ≤ length vs = q.shortest vs p.carried in
    words_once width vs ws (replicate (width - p.carried.ones) true) (replicate (width - q.carried.ones) true) p.carried.each q.carried.each (omega arith)
    (carried_in_ones width bits vs p.carried ∙ sym (carried_in_ones width bits ws q.carried))

-- The codewords of the first `at` of the filled bits: every list that stands for all bits has at least as many.
pub record IsBegun (width : ℕ) (bits : List Bool) (at : ℕ) (words : List ℕ) : Type 0 where
  pub each : All (IsWord width) words
  pub spelled : unstuffed width words ≡ take at (with_ones width bits)
  pub within : at < length bits + width
  pub shortest : (others : List ℕ) → Carries width bits others → length words ≤ length others

pub begun_none : (width : ℕ) (bits : List Bool) → 0 < width → IsBegun width bits 0 []
begun_none width bits some = record { each = All-nil (IsWord width); spelled = refl; within = omega arith; shortest = λ others s. omega arith }

-- while bits are left, every list that stands for all bits has more codewords
begun_short : (width : ℕ) (bits : List Bool) (at : ℕ) (ws : List ℕ) → IsBegun width bits at ws → at < length bits →
    (others : List ℕ) → Carries width bits others → length ws + 1 ≤ length others
begun_short width bits at ws b more others s = ⊎_elim
    (λ h. let more' : length ws < length others = h in omega arith)
    (λ h. absurd (not_same (let le : length others ≤ length ws = h in let ge : length ws ≤ length others = b.shortest others s in omega arith)))
    (cases_lt (length ws) (length others))
  where
    not_same : length ws ≡ length others → ⊥
    not_same lengths =
        let e : ws ≡ others =
        words_once width ws others (drop at (with_ones width bits)) (replicate (width - s.ones) true) b.each s.each lengths
        (ap (λ (t : List Bool). t ++ drop at (with_ones width bits)) b.spelled ∙ take-append-drop at (with_ones width bits)
        ∙ sym (carried_in_ones width bits others s)) in
        let short : length (take at (with_ones width bits)) ≡ at =
        length-take-le at (with_ones width bits) (simp (length-append, length-replicate) (omega arith)) in
        let long : length (bits ++ replicate s.ones true) ≡ length bits + s.ones =
        length-append bits (replicate s.ones true) ∙ ap (λ (k : ℕ). length bits + k) (length-replicate s.ones true) in
        let same : length (take at (with_ones width bits)) ≡ length (bits ++ replicate s.ones true) =
        ap length (sym b.spelled ∙ ap (unstuffed width) e ∙ s.whole) in
        omega (arith, short, long, same)

pub begun_more : (width : ℕ) (bits : List Bool) (at : ℕ) (ws : List ℕ) (word : ℕ) → IsBegun width bits at ws → at < length bits → IsWord width word →
    taken width word ≡ take (length (taken width word)) (drop at (with_ones width bits)) → length (taken width word) ≤ width →
    IsBegun width bits (at + length (taken width word)) (ws ++ word ∷ [])
begun_more width bits at ws word b more is-word here few = record {
  each = All-push (IsWord width) ws word b.each is-word;
  spelled = flat_map-append (taken width) ws (word ∷ []) ∙ ap (λ (t : List Bool). unstuffed width ws ++ t) (append-nil (taken width word))
      ∙ ap (λ (t : List Bool). t ++ taken width word) b.spelled ∙ ap (λ (t : List Bool). take at (with_ones width bits) ++ t) here
      ∙ sym (take-add at (length (taken width word)) (with_ones width bits));
  within = omega (arith, few);
  shortest = λ others s. let h : length ws + 1 ≤ length others = begun_short width bits at ws b more others s in
      simp length-append (omega (arith, h));
}

pub begun_all : (width : ℕ) (bits : List Bool) (at : ℕ) (ws : List ℕ) → IsBegun width bits at ws → length bits ≤ at → IsStuffed width bits ws
begun_all width bits at ws b done =
    let ones : ℕ = at - length bits in
    let room : ones ≤ width = let within : at < length bits + width = b.within in omega arith in
    record {
      carried = record {
        each = b.each;
        ones = ones;
        few = let within : at < length bits + width = b.within in omega arith;
        whole = b.spelled ∙ ap (λ (k : ℕ). take k (with_ones width bits)) (let e : at ≡ length bits + (at - length bits) = omega arith in e)
            ∙ take-append-add bits (replicate width true) ones
            ∙ ap (λ (t : List Bool). bits ++ t) (take-replicate ones width true room);
      };
      shortest = b.shortest;
    }

-- counting the stuffed codewords
pub counted : (width : ℕ) (bits : List Bool) (count : ℕ) (words : List ℕ) → IsStuffed width bits words → length words ≡ count → CountsStuffed width bits count
counted width bits count words stuffed same = record {
  words = words;
  stuffed = stuffed;
  counted = same;
  only = λ others is-stuffed. ap length (stuffed_once width bits others words is-stuffed stuffed) ∙ same;
}

length-taken_at : (alike : Bool) (width word : ℕ) →
    length (cond alike (to_bits (width - 1) (word / 2)) (to_bits width word)) ≡ cond alike (width - 1) width
length-taken_at true width word = length-to_bits (width - 1) (word / 2)
length-taken_at false width word = length-to_bits width word

-- how many bits a codeword stands for
pub length-taken : (width word : ℕ) (alike : Bool) → alike ≡ is_alike width word → length (taken width word) ≡ cond alike (width - 1) width
length-taken width word alike is =
    length-taken_at (is_alike width word) width word ∙ ap (λ (a : Bool). cond a (width - 1) width) (sym is)

taken_few : (alike : Bool) (width : ℕ) → cond alike (width - 1) width ≤ width
taken_few true width = omega arith
taken_few false width = omega arith

length-unstuffed : (width : ℕ) (words : List ℕ) → length (unstuffed width words) ≤ width * length words
length-unstuffed width [] = omega arith
length-unstuffed width (w ∷ ws) =
    let first : length (taken width w) ≡ cond (is_alike width w) (width - 1) width = length-taken width w (is_alike width w) refl in
    let rest : length (unstuffed width ws) ≤ width * length ws = length-unstuffed width ws in
    let whole : length (taken width w ++ unstuffed width ws) ≡ length (taken width w) + length (unstuffed width ws) =
    length-append (taken width w) (unstuffed width ws) in
    omega (arith, first, rest, whole, taken_few (is_alike width w) width)

-- more bits than so many codewords can carry need more codewords
many_stuffed : (width : ℕ) (bits : List Bool) (most : ℕ) (words : List ℕ) → width * most < length bits → IsStuffed width bits words → most < length words
many_stuffed width bits most words many stuffed = ⊎_elim (λ h. h)
    (λ h. let le : width * length words ≤ width * most = mul-le-mul_left width h in
    let carried : length (bits ++ replicate stuffed.carried.ones true) ≤ width * length words =
    subst (λ (s : List Bool). length s ≤ width * length words) stuffed.carried.whole (length-unstuffed width words) in
    absurd (omega (arith, le, carried, many, length-append bits (replicate stuffed.carried.ones true))))
    (cases_lt most (length words))

pub up_to_past : (width : ℕ) (bits : List Bool) (most : ℕ) → width * most < length bits → CountsUpTo width bits most (most + 1)
up_to_past width bits most many = record {
  exact = λ h. absurd (omega (arith, h));
  more = λ h words stuffed. many_stuffed width bits most words many stuffed;
}

pub up_to_counted : (width : ℕ) (bits : List Bool) (most count : ℕ) → CountsStuffed width bits count → CountsUpTo width bits most count
up_to_counted width bits most count counts = record {
  exact = λ h. counts;
  more = λ h words stuffed. let only : length words ≡ count = counts.only words stuffed in omega (arith, h, only);
}

-- a bit of the filled bits is a bit, or a one past the last
pub filled_bit : (width : ℕ) (bits : List Bool) (at : ℕ) (bit : Bool) → bit ≡ get_or bits at true → at < length bits + width →
    get_or (with_ones width bits) at bit ≡ bit
filled_bit width bits at bit is inside = ⊎_elim
    (λ h. get_or_append_left bits (replicate width true) bit at h ∙ get_or_default bits at bit true h ∙ sym is)
    (λ h. let past : length bits ≤ at = h in
    get_or-append_right bits (replicate width true) (length bits) at bit refl h
    ∙ get_or-replicate width (at - length bits) true bit (omega arith) ∙ sym (is ∙ get_or_past bits at true h))
    (cases_lt at (length bits))

taken_here_at : (alike : Bool) (n number word : ℕ) (bits : List Bool) → to_bits (suc n) number ≡ take (suc n) bits → word / 2 ≡ number / 2 →
    (alike ≡ false → word ≡ number) → (m : ℕ) → m ≡ n →
    cond alike (to_bits m (word / 2)) (to_bits (suc n) word) ≡ take (length (cond alike (to_bits m (word / 2)) (to_bits (suc n) word))) bits
taken_here_at true n number word bits here front kept m same =
    let short : to_bits m (word / 2) ≡ to_bits n (number / 2) = ap (λ (k : ℕ). to_bits k (word / 2)) same ∙ ap (to_bits n) front in
    short ∙ sym (take_at (to_bits n (number / 2)) ((number % 2 == 1) ∷ []) n (length-to_bits n (number / 2)))
    ∙ ap (take n) (sym (to_bits-half n number) ∙ here) ∙ take-take n (suc n) bits (omega arith)
    ∙ ap (λ (k : ℕ). take k bits) (sym (length-to_bits m (word / 2) ∙ same))
taken_here_at false n number word bits here front kept m same =
    ap (to_bits (suc n)) (kept refl) ∙ here ∙ ap (λ (k : ℕ). take k bits) (sym (length-to_bits (suc n) word))

-- the codeword that begins as the first bits do stands for them
pub taken_here : (width number word : ℕ) (bits : List Bool) → 0 < width → to_bits width number ≡ take width bits → word / 2 ≡ number / 2 →
    (is_alike width number ≡ false → word ≡ number) → taken width word ≡ take (length (taken width word)) bits
taken_here zero number word bits some here front kept = absurd (omega arith)
taken_here (suc n) number word bits some here front kept =
    taken_here_at (is_alike (suc n) word) n number word bits here front
    (λ e. kept (ap (λ (k : ℕ). (k == 0) || (k + 1 == 2 ^ (suc n - 1))) (sym front) ∙ e)) (suc n - 1) (omega arith)

-- the same from a place on
pub filled_bit_from : (width : ℕ) (bits : List Bool) (at i : ℕ) (bit : Bool) → bit ≡ get_or bits (at + i) true → at + i < length bits + width →
    get_or (drop at (with_ones width bits)) i bit ≡ bit
filled_bit_from width bits at i bit is inside = get_or-drop at (with_ones width bits) i bit ∙ filled_bit width bits (at + i) bit is inside

pub length-filled_from : (width : ℕ) (bits : List Bool) (at : ℕ) → length (drop at (with_ones width bits)) ≡ length bits + width - at
length-filled_from width bits at = simp (length-drop, length-append, length-replicate)

-- one codeword more, with the lengths as a loop has them
pub begun_step : (width : ℕ) (bits : List Bool) (at n : ℕ) (ws more : List ℕ) (word : ℕ) → IsBegun width bits at ws → at < length bits → IsWord width word →
    taken width word ≡ take (length (taken width word)) (drop at (with_ones width bits)) → n ≤ width → n ≡ length (taken width word) →
    more ≡ ws ++ word ∷ [] → IsBegun width bits (at + n) more
begun_step width bits at n ws more word b inside is-word here few counted pushed =
    subst (λ (s : List ℕ). IsBegun width bits (at + n) s) (sym pushed)
    (subst (λ (k : ℕ). IsBegun width bits (at + k) (ws ++ word ∷ [])) (sym counted)
    (begun_more width bits at ws word b inside is-word here (subst (λ (k : ℕ). k ≤ width) counted few)))

-- as many codewords as this stand for the first `at` of the filled bits
pub record HasBegun (width : ℕ) (bits : List Bool) (at count : ℕ) : Type 0 where
  pub words : List ℕ
  pub begun : IsBegun width bits at words
  pub counted : length words ≡ count
  pub few : count ≤ at

pub has_begun_none : (width : ℕ) (bits : List Bool) → 0 < width → HasBegun width bits 0 0
has_begun_none width bits some = record { words = []; begun = begun_none width bits some; counted = refl; few = omega arith }

pub has_begun_more : (width : ℕ) (bits : List Bool) (at n count word : ℕ) → HasBegun width bits at count → at < length bits → IsWord width word →
    taken width word ≡ take (length (taken width word)) (drop at (with_ones width bits)) → n ≤ width → n ≡ length (taken width word) → 5 ≤ n →
    HasBegun width bits (at + n) (count + 1)
has_begun_more width bits at n count word h inside is-word here few counted some = record {
  words = h.words ++ word ∷ [];
  begun = begun_step width bits at n h.words (h.words ++ word ∷ []) word h.begun inside is-word here few counted refl;
  counted = simp length-append (ap (λ (k : ℕ). k + 1) h.counted);
  few = let so-far : count ≤ at = h.few in omega arith;
}

pub has_begun_all : (width : ℕ) (bits : List Bool) (at count : ℕ) → HasBegun width bits at count → length bits ≤ at → CountsStuffed width bits count
has_begun_all width bits at count h done = counted width bits count h.words (begun_all width bits at h.words h.begun done) h.counted

-- The bits of the first codewords, none of which is all zeros or all ones.
pub record IsUnstuffed (width : ℕ) (words : List ℕ) (place : ℕ) (bits : List Bool) : Type 0 where
  pub spelled : bits ≡ unstuffed width (take place words)
  pub good : All (IsWord width) (take place words)

pub unstuffed_none : (width : ℕ) (words : List ℕ) → IsUnstuffed width words 0 []
unstuffed_none width words = record { spelled = refl; good = All-nil (IsWord width) }

pub unstuffed_more : (width : ℕ) (words : List ℕ) (place word : ℕ) (bits more : List Bool) → IsUnstuffed width words place bits →
    slice_get words place ≡ Some word → IsWord width word → more ≡ bits ++ taken width word → IsUnstuffed width words (place + 1) more
unstuffed_more width words place word bits more so-far here is-word pushed =
    let e : take (place + 1) words ≡ take place words ++ word ∷ [] = take_next words place word here in
    record {
      spelled = pushed ∙ ap (λ (t : List Bool). t ++ taken width word) so-far.spelled
          ∙ ap (λ (t : List Bool). unstuffed width (take place words) ++ t) (sym (append-nil (taken width word)))
          ∙ sym (flat_map-append (taken width) (take place words) (word ∷ [])) ∙ ap (unstuffed width) (sym e);
      good = subst (λ (s : List ℕ). All (IsWord width) s) (sym e) (All-push (IsWord width) (take place words) word so-far.good is-word);
    }

pub first_bad : (width : ℕ) (words : List ℕ) (place word : ℕ) (bits : List Bool) → IsUnstuffed width words place bits →
    slice_get words place ≡ Some word → ¬ (IsWord width word) → IsFirstBad width words place
first_bad width words place word bits so-far here bad = record {
  before = so-far.good;
  within = slice_get_within words place word here;
  bad = subst (λ (w : ℕ). ¬ (IsWord width w)) (sym (get_or_from_slice_get words place word 0 here)) bad;
}

-- bits that are there need a codeword
pub stuffed_some : (width : ℕ) (bits : List Bool) (words : List ℕ) → IsStuffed width bits words → 0 < length bits → 1 ≤ length words
stuffed_some width bits [] stuffed some =
    let e : length {A = Bool} [] ≡ length (bits ++ replicate stuffed.carried.ones true) = ap length stuffed.carried.whole in
    absurd (omega (arith, e, length-append bits (replicate stuffed.carried.ones true)))
stuffed_some width bits (w ∷ ws) stuffed some = omega arith

pub counts_some : (width : ℕ) (bits : List Bool) (count : ℕ) → CountsStuffed width bits count → 0 < length bits → 1 ≤ count
counts_some width bits count h some = omega (arith, h.counted, stuffed_some width bits h.words h.stuffed some)
