-- A text has no fault exactly where it has a body, which is that of its element strings.
use Rattle.std.proofs.Common.{◌≡◌, ◌≢◌, Result, Ok, Err, MatchResult, subst, ℕ, zero, suc, ◌+◌, ◌∙◌, ◌==◌, ◌&&◌, List, [], ◌∷◌, ◌++◌, Bool, true, false, cond, not, if◌then◌else◌, Option, Some, None, map, length, take, drop, get_or, ap, sym, refl, arith}
use Rattle.std.specs.Option.{option_or}
use Rattle.std.specs.List.{All, before_first, flat_map, position_or_len}
use Rattle.std.proofs.Math.Seq.{take-append_seam}
use Rattle.std.proofs.lemmas.Bool.{eq-eqb, eqb-true, and_parts}
use Rattle.std.proofs.lemmas.List.{take-append-drop}
use Rattle.std.proofs.lemmas.List.Elements.{All-cons, All-tail}
use Rattle.bar_base.specs.declared.element.Element.{Element}
use Rattle.bar_base.specs.Results.{Gives}
use Rattle.gs1_check.specs.Sections.{opening_bracket, section_fault}
use Rattle.gs1_check.specs.ElementStrings.{IsElementString, ElementString, HasBody, body_of, first_fault, section_string, text_strings, sections, text_fault, string_text, gs1_refusal, text_body, unless_faulty}
use Rattle.gs1_check.specs.declared.brackets.Brackets.{Brackets}
use Rattle.gs1_check.specs.declared.brackets.Brackets.TheVariants.{Square, Round}
use Rattle.gs1_check.specs.declared.fault.Gs1Fault.{Gs1Fault}
use Rattle.gs1_check.specs.declared.fault.Gs1Fault.TheVariants.{NoMemory, BadBracket, UnknownIdentifier, BadLength, BadCharacter, BadDate, BadCheck}
use Rattle.gs1_check.proofs.SectionStrings.{is_clean, string_again, string_clean, string_sound, string_there, section_of}

-- a text cut before each opening bracket is whole again
joined : (m : ℕ) (t : List ℕ) → flat_map (λ r. m ∷ r) (sections m t) ≡ drop (position_or_len (λ d. d == m) t) t
unfolding sections
joined m [] = refl
joined m (c ∷ t) =
    let one : 1 + position_or_len (λ d. d == m) t ≡ suc (position_or_len (λ d. d == m) t) = omega arith in
    elim (c == m) as (λ is. (c == m) ≡ is → flat_map (λ r. m ∷ r) (if is then before_first (λ d. d == m) t ∷ sections m t else sections m t)
    ≡ drop (cond (not is) (1 + position_or_len (λ d. d == m) t) 0) (c ∷ t)) [
      | true ↦ λ e.
          let same : c ≡ m = eqb-true c m e in
          ap (λ (u : List ℕ). m ∷ (before_first (λ d. d == m) t ++ u)) (joined m t)
          ∙ ap (λ (u : List ℕ). m ∷ u) (take-append-drop (position_or_len (λ d. d == m) t) t)
          ∙ ap (λ k. k ∷ t) (sym same)
      | false ↦ λ e. joined m t ∙ ap (λ n. drop n (c ∷ t)) (sym one)
    ] refl

whole : (m : ℕ) (t : List ℕ) → get_or t 0 0 ≡ m → (zero ≡ m → ⊥) → flat_map (λ r. m ∷ r) (sections m t) ≡ t
whole m [] is other = absurd (other is)
whole m (c ∷ t) is other = joined m (c ∷ t) ∙ ap (λ k. drop (cond (not k) (1 + position_or_len (λ d. d == m) t) 0) (c ∷ t)) (eq-eqb c m is)

-- sections without fault are those of element strings
none_or : (o p : Option Gs1Fault) → option_or o p ≡ None → (o ≡ None) × (p ≡ None)
none_or None p e = (refl, e)
none_or (Some f) p e = cc

each_sound : (b : Brackets) (at : ℕ) (rs : List (List ℕ)) → first_fault b at rs ≡ None
    → All (IsElementString b) (map section_string rs) × (flat_map (λ r. opening_bracket b ∷ r) rs ≡ flat_map (string_text b) (map section_string rs))
unfolding first_fault
each_sound b at [] e = (λ k d below. absurd (omega arith), refl)
each_sound b at (r ∷ rs) e =
    let parts = none_or (section_fault b at r) (first_fault b (at + (1 + length r)) rs) e in
    let here = string_there b at r parts.0 in
    let more = each_sound b (at + (1 + length r)) rs parts.1 in (
      All-cons (IsElementString b) (section_string r) (map section_string rs) here.0 more.0,
      ap (λ (u : List ℕ). opening_bracket b ∷ (r ++ u)) more.1 ∙ ap (λ (u : List ℕ). opening_bracket b ∷ (u ++ flat_map (string_text b) (map section_string rs))) here.1,
    )

no_mark : (b : Brackets) → zero ≡ opening_bracket b → ⊥
no_mark Square e = cc
no_mark Round e = cc

begun_none : (t : Bool) (o : Option Gs1Fault) → (if t then o else Some (BadBracket 0)) ≡ None → (t ≡ true) × (o ≡ None)
begun_none true o e = (refl, e)
begun_none false o e = cc

some_there : (b : Brackets) (text : List ℕ) (strings : List ElementString) → text ≡ flat_map (string_text b) strings → get_or text 0 0 ≡ opening_bracket b → strings ≡ [] → ⊥
some_there b text strings is begins none =
    no_mark b (ap (λ (t : List ℕ). get_or t 0 0) (sym (is ∙ ap (flat_map (string_text b)) none)) ∙ begins)

pub has_body : (b : Brackets) (text : List ℕ) → text_fault b text ≡ None → HasBody b text (body_of (text_strings b text))
unfolding text_fault
has_body b text e =
    let parts = begun_none (get_or text 0 0 == opening_bracket b) (first_fault b 0 (sections (opening_bracket b) text)) e in
    let begins = eqb-true (get_or text 0 0) (opening_bracket b) parts.0 in
    let each = each_sound b 0 (sections (opening_bracket b) text) parts.1 in
    let is = sym (whole (opening_bracket b) text begins (no_mark b)) ∙ each.1 in
    record {
      strings = text_strings b text;
      some = some_there b text (text_strings b text) is begins;
      each = each.0;
      text_is = is;
      body_is = refl;
    }

-- strings again, from their text
clean_first : (m : ℕ) (xs tail : List ℕ) → is_clean m xs ≡ true → position_or_len (λ d. d == m) tail ≡ 0 → position_or_len (λ d. d == m) (xs ++ tail) ≡ length xs
clean_first m [] tail all ends = ends
clean_first m (x ∷ xs) tail all ends =
    let parts = and_parts (not (x == m)) (is_clean m xs) all in
    ap (λ t. cond t (1 + position_or_len (λ d. d == m) (xs ++ tail)) 0) parts.0 ∙ ap (λ n. 1 + n) (clean_first m xs tail parts.1 ends) ∙ omega arith

clean_skip : (m : ℕ) (xs tail : List ℕ) → is_clean m xs ≡ true → sections m (xs ++ tail) ≡ sections m tail
unfolding sections
clean_skip m [] tail all = refl
clean_skip m (x ∷ xs) tail all =
    elim (x == m) as (λ t. (not t && is_clean m xs) ≡ true → (if t then before_first (λ d. d == m) (xs ++ tail) ∷ sections m (xs ++ tail) else sections m (xs ++ tail)) ≡ sections m tail) [
      | true ↦ λ e. cc
      | false ↦ λ e. clean_skip m xs tail e
    ] all

ends : (b : Brackets) (strings : List ElementString) → position_or_len (λ d. d == opening_bracket b) (flat_map (string_text b) strings) ≡ 0
ends b [] = refl
ends b (i ∷ strings) = ap (λ t. cond (not t) (1 + position_or_len (λ d. d == opening_bracket b) (section_of b i ++ flat_map (string_text b) strings)) 0) (eq-eqb (opening_bracket b) (opening_bracket b) refl)

rests_begin : (m : ℕ) (t : List ℕ) → sections m (m ∷ t) ≡ before_first (λ d. d == m) t ∷ sections m t
unfolding sections
rests_begin m t = ap (λ k. if k then before_first (λ d. d == m) t ∷ sections m t else sections m t) (eq-eqb m m refl)

front_clean : (m : ℕ) (xs tail : List ℕ) → is_clean m xs ≡ true → position_or_len (λ d. d == m) tail ≡ 0 → before_first (λ d. d == m) (xs ++ tail) ≡ xs
front_clean m xs tail all last = ap (λ n. take n (xs ++ tail)) (clean_first m xs tail all last) ∙ take-append_seam xs tail

first_string : (b : Brackets) (i : ElementString) (strings : List ElementString) → All (IsElementString b) (i ∷ strings) → IsElementString b i
first_string b i strings each = each 0 i (omega arith)

pub rests_of : (b : Brackets) (strings : List ElementString) → All (IsElementString b) strings → sections (opening_bracket b) (flat_map (string_text b) strings) ≡ map (section_of b) strings
unfolding sections
rests_of b [] each = refl
rests_of b (i ∷ strings) each =
    let clean = string_clean b i (first_string b i strings each) in
    rests_begin (opening_bracket b) (section_of b i ++ flat_map (string_text b) strings)
    ∙ ap (λ (r : List ℕ). r ∷ sections (opening_bracket b) (section_of b i ++ flat_map (string_text b) strings)) (front_clean (opening_bracket b) (section_of b i) (flat_map (string_text b) strings) clean (ends b strings))
    ∙ ap (λ (rs : List (List ℕ)). section_of b i ∷ rs) (clean_skip (opening_bracket b) (section_of b i) (flat_map (string_text b) strings) clean ∙ rests_of b strings (All-tail (IsElementString b) i strings each))

strings_again : (b : Brackets) (strings : List ElementString) → All (IsElementString b) strings → map section_string (map (section_of b) strings) ≡ strings
strings_again b [] each = refl
strings_again b (i ∷ strings) each =
    ap (λ (j : ElementString). j ∷ map section_string (map (section_of b) strings)) (string_again b i (first_string b i strings each)) ∙ ap (λ (js : List ElementString). i ∷ js) (strings_again b strings (All-tail (IsElementString b) i strings each))

none_faulty : (b : Brackets) (at : ℕ) (strings : List ElementString) → All (IsElementString b) strings → first_fault b at (map (section_of b) strings) ≡ None
unfolding first_fault
none_faulty b at [] each = refl
none_faulty b at (i ∷ strings) each =
    ap (λ o. option_or o (first_fault b (at + (1 + length (section_of b i))) (map (section_of b) strings))) (string_sound b at i (first_string b i strings each))
    ∙ none_faulty b (at + (1 + length (section_of b i))) strings (All-tail (IsElementString b) i strings each)

begins_some : (b : Brackets) (strings : List ElementString) → strings ≢ [] → get_or (flat_map (string_text b) strings) 0 0 ≡ opening_bracket b
begins_some b [] some = absurd (some refl)
begins_some b (i ∷ strings) some = refl

pub strings_are : (b : Brackets) (strings : List ElementString) → All (IsElementString b) strings → text_strings b (flat_map (string_text b) strings) ≡ strings
strings_are b strings each = ap (map section_string) (rests_of b strings each) ∙ strings_again b strings each

text_sound : (b : Brackets) (strings : List ElementString) → All (IsElementString b) strings → strings ≢ [] → text_fault b (flat_map (string_text b) strings) ≡ None
unfolding text_fault
text_sound b strings each some =
    ap (λ t. if t then first_fault b 0 (sections (opening_bracket b) (flat_map (string_text b) strings)) else Some (BadBracket 0))
    (eq-eqb (get_or (flat_map (string_text b) strings) 0 0) (opening_bracket b) (begins_some b strings some))
    ∙ ap (first_fault b 0) (rests_of b strings each) ∙ none_faulty b 0 strings each

pub body_sound : (b : Brackets) (text : List ℕ) (body : List Element) → HasBody b text body → (text_fault b text ≡ None) × (body ≡ body_of (text_strings b text))
body_sound b text body is =
    (ap (text_fault b) is.text_is ∙ text_sound b is.strings is.each is.some, is.body_is ∙ ap body_of (sym (strings_are b is.strings is.each) ∙ ap (text_strings b) (sym is.text_is)))

pub faulty_body : (b : Brackets) (text : List ℕ) (f : Gs1Fault) → text_fault b text ≡ Some f → text_body b text ≡ Err f
unfolding text_body
faulty_body b text f e = ap (λ o. unless_faulty o (body_of (text_strings b text))) e

pub faultless_body : (b : Brackets) (text : List ℕ) (body : List Element) → text_fault b text ≡ None → body ≡ body_of (text_strings b text) → text_body b text ≡ Ok body
unfolding text_body
faultless_body b text body e is = ap (λ o. unless_faulty o (body_of (text_strings b text))) e ∙ ap (λ (es : List Element). Ok es) (sym is)

no_fault_left : (o : Option Gs1Fault) (body other : List Element) → unless_faulty o body ≡ Ok other → (o ≡ None) × (other ≡ body)
no_fault_left None body other e = (refl, cc)
no_fault_left (Some f) body other e = cc

pub sound_body : (b : Brackets) (text : List ℕ) (body : List Element) → text_body b text ≡ Ok body → HasBody b text body
unfolding text_body
sound_body b text body e =
    let parts = no_fault_left (text_fault b text) (body_of (text_strings b text)) body e in
    subst (λ (es : List Element). HasBody b text es) (sym parts.1) (has_body b text parts.0)

pub defined_body : (b : Brackets) (text : List ℕ) (body : List Element) → HasBody b text body → text_body b text ≡ Ok body
defined_body b text body is = let parts = body_sound b text body is in faultless_body b text body parts.0 parts.1

-- a fault of the text is what a call gives, and a call that gives what is defined gives the body
pub gives_fault : (b : Brackets) (text : List ℕ) (f : Gs1Fault) → text_fault b text ≡ Some f → Gives gs1_refusal (λ (es : List Element). es) (Err f) (text_body b text)
gives_fault b text NoMemory e = tt
gives_fault b text (BadBracket k) e = faulty_body b text (BadBracket k) e
gives_fault b text (UnknownIdentifier k) e = faulty_body b text (UnknownIdentifier k) e
gives_fault b text (BadLength k) e = faulty_body b text (BadLength k) e
gives_fault b text (BadCharacter k) e = faulty_body b text (BadCharacter k) e
gives_fault b text (BadDate k) e = faulty_body b text (BadDate k) e
gives_fault b text (BadCheck k g w) e = faulty_body b text (BadCheck k g w) e

pub given_body : (b : Brackets) (text : List ℕ) (r : Result (List Element) Gs1Fault) (body : List Element) → Gives gs1_refusal (λ es. es) r (text_body b text) → HasBody b text body
    → MatchResult r (λ es. es ≡ body) (λ e. e ≡ NoMemory)
given_body b text (Ok es) body gives is = let e : Ok es ≡ Ok body = sym gives ∙ defined_body b text body is in cc
given_body b text (Err NoMemory) body gives is = refl
given_body b text (Err (BadBracket k)) body gives is = let e = sym gives ∙ defined_body b text body is in cc
given_body b text (Err (UnknownIdentifier k)) body gives is = let e = sym gives ∙ defined_body b text body is in cc
given_body b text (Err (BadLength k)) body gives is = let e = sym gives ∙ defined_body b text body is in cc
given_body b text (Err (BadCharacter k)) body gives is = let e = sym gives ∙ defined_body b text body is in cc
given_body b text (Err (BadDate k)) body gives is = let e = sym gives ∙ defined_body b text body is in cc
given_body b text (Err (BadCheck k g w)) body gives is = let e = sym gives ∙ defined_body b text body is in cc
