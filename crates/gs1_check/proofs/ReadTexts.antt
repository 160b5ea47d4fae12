-- A text read from the left, from one opening bracket to the next.
use Rattle.std.proofs.Common.{◌≡◌, ℕ, zero, suc, ◌+◌, ◌<◌, ◌≤◌, ◌∙◌, ◌==◌, List, [], ◌∷◌, ◌++◌, Bool, true, false, cond, not, if◌then◌else◌, Some, None, map, length, drop, get_or, ap, sym, subst, refl, arith, append_assoc, append-nil, length-drop, add-one}
use Rattle.std.specs.Option.{option_or}
use Rattle.std.specs.List.{before_first, position_or_len}
use Rattle.std.proofs.Math.Seq.{drop-cons}
use Rattle.std.proofs.lemmas.Bool.{eq-eqb, eqb-true, ne_eqb}
use Rattle.std.proofs.lemmas.List.{drop_all, drop-drop, get_or-drop, get_or_past, length-take-le}
use Rattle.std.proofs.lemmas.List.Sums.{passes_at_first}
use Rattle.bar_base.specs.declared.element.Element.{Element}
use Rattle.gs1_check.specs.Sections.{opening_bracket, section_fault}
use Rattle.gs1_check.specs.ElementStrings.{ElementString, body_behind, body_of, first_fault, string_elements, section_string, text_strings, separator, needs_separator, section_at, sections, text_fault}
use Rattle.gs1_check.specs.declared.brackets.Brackets.{Brackets}
use Rattle.gs1_check.specs.declared.brackets.Brackets.TheVariants.{Square, Round}
use Rattle.gs1_check.specs.declared.fault.Gs1Fault.{Gs1Fault}
use Rattle.gs1_check.specs.declared.fault.Gs1Fault.TheVariants.{BadBracket}
use Rattle.bar_base.proofs.ListLemmas.{position_or_len-within}

-- up to the place there is no fault, and the body is that of the strings there
pub record Reading (b : Brackets) (text : List ℕ) (place : ℕ) (owed : Bool) (body : List Element) : Type 0 where
  pub within : place ≤ length text
  pub begins : place < length text → get_or text place 0 ≡ opening_bracket b
  pub faults : text_fault b text ≡ first_fault b place (sections (opening_bracket b) (drop place text))
  pub bodies : body ++ body_behind owed (map section_string (sections (opening_bracket b) (drop place text))) ≡ body_of (text_strings b text)

pub rests_skip : (m : ℕ) (t : List ℕ) → sections m t ≡ sections m (drop (position_or_len (λ d. d == m) t) t)
unfolding sections
rests_skip m [] = refl
rests_skip m (c ∷ t) =
    let one : 1 + position_or_len (λ d. d == m) t ≡ suc (position_or_len (λ d. d == m) t) = omega arith in
    elim (c == m) as (λ is. (c == m) ≡ is → (if is then before_first (λ d. d == m) t ∷ sections m t else sections m t) ≡ sections m (drop (cond (not is) (1 + position_or_len (λ d. d == m) t) 0) (c ∷ t))) [
      | true ↦ λ e. sym (ap (λ k. if k then before_first (λ d. d == m) t ∷ sections m t else sections m t) e)
      | false ↦ λ e. rests_skip m t ∙ ap (λ n. sections m (drop n (c ∷ t))) (sym one)
    ] refl

rests_cons : (m c : ℕ) (t : List ℕ) → c ≡ m → sections m (c ∷ t) ≡ before_first (λ d. d == m) t ∷ sections m t
unfolding sections
rests_cons m c t e = ap (λ k. if k then before_first (λ d. d == m) t ∷ sections m t else sections m t) (eq-eqb c m e)

rest_length : (b : Brackets) (text : List ℕ) (place : ℕ) → length (section_at b text place) ≡ position_or_len (λ d. d == opening_bracket b) (drop (place + 1) text)
rest_length b text place = length-take-le (position_or_len (λ d. d == opening_bracket b) (drop (place + 1) text)) (drop (place + 1) text) (position_or_len-within (λ d. d == opening_bracket b) (drop (place + 1) text))

pub rests_here : (b : Brackets) (text : List ℕ) (place : ℕ) → place < length text → get_or text place 0 ≡ opening_bracket b
    → sections (opening_bracket b) (drop place text) ≡ section_at b text place ∷ sections (opening_bracket b) (drop (place + (1 + length (section_at b text place))) text)
rests_here b text place within is =
    let k : ℕ = position_or_len (λ d. d == opening_bracket b) (drop (place + 1) text) in
    let long = rest_length b text place in
    let sum : (place + 1) + position_or_len (λ d. d == opening_bracket b) (drop (place + 1) text) ≡ place + (1 + length (section_at b text place)) = omega arith in
    ap (sections (opening_bracket b)) (drop-cons text place 0 within ∙ ap (λ n. get_or text place 0 ∷ drop n text) (sym (add-one place)))
    ∙ rests_cons (opening_bracket b) (get_or text place 0) (drop (place + 1) text) is
    ∙ ap (λ ts. section_at b text place ∷ ts) (rests_skip (opening_bracket b) (drop (place + 1) text)
    ∙ ap (sections (opening_bracket b)) (drop-drop (position_or_len (λ d. d == opening_bracket b) (drop (place + 1) text)) (place + 1) text ∙ ap (λ n. drop n text) sum))

next_begins : (b : Brackets) (text : List ℕ) (place : ℕ) → place + (1 + length (section_at b text place)) < length text
    → get_or text (place + (1 + length (section_at b text place))) 0 ≡ opening_bracket b
next_begins b text place within =
    let long = rest_length b text place in
    let below : position_or_len (λ d. d == opening_bracket b) (drop (place + 1) text) < length (drop (place + 1) text) = omega (arith, length-drop (place + 1) text) in
    let sum : (place + 1) + position_or_len (λ d. d == opening_bracket b) (drop (place + 1) text) ≡ place + (1 + length (section_at b text place)) = omega arith in
    ap (λ n. get_or text n 0) (sym sum) ∙ sym (get_or-drop (place + 1) text (position_or_len (λ d. d == opening_bracket b) (drop (place + 1) text)) 0)
    ∙ eqb-true (get_or (drop (place + 1) text) (position_or_len (λ d. d == opening_bracket b) (drop (place + 1) text)) 0) (opening_bracket b)
    (passes_at_first (λ d. d == opening_bracket b) (drop (place + 1) text) 0 below)

pub begun : (b : Brackets) (text : List ℕ) → 0 < length text → get_or text 0 0 ≡ opening_bracket b → Reading b text 0 false []
unfolding text_fault
begun b text some is = record {
  within = omega arith;
  begins = λ _. is;
  faults = ap (λ k. if k then first_fault b 0 (sections (opening_bracket b) text) else Some (BadBracket 0)) (eq-eqb (get_or text 0 0) (opening_bracket b) is);
  bodies = refl;
}

append_more : (a o f z : List Element) → (a ++ o ++ f) ++ z ≡ a ++ (o ++ f ++ z)
append_more a o f z = simp append_assoc

pub more_read : (b : Brackets) (text : List ℕ) (place : ℕ) (owed : Bool) (body : List Element) → Reading b text place owed body → place < length text
    → section_fault b place (section_at b text place) ≡ None
    → Reading b text (place + (1 + length (section_at b text place))) (needs_separator (section_string (section_at b text place))) (body ++ separator owed ++ string_elements (section_string (section_at b text place)))
unfolding first_fault body_behind
more_read b text place owed body r within sound =
    let here = rests_here b text place within (r.begins within) in
    let more : List (List ℕ) = sections (opening_bracket b) (drop (place + (1 + length (section_at b text place))) text) in
    let i : ElementString = section_string (section_at b text place) in
    record {
      within = omega (arith, rest_length b text place, position_or_len-within (λ d. d == opening_bracket b) (drop (place + 1) text), length-drop (place + 1) text);
      begins = next_begins b text place;
      faults = r.faults ∙ ap (first_fault b place) here ∙ ap (λ o. option_or o (first_fault b (place + (1 + length (section_at b text place))) (sections (opening_bracket b) (drop (place + (1 + length (section_at b text place))) text)))) sound;
      bodies = append_more body (separator owed) (string_elements (section_string (section_at b text place))) (body_behind (needs_separator (section_string (section_at b text place))) (map section_string (sections (opening_bracket b) (drop (place + (1 + length (section_at b text place))) text))))
          ∙ ap (λ rs. body ++ body_behind owed (map section_string rs)) (sym here) ∙ r.bodies;
    }

-- the same, as the code holds what it read
pub reads : (b : Brackets) (text : List ℕ) (place : ℕ) (owed : Bool) (body : List Element) (rest : List ℕ) (next : Bool) (longer : List Element)
    → Reading b text place owed body → place < length text → rest ≡ section_at b text place → section_fault b place rest ≡ None → next ≡ needs_separator (section_string rest)
    → longer ≡ body ++ separator owed ++ string_elements (section_string rest) → Reading b text (place + (1 + length rest)) next longer
reads b text place owed body rest next longer r within is sound owes_is longer_is =
    let Next : List ℕ → Type 0 = λ t. Reading b text (place + (1 + length t)) (needs_separator (section_string t)) (body ++ separator owed ++ string_elements (section_string t)) in
    let read : Next rest = subst Next (sym is) (more_read b text place owed body r within (ap (section_fault b place) (sym is) ∙ sound)) in
    subst (λ (o : Bool). Reading b text (place + (1 + length rest)) o longer) (sym owes_is)
    (subst (λ (l : List Element). Reading b text (place + (1 + length rest)) (needs_separator (section_string rest)) l) (sym longer_is) read)

pub stopped : (b : Brackets) (text : List ℕ) (place : ℕ) (owed : Bool) (body : List Element) (f : Gs1Fault) → Reading b text place owed body → place < length text
    → section_fault b place (section_at b text place) ≡ Some f → text_fault b text ≡ Some f
unfolding first_fault
stopped b text place owed body f r within found =
    r.faults ∙ ap (first_fault b place) (rests_here b text place within (r.begins within))
    ∙ ap (λ o. option_or o (first_fault b (place + (1 + length (section_at b text place))) (sections (opening_bracket b) (drop (place + (1 + length (section_at b text place))) text)))) found

pub all_sound : (b : Brackets) (text : List ℕ) (place : ℕ) (owed : Bool) (body : List Element) → Reading b text place owed body → length text ≤ place → text_fault b text ≡ None
unfolding first_fault sections
all_sound b text place owed body r past = r.faults ∙ ap (λ t. first_fault b place (sections (opening_bracket b) t)) (drop_all place text past)

pub all_body : (b : Brackets) (text : List ℕ) (place : ℕ) (owed : Bool) (body : List Element) → Reading b text place owed body → length text ≤ place → body ≡ body_of (text_strings b text)
unfolding body_behind sections
all_body b text place owed body r past = sym (append-nil body) ∙ ap (λ t. body ++ body_behind owed (map section_string (sections (opening_bracket b) t))) (sym (drop_all place text past)) ∙ r.bodies

pub not_begun : (b : Brackets) (text : List ℕ) → (get_or text 0 0 ≡ opening_bracket b → ⊥) → text_fault b text ≡ Some (BadBracket 0)
unfolding text_fault
not_begun b text other = ap (λ k. if k then first_fault b 0 (sections (opening_bracket b) text) else Some (BadBracket 0)) (ne_eqb (get_or text 0 0) (opening_bracket b) other)

none_there : (b : Brackets) → zero ≡ opening_bracket b → ⊥
none_there Square e = cc
none_there Round e = cc

pub not_there : (b : Brackets) (text : List ℕ) → (length text == 0) ≡ true → text_fault b text ≡ Some (BadBracket 0)
not_there b text none =
    let empty = eqb-true (length text) 0 none in
    not_begun b text (λ e. none_there b (sym (get_or_past text 0 0 (omega arith)) ∙ e))
