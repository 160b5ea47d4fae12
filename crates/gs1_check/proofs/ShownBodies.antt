-- A body cut from the left has one list of element strings at most.
use Rattle.std.proofs.Common.{◌≡◌, ◌≢◌, ℕ, suc, ◌+◌, ◌-◌, ◌*◌, ◌<◌, ◌≤◌, ◌∙◌, List, [], ◌∷◌, ◌++◌, Bool, true, false, not, if◌then◌else◌, nat_le, Some, None, map, length, take, drop, get_or, slice_get, length-drop, ap, sym, subst, refl, arith, inl, inr, append-nil, append_assoc}
use Rattle.std.specs.List.{All, flat_map}
use Rattle.std.proofs.Math.Seq.{take-append_seam, drop-append_seam, drop-cons}
use Rattle.std.proofs.Math.ListN.{get_or-append}
use Rattle.std.proofs.lemmas.Bool.{and_parts, cases_lt, leb-true}
use Rattle.std.proofs.lemmas.List.{drop_all, drop-drop, take-append-drop, length-append, map-append}
use Rattle.std.proofs.lemmas.List.Elements.{All-cons, All-tail}
use Rattle.bar_base.specs.declared.element.Element.{Element}
use Rattle.bar_base.specs.declared.element.Element.TheVariants.{Byte, Eci, Fnc1}
use Rattle.bar_base.proofs.ListLemmas.{drop_here}
use Rattle.std.proofs.lemmas.Option.{slice_get-get_or, slice_get_within}
use Rattle.gs1_check.specs.Identifiers.{identifier_format, has_predefined_length, identifier_size, two_digits}
use Rattle.gs1_check.specs.ElementStrings.{IsElementString, ElementString, HasBody, body_behind, body_of, string_elements, separator, needs_separator, string_text}
use Rattle.gs1_check.specs.LeadingStrings.{fixed_length, leading_string, leading_bytes, string_at, string_length, sized_string, leading_value}
use Rattle.gs1_check.specs.declared.brackets.Brackets.TheVariants.{Square}
use Rattle.gs1_check.proofs.TableFacts.{known_led}

-- bytes of a list of elements
bytes_of_string : (bs : List ℕ) (z : List Element) → leading_bytes (map (λ c. Byte c) bs ++ z) ≡ bs ++ leading_bytes z
unfolding leading_bytes
bytes_of_string [] z = refl
bytes_of_string (b ∷ bs) z = ap (λ (t : List ℕ). b ∷ t) (bytes_of_string bs z)

bytes_front : (es : List Element) → map (λ c. Byte c) (leading_bytes es) ++ drop (length (leading_bytes es)) es ≡ es
unfolding leading_bytes
bytes_front [] = refl
bytes_front (Byte c ∷ es) = ap (λ (t : List Element). Byte c ∷ t) (bytes_front es)
bytes_front (Eci n ∷ es) = refl
bytes_front (Fnc1 ∷ es) = refl

bytes_separator : (more : List ElementString) → leading_bytes (body_behind true more) ≡ []
unfolding leading_bytes body_behind
bytes_separator [] = refl
bytes_separator (i ∷ more) = refl

least_two : (x y : Bool) → 2 ≤ (if x then 3 else (if y then 4 else 2))
least_two true y = omega arith
least_two false true = omega arith
least_two false false = omega arith

at_least_two : (n : ℕ) → 2 ≤ identifier_size n
unfolding identifier_size
at_least_two n = least_two _ _

two_front : (ds x : List ℕ) → 2 ≤ length ds → two_digits (ds ++ x) 0 ≡ two_digits ds 0
two_front ds x some =
    ap (λ n. (n - 48) * 10 + (get_or (ds ++ x) 1 0 - 48)) (get_or-append ds x 0 0 (omega arith)) ∙ ap (λ n. (get_or ds 0 0 - 48) * 10 + (n - 48)) (get_or-append ds x 0 1 (omega arith))

pub identifier_long : (i : ElementString) → IsElementString Square i → 2 ≤ length i.identifier
identifier_long i is =
    let led = known_led i.identifier is.format is.known in
    let long = at_least_two (two_digits i.identifier 0) in
    let size = led.size_is in
    omega arith

-- a value is found again
value_long : (i : ElementString) (is : IsElementString Square i) → has_predefined_length i.identifier ≡ true → is.format.most ≡ length i.value
unfolding has_predefined_length
value_long i is fixed =
    let led = known_led i.identifier is.format is.known in
    let one = led.one_length fixed in
    let parts = and_parts (nat_le is.format.least (length i.value)) (nat_le (length i.value) is.format.most) is.fits.long in
    let low = leb-true is.format.least (length i.value) parts.0 in
    let high = leb-true (length i.value) is.format.most parts.1 in
    omega arith

value_again : (i : ElementString) (r : List ℕ) → IsElementString Square i → (needs_separator i ≡ true → r ≡ []) → leading_value i.identifier (i.value ++ r) ≡ i.value
value_again i r is none =
    elim (has_predefined_length i.identifier) as (λ t. has_predefined_length i.identifier ≡ t → (not t ≡ true → r ≡ []) → (if t then take (fixed_length (identifier_format i.identifier)) (i.value ++ r) else i.value ++ r) ≡ i.value) [
      | true ↦ λ fixed _.
          let size : is.format.most ≡ length i.value = value_long i is fixed in
          ap (λ o. take (fixed_length o) (i.value ++ r)) is.known ∙ ap (λ n. take n (i.value ++ r)) size ∙ take-append_seam i.value r
      | false ↦ λ _ gone. ap (λ t. i.value ++ t) (gone refl) ∙ append-nil i.value
    ] refl none

string_again : (i : ElementString) (r : List ℕ) → IsElementString Square i → (needs_separator i ≡ true → r ≡ []) → leading_string ((i.identifier ++ i.value) ++ r) ≡ i
unfolding leading_string
string_again i r is none =
    let make : List ℕ → List ℕ → ElementString = λ x y. record { identifier = x; value = y } in
    let led = known_led i.identifier is.format is.known in
    let size : identifier_size (two_digits (i.identifier ++ (i.value ++ r)) 0) ≡ length i.identifier =
    ap identifier_size (two_front i.identifier (i.value ++ r) (identifier_long i is)) ∙ led.size_is in
    ap (λ bs. sized_string (identifier_size (two_digits bs 0)) bs) (append_assoc i.identifier i.value r)
    ∙ ap (λ n. sized_string n (i.identifier ++ (i.value ++ r))) size
    ∙ ap (λ x. make x (leading_value x (drop (length i.identifier) (i.identifier ++ (i.value ++ r))))) (take-append_seam i.identifier (i.value ++ r))
    ∙ ap (λ x. make i.identifier (leading_value i.identifier x)) (drop-append_seam i.identifier (i.value ++ r))
    ∙ ap (make i.identifier) (value_again i r is none)

separator_none : (o : Bool) (more : List ElementString) → o ≡ true → leading_bytes (body_behind o more) ≡ []
separator_none o more e = ap (λ t. leading_bytes (body_behind t more)) e ∙ bytes_separator more

pub cut_string : (i : ElementString) (more : List ElementString) → IsElementString Square i → leading_string (leading_bytes (body_of (i ∷ more))) ≡ i
unfolding body_behind
cut_string i more is = ap leading_string (bytes_of_string (i.identifier ++ i.value) (body_behind (needs_separator i) more)) ∙ string_again i (leading_bytes (body_behind (needs_separator i) more)) is (separator_none (needs_separator i) more)

bytes_size : (bs : List ℕ) → length (map (λ c. Byte c) bs) ≡ length bs
bytes_size [] = refl
bytes_size (b ∷ bs) = ap (λ n. suc n) (bytes_size bs)

flat_size : (i : ElementString) → string_length i ≡ length (string_elements i)
flat_size i = sym (bytes_size (i.identifier ++ i.value) ∙ length-append i.identifier i.value)

pub cut_rest : (i : ElementString) (more : List ElementString) → drop (string_length i) (body_of (i ∷ more)) ≡ body_behind (needs_separator i) more
unfolding body_behind
cut_rest i more = ap (λ n. drop n (string_elements i ++ body_behind (needs_separator i) more)) (flat_size i) ∙ drop-append_seam (string_elements i) (body_behind (needs_separator i) more)

-- what is cut off is the front
value_front : (t : Bool) (n : ℕ) (rest : List ℕ) → (r : List ℕ) × (rest ≡ (if t then take n rest else rest) ++ r)
value_front true n rest = (drop n rest, sym (take-append-drop n rest))
value_front false n rest = ([], sym (append-nil rest))

string_front : (bs : List ℕ) → (r : List ℕ) × (bs ≡ ((leading_string bs).identifier ++ (leading_string bs).value) ++ r)
unfolding leading_string
string_front bs =
    let size : ℕ = identifier_size (two_digits bs 0) in
    let v = value_front (has_predefined_length (take (identifier_size (two_digits bs 0)) bs)) (fixed_length (identifier_format (take (identifier_size (two_digits bs 0)) bs))) (drop (identifier_size (two_digits bs 0)) bs) in (
      v.0,
      sym (take-append-drop (identifier_size (two_digits bs 0)) bs) ∙ ap (λ x. take (identifier_size (two_digits bs 0)) bs ++ x) v.1
          ∙ sym (append_assoc (take (identifier_size (two_digits bs 0)) bs) (leading_value (take (identifier_size (two_digits bs 0)) bs) (drop (identifier_size (two_digits bs 0)) bs)) v.0),
    )

pub front_string : (es : List Element) → string_elements (leading_string (leading_bytes es)) ++ drop (string_length (leading_string (leading_bytes es))) es ≡ es
front_string es =
    let i : ElementString = leading_string (leading_bytes es) in
    let f = string_front (leading_bytes es) in
    let z : List Element = drop (length (leading_bytes es)) es in
    let whole : es ≡ string_elements (leading_string (leading_bytes es)) ++ (map (λ c. Byte c) f.0 ++ drop (length (leading_bytes es)) es) =
    sym (bytes_front es) ∙ ap (λ bs. map (λ c. Byte c) bs ++ drop (length (leading_bytes es)) es) f.1
    ∙ ap (λ t. t ++ drop (length (leading_bytes es)) es) (map-append (λ c. Byte c) ((leading_string (leading_bytes es)).identifier ++ (leading_string (leading_bytes es)).value) f.0)
    ∙ append_assoc (string_elements (leading_string (leading_bytes es))) (map (λ c. Byte c) f.0) (drop (length (leading_bytes es)) es) in
    ap (λ t. string_elements (leading_string (leading_bytes es)) ++ drop (string_length (leading_string (leading_bytes es))) t) whole
    ∙ ap (λ t. string_elements (leading_string (leading_bytes es)) ++ t) (ap (λ n. drop n (string_elements (leading_string (leading_bytes es)) ++ (map (λ c. Byte c) f.0 ++ drop (length (leading_bytes es)) es))) (flat_size (leading_string (leading_bytes es)))
    ∙ drop-append_seam (string_elements (leading_string (leading_bytes es))) (map (λ c. Byte c) f.0 ++ drop (length (leading_bytes es)) es))
    ∙ sym whole

-- what is still to be shown: the elements left complete the text exactly to the texts of the body
pub record Left (text : List ℕ) (es body : List Element) : Type 0 where
  pub sound : (more : List ElementString) → All (IsElementString Square) more → more ≢ [] → es ≡ body_of more → HasBody Square (text ++ flat_map (string_text Square) more) body
  pub complete : (t : List ℕ) → HasBody Square t body → (more : List ElementString) × All (IsElementString Square) more × (more ≢ []) × (es ≡ body_of more) × (t ≡ text ++ flat_map (string_text Square) more)

pub all_left : (body : List Element) → Left [] body body
all_left body = record {
  sound = λ more each some is. record { strings = more; some = some; each = each; text_is = refl; body_is = is };
  complete = λ t is. (is.strings, is.each, is.some, is.body_is, is.text_is);
}

separator_more : (o : Bool) (more : List ElementString) → more ≢ [] → body_behind o more ≡ separator o ++ body_of more
unfolding body_behind
separator_more o [] some = absurd (some refl)
separator_more o (i ∷ more) some = append_assoc (separator o) (string_elements i) (body_behind (needs_separator i) more)

same_behind : (o : Bool) (x y : List Element) → separator o ++ x ≡ separator o ++ y → x ≡ y
same_behind true x y e = cc
same_behind false x y e = e

only_string : (more : List ElementString) (j : ElementString) → more ≡ [] → IsElementString Square j → All (IsElementString Square) (j ∷ [])
only_string more j e is = All-cons (IsElementString Square) j [] is (λ k d below. absurd (omega arith))

some_strings : (o : Bool) (more : List ElementString) → (body_behind o more ≡ [] → ⊥) → more ≢ []
unfolding body_behind
some_strings o [] other e = other refl
some_strings o (i ∷ more) other e = cc

no_strings : (o : Bool) (more : List ElementString) → All (IsElementString Square) more → body_behind o more ≡ [] → more ≡ []
unfolding body_behind
no_strings o [] each e = refl
no_strings o (i ∷ more) each e =
    let long = identifier_long i (each 0 i (omega arith)) in
    let size = flat_size i in
    let none : length ((separator o ++ string_elements i) ++ body_behind (needs_separator i) more) ≡ 0 = ap (λ (t : List Element). length t) e in
    absurd (omega (arith, length-append (separator o ++ string_elements i) (body_behind (needs_separator i) more), length-append (separator o) (string_elements i)))

-- the strings of a text of the body begin with the string that is cut off
pub record BeginsText (text t : List ℕ) (es : List Element) : Type 0 where
  pub more : List ElementString
  pub string : IsElementString Square (leading_string (leading_bytes es))
  pub each : All (IsElementString Square) more
  pub rest : drop (string_length (leading_string (leading_bytes es))) es ≡ body_behind (needs_separator (leading_string (leading_bytes es))) more
  pub whole : t ≡ (text ++ string_text Square (leading_string (leading_bytes es))) ++ flat_map (string_text Square) more

begins_with : (text t : List ℕ) (es : List Element) (strings : List ElementString) → All (IsElementString Square) strings → strings ≢ [] → es ≡ body_of strings → t ≡ text ++ flat_map (string_text Square) strings → BeginsText text t es
begins_with text t es [] each some is whole = absurd (some refl)
begins_with text t es (j ∷ more) each some is whole =
    let string : IsElementString Square j = each 0 j (omega arith) in
    let same : leading_string (leading_bytes es) ≡ j = ap (λ e. leading_string (leading_bytes e)) is ∙ cut_string j more string in
    record {
      more = more;
      string = subst (λ (i : ElementString). IsElementString Square i) (sym same) string;
      each = All-tail (IsElementString Square) j more each;
      rest = ap (λ e. drop (string_length (leading_string (leading_bytes es))) e) is ∙ ap (λ (i : ElementString). drop (string_length i) (body_of (j ∷ more))) same ∙ cut_rest j more ∙ ap (λ (i : ElementString). body_behind (needs_separator i) more) (sym same);
      whole = whole ∙ sym (append_assoc text (string_text Square j) (flat_map (string_text Square) more)) ∙ ap (λ (i : ElementString). (text ++ string_text Square i) ++ flat_map (string_text Square) more) (sym same);
    }

pub begins : (text t : List ℕ) (es body : List Element) → Left text es body → HasBody Square t body → BeginsText text t es
begins text t es body l stood = let c = l.complete t stood in begins_with text t es c.0 c.1 c.2 c.3 c.4

cons_body : (i : ElementString) (more : List ElementString) → string_elements i ++ body_behind (needs_separator i) more ≡ body_of (i ∷ more)
unfolding body_behind
cons_body i more = refl

-- one string more, where something is left behind it
pub next_left : (text : List ℕ) (es body behind : List Element) → Left text es body → IsElementString Square (leading_string (leading_bytes es)) → (drop (string_length (leading_string (leading_bytes es))) es ≡ [] → ⊥)
    → drop (string_length (leading_string (leading_bytes es))) es ≡ separator (needs_separator (leading_string (leading_bytes es))) ++ behind → Left (text ++ string_text Square (leading_string (leading_bytes es))) behind body
next_left text es body behind l string some is = record {
  sound = λ more each others left.
      let i : ElementString = leading_string (leading_bytes es) in
      let here : es ≡ body_of (leading_string (leading_bytes es) ∷ more) = sym (front_string es) ∙ ap (λ t. string_elements (leading_string (leading_bytes es)) ++ t) (is ∙ ap (λ t. separator (needs_separator (leading_string (leading_bytes es))) ++ t) left ∙ sym (separator_more (needs_separator (leading_string (leading_bytes es))) more others)) ∙ cons_body (leading_string (leading_bytes es)) more in
      subst (λ t. HasBody Square t body) (sym (append_assoc text (string_text Square (leading_string (leading_bytes es))) (flat_map (string_text Square) more)))
      (l.sound (leading_string (leading_bytes es) ∷ more) (All-cons (IsElementString Square) (leading_string (leading_bytes es)) more string each) (λ e. cc) here);
  complete = λ t stood.
      let b = begins text t es body l stood in
      let others = some_strings (needs_separator (leading_string (leading_bytes es))) b.more (λ e. some (b.rest ∙ e)) in
      (b.more, b.each, others, same_behind (needs_separator (leading_string (leading_bytes es))) behind (body_of b.more) (sym is ∙ b.rest ∙ separator_more (needs_separator (leading_string (leading_bytes es))) b.more others), b.whole);
}

-- the last string
pub last_left : (text : List ℕ) (es body : List Element) → Left text es body → IsElementString Square (leading_string (leading_bytes es)) → drop (string_length (leading_string (leading_bytes es))) es ≡ []
    → HasBody Square (text ++ string_text Square (leading_string (leading_bytes es))) body
unfolding body_behind
last_left text es body l string none =
    let here : es ≡ body_of (leading_string (leading_bytes es) ∷ []) = sym (front_string es) ∙ ap (λ t. string_elements (leading_string (leading_bytes es)) ++ t) none in
    subst (λ t. HasBody Square t body) (ap (λ u. text ++ u) (append-nil (string_text Square (leading_string (leading_bytes es)))))
    (l.sound (leading_string (leading_bytes es) ∷ []) (only_string [] (leading_string (leading_bytes es)) refl string) (λ e. cc) here)

pub last_only : (text : List ℕ) (es body : List Element) → Left text es body → drop (string_length (leading_string (leading_bytes es))) es ≡ []
    → (t : List ℕ) → HasBody Square t body → t ≡ text ++ string_text Square (leading_string (leading_bytes es))
last_only text es body l none t stood =
    let b = begins text t es body l stood in
    let gone = no_strings (needs_separator (leading_string (leading_bytes es))) b.more b.each (sym b.rest ∙ none) in
    b.whole ∙ ap (λ (m : List ElementString). (text ++ string_text Square (leading_string (leading_bytes es))) ++ flat_map (string_text Square) m) gone ∙ append-nil (text ++ string_text Square (leading_string (leading_bytes es)))

-- no text
pub no_string : (text : List ℕ) (es body : List Element) → Left text es body → (IsElementString Square (leading_string (leading_bytes es)) → ⊥) → (t : List ℕ) → HasBody Square t body → ⊥
no_string text es body l other t stood = other (begins text t es body l stood).string

pub no_separator : (text : List ℕ) (es body : List Element) → Left text es body → (drop (string_length (leading_string (leading_bytes es))) es ≡ [] → ⊥)
    → ((behind : List Element) → drop (string_length (leading_string (leading_bytes es))) es ≡ separator (needs_separator (leading_string (leading_bytes es))) ++ behind → ⊥) → (t : List ℕ) → HasBody Square t body → ⊥
no_separator text es body l some other t stood =
    let b = begins text t es body l stood in
    let others = some_strings (needs_separator (leading_string (leading_bytes es))) b.more (λ e. some (b.rest ∙ e)) in
    other (body_of b.more) (b.rest ∙ separator_more (needs_separator (leading_string (leading_bytes es))) b.more others)

-- what is gathered up to a place
pub record Gathered (body : List Element) (place at : ℕ) (bytes : List ℕ) : Type 0 where
  pub within : at ≤ length body
  pub size : place + length bytes ≡ at
  pub bytes_are : leading_bytes (drop place body) ≡ bytes ++ leading_bytes (drop at body)

pub none_gathered : (body : List Element) (place : ℕ) → place ≤ length body → Gathered body place place []
none_gathered body place within = record { within = within; size = omega arith; bytes_are = refl }

pub more_gathered : (body : List Element) (place at b : ℕ) (bytes : List ℕ) → Gathered body place at bytes → at < length body → leading_bytes (drop at body) ≡ b ∷ leading_bytes (drop (at + 1) body)
    → Gathered body place (at + 1) (bytes ++ b ∷ [])
more_gathered body place at b bytes g within is = record {
  within = omega arith;
  size = let s = g.size in omega (arith, length-append bytes (b ∷ []));
  bytes_are = g.bytes_are ∙ ap (λ (t : List ℕ). bytes ++ t) is ∙ sym (append_assoc bytes (b ∷ []) (leading_bytes (drop (at + 1) body)));
}

pub all_gathered : (body : List Element) (place at : ℕ) (bytes : List ℕ) → Gathered body place at bytes → leading_bytes (drop at body) ≡ [] → bytes ≡ leading_bytes (drop place body)
all_gathered body place at bytes g none = sym (g.bytes_are ∙ ap (λ (t : List ℕ). bytes ++ t) none ∙ append-nil bytes)

pub bytes_byte : (es : List Element) (at c : ℕ) → slice_get es at ≡ Some (Byte c) → leading_bytes (drop at es) ≡ c ∷ leading_bytes (drop (at + 1) es)
unfolding leading_bytes
bytes_byte es at c is = ap leading_bytes (drop_here es at (Byte c) is)

pub bytes_fnc1 : (es : List Element) (at : ℕ) → slice_get es at ≡ Some Fnc1 → leading_bytes (drop at es) ≡ []
unfolding leading_bytes
bytes_fnc1 es at is = ap leading_bytes (drop_here es at Fnc1 is)

pub bytes_eci : (es : List Element) (at n : ℕ) → slice_get es at ≡ Some (Eci n) → leading_bytes (drop at es) ≡ []
unfolding leading_bytes
bytes_eci es at n is = ap leading_bytes (drop_here es at (Eci n) is)

pub bytes_end : (es : List Element) (at : ℕ) → length es ≤ at → leading_bytes (drop at es) ≡ []
unfolding leading_bytes
bytes_end es at past = ap leading_bytes (drop_all at es past)

-- what is shown up to a place
pub record Showing (text : List ℕ) (place : ℕ) (body : List Element) : Type 0 where
  pub within : place ≤ length body
  pub left : Left text (drop place body) body

pub not_over : (es : List Element) (at : ℕ) → at < length es → drop at es ≡ [] → ⊥
not_over es at within none = let none : length (drop at es) ≡ 0 = ap (λ (t : List Element). length t) none in omega (arith, length-drop at es)

pub further : (body : List Element) (place n : ℕ) → drop n (drop place body) ≡ drop (place + n) body
further body place n = drop-drop n place body

pub separator_here : (es : List Element) (end : ℕ) (o : Bool) → o ≡ true → slice_get es end ≡ Some Fnc1 → drop end es ≡ separator o ++ drop (end + 1) es
separator_here es end o owed is = drop_here es end Fnc1 is ∙ ap (λ t. separator t ++ drop (end + 1) es) (sym owed)

pub separator_missing : (es : List Element) (end : ℕ) (o : Bool) (behind : List Element) → o ≡ true → end < length es → (slice_get es end ≡ Some Fnc1 → ⊥) → drop end es ≡ separator o ++ behind → ⊥
separator_missing es end o behind owed within other is =
    let parts : get_or es end Fnc1 ∷ drop (suc end) es ≡ Fnc1 ∷ behind = sym (drop-cons es end Fnc1 within) ∙ is ∙ ap (λ t. separator t ++ behind) owed in
    let here : get_or es end Fnc1 ≡ Fnc1 = cc in
    other (slice_get-get_or es end Fnc1 within ∙ ap (λ (e : Element). Some e) here)

pub bytes_none : (es : List Element) (at : ℕ) → slice_get es at ≡ None → leading_bytes (drop at es) ≡ []
bytes_none es at none = elim (cases_lt at (length es)) [
  | inl within ↦ let some = slice_get-get_or es at Fnc1 within in cc
  | inr past ↦ bytes_end es at past
]

pub byte_here : (es : List Element) (at c : ℕ) → slice_get es at ≡ Some (Byte c) → (leading_bytes (drop at es) ≡ c ∷ leading_bytes (drop (at + 1) es)) × (at < length es)
byte_here es at c is = (bytes_byte es at c is, slice_get_within es at (Byte c) is)

pub leading_fits : (bs : List ℕ) → string_length (leading_string bs) ≤ length bs
leading_fits bs =
    let f = string_front bs in
    let whole = ap (λ (t : List ℕ). length t) f.1 in
    omega (arith, length-append ((leading_string bs).identifier ++ (leading_string bs).value) f.0, length-append (leading_string bs).identifier (leading_string bs).value)

behind_is : (body : List Element) (place end : ℕ) → end ≡ place + string_length (string_at body place) → drop (string_length (string_at body place)) (drop place body) ≡ drop end body
behind_is body place end e = further body place (string_length (string_at body place)) ∙ ap (λ n. drop n body) (sym e)

pub shown_last : (text longer : List ℕ) (place end : ℕ) (body : List Element) → Showing text place body → IsElementString Square (string_at body place) → longer ≡ text ++ string_text Square (string_at body place)
    → end ≡ place + string_length (string_at body place) → length body ≤ end → HasBody Square longer body × ((t : List ℕ) → HasBody Square t body → t ≡ longer)
shown_last text longer place end body s string is e past =
    let none = behind_is body place end e ∙ drop_all end body past in
    (subst (λ (t : List ℕ). HasBody Square t body) (sym is) (last_left text (drop place body) body s.left string none), λ t stood. last_only text (drop place body) body s.left none t stood ∙ sym is)

pub shown_stop : (text : List ℕ) (place end : ℕ) (o : Bool) (body : List Element) → Showing text place body → o ≡ needs_separator (string_at body place) → end ≡ place + string_length (string_at body place) → end < length body
    → ((behind : List Element) → drop end body ≡ separator o ++ behind → ⊥) → (t : List ℕ) → HasBody Square t body → ⊥
shown_stop text place end o body s owed e within other =
    no_separator text (drop place body) body s.left (λ none. not_over body end within (sym (behind_is body place end e) ∙ none))
    (λ behind is. other behind (sym (behind_is body place end e) ∙ is ∙ ap (λ t. separator t ++ behind) (sym owed)))

pub shown_more : (text longer : List ℕ) (place end next : ℕ) (o : Bool) (body : List Element) → Showing text place body → IsElementString Square (string_at body place) → longer ≡ text ++ string_text Square (string_at body place)
    → o ≡ needs_separator (string_at body place) → end ≡ place + string_length (string_at body place) → end < length body → drop end body ≡ separator o ++ drop next body → next ≤ length body → Showing longer next body
shown_more text longer place end next o body s string is owed e within found there = record {
  within = there;
  left = subst (λ (t : List ℕ). Left t (drop next body) body) (sym is) (next_left text (drop place body) body (drop next body) s.left string
      (λ none. not_over body end within (sym (behind_is body place end e) ∙ none)) (behind_is body place end e ∙ found ∙ ap (λ t. separator t ++ drop next body) owed));
}

pub shown_less : (body : List Element) (place end next : ℕ) → IsElementString Square (string_at body place) → end ≡ place + string_length (string_at body place) → end ≤ next → place < next
shown_less body place end next string e later = let long = identifier_long (string_at body place) string in omega arith
