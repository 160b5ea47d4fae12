-- The four lines of a message tell it.
use Rattle.std.proofs.Common.{◌≡◌, ℕ, ◌+◌, ◌-◌, ◌*◌, ◌/◌, ◌%◌, ◌<◌, ◌≤◌, ◌^◌, ◌==◌, ◌&&◌, List, [], ◌∷◌, ◌++◌, Bool, true, false, All, IfSome, Option, Some, None, length, get_or, nat_le, nat_lt, decimal, codes, if◌then◌else◌, refl, ap, sym, subst, arith, ◌∙◌, ◌⊎◌, inl, inr}
use Rattle.std.specs.List.{flat_map}
use Rattle.std.specs.Char.{digit_value}
use Rattle.std.specs.Str.Parse.{AllDigits}
use Rattle.std.proofs.lemmas.Bool.{cases_lt, eqb-true}
use Rattle.std.proofs.lemmas.Bool.Decides.{nat_tests}
use Rattle.std.proofs.lemmas.Fmt.{decimal_injective, decimal_is_IsNumeral}
use Rattle.std.proofs.lemmas.List.{append-nil, append_assoc, append_cancel_left, append_cancel_right, get_or_past}
use Rattle.std.proofs.lemmas.List.Elements.{All-get_or, All-head, All-tail}
use Rattle.bar_base.specs.Elements.{IsElement}
use Rattle.bar_base.specs.declared.element.Element.{Element}
use Rattle.bar_base.specs.declared.element.Element.TheVariants.{Byte, Eci, Fnc1}
use Rattle.bar_base.specs.declared.message.Append.{Append}
use Rattle.bar_base.specs.declared.message.Message.{Message}
use Rattle.input_escapes.specs.Escapes.{escaped, hexadecimal}
use Rattle.input_escapes.specs.Texts.{StandsFor}
use Rattle.input_escapes.proofs.Undoing.{escaped_piece, written_stands}
use Rattle.input_escapes.proofs.Uniqueness.{only_bytes}
use Rattle.zint_read.specs.ReadReport.{HasSameLines, HoldsNumbers, append_line, append_text, body_text, body_line, digit_for, eci_line, eci_text, element_text, escaped_bytes, fnc1_line, identifier_text, place_text, six_digits}

-- what stands between the same front and the same end
between : (front x y back : List ℕ) → front ++ (x ++ back) ≡ front ++ (y ++ back) → x ≡ y
between front x y back same = append_cancel_right x y back (append_cancel_left front (x ++ back) (y ++ back) same)

-- Bytes that begin with no decimal digit.
NoDigitAhead : List ℕ → Type 0
NoDigitAhead [] = Unit {0}
NoDigitAhead (byte ∷ bytes) = nat_lt (digit_value byte) 10 ≡ false

-- Two lists that are the same in both parts.
SameParts : (xs ys s t : List ℕ) → Type 0
SameParts xs ys s t = (xs ≡ ys) × (s ≡ t)

front_of : List ℕ → ℕ
front_of [] = 0
front_of (byte ∷ bytes) = byte

rest_of : List ℕ → List ℕ
rest_of [] = []
rest_of (byte ∷ bytes) = bytes

-- a byte that is a digit is not one that is none
differs : (byte digit : ℕ) → byte ≡ digit → nat_lt (digit_value byte) 10 ≡ false → digit_value digit < 10 → ⊥
differs byte digit same lacks below = by_value (digit_value byte) lacks (subst (λ (n : ℕ). digit_value n < 10) (sym same) below)
  where
    by_value : (n : ℕ) → nat_lt n 10 ≡ false → n < 10 → ⊥
    by_value n lacks below = grind (arith, nat_tests)

-- digits end where no digit stands
same_digits : (xs ys s t : List ℕ) → AllDigits 10 xs → AllDigits 10 ys → NoDigitAhead s → NoDigitAhead t → xs ++ s ≡ ys ++ t → SameParts xs ys s t
unfolding NoDigitAhead SameParts front_of rest_of
same_digits [] [] s t digits others here there same = (refl, same)
same_digits [] (y ∷ ys) [] t digits others here there same = cc
same_digits [] (y ∷ ys) (b ∷ s) t digits others here there same = absurd (differs b y (ap front_of same) here others.0)
same_digits (x ∷ xs) [] s [] digits others here there same = cc
same_digits (x ∷ xs) [] s (b ∷ t) digits others here there same = absurd (differs b x (sym (ap front_of same)) there digits.0)
same_digits (x ∷ xs) (y ∷ ys) s t digits others here there same =
    let e : x ≡ y = ap front_of same in
    let more = same_digits xs ys s t digits.1 others.1 here there (ap rest_of same) in
    (ap (λ (n : ℕ). n ∷ xs) e ∙ ap (λ (ns : List ℕ). y ∷ ns) more.0, more.1)

-- the digits of a number
decimal_digits : (n : ℕ) → n < 2 ^ 64 → AllDigits 10 (decimal n)
decimal_digits n fits = (decimal_is_IsNumeral n fits).0.1

-- a hyphen begins no number
hyphen_begins : (n : ℕ) (rest : List ℕ) → n < 2 ^ 64 → 45 ∷ [] ≡ decimal n ++ rest → ⊥
unfolding front_of
hyphen_begins n rest fits same = by_digits (decimal n) (decimal_is_IsNumeral n fits).0.0 (decimal_digits n fits) same
  where
    low : (b : ℕ) → 45 ≡ b → digit_value b < 10 → ⊥
    low b is below = (let e : digit_value 45 < 10 = subst (λ (n : ℕ). digit_value n < 10) (sym is) below in grind (arith, nat_tests))

    by_digits : (ds : List ℕ) → 0 < length ds → AllDigits 10 ds → 45 ∷ [] ≡ ds ++ rest → ⊥
    by_digits [] some all is = omega (arith, some)
    by_digits (b ∷ ds) some all is = low b (ap front_of is) all.0

-- the line `fnc1=`
same_fnc1 : (one other : Bool) → fnc1_line one ≡ fnc1_line other → one ≡ other
unfolding fnc1_line
same_fnc1 true true same = refl
same_fnc1 true false same = cc
same_fnc1 false true same = cc
same_fnc1 false false same = refl

-- the line `eci=`
same_eci_text : (one other : Option ℕ) → IfSome one (λ n. n < 2 ^ 32) → IfSome other (λ n. n < 2 ^ 32) → eci_text one ≡ eci_text other → one ≡ other
same_eci_text None None few low same = refl
same_eci_text None (Some n) few low same = absurd (hyphen_begins n [] (omega (arith, low)) (same ∙ sym (append-nil (decimal n))))
same_eci_text (Some n) None few low same = absurd (hyphen_begins n [] (omega (arith, few)) (sym same ∙ sym (append-nil (decimal n))))
same_eci_text (Some n) (Some m) few low same = ap (λ (k : ℕ). Some k) (decimal_injective n m (omega (arith, few)) (omega (arith, low)) same)

same_eci : (one other : Option ℕ) → IfSome one (λ n. n < 2 ^ 32) → IfSome other (λ n. n < 2 ^ 32) → eci_line one ≡ eci_line other → one ≡ other
unfolding eci_line
same_eci one other few low same = same_eci_text one other few low (between (codes "eci=") (eci_text one) (eci_text other) (codes "\n") same)

-- the identifier of a set
each_small : (bytes : List ℕ) → All (λ byte. byte < 256) bytes → (i : ℕ) → get_or bytes i 0 < 256
each_small bytes all i = by_place (cases_lt i (length bytes))
  where
    by_place : (i < length bytes) ⊎ (length bytes ≤ i) → get_or bytes i 0 < 256
    by_place (inl inside) = All-get_or (λ (byte : ℕ). byte < 256) bytes i 0 inside all
    by_place (inr past) = (let e : get_or bytes i 0 ≡ 0 = get_or_past bytes i 0 past in omega (arith, e))

same_escaped : (one other : List ℕ) → All (λ byte. byte < 256) one → All (λ byte. byte < 256) other → escaped_bytes one ≡ escaped_bytes other → one ≡ other
same_escaped one other small few same =
    only_bytes (escaped_bytes one) one other (written_stands escaped one escaped_piece (each_small one small))
    (subst (λ (text : List ℕ). StandsFor text other) (sym same) (written_stands escaped other escaped_piece (each_small other few)))

same_identifier : (one other : List ℕ) → All (λ byte. byte < 256) one → All (λ byte. byte < 256) other → identifier_text one ≡ identifier_text other → one ≡ other
unfolding identifier_text
same_identifier [] [] small few same = refl
same_identifier [] (b ∷ other) small few same = cc
same_identifier (b ∷ one) [] small few same = cc
same_identifier (b ∷ one) (d ∷ other) small few same =
    same_escaped (b ∷ one) (d ∷ other) small few (append_cancel_left (codes ",") (escaped_bytes (b ∷ one)) (escaped_bytes (d ∷ other)) same)

no_digit_ahead : (id : List ℕ) → NoDigitAhead (identifier_text id)
unfolding NoDigitAhead identifier_text
no_digit_ahead [] = tt
no_digit_ahead (b ∷ id) = refl

append_with : (index count : ℕ) → List ℕ → Append
append_with index count id = record { index = index; count = count; id = id }

-- the line `append=`
HoldsPlace : Append → Type 0
HoldsPlace append = (append.index < 256) × (append.count < 256) × All (λ byte. byte < 256) append.id

place_parts : (append : Append) → place_text append ≡ decimal append.index ++ (codes "," ++ (decimal append.count ++ identifier_text append.id))
place_parts append =
    append_assoc (decimal append.index ++ codes ",") (decimal append.count) (identifier_text append.id)
    ∙ append_assoc (decimal append.index) (codes ",") (decimal append.count ++ identifier_text append.id)

same_place : (one other : Append) → HoldsPlace one → HoldsPlace other → place_text one ≡ place_text other → one ≡ other
unfolding NoDigitAhead HoldsPlace append_with SameParts
same_place one other small few same =
    let first = same_digits (decimal one.index) (decimal other.index) (codes "," ++ (decimal one.count ++ identifier_text one.id)) (codes "," ++ (decimal other.count ++ identifier_text other.id))
    (decimal_digits one.index (omega (arith, small.0))) (decimal_digits other.index (omega (arith, few.0))) refl refl (sym (place_parts one) ∙ same ∙ place_parts other) in
    let second = same_digits (decimal one.count) (decimal other.count) (identifier_text one.id) (identifier_text other.id)
    (decimal_digits one.count (omega (arith, small.1))) (decimal_digits other.count (omega (arith, few.1))) (no_digit_ahead one.id) (no_digit_ahead other.id)
    (append_cancel_left (codes ",") (decimal one.count ++ identifier_text one.id) (decimal other.count ++ identifier_text other.id) first.1) in
    let index : one.index ≡ other.index = decimal_injective one.index other.index (omega (arith, small.0)) (omega (arith, few.0)) first.0 in
    let count : one.count ≡ other.count = decimal_injective one.count other.count (omega (arith, small.1)) (omega (arith, few.1)) second.0 in
    let id : one.id ≡ other.id = same_identifier one.id other.id small.2 few.2 second.1 in
    ap (λ (n : ℕ). append_with n one.count one.id) index ∙ ap (λ (n : ℕ). append_with other.index n one.id) count
    ∙ ap (λ (bytes : List ℕ). append_with other.index other.count bytes) id

same_append_text : (one other : Option Append) → IfSome one HoldsPlace → IfSome other HoldsPlace → append_text one ≡ append_text other → one ≡ other
unfolding HoldsPlace
same_append_text None None small few same = refl
same_append_text None (Some append) small few same =
    absurd (hyphen_begins append.index (codes "," ++ (decimal append.count ++ identifier_text append.id)) (omega (arith, few.0)) (same ∙ place_parts append))
same_append_text (Some append) None small few same =
    absurd (hyphen_begins append.index (codes "," ++ (decimal append.count ++ identifier_text append.id)) (omega (arith, small.0)) (sym same ∙ place_parts append))
same_append_text (Some one) (Some other) small few same = ap (λ (append : Append). Some append) (same_place one other small few same)

same_append : (one other : Option Append) → IfSome one HoldsPlace → IfSome other HoldsPlace → append_line one ≡ append_line other → one ≡ other
unfolding append_line
same_append one other small few same =
    same_append_text one other small few (between (codes "append=") (append_text one) (append_text other) (codes "\n") same)

-- the element in front of a text, and what is behind it
digit_number : ℕ → ℕ
digit_number c = if nat_lt c 58 then c - 48 else c - 55

front_number : List ℕ → Element × List ℕ
front_number (a ∷ b ∷ c ∷ d ∷ e ∷ f ∷ rest) = (
  Eci ((((((a - 48) * 10 + (b - 48)) * 10 + (c - 48)) * 10 + (d - 48)) * 10 + (e - 48)) * 10 + (f - 48)),
  rest,
)
front_number short = (Fnc1, [])

front_byte : List ℕ → Element × List ℕ
front_byte (a ∷ b ∷ rest) = (Byte (16 * digit_number a + digit_number b), rest)
front_byte short = (Fnc1, [])

behind_backslash : List ℕ → Element × List ℕ
behind_backslash [] = (Fnc1, [])
behind_backslash (letter ∷ rest) =
    if letter == 92 then (Byte 92, rest) else (if letter == 70 then (Fnc1, rest) else (if letter == 75 then front_number rest else front_byte rest))

front_element : List ℕ → Element × List ℕ
front_element [] = (Fnc1, [])
front_element (byte ∷ rest) = if byte == 92 then behind_backslash rest else (Byte byte, rest)

digit_back : (d : ℕ) → d < 16 → digit_number (hexadecimal d) ≡ d
unfolding digit_number
digit_back d below = grind (arith, nat_tests)

byte_back : (byte : ℕ) (rest : List ℕ) → byte < 256 → front_element (escaped byte ++ rest) ≡ (Byte byte, rest)
unfolding escaped front_element behind_backslash front_byte
byte_back byte rest below = elim (byte == 92) as (λ (is : Bool). (byte == 92) ≡ is
    → front_element ((if is then 92 ∷ 92 ∷ [] else (if nat_le 32 byte && nat_le byte 126 then byte ∷ [] else 92 ∷ 120 ∷ hexadecimal (byte / 16) ∷ hexadecimal (byte % 16) ∷ [])) ++ rest) ≡ (Byte byte, rest)) [
      | true ↦ λ is. ap (λ (n : ℕ). (Byte n, rest)) (sym (eqb-true byte 92 is))
      | false ↦ λ differs. elim (nat_le 32 byte && nat_le byte 126) as (λ (shown : Bool).
          front_element ((if shown then byte ∷ [] else 92 ∷ 120 ∷ hexadecimal (byte / 16) ∷ hexadecimal (byte % 16) ∷ []) ++ rest) ≡ (Byte byte, rest)) [
            | true ↦ ap (λ (is : Bool). if is then behind_backslash rest else (Byte byte, rest)) differs
            | false ↦ ap (λ (n : ℕ). (Byte n, rest)) whole
          ]
    ] refl
  where
    whole : 16 * digit_number (hexadecimal (byte / 16)) + digit_number (hexadecimal (byte % 16)) ≡ byte
    whole = (let high = digit_back (byte / 16) (omega (arith, below)) in let low = digit_back (byte % 16) (omega arith) in omega (arith, high, low))

number_back : (number : ℕ) (rest : List ℕ) → number ≤ 999999 → front_number (six_digits number ++ rest) ≡ (Eci number, rest)
unfolding front_number six_digits
number_back number rest few = ap (λ (n : ℕ). (Eci n, rest)) whole
  where
    whole : (((((digit_for number 100000 - 48) * 10 + (digit_for number 10000 - 48)) * 10 + (digit_for number 1000 - 48)) * 10 + (digit_for number 100 - 48)) * 10
        + (digit_for number 10 - 48)) * 10 + (digit_for number 1 - 48) ≡ number
    whole = omega (arith, few)

element_back : (element : Element) (rest : List ℕ) → IsElement element → front_element (element_text element ++ rest) ≡ (element, rest)
unfolding element_text front_element behind_backslash
element_back (Byte byte) rest valid = byte_back byte rest valid
element_back (Eci number) rest valid = number_back number rest valid
element_back Fnc1 rest valid = refl

-- no element has an empty text
some_text : (element : Element) (rest : List ℕ) → IsElement element → element_text element ++ rest ≡ [] → ⊥
unfolding element_text front_element
some_text (Byte byte) rest valid none =
    let e : Byte byte ≡ Fnc1 = ap (λ (p : Element × List ℕ). p.0) (sym (byte_back byte rest valid) ∙ ap front_element none) in cc
some_text (Eci number) rest valid none = cc
some_text Fnc1 rest valid none = cc

-- the line `data=`
same_body : (one other : List Element) → All IsElement one → All IsElement other → flat_map element_text one ≡ flat_map element_text other → one ≡ other
same_body [] [] valid whole same = refl
same_body [] (e ∷ other) valid whole same =
    absurd (some_text e (flat_map element_text other) (All-head IsElement e other whole) (sym same))
same_body (e ∷ one) [] valid whole same =
    absurd (some_text e (flat_map element_text one) (All-head IsElement e one valid) same)
same_body (e ∷ one) (f ∷ other) valid whole same =
    let pair : (e, flat_map element_text one) ≡ (f, flat_map element_text other) =
    sym (element_back e (flat_map element_text one) (All-head IsElement e one valid)) ∙ ap front_element same ∙ element_back f (flat_map element_text other) (All-head IsElement f other whole) in
    let here : e ≡ f = ap (λ (p : Element × List ℕ). p.0) pair in
    let more : one ≡ other = same_body one other (All-tail IsElement e one valid) (All-tail IsElement f other whole) (ap (λ (p : Element × List ℕ). p.1) pair) in
    ap (λ (x : Element). x ∷ one) here ∙ ap (λ (xs : List Element). f ∷ xs) more

same_data : (one other : List Element) → All IsElement one → All IsElement other → body_line one ≡ body_line other → one ≡ other
unfolding body_line body_text
same_data one other valid whole same =
    same_body one other valid whole (between (codes "data=") (flat_map element_text one) (flat_map element_text other) (codes "\n") same)

message_with : Option Append → Bool → Option ℕ → List Element → Message
message_with append gs1 eci body = record { append = append; gs1 = gs1; eci = eci; body = body }

-- Two messages with the same four lines are equal.
pub one_message : (one other : Message) → HoldsNumbers one → HoldsNumbers other → HasSameLines one other → one ≡ other
unfolding message_with HoldsPlace
one_message one other small few same =
    ap (λ (append : Option Append). message_with append one.gs1 one.eci one.body) (same_append one.append other.append small.place few.place same.append)
    ∙ ap (λ (gs1 : Bool). message_with other.append gs1 one.eci one.body) (same_fnc1 one.gs1 other.gs1 same.fnc1)
    ∙ ap (λ (eci : Option ℕ). message_with other.append other.gs1 eci one.body) (same_eci one.eci other.eci small.eci few.eci same.eci)
    ∙ ap (λ (body : List Element). message_with other.append other.gs1 other.eci body) (same_data one.body other.body small.body few.body same.body)
