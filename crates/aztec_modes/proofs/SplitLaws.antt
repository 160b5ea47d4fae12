-- The header that is computed is the one that elements begin with.
use Rattle.std.proofs.Common.{◌≡◌, ℕ, zero, suc, ◌+◌, ◌-◌, ◌<◌, ◌≤◌, Bool, true, false, ◌&&◌, List, [], ◌∷◌, ◌++◌, length, drop, slice_get, refl, sym, ap, subst, ◌∙◌, arith}
use Rattle.std.specs.Prelude.{Option, Some, None, All, nat_le, ◌==◌, if◌then◌else◌, is_some, IfSome}
use Rattle.std.proofs.lemmas.Bool.{and_parts, cond-true, cond-false, eqb-true, eq-eqb, leb-true, le-leb, cases_lt}
use Rattle.std.proofs.lemmas.Bool.Decides.{nat_tests}
use Rattle.std.proofs.lemmas.List.{append_assoc, append-nil, drop_at, drop-drop, drop_all, length-append, length-drop}
use Rattle.std.proofs.lemmas.List.Elements.{All-nil, All-cons, All-head, All-tail}
use Rattle.std.proofs.lemmas.Option.{slice_get_past, slice_get_within}
use Rattle.bar_base.proofs.ListLemmas.{drop_here}
use Rattle.bar_base.specs.declared.element.Element.{Element}
use Rattle.bar_base.specs.declared.element.Element.TheVariants as element
use Rattle.bar_base.specs.declared.message.Append.{Append}
use Rattle.bar_base.specs.declared.message.Message.{Message}
use Rattle.aztec_modes.specs.Entry.{bytes_as_elements}
use Rattle.aztec_modes.specs.Message.{IsAppendPlace, header_elements, header_bytes, identifier_bytes, gs1_elements, eci_elements}
use Rattle.aztec_modes.specs.Reading.{IsHeader, NoHeader, SplitsSo}
use Rattle.aztec_modes.specs.Split.{as_byte, element_byte_at, as_id, id_in, ids_from, ids_in, are_letters, letters_of, letters_in, is_space, named_by, header_in, header_length, is_fnc1, as_eci, part_size, place_of}
use Rattle.aztec_modes.proofs.EntryLaws.{length-bytes_as_elements}
use Rattle.aztec_modes.proofs.ProperMessages.{header-plain, header-named}

-- ELEMENTS FROM A PLACE ON

front : List Element → Option Element
front [] = None
front (x ∷ xs) = Some x

slice_front : (at : ℕ) (es : List Element) → slice_get es at ≡ front (drop at es)
unfolding front
slice_front zero [] = refl
slice_front zero (e ∷ es) = refl
slice_front (suc at) [] = refl
slice_front (suc at) (e ∷ es) = slice_front at es

-- An item at a place stands in front of what follows, and the other way round.
item_there : (es : List Element) (at : ℕ) (e : Element) (rest : List Element) → drop at es ≡ e ∷ rest → slice_get es at ≡ Some e
unfolding front
item_there es at e rest is = slice_front at es ∙ ap front is

rest_there : (es : List Element) (at : ℕ) (e : Element) (rest : List Element) → drop at es ≡ e ∷ rest → drop (at + 1) es ≡ rest
rest_there es at e rest is = sym (drop-drop 1 at es) ∙ ap (drop 1) is

byte_found : (o : Option Element) (byte : ℕ) → as_byte o ≡ Some byte → o ≡ Some (element.Byte byte)
unfolding as_byte
byte_found None byte s = absurd (cc)
byte_found (Some (element.Byte b)) byte s = ap (λ (n : ℕ). Some (element.Byte n)) (let e : b ≡ byte = cc in e)
byte_found (Some (element.Eci n)) byte s = absurd (cc)
byte_found (Some element.Fnc1) byte s = absurd (cc)

byte_here : (es : List Element) (at byte : ℕ) → element_byte_at es at ≡ Some byte → drop at es ≡ element.Byte byte ∷ drop (at + 1) es
unfolding element_byte_at
byte_here es at byte is = drop_here es at (element.Byte byte) (byte_found (slice_get es at) byte is)

byte_there : (es : List Element) (at byte : ℕ) (rest : List Element) → drop at es ≡ element.Byte byte ∷ rest → element_byte_at es at ≡ Some byte
unfolding element_byte_at as_byte
byte_there es at byte rest is = ap as_byte (item_there es at (element.Byte byte) rest is)

-- IDENTIFIERS

IsId : ℕ → Type 0
IsId byte = (33 ≤ byte) × (byte ≤ 126)

id_found : (o : Option ℕ) (byte : ℕ) → as_id o ≡ Some byte → (o ≡ Some byte) × (33 ≤ byte) × (byte ≤ 126)
unfolding as_id
id_found None byte s = absurd (cc)
id_found (Some b) byte s = by_test (nat_le 33 b && nat_le b 126) refl s
  where
    by_test : (t : Bool) → (nat_le 33 b && nat_le b 126) ≡ t → (if t then Some b else None) ≡ Some byte → (Some b ≡ Some byte) × (33 ≤ byte) × (byte ≤ 126)
    by_test true t is =
        let parts = and_parts (nat_le 33 b) (nat_le b 126) t in
        let same : b ≡ byte = cc in
        (is, omega (arith, same, leb-true 33 b parts.0), omega (arith, same, leb-true b 126 parts.1))
    by_test false t is = absurd (cc)

record IdsHere (most : ℕ) (es : List Element) (at : ℕ) (id : List ℕ) : Type 0 where
  splits : drop at es ≡ bytes_as_elements id ++ drop (at + length id) es
  each : All (λ byte. (33 ≤ byte) × (byte ≤ 126)) id
  few : length id ≤ most

ids_here_by : (most : ℕ) (es : List Element) (at : ℕ) (o : Option ℕ) (more : List ℕ) → id_in es at ≡ o → IdsHere most es (at + 1) more → IdsHere (suc most) es at (ids_from o more)
unfolding ids_from id_in bytes_as_elements
ids_here_by most es at None more is h = record { splits = ap (λ (n : ℕ). drop n es) (let e : at ≡ at + 0 = omega arith in e); each = All-nil (λ byte. (33 ≤ byte) × (byte ≤ 126)); few = omega arith }
ids_here_by most es at (Some byte) more is h =
    let found = id_found (element_byte_at es at) byte is in
    record {
      splits = byte_here es at byte found.0 ∙ ap (λ (xs : List Element). element.Byte byte ∷ xs) (h.splits ∙ ap (λ (n : ℕ). bytes_as_elements more ++ drop n es) (let e : at + 1 + length more ≡ at + suc (length more) = omega arith in e));
      each = All-cons (λ b. (33 ≤ b) × (b ≤ 126)) byte more (found.1, found.2) h.each;
      few = omega (arith, h.few);
    }

ids_here : (most : ℕ) (es : List Element) (at : ℕ) → IdsHere most es at (ids_in most es at)
unfolding ids_in bytes_as_elements
ids_here zero es at = record { splits = ap (λ (n : ℕ). drop n es) (let e : at ≡ at + 0 = omega arith in e); each = All-nil (λ byte. (33 ≤ byte) × (byte ≤ 126)); few = omega arith }
ids_here (suc most) es at = ids_here_by most es at (id_in es at) (ids_in most es (at + 1)) refl (ids_here most es (at + 1))

id_there : (byte : ℕ) → 33 ≤ byte → byte ≤ 126 → as_id (Some byte) ≡ Some byte
unfolding as_id
id_there byte low high = grind (arith, nat_tests)

no_id : as_id (Some 32) ≡ None
unfolding as_id
no_id = refl

ids_there : (most : ℕ) (es : List Element) (at : ℕ) (id : List ℕ) (rest : List Element) → All (λ byte. (33 ≤ byte) × (byte ≤ 126)) id → length id ≤ most
    → drop at es ≡ bytes_as_elements id ++ element.Byte 32 ∷ rest → ids_in most es at ≡ id
unfolding ids_in ids_from id_in bytes_as_elements
ids_there zero es at [] rest each few is = refl
ids_there zero es at (byte ∷ id) rest each few is = absurd (omega (arith, few))
ids_there (suc most) es at [] rest each few is =
    ap (λ (o : Option ℕ). ids_from (as_id o) (ids_in most es (at + 1))) (byte_there es at 32 rest is) ∙ ap (λ (o : Option ℕ). ids_from o (ids_in most es (at + 1))) no_id
ids_there (suc most) es at (byte ∷ id) rest each few is =
    let own = All-head (λ b. (33 ≤ b) × (b ≤ 126)) byte id each in
    ap (λ (o : Option ℕ). ids_from (as_id o) (ids_in most es (at + 1))) (byte_there es at byte (bytes_as_elements id ++ element.Byte 32 ∷ rest) is)
    ∙ ap (λ (o : Option ℕ). ids_from o (ids_in most es (at + 1))) (id_there byte own.0 own.1)
    ∙ ap (λ (ids : List ℕ). byte ∷ ids)
    (ids_there most es (at + 1) id rest (All-tail (λ b. (33 ≤ b) × (b ≤ 126)) byte id each) (omega (arith, few)) (rest_there es at (element.Byte byte) (bytes_as_elements id ++ element.Byte 32 ∷ rest) is))

-- LETTERS

record LettersHere (id : List ℕ) (es : List Element) (at : ℕ) (append : Append) : Type 0 where
  first : ℕ
  second : ℕ
  splits : drop at es ≡ element.Byte first ∷ element.Byte second ∷ drop (at + 2) es
  low : 65 ≤ first
  order : first ≤ second
  some : 66 ≤ second
  high : second ≤ 90
  is : append ≡ place_of id first second

letters_here : (id : List ℕ) (es : List Element) (at : ℕ) (append : Append) → letters_in id es at ≡ Some append → LettersHere id es at append
unfolding letters_in letters_of are_letters
letters_here id es at append found = by_bytes (element_byte_at es at) (element_byte_at es (at + 1)) refl refl found
  where
    by_test : (first second : ℕ) (t : Bool) → are_letters first second ≡ t → element_byte_at es at ≡ Some first → element_byte_at es (at + 1) ≡ Some second
        → (if t then Some (place_of id first second) else None) ≡ Some append → LettersHere id es at append
    by_test first second false t b b' is = absurd (cc)
    by_test first second true t b b' is =
        let one = and_parts (nat_le 65 first) (nat_le first second && (nat_le 66 second && nat_le second 90)) t in
        let two = and_parts (nat_le first second) (nat_le 66 second && nat_le second 90) one.1 in
        let three = and_parts (nat_le 66 second) (nat_le second 90) two.1 in
        record {
          first = first;
          second = second;
          splits = byte_here es at first b ∙ ap (λ (xs : List Element). element.Byte first ∷ xs)
              (byte_here es (at + 1) second b' ∙ ap (λ (n : ℕ). element.Byte second ∷ drop n es) (let e : at + 1 + 1 ≡ at + 2 = omega arith in e));
          low = leb-true 65 first one.0;
          order = leb-true first second two.0;
          some = leb-true 66 second three.0;
          high = leb-true second 90 three.1;
          is = let e : place_of id first second ≡ append = cc in sym e;
        }

    by_bytes : (o o' : Option ℕ) → element_byte_at es at ≡ o → element_byte_at es (at + 1) ≡ o' → letters_of id o o' ≡ Some append → LettersHere id es at append
    by_bytes None o' b b' is = absurd (cc)
    by_bytes (Some first) None b b' is = absurd (cc)
    by_bytes (Some first) (Some second) b b' is = by_test first second (are_letters first second) refl b b' is

letters_there : (id : List ℕ) (es : List Element) (at i c : ℕ) (rest : List Element) → 1 ≤ i → i ≤ c → 2 ≤ c → c ≤ 26
    → drop at es ≡ element.Byte (64 + i) ∷ element.Byte (64 + c) ∷ rest → letters_in id es at ≡ Some (record { index = i; count = c; id = id })
unfolding letters_in letters_of are_letters
letters_there id es at i c rest low order some high is =
    ap (λ (o : Option ℕ). letters_of id o (element_byte_at es (at + 1))) (byte_there es at (64 + i) (element.Byte (64 + c) ∷ rest) is)
    ∙ ap (letters_of id (Some (64 + i))) (byte_there es (at + 1) (64 + c) rest (rest_there es at (element.Byte (64 + i)) (element.Byte (64 + c) ∷ rest) is))
    ∙ cond-true (are_letters (64 + i) (64 + c)) (Some (place_of id (64 + i) (64 + c))) None (letters i c low order some high)
    ∙ ap (λ (n : ℕ). Some (place n (64 + c - 64))) (let e : 64 + i - 64 ≡ i = omega arith in e)
    ∙ ap (λ (n : ℕ). Some (place i n)) (let e : 64 + c - 64 ≡ c = omega arith in e)
  where
    place : ℕ → ℕ → Append
    place n m = record { index = n; count = m; id = id }

    letters : (i c : ℕ) → 1 ≤ i → i ≤ c → 2 ≤ c → c ≤ 26 → are_letters (64 + i) (64 + c) ≡ true
    letters i c low order some high = grind (arith, nat_tests)

-- HEADERS

space_found : (o : Option ℕ) → is_space o ≡ true → o ≡ Some 32
unfolding is_space
space_found None is = absurd (cc)
space_found (Some byte) is = ap Some (eqb-true byte 32 is)

-- A header that stands in front.
pub record HeaderHere (es : List Element) (append : Append) : Type 0 where
  pub header : IsHeader append
  pub splits : es ≡ header_elements (Some append) ++ drop (header_length append.id) es

made : (i c : ℕ) (id : List ℕ) → Append
made i c id = record { index = i; count = c; id = id }

letters_header : (id : List ℕ) (es : List Element) (at : ℕ) (append : Append) → All (λ byte. (33 ≤ byte) × (byte ≤ 126)) id → length id ≤ 32
    → (h : LettersHere id es at append) → IsHeader (place_of id h.first h.second)
letters_header id es at append each few h = record {
  place = record {
    from_one = omega (arith, h.low);
    to_count = omega (arith, h.order, h.low);
    some = omega (arith, h.some);
    letters = omega (arith, h.high, h.some);
  };
  identifier = each;
  short = few;
}

back : (n : ℕ) → 65 ≤ n → 64 + (n - 64) ≡ n
back n low = omega (arith, low)

header_here_plain : (es : List Element) (append : Append) → letters_in [] es 0 ≡ Some append → HeaderHere es append
unfolding header_length
header_here_plain es append is =
    let h = letters_here [] es 0 append is in
    subst (λ (a : Append). HeaderHere es a) (sym h.is) (record {
      header = letters_header [] es 0 append (All-nil (λ byte. (33 ≤ byte) × (byte ≤ 126))) (omega arith) h;
      splits = h.splits ∙ ap (λ (n : ℕ). element.Byte n ∷ element.Byte h.second ∷ drop 2 es) (sym (back h.first h.low))
          ∙ ap (λ (n : ℕ). element.Byte (64 + (h.first - 64)) ∷ element.Byte n ∷ drop 2 es) (sym (back h.second (omega (arith, h.some))))
          ∙ sym (header-plain (h.first - 64) (h.second - 64) (drop 2 es));
    })

header_here_named : (es : List Element) (a : ℕ) (id : List ℕ) (append : Append) → element_byte_at es 0 ≡ Some 32 → IdsHere 32 es 1 (a ∷ id)
    → named_by (a ∷ id) es ≡ Some append → HeaderHere es append
unfolding header_length named_by
header_here_named es a id append space ids is = by_test (is_space (element_byte_at es (length (a ∷ id) + 1))) refl is
  where
    by_test : (t : Bool) → is_space (element_byte_at es (length (a ∷ id) + 1)) ≡ t → (if t then letters_in (a ∷ id) es (length (a ∷ id) + 2) else None) ≡ Some append → HeaderHere es append
    by_test false t s = absurd (cc)
    by_test true t s =
        let h = letters_here (a ∷ id) es (length (a ∷ id) + 2) append s in
        let behind : drop (length (a ∷ id) + 1) es ≡ element.Byte 32 ∷ drop (length (a ∷ id) + 1 + 1) es = byte_here es (length (a ∷ id) + 1) 32 (space_found (element_byte_at es (length (a ∷ id) + 1)) t) in
        let whole : es ≡ element.Byte 32 ∷ (bytes_as_elements (a ∷ id) ++ element.Byte 32 ∷ (element.Byte h.first ∷ element.Byte h.second ∷ drop (length (a ∷ id) + 4) es)) =
        byte_here es 0 32 space
        ∙ ap (λ (xs : List Element). element.Byte 32 ∷ xs) (ids.splits
        ∙ ap (λ (n : ℕ). bytes_as_elements (a ∷ id) ++ drop n es) (let e : 1 + length (a ∷ id) ≡ length (a ∷ id) + 1 = omega arith in e)
        ∙ ap (λ (xs : List Element). bytes_as_elements (a ∷ id) ++ xs) (behind
        ∙ ap (λ (n : ℕ). element.Byte 32 ∷ drop n es) (let e : length (a ∷ id) + 1 + 1 ≡ length (a ∷ id) + 2 = omega arith in e)
        ∙ ap (λ (xs : List Element). element.Byte 32 ∷ xs) (h.splits
        ∙ ap (λ (n : ℕ). element.Byte h.first ∷ element.Byte h.second ∷ drop n es) (let e : length (a ∷ id) + 2 + 2 ≡ length (a ∷ id) + 4 = omega arith in e)))) in
        subst (λ (x : Append). HeaderHere es x) (sym h.is) (record {
          header = letters_header (a ∷ id) es (length (a ∷ id) + 2) append ids.each ids.few h;
          splits = whole
              ∙ ap (λ (n : ℕ). element.Byte 32 ∷ (bytes_as_elements (a ∷ id) ++ element.Byte 32 ∷ (element.Byte n ∷ element.Byte h.second ∷ drop (length (a ∷ id) + 4) es))) (sym (back h.first h.low))
              ∙ ap (λ (n : ℕ). element.Byte 32 ∷ (bytes_as_elements (a ∷ id) ++ element.Byte 32 ∷ (element.Byte (64 + (h.first - 64)) ∷ element.Byte n ∷ drop (length (a ∷ id) + 4) es))) (sym (back h.second (omega (arith, h.some))))
              ∙ sym (header-named (h.first - 64) (h.second - 64) a id (drop (length (a ∷ id) + 4) es));
        })

-- The header that is computed stands in front.
pub header_here : (es : List Element) (append : Append) → header_in es ≡ Some append → HeaderHere es append
unfolding header_in named_by
header_here es append is = by_test (is_space (element_byte_at es 0)) refl is
  where
    by_ids : (id : List ℕ) → IdsHere 32 es 1 id → element_byte_at es 0 ≡ Some 32 → named_by id es ≡ Some append → HeaderHere es append
    by_ids [] ids space s = absurd (cc)
    by_ids (a ∷ id) ids space s = header_here_named es a id append space ids s

    by_test : (t : Bool) → is_space (element_byte_at es 0) ≡ t → (if t then named_by (ids_in 32 es 1) es else letters_in [] es 0) ≡ Some append → HeaderHere es append
    by_test true t s = by_ids (ids_in 32 es 1) (ids_here 32 es 1) (space_found (element_byte_at es 0) t) s
    by_test false t s = header_here_plain es append s

-- A header that stands in front is computed.
pub header_there : (append : Append) (rest es : List Element) → IsHeader append → es ≡ header_elements (Some append) ++ rest → header_in es ≡ Some append
unfolding header_in named_by is_space
header_there append rest es header is = by_parts append.index append.count append.id header is
  where
    by_parts : (i c : ℕ) (id : List ℕ) → IsHeader (record { index = i; count = c; id = id }) → es ≡ header_elements (Some (record { index = i; count = c; id = id })) ++ rest
        → header_in es ≡ Some (record { index = i; count = c; id = id })
    by_parts i c [] h s =
        let whole : es ≡ element.Byte (64 + i) ∷ element.Byte (64 + c) ∷ rest = s ∙ header-plain i c rest in
        ap (λ (o : Option ℕ). if is_space o then named_by (ids_in 32 es 1) es else letters_in [] es 0) (byte_there es 0 (64 + i) (element.Byte (64 + c) ∷ rest) whole)
        ∙ cond-false (64 + i == 32) (named_by (ids_in 32 es 1) es) (letters_in [] es 0) (no_space i)
        ∙ letters_there [] es 0 i c rest h.place.from_one h.place.to_count h.place.some h.place.letters whole
      where
        no_space : (i : ℕ) → (64 + i == 32) ≡ false
        no_space i = grind (arith, nat_tests)
    by_parts i c (a ∷ id) h s =
        let more : List Element = element.Byte (64 + i) ∷ element.Byte (64 + c) ∷ rest in
        let whole : es ≡ element.Byte 32 ∷ (bytes_as_elements (a ∷ id) ++ element.Byte 32 ∷ (element.Byte (64 + i) ∷ element.Byte (64 + c) ∷ rest)) = s ∙ header-named i c a id rest in
        let from_one : drop 1 es ≡ bytes_as_elements (a ∷ id) ++ element.Byte 32 ∷ (element.Byte (64 + i) ∷ element.Byte (64 + c) ∷ rest) = ap (drop 1) whole in
        let ids : ids_in 32 es 1 ≡ a ∷ id = ids_there 32 es 1 (a ∷ id) (element.Byte (64 + i) ∷ element.Byte (64 + c) ∷ rest) h.identifier h.short from_one in
        let behind : drop (length (a ∷ id) + 1) es ≡ element.Byte 32 ∷ (element.Byte (64 + i) ∷ element.Byte (64 + c) ∷ rest) =
        ap (λ (n : ℕ). drop n es) (let e : length (a ∷ id) + 1 ≡ 1 + length (a ∷ id) = omega arith in e) ∙ sym (drop-drop (length (a ∷ id)) 1 es) ∙ ap (drop (length (a ∷ id))) from_one
        ∙ drop_at (bytes_as_elements (a ∷ id)) (element.Byte 32 ∷ (element.Byte (64 + i) ∷ element.Byte (64 + c) ∷ rest)) (length (a ∷ id)) (length-bytes_as_elements (a ∷ id)) in
        let at_letters : drop (length (a ∷ id) + 2) es ≡ element.Byte (64 + i) ∷ element.Byte (64 + c) ∷ rest =
        ap (λ (n : ℕ). drop n es) (let e : length (a ∷ id) + 2 ≡ length (a ∷ id) + 1 + 1 = omega arith in e)
        ∙ rest_there es (length (a ∷ id) + 1) (element.Byte 32) (element.Byte (64 + i) ∷ element.Byte (64 + c) ∷ rest) behind in
        ap (λ (o : Option ℕ). if is_space o then named_by (ids_in 32 es 1) es else letters_in [] es 0)
        (byte_there es 0 32 (bytes_as_elements (a ∷ id) ++ element.Byte 32 ∷ (element.Byte (64 + i) ∷ element.Byte (64 + c) ∷ rest)) whole)
        ∙ ap (λ (xs : List ℕ). named_by xs es) ids
        ∙ ap (λ (o : Option ℕ). if is_space o then letters_in (a ∷ id) es (length (a ∷ id) + 2) else None)
        (byte_there es (length (a ∷ id) + 1) 32 (element.Byte (64 + i) ∷ element.Byte (64 + c) ∷ rest) behind)
        ∙ letters_there (a ∷ id) es (length (a ∷ id) + 2) i c rest h.place.from_one h.place.to_count h.place.some h.place.letters at_letters

-- FNC1 AND ECI

fnc1_found : (o : Option Element) → is_fnc1 o ≡ true → o ≡ Some element.Fnc1
unfolding is_fnc1
fnc1_found None is = absurd (cc)
fnc1_found (Some (element.Byte b)) is = absurd (cc)
fnc1_found (Some (element.Eci n)) is = absurd (cc)
fnc1_found (Some element.Fnc1) is = refl

eci_found : (o : Option Element) (number : ℕ) → as_eci o ≡ Some number → o ≡ Some (element.Eci number)
unfolding as_eci
eci_found None number is = absurd (cc)
eci_found (Some (element.Byte b)) number is = absurd (cc)
eci_found (Some (element.Eci n)) number is = ap (λ (m : ℕ). Some (element.Eci m)) (let e : n ≡ number = cc in e)
eci_found (Some element.Fnc1) number is = absurd (cc)

no_fnc1 : (es : List Element) (at : ℕ) (rest : List Element) → is_fnc1 (slice_get es at) ≡ false → drop at es ≡ element.Fnc1 ∷ rest → ⊥
unfolding is_fnc1
no_fnc1 es at rest is here = let e : is_fnc1 (slice_get es at) ≡ true = ap is_fnc1 (item_there es at element.Fnc1 rest here) in cc

no_eci : (es : List Element) (at number : ℕ) (rest : List Element) → as_eci (slice_get es at) ≡ None → drop at es ≡ element.Eci number ∷ rest → ⊥
unfolding as_eci
no_eci es at number rest is here = let e : as_eci (slice_get es at) ≡ Some number = ap as_eci (item_there es at (element.Eci number) rest here) in cc

part_within : (es : List Element) (at : ℕ) (b : Bool) (e : Element) → at ≤ length es → (b ≡ true → slice_get es at ≡ Some e) → at + part_size b ≤ length es
unfolding part_size
part_within es at true e within there = let h : at < length es = slice_get_within es at e (there refl) in omega (arith, h)
part_within es at false e within there = omega (arith, within)

-- FNC1 that is found is inside.
pub fnc1_within : (es : List Element) (at after : ℕ) (gs1 : Bool) → at ≤ length es → gs1 ≡ is_fnc1 (slice_get es at) → after ≡ at + part_size gs1 → after ≤ length es
fnc1_within es at after gs1 within is after_is =
    omega (arith, after_is, part_within es at gs1 element.Fnc1 within (λ h. fnc1_found (slice_get es at) (sym is ∙ h)))

-- An ECI that is found is inside.
pub eci_within : (es : List Element) (at after : ℕ) (eci : Option ℕ) → at ≤ length es → eci ≡ as_eci (slice_get es at) → after ≡ at + part_size (is_some eci) → after ≤ length es
unfolding part_size
eci_within es at after None within is after_is = omega (arith, after_is, within)
eci_within es at after (Some number) within is after_is =
    let h : at < length es = slice_get_within es at (element.Eci number) (eci_found (slice_get es at) number (sym is)) in omega (arith, after_is, h)

fnc1_part : (es : List Element) (at after : ℕ) (gs1 : Bool) → gs1 ≡ is_fnc1 (slice_get es at) → after ≡ at + part_size gs1 → drop at es ≡ gs1_elements gs1 ++ drop after es
unfolding gs1_elements part_size
fnc1_part es at after true is after_is = drop_here es at element.Fnc1 (fnc1_found (slice_get es at) (sym is)) ∙ ap (λ (n : ℕ). element.Fnc1 ∷ drop n es) (sym after_is)
fnc1_part es at after false is after_is = ap (λ (n : ℕ). drop n es) (let e : at ≡ after = omega (arith, after_is) in e)

eci_part : (es : List Element) (at after : ℕ) (eci : Option ℕ) → eci ≡ as_eci (slice_get es at) → after ≡ at + part_size (is_some eci) → drop at es ≡ eci_elements eci ++ drop after es
unfolding eci_elements part_size
eci_part es at after (Some number) is after_is = drop_here es at (element.Eci number) (eci_found (slice_get es at) number (sym is)) ∙ ap (λ (n : ℕ). element.Eci number ∷ drop n es) (sym after_is)
eci_part es at after None is after_is = ap (λ (n : ℕ). drop n es) (let e : at ≡ after = omega (arith, after_is) in e)

-- FNC1, ECI and body as they are taken.
pub split_here : (es : List Element) (at after last : ℕ) (append : Option Append) (gs1 : Bool) (eci : Option ℕ) (body : List Element)
    → gs1 ≡ is_fnc1 (slice_get es at) → after ≡ at + part_size gs1 → eci ≡ as_eci (slice_get es after) → last ≡ after + part_size (is_some eci) → body ≡ drop last es
    → SplitsSo (record { append = append; gs1 = gs1; eci = eci; body = body }) (drop at es)
unfolding part_size
split_here es at after last append gs1 eci body is after_is is' last_is body_is =
    let more : drop after es ≡ eci_elements eci ++ body = eci_part es after last eci is' last_is ∙ ap (λ (xs : List Element). eci_elements eci ++ xs) (sym body_is) in
    record {
      whole = fnc1_part es at after gs1 is after_is ∙ ap (λ (xs : List Element). gs1_elements gs1 ++ xs) more;
      gs1 = λ off rest here. no_fnc1 es at rest (sym is ∙ off)
          (ap (λ (n : ℕ). drop n es) (let size : part_size gs1 ≡ 0 = ap part_size off in let e : at ≡ after = omega (arith, after_is, size) in e) ∙ more ∙ here);
      eci = λ none number rest here. no_eci es after number rest (sym is' ∙ none)
          (ap (λ (n : ℕ). drop n es) (let size : part_size (is_some eci) ≡ 0 = ap (λ (o : Option ℕ). part_size (is_some o)) none in let e : after ≡ last = omega (arith, last_is, size) in e) ∙ sym body_is ∙ here);
    }
