-- A proper message is told by its elements and by whether it has a header.
use Rattle.std.proofs.Common.{◌≡◌, ℕ, zero, suc, ◌+◌, ◌<◌, ◌≤◌, Bool, true, false, List, [], ◌∷◌, ◌++◌, length, refl, sym, ap, subst, ◌∙◌, arith}
use Rattle.std.specs.Prelude.{Option, Some, None, is_some, IfSome, All}
use Rattle.std.proofs.lemmas.List.{append_assoc}
use Rattle.std.proofs.lemmas.List.Elements.{All-head, All-tail}
use Rattle.bar_base.specs.declared.element.Element.{Element}
use Rattle.bar_base.specs.declared.element.Element.TheVariants as element
use Rattle.bar_base.specs.declared.message.Append.{Append}
use Rattle.bar_base.specs.declared.message.Message.{Message}
use Rattle.aztec_modes.specs.Entry.{bytes_as_elements}
use Rattle.aztec_modes.specs.Message.{identifier_bytes, header_bytes, header_elements, gs1_elements, eci_elements, message_elements}
use Rattle.aztec_modes.specs.Reading.{IsHeader, IsProper}

-- Two parts and two rests.
pub record SameBoth {A : Type 0} (a a' : A) (rest rest' : List Element) : Type 0 where
  pub part : a ≡ a'
  pub others : rest ≡ rest'

-- An identifier ends at the first space.
ids_once : (id id' : List ℕ) (rest rest' : List Element) → All (λ byte. (33 ≤ byte) × (byte ≤ 126)) id → All (λ byte. (33 ≤ byte) × (byte ≤ 126)) id'
    → bytes_as_elements id ++ element.Byte 32 ∷ rest ≡ bytes_as_elements id' ++ element.Byte 32 ∷ rest' → SameBoth id id' rest rest'
unfolding bytes_as_elements
ids_once [] [] rest rest' all all' same = record { part = refl; others = cc }
ids_once [] (b ∷ id') rest rest' all all' same =
    let low = All-head (λ byte. (33 ≤ byte) × (byte ≤ 126)) b id' all' in
    let e : 32 ≡ b = cc in absurd (omega (arith, low.0, e))
ids_once (a ∷ id) [] rest rest' all all' same =
    let low = All-head (λ byte. (33 ≤ byte) × (byte ≤ 126)) a id all in
    let e : a ≡ 32 = cc in absurd (omega (arith, low.0, e))
ids_once (a ∷ id) (b ∷ id') rest rest' all all' same =
    let head : a ≡ b = cc in
    let more : SameBoth id id' rest rest' =
    ids_once id id' rest rest' (All-tail (λ byte. (33 ≤ byte) × (byte ≤ 126)) a id all) (All-tail (λ byte. (33 ≤ byte) × (byte ≤ 126)) b id' all') (cc) in
    record { part = ap (λ (x : ℕ). x ∷ id) head ∙ ap (λ (xs : List ℕ). b ∷ xs) more.part; others = more.others }

bytes_as_elements-append : (xs ys : List ℕ) → bytes_as_elements (xs ++ ys) ≡ bytes_as_elements xs ++ bytes_as_elements ys
unfolding bytes_as_elements
bytes_as_elements-append [] ys = refl
bytes_as_elements-append (x ∷ xs) ys = ap (λ (es : List Element). element.Byte x ∷ es) (bytes_as_elements-append xs ys)

-- The elements of a header whose identifier is empty, and of one with an identifier.
pub header-plain : (index count : ℕ) (rest : List Element) → header_elements (Some (record { index = index; count = count; id = [] })) ++ rest
    ≡ element.Byte (64 + index) ∷ element.Byte (64 + count) ∷ rest
unfolding header_elements header_bytes identifier_bytes bytes_as_elements
header-plain index count rest = refl

pub header-named : (index count a : ℕ) (id : List ℕ) (rest : List Element) → header_elements (Some (record { index = index; count = count; id = a ∷ id })) ++ rest
    ≡ element.Byte 32 ∷ (bytes_as_elements (a ∷ id) ++ element.Byte 32 ∷ (element.Byte (64 + index) ∷ element.Byte (64 + count) ∷ rest))
unfolding header_elements header_bytes identifier_bytes bytes_as_elements
header-named index count a id rest =
    ap (λ (es : List Element). es ++ rest) (bytes_as_elements-append (32 ∷ (a ∷ id) ++ 32 ∷ []) ((64 + index) ∷ (64 + count) ∷ [])
    ∙ ap (λ (es : List Element). es ++ bytes_as_elements ((64 + index) ∷ (64 + count) ∷ [])) (bytes_as_elements-append (32 ∷ a ∷ id) (32 ∷ [])))
    ∙ append_assoc (bytes_as_elements (32 ∷ a ∷ id) ++ bytes_as_elements (32 ∷ [])) (bytes_as_elements ((64 + index) ∷ (64 + count) ∷ [])) rest
    ∙ append_assoc (bytes_as_elements (32 ∷ a ∷ id)) (bytes_as_elements (32 ∷ [])) (bytes_as_elements ((64 + index) ∷ (64 + count) ∷ []) ++ rest)

made_of : (i c : ℕ) (id : List ℕ) → Append
made_of i c id = record { index = i; count = c; id = id }

letters_once : (i c i' c' : ℕ) (id id' : List ℕ) (rest rest' : List Element) → id ≡ id'
    → element.Byte (64 + i) ∷ element.Byte (64 + c) ∷ rest ≡ element.Byte (64 + i') ∷ element.Byte (64 + c') ∷ rest'
    → SameBoth (made_of i c id) (made_of i' c' id') rest rest'
letters_once i c i' c' id id' rest rest' ids same =
    let first : 64 + i ≡ 64 + i' = cc in
    let second : 64 + c ≡ 64 + c' = cc in
    let fi : i ≡ i' = omega arith in
    let fc : c ≡ c' = omega arith in
    record {
      part = ap (λ (x : ℕ). made_of x c id) fi ∙ ap (λ (x : ℕ). made_of i' x id) fc ∙ ap (λ (xs : List ℕ). made_of i' c' xs) ids;
      others = cc;
    }

-- Elements begin with one header.
pub header_once : (append append' : Append) (rest rest' : List Element) → IsHeader append → IsHeader append'
    → header_elements (Some append) ++ rest ≡ header_elements (Some append') ++ rest' → SameBoth append append' rest rest'
unfolding made_of
header_once append append' rest rest' header header' same =
    by_parts append.index append.count append.id append'.index append'.count append'.id header header' same
  where
    by_parts : (i c : ℕ) (id : List ℕ) (i' c' : ℕ) (id' : List ℕ) → IsHeader (record { index = i; count = c; id = id }) → IsHeader (record { index = i'; count = c'; id = id' })
        → header_elements (Some (record { index = i; count = c; id = id })) ++ rest ≡ header_elements (Some (record { index = i'; count = c'; id = id' })) ++ rest'
        → SameBoth (made_of i c id) (made_of i' c' id') rest rest'
    by_parts i c [] i' c' [] h h' s = letters_once i c i' c' [] [] rest rest' refl (sym (header-plain i c rest) ∙ s ∙ header-plain i' c' rest')
    by_parts i c [] i' c' (b ∷ id') h h' s =
        let both = sym (header-plain i c rest) ∙ s ∙ header-named i' c' b id' rest' in
        let e : 64 + i ≡ 32 = cc in absurd (omega (arith, e))
    by_parts i c (a ∷ id) i' c' [] h h' s =
        let both = sym (header-named i c a id rest) ∙ s ∙ header-plain i' c' rest' in
        let e : 32 ≡ 64 + i' = cc in absurd (omega (arith, e))
    by_parts i c (a ∷ id) i' c' (b ∷ id') h h' s =
        let both = sym (header-named i c a id rest) ∙ s ∙ header-named i' c' b id' rest' in
        let ids : SameBoth (a ∷ id) (b ∷ id') (element.Byte (64 + i) ∷ element.Byte (64 + c) ∷ rest) (element.Byte (64 + i') ∷ element.Byte (64 + c') ∷ rest') =
        ids_once (a ∷ id) (b ∷ id') (element.Byte (64 + i) ∷ element.Byte (64 + c) ∷ rest) (element.Byte (64 + i') ∷ element.Byte (64 + c') ∷ rest') h.identifier h'.identifier (cc) in
        letters_once i c i' c' (a ∷ id) (b ∷ id') rest rest' ids.part ids.others

message_of : (append : Option Append) (gs1 : Bool) (eci : Option ℕ) (body : List Element) → Message
message_of append gs1 eci body = record { append = append; gs1 = gs1; eci = eci; body = body }

-- The ECI and the body.
eci_once : (eci eci' : Option ℕ) (body body' : List Element)
    → (eci ≡ None → (number : ℕ) (rest : List Element) → body ≡ element.Eci number ∷ rest → ⊥)
    → (eci' ≡ None → (number : ℕ) (rest : List Element) → body' ≡ element.Eci number ∷ rest → ⊥)
    → eci_elements eci ++ body ≡ eci_elements eci' ++ body' → SameBoth eci eci' body body'
unfolding eci_elements
eci_once None None body body' none none' same = record { part = refl; others = same }
eci_once (Some n) (Some n') body body' none none' same = record { part = cc; others = cc }
eci_once None (Some n') body body' none none' same = absurd (none refl n' body' same)
eci_once (Some n) None body body' none none' same = absurd (none' refl n body (sym same))

-- FNC1 and what follows.
gs1_once : (gs1 gs1' : Bool) (more more' : List Element)
    → (gs1 ≡ false → (rest : List Element) → more ≡ element.Fnc1 ∷ rest → ⊥) → (gs1' ≡ false → (rest : List Element) → more' ≡ element.Fnc1 ∷ rest → ⊥)
    → gs1_elements gs1 ++ more ≡ gs1_elements gs1' ++ more' → SameBoth gs1 gs1' more more'
unfolding gs1_elements
gs1_once false false more more' none none' same = record { part = refl; others = same }
gs1_once true true more more' none none' same = record { part = refl; others = cc }
gs1_once false true more more' none none' same = absurd (none refl more' same)
gs1_once true false more more' none none' same = absurd (none' refl more (sym same))

-- The header, where there is one.
append_once : (append append' : Option Append) (more more' : List Element) → is_some append ≡ is_some append'
    → IfSome append IsHeader → IfSome append' IsHeader
    → header_elements append ++ more ≡ header_elements append' ++ more' → SameBoth append append' more more'
unfolding header_elements
append_once None None more more' kind h h' same = record { part = refl; others = same }
append_once (Some a) (Some a') more more' kind h h' same =
    let both = header_once a a' more more' h h' same in
    record { part = ap (λ (x : Append). Some x) both.part; others = both.others }
append_once None (Some a') more more' kind h h' same = absurd (cc)
append_once (Some a) None more more' kind h h' same = absurd (cc)

-- A proper message is told by its elements and by whether it has a header.
pub proper_once : (message message' : Message) → IsProper message → IsProper message' → is_some message.append ≡ is_some message'.append
    → message_elements message ≡ message_elements message' → message ≡ message'
unfolding message_elements message_of
proper_once message message' proper proper' kind same =
    let appends = append_once message.append message'.append (gs1_elements message.gs1 ++ (eci_elements message.eci ++ message.body))
    (gs1_elements message'.gs1 ++ (eci_elements message'.eci ++ message'.body)) kind proper.header proper'.header same in
    let gs1s = gs1_once message.gs1 message'.gs1 (eci_elements message.eci ++ message.body) (eci_elements message'.eci ++ message'.body) proper.gs1 proper'.gs1 appends.others in
    let ecis = eci_once message.eci message'.eci message.body message'.body proper.eci proper'.eci gs1s.others in
    ap (λ (x : Option Append). message_of x message.gs1 message.eci message.body) appends.part
    ∙ ap (λ (x : Bool). message_of message'.append x message.eci message.body) gs1s.part
    ∙ ap (λ (x : Option ℕ). message_of message'.append message'.gs1 x message.body) ecis.part
    ∙ ap (λ (x : List Element). message_of message'.append message'.gs1 message'.eci x) ecis.others
