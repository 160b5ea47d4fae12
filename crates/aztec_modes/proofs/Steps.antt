-- One more element of a list, and what it adds to elements and to bits.
use Rattle.std.proofs.Common.{◌≡◌, ℕ, ◌+◌, ◌<◌, List, [], ◌∷◌, ◌++◌, Bool, length, take, drop, get_or, slice_get, Some, refl, sym, ap, ◌∙◌, arith}
use Rattle.std.proofs.lemmas.List.{append_assoc, append-nil, take_all, take_more, get_or-drop, length-drop}
use Rattle.std.proofs.lemmas.Option.{get_or_from_slice_get}
use Rattle.bar_base.specs.Bits.{to_bits}
use Rattle.bar_base.specs.declared.element.Element.{Element}
use Rattle.bar_base.specs.declared.element.Element.TheVariants as element
use Rattle.aztec_modes.specs.Entry.{bytes_as_elements, element_bits, element_byte}
use Rattle.aztec_modes.specs.Message.{identifier_bytes}

pub bytes_as_elements-push : (bytes : List ℕ) (byte : ℕ) → bytes_as_elements (bytes ++ byte ∷ []) ≡ bytes_as_elements bytes ++ element.Byte byte ∷ []
unfolding bytes_as_elements
bytes_as_elements-push [] byte = refl
bytes_as_elements-push (first ∷ bytes) byte = ap (λ (es : List Element). element.Byte first ∷ es) (bytes_as_elements-push bytes byte)

bytes_as_elements-append : (former latter : List ℕ) → bytes_as_elements (former ++ latter) ≡ bytes_as_elements former ++ bytes_as_elements latter
unfolding bytes_as_elements
bytes_as_elements-append [] latter = refl
bytes_as_elements-append (byte ∷ former) latter = ap (λ (es : List Element). element.Byte byte ∷ es) (bytes_as_elements-append former latter)

-- Two bytes more.
two_more : (front : List Element) (bytes : List ℕ) (a b : ℕ)
    → ((front ++ bytes_as_elements bytes) ++ element.Byte a ∷ []) ++ element.Byte b ∷ [] ≡ front ++ bytes_as_elements (bytes ++ a ∷ b ∷ [])
unfolding bytes_as_elements
two_more front bytes a b =
    append_assoc (front ++ bytes_as_elements bytes) (element.Byte a ∷ []) (element.Byte b ∷ [])
    ∙ append_assoc front (bytes_as_elements bytes) (element.Byte a ∷ element.Byte b ∷ [])
    ∙ ap (λ (es : List Element). front ++ es) (sym (bytes_as_elements-append bytes (a ∷ b ∷ [])))

-- An identifier between two spaces.
identifier_between : (front : List Element) (id : List ℕ) → (id ≡ [] → ⊥)
    → ((front ++ element.Byte 32 ∷ []) ++ bytes_as_elements id) ++ element.Byte 32 ∷ [] ≡ front ++ bytes_as_elements (identifier_bytes id)
unfolding identifier_bytes bytes_as_elements
identifier_between front [] there = absurd (there refl)
identifier_between front (byte ∷ id) there =
    append_assoc (front ++ element.Byte 32 ∷ []) (bytes_as_elements (byte ∷ id)) (element.Byte 32 ∷ [])
    ∙ append_assoc front (element.Byte 32 ∷ []) (bytes_as_elements (byte ∷ id) ++ element.Byte 32 ∷ [])
    ∙ ap (λ (es : List Element). front ++ (element.Byte 32 ∷ es)) (sym (bytes_as_elements-append (byte ∷ id) (32 ∷ [])))

-- The elements after a space, an identifier and a space are put behind others.
pub identifier_put : (a b d e : List Element) (id : List ℕ) → (id ≡ [] → ⊥) → b ≡ a ++ element.Byte 32 ∷ [] → d ≡ b ++ bytes_as_elements id
    → e ≡ d ++ element.Byte 32 ∷ [] → e ≡ a ++ bytes_as_elements (identifier_bytes id)
identifier_put a b d e id there first second third =
    third ∙ ap (λ (es : List Element). es ++ element.Byte 32 ∷ []) (second ∙ ap (λ (es : List Element). es ++ bytes_as_elements id) first)
    ∙ identifier_between a id there

-- The elements after an identifier and two letters are put behind others.
pub header_put : (a b d e : List Element) (bytes : List ℕ) (index count : ℕ) → b ≡ a ++ bytes_as_elements bytes → d ≡ b ++ element.Byte index ∷ []
    → e ≡ d ++ element.Byte count ∷ [] → e ≡ a ++ bytes_as_elements (bytes ++ index ∷ count ∷ [])
header_put a b d e bytes index count first second third =
    third ∙ ap (λ (es : List Element). es ++ element.Byte count ∷ []) (second ∙ ap (λ (es : List Element). es ++ element.Byte index ∷ []) first)
    ∙ two_more a bytes index count

pub element_bits-push : (es : List Element) (e : Element) → element_bits (es ++ e ∷ []) ≡ element_bits es ++ to_bits 8 (element_byte e)
unfolding element_bits
element_bits-push [] e = append-nil (to_bits 8 (element_byte e))
element_bits-push (first ∷ es) e =
    ap (λ (bits : List Bool). to_bits 8 (element_byte first) ++ bits) (element_bits-push es e)
    ∙ sym (append_assoc (to_bits 8 (element_byte first)) (element_bits es) (to_bits 8 (element_byte e)))

-- One byte more of a list of bytes.
pub bytes_more : (a b d : List Element) (bytes : List ℕ) (i : ℕ) → i < length bytes → b ≡ a ++ bytes_as_elements (take i bytes)
    → d ≡ b ++ element.Byte (get_or bytes i 0) ∷ [] → d ≡ a ++ bytes_as_elements (take (i + 1) bytes)
bytes_more a b d bytes i below so_far pushed =
    pushed ∙ ap (λ (es : List Element). es ++ element.Byte (get_or bytes i 0) ∷ []) so_far
    ∙ append_assoc a (bytes_as_elements (take i bytes)) (element.Byte (get_or bytes i 0) ∷ [])
    ∙ ap (λ (es : List Element). a ++ es) (sym (bytes_as_elements-push (take i bytes) (get_or bytes i 0)))
    ∙ ap (λ (xs : List ℕ). a ++ bytes_as_elements xs) (sym (take_more bytes i 0 below))

-- The byte of one element more.
pub element_more : (a b d : List Bool) (es : List Element) (i : ℕ) (e : Element) (byte : ℕ) → i < length es → b ≡ a ++ element_bits (take i es)
    → byte ≡ element_byte (get_or es i e) → d ≡ b ++ to_bits 8 byte → d ≡ a ++ element_bits (take (i + 1) es)
element_more a b d es i e byte below so_far is pushed =
    pushed ∙ ap (λ (xs : List Bool). xs ++ to_bits 8 byte) so_far
    ∙ append_assoc a (element_bits (take i es)) (to_bits 8 byte)
    ∙ ap (λ (n : ℕ). a ++ (element_bits (take i es) ++ to_bits 8 n)) is
    ∙ ap (λ (xs : List Bool). a ++ xs) (sym (element_bits-push (take i es) (get_or es i e)))
    ∙ ap (λ (xs : List Element). a ++ element_bits xs) (sym (take_more es i e below))

pub ruleset push_steps = (bytes_as_elements-push, element_bits-push, append_assoc, append-nil, take_all)
