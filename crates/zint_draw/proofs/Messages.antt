-- Messages, their elements and their characters.
use Rattle.std.proofs.Common.{◌≡◌, ℕ, suc, ◌+◌, ◌<◌, ◌≤◌, ◌==◌, ◌||◌, List, [], ◌∷◌, ◌++◌, Bool, true, false, All, map, Option, Some, None, Result, Err, IfSome, is_some, length, take, get_or, find, nat_le, if◌then◌else◌, ap, sym, subst, refl, arith, ◌∙◌, unwrap_or}
use Rattle.std.specs.List.{list_all, list_any}
use Rattle.std.specs.Option.{ForSome}
use Rattle.std.proofs.lemmas.Bool.{and_parts, eqb-true, leb-true}
use Rattle.std.proofs.lemmas.List.{length-append}
use Rattle.std.proofs.lemmas.List.Elements.{All-append, All-cons, All-nil}
use Rattle.std.proofs.lemmas.Option.{slice_get-get_or}
use Rattle.std.proofs.lemmas.Str.{utf8_valid_len-IsUtf8, utf8_valid_len_le}
use Rattle.bar_base.specs.declared.element.Element.{Element}
use Rattle.bar_base.specs.declared.element.Element.TheVariants as element
use Rattle.bar_base.specs.declared.message.Message.{Message}
use Rattle.bar_base.proofs.ListLemmas.{take_next}
use Rattle.aztec_modes.specs.Entry.{bytes_as_elements}
use Rattle.aztec_modes.specs.Message.{eci_elements, gs1_elements, header_elements, message_elements}
use Rattle.eci_sets.specs.CharacterSets.{set_numbered}
use Rattle.eci_sets.specs.Encodings.{Encoded, IsEncodedIn, chosen_eci, first_lacking, has_characters, joined_bytes, set_refusal, text_encoding, unless_lacking}
use Rattle.eci_sets.specs.declared.character_set.CharacterSet.{CharacterSet}
use Rattle.eci_sets.specs.declared.fault.SetFault.{SetFault}
use Rattle.eci_sets.specs.declared.fault.SetFault.TheVariants as set_variants
use Rattle.eci_sets.proofs.OneText.{one_text}
use Rattle.code128_best.specs.Spelling.{IsCode128Element}
use Rattle.gs1_check.specs.ElementStrings.{ElementString, HasBody, body_behind, gs1_refusal, needs_separator, separator, string_elements}
use Rattle.gs1_check.specs.declared.brackets.Brackets.{Brackets}
use Rattle.gs1_check.specs.declared.fault.Gs1Fault.{Gs1Fault}
use Rattle.gs1_check.specs.declared.fault.Gs1Fault.TheVariants as gs1_variants
use Rattle.zint_answers.specs.Steps.{Refuses, answered}
use Rattle.zint_answers.specs.declared.fault.Fault.{Fault}
use Rattle.zint_settings.specs.CharacterSets.{is_character_set}
use Rattle.zint_settings.specs.declared.character_sets.TheConstants.{CHARACTER_SETS}
use Rattle.zint_draw.specs.Message.{CanBeDrawn, IsKnownEci, gs1_fault, message_with}

-- one byte more is one element more
elements_push : (bytes : List ℕ) (byte : ℕ) → bytes_as_elements (bytes ++ byte ∷ []) ≡ bytes_as_elements bytes ++ element.Byte byte ∷ []
unfolding bytes_as_elements
elements_push [] byte = refl
elements_push (first ∷ bytes) byte = ap (λ rest. element.Byte first ∷ rest) (elements_push bytes byte)

pub elements_next : (bytes : List ℕ) (i : ℕ) → i < length bytes
    → bytes_as_elements (take (i + 1) bytes) ≡ bytes_as_elements (take i bytes) ++ element.Byte (get_or bytes i 0) ∷ []
elements_next bytes i inside =
    ap bytes_as_elements (take_next bytes i (get_or bytes i 0) (slice_get-get_or bytes i 0 inside)) ∙ elements_push (take i bytes) (get_or bytes i 0)

-- there are as many elements as bytes
elements_length : (bytes : List ℕ) → length (bytes_as_elements bytes) ≡ length bytes
unfolding bytes_as_elements
elements_length [] = refl
elements_length (byte ∷ bytes) = ap suc (elements_length bytes)

-- the sets that are known have whatever every one of them has
any_has : (p : ℕ → Bool) (sets : List ℕ) (n : ℕ) → list_all p sets ≡ true → list_any (λ set. set == n) sets ≡ true → p n ≡ true
any_has p [] n all is = cc
any_has p (set ∷ sets) n all is =
    let parts = and_parts (p set) (list_all p sets) all in
    elim (set == n) as (λ b. (set == n) ≡ b → (b || list_any (λ s. s == n) sets) ≡ true → p n ≡ true) [
      | true ↦ λ same found. ap p (sym (eqb-true set n same)) ∙ parts.0
      | false ↦ λ differs found. any_has p sets n parts.1 found
    ] refl is

known_has : (p : ℕ → Bool) (n : ℕ) → list_all p CHARACTER_SETS ≡ true → is_character_set n ≡ true → p n ≡ true
unfolding is_character_set
known_has p n all known = any_has p CHARACTER_SETS n all known

-- their numbers have few digits
pub few_known : (n : ℕ) → is_character_set n ≡ true → n ≤ 999999
few_known n known = leb-true n 999999 (known_has (λ set. nat_le set 999999) n refl known)

few_named : (eci : Option ℕ) → IsKnownEci eci → IfSome eci (λ number. number ≤ 999999)
few_named None known = tt
few_named (Some number) known = few_known number known

-- a message with bytes has an element
pub bytes_drawable : (eci : Option ℕ) (bytes : List ℕ) (message : Message) → message ≡ message_with false eci (bytes_as_elements bytes) → IsKnownEci eci
    → 0 < length bytes → CanBeDrawn message
unfolding message_elements header_elements gs1_elements
bytes_drawable eci bytes message is known some =
    subst CanBeDrawn (sym is) (
      record { place = tt; eci = few_named eci known },
      omega (arith, length-append (eci_elements eci) (bytes_as_elements bytes), elements_length bytes, some),
    )

-- and so has one of element strings, its FNC1
pub gs1_drawable : (body : List Element) → CanBeDrawn (message_with true None body)
unfolding message_elements header_elements gs1_elements
gs1_drawable body = (record { place = tt; eci = tt }, omega arith)

pub ruleset whole_characters = (utf8_valid_len-IsUtf8, utf8_valid_len_le)

-- a fault of element strings is one of the step
pub gs1_answered : (given : Result (List Element) Gs1Fault) (fault : Gs1Fault) (f : Fault) → f ≡ gs1_fault fault
    → IfSome (gs1_refusal fault) (λ refused. given ≡ Err refused) → Refuses (answered gs1_fault given) f
gs1_answered given gs1_variants.NoMemory f is gives = subst (Refuses (answered gs1_fault given)) (sym is) tt
gs1_answered given (gs1_variants.BadBracket place) f is gives = subst (Refuses (answered gs1_fault given)) (sym is) (gs1_variants.BadBracket place, gives, refl)
gs1_answered given (gs1_variants.UnknownIdentifier place) f is gives = subst (Refuses (answered gs1_fault given)) (sym is) (gs1_variants.UnknownIdentifier place, gives, refl)
gs1_answered given (gs1_variants.BadLength place) f is gives = subst (Refuses (answered gs1_fault given)) (sym is) (gs1_variants.BadLength place, gives, refl)
gs1_answered given (gs1_variants.BadCharacter place) f is gives = subst (Refuses (answered gs1_fault given)) (sym is) (gs1_variants.BadCharacter place, gives, refl)
gs1_answered given (gs1_variants.BadDate place) f is gives = subst (Refuses (answered gs1_fault given)) (sym is) (gs1_variants.BadDate place, gives, refl)
gs1_answered given (gs1_variants.BadCheck place digit wanted) f is gives =
    subst (Refuses (answered gs1_fault given)) (sym is) (gs1_variants.BadCheck place digit wanted, gives, refl)

-- a known set has a name
named : (n : ℕ) → is_character_set n ≡ true → is_some (set_numbered n) ≡ true
unfolding set_numbered
named n known = known_has (λ set. is_some (set_numbered set)) n refl known

unknown_unnamed : (set : Option CharacterSet) (characters : List ℕ) → is_some set ≡ true → text_encoding set characters ≡ Err set_variants.UnknownEci → ⊥
unfolding text_encoding
unknown_unnamed None characters is unknown = cc
unknown_unnamed (Some set) characters is unknown =
    elim (first_lacking set 0 characters) as (λ place. unless_lacking place (joined_bytes set characters) ≡ Err set_variants.UnknownEci → ⊥) [
      | None ↦ λ same. cc
      | Some place ↦ λ same. cc
    ] unknown

-- so encoding in a known set finds no unknown one
pub never_unknown : (eci : ℕ) (characters : List ℕ) (fault : SetFault) → is_character_set eci ≡ true → fault ≡ set_variants.UnknownEci
    → IfSome (set_refusal fault) (λ refused. text_encoding (set_numbered eci) characters ≡ Err refused) → ⊥
never_unknown eci characters set_variants.UnknownEci known is gives = unknown_unnamed (set_numbered eci) characters (named eci known) gives
never_unknown eci characters set_variants.NoMemory known is gives = cc
never_unknown eci characters (set_variants.NoCharacter place) known is gives = cc
never_unknown eci characters (set_variants.BadBytes place) known is gives = cc

-- and encoding finds no bad bytes
no_bad_bytes : (set : Option CharacterSet) (characters : List ℕ) (place : ℕ) → text_encoding set characters ≡ Err (set_variants.BadBytes place) → ⊥
unfolding text_encoding
no_bad_bytes None characters place bad = cc
no_bad_bytes (Some set) characters place bad =
    elim (first_lacking set 0 characters) as (λ lacking. unless_lacking lacking (joined_bytes set characters) ≡ Err (set_variants.BadBytes place) → ⊥) [
      | None ↦ λ same. cc
      | Some other ↦ λ same. cc
    ] bad

pub never_bad_bytes : (set : Option CharacterSet) (characters : List ℕ) (fault : SetFault) (place : ℕ) → fault ≡ set_variants.BadBytes place
    → IfSome (set_refusal fault) (λ refused. text_encoding set characters ≡ Err refused) → ⊥
never_bad_bytes set characters (set_variants.BadBytes other) place is gives = no_bad_bytes set characters other gives
never_bad_bytes set characters set_variants.UnknownEci place is gives = cc
never_bad_bytes set characters set_variants.NoMemory place is gives = cc
never_bad_bytes set characters (set_variants.NoCharacter other) place is gives = cc

-- no bytes encode the empty text alone
encoded_nothing : (set : CharacterSet) → Encoded set [] []
unfolding first_lacking
encoded_nothing set = record { characters = []; scalar = refl; text_is = refl; all = refl; bytes_are = refl }

-- a text that is not empty has bytes
pub some_encoded : (set : Option CharacterSet) (text bytes : List ℕ) → IsEncodedIn set text bytes → 0 < length text → 0 < length bytes
some_encoded None text bytes is some = absurd is
some_encoded (Some set) text [] is some =
    let empty : [] ≡ text = one_text set text [] [] is (encoded_nothing set) in
    absurd (omega (arith, ap (λ (t : List ℕ). length t) empty, some))
some_encoded (Some set) text (byte ∷ bytes) is some = omega arith

-- the first of known numbers, or another known one
found_known : (p : ℕ → Bool) (numbers : List ℕ) (other : ℕ) → list_all is_character_set numbers ≡ true → is_character_set other ≡ true
    → is_character_set (unwrap_or (find p numbers) other) ≡ true
found_known p [] other all known = known
found_known p (number ∷ numbers) other all known =
    let parts = and_parts (is_character_set number) (list_all is_character_set numbers) all in
    elim (p number) as (λ b. is_character_set (unwrap_or (if b then Some number else find p numbers) other) ≡ true) [
      | true ↦ parts.0
      | false ↦ found_known p numbers other parts.1 known
    ]

pub known_chosen : (characters : List ℕ) → is_character_set (chosen_eci characters) ≡ true
unfolding chosen_eci is_character_set
known_chosen characters =
    found_known (λ eci. has_characters characters (set_numbered eci)) (3 ∷ 7 ∷ 11 ∷ 17 ∷ 22 ∷ 23 ∷ []) 26 refl refl

-- the ECI of settings is known
pub known_sets : (eci : Option ℕ) → ForSome eci (λ n. is_character_set n ≡ true) → IsKnownEci eci
known_sets None known = tt
known_sets (Some n) known = known n refl

-- bytes are elements of Code 128
plain_bytes : (bytes : List ℕ) → All IsCode128Element (bytes_as_elements bytes)
unfolding bytes_as_elements
plain_bytes [] = All-nil IsCode128Element
plain_bytes (byte ∷ bytes) = All-cons IsCode128Element (element.Byte byte) (bytes_as_elements bytes) tt (plain_bytes bytes)

plain_mapped : (bytes : List ℕ) → All IsCode128Element (map (λ byte. element.Byte byte) bytes)
plain_mapped [] = All-nil IsCode128Element
plain_mapped (byte ∷ bytes) = All-cons IsCode128Element (element.Byte byte) (map (λ b. element.Byte b) bytes) tt (plain_mapped bytes)

plain_separator : (needed : Bool) → All IsCode128Element (separator needed)
plain_separator true = All-cons IsCode128Element element.Fnc1 [] tt (All-nil IsCode128Element)
plain_separator false = All-nil IsCode128Element

-- and so are those of element strings
pub plain_strings : (needed : Bool) (strings : List ElementString) → All IsCode128Element (body_behind needed strings)
unfolding body_behind
plain_strings needed [] = All-nil IsCode128Element
plain_strings needed (string ∷ more) =
    All-append IsCode128Element (separator needed ++ string_elements string) (body_behind (needs_separator string) more)
    (All-append IsCode128Element (separator needed) (string_elements string) (plain_separator needed) (plain_mapped (string.identifier ++ string.value)))
    (plain_strings (needs_separator string) more)

pub plain_body : (brackets : Brackets) (text : List ℕ) (body : List Element) → HasBody brackets text body → All IsCode128Element body
plain_body brackets text body has = subst (λ (elements : List Element). All IsCode128Element elements) (sym has.body_is) (plain_strings false has.strings)

-- a message without an ECI has no other elements
pub plain_message : (gs1 : Bool) (eci : Option ℕ) (body : List Element) → eci ≡ None → All IsCode128Element body
    → All IsCode128Element (message_elements (message_with gs1 eci body))
unfolding message_elements header_elements gs1_elements eci_elements
plain_message true None body none plain = All-cons IsCode128Element element.Fnc1 body tt plain
plain_message false None body none plain = plain
plain_message gs1 (Some number) body none plain = cc

pub plain_bytes_message : (eci : Option ℕ) (bytes : List ℕ) → eci ≡ None → All IsCode128Element (message_elements (message_with false eci (bytes_as_elements bytes)))
plain_bytes_message eci bytes none = plain_message false eci (bytes_as_elements bytes) none (plain_bytes bytes)

pub plain_gs1_message : (body : List Element) → All IsCode128Element body → All IsCode128Element (message_elements (message_with true None body))
plain_gs1_message body plain = plain_message true None body refl plain

pub ruleset plain = (plain_body, plain_bytes_message, plain_gs1_message)
