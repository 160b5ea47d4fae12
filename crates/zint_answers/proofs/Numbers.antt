-- Numbers, each after a space, and bits, each as a character.
use Rattle.std.proofs.Common.{◌≡◌, ℕ, ◌+◌, ◌<◌, List, [], ◌∷◌, ◌++◌, Bool, map, take, length, get_or, decimal, ap, sym, ◌∙◌, append_assoc}
use Rattle.std.proofs.lemmas.List.{append-nil, map-append}
use Rattle.std.proofs.lemmas.Option.{slice_get-get_or}
use Rattle.bar_base.specs.GridText.{module_text}
use Rattle.bar_base.proofs.ListLemmas.{take_next}
use Rattle.zint_answers.specs.Report.{spaced_text}

-- one number more
spaced_push : (numbers : List ℕ) (number : ℕ) → spaced_text (numbers ++ number ∷ []) ≡ spaced_text numbers ++ 32 ∷ decimal number
unfolding spaced_text
spaced_push [] number = append-nil (32 ∷ decimal number)
spaced_push (first ∷ numbers) number =
    ap (λ (rest : List ℕ). 32 ∷ decimal first ++ rest) (spaced_push numbers number) ∙ sym (append_assoc (32 ∷ decimal first) (spaced_text numbers) (32 ∷ decimal number))

-- the numbers up to one, behind a text
pub spaced_next : (text numbers : List ℕ) (i : ℕ) → i < length numbers
    → ((text ++ spaced_text (take i numbers)) ++ 32 ∷ []) ++ decimal (get_or numbers i 0) ≡ text ++ spaced_text (take (i + 1) numbers)
spaced_next text numbers i inside =
    append_assoc (text ++ spaced_text (take i numbers)) (32 ∷ []) (decimal (get_or numbers i 0))
    ∙ append_assoc text (spaced_text (take i numbers)) (32 ∷ decimal (get_or numbers i 0))
    ∙ sym (ap (λ (rest : List ℕ). text ++ rest) (ap spaced_text (take_next numbers i (get_or numbers i 0) (slice_get-get_or numbers i 0 inside)) ∙ spaced_push (take i numbers) (get_or numbers i 0)))

-- the bits up to one, behind a text
pub bits_next : (text : List ℕ) (bits : List Bool) (i : ℕ) (bit : Bool) → i < length bits
    → (text ++ map module_text (take i bits)) ++ module_text (get_or bits i bit) ∷ [] ≡ text ++ map module_text (take (i + 1) bits)
bits_next text bits i bit inside =
    append_assoc text (map module_text (take i bits)) (module_text (get_or bits i bit) ∷ [])
    ∙ sym (ap (λ (rest : List ℕ). text ++ rest) (ap (map module_text) (take_next bits i (get_or bits i bit) (slice_get-get_or bits i bit inside))
    ∙ map-append module_text (take i bits) (get_or bits i bit ∷ [])))
