-- The number of data codewords by the front of a mode message.
use Rattle.std.proofs.Common.{◌≡◌, ℕ, ◌+◌, ◌-◌, ◌*◌, ◌/◌, ◌%◌, ◌^◌, ◌<◌, ◌≤◌, Bool, true, false, List, [], ◌∷◌, Some, refl, sym, ◌∙◌, arith}
use Rattle.std.specs.Prelude.{All, slice_get}
use Rattle.std.proofs.lemmas.List.Elements.{All-nil, All-cons, All-take}
use Rattle.aztec_layout.specs.declared.sizes.Size.{Size}
use Rattle.aztec_layout.specs.ModeMessage.{CanHold, IsModeMessage, word_bits}
use Rattle.aztec_layout.specs.Sizes.{IsSize}
use Rattle.bar_base.proofs.NumberBits.{to_bits-parts}
use Rattle.aztec_layout.proofs.BitLemmas.{word_bits_four, word_bits_two}
use Rattle.aztec_layout.proofs.ReadLemmas.{words_from_bits}
use Rattle.aztec_layout.proofs.SizeParts.{size_at}
use Rattle.symbol_reader.proofs.OneSize.{full_few}

two_small : (a b : ℕ) → a < 2 ^ 4 → b < 2 ^ 4 → All (λ (w : ℕ). w < 2 ^ 4) (a ∷ b ∷ [])
two_small a b ha hb = All-cons (λ w. w < 2 ^ 4) a (b ∷ []) ha (All-cons (λ w. w < 2 ^ 4) b [] hb (All-nil (λ w. w < 2 ^ 4)))

four_small : (a b c d : ℕ) → a < 2 ^ 4 → b < 2 ^ 4 → c < 2 ^ 4 → d < 2 ^ 4 → All (λ (w : ℕ). w < 2 ^ 4) (a ∷ b ∷ c ∷ d ∷ [])
four_small a b c d ha hb hc hd =
    All-cons (λ w. w < 2 ^ 4) a (b ∷ c ∷ d ∷ []) ha (All-cons (λ w. w < 2 ^ 4) b (c ∷ d ∷ []) hb (two_small c d hc hd))

four_digits : (n : ℕ) → n / 4096 * 4096 + n / 256 % 16 * 256 + n / 16 % 16 * 16 + n % 16 ≡ n
four_digits n = omega arith

two_digits : (n : ℕ) → n / 16 * 16 + n % 16 ≡ n
two_digits n = omega arith

heads_four : (a b c d a' b' c' d' : ℕ) → a ∷ b ∷ c ∷ d ∷ [] ≡ a' ∷ b' ∷ c' ∷ d' ∷ [] → a * 4096 + b * 256 + c * 16 + d ≡ a' * 4096 + b' * 256 + c' * 16 + d'
heads_four a b c d a' b' c' d' e =
    let ea : a ≡ a' = cc e in let eb : b ≡ b' = cc e in let ec : c ≡ c' = cc e in let ed : d ≡ d' = cc e in omega (arith, ea, eb, ec, ed)

heads_two : (a b a' b' : ℕ) → a ∷ b ∷ [] ≡ a' ∷ b' ∷ [] → a * 16 + b ≡ a' * 16 + b'
heads_two a b a' b' e = let ea : a ≡ a' = cc e in let eb : b ≡ b' = cc e in omega (arith, ea, eb)

front_full : (layers held a b c d : ℕ) (rest : List ℕ) → IsSize (size_at true layers) → CanHold (size_at true layers) held
    → IsModeMessage (size_at true layers) held (a ∷ b ∷ c ∷ d ∷ rest) → a * 4096 + b * 256 + c * 16 + d ≡ (layers - 1) * 2048 + (held - 1)
front_full layers held a b c d rest sized can is =
    let n : ℕ = (layers - 1) * 2048 + (held - 1) in
    let few : held ≤ 2048 = omega (arith, can.few, full_few layers sized.1) in
    let below : held - 1 < 2 ^ 11 = omega (arith, few) in
    let small : n < 65536 = omega (arith, few, sized.1) in
    let mine : All (λ (w : ℕ). w < 2 ^ 4) (a ∷ b ∷ c ∷ d ∷ []) = All-take (λ w. w < 2 ^ 4) 4 (a ∷ b ∷ c ∷ d ∷ rest) is.coded.each in
    let a_small : n / 4096 < 2 ^ 4 = omega (arith, small) in
    let b_small : n / 256 % 16 < 2 ^ 4 = omega arith in
    let c_small : n / 16 % 16 < 2 ^ 4 = omega arith in
    let d_small : n % 16 < 2 ^ 4 = omega arith in
    let digits : All (λ (w : ℕ). w < 2 ^ 4) (n / 4096 ∷ n / 256 % 16 ∷ n / 16 % 16 ∷ n % 16 ∷ []) =
    four_small (n / 4096) (n / 256 % 16) (n / 16 % 16) (n % 16) a_small b_small c_small d_small in
    let bits : word_bits 4 (a ∷ b ∷ c ∷ d ∷ []) ≡ word_bits 4 (n / 4096 ∷ n / 256 % 16 ∷ n / 16 % 16 ∷ n % 16 ∷ []) =
    is.front ∙ sym (to_bits-parts 5 11 (layers - 1) (held - 1) below) ∙ sym (word_bits_four n) in
    heads_four a b c d (n / 4096) (n / 256 % 16) (n / 16 % 16) (n % 16) (words_from_bits 4 (a ∷ b ∷ c ∷ d ∷ []) (n / 4096 ∷ n / 256 % 16 ∷ n / 16 % 16 ∷ n % 16 ∷ []) mine digits refl bits)
    ∙ four_digits n

front_compact : (layers held a b : ℕ) (rest : List ℕ) → IsSize (size_at false layers) → CanHold (size_at false layers) held
    → IsModeMessage (size_at false layers) held (a ∷ b ∷ rest) → a * 16 + b ≡ (layers - 1) * 64 + (held - 1)
front_compact layers held a b rest sized can is =
    let n : ℕ = (layers - 1) * 64 + (held - 1) in
    let few : held ≤ 64 = can.compact refl in
    let below : held - 1 < 2 ^ 6 = omega (arith, few) in
    let small : n < 256 = omega (arith, few, sized.1) in
    let mine : All (λ (w : ℕ). w < 2 ^ 4) (a ∷ b ∷ []) = All-take (λ w. w < 2 ^ 4) 2 (a ∷ b ∷ rest) is.coded.each in
    let a_small : n / 16 < 2 ^ 4 = omega (arith, small) in
    let b_small : n % 16 < 2 ^ 4 = omega arith in
    let digits : All (λ (w : ℕ). w < 2 ^ 4) (n / 16 ∷ n % 16 ∷ []) =
    two_small (n / 16) (n % 16) a_small b_small in
    let bits : word_bits 4 (a ∷ b ∷ []) ≡ word_bits 4 (n / 16 ∷ n % 16 ∷ []) =
    is.front ∙ sym (to_bits-parts 2 6 (layers - 1) (held - 1) below) ∙ sym (word_bits_two n) in
    heads_two a b (n / 16) (n % 16) (words_from_bits 4 (a ∷ b ∷ []) (n / 16 ∷ n % 16 ∷ []) mine digits refl bits) ∙ two_digits n

abbrev IsWordAt : (words : List ℕ) (place word : ℕ) → Type 0
IsWordAt words place word = (w : ℕ) → slice_get words place ≡ Some w → word ≡ w

full_at : (layers held : ℕ) (words : List ℕ) (a b c d : ℕ) → IsSize (size_at true layers) → CanHold (size_at true layers) held
    → IsModeMessage (size_at true layers) held words
    → IsWordAt words 0 a → IsWordAt words 1 b → IsWordAt words 2 c → IsWordAt words 3 d → held ≡ (a * 4096 + b * 256 + c * 16 + d) % 2048 + 1
full_at layers held [] a b c d sized can is ea eb ec ed = absurd (omega (arith, is.counted))
full_at layers held (w ∷ []) a b c d sized can is ea eb ec ed = absurd (omega (arith, is.counted))
full_at layers held (w ∷ x ∷ []) a b c d sized can is ea eb ec ed = absurd (omega (arith, is.counted))
full_at layers held (w ∷ x ∷ y ∷ []) a b c d sized can is ea eb ec ed = absurd (omega (arith, is.counted))
full_at layers held (w ∷ x ∷ y ∷ z ∷ rest) a b c d sized can is ea eb ec ed =
    omega (arith, front_full layers held w x y z rest sized can is, ea w refl, eb x refl, ec y refl, ed z refl, can.some, can.few, full_few layers sized.1)

compact_at : (layers held : ℕ) (words : List ℕ) (a b : ℕ) → IsSize (size_at false layers) → CanHold (size_at false layers) held
    → IsModeMessage (size_at false layers) held words
    → IsWordAt words 0 a → IsWordAt words 1 b → held ≡ (a * 16 + b) % 64 + 1
compact_at layers held [] a b sized can is ea eb = absurd (omega (arith, is.counted))
compact_at layers held (w ∷ []) a b sized can is ea eb = absurd (omega (arith, is.counted))
compact_at layers held (w ∷ x ∷ rest) a b sized can is ea eb =
    let few : held ≤ 64 = can.compact refl in
    omega (arith, front_compact layers held w x rest sized can is, ea w refl, eb x refl, can.some, few)

pub named_full : (s : Size) (held : ℕ) (words : List ℕ) (a b c d : ℕ) → s.full ≡ true → IsSize s → CanHold s held → IsModeMessage s held words
    → IsWordAt words 0 a → IsWordAt words 1 b → IsWordAt words 2 c → IsWordAt words 3 d → held ≡ (a * 4096 + b * 256 + c * 16 + d) % 2048 + 1
named_full s held words a b c d kind = by_kind s.full s.layers kind
  where
    by_kind : (f : Bool) (n : ℕ) → f ≡ true → IsSize (size_at f n) → CanHold (size_at f n) held
        → IsModeMessage (size_at f n) held words
        → IsWordAt words 0 a → IsWordAt words 1 b → IsWordAt words 2 c → IsWordAt words 3 d → held ≡ (a * 4096 + b * 256 + c * 16 + d) % 2048 + 1
    by_kind true n e = full_at n held words a b c d
    by_kind false n e = absurd (cc)

pub named_compact : (s : Size) (held : ℕ) (words : List ℕ) (a b : ℕ) → s.full ≡ false → IsSize s → CanHold s held → IsModeMessage s held words
    → IsWordAt words 0 a → IsWordAt words 1 b → held ≡ (a * 16 + b) % 64 + 1
named_compact s held words a b kind = by_kind s.full s.layers kind
  where
    by_kind : (f : Bool) (n : ℕ) → f ≡ false → IsSize (size_at f n) → CanHold (size_at f n) held
        → IsModeMessage (size_at f n) held words → IsWordAt words 0 a → IsWordAt words 1 b → held ≡ (a * 16 + b) % 64 + 1
    by_kind false n e = compact_at n held words a b
    by_kind true n e = absurd (cc)
