-- Numbers as bits: bits tell the number.
use Rattle.std.proofs.Common.{◌≡◌, ℕ, ◌+◌, ◌*◌, ◌/◌, ◌%◌, ◌^◌, ◌<◌, ◌≤◌, Bool, true, false, List, [], ◌∷◌, ◌++◌, length, take, get_or, Some, add-one, suc, refl, length-append, ap, sym, ◌∙◌, append_assoc, append-nil, arith}
use Rattle.std.proofs.lemmas.Bool.Decides.{nat_tests}
use Rattle.std.specs.Prelude.{◌==◌}
use Rattle.std.specs.Int.{from_bool}
use Rattle.std.proofs.Math.Nat.{div-mul-le_self}
use Rattle.std.proofs.Math.Seq.{take-suc}
use Rattle.std.specs.List.{slice_get}
use Rattle.std.proofs.lemmas.List.{take_all}
use Rattle.std.proofs.lemmas.List.Concat.{flat_map-append}
use Rattle.bar_base.specs.Bits.{to_bits}
use Rattle.bar_base.proofs.ListLemmas.{take_next}
use Rattle.bar_base.proofs.NumberBits.{length-to_bits, to_bits-append, to_bits-half, to_bits-low}
use Rattle.std.proofs.lemmas.List.{length-replicate}
use Rattle.std.specs.Prelude.{replicate}
use Rattle.aztec_layout.specs.declared.sizes.Size.{Size}
use Rattle.aztec_layout.specs.Sizes.{codeword_width, codewords_of, layer_bits, lead_bits}
use Rattle.aztec_layout.specs.ModeMessage.{word_bits}
use Rattle.aztec_layout.specs.SymbolGrid.{data_bits}

-- The first `count` of the bits, as a number.
pub record IsNumberOf (bits : List Bool) (count number : ℕ) : Type 0 where
  pub below : number < 2 ^ count
  pub digits : to_bits count number ≡ take count bits

pub number_none : (bits : List Bool) → IsNumberOf bits 0 0
unfolding to_bits
number_none bits = record { below = omega arith; digits = refl }

-- the digit of a bit
pub small_digit : (digit : ℕ) (bit : Bool) → digit ≡ from_bool bit → digit < 2
small_digit digit true is = omega arith
small_digit digit false is = omega arith

pub last_digit : (number digit : ℕ) (bit : Bool) → digit ≡ from_bool bit → ((number * 2 + digit) % 2 == 1) ≡ bit
last_digit number digit true is = grind (arith, nat_tests)
last_digit number digit false is = grind (arith, nat_tests)

-- one bit more, at the end
pub number_more : (bits : List Bool) (count number digit : ℕ) (bit : Bool) → IsNumberOf bits count number → count < length bits →
    get_or bits count bit ≡ bit → digit ≡ from_bool bit → IsNumberOf bits (count + 1) (number * 2 + digit)
number_more bits count number digit bit known inside here is-digit =
    let small : digit < 2 = small_digit digit bit is-digit in
    let below : number < 2 ^ count = known.below in
    rw add-one (record {
      below = omega arith;
      digits = to_bits-half count (number * 2 + digit)
          ∙ ap (λ (k : ℕ). to_bits count k ++ ((number * 2 + digit) % 2 == 1) ∷ []) (let e : (number * 2 + digit) / 2 ≡ number = omega arith in e)
          ∙ ap (λ (b : Bool). to_bits count number ++ b ∷ []) (last_digit number digit bit is-digit)
          ∙ ap (λ (s : List Bool). s ++ bit ∷ []) known.digits
          ∙ ap (λ (b : Bool). take count bits ++ b ∷ []) (sym here) ∙ sym (take-suc bits count bit inside);
    })

-- the bits of the first words, behind what stood there
pub word_bits_more : (width : ℕ) (words : List ℕ) (place word : ℕ) (start row more : List Bool) → slice_get words place ≡ Some word →
    row ≡ start ++ word_bits width (take place words) → more ≡ row ++ to_bits width word → more ≡ start ++ word_bits width (take (place + 1) words)
word_bits_more width words place word start row more here so-far pushed =
    pushed ∙ ap (λ (s : List Bool). s ++ to_bits width word) so-far ∙ append_assoc start (word_bits width (take place words)) (to_bits width word)
    ∙ ap (λ (s : List Bool). start ++ (word_bits width (take place words) ++ s)) (sym (append-nil (to_bits width word)))
    ∙ ap (λ (s : List Bool). start ++ s) (sym (flat_map-append (to_bits width) (take place words) (word ∷ [])))
    ∙ ap (λ (ws : List ℕ). start ++ word_bits width ws) (sym (take_next words place word here))

-- all words
pub word_bits_all : (width : ℕ) (words : List ℕ) (n : ℕ) (start row : List Bool) → length words ≤ n →
    row ≡ start ++ word_bits width (take n words) → row ≡ start ++ word_bits width words
word_bits_all width words n start row all so-far = so-far ∙ ap (λ (ws : List ℕ). start ++ word_bits width ws) (take_all n words all)

-- words have as many bits as are asked for
pub length-word_bits : (width : ℕ) (words : List ℕ) → length (word_bits width words) ≡ length words * width
length-word_bits width [] = omega arith
length-word_bits width (w ∷ ws) =
    length-append (to_bits width w) (word_bits width ws)
    ∙ (let e : length (to_bits width w) + length (word_bits width ws) ≡ suc (length ws) * width =
    omega (arith, length-to_bits width w, length-word_bits width ws) in e)

-- the codewords fit the data layers
pub codewords_fit : (size : Size) → codewords_of size * codeword_width size ≤ layer_bits size
codewords_fit size = div-mul-le_self (layer_bits size) (codeword_width size)

-- the data layers are filled
pub length-data_bits : (size : Size) (words : List ℕ) → length words ≡ codewords_of size → length (data_bits size words) ≡ layer_bits size
length-data_bits size words counted =
    let long : length (word_bits (codeword_width size) words) ≡ codewords_of size * codeword_width size =
    length-word_bits (codeword_width size) words ∙ ap (λ (n : ℕ). n * codeword_width size) counted in
    length-append (replicate (lead_bits size) false) (word_bits (codeword_width size) words)
    ∙ (let e : length (replicate (lead_bits size) false) + length (word_bits (codeword_width size) words) ≡ layer_bits size =
    omega (arith, length-replicate (lead_bits size) false, long, codewords_fit size) in e)

-- a number of 8 bits in two words, and one of 16 bits in four
pub word_bits_two : (n : ℕ) → word_bits 4 (n / 16 ∷ n % 16 ∷ []) ≡ to_bits 8 n
word_bits_two n =
    ap (λ (s : List Bool). to_bits 4 (n / 16) ++ s) (append-nil (to_bits 4 (n % 16)) ∙ sym (to_bits-low 4 (n / 16) (n % 16))
    ∙ ap (to_bits 4) (let e : n / 16 * 16 + n % 16 ≡ n = omega arith in e))
    ∙ sym (to_bits-append 4 4 n)

pub word_bits_four : (n : ℕ) → word_bits 4 (n / 4096 ∷ n / 256 % 16 ∷ n / 16 % 16 ∷ n % 16 ∷ []) ≡ to_bits 16 n
word_bits_four n =
    sym (append_assoc (to_bits 4 (n / 4096)) (to_bits 4 (n / 256 % 16)) (to_bits 4 (n / 16 % 16) ++ (to_bits 4 (n % 16) ++ [])))
    ∙ ap (λ (s : List Bool). (to_bits 4 (n / 4096) ++ s) ++ (to_bits 4 (n / 16 % 16) ++ (to_bits 4 (n % 16) ++ []))) (sym (append-nil (to_bits 4 (n / 256 % 16))))
    ∙ ap (λ (k : ℕ). (to_bits 4 k ++ (to_bits 4 (n / 256 % 16) ++ [])) ++ (to_bits 4 (n / 16 % 16) ++ (to_bits 4 (n % 16) ++ [])))
    (let e : n / 4096 ≡ n / 256 / 16 = omega arith in e)
    ∙ ap (λ (s : List Bool). s ++ (to_bits 4 (n / 16 % 16) ++ (to_bits 4 (n % 16) ++ []))) (word_bits_two (n / 256))
    ∙ ap (λ (s : List Bool). to_bits 8 (n / 256) ++ s)
    (ap (λ (k : ℕ). to_bits 4 k ++ (to_bits 4 (n % 16) ++ [])) (let e : n / 16 % 16 ≡ n % 256 / 16 = omega arith in e)
    ∙ ap (λ (k : ℕ). to_bits 4 (n % 256 / 16) ++ (to_bits 4 k ++ [])) (let e : n % 16 ≡ n % 256 % 16 = omega arith in e)
    ∙ word_bits_two (n % 256) ∙ sym (to_bits-low 8 (n / 256) (n % 256)) ∙ ap (to_bits 8) (let e : n / 256 * 256 + n % 256 ≡ n = omega arith in e))
    ∙ sym (to_bits-append 8 8 n)
