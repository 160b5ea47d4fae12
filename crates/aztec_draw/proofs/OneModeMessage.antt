-- A mode message has one list of words, and so has the one of a rune: their bits in front tell the check words.
use Rattle.std.proofs.Common.{◌≡◌, ℕ, ◌+◌, ◌<◌, ◌≤◌, ◌++◌, Bool, true, false, List, length, take, drop, map, refl, sym, ap, subst, ◌∙◌, arith, length-drop}
use Rattle.std.specs.Prelude.{All}
use Rattle.std.proofs.lemmas.List.{length-map, length-take-le, map-append, take-append-drop}
use Rattle.std.proofs.lemmas.List.Elements.{All-drop, All-take}
use Rattle.galois.specs.CheckNumbers.{IsCheckWordIn, polynomial_of}
use Rattle.galois.specs.FieldLaws.{equal_of, laws_of}
use Rattle.galois.specs.PrimitiveLaws.{primitive-16}
use Rattle.galois.proofs.CheckNumbers.{HasNumbers, elements_check, elements_of, field_numbers}
use Rattle.galois.proofs.CheckWords.{only_check}
use Rattle.aztec_layout.specs.declared.sizes.Size.{Size}
use Rattle.aztec_layout.specs.ModeMessage.{IsModeMessage, check_words, front_words, word_bits}
use Rattle.aztec_layout.specs.Rune.{IsRuneMessage}
use Rattle.aztec_layout.proofs.ReadLemmas.{words_from_bits}

-- An element of the field of 16 elements, by its number.
record Nibble : Type 0 where
  number : ℕ
  within : number ≤ 15

abbrev nibble : (n : ℕ) → n ≤ 15 → Nibble
nibble n within = record { number = n; within = within }

made_back : (a : Nibble) → nibble a.number a.within ≡ a
made_back a = refl

number_made : (n : ℕ) (within : n ≤ 15) → (nibble n within).number ≡ n
number_made n within = refl

abbrev Small : List ℕ → Type 0
Small words = All (λ word. word < 16) words

-- What follows some words of four bits is the only such that makes a check word with them.
one_check : (front u v : List ℕ) → length u ≡ length v → length front + length v ≤ 15 → Small front → Small u → Small v
    → IsCheckWordIn 4 (polynomial_of 4) (front ++ u) (length v) → IsCheckWordIn 4 (polynomial_of 4) (front ++ v) (length v) → u ≡ v
one_check front u v same few small_front small_u small_v is_u is_v =
    let carries : HasNumbers 4 0x13 15 _ _ _ _ _ =
    field_numbers primitive-16 nibble (λ a. a.number) (λ a. a.within) made_back number_made in
    let laws = laws_of primitive-16 nibble (λ a. a.number) (λ a. a.within) made_back number_made in
    let number : Nibble → ℕ = λ a. a.number in
    let f = elements_of carries front small_front in
    let x = elements_of carries u small_u in
    let y = elements_of carries v small_v in
    let long_f : length f.0 ≡ length front = sym (length-map f.0 number) ∙ ap length f.1 in
    let long_x : length x.0 ≡ length u = sym (length-map x.0 number) ∙ ap length x.1 in
    let long_y : length y.0 ≡ length v = sym (length-map y.0 number) ∙ ap length y.1 in
    let whole_x : map number (f.0 ++ x.0) ≡ front ++ u = map-append number f.0 x.0 ∙ ap (λ (ws : List ℕ). ws ++ map number x.0) f.1 ∙ ap (λ (ws : List ℕ). front ++ ws) x.1 in
    let whole_y : map number (f.0 ++ y.0) ≡ front ++ v = map-append number f.0 y.0 ∙ ap (λ (ws : List ℕ). ws ++ map number y.0) f.1 ∙ ap (λ (ws : List ℕ). front ++ ws) y.1 in
    let elements : x.0 ≡ y.0 =
    only_check laws _ (equal_of nibble (λ a. a.number) (λ a. a.within) made_back)
    f.0 x.0 y.0 (long_x ∙ same ∙ sym long_y) (omega (arith, long_f, long_y, few))
    (elements_check carries (f.0 ++ x.0) (length y.0)
    (subst (λ (n : ℕ). IsCheckWordIn 4 0x13 (map number (f.0 ++ x.0)) n) (sym long_y) (subst (λ (ws : List ℕ). IsCheckWordIn 4 0x13 ws (length v)) (sym whole_x) is_u)))
    (elements_check carries (f.0 ++ y.0) (length y.0)
    (subst (λ (n : ℕ). IsCheckWordIn 4 0x13 (map number (f.0 ++ y.0)) n) (sym long_y) (subst (λ (ws : List ℕ). IsCheckWordIn 4 0x13 ws (length v)) (sym whole_y) is_v))) in
    sym x.1 ∙ ap (map number) elements ∙ y.1

-- Check words of four bits with the same bits in front of their check words are one.
same_words : (front check : ℕ) (u v : List ℕ) → front + check ≤ 15 → word_bits 4 (take front u) ≡ word_bits 4 (take front v)
    → length u ≡ front + check → length v ≡ front + check
    → IsCheckWordIn 4 (polynomial_of 4) u check → IsCheckWordIn 4 (polynomial_of 4) v check → u ≡ v
same_words front check u v few bits long_u long_v is_u is_v =
    let short_u : length (take front u) ≡ front = length-take-le front u (omega (arith, long_u)) in
    let short_v : length (take front v) ≡ front = length-take-le front v (omega (arith, long_v)) in
    let fronts : take front u ≡ take front v =
    words_from_bits 4 (take front u) (take front v) (All-take (λ w. w < 16) front u is_u.each) (All-take (λ w. w < 16) front v is_v.each) (short_u ∙ sym short_v) bits in
    let rest_u : length (drop front u) ≡ check = omega (arith, length-drop front u, long_u) in
    let rest_v : length (drop front v) ≡ check = omega (arith, length-drop front v, long_v) in
    let split_u : u ≡ take front v ++ drop front u = sym (take-append-drop front u) ∙ ap (λ (ws : List ℕ). ws ++ drop front u) fronts in
    let split_v : v ≡ take front v ++ drop front v = sym (take-append-drop front v) in
    let rests : drop front u ≡ drop front v =
    one_check (take front v) (drop front u) (drop front v) (rest_u ∙ sym rest_v) (omega (arith, short_v, rest_v, few))
    (All-take (λ w. w < 16) front v is_v.each) (All-drop (λ w. w < 16) front u is_u.each) (All-drop (λ w. w < 16) front v is_v.each)
    (subst (λ (n : ℕ). IsCheckWordIn 4 (polynomial_of 4) (take front v ++ drop front u) n) (sym rest_v)
    (subst (λ (ws : List ℕ). IsCheckWordIn 4 (polynomial_of 4) ws check) split_u is_u))
    (subst (λ (n : ℕ). IsCheckWordIn 4 (polynomial_of 4) (take front v ++ drop front v) n) (sym rest_v)
    (subst (λ (ws : List ℕ). IsCheckWordIn 4 (polynomial_of 4) ws check) split_v is_v)) in
    split_u ∙ ap (λ (ws : List ℕ). take front v ++ ws) rests ∙ sym split_v

few_words : (full : Bool) → front_words full + check_words full ≤ 15
few_words true = omega arith
few_words false = omega arith

-- A size and a number of data codewords have one mode message.
pub mode_message_once : (size : Size) (held : ℕ) (u v : List ℕ) → IsModeMessage size held u → IsModeMessage size held v → u ≡ v
mode_message_once size held u v p q =
    same_words (front_words size.full) (check_words size.full) u v (few_words size.full) (p.front ∙ sym q.front) p.counted q.counted p.coded q.coded

-- A value has one list of words of its rune.
pub rune_message_once : (value : ℕ) (u v : List ℕ) → IsRuneMessage value u → IsRuneMessage value v → u ≡ v
rune_message_once value u v p q = same_words 2 5 u v (omega arith) (p.front ∙ sym q.front) p.counted q.counted p.coded q.coded
