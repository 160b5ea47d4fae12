-- The words of a mode message by its number.
use Rattle.std.proofs.Common.{◌≡◌, ℕ, ◌+◌, ◌-◌, ◌*◌, ◌/◌, ◌%◌, ◌<◌, ◌≤◌, Bool, true, false, List, [], ◌∷◌, ◌++◌, length, take, refl, ap, subst, sym, ◌∙◌, arith}
use Rattle.std.proofs.lemmas.List.{drop_at, length-take-le}
use Rattle.std.proofs.lemmas.List.Elements.{All-drop, All-take}
use Rattle.std.specs.Prelude.{All}
use Rattle.bar_base.specs.Bits.{to_bits}
use Rattle.aztec_layout.specs.declared.sizes.Size.{Size}
use Rattle.galois.specs.CheckNumbers.{IsCheckWordIn, IsContinuation, polynomial_of}
use Rattle.aztec_layout.specs.ModeMessage.{IsModeMessage, check_words, front_words, mode_front}
use Rattle.aztec_layout.specs.ModeMessage.{word_bits}
use Rattle.bar_base.proofs.NumberBits.{to_bits-parts}
use Rattle.aztec_layout.proofs.BitLemmas.{word_bits_four, word_bits_two}
use Rattle.aztec_layout.proofs.ReadLemmas.{words_from_bits}
use Rattle.aztec_layout.proofs.SizeParts.{size_at}

-- words that continue a front are a mode message where the front has its bits
continued : (s : Size) (held : ℕ) (front words : List ℕ) → length front ≡ front_words s.full → word_bits 4 front ≡ mode_front s held →
    IsContinuation 4 (polynomial_of 4) front (check_words s.full) words → IsModeMessage s held words
continued s held front words counted bits h = record {
  front = ap (λ (n : ℕ). word_bits 4 (take n words)) (sym counted) ∙ ap (word_bits 4) h.continues.begins ∙ bits;
  counted = h.continues.counted ∙ ap (λ (n : ℕ). n + check_words s.full) counted;
  coded = h.continues.check;
}

-- the check words of words of four bits have four bits
pub check_small : (front check : List ℕ) → All (λ w. w < 16) (front ++ check) → All (λ w. w < 16) check
check_small front check each =
    subst (λ (ws : List ℕ). All (λ w. w < 16) ws) (drop_at front check (length front) refl) (All-drop (λ w. w < 16) (length front) (front ++ check) each)

full_front : (f : Bool) (layers held n : ℕ) → f ≡ true → 1 ≤ held → held ≤ 2048 → n ≡ (layers - 1) * 2048 + (held - 1) →
    word_bits 4 (n / 4096 ∷ n / 256 % 16 ∷ n / 16 % 16 ∷ n % 16 ∷ []) ≡ mode_front (size_at f layers) held
full_front true layers held n is some few number =
    word_bits_four n ∙ ap (to_bits 16) number ∙ to_bits-parts 5 11 (layers - 1) (held - 1) (omega arith)
full_front false layers held n is some few number = absurd (cc)

compact_front : (f : Bool) (layers held n : ℕ) → f ≡ false → 1 ≤ held → held ≤ 64 → n ≡ (layers - 1) * 64 + (held - 1) →
    word_bits 4 (n / 16 ∷ n % 16 ∷ []) ≡ mode_front (size_at f layers) held
compact_front false layers held n is some few number =
    word_bits_two n ∙ ap (to_bits 8) number ∙ to_bits-parts 2 6 (layers - 1) (held - 1) (omega arith)
compact_front true layers held n is some few number = absurd (cc)

pub full_message : (s : Size) (held n : ℕ) (front words : List ℕ) → s.full ≡ true → 1 ≤ held → held ≤ 2048 → n ≡ (s.layers - 1) * 2048 + (held - 1) →
    front ≡ n / 4096 ∷ n / 256 % 16 ∷ n / 16 % 16 ∷ n % 16 ∷ [] → IsContinuation 4 (polynomial_of 4) front 6 words → IsModeMessage s held words
full_message s held n front words is some few number digits h =
    continued s held front words (ap length digits ∙ sym (ap front_words is)) (ap (word_bits 4) digits ∙ full_front s.full s.layers held n is some few number)
    (subst (λ (k : ℕ). IsContinuation 4 (polynomial_of 4) front k words) (sym (ap check_words is)) h)

pub compact_message : (s : Size) (held n : ℕ) (front words : List ℕ) → s.full ≡ false → 1 ≤ held → held ≤ 64 → n ≡ (s.layers - 1) * 64 + (held - 1) →
    front ≡ n / 16 ∷ n % 16 ∷ [] → IsContinuation 4 (polynomial_of 4) front 5 words → IsModeMessage s held words
compact_message s held n front words is some few number digits h =
    continued s held front words (ap length digits ∙ sym (ap front_words is)) (ap (word_bits 4) digits ∙ compact_front s.full s.layers held n is some few number)
    (subst (λ (k : ℕ). IsContinuation 4 (polynomial_of 4) front k words) (sym (ap check_words is)) h)

-- two words by what they are
pub same_two : (a b a' b' : ℕ) → a ≡ a' → b ≡ b' → a ∷ b ∷ [] ≡ a' ∷ b' ∷ []
same_two a b a' b' p q = cc

-- words with the bits of a front in front, which are a check word, are the words that continue the front
pub continued_once : (k count : ℕ) (front words others : List ℕ) → length front ≡ k → IsContinuation 4 (polynomial_of 4) front count words →
    length others ≡ k + count → IsCheckWordIn 4 (polynomial_of 4) others count → word_bits 4 (take k others) ≡ word_bits 4 front → others ≡ words
continued_once k count front words others counted h number coded bits =
    let small : All (λ w. w < 16) front =
    subst (λ (ws : List ℕ). All (λ w. w < 16) ws) h.continues.begins (All-take (λ w. w < 16) (length front) words h.continues.check.each) in
    let short : length (take k others) ≡ k = length-take-le k others (omega (arith, number)) in
    let same_front : take k others ≡ front =
    words_from_bits 4 (take k others) front (All-take (λ w. w < 16) k others coded.each) small (short ∙ sym counted) bits in
    h.only others (record {
      begins = ap (λ (n : ℕ). take n others) counted ∙ same_front;
      counted = number ∙ ap (λ (n : ℕ). n + count) (sym counted);
      check = coded;
    })

pub full_once : (s : Size) (held n : ℕ) (front words others : List ℕ) → s.full ≡ true → 1 ≤ held → held ≤ 2048 → n ≡ (s.layers - 1) * 2048 + (held - 1) →
    front ≡ n / 4096 ∷ n / 256 % 16 ∷ n / 16 % 16 ∷ n % 16 ∷ [] → IsContinuation 4 (polynomial_of 4) front 6 words → IsModeMessage s held others → others ≡ words
full_once s held n front words others is some few number digits h other =
    let bits : word_bits 4 front ≡ mode_front s held = ap (word_bits 4) digits ∙ full_front s.full s.layers held n is some few number in
    continued_once (front_words s.full) (check_words s.full) front words others (ap length digits ∙ sym (ap front_words is))
    (subst (λ (k : ℕ). IsContinuation 4 (polynomial_of 4) front k words) (sym (ap check_words is)) h) other.counted other.coded (other.front ∙ sym bits)

pub compact_once : (s : Size) (held n : ℕ) (front words others : List ℕ) → s.full ≡ false → 1 ≤ held → held ≤ 64 → n ≡ (s.layers - 1) * 64 + (held - 1) →
    front ≡ n / 16 ∷ n % 16 ∷ [] → IsContinuation 4 (polynomial_of 4) front 5 words → IsModeMessage s held others → others ≡ words
compact_once s held n front words others is some few number digits h other =
    let bits : word_bits 4 front ≡ mode_front s held = ap (word_bits 4) digits ∙ compact_front s.full s.layers held n is some few number in
    continued_once (front_words s.full) (check_words s.full) front words others (ap length digits ∙ sym (ap front_words is))
    (subst (λ (k : ℕ). IsContinuation 4 (polynomial_of 4) front k words) (sym (ap check_words is)) h) other.counted other.coded (other.front ∙ sym bits)
