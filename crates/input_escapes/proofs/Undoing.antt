-- A text that is written for bytes stands for them.
use Rattle.std.proofs.Common.{◌≡◌, ℕ, suc, zero, ◌+◌, ◌*◌, ◌/◌, ◌%◌, ◌<◌, ◌==◌, ◌&&◌, ◌∙◌, ◌++◌, Bool, true, false, nat_le, nat_lt, List, [], ◌∷◌, map, get_or, ap, sym, refl, arith, if◌then◌else◌, Some, None}
use Rattle.std.specs.Char.{digit_value}
use Rattle.std.proofs.lemmas.Bool.{eqb-true, lt-ltb}
use Rattle.std.proofs.lemmas.Bool.Decides.{nat_tests}
use Rattle.std.specs.Str.Parse.{digits_value}
use Rattle.std.specs.List.{All, flat_map}
use Rattle.input_escapes.specs.Escapes.{Bytes, after_backslash, bounded, byte_of, escaped, escaped_in_text, form_of, head, hexadecimal, number_at, number_head, number_written, head_of_number, piece, stands_for}
use Rattle.input_escapes.specs.Texts.{IsPiece, StandsFor}
use Rattle.input_escapes.specs.declared.form.NumberForm.TheVariants.{Hexadecimal}

-- a digit in upper case has its value
digit_read : (d : ℕ) → d < 16 → digit_value (hexadecimal d) ≡ d
digit_read d below = grind (arith, nat_tests)

two_digits : (x y n m : ℕ) → digit_value x ≡ n → digit_value y ≡ m → n < 16 → m < 16 → number_written 16 (x ∷ y ∷ []) ≡ Some (n * 16 + m)
unfolding number_written
two_digits x y n m is_n is_m low_n low_m =
    let first : nat_lt (digit_value x) 16 ≡ true = lt-ltb (digit_value x) 16 (omega arith) in
    let second : nat_lt (digit_value y) 16 ≡ true = lt-ltb (digit_value y) 16 (omega arith) in
    let value : digits_value 16 (x ∷ y ∷ []) ≡ n * 16 + m = omega arith in
    ap (λ t. if t && (nat_lt (digit_value y) 16 && true) then Some (digits_value 16 (x ∷ y ∷ [])) else None) first
    ∙ ap (λ t. if t && true then Some (digits_value 16 (x ∷ y ∷ [])) else None) second ∙ ap Some value

hexadecimal_piece : (b : ℕ) → b < 256 → head (92 ∷ 120 ∷ hexadecimal (b / 16) ∷ hexadecimal (b % 16) ∷ []) ≡ piece 4 (b ∷ [])
unfolding head after_backslash byte_of form_of number_head number_at stands_for
hexadecimal_piece b below =
    let high : b / 16 < 16 = omega arith in
    let low : b % 16 < 16 = omega arith in
    let whole : b / 16 * 16 + b % 16 ≡ b = omega arith in
    let small : nat_lt b 256 ≡ true = lt-ltb b 256 below in
    ap (head_of_number Hexadecimal) (two_digits (hexadecimal (b / 16)) (hexadecimal (b % 16)) (b / 16) (b % 16) (digit_read (b / 16) high) (digit_read (b % 16) low) high low
    ∙ ap Some whole)
    ∙ ap (λ t. bounded 4 (if t then Some (b ∷ []) else None)) small

plain_piece : (b : ℕ) → (b == 92) ≡ false → head (b ∷ []) ≡ piece 1 (b ∷ [])
unfolding head
plain_piece b other = ap (λ t. if t then after_backslash [] else piece 1 (b ∷ [])) other

backslash_piece : (b : ℕ) → b ≡ 92 → head (92 ∷ 92 ∷ []) ≡ piece 2 (b ∷ [])
unfolding head after_backslash byte_of
backslash_piece b is = ap (λ x. piece 2 (x ∷ [])) (sym is)

by_range : (in_range : Bool) (b : ℕ) → b < 256 → (b == 92) ≡ false
    → IsPiece ((if in_range then b ∷ [] else 92 ∷ 120 ∷ hexadecimal (b / 16) ∷ hexadecimal (b % 16) ∷ []), b ∷ [])
by_range true b below other = plain_piece b other
by_range false b below other = hexadecimal_piece b below

by_backslash : (is_backslash : Bool) (b : ℕ) → b < 256 → (b == 92) ≡ is_backslash
    → IsPiece ((if is_backslash then 92 ∷ 92 ∷ [] else (if nat_le 32 b && nat_le b 126 then b ∷ [] else 92 ∷ 120 ∷ hexadecimal (b / 16) ∷ hexadecimal (b % 16) ∷ [])), b ∷ [])
by_backslash true b below is = backslash_piece b (eqb-true b 92 is)
by_backslash false b below other = by_range (nat_le 32 b && nat_le b 126) b below other

-- what is written for a byte is a piece that stands for it
pub escaped_piece : (b : ℕ) → b < 256 → IsPiece (escaped b, b ∷ [])
unfolding escaped
escaped_piece b below = by_backslash (b == 92) b below refl

by_ascii : (is_ascii : Bool) (b : ℕ) → b < 256 → nat_lt b 128 ≡ is_ascii → IsPiece ((if is_ascii then escaped b else b ∷ []), b ∷ [])
by_ascii true b below is = escaped_piece b below
by_ascii false b below high = plain_piece b (grind (arith, nat_tests))

pub text_piece : (b : ℕ) → b < 256 → IsPiece (escaped_in_text b, b ∷ [])
unfolding escaped_in_text
text_piece b below = by_ascii (nat_lt b 128) b below refl

-- texts of pieces, one for each byte
pairs : (ℕ → Bytes) → Bytes → List (Bytes × Bytes)
pairs f = map (λ b. (f b, b ∷ []))

each_piece : (f : ℕ → Bytes) (bytes : Bytes) → ((b : ℕ) → b < 256 → IsPiece (f b, b ∷ [])) → ((i : ℕ) → get_or bytes i 0 < 256) → All IsPiece (pairs f bytes)
unfolding pairs
each_piece f [] is fits k d below = absurd (omega arith)
each_piece f (b ∷ bytes) is fits zero d below = is b (fits 0)
each_piece f (b ∷ bytes) is fits (suc k) d below = each_piece f bytes is (λ i. fits (suc i)) k d (omega arith)

texts_joined : (f : ℕ → Bytes) (bytes : Bytes) → flat_map f bytes ≡ flat_map (λ p. p.0) (pairs f bytes)
unfolding pairs
texts_joined f [] = refl
texts_joined f (b ∷ bytes) = ap (λ t. f b ++ t) (texts_joined f bytes)

bytes_joined : (f : ℕ → Bytes) (bytes : Bytes) → bytes ≡ flat_map (λ p. p.1) (pairs f bytes)
unfolding pairs
bytes_joined f [] = refl
bytes_joined f (b ∷ bytes) = ap (λ t. b ∷ t) (bytes_joined f bytes)

-- what is written for bytes stands for them
pub written_stands : (f : ℕ → Bytes) (bytes : Bytes) → ((b : ℕ) → b < 256 → IsPiece (f b, b ∷ [])) → ((i : ℕ) → get_or bytes i 0 < 256)
    → StandsFor (flat_map f bytes) bytes
written_stands f bytes is fits = record {
  pieces = pairs f bytes;
  each = each_piece f bytes is fits;
  text_is = texts_joined f bytes;
  bytes_are = bytes_joined f bytes;
}
