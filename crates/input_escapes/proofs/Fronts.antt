-- The piece at the front of a text depends on no byte after it, so no piece begins another.
use Rattle.std.proofs.Common.{◌≡◌, ℕ, suc, ◌+◌, ◌-◌, ◌<◌, ◌≤◌, ◌∙◌, [], ◌∷◌, ◌==◌, Bool, true, false, nat_lt, Option, Some, None, length, get_or, take, drop, if◌then◌else◌, refl, ap, sym, arith}
use Rattle.input_escapes.specs.Escapes.{Bytes, after_backslash, base_of, bounded, byte_of, digits_of, form_head, form_of, head, letter_head, number_at, number_head, number_written, head_of_number, piece, stands_for}
use Rattle.input_escapes.specs.declared.form.NumberForm.{NumberForm}

-- a text that is not empty, by its first byte and the rest
pub head_first : (t : Bytes) → 0 < length t → head t ≡ (if get_or t 0 0 == 92 then after_backslash (drop 1 t) else piece 1 (get_or t 0 0 ∷ []))
unfolding head
head_first [] some = absurd (omega arith)
head_first (b ∷ rest) some = refl

pub letter_first : (t : Bytes) → 0 < length t → after_backslash t ≡ letter_head (get_or t 0 0) (byte_of (get_or t 0 0)) (drop 1 t)
unfolding after_backslash
letter_first [] some = absurd (omega arith)
letter_first (letter ∷ rest) some = refl

-- a number that is read is there whole, and is read of every text that begins with its digits
number_there : (base count k : ℕ) (t : Bytes) → number_at base count t ≡ Some k → (count ≤ length t) × (number_written base (take count t) ≡ Some k)
unfolding number_at
number_there base count k t is =
    elim (nat_lt (length t) count) as (λ b. nat_lt (length t) count ≡ b → (if b then None else number_written base (take count t)) ≡ Some k → (count ≤ length t) × (number_written base (take count t) ≡ Some k)) [
      | true ↦ λ short none. cc
      | false ↦ λ long some. (grind arith, some)
    ] refl is

number_again : (base count : ℕ) (u : Bytes) → count ≤ length u → number_at base count u ≡ number_written base (take count u)
unfolding number_at
number_again base count u long =
    elim (nat_lt (length u) count) as (λ b. nat_lt (length u) count ≡ b → (if b then None else number_written base (take count u)) ≡ number_written base (take count u)) [
      | true ↦ λ short. absurd (grind arith)
      | false ↦ λ _. refl
    ] refl

-- the piece of a number has its digits, the letter and the backslash
bounded_size : (size n : ℕ) (o : Option Bytes) (b : Bytes) → bounded size o ≡ piece n b → n ≡ size
bounded_size size n None b is = cc
bounded_size size n (Some bytes) b is = cc

pub number_size : (f : NumberForm) (t : Bytes) (n : ℕ) (b : Bytes) → number_head f t ≡ piece n b → (n ≡ digits_of f + 2) × (digits_of f ≤ length t)
unfolding number_head
number_size f t n b is =
    elim (number_at (base_of f) (digits_of f) t) as (λ o. number_at (base_of f) (digits_of f) t ≡ o → head_of_number f o ≡ piece n b → (n ≡ digits_of f + 2) × (digits_of f ≤ length t)) [
      | None ↦ λ _ impossible. cc
      | Some k ↦ λ read e. (bounded_size (digits_of f + 2) n (stands_for f k) b e, (number_there (base_of f) (digits_of f) k t read).0)
    ] refl is

pub number_local : (f : NumberForm) (t u : Bytes) (n : ℕ) (b : Bytes) → number_head f t ≡ piece n b → take (digits_of f) u ≡ take (digits_of f) t
    → digits_of f ≤ length u → number_head f u ≡ piece n b
unfolding number_head
number_local f t u n b is same long =
    elim (number_at (base_of f) (digits_of f) t) as (λ o. number_at (base_of f) (digits_of f) t ≡ o → head_of_number f o ≡ piece n b → number_head f u ≡ piece n b) [
      | None ↦ λ _ impossible. cc
      | Some k ↦ λ read e. ap (head_of_number f) (number_again (base_of f) (digits_of f) u long ∙ ap (number_written (base_of f)) same
          ∙ (number_there (base_of f) (digits_of f) k t read).1) ∙ e
    ] refl is

form_local : (o : Option NumberForm) (t u : Bytes) (n : ℕ) (b : Bytes) → form_head o t ≡ piece n b
    → (2 ≤ n) × (n - 2 ≤ length t) × (take (n - 2) u ≡ take (n - 2) t → n - 2 ≤ length u → form_head o u ≡ piece n b)
form_local None t u n b is = cc
form_local (Some f) t u n b is =
    let size = number_size f t n b is in
    let two : 2 ≤ n = omega arith in
    let digits : n - 2 ≡ digits_of f = omega arith in
    let there : n - 2 ≤ length t = omega arith in
    (two, there, λ same long. number_local f t u n b is (ap (λ k. take k u) (sym digits) ∙ same ∙ ap (λ k. take k t) digits) (omega arith))

letter_local : (letter : ℕ) (o : Option ℕ) (t u : Bytes) (n : ℕ) (b : Bytes) → letter_head letter o t ≡ piece n b
    → (2 ≤ n) × (n - 2 ≤ length t) × (take (n - 2) u ≡ take (n - 2) t → n - 2 ≤ length u → letter_head letter o u ≡ piece n b)
letter_local letter None t u n b is = form_local (form_of letter) t u n b is
letter_local letter (Some byte) t u n b is =
    let size : n ≡ 2 = cc in
    let two : 2 ≤ n = omega arith in
    let there : n - 2 ≤ length t = omega arith in
    (two, there, λ same long. is)

cons_take : (m x y : ℕ) (u t : Bytes) → take (suc m) (x ∷ u) ≡ take (suc m) (y ∷ t) → (x ≡ y) × (take m u ≡ take m t)
cons_take m x y u t same = (cc, cc)

rest_local : (t u : Bytes) (n : ℕ) (b : Bytes) → after_backslash t ≡ piece n b
    → (2 ≤ n) × (n - 1 ≤ length t) × (take (n - 1) u ≡ take (n - 1) t → n - 1 ≤ length u → after_backslash u ≡ piece n b)
unfolding after_backslash
rest_local [] u n b is = cc
rest_local (letter ∷ t) [] n b is =
    let parts = letter_local letter (byte_of letter) t [] n b is in
    let two : 2 ≤ n = parts.0 in
    let there : n - 2 ≤ length t = parts.1 in
    (two, omega arith, λ same long. absurd (omega arith))
rest_local (letter ∷ t) (x ∷ u) n b is =
    let parts = letter_local letter (byte_of letter) t u n b is in
    let two : 2 ≤ n = parts.0 in
    let there : n - 2 ≤ length t = parts.1 in
    let one : n - 1 ≡ suc (n - 2) = omega arith in (
      two,
      omega arith,
      λ same long.
          let both = cons_take (n - 2) x letter u t (ap (λ k. take k (x ∷ u)) (sym one) ∙ same ∙ ap (λ k. take k (letter ∷ t)) one) in
          ap (λ k. letter_head k (byte_of k) u) both.0 ∙ parts.2 both.1 (omega arith),
    )

head_at : (is_backslash : Bool) (x : ℕ) (rest : Bytes) → (x == 92) ≡ is_backslash
    → head (x ∷ rest) ≡ (if is_backslash then after_backslash rest else piece 1 (x ∷ []))
unfolding head
head_at is_backslash x rest is = ap (λ k. if k then after_backslash rest else piece 1 (x ∷ [])) is

-- by whether the first byte is a backslash
first_local : (is_backslash : Bool) (x : ℕ) (t u : Bytes) (n : ℕ) (b : Bytes) → (x == 92) ≡ is_backslash
    → (if is_backslash then after_backslash t else piece 1 (x ∷ [])) ≡ piece n b
    → (1 ≤ n) × (n - 1 ≤ length t) × (take (n - 1) u ≡ take (n - 1) t → n - 1 ≤ length u → head (x ∷ u) ≡ piece n b)
first_local true x t u n b is_it is =
    let parts = rest_local t u n b is in
    let two : 2 ≤ n = parts.0 in
    (omega arith, parts.1, λ same long. head_at true x u is_it ∙ parts.2 same long)
first_local false x t u n b is_it is =
    let size : n ≡ 1 = cc in
    (omega arith, omega arith, λ same long. head_at false x u is_it ∙ is)

-- the piece at the front is there whole, and stands at the front of every text that begins with the same bytes
pub head_local : (t u : Bytes) (n : ℕ) (b : Bytes) → head t ≡ piece n b
    → (1 ≤ n) × (n ≤ length t) × (take n u ≡ take n t → n ≤ length u → head u ≡ piece n b)
unfolding head
head_local [] u n b is = cc
head_local (y ∷ t) [] n b is =
    let parts = first_local (y == 92) y t [] n b refl is in
    let one : 1 ≤ n = parts.0 in
    let there : n - 1 ≤ length t = parts.1 in
    (one, omega arith, λ same long. absurd (omega arith))
head_local (y ∷ t) (x ∷ u) n b is =
    let parts = first_local (y == 92) y t u n b refl is in
    let one : 1 ≤ n = parts.0 in
    let there : n - 1 ≤ length t = parts.1 in
    let next : n ≡ suc (n - 1) = omega arith in (
      one,
      omega arith,
      λ same long.
          let both = cons_take (n - 1) x y u t (ap (λ k. take k (x ∷ u)) (sym next) ∙ same ∙ ap (λ k. take k (y ∷ t)) next) in
          ap (λ k. head (k ∷ u)) both.0 ∙ parts.2 both.1 (omega arith),
    )
