-- The bits of a number: how many there are, the number that they write, its upper and its lower part, and one bit more.
use Rattle.std.proofs.Common.{◌≡◌, ℕ, ◌+◌, ◌-◌, ◌*◌, ◌/◌, ◌%◌, ◌^◌, ◌<◌, Bool, List, [], ◌∷◌, ◌++◌, length, zero, suc, refl, length-append, ap, sym, ◌∙◌, append_assoc, append-nil, add-zero, arith}
use Rattle.std.specs.Prelude.{◌==◌}
use Rattle.std.proofs.lemmas.Bool.Decides.{nat_tests}
use Rattle.std.proofs.lemmas.Nat.{shr-shr, shr_high}
use Rattle.std.proofs.Math.Nat.{pow-suc}
use Rattle.bar_base.specs.Bits.{to_bits}

-- a number and what follows its bits
pub record SameNumber (m n : ℕ) (x y : List Bool) : Type 0 where
  pub number : m ≡ n
  pub rest : x ≡ y

pub to_bits_once : (width m n : ℕ) (x y : List Bool) → m < 2 ^ width → n < 2 ^ width →
    to_bits width m ++ x ≡ to_bits width n ++ y → SameNumber m n x y
unfolding to_bits
to_bits_once zero m n x y below-m below-n same = record { number = omega arith; rest = same }
to_bits_once (suc width) m n x y below-m below-n same =
    let h : SameNumber (m / 2) (n / 2) ((m % 2 == 1) ∷ x) ((n % 2 == 1) ∷ y) =
    to_bits_once width (m / 2) (n / 2) ((m % 2 == 1) ∷ x) ((n % 2 == 1) ∷ y) (omega arith) (omega arith)
    (sym (append_assoc (to_bits width (m / 2)) ((m % 2 == 1) ∷ []) x) ∙ same ∙ append_assoc (to_bits width (n / 2)) ((n % 2 == 1) ∷ []) y) in
    let last : (m % 2 == 1) ≡ (n % 2 == 1) = cc (h.rest) in
    record { number = same_last m n h.number last; rest = cc (h.rest) }
  where
    same_last : (m n : ℕ) → m / 2 ≡ n / 2 → (m % 2 == 1) ≡ (n % 2 == 1) → m ≡ n
    same_last m n halves last = grind (arith, nat_tests)

-- a number has as many bits as are asked for
pub length-to_bits : (width m : ℕ) → length (to_bits width m) ≡ width
unfolding to_bits
length-to_bits zero m = refl
length-to_bits (suc width) m = simp length-append (omega (arith, length-to_bits width (m / 2)))

-- the bits in front of the last one are those of half the number
pub to_bits-half : (width m : ℕ) → to_bits (suc width) m ≡ to_bits width (m / 2) ++ (m % 2 == 1) ∷ []
unfolding to_bits
to_bits-half width m = refl

-- pushing the bits of a number one by one: the bits of its front, and one more
pub pushed_none : (width number : ℕ) (bits : List Bool) → bits ≡ bits ++ to_bits 0 (number / 2 ^ (width - 0))
unfolding to_bits
pushed_none width number bits = sym (append-nil bits)

pub pushed_more : (width number i : ℕ) (start bits more : List Bool) (bit : Bool) → i < width → bits ≡ start ++ to_bits i (number / 2 ^ (width - i)) →
    bit ≡ (number / 2 ^ (width - 1 - i) % 2 == 1) → more ≡ bits ++ bit ∷ [] → more ≡ start ++ to_bits (i + 1) (number / 2 ^ (width - (i + 1)))
pushed_more width number i start bits more bit inside so-far is-bit pushed =
    let front : number / 2 ^ (width - 1 - i) / 2 ≡ number / 2 ^ (width - i) =
    shr-shr number (width - 1 - i) 1 ∙ ap (λ (k : ℕ). number / 2 ^ k) (let e : width - 1 - i + 1 ≡ width - i = omega arith in e) in
    pushed ∙ ap (λ (s : List Bool). s ++ bit ∷ []) so-far ∙ append_assoc start (to_bits i (number / 2 ^ (width - i))) (bit ∷ [])
    ∙ ap (λ (b : Bool). start ++ (to_bits i (number / 2 ^ (width - i)) ++ b ∷ [])) is-bit
    ∙ ap (λ (k : ℕ). start ++ (to_bits i k ++ (number / 2 ^ (width - 1 - i) % 2 == 1) ∷ [])) (sym front)
    ∙ ap (λ (s : List Bool). start ++ s) (sym (to_bits-half i (number / 2 ^ (width - 1 - i))))
    ∙ ap (λ (k : ℕ). start ++ to_bits k (number / 2 ^ (width - 1 - i))) (let e : suc i ≡ i + 1 = omega arith in e)
    ∙ ap (λ (k : ℕ). start ++ to_bits (i + 1) (number / 2 ^ k)) (let e : width - 1 - i ≡ width - (i + 1) = omega arith in e)

pub pushed_all : (width number : ℕ) (start bits : List Bool) → bits ≡ start ++ to_bits width (number / 2 ^ (width - width)) → bits ≡ start ++ to_bits width number
pushed_all width number start bits so-far =
    so-far ∙ ap (λ (k : ℕ). start ++ to_bits width (number / 2 ^ k)) (let e : width - width ≡ 0 = omega arith in e)
    ∙ ap (λ (k : ℕ). start ++ to_bits width k) (let e : number / 1 ≡ number = omega arith in e)

-- the bits of a number are those of its upper part and those of its lower part
pub to_bits-append : (high low n : ℕ) → to_bits (high + low) n ≡ to_bits high (n / 2 ^ low) ++ to_bits low n
unfolding to_bits
to_bits-append high zero n =
    ap (λ (w : ℕ). to_bits w n) (add-zero high) ∙ ap (to_bits high) (let e : n ≡ n / 1 = omega arith in e)
    ∙ sym (append-nil (to_bits high (n / 1)))
to_bits-append high (suc low) n =
    ap (λ (w : ℕ). to_bits w n) (let e : high + suc low ≡ suc (high + low) = omega arith in e)
    ∙ ap (λ (s : List Bool). s ++ (n % 2 == 1) ∷ []) (to_bits-append high low (n / 2))
    ∙ append_assoc (to_bits high (n / 2 / 2 ^ low)) (to_bits low (n / 2)) ((n % 2 == 1) ∷ [])
    ∙ ap (λ (k : ℕ). to_bits high k ++ (to_bits low (n / 2) ++ (n % 2 == 1) ∷ []))
    (shr-shr n 1 low ∙ ap (λ (k : ℕ). n / 2 ^ k) (let e : 1 + low ≡ suc low = omega arith in e))

-- a number's low bits do not depend on its upper part
pub to_bits-low : (width x y : ℕ) → to_bits width (x * 2 ^ width + y) ≡ to_bits width y
unfolding to_bits
to_bits-low zero x y = refl
to_bits-low (suc width) x y =
    let twice : x * 2 ^ suc width ≡ 2 * (x * 2 ^ width) =
    ap (λ (k : ℕ). x * k) (pow-suc 2 width) ∙ (let e : x * (2 ^ width * 2) ≡ 2 * (x * 2 ^ width) = omega arith in e) in
    ap (λ (b : Bool). to_bits width ((x * 2 ^ suc width + y) / 2) ++ b ∷ []) (ap (λ (k : ℕ). k == 1) (let e : (x * 2 ^ suc width + y) % 2 ≡ y % 2 = omega (arith, twice) in e))
    ∙ ap (λ (k : ℕ). to_bits width k ++ (y % 2 == 1) ∷ []) (let e : (x * 2 ^ suc width + y) / 2 ≡ x * 2 ^ width + y / 2 = omega (arith, twice) in e)
    ∙ ap (λ (s : List Bool). s ++ (y % 2 == 1) ∷ []) (to_bits-low width x (y / 2))

-- the bits of a number that is put together from an upper and a lower part
pub to_bits-parts : (high low x y : ℕ) → y < 2 ^ low → to_bits (high + low) (x * 2 ^ low + y) ≡ to_bits high x ++ to_bits low y
to_bits-parts high low x y below =
    to_bits-append high low (x * 2 ^ low + y)
    ∙ ap (λ (k : ℕ). to_bits high k ++ to_bits low (x * 2 ^ low + y)) (shr_high x low y below)
    ∙ ap (λ (s : List Bool). to_bits high x ++ s) (to_bits-low low x y)
