-- Eight pixels as a byte, and light rows.
use Rattle.std.proofs.Common.{◌≡◌, ℕ, zero, suc, ◌+◌, ◌*◌, ◌/◌, ◌^◌, ◌<◌, ◌≤◌, Bool, true, false, List, [], ◌∷◌, ◌++◌, length, replicate, get_or, refl, ap, ◌∙◌, arith, if◌then◌else◌}
use Rattle.std.proofs.lemmas.List.{append-nil}
use Rattle.std.proofs.Math.Nat.{div-mul-le_self, pow-suc}
use Rattle.std.proofs.lemmas.Nat.{le-div}
use mir.Val.{bool_byte}
use Rattle.std.proofs.lemmas.List.FromFn.{length-map-range_with_len}
use Rattle.bar_base.specs.Bits.{number_after}
use Rattle.bar_base.specs.Paint.{unit_of}
use Rattle.bar_base.specs.declared.paint.Paint.{Paint}
use Rattle.bmp_io.specs.Pixels.{pixel, eight_pixels, pixel_row}
use Rattle.bmp_io.proofs.Lists.{map-range_same}

-- one bit more
pub number_after-push : (front : ℕ) (bits : List Bool) (bit : Bool) → number_after front (bits ++ bit ∷ []) ≡ number_after front bits * 2 + (if bit then 1 else 0)
unfolding number_after
number_after-push front [] bit = refl
number_after-push front (first ∷ bits) bit = number_after-push (front * 2 + (if first then 1 else 0)) bits bit

-- equal items, whatever is past them
pub get_or-same : {X : Type 0} (n : ℕ) (x : X) (i : ℕ) → get_or (replicate n x) i x ≡ x
get_or-same zero x i = refl
get_or-same (suc n) x zero = refl
get_or-same (suc n) x (suc i) = get_or-same n x i

-- a row without modules is light
pub pixel-light : (paint : Paint) (p : ℕ) → pixel paint [] p ≡ false
pixel-light paint p = ap (λ row. get_or row (p / unit_of paint) false) (append-nil (replicate paint.white false)) ∙ get_or-same paint.white false (p / unit_of paint)

-- eight pixels of one colour
pub eight-same : (paint : Paint) (modules : List Bool) (p : ℕ) (dark : Bool) → ((i : ℕ) → i < 8 → pixel paint modules (p + i) ≡ dark) →
    eight_pixels paint modules p ≡ (if dark then 255 else 0)
unfolding eight_pixels number_after
eight-same paint modules p true same = ap (number_after 0) (map-range_same (pixel paint modules) true p 8 same)
eight-same paint modules p false same = ap (number_after 0) (map-range_same (pixel paint modules) false p 8 same)

-- a row without modules has bytes of 0
pub pixel_row-light : (paint : Paint) (bytes : ℕ) → pixel_row paint bytes [] ≡ replicate bytes 0
unfolding pixel_row
pixel_row-light paint bytes =
    map-range_same (λ k. eight_pixels paint [] (8 * k)) 0 0 bytes (λ k below. eight-same paint [] (8 * (0 + k)) false (λ i few. pixel-light paint (8 * (0 + k) + i)))

-- a greater number has no lower quotient
pub div-le-div : (a b u : ℕ) → 0 < u → a ≤ b → a / u ≤ b / u
div-le-div a b u some below = le-div (a / u) b u some (omega (arith, div-mul-le_self a u))

-- eight places in one block
pub same_block : (u p i : ℕ) → 0 < u → i < 8 → (p + 7) / u ≡ p / u → (p + i) / u ≡ p / u
same_block u p i some few same =
    let low : p / u ≤ (p + i) / u = div-le-div p (p + i) u some (omega arith) in
    let high : (p + i) / u ≤ (p + 7) / u = div-le-div (p + i) (p + 7) u some (omega arith) in
    omega (arith, low, high, same)

-- a bit as a number
pub bit_number : (bit : Bool) → bool_byte bit ≡ (if bit then 1 else 0)
bit_number true = refl
bit_number false = refl

pub bit_number-small : (bit : Bool) → bool_byte bit ≤ 1
bit_number-small true = omega arith
bit_number-small false = omega arith

-- one bit more
pub below_double : (n bit i : ℕ) → n < 2 ^ i → bit ≤ 1 → n * 2 + bit < 2 ^ (i + 1)
below_double n bit i below small = let e : 2 ^ (i + 1) ≡ 2 ^ i * 2 = (let s : i + 1 ≡ suc i = omega arith in ap (λ k. 2 ^ k) s ∙ pow-suc 2 i) in omega (arith, e)

-- the bytes of a row of pixels
pub length-pixel_row : (paint : Paint) (bytes : ℕ) (modules : List Bool) → length (pixel_row paint bytes modules) ≡ bytes
unfolding pixel_row
length-pixel_row paint bytes modules = length-map-range_with_len (λ k. eight_pixels paint modules (8 * k)) 0 bytes
