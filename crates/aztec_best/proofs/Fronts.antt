-- What stands in front of elements, by what stands at a place.
use Rattle.std.proofs.Common.{◌≡◌, ℕ, ◌++◌, All, zero, suc, ◌+◌, ◌-◌, ◌<◌, ◌≤◌, length, List, [], ◌∷◌, drop, Some, None, slice_get, refl, ap, ◌∙◌, arith}
use Rattle.std.proofs.lemmas.List.{length-drop, drop-drop}
use Rattle.bar_base.specs.declared.element.Element.{Element}
use Rattle.bar_base.specs.declared.element.Element.TheVariants as element
use Rattle.std.proofs.lemmas.List.Elements.{All-nil, All-cons, All-head, All-tail}
use Rattle.bar_base.specs.Elements.{IsElement}
use Rattle.aztec_modes.specs.Entry.{bytes_as_elements}
use Rattle.aztec_best.specs.Front.{bytes_ahead}

-- the element at a place is the first of the rest
pub drop_there : {X : Type 0} (xs : List X) (place : ℕ) (x : X) → slice_get xs place ≡ Some x → drop place xs ≡ x ∷ drop (place + 1) xs
drop_there [] place x e = absurd (cc)
drop_there {X = X} (y ∷ xs) zero x e = let s : y ≡ x = cc in ap (λ (z : X). z ∷ xs) s
drop_there {X = X} (y ∷ xs) (suc place) x e = drop_there xs place x e ∙ ap (λ (n : ℕ). x ∷ drop n (y ∷ xs)) (let s : suc (place + 1) ≡ suc place + 1 = omega arith in s)

pub slice_get-drop : {X : Type 0} (xs : List X) (n k : ℕ) → slice_get (drop n xs) k ≡ slice_get xs (n + k)
slice_get-drop xs zero k = ap (slice_get xs) (let s : k ≡ 0 + k = omega arith in s)
slice_get-drop [] (suc n) k = refl
slice_get-drop (x ∷ xs) (suc n) k = slice_get-drop xs n k ∙ ap (slice_get (x ∷ xs)) (let s : suc (n + k) ≡ suc n + k = omega arith in s)

pub bytes_ahead-byte : (es : List Element) (place byte : ℕ) → slice_get es place ≡ Some (element.Byte byte)
    → bytes_ahead (drop place es) ≡ bytes_ahead (drop (place + 1) es) + 1
unfolding bytes_ahead
bytes_ahead-byte es place byte e = ap bytes_ahead (drop_there es place (element.Byte byte) e)

pub bytes_ahead-eci : (es : List Element) (place number : ℕ) → slice_get es place ≡ Some (element.Eci number) → bytes_ahead (drop place es) ≡ 0
unfolding bytes_ahead
bytes_ahead-eci es place number e = ap bytes_ahead (drop_there es place (element.Eci number) e)

pub bytes_ahead-fnc1 : (es : List Element) (place : ℕ) → slice_get es place ≡ Some element.Fnc1 → bytes_ahead (drop place es) ≡ 0
unfolding bytes_ahead
bytes_ahead-fnc1 es place e = ap bytes_ahead (drop_there es place element.Fnc1 e)

pub bytes_ahead-past : (es : List Element) (place : ℕ) → slice_get es place ≡ None → bytes_ahead (drop place es) ≡ 0
unfolding bytes_ahead
bytes_ahead-past [] zero e = refl
bytes_ahead-past [] (suc place) e = refl
bytes_ahead-past (x ∷ es) zero e = absurd (cc)
bytes_ahead-past (x ∷ es) (suc place) e = bytes_ahead-past es place e

bytes_ahead-length : (es : List Element) → bytes_ahead es ≤ length es
unfolding bytes_ahead
bytes_ahead-length [] = omega arith
bytes_ahead-length (element.Byte byte ∷ es) = omega (arith, bytes_ahead-length es)
bytes_ahead-length (element.Eci number ∷ es) = omega arith
bytes_ahead-length (element.Fnc1 ∷ es) = omega arith

pub bytes_ahead-most : (es : List Element) (place : ℕ) → place ≤ length es → place + bytes_ahead (drop place es) ≤ length es
bytes_ahead-most es place within = omega (arith, bytes_ahead-length (drop place es), length-drop place es)

-- where some byte stands, there is one more than behind it
bytes_ahead-tail : (es : List Element) → 1 ≤ bytes_ahead es → bytes_ahead es ≡ bytes_ahead (drop 1 es) + 1
unfolding bytes_ahead
bytes_ahead-tail [] some = absurd (omega arith)
bytes_ahead-tail (element.Byte byte ∷ es) some = refl
bytes_ahead-tail (element.Eci number ∷ es) some = absurd (omega arith)
bytes_ahead-tail (element.Fnc1 ∷ es) some = absurd (omega arith)

pub bytes_ahead-step : (es : List Element) (place bytes next : ℕ) → 0 < place → bytes ≡ bytes_ahead (drop place es) → next ≡ bytes_ahead (drop (place - 1) es)
    → 1 ≤ next → next ≡ bytes + 1
bytes_ahead-step es place bytes next some counted is many =
    let behind : drop 1 (drop (place - 1) es) ≡ drop place es = drop-drop 1 (place - 1) es ∙ ap (λ (n : ℕ). drop n es) (let e : place - 1 + 1 ≡ place = omega arith in e) in
    omega (arith, bytes_ahead-tail (drop (place - 1) es) (omega arith), ap bytes_ahead behind)

-- The first bytes of elements that begin with at least as many.
pub record FirstBytes (count : ℕ) (elements : List Element) : Type 0 where
  pub bytes : List ℕ
  pub rest : List Element
  pub size : length bytes ≡ count
  pub small : All (λ byte. byte < 256) bytes
  pub splits : elements ≡ bytes_as_elements bytes ++ rest

first_bytes-more : (count byte : ℕ) (es : List Element) → byte < 256 → FirstBytes count es → FirstBytes (suc count) (element.Byte byte ∷ es)
unfolding bytes_as_elements
first_bytes-more count byte es fits part = record {
  bytes = byte ∷ part.bytes;
  rest = part.rest;
  size = ap suc part.size;
  small = All-cons (λ b. b < 256) byte part.bytes fits part.small;
  splits = ap (λ (xs : List Element). element.Byte byte ∷ xs) part.splits;
}

pub first_bytes : (count : ℕ) (es : List Element) → All IsElement es → count ≤ bytes_ahead es → FirstBytes count es
unfolding bytes_ahead bytes_as_elements
first_bytes zero es ok low = record { bytes = []; rest = es; size = refl; small = All-nil (λ b. b < 256); splits = refl }
first_bytes (suc count) [] ok low = absurd (omega arith)
first_bytes (suc count) (element.Byte byte ∷ es) ok low =
    first_bytes-more count byte es (All-head IsElement (element.Byte byte) es ok)
    (first_bytes count es (All-tail IsElement (element.Byte byte) es ok) (omega arith))
first_bytes (suc count) (element.Eci number ∷ es) ok low = absurd (omega arith)
first_bytes (suc count) (element.Fnc1 ∷ es) ok low = absurd (omega arith)

-- As many bytes are in front as bytes begin the elements.
pub bytes_ahead-bytes : (bytes : List ℕ) (rest : List Element) → length bytes ≤ bytes_ahead (bytes_as_elements bytes ++ rest)
unfolding bytes_ahead bytes_as_elements
bytes_ahead-bytes [] rest = omega arith
bytes_ahead-bytes (byte ∷ bytes) rest = omega (arith, bytes_ahead-bytes bytes rest)
