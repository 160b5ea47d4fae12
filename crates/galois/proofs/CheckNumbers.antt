-- from check words over a field to those over the numbers of its elements, and back
use Rattle.std.proofs.Common.{◌≡◌, ℕ, ◌+◌, ◌-◌, ◌*◌, ◌^◌, ◌<◌, ◌≤◌, ◌↔◌, Bool, true, List, [], ◌∷◌, ◌++◌, length, drop, map, get_or, bit_xor, refl, sym, ap, ◌∙◌, subst, arith, length-append, length-drop}
use Rattle.std.specs.Prelude.{All, ◌==◌, ◌||◌, if◌then◌else◌}
use Rattle.std.proofs.lemmas.Bool.Decides.{same_from_decides, nat_tests}
use Rattle.std.proofs.lemmas.List.{map-append, length-map, take-append-drop}
use Rattle.std.proofs.lemmas.List.Elements.{All-map, All-drop, All-head, All-tail}
use Rattle.std.proofs.Math.Seq.{take-append_seam}
use Rattle.galois.specs.FieldLaws.{alpha_within, numbering_of, power_within, product_within, size_of, sum_within, zero_within}
use Rattle.galois.specs.Polynomials.{IsPrimitive, product_of, power_of}
use Rattle.galois.specs.CheckWord.{weighted_sum, check_sum, IsCheckWord, IsCheckOf, distance, known_distance}
use Rattle.galois.specs.CheckNumbers.{IsCheckWordIn, IsContinuation, apart, known_apart}
use Rattle.galois.specs.Field.{IsNumbering}

-- The numbers of elements carry the operations of a field to those on numbers.
pub record HasNumbers {A : Type 0} (bits poly order : ℕ) (value : A → ℕ) (nought : A) (plus times : A → A → A) (power : ℕ → A) : Type 0 where
  pub size : order + 1 ≡ 2 ^ bits
  pub numbering : IsNumbering value order
  pub zero_is : value nought ≡ 0
  pub sum_is : (a b : A) → value (plus a b) ≡ bit_xor (value a) (value b)
  pub product_is : (a b : A) → value (times a b) ≡ product_of bits poly (value a) (value b)
  pub power_is : (k : ℕ) → value (power k) ≡ power_of bits poly 2 k

-- The elements of the field of a primitive polynomial carry its operations to their numbers.
pub field_numbers : {A : Type 0} {bits order poly : ℕ} (primitive : IsPrimitive bits order poly) (make : (k : ℕ) → k ≤ order → A) (number : A → ℕ)
    (within : (a : A) → number a ≤ order) (back : (a : A) → make (number a) (within a) ≡ a) (forth : (k : ℕ) (kw : k ≤ order) → number (make k kw) ≡ k)
    → HasNumbers bits poly order number (make 0 (zero_within primitive))
    (λ a b. make (bit_xor (number a) (number b)) (sum_within primitive (number a) (number b) (within a) (within b)))
    (λ a b. make (product_of bits poly (number a) (number b)) (product_within primitive (number a) (number b) (within a)))
    (λ k. make (power_of bits poly 2 k) (power_within primitive 2 k (alpha_within primitive)))
field_numbers {A} {bits} {order} {poly} primitive make number within back forth = record {
  size = (size_of primitive).order_is;
  numbering = numbering_of make number within back forth;
  zero_is = forth 0 (zero_within primitive);
  sum_is = λ a b. forth (bit_xor (number a) (number b)) (sum_within primitive (number a) (number b) (within a) (within b));
  product_is = λ a b. forth (product_of bits poly (number a) (number b)) (product_within primitive (number a) (number b) (within a));
  power_is = λ k. forth (power_of bits poly 2 k) (power_within primitive 2 k (alpha_within primitive));
}

module _ {A : Type 0} {bits poly order : ℕ} {value : A → ℕ} {nought : A} {plus times : A → A → A} {power : ℕ → A}
    (carries : HasNumbers bits poly order value nought plus times power) where
  weighted_sum-map : (weight : ℕ → A) (weight' : ℕ → ℕ) → ((m : ℕ) → value (weight m) ≡ weight' m) → (w : List A) →
      weighted_sum 0 bit_xor (product_of bits poly) weight' (map value w) ≡ value (weighted_sum nought plus times weight w)
  unfolding weighted_sum
  weighted_sum-map weight weight' weights [] = sym carries.zero_is
  weighted_sum-map weight weight' weights (x ∷ w) =
      rw (
        weighted_sum-map weight weight' weights w,
        length-map w value,
        carries.sum_is (times x (weight (length w))) (weighted_sum nought plus times weight w),
        carries.product_is x (weight (length w)),
        weights (length w),
      ) refl

  check_sum-map : (w : List A) (k : ℕ) → check_sum 0 bit_xor (product_of bits poly) (power_of bits poly 2) (map value w) k ≡ value (check_sum nought plus times power w k)
  unfolding check_sum
  check_sum-map w k = weighted_sum-map (λ place. power (k * place)) (λ place. power_of bits poly 2 (k * place)) (λ place. carries.power_is (k * place)) w

  pub all_numbers : (word : List A) → All (λ number. number < 2 ^ bits) (map value word)
  all_numbers word = All-map (λ number. number < 2 ^ bits) value word (λ k d below. omega (arith, carries.size, carries.numbering.within (get_or word k d)))

  -- the numbers of a check word are one
  pub numbers_check : (word : List A) (count : ℕ) → IsCheckWord nought plus times power word count → IsCheckWordIn bits poly (map value word) count
  numbers_check word count is = record {
    each = all_numbers word;
    check = record { root = λ k low high. check_sum-map word k ∙ ap value (is.root k low high) ∙ carries.zero_is };
  }

  -- and elements are one where their numbers are
  pub elements_check : (word : List A) (count : ℕ) → IsCheckWordIn bits poly (map value word) count → IsCheckWord nought plus times power word count
  elements_check word count is = record {
    root = λ k low high. carries.numbering.same (check_sum nought plus times power word k) nought (sym (check_sum-map word k) ∙ is.check.root k low high ∙ sym carries.zero_is);
  }

  -- numbers of so many bits are those of elements
  pub elements_of : (numbers : List ℕ) → All (λ number. number < 2 ^ bits) numbers → (word : List A) × (map value word ≡ numbers)
  elements_of [] small = ([], refl)
  elements_of (n ∷ numbers) small =
      let first : n < 2 ^ bits = All-head (λ number. number < 2 ^ bits) n numbers small in
      let (a, is) = carries.numbering.onto n (omega (arith, carries.size)) in
      let (word, are) = elements_of numbers (All-tail (λ number. number < 2 ^ bits) n numbers small) in
      (a ∷ word, ap (λ (k : ℕ). k ∷ map value word) is ∙ ap (λ (ks : List ℕ). n ∷ ks) are)

  -- the numbers of a front and of its check elements are the only check word that begins with those of the front
  pub continued : (front check : List A) → IsCheckOf nought plus times power front check →
      IsContinuation bits poly (map value front) (length check) (map value front ++ map value check)
  continued front check is =
      let whole : map value (front ++ check) ≡ map value front ++ map value check = map-append value front check in
      record {
        continues = record {
          begins = take-append_seam (map value front) (map value check);
          counted = length-append (map value front) (map value check) ∙ ap (λ (n : ℕ). length (map value front) + n) (length-map check value);
          check = subst (λ (ns : List ℕ). IsCheckWordIn bits poly ns (length check)) whole (numbers_check (front ++ check) (length check) is.word);
        };
        only = λ other more.
            let n : ℕ = length (map value front) in
            let (rest, are) = elements_of (drop n other) (All-drop (λ number. number < 2 ^ bits) n other more.check.each) in
            let split : other ≡ map value front ++ map value rest =
            sym (take-append-drop n other) ∙ ap (λ (ns : List ℕ). ns ++ drop n other) more.begins ∙ ap (λ (ns : List ℕ). map value front ++ ns) (sym are) in
            let long : length rest ≡ length check =
            let e : length (drop n other) ≡ length other - n = length-drop n other in
            let f : length (map value rest) ≡ length rest = length-map rest value in
            let g : length (map value rest) ≡ length (drop n other) = ap length are in
            omega (arith, e, f, g, more.counted) in
            let same : rest ≡ check =
            is.only rest long (elements_check (front ++ rest) (length check)
            (subst (λ (ns : List ℕ). IsCheckWordIn bits poly ns (length check)) (split ∙ sym (map-append value front rest)) more.check)) in
            split ∙ ap (λ (es : List A). map value front ++ map value es) same;
      }

  module _ (equal : A → A → Bool) (decides : (a b : A) → (equal a b ≡ true) ↔ (a ≡ b)) where
    same_test : (a b : A) → (value a == value b) ≡ equal a b
    same_test a b =
        same_from_decides {P = a ≡ b} (value a == value b) (equal a b)
        (λ is. carries.numbering.same a b (grind (arith, nat_tests)), λ is. grind (arith, nat_tests)) (decides a b)

    -- words are as far apart as their numbers are
    pub apart-map : (v w : List A) → apart (map value v) (map value w) ≡ distance equal v w
    unfolding distance
    apart-map [] w = refl
    apart-map (x ∷ v) [] = refl
    apart-map (x ∷ v) (y ∷ w) =
        ap (λ (b : Bool). (if b then 0 else 1) + apart (map value v) (map value w)) (same_test x y)
        ∙ ap (λ (n : ℕ). (if equal x y then 0 else 1) + n) (apart-map v w)

    pub known_apart-map : (lost : List Bool) (v w : List A) → known_apart lost (map value v) (map value w) ≡ known_distance equal lost v w
    unfolding known_distance
    known_apart-map [] v w = apart-map v w
    known_apart-map (gone ∷ lost) [] w = refl
    known_apart-map (gone ∷ lost) (x ∷ v) [] = refl
    known_apart-map (gone ∷ lost) (x ∷ v) (y ∷ w) =
        ap (λ (b : Bool). (if gone || b then 0 else 1) + known_apart lost (map value v) (map value w)) (same_test x y)
        ∙ ap (λ (n : ℕ). (if gone || equal x y then 0 else 1) + n) (known_apart-map lost v w)
