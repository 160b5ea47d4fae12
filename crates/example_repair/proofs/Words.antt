-- What the decoder answers over elements, said of bytes.
use Rattle.std.proofs.Common.{◌≡◌, ℕ, ◌-◌, ◌≤◌, ◌↔◌, Bool, true, List, length, map, take, sym, ap, subst, ◌∙◌, arith}
use Rattle.std.proofs.lemmas.List.{length-map, length-take, take-map}
use Rattle.galois.specs.CheckNumbers.{IsCheckWordIn, apart, polynomial_of}
use Rattle.galois.specs.CheckWord.{IsNear, distance}
use Rattle.galois.proofs.CheckNumbers.{HasNumbers, apart-map, elements_check, elements_of, numbers_check}
use Rattle.rs_decode.specs.Nearness.{IsCorrected}
use Rattle.example_repair.specs.Repairs.{CameOf}

module _ {A : Type 0} {order : ℕ} {value : A → ℕ} {nought : A} {plus times : A → A → A} {power : ℕ → A}
    (carries : HasNumbers 8 (polynomial_of 8) order value nought plus times power) (equal : A → A → Bool)
    (decides : (a b : A) → (equal a b ≡ true) ↔ (a ≡ b)) (check : ℕ) (word : List A) (damaged : List ℕ) (are : map value word ≡ damaged) where
  long : length word ≡ length damaged
  long = sym (length-map word value) ∙ ap length are

  far : (other : List A) → apart damaged (map value other) ≡ distance equal word other
  far other = ap (λ (ns : List ℕ). apart ns (map value other)) (sym are) ∙ apart-map carries equal decides word other

  -- The elements of the message and check bytes that damaged bytes came of are near.
  record NearElements (sent : List ℕ) : Type 0 where
    elements : List A
    same : map value elements ≡ sent
    near : IsNear nought plus times power equal check word elements

  near_elements : (message : List ℕ) (wrong : ℕ) (came : CameOf check damaged message wrong) → NearElements came.sent
  near_elements message wrong came =
      let found = elements_of carries came.sent came.protects.check.each in
      let apart_is : apart damaged came.sent ≡ distance equal word found.0 = ap (apart damaged) (sym found.1) ∙ far found.0 in
      record {
        elements = found.0;
        same = found.1;
        near = record {
          long = sym (length-map found.0 value) ∙ ap length found.1 ∙ came.long ∙ sym long;
          check = elements_check carries found.0 check (subst (λ (ns : List ℕ). IsCheckWordIn 8 (polynomial_of 8) ns check) (sym found.1) came.protects.check);
          near = omega (arith, apart_is, came.counted, came.few);
        };
      }

  -- The corrected word begins with the message, and the answer is how many bytes are wrong.
  pub finds_all : (new : List A) (errors : ℕ) (found : List ℕ) → IsCorrected nought plus times power equal check word new errors
      → found ≡ map value (take (length damaged - check) new)
      → (message : List ℕ) (wrong : ℕ) → CameOf check damaged message wrong → (found ≡ message) × (errors ≡ wrong)
  finds_all new errors found is found_is message wrong came =
      let elements = near_elements message wrong came in
      let sent : came.sent ≡ map value new = sym elements.same ∙ ap (map value) (is.only elements.elements elements.near) in
      let front : length message ≡ length damaged - check = omega (arith, came.protects.counted, came.long) in (
        found_is ∙ sym (take-map value (length damaged - check) new) ∙ ap (take (length damaged - check)) (sym sent) ∙ ap (λ (n : ℕ). take n came.sent) (sym front)
            ∙ came.protects.begins,
        is.distance_is ∙ sym (far new) ∙ ap (apart damaged) (sym sent) ∙ sym came.counted,
      )

  -- Where no check word is near, the bytes came of no message.
  pub finds_none : ((other : List A) → IsNear nought plus times power equal check word other → ⊥) → (message : List ℕ) (wrong : ℕ) → CameOf check damaged message wrong → ⊥
  finds_none none message wrong came = let elements = near_elements message wrong came in none elements.elements elements.near

  -- The bytes came of what the corrected word begins with.
  pub finds_only : (new : List A) (errors : ℕ) (found : List ℕ) → IsCorrected nought plus times power equal check word new errors
      → found ≡ map value (take (length damaged - check) new) → check ≤ length damaged → CameOf check damaged found errors
  finds_only new errors found is found_is few =
      let new_long : length new ≡ length word = is.near.long in
      let found_long : length found ≡ length damaged - check =
      ap length found_is ∙ length-map (take (length damaged - check) new) value ∙ omega (arith, length-take (length damaged - check) new, new_long, long) in
      record {
        sent = map value new;
        protects = record {
          begins = ap (λ (n : ℕ). take n (map value new)) found_long ∙ take-map value (length damaged - check) new ∙ sym found_is;
          counted = omega (arith, length-map new value, found_long, new_long, long);
          check = numbers_check carries new check is.near.check;
        };
        long = length-map new value ∙ new_long ∙ long;
        counted = is.distance_is ∙ sym (far new);
        few = omega (arith, is.near.near, is.distance_is);
      }
