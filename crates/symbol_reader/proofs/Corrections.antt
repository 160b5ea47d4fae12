-- What the decoder answers over elements, said of their numbers.
use Rattle.std.proofs.Common.{◌≡◌, ℕ, ◌↔◌, Bool, true, List, length, map, sym, ap, subst, ◌∙◌, arith}
use Rattle.std.proofs.lemmas.List.{length-map}
use Rattle.galois.specs.CheckNumbers.{IsCheckWordIn, IsNearIn, known_apart}
use Rattle.galois.specs.CheckWord.{IsNearKnown, known_distance}
use Rattle.galois.proofs.CheckNumbers.{HasNumbers, elements_check, elements_of, known_apart-map, numbers_check}
use Rattle.rs_decode.specs.Nearness.{IsRestored}
use Rattle.symbol_reader.specs.Correction.{HasNoneNear, IsOnlyNear}

module _ {A : Type 0} {bits poly order : ℕ} {value : A → ℕ} {nought : A} {plus times : A → A → A} {power : ℕ → A}
    (carries : HasNumbers bits poly order value nought plus times power) (equal : A → A → Bool)
    (decides : (a b : A) → (equal a b ≡ true) ↔ (a ≡ b)) (check : ℕ) (lost : List Bool) (word : List A) where
  -- Numbers near those of a word are those of a near word.
  record NearElements (other : List ℕ) : Type 0 where
    elements : List A
    are : map value elements ≡ other
    near : IsNearKnown nought plus times power equal check lost word elements

  near_elements : (other : List ℕ) → IsNearIn bits poly check lost (map value word) other → NearElements other
  near_elements other is =
      let found = elements_of carries other is.check.each in
      let far : known_apart lost (map value word) other ≡ known_distance equal lost word found.0 =
      ap (λ (ns : List ℕ). known_apart lost (map value word) ns) (sym found.1) ∙ known_apart-map carries equal decides lost word found.0 in
      record {
        elements = found.0;
        are = found.1;
        near = record {
          long = sym (length-map found.0 value) ∙ ap length found.1 ∙ is.long ∙ length-map word value;
          check = elements_check carries found.0 check (subst (λ (ns : List ℕ). IsCheckWordIn bits poly ns check) (sym found.1) is.check);
          near = omega (arith, far, is.near);
        };
      }

  pub only_near : (new : List A) (errors : ℕ) → IsRestored nought plus times power equal check lost word new errors
      → IsOnlyNear bits poly check lost (map value word) (map value new) × (errors ≡ known_apart lost (map value word) (map value new))
  only_near new errors is =
      let far : known_apart lost (map value word) (map value new) ≡ known_distance equal lost word new = known_apart-map carries equal decides lost word new in (
        record {
          near = record {
            long = length-map new value ∙ is.near.long ∙ sym (length-map word value);
            check = numbers_check carries new check is.near.check;
            near = omega (arith, far, is.near.near);
          };
          only = λ another near. let found = near_elements another near in sym found.are ∙ ap (map value) (is.only found.elements found.near);
        },
        is.distance_is ∙ sym far,
      )

  pub none_near : ((other : List A) → IsNearKnown nought plus times power equal check lost word other → ⊥) → HasNoneNear bits poly check lost (map value word)
  none_near none other near = let found = near_elements other near in none found.elements found.near
