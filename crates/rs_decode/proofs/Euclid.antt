-- what the steps of Euclid's algorithm keep, and what they end with
use Rattle.std.proofs.Common.{◌≡◌, ◌≢◌, ℕ, ◌+◌, ◌<◌, ◌≤◌, sym, ◌∙◌, ap, arith, List, [], ◌∷◌, ◌++◌, length, length-append}
use Rattle.galois.specs.Field.{IsField}
use Rattle.galois.proofs.Sums.{nought_add, add_nought, nought_mul, mul_nought, unit_mul, mul_unit, add_self, add_again, add_comm, add_assoc, add_left, mul_comm, mul_assoc, mul_left, distributes, distributes_right}
use Rattle.galois.specs.Coefficients.{product_coefficient, total, added, added_behind, lead}
use Rattle.galois.specs.Locator.{IsLocator}
use Rattle.rs_decode.specs.Euclid.{IsEuclid}
use Rattle.galois.proofs.Coefficients.{moved, coefficient-nought_behind, total-nought_behind, coefficient-added, total-added, length-added, length-moved, total-moved, added_behind-moved, moved_agrees, coefficient-noughts, total-noughts, lead-past, total-vanishing}

module _ {A : Type 0} {nought unit : A} {plus times : A → A → A} {inverse : A → A} {power : ℕ → A} {order : ℕ} (laws : IsField nought unit plus times inverse power order) (series : ℕ → A) (few : ℕ) where
  pub turned_round : (p u q v : List A) → IsEuclid nought unit plus times series few p u q v → IsEuclid nought unit plus times series few q v p u
  turned_round p u q v is = record {
    high_width = is.low_width;
    low_width = is.high_width;
    high_agrees = is.low_agrees;
    low_agrees = is.high_agrees;
    whole = add_comm laws _ _ ∙ is.whole;
  }

  -- the lower remainder, whose highest coefficient is nought, is cut by it
  pub shortened : (p u q v : List A) → IsEuclid nought unit plus times series few p u (q ++ nought ∷ []) v →
      IsEuclid nought unit plus times series few p (u ++ nought ∷ []) q v
  shortened p u q v is = record {
    high_width = is.high_width;
    low_width =
        let a : length (q ++ nought ∷ []) ≡ length q + 1 = length-append q (nought ∷ []) in
        let b : length (u ++ nought ∷ []) ≡ length u + 1 = length-append u (nought ∷ []) in
        let c : _ = is.low_width in
        omega (arith, a, b, c);
    high_agrees = λ t below. coefficient-nought_behind laws series u t ∙ is.high_agrees t below;
    low_agrees = λ t below. is.low_agrees t below ∙ coefficient-nought_behind laws (lead nought unit) q t;
    whole = rw (total-nought_behind laws u) (rw (total-nought_behind laws q) at is.whole);
  }

  still_whole : (f p u q v : A) → plus (times (plus p (times f q)) v) (times q (plus u (times f v))) ≡ plus (times p v) (times q u)
  still_whole f p u q v = simp (nought_add laws, add_nought laws, nought_mul laws, mul_nought laws, unit_mul laws, mul_unit laws, add_self laws, add_again laws, add_comm laws, add_assoc laws, add_left laws, mul_comm laws, mul_assoc laws, mul_left laws, distributes laws, distributes_right laws)

  -- a multiple of the lower remainder is taken off the higher, whose highest coefficient becomes nought
  pub reduced : (f : A) (d : ℕ) (p u q v less : List A) → IsEuclid nought unit plus times series few p u q v → d + length q ≡ length p →
      added_behind plus times f d p q ≡ less ++ nought ∷ [] →
      IsEuclid nought unit plus times series few less (added_behind plus times f d u v) q (v ++ nought ∷ [])
  reduced f d p u q v less is wide cut =
      let wide_u : d + length v ≡ length u = let a : _ = is.high_width in let b : _ = is.low_width in omega (arith, a, b, wide) in
      let long : length (moved nought d q) ≡ d + length q = length-moved laws d q in
      let long_v : length (moved nought d v) ≡ d + length v = length-moved laws d v in
      let at_p : added_behind plus times f d p q ≡ added plus times f p (moved nought d q) = added_behind-moved laws f d p q (omega arith) in
      let at_u : added_behind plus times f d u v ≡ added plus times f u (moved nought d v) = added_behind-moved laws f d u v (omega arith) in
      let less_is : less ++ nought ∷ [] ≡ added plus times f p (moved nought d q) = sym cut ∙ at_p in
      let less_long : length less + 1 ≡ length p =
      sym (length-append less (nought ∷ [])) ∙ ap length less_is ∙ length-added laws f p (moved nought d q) in
      record {
        high_width =
            let b : length (v ++ nought ∷ []) ≡ length v + 1 = length-append v (nought ∷ []) in
            let c : _ = is.high_width in
            omega (arith, b, c, less_long);
        low_width = rw (at_u, length-added laws f u (moved nought d v)) is.low_width;
        high_agrees = λ t below.
            rw at_u (coefficient-added laws series f u (moved nought d v) t (omega arith) ∙
            rw (is.high_agrees t below, moved_agrees laws series (lead nought unit) few d v q is.low_agrees t below)
            (sym (coefficient-added laws (lead nought unit) f p (moved nought d q) t (omega arith)) ∙
            sym (ap (λ l. product_coefficient nought plus times (lead nought unit) l t) less_is) ∙ coefficient-nought_behind laws (lead nought unit) less t));
        low_agrees = λ t below. coefficient-nought_behind laws series v t ∙ is.low_agrees t below;
        whole =
            let of_less : total nought plus less ≡ plus (total nought plus p) (times f (total nought plus q)) =
            sym (total-nought_behind laws less) ∙ ap (total nought plus) less_is ∙ total-added laws f p (moved nought d q) (omega arith) ∙
            ap (λ x. plus (total nought plus p) (times f x)) (total-moved laws d q) in
            let of_u : total nought plus (added_behind plus times f d u v) ≡ plus (total nought plus u) (times f (total nought plus v)) =
            ap (total nought plus) at_u ∙ total-added laws f u (moved nought d v) (omega arith) ∙
            ap (λ x. plus (total nought plus u) (times f x)) (total-moved laws d v) in
            rw (of_less, of_u, total-nought_behind laws v)
            (still_whole f (total nought plus p) (total nought plus u) (total nought plus q) (total nought plus v) ∙ is.whole);
      }

  unit_nonzero : unit ≢ nought
  unit_nonzero same = laws.power_nonzero 0 (laws.power_zero ∙ same)

  -- where the lower remainder has come down to half of the coefficients, its factor is a locator
  pub located : (half : ℕ) (p u q v : List A) → IsEuclid nought unit plus times series few p u q v → few ≡ half + half →
      length q ≤ half → half < length p → IsLocator nought plus times series half v
  located half p u q v is twice low high = record {
    short = let a : _ = is.high_width in omega (arith, a);
    some = λ noughts.
        let none : (t : ℕ) → t < length q → product_coefficient nought plus times (lead nought unit) q t ≡ nought =
        λ t below. sym (is.low_agrees t (omega arith)) ∙ ap (λ l. product_coefficient nought plus times series l t) noughts ∙ coefficient-noughts laws series (length v) t in
        let total_q : total nought plus q ≡ nought = total-vanishing laws q none in
        let total_v : total nought plus v ≡ nought = ap (total nought plus) noughts ∙ total-noughts laws (length v) in
        unit_nonzero (sym is.whole ∙ rw (total_q, total_v) (simp (nought_add laws, add_nought laws, nought_mul laws, mul_nought laws, unit_mul laws, mul_unit laws, add_self laws, add_again laws, add_comm laws, add_assoc laws, add_left laws, mul_comm laws, mul_assoc laws, mul_left laws, distributes laws, distributes_right laws)));
    vanishes = λ t above below. is.low_agrees t (omega arith) ∙ lead-past laws q t (omega arith);
  }
