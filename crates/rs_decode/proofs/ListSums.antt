-- sums of lists, and multiples of one list added to another
use Rattle.std.proofs.Common.{◌≡◌, ℕ, suc, ◌+◌, ◌<◌, ◌≤◌, sym, ◌∙◌, ap, refl, arith, List, [], ◌∷◌, ◌++◌, length, take, drop, set, get_or, append_assoc, append-nil, add-one}
use Rattle.std.proofs.Math.Seq.{take-suc-set}
use Rattle.std.proofs.lemmas.List.{drop-set-lt, take_all, drop_all}
use Rattle.galois.specs.Field.{IsField}
use Rattle.galois.specs.Coefficients.{total, added}
use Rattle.galois.proofs.Sums.{add_assoc, add_nought, nought_mul}
use Rattle.rs_decode.proofs.Loops.{rest_is}

-- one place more of a list to which a multiple is added
pub added_step : {A : Type 0} (plus times : A → A → A) (factor : A) (target source : List A) (i : ℕ) (x y v : A) → i < length target → i < length source →
    x ≡ get_or target i x → y ≡ get_or source i y → v ≡ plus x (times factor y) →
    take (i + 1) (set target i v) ++ added plus times factor (drop (i + 1) (set target i v)) (drop (i + 1) source) ≡
    take i target ++ added plus times factor (drop i target) (drop i source)
unfolding added
added_step plus times factor target source i x y v within within' is_x is_y is_v =
    let done : take (suc i) (set target i v) ++ added plus times factor (drop (suc i) (set target i v)) (drop (suc i) source) ≡
    take i target ++ added plus times factor (drop i target) (drop i source) =
    rw (take-suc-set target i v within, drop-set-lt (suc i) target i v (omega arith), rest_is target i x within is_x, rest_is source i y within' is_y, is_v)
    (append_assoc (take i target) (plus x (times factor y) ∷ []) (added plus times factor (drop (suc i) target) (drop (suc i) source))) in
    rw (add-one i) done

pub added_all : {A : Type 0} (plus times : A → A → A) (factor : A) (target source : List A) (i : ℕ) → length target ≤ i →
    take i target ++ added plus times factor (drop i target) (drop i source) ≡ target
unfolding added
added_all plus times factor target source i past = rw (take_all i target past, drop_all i target past) (append-nil target)

module _ {A : Type 0} {nought unit : A} {plus times : A → A → A} {inverse : A → A} {power : ℕ → A} {order : ℕ} (laws : IsField nought unit plus times inverse power order) where
  -- nought times a list adds nothing
  pub added_nothing : (f : A) (target source : List A) → f ≡ nought → target ≡ added plus times f target source
  unfolding added
  added_nothing f [] source is = refl
  added_nothing f (x ∷ target) [] is = refl
  added_nothing f (x ∷ target) (y ∷ source) is =
      rw (← added_nothing f target source is) (ap (λ z. z ∷ target) (sym (ap (λ z. plus x (times z y)) is ∙ ap (plus x) (nought_mul laws y) ∙ add_nought laws x)))

  pub sum_step : (sum x all : A) (list : List A) (i : ℕ) → i < length list → x ≡ get_or list i x → plus sum (total nought plus (drop i list)) ≡ all →
      plus (plus sum x) (total nought plus (drop (i + 1) list)) ≡ all
  unfolding total
  sum_step sum x all list i within is before =
      let rest : drop i list ≡ x ∷ drop (suc i) list = rest_is list i x within is in
      let e : i + 1 ≡ suc i = add-one i in
      rw e (add_assoc laws sum x (total nought plus (drop (suc i) list)) ∙ (rw rest at before))

  pub sum_all : (sum : A) (list : List A) (i : ℕ) → length list ≤ i → plus sum (total nought plus (drop i list)) ≡ sum
  unfolding total
  sum_all sum list i past = rw (drop_all i list past) (add_nought laws sum)
