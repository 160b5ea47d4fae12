-- an error, added to a word place by place
use Rattle.std.proofs.Common.{◌≡◌, ℕ, zero, suc, ◌+◌, ◌<◌, ap, refl, arith, List, [], ◌∷◌, ◌++◌, length, get_or, take, drop}
use Rattle.galois.specs.Field.{IsField}
use Rattle.galois.specs.CheckWord.{word_sum}
use Rattle.galois.proofs.Sums.{add_nought, cancel_right}
use Rattle.rs_decode.specs.Values.{IsErrorAt, none, right, wrong}

module _ {A : Type 0} {nought unit : A} {plus times : A → A → A} {inverse : A → A} {power : ℕ → A} {order : ℕ} (laws : IsField nought unit plus times inverse power order) where
  -- no places: no error
  pub nothing_mended : (word error places : _) (values : List A) → length places ≡ 0 → IsErrorAt nought times power places values error → length error ≡ length word → word ≡ word_sum plus word error
  unfolding word_sum
  nothing_mended [] [] places values empty is same = refl
  nothing_mended [] (x ∷ error) places values empty is same = absurd (omega arith)
  nothing_mended (y ∷ word) [] places values empty is same = absurd (omega arith)
  nothing_mended (y ∷ word) (_ ∷ error) places values empty (right is) same =
      rw (add_nought laws y, ← nothing_mended word error places values empty is (omega arith)) refl
  nothing_mended (y ∷ word) (_ ∷ error) places values empty (wrong x is) same = absurd (omega arith)

  pub below_length : (places : List ℕ) (values error : List A) → IsErrorAt nought times power places values error → 0 < length places → get_or places 0 0 < length error
  below_length _ _ _ none some = absurd (omega arith)
  below_length places values (_ ∷ error) (right is) some = let e : get_or places 0 0 < length error = below_length places values error is some in omega arith
  below_length _ _ _ (wrong {places} {values} {error} x is) some = omega arith

  -- the first place, and the rest of the word
  pub mended : (word error : List A) (places : List ℕ) (values : List A) (at : ℕ) (quotient : A) (rest : List A) →
      IsErrorAt nought times power places values error → length error ≡ length word → 0 < length places →
      at + 1 + get_or places 0 0 ≡ length word →
      times quotient (power (get_or places 0 0)) ≡ get_or values 0 quotient →
      ((error : List A) → IsErrorAt nought times power (drop 1 places) (drop 1 values) error → length error ≡ length (drop (suc at) word) → rest ≡ word_sum plus (drop (suc at) word) error) →
      take at word ++ plus (get_or word at quotient) quotient ∷ rest ≡ word_sum plus word error
  unfolding word_sum
  mended [] error places values at quotient rest is same some where_is product recurse = absurd (omega arith)
  mended (y ∷ word) [] places values at quotient rest is same some where_is product recurse = absurd (omega arith)
  mended (y ∷ word) (_ ∷ error) places values zero quotient rest (right is) same some where_is product recurse =
      absurd (let e : _ = below_length places values error is some in omega (arith, e))
  mended (y ∷ word) (_ ∷ error) places values (suc at) quotient rest (right is) same some where_is product recurse =
      rw (add_nought laws y) (ap (λ l. y ∷ l) (mended word error places values at quotient rest is (omega arith) some (omega arith) product recurse))
  mended (y ∷ word) (_ ∷ error) _ _ zero quotient rest (wrong {places} {values} x is) same some where_is product recurse =
      let value : quotient ≡ x = cancel_right laws quotient x (power (length error)) (laws.power_nonzero (length error)) product in
      let others : rest ≡ word_sum plus word error = recurse error is (omega arith) in
      rw (value, others) refl
  mended (y ∷ word) (_ ∷ error) _ _ (suc at) quotient rest (wrong {places} {values} x is) same some where_is product recurse = absurd (omega arith)
