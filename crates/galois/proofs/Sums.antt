-- identities of a field in which every element is its own negative, and its powers
use Rattle.std.proofs.Common.{◌≡◌, ◌≢◌, ℕ, zero, suc, ◌+◌, ◌-◌, ◌*◌, ◌<◌, inl, inr, sym, ◌∙◌, ap, refl, add-zero, add-one, add-suc, arith, List, [], ◌∷◌, ◌++◌, length, replicate}
use Rattle.std.proofs.Math.Nat.{suc-mul, zero-mul, eq-zero-or-pos}
use Rattle.std.proofs.lemmas.List.{length-append}
use Rattle.galois.specs.Field.{IsField}
use Rattle.galois.specs.CheckWord.{weighted_sum, word_sum}

-- an element to a power
unfoldable pub raised : {A : Type 0} (unit : A) (times : A → A → A) → A → ℕ → A
raised unit times x zero = unit
raised unit times x (suc k) = times x (raised unit times x k)

module _ {A : Type 0} {nought unit : A} {plus times : A → A → A} {inverse : A → A} {power : ℕ → A} {order : ℕ} (laws : IsField nought unit plus times inverse power order) where
  pub add_comm : (a b : A) → plus a b ≡ plus b a
  add_comm = laws.add_comm

  pub add_assoc : (a b c : A) → plus (plus a b) c ≡ plus a (plus b c)
  add_assoc = laws.add_assoc

  pub add_left : (a b c : A) → plus a (plus b c) ≡ plus b (plus a c)
  add_left a b c = sym (laws.add_assoc a b c) ∙ ap (λ x. plus x c) (laws.add_comm a b) ∙ laws.add_assoc b a c

  pub nought_add : (a : A) → plus nought a ≡ a
  nought_add = laws.add_zero

  pub add_nought : (a : A) → plus a nought ≡ a
  add_nought a = laws.add_comm a nought ∙ laws.add_zero a

  pub add_self : (a : A) → plus a a ≡ nought
  add_self = laws.self_negative

  pub add_again : (a b : A) → plus a (plus a b) ≡ b
  add_again a b = sym (laws.add_assoc a a b) ∙ ap (λ x. plus x b) (laws.self_negative a) ∙ laws.add_zero b

  pub mul_comm : (a b : A) → times a b ≡ times b a
  mul_comm = laws.mul_comm

  pub mul_assoc : (a b c : A) → times (times a b) c ≡ times a (times b c)
  mul_assoc = laws.mul_assoc

  pub mul_left : (a b c : A) → times a (times b c) ≡ times b (times a c)
  mul_left a b c = sym (laws.mul_assoc a b c) ∙ ap (λ x. times x c) (laws.mul_comm a b) ∙ laws.mul_assoc b a c

  pub distributes : (a b c : A) → times a (plus b c) ≡ plus (times a b) (times a c)
  distributes = laws.distributes

  pub distributes_right : (a b c : A) → times (plus a b) c ≡ plus (times a c) (times b c)
  distributes_right a b c = simp (laws.mul_comm, laws.distributes)

  pub mul_nought : (a : A) → times a nought ≡ nought
  mul_nought a = ap (times a) (sym (laws.self_negative nought)) ∙ laws.distributes a nought nought ∙ laws.self_negative (times a nought)

  pub nought_mul : (a : A) → times nought a ≡ nought
  nought_mul a = laws.mul_comm nought a ∙ mul_nought a

  pub unit_mul : (a : A) → times unit a ≡ a
  unit_mul = laws.mul_one

  pub mul_unit : (a : A) → times a unit ≡ a
  mul_unit a = laws.mul_comm a unit ∙ laws.mul_one a

  -- sums and products are equal where these turn them into one sum of products
  pub ruleset identities = (nought_add, add_nought, nought_mul, mul_nought, unit_mul, mul_unit, add_self, add_again, add_comm, add_assoc, add_left, mul_comm, mul_assoc, mul_left, distributes, distributes_right)

  -- two elements whose sum is nought are equal
  pub same_from_sum : (a b : A) → plus a b ≡ nought → a ≡ b
  same_from_sum a b h = sym (add_again b a) ∙ ap (plus b) (laws.add_comm b a ∙ h) ∙ add_nought b

  -- a product is nought only where one of the two is
  pub mul_cancel : (a b : A) → b ≢ nought → times a b ≡ nought → a ≡ nought
  mul_cancel a b nonzero h =
      sym (mul_unit a) ∙ ap (times a) (sym (laws.inverts b nonzero)) ∙ sym (laws.mul_assoc a b (inverse b)) ∙
      ap (λ x. times x (inverse b)) h ∙ nought_mul (inverse b)

  -- a factor other than nought is taken off both sides
  pub cancel_right : (a b d : A) → d ≢ nought → times a d ≡ times b d → a ≡ b
  cancel_right a b d nonzero same =
      same_from_sum a b (mul_cancel (plus a b) d nonzero (distributes_right a b d ∙ ap (λ x. plus x (times b d)) same ∙ add_self (times b d)))

  pub product_nonzero : (a b : A) → a ≢ nought → b ≢ nought → times a b ≢ nought
  product_nonzero a b na nb h = na (mul_cancel a b nb h)

  pub sum_nonzero : (a b : A) → a ≢ b → plus a b ≢ nought
  sum_nonzero a b different h = different (same_from_sum a b h)

  pub power_add : (i j : ℕ) → power (i + j) ≡ times (power i) (power j)
  power_add i zero = rw (add-zero i, laws.power_zero) (sym (mul_unit (power i)))
  power_add i (suc j) =
      let next : (k : ℕ) → power (suc k) ≡ times (power k) (power 1) = λ k. rw (← add-one k) (laws.power_next k) in
      rw (add-suc i j, next (i + j), next j, power_add i j) (laws.mul_assoc (power i) (power j) (power 1))

  -- the powers come round after as many as there are
  pub power_order : power order ≡ unit
  power_order =
      let (k, less, is) = laws.nonzero_power (power order) (laws.power_nonzero order) in
      elim (eq-zero-or-pos k) [
        | inl none ↦ sym is ∙ ap power none ∙ laws.power_zero
        | inr some ↦
            let split : order - k + k ≡ order = omega arith in
            let one : power (order - k) ≡ unit =
            cancel_right (power (order - k)) unit (power k) (laws.power_nonzero k)
            (sym (power_add (order - k) k) ∙ ap power split ∙ sym is ∙ sym (laws.mul_one (power k))) in
            let none : order - k ≡ 0 = laws.powers_distinct (order - k) 0 (omega arith) (omega arith) (one ∙ sym laws.power_zero) in
            absurd (omega arith)
      ]

  pub power_round : (k : ℕ) → power (order + k) ≡ power k
  power_round k = power_add order k ∙ ap (λ x. times x (power k)) power_order ∙ laws.mul_one (power k)

  pub raised-power : (k m : ℕ) → power (k * m) ≡ raised unit times (power m) k
  unfolding raised
  raised-power zero m = rw (zero-mul m) laws.power_zero
  raised-power (suc k) m = rw (suc-mul k m) (power_add (k * m) m ∙ laws.mul_comm (power (k * m)) (power m) ∙ ap (times (power m)) (raised-power k m))

  pub same_weights : (f g : ℕ → A) (w : List A) → ((m : ℕ) → m < length w → f m ≡ g m) →
      weighted_sum nought plus times f w ≡ weighted_sum nought plus times g w
  unfolding weighted_sum
  same_weights f g [] same = refl
  same_weights f g (x ∷ w) same =
      rw (same (length w) (omega arith), same_weights f g w (λ m below. same m (omega arith)))

  pub sum_of_weights : (f g : ℕ → A) (w : List A) →
      weighted_sum nought plus times (λ m. plus (f m) (g m)) w ≡ plus (weighted_sum nought plus times f w) (weighted_sum nought plus times g w)
  unfolding weighted_sum
  sum_of_weights f g [] = simp identities
  sum_of_weights f g (x ∷ w) = rw (sum_of_weights f g w) (simp identities)

  pub scaled_weights : (a : A) (f : ℕ → A) (w : List A) →
      weighted_sum nought plus times (λ m. times a (f m)) w ≡ times a (weighted_sum nought plus times f w)
  unfolding weighted_sum
  scaled_weights a f [] = simp identities
  scaled_weights a f (x ∷ w) = rw (scaled_weights a f w) (simp identities)

  pub weighted_sum-append : (f : ℕ → A) (v w : List A) →
      weighted_sum nought plus times f (v ++ w) ≡ plus (weighted_sum nought plus times (λ m. f (m + length w)) v) (weighted_sum nought plus times f w)
  unfolding weighted_sum
  weighted_sum-append f [] w = simp identities
  weighted_sum-append f (x ∷ v) w = rw (weighted_sum-append f v w, length-append v w) (simp identities)

  pub length-word_sum : (v w : List A) → length v ≡ length w → length (word_sum plus v w) ≡ length w
  unfolding word_sum
  length-word_sum [] [] same = refl
  length-word_sum [] (y ∷ w) same = (cc)
  length-word_sum (x ∷ v) [] same = (cc)
  length-word_sum (x ∷ v) (y ∷ w) same = ap suc (length-word_sum v w (omega arith))

  pub weighted_sum-word_sum : (f : ℕ → A) (v w : List A) → length v ≡ length w →
      weighted_sum nought plus times f (word_sum plus v w) ≡ plus (weighted_sum nought plus times f v) (weighted_sum nought plus times f w)
  unfolding weighted_sum word_sum
  weighted_sum-word_sum f [] [] same = simp identities
  weighted_sum-word_sum f [] (y ∷ w) same = (cc)
  weighted_sum-word_sum f (x ∷ v) [] same = (cc)
  weighted_sum-word_sum f (x ∷ v) (y ∷ w) same =
      let tails : length v ≡ length w = omega arith in
      rw (weighted_sum-word_sum f v w tails, length-word_sum v w tails, tails) (simp identities)

  pub weighted_sum-replicate : (f : ℕ → A) (n : ℕ) → weighted_sum nought plus times f (replicate n nought) ≡ nought
  unfolding weighted_sum
  weighted_sum-replicate f zero = refl
  weighted_sum-replicate f (suc n) = rw (weighted_sum-replicate f n) (simp identities)
