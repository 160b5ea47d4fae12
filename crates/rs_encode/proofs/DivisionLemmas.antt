-- what the registers are once one element more is fed
use Rattle.std.proofs.Common.{◌≡◌, ℕ, zero, suc, ◌+◌, ◌*◌, ◌<◌, sym, ◌∙◌, ap, refl, arith, List, [], ◌∷◌, ◌++◌, length, map, take, drop, set, get_or, append_assoc, subst, add-one, replicate}
use Rattle.std.proofs.Math.Seq.{drop-cons, take-suc-set}
use Rattle.std.proofs.Math.Nat.{mul-suc}
use Rattle.std.proofs.lemmas.List.{drop-set-lt, take_all, drop_all, length-set, length-map}
use Rattle.galois.specs.Field.{IsField}
use Rattle.galois.specs.CheckWord.{weighted_sum, check_sum}
use Rattle.galois.proofs.Sums.{add_self, add_nought, nought_add, mul_nought, nought_mul, add_comm, add_assoc, add_left, add_again, mul_comm, mul_left, mul_assoc, unit_mul, distributes, distributes_right, same_from_sum, power_add}
use Rattle.galois.proofs.CheckWords.{check_sum-append, check_sum-next, check_sum-nothing, check_sum-one, check_sum-noughts}
use Rattle.rs_encode.specs.Division.{moved, Completes}
use Rattle.rs_encode.specs.Generator.{IsGenerator}

exponent_first : (exponents : List ℕ) (i : ℕ) → i < length exponents → drop i exponents ≡ get_or exponents i 0 ∷ drop (suc i) exponents
exponent_first [] i within = absurd (omega arith)
exponent_first (e ∷ exponents) zero within = refl
exponent_first (e ∷ exponents) (suc i) within = exponent_first exponents i (omega arith)

-- one register more is done
pub moved_step : {A : Type 0} (plus times : A → A → A) (power : ℕ → A) (factor : A) (registers : List A) (exponents : List ℕ) (i : ℕ) (r v : A) →
    i + 1 < length registers → length exponents ≡ length registers → r ≡ get_or registers (i + 1) r → v ≡ plus r (times factor (power (get_or exponents i 0))) →
    take (i + 1) (set registers i v) ++ moved plus times power factor (drop (i + 1 + 1) (set registers i v)) (drop (i + 1) exponents) ≡
    take i registers ++ moved plus times power factor (drop (i + 1) registers) (drop i exponents)
unfolding moved
moved_step plus times power factor registers exponents i r v within alike is_r is_v =
    let regs : drop (suc i) registers ≡ r ∷ drop (suc (suc i)) registers =
    drop-cons registers (suc i) r (omega arith) ∙ ap (λ z. z ∷ drop (suc (suc i)) registers) (sym (rw (add-one i) at is_r)) in
    let done : take (suc i) (set registers i v) ++ moved plus times power factor (drop (suc (suc i)) (set registers i v)) (drop (suc i) exponents) ≡
    take i registers ++ moved plus times power factor (drop (suc i) registers) (drop i exponents) =
    rw (take-suc-set registers i v (omega arith), drop-set-lt (suc (suc i)) registers i v (omega arith), regs, exponent_first exponents i (omega arith), is_v)
    (append_assoc (take i registers) (plus r (times factor (power (get_or exponents i 0))) ∷ []) (moved plus times power factor (drop (suc (suc i)) registers) (drop (suc i) exponents))) in
    rw (add-one i, add-one (suc i)) done

-- the last register is done
pub moved_last : {A : Type 0} (plus times : A → A → A) (power : ℕ → A) (factor : A) (registers : List A) (exponents : List ℕ) (i last : ℕ) (v : A) (all : List A) →
    last + 1 ≡ length registers → length exponents ≡ length registers → i ≡ last → v ≡ times factor (power (get_or exponents last 0)) →
    take i registers ++ moved plus times power factor (drop (i + 1) registers) (drop i exponents) ≡ all → set registers last v ≡ all
unfolding moved
moved_last plus times power factor registers exponents i last v all ends alike at is_v before =
    let regs : drop (suc last) registers ≡ [] = drop_all (suc last) registers (omega arith) in
    let exps : drop last exponents ≡ get_or exponents last 0 ∷ [] =
    exponent_first exponents last (omega arith) ∙ ap (λ z. get_or exponents last 0 ∷ z) (drop_all (suc last) exponents (omega arith)) in
    let front : set registers last v ≡ take last registers ++ v ∷ [] =
    sym (take_all (suc last) (set registers last v) (simp length-set (omega arith))) ∙ take-suc-set registers last v (omega arith) in
    let ended : take last registers ++ moved plus times power factor (drop (suc last) registers) (drop last exponents) ≡ set registers last v =
    rw (regs, exps, front, is_v) refl in
    sym ended ∙ (rw (add-one last) at (rw at at before))

module _ {A : Type 0} {nought unit : A} {plus times : A → A → A} {inverse : A → A} {power : ℕ → A} {order : ℕ} (laws : IsField nought unit plus times inverse power order) where
  -- nothing is added where the factor is nought
  pub nothing_added : (r f : A) (e : ℕ) → f ≡ nought → r ≡ plus r (times f (power e))
  nothing_added r f e is = sym (ap (λ x. plus r (times x (power e))) is ∙ ap (plus r) (nought_mul laws (power e)) ∙ add_nought laws r)

  length-moved : (factor : A) (behind : List A) (exponents : List ℕ) → length exponents ≡ suc (length behind) → length (moved plus times power factor behind exponents) ≡ length exponents
  unfolding moved
  length-moved factor behind [] long = absurd (omega arith)
  length-moved factor [] (e ∷ exponents) long = omega arith
  length-moved factor (r ∷ behind) (e ∷ exponents) long = ap suc (length-moved factor behind exponents (omega arith))

  -- a coefficient more in front
  pub check_sum-front : (x : A) (word : List A) (k : ℕ) →
      check_sum nought plus times power (x ∷ word) k ≡ plus (times x (power (k * length word))) (check_sum nought plus times power word k)
  unfolding check_sum weighted_sum
  check_sum-front x word k = refl

  pub power-place : (k n : ℕ) → power (k * suc n) ≡ times (power k) (power (k * n))
  power-place k n = ap power (let e : k * suc n ≡ k + k * n = omega (arith, mul-suc k n) in e) ∙ power_add laws k (k * n)

  step_sum : (x p f g r b s : A) → plus (times (plus r (times f g)) (times x p)) (plus (times x b) (times f s)) ≡
      plus (times x (plus (times r p) b)) (times f (plus (times g (times x p)) s))
  step_sum x p f g r b s = simp (add_comm laws, add_assoc laws, add_left laws, mul_comm laws, mul_assoc laws, mul_left laws, distributes laws, distributes_right laws)

  -- the sum of what is moved up
  moved_sum : (factor : A) (behind : List A) (exponents : List ℕ) (k : ℕ) → length exponents ≡ suc (length behind) →
      check_sum nought plus times power (moved plus times power factor behind exponents) k ≡
      plus (times (power k) (check_sum nought plus times power behind k)) (times factor (check_sum nought plus times power (map power exponents) k))
  unfolding moved
  moved_sum factor behind [] k long = absurd (omega arith)
  moved_sum factor [] (e ∷ []) k long =
      let right : plus (times (power k) (check_sum nought plus times power [] k)) (times factor (check_sum nought plus times power (power e ∷ []) k)) ≡ times factor (power e) =
      ap (λ z. plus (times (power k) z) (times factor (check_sum nought plus times power (power e ∷ []) k))) (check_sum-nothing laws k)
      ∙ ap (λ z. plus z (times factor (check_sum nought plus times power (power e ∷ []) k))) (mul_nought laws (power k))
      ∙ nought_add laws (times factor (check_sum nought plus times power (power e ∷ []) k)) ∙ ap (times factor) (check_sum-one laws (power e) k) in
      check_sum-one laws (times factor (power e)) k ∙ sym right
  moved_sum factor [] (e ∷ (d ∷ exponents)) k long = absurd (omega arith)
  moved_sum factor (r ∷ behind) (e ∷ exponents) k long =
      let long' : length exponents ≡ suc (length behind) = omega arith in
      let x : A = power k in
      let p : A = power (k * length behind) in
      let place : power (k * length exponents) ≡ times x p = ap (λ n. power (k * n)) long' ∙ power-place k (length behind) in
      let b : A = check_sum nought plus times power behind k in
      let s : A = check_sum nought plus times power (map power exponents) k in
      let m : List A = moved plus times power factor behind exponents in
      let left : check_sum nought plus times power (plus r (times factor (power e)) ∷ m) k ≡ plus (times (plus r (times factor (power e))) (times x p)) (plus (times x b) (times factor s)) =
      check_sum-front (plus r (times factor (power e))) m k
      ∙ ap (λ z. plus (times (plus r (times factor (power e))) z) (check_sum nought plus times power m k)) (ap (λ n. power (k * n)) (length-moved factor behind exponents long') ∙ place)
      ∙ ap (plus (times (plus r (times factor (power e))) (times x p))) (moved_sum factor behind exponents k long') in
      let right : plus (times x (check_sum nought plus times power (r ∷ behind) k)) (times factor (check_sum nought plus times power (power e ∷ map power exponents) k)) ≡
      plus (times x (plus (times r p) b)) (times factor (plus (times (power e) (times x p)) s)) =
      ap (λ z. plus (times x z) (times factor (check_sum nought plus times power (power e ∷ map power exponents) k))) (check_sum-front r behind k)
      ∙ ap (λ z. plus (times x (plus (times r p) b)) (times factor z))
      (check_sum-front (power e) (map power exponents) k ∙ ap (λ z. plus (times (power e) z) s) (ap (λ n. power (k * n)) (length-map exponents power) ∙ place)) in
      left ∙ step_sum x p factor (power e) r b s ∙ sym right

  last_sum : (x p a c r b : A) → plus (times (times x p) (plus c (times x a))) (plus (times x b) (times (plus r c) (times x p))) ≡
      times x (plus (times (times x p) a) (plus (times r p) b))
  last_sum x p a c r b =
      simp (add_self laws, add_again laws, add_nought laws, nought_add laws, add_comm laws, add_assoc laws, add_left laws, mul_comm laws, mul_assoc laws, mul_left laws, distributes laws, distributes_right laws)

  -- one element more
  fed_more : (exponents : List ℕ) (fed behind : List A) (r c : A) → length exponents ≡ suc (length behind) →
      IsGenerator nought unit plus times power order exponents → Completes nought plus times power fed (r ∷ behind) →
      Completes nought plus times power (fed ++ c ∷ []) (moved plus times power (plus r c) behind exponents)
  fed_more exponents fed behind r c long generator held = record {
    root = λ k low high.
        let x : A = power k in
        let p : A = power (k * length behind) in
        let a : A = check_sum nought plus times power fed k in
        let b : A = check_sum nought plus times power behind k in
        let g : List A = map power exponents in
        let m : List A = moved plus times power (plus r c) behind exponents in
        let long_m : length m ≡ suc (length behind) = length-moved (plus r c) behind exponents long ∙ long in
        let long_g : length g ≡ suc (length behind) = length-map exponents power ∙ long in
        let place : power (k * suc (length behind)) ≡ times x p = power-place k (length behind) in
        let of_unit : check_sum nought plus times power (unit ∷ g) k ≡ plus (times x p) (check_sum nought plus times power g k) =
        check_sum-front unit g k ∙ ap (λ z. plus z (check_sum nought plus times power g k)) (unit_mul laws (power (k * length g)) ∙ ap (λ n. power (k * n)) long_g ∙ place) in
        let of_generator : times x p ≡ check_sum nought plus times power g k =
        same_from_sum laws (times x p) (check_sum nought plus times power g k) (sym of_unit ∙ generator.divides.root k low (omega (arith, high, long_m, long))) in
        let of_held : check_sum nought plus times power (fed ++ r ∷ behind) k ≡ plus (times (times x p) a) (plus (times r p) b) =
        check_sum-append laws fed (r ∷ behind) k
        ∙ ap (λ z. plus (times z a) (check_sum nought plus times power (r ∷ behind) k)) place
        ∙ ap (plus (times (times x p) a)) (check_sum-front r behind k) in
        let new : check_sum nought plus times power ((fed ++ c ∷ []) ++ m) k ≡ plus (times (times x p) (plus c (times x a))) (plus (times x b) (times (plus r c) (times x p))) =
        check_sum-append laws (fed ++ c ∷ []) m k
        ∙ ap (λ z. plus (times z (check_sum nought plus times power (fed ++ c ∷ []) k)) (check_sum nought plus times power m k)) (ap (λ n. power (k * n)) long_m ∙ place)
        ∙ ap (λ z. plus (times (times x p) z) (check_sum nought plus times power m k)) (check_sum-next laws fed c k)
        ∙ ap (plus (times (times x p) (plus c (times x a)))) (moved_sum (plus r c) behind exponents k long ∙ ap (λ z. plus (times x b) (times (plus r c) z)) (sym of_generator)) in
        new ∙ last_sum x p a c r b ∙ ap (times x) (sym of_held ∙ held.root k low (omega (arith, high, long_m))) ∙ mul_nought laws x;
  }

  -- the same where the registers are one list
  pub fed_one : (exponents : List ℕ) (registers next fed : List A) (first element factor : A) → 0 < length registers → length exponents ≡ length registers →
      first ≡ get_or registers 0 first → factor ≡ plus first element → next ≡ moved plus times power factor (drop 1 registers) exponents →
      IsGenerator nought unit plus times power order exponents → Completes nought plus times power fed registers → Completes nought plus times power (fed ++ element ∷ []) next
  fed_one exponents [] next fed first element factor some alike is_first is_factor is_next generator held = absurd (omega arith)
  fed_one exponents (r ∷ behind) next fed first element factor some alike is_first is_factor is_next generator held =
      subst (Completes nought plus times power (fed ++ element ∷ [])) (sym (is_next ∙ ap (λ f. moved plus times power f behind exponents) (is_factor ∙ ap (λ x. plus x element) is_first)))
      (fed_more exponents fed behind r element alike generator held)

  -- noughts complete the empty word
  pub none_fed : (registers : List A) (n : ℕ) → registers ≡ replicate n nought → Completes nought plus times power [] registers
  none_fed registers n are = record { root = λ k low high. ap (λ l. check_sum nought plus times power l k) are ∙ check_sum-noughts laws n k }

  -- no check elements complete each word
  pub none_asked : (word registers : List A) → length registers ≡ 0 → Completes nought plus times power word registers
  none_asked word registers none = record { root = λ k low high. absurd (omega arith) }

  -- noughts behind the empty word are a check word
  pub nothing_to_write : (word registers : List A) (n : ℕ) → registers ≡ replicate n nought → length word ≡ 0 → Completes nought plus times power word registers
  nothing_to_write [] registers n are none = none_fed registers n are
  nothing_to_write (x ∷ word) registers n are none = absurd (omega arith)
