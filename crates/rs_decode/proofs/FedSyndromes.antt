-- the syndromes of a word, element by element, and when all are nought
use Rattle.std.proofs.Common.{◌≡◌, ℕ, ◌+◌, ◌-◌, ◌<◌, sym, ◌∙◌, ap, arith, List, [], ◌∷◌, ◌++◌, length, get_or, replicate}
use Rattle.std.proofs.lemmas.List.{get_or-replicate, length-replicate}
use Rattle.galois.specs.Field.{IsField}
use Rattle.galois.specs.CheckWord.{check_sum, IsCheckWord}
use Rattle.galois.proofs.CheckWords.{check_sum-next, check_sum-nothing}
use Rattle.rs_decode.specs.Syndromes.{AreSyndromes, AreFed}

module _ {A : Type 0} {nought unit : A} {plus times : A → A → A} {inverse : A → A} {power : ℕ → A} {order : ℕ} (laws : IsField nought unit plus times inverse power order) where
  pub syndromes_none : (syndromes : List A) (n : ℕ) → syndromes ≡ replicate n nought → AreSyndromes nought plus times power [] syndromes
  syndromes_none syndromes n is = record {
    sum = λ k below. ap (λ l. get_or l k nought) is ∙
        get_or-replicate n k nought nought (let e : length syndromes ≡ n = ap length is ∙ length-replicate n nought in omega (arith, e)) ∙ sym (check_sum-nothing laws (k + 1));
  }

  pub syndromes_more : (word : List A) (x : A) (before after : List A) → AreSyndromes nought plus times power word before → AreFed nought plus times power x before after →
      AreSyndromes nought plus times power (word ++ x ∷ []) after
  syndromes_more word x before after are fed = record {
    sum = λ k below.
        let within : k < length before = omega (arith, fed.long) in
        fed.each k within ∙ ap (plus x) (laws.mul_comm _ _ ∙ ap (times (power (k + 1))) (are.sum k within)) ∙ sym (check_sum-next laws word x (k + 1));
  }

  pub check_word_from : (word syndromes : List A) → AreSyndromes nought plus times power word syndromes →
      ((k : ℕ) → k < length syndromes → get_or syndromes k nought ≡ nought) → IsCheckWord nought plus times power word (length syndromes)
  check_word_from word syndromes are noughts = record {
    root = λ k low high.
        let e : k - 1 + 1 ≡ k = omega arith in
        sym (ap (check_sum nought plus times power word) e) ∙ sym (are.sum (k - 1) (omega arith)) ∙ noughts (k - 1) (omega arith);
  }

  pub noughts_from : (word syndromes : List A) → AreSyndromes nought plus times power word syndromes → IsCheckWord nought plus times power word (length syndromes) →
      (k : ℕ) → k < length syndromes → get_or syndromes k nought ≡ nought
  noughts_from word syndromes are is k below = are.sum k below ∙ is.root (k + 1) (omega arith) (omega arith)
