-- what the decoder answers, from what it confirmed
use Rattle.std.proofs.Common.{◌≡◌, ℕ, ◌≤◌, sym, List, [], length, Bool, subst, Result, Ok, Err}
use Rattle.std.specs.Prelude.{IfOk, OnOk, OnErr}
use Rattle.std.specs.Bool.{Decides}
use Rattle.galois.specs.Field.{IsField}
use Rattle.galois.specs.CheckWord.{known_distance, lost_count, IsCheckWord, IsNearKnown}
use Rattle.galois.proofs.Lost.{known_self, known_near_itself, known_near_check_word, near_known, known_near}
use Rattle.rs_decode.specs.Nearness.{IsCorrected, IsBeyond, IsRestored, IsLost}

module _ {A : Type 0} {nought unit : A} {plus times : A → A → A} {inverse : A → A} {power : ℕ → A} {order : ℕ} (laws : IsField nought unit plus times inverse power order) where
  module _ (equal : A → A → Bool) (decides : (a b : A) → Decides (equal a b) (a ≡ b)) where
    pub unharmed : (lost : List Bool) (word : List A) (count : ℕ) → length word ≤ order → lost_count lost ≤ count → IsCheckWord nought plus times power word count
        → IsRestored nought plus times power equal count lost word word 0
    unharmed lost word count fits few check = record {
      near = known_near_itself laws equal decides lost word count few check;
      distance_is = sym (known_self laws equal decides lost word);
      only = λ other near. known_near_check_word laws equal decides lost word other count fits check near;
    }

    pub all_restored : {E : Type 0} (result : Result ℕ E) (lost : List Bool) (word fixed after : List A) (count first last : ℕ) → first ≡ count → last ≡ count →
        OnOk result (IsNearKnown nought plus times power equal last lost word fixed) → OnOk result (after ≡ fixed) → IfOk result (λ e. e ≡ known_distance equal lost word fixed) →
        ((other : List A) → IsNearKnown nought plus times power equal first lost word other → other ≡ fixed) →
        IfOk result (λ e. IsRestored nought plus times power equal count lost word after e)
    all_restored (Ok e) lost word fixed after count first last is_first is_last near same distance_is only =
        rw same (record {
          near = subst (λ (n : ℕ). IsNearKnown nought plus times power equal n lost word fixed) is_last near;
          distance_is = distance_is;
          only = subst (λ (n : ℕ). (other : List A) → IsNearKnown nought plus times power equal n lost word other → other ≡ fixed) is_first only;
        })
    all_restored (Err e) lost word fixed after count first last is_first is_last near same distance_is only = tt

    pub all_lost : {E : Type 0} (result : Result ℕ E) (lost : List Bool) (word fixed after : List A) (count first last : ℕ) → first ≡ count → last ≡ count →
        OnErr result (IsNearKnown nought plus times power equal last lost word fixed → ⊥) → OnErr result (after ≡ word) →
        ((other : List A) → IsNearKnown nought plus times power equal first lost word other → other ≡ fixed) →
        OnErr result (IsLost nought plus times power equal count lost word after)
    all_lost (Ok e) lost word fixed after count first last is_first is_last far stays only = tt
    all_lost (Err e) lost word fixed after count first last is_first is_last far stays only = record {
      stays = stays;
      none = λ other near.
          let same : other ≡ fixed = only other (subst (λ (n : ℕ). IsNearKnown nought plus times power equal n lost word other) (sym is_first) near) in
          far (subst (λ (n : ℕ). IsNearKnown nought plus times power equal n lost word fixed) (sym is_last) (subst (λ l. IsNearKnown nought plus times power equal count lost word l) same near));
    }

    -- with nothing lost
    pub all_corrected : {E : Type 0} (result : Result ℕ E) (count : ℕ) (word after : List A) →
        IfOk result (λ e. IsRestored nought plus times power equal count [] word after e) → IfOk result (λ e. IsCorrected nought plus times power equal count word after e)
    unfolding known_distance
    all_corrected (Ok e) count word after is = record {
      near = known_near laws equal decides word after count is.near;
      distance_is = is.distance_is;
      only = λ other near. is.only other (near_known laws equal decides word other count near);
    }
    all_corrected (Err e) count word after is = tt

    pub all_beyond : {E : Type 0} (result : Result ℕ E) (count : ℕ) (word after : List A) →
        OnErr result (IsLost nought plus times power equal count [] word after) → OnErr result (IsBeyond nought plus times power equal count word after)
    all_beyond (Ok e) count word after is = tt
    all_beyond (Err e) count word after is = record {
      stays = is.stays;
      none = λ other near. is.none other (near_known laws equal decides word other count near);
    }
