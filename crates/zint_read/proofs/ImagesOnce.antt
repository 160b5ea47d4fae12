-- Bytes show one picture, or there is one refusal.
use Rattle.std.proofs.Common.{◌≡◌, ◌⊎◌, ℕ, inl, inr, List, Err, refl, ap, ◌∙◌}
use Rattle.symbol_reader.specs.GridLines.{IsPictureOf, IsTextFault}
use Rattle.symbol_reader.specs.UnknownLines.{light_text}
use Rattle.symbol_reader.proofs.PictureTexts.{no_picture, picture_once}
use Rattle.zint_answers.specs.declared.fault.Fault.TheVariants.{NoMemory}
use Rattle.bar_base.proofs.OneStep.{IsOne}
use Rattle.zint_answers.proofs.OneStep.{related_one}
use Rattle.zint_read.specs.Images.{IsSightOf, parse_fault, text_picture, text_sight}
use Rattle.zint_read.proofs.OnePicture.{text_fault_once}
use Rattle.zint_read.proofs.Unknowns.{sight_once}

-- of the pieces of a choice
pub either_fault : {E F : Type 0} (fault_of : E → F) (none : E) (want : F) (f g : E) → fault_of none ≡ want → (f ≡ none) ⊎ ((g ≡ none) ⊎ (f ≡ g))
    → (fault_of f ≡ want) ⊎ ((fault_of g ≡ want) ⊎ (f ≡ g))
either_fault fault_of none want f g is (inl e) = inl (ap fault_of e ∙ is)
either_fault fault_of none want f g is (inr (inl e)) = inr (inl (ap fault_of e ∙ is))
either_fault fault_of none want f g is (inr (inr e)) = inr (inr e)

pub text_picture_one : (bytes : List ℕ) → IsOne (text_picture bytes)
text_picture_one bytes =
    related_one parse_fault (IsPictureOf bytes) (IsTextFault bytes) (picture_once bytes)
    (λ picture fault is refused. ap parse_fault (no_picture bytes (Err fault) refused picture is))
    (λ f g p q. either_fault parse_fault _ NoMemory f g refl (text_fault_once bytes f g p q))

pub text_sight_one : (bytes : List ℕ) → IsOne (text_sight bytes)
text_sight_one bytes =
    related_one parse_fault (IsSightOf bytes) (IsTextFault (light_text bytes)) (sight_once bytes)
    (λ sight fault is refused. ap parse_fault (no_picture (light_text bytes) (Err fault) refused sight.picture is.picture))
    (λ f g p q. either_fault parse_fault _ NoMemory f g refl (text_fault_once (light_text bytes) f g p q))
