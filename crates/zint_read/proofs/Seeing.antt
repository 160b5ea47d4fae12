-- What is to be shown of a frame.
use Rattle.std.proofs.Common.{◌≡◌, Result, Ok, Err, ap}
use Rattle.aztec_layout.specs.declared.sizes.Size.{Size}
use Rattle.symbol_reader.specs.Sight.{Sight}
use Rattle.symbol_reader.specs.declared.reading.LostReading.{LostReading}
use Rattle.bar_base.specs.Steps.{Step}
use Rattle.zint_answers.specs.declared.refusal.Refusal.{Refusal}
use Rattle.bar_base.proofs.OneStep.{IsOne}
use Rattle.zint_read.specs.readers.Aztec.{DrawnMessage, IsNearDrawn, reads_sight}

-- One thing is seen in an image, or it is refused for one reason. Where it has a picture to show that is near what was drawn, it is not refused,
-- and what is seen and has an answer is that picture.
pub record FrameLaws (see : Step Sight Refusal) (Shows : Size → Sight → Type 0) : Type 0 where
  pub one : IsOne see
  pub near_seen : (drawn : DrawnMessage) (sight other : Sight) → IsNearDrawn drawn sight → Shows drawn.size sight → see (Ok other)
      → (answer : Result LostReading Refusal) → reads_sight other answer → other ≡ sight
  pub not_refused : (drawn : DrawnMessage) (sight : Sight) → IsNearDrawn drawn sight → Shows drawn.size sight → (refusal : Refusal) → see (Err refusal) → ⊥

abbrev pub value_of : {A E : Type 0} → A → Result A E → A
value_of other (Ok value) = value
value_of other (Err fault) = other

-- So it is where whatever is seen is what the image has to show.
pub laws_of_one : (see : Step Sight Refusal) → IsOne see → FrameLaws see (λ size sight. see (Ok sight))
laws_of_one see one = record {
  one = one;
  near_seen = λ drawn sight other near shown seen answer read. ap (value_of other) (one (Ok other) (Ok sight) seen shown);
  not_refused = λ drawn sight near shown refusal refused. (let e = one (Ok sight) (Err refusal) shown refused in cc);
}
