-- Pieces joined, one after another.
use Rattle.std.proofs.Common.{◌≡◌, ℕ, zero, suc, ◌+◌, ◌<◌, ◌≤◌, ◌∙◌, ◌++◌, List, [], ◌∷◌, length, take, drop, ap, sym, subst, refl, arith, take_all, append-nil, length-drop}
use Rattle.std.specs.List.{All, flat_map}
use Rattle.std.proofs.Math.Seq.{take-add}
use Rattle.std.proofs.lemmas.Grind.{flat_map-append}
use Rattle.std.proofs.lemmas.List.Elements.{All-append}
use Rattle.std.proofs.lemmas.List.{length-take-le}
use Rattle.input_escapes.specs.Escapes.{Bytes, Head, head, out_of_range, piece, short, unknown}
use Rattle.input_escapes.specs.Texts.{IsFaultAt, IsFaultOf, IsPiece, StandsFor, Stops}
use Rattle.input_escapes.specs.declared.fault.EscapeFault.{EscapeFault}
use Rattle.input_escapes.specs.declared.fault.EscapeFault.TheVariants as fault
use Rattle.input_escapes.proofs.Fronts.{head_local}

-- the text up to the place stands for the bytes
pub record Done (text : Bytes) (place : ℕ) (bytes : Bytes) : Type 0 where
  pub within : place ≤ length text
  pub so_far : StandsFor (take place text) bytes

pub none_done : (text : Bytes) → Done text 0 []
none_done text = record {
  within = omega arith;
  so_far = record { pieces = []; each = λ k d below. absurd (omega arith); text_is = refl; bytes_are = refl };
}

only : (p : Bytes × Bytes) → IsPiece p → All IsPiece (p ∷ [])
only p is zero d below = is
only p is (suc k) d below = absurd (omega arith)

joined_more : (f : Bytes × Bytes → Bytes) (ps : List (Bytes × Bytes)) (p : Bytes × Bytes) → flat_map f (ps ++ p ∷ []) ≡ flat_map f ps ++ f p
joined_more f ps p = flat_map-append f ps (p ∷ []) ∙ ap (λ t. flat_map f ps ++ t) (append-nil (f p))

-- one more piece
pub more_done : (text : Bytes) (place n : ℕ) (bytes b : Bytes) → Done text place bytes → head (drop place text) ≡ piece n b
    → place + n ≤ length text → Done text (place + n) (bytes ++ b)
more_done text place n bytes b done is within =
    let cut : Bytes = take n (drop place text) in
    let there : n ≤ length (drop place text) = omega (arith, length-drop place text) in
    let long : length (take n (drop place text)) ≡ n = length-take-le n (drop place text) there in
    let same : take n (take n (drop place text)) ≡ take n (drop place text) = take_all n (take n (drop place text)) (omega arith) in
    let front = (head_local (drop place text) (take n (drop place text)) n b is).2 same (omega arith) in
    let is_piece : IsPiece (take n (drop place text), b) = front ∙ ap (λ k. piece k b) (sym long) in
    record {
      within = within;
      so_far = record {
        pieces = done.so_far.pieces ++ (take n (drop place text), b) ∷ [];
        each = All-append IsPiece done.so_far.pieces ((take n (drop place text), b) ∷ []) done.so_far.each (only (take n (drop place text), b) is_piece);
        text_is = take-add place n text ∙ ap (λ t. t ++ take n (drop place text)) done.so_far.text_is
            ∙ sym (joined_more (λ p. p.0) done.so_far.pieces (take n (drop place text), b));
        bytes_are = ap (λ t. t ++ b) done.so_far.bytes_are ∙ sym (joined_more (λ p. p.1) done.so_far.pieces (take n (drop place text), b));
      };
    }

pub all_done : (text : Bytes) (place : ℕ) (bytes : Bytes) → Done text place bytes → length text ≤ place → StandsFor text bytes
all_done text place bytes done past = subst (λ t. StandsFor t bytes) (take_all place text past) done.so_far

stops : (text : Bytes) (place k : ℕ) (here : Head) (bytes : Bytes) → Done text place bytes → place < length text
    → (k ≡ place) × (head (drop place text) ≡ here) → Stops text k here
stops text place k here bytes done within is =
    let at : Stops text place here = record { within = within; bytes = bytes; before = done.so_far; at_place = is.1 } in
    subst (λ p. Stops text p here) (sym is.0) at

pub fault_found : (text : Bytes) (place : ℕ) (bytes : Bytes) (e : EscapeFault) → Done text place bytes → place < length text
    → IsFaultAt place (head (drop place text)) e → IsFaultOf text e
fault_found text place bytes fault.NoMemory done within never = absurd never
fault_found text place bytes (fault.UnknownEscape k) done within is = stops text place k unknown bytes done within is
fault_found text place bytes (fault.ShortEscape k) done within is = stops text place k short bytes done within is
fault_found text place bytes (fault.OutOfRange k) done within is = stops text place k out_of_range bytes done within is
