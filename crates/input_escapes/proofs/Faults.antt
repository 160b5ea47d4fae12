-- A text has one fault at most besides want of memory, and none where it stands for bytes.
use Rattle.std.proofs.Common.{◌≡◌, ◌≢◌, ◌⊎◌, ℕ, inl, inr, ap, refl}
use Rattle.input_escapes.specs.Escapes.{Bytes, out_of_range, short, unknown}
use Rattle.input_escapes.specs.Texts.{IsFaultOf, StandsFor}
use Rattle.input_escapes.specs.declared.fault.EscapeFault.{EscapeFault}
use Rattle.input_escapes.specs.declared.fault.EscapeFault.TheVariants.{NoMemory, UnknownEscape, ShortEscape, OutOfRange}
use Rattle.input_escapes.proofs.Uniqueness.{IsNoPiece, stands_for_none, stops_once}

no_unknown : IsNoPiece unknown
no_unknown n b e = cc

no_short : IsNoPiece short
no_short n b e = cc

no_range : IsNoPiece out_of_range
no_range n b e = cc

pub none_beside : (text bytes : Bytes) (e : EscapeFault) → StandsFor text bytes → IsFaultOf text e → e ≡ NoMemory
none_beside text bytes NoMemory is free = refl
none_beside text bytes (UnknownEscape k) is stops = absurd (stands_for_none text bytes k unknown is stops no_unknown)
none_beside text bytes (ShortEscape k) is stops = absurd (stands_for_none text bytes k short is stops no_short)
none_beside text bytes (OutOfRange k) is stops = absurd (stands_for_none text bytes k out_of_range is stops no_range)

pub one_fault : (text : Bytes) (e fault : EscapeFault) → IsFaultOf text e → IsFaultOf text fault → fault ≢ NoMemory → (e ≡ fault) ⊎ (e ≡ NoMemory)
one_fault text NoMemory fault s z other = inr refl
one_fault text (UnknownEscape k) NoMemory s z other = absurd (other refl)
one_fault text (ShortEscape k) NoMemory s z other = absurd (other refl)
one_fault text (OutOfRange k) NoMemory s z other = absurd (other refl)
one_fault text (UnknownEscape k) (UnknownEscape j) s z other = inl (ap (λ (n : ℕ). UnknownEscape n) (stops_once text k j unknown unknown s z no_unknown no_unknown).0)
one_fault text (ShortEscape k) (ShortEscape j) s z other = inl (ap (λ (n : ℕ). ShortEscape n) (stops_once text k j short short s z no_short no_short).0)
one_fault text (OutOfRange k) (OutOfRange j) s z other =
    inl (ap (λ (n : ℕ). OutOfRange n) (stops_once text k j out_of_range out_of_range s z no_range no_range).0)
one_fault text (UnknownEscape k) (ShortEscape j) s z other = let e = (stops_once text k j unknown short s z no_unknown no_short).1 in cc
one_fault text (UnknownEscape k) (OutOfRange j) s z other = let e = (stops_once text k j unknown out_of_range s z no_unknown no_range).1 in cc
one_fault text (ShortEscape k) (UnknownEscape j) s z other = let e = (stops_once text k j short unknown s z no_short no_unknown).1 in cc
one_fault text (ShortEscape k) (OutOfRange j) s z other = let e = (stops_once text k j short out_of_range s z no_short no_range).1 in cc
one_fault text (OutOfRange k) (UnknownEscape j) s z other = let e = (stops_once text k j out_of_range unknown s z no_range no_unknown).1 in cc
one_fault text (OutOfRange k) (ShortEscape j) s z other = let e = (stops_once text k j out_of_range short s z no_range no_short).1 in cc
