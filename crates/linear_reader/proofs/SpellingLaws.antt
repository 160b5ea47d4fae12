-- What values spell, one value after the other.
use Rattle.std.proofs.Common.{◌≡◌, ℕ, suc, ◌+◌, ◌<◌, ◌≤◌, Bool, true, false, if◌then◌else◌, List, [], ◌∷◌, ◌++◌, length, drop, slice_index, Option, Some, None, Result, Ok, Err, refl, sym, ap, ◌∙◌, arith, append_assoc}
use Rattle.std.proofs.Math.Seq.{drop-cons}
use Rattle.std.proofs.lemmas.List.{drop_all, append-nil}
use Rattle.bar_base.specs.declared.element.Element.{Element}
use Rattle.bar_base.specs.declared.element.Element.TheVariants as element
use Rattle.code128_best.specs.declared.effect.Effect.{Effect}
use Rattle.code128_best.specs.declared.state.State.{State}
use Rattle.code128_best.specs.Values.{act_of, is_free, spelled_elements}
use Rattle.linear_reader.specs.declared.symbology.RowSymbology.{RowSymbology}
use Rattle.linear_reader.specs.declared.scan.ScanFault.{ScanFault}
use Rattle.linear_reader.specs.declared.scan.ScanFault.TheVariants.{BadSpelling}
use Rattle.linear_reader.specs.Data.{with_more, spelled_from, byte_alone, byte_of_pair, bytes_from}

abbrev Spelling : Type 0
Spelling = Result (List Element) ScanFault

here : (xs : List ℕ) (i : ℕ) → i < length xs → drop i xs ≡ slice_index xs i ∷ drop (i + 1) xs
here xs i inside = let e : i + 1 ≡ suc i = omega arith in drop-cons xs i 0 inside ∙ ap (λ (k : ℕ). slice_index xs i ∷ drop k xs) (sym e)

-- elements in front of elements in front of others
pub joined : (front back : List Element) (more : Spelling) → with_more (front ++ back) more ≡ with_more front (with_more back more)
joined front back (Ok elements) = ap Ok (append_assoc front back elements)
joined front back (Err fault) = refl

-- a value of Code 128
by_effect : (place : ℕ) (values : List ℕ) → Option Effect → Spelling
by_effect place values effect = elim effect as (λ _. Spelling) [
  | None ↦ Err (BadSpelling place)
  | Some effect ↦ with_more (spelled_elements effect.spelled) (spelled_from (place + 1) effect.next values)
]

acts : (place : ℕ) (state : State) (value : ℕ) (values : List ℕ) (effect : Option Effect) → act_of state value ≡ effect → spelled_from place state (value ∷ values) ≡ by_effect place values effect
unfolding spelled_from by_effect
acts place state value values effect is = ap (by_effect place values) is

pub act_more : (front new : List Element) (place at value : ℕ) (state : State) (effect : Effect) (values : List ℕ) (all : Spelling) → at < length values → value ≡ slice_index values at
    → act_of state value ≡ Some effect → new ≡ front ++ spelled_elements effect.spelled → with_more front (spelled_from (place + at) state (drop at values)) ≡ all
    → with_more new (spelled_from (place + (at + 1)) effect.next (drop (at + 1) values)) ≡ all
unfolding by_effect
act_more front new place at value state effect values all inside same does more is =
    let rest = drop (at + 1) values in
    ap (λ (es : List Element). with_more es (spelled_from (place + (at + 1)) effect.next rest)) more
    ∙ ap (λ (n : ℕ). with_more (front ++ spelled_elements effect.spelled) (spelled_from n effect.next rest)) (let e : place + (at + 1) ≡ place + at + 1 = omega arith in e)
    ∙ joined front (spelled_elements effect.spelled) (spelled_from (place + at + 1) effect.next rest)
    ∙ ap (with_more front) (sym (acts (place + at) state value rest (Some effect) does))
    ∙ ap (λ (v : ℕ). with_more front (spelled_from (place + at) state (v ∷ rest))) same
    ∙ ap (λ (vs : List ℕ). with_more front (spelled_from (place + at) state vs)) (sym (here values at inside))
    ∙ is

pub act_stop : (front : List Element) (place at value : ℕ) (state : State) (values : List ℕ) (all : Spelling) → at < length values → value ≡ slice_index values at
    → act_of state value ≡ None → with_more front (spelled_from (place + at) state (drop at values)) ≡ all → all ≡ Err (BadSpelling (place + at))
unfolding by_effect
act_stop front place at value state values all inside same does is =
    let rest = drop (at + 1) values in
    sym is
    ∙ ap (λ (vs : List ℕ). with_more front (spelled_from (place + at) state vs)) (here values at inside)
    ∙ ap (λ (v : ℕ). with_more front (spelled_from (place + at) state (v ∷ rest))) (sym same)
    ∙ ap (with_more front) (acts (place + at) state value rest None does)

act_end : (front : List Element) (place at : ℕ) (state : State) (values : List ℕ) (all : Spelling) (b : Bool) → length values ≤ at → is_free state ≡ b
    → with_more front (spelled_from (place + at) state (drop at values)) ≡ all → all ≡ with_more front (if b then Ok [] else Err (BadSpelling (place + at)))
unfolding spelled_from
act_end front place at state values all b past free is =
    sym is ∙ ap (λ (vs : List ℕ). with_more front (spelled_from (place + at) state vs)) (drop_all at values past)
    ∙ ap (λ (t : Bool). with_more front (if t then Ok [] else Err (BadSpelling (place + at)))) free

pub act_done : (front : List Element) (place at : ℕ) (state : State) (values : List ℕ) (all : Spelling) → length values ≤ at → is_free state ≡ true
    → with_more front (spelled_from (place + at) state (drop at values)) ≡ all → all ≡ Ok front
act_done front place at state values all past free is = act_end front place at state values all true past free is ∙ ap Ok (append-nil front)

pub act_pending : (front : List Element) (place at : ℕ) (state : State) (values : List ℕ) (all : Spelling) → length values ≤ at → is_free state ≡ false
    → with_more front (spelled_from (place + at) state (drop at values)) ≡ all → all ≡ Err (BadSpelling (place + at))
act_pending front place at state values all past free is = act_end front place at state values all false past free is

-- a value of full ASCII that is no part of a pair yet
by_alone : (s : RowSymbology) (place value : ℕ) (values : List ℕ) → Option ℕ → Spelling
by_alone s place value values byte = elim byte as (λ _. Spelling) [
  | None ↦ bytes_from s (place + 1) (Some value) values
  | Some byte ↦ with_more (element.Byte byte ∷ []) (bytes_from s (place + 1) None values)
]

alone : (s : RowSymbology) (place value : ℕ) (values : List ℕ) (byte : Option ℕ) → byte_alone s value ≡ byte → bytes_from s place None (value ∷ values) ≡ by_alone s place value values byte
unfolding bytes_from by_alone
alone s place value values byte is = ap (by_alone s place value values) is

-- and one behind a sign
by_pair : (s : RowSymbology) (place : ℕ) (values : List ℕ) → Option ℕ → Spelling
by_pair s place values byte = elim byte as (λ _. Spelling) [
  | None ↦ Err (BadSpelling place)
  | Some byte ↦ with_more (element.Byte byte ∷ []) (bytes_from s (place + 1) None values)
]

pair : (s : RowSymbology) (place sign value : ℕ) (values : List ℕ) (byte : Option ℕ) → byte_of_pair s sign value ≡ byte → bytes_from s place (Some sign) (value ∷ values) ≡ by_pair s place values byte
unfolding bytes_from by_pair
pair s place sign value values byte is = ap (by_pair s place values) is

at_value : (s : RowSymbology) (front : List Element) (at : ℕ) (sign : Option ℕ) (values : List ℕ) (all : Spelling) → at < length values
    → with_more front (bytes_from s at sign (drop at values)) ≡ all → with_more front (bytes_from s at sign (slice_index values at ∷ drop (at + 1) values)) ≡ all
at_value s front at sign values all inside is = ap (λ (vs : List ℕ). with_more front (bytes_from s at sign vs)) (sym (here values at inside)) ∙ is

pub sign_more : (s : RowSymbology) (front : List Element) (at : ℕ) (values : List ℕ) (all : Spelling) → at < length values → byte_alone s (slice_index values at) ≡ None
    → with_more front (bytes_from s at None (drop at values)) ≡ all → with_more front (bytes_from s (at + 1) (Some (slice_index values at)) (drop (at + 1) values)) ≡ all
unfolding by_alone
sign_more s front at values all inside none is =
    ap (with_more front) (sym (alone s at (slice_index values at) (drop (at + 1) values) None none)) ∙ at_value s front at None values all inside is

pub byte_more : (s : RowSymbology) (front : List Element) (at byte : ℕ) (values : List ℕ) (all : Spelling) → at < length values → byte_alone s (slice_index values at) ≡ Some byte
    → with_more front (bytes_from s at None (drop at values)) ≡ all → with_more (front ++ element.Byte byte ∷ []) (bytes_from s (at + 1) None (drop (at + 1) values)) ≡ all
unfolding by_alone
byte_more s front at byte values all inside found is =
    joined front (element.Byte byte ∷ []) (bytes_from s (at + 1) None (drop (at + 1) values))
    ∙ ap (with_more front) (sym (alone s at (slice_index values at) (drop (at + 1) values) (Some byte) found)) ∙ at_value s front at None values all inside is

pub pair_more : (s : RowSymbology) (front : List Element) (at sign byte : ℕ) (values : List ℕ) (all : Spelling) → at < length values → byte_of_pair s sign (slice_index values at) ≡ Some byte
    → with_more front (bytes_from s at (Some sign) (drop at values)) ≡ all → with_more (front ++ element.Byte byte ∷ []) (bytes_from s (at + 1) None (drop (at + 1) values)) ≡ all
unfolding by_pair
pair_more s front at sign byte values all inside found is =
    joined front (element.Byte byte ∷ []) (bytes_from s (at + 1) None (drop (at + 1) values))
    ∙ ap (with_more front) (sym (pair s at sign (slice_index values at) (drop (at + 1) values) (Some byte) found)) ∙ at_value s front at (Some sign) values all inside is

pub pair_stop : (s : RowSymbology) (front : List Element) (at sign : ℕ) (values : List ℕ) (all : Spelling) → at < length values → byte_of_pair s sign (slice_index values at) ≡ None
    → with_more front (bytes_from s at (Some sign) (drop at values)) ≡ all → all ≡ Err (BadSpelling at)
unfolding by_pair
pair_stop s front at sign values all inside none is =
    sym (at_value s front at (Some sign) values all inside is) ∙ ap (with_more front) (pair s at sign (slice_index values at) (drop (at + 1) values) None none)

pub bytes_done : (s : RowSymbology) (front : List Element) (at : ℕ) (values : List ℕ) (all : Spelling) → length values ≤ at
    → with_more front (bytes_from s at None (drop at values)) ≡ all → all ≡ Ok front
unfolding bytes_from
bytes_done s front at values all past is =
    sym is ∙ ap (λ (vs : List ℕ). with_more front (bytes_from s at None vs)) (drop_all at values past) ∙ ap Ok (append-nil front)

pub bytes_pending : (s : RowSymbology) (front : List Element) (at sign : ℕ) (values : List ℕ) (all : Spelling) → length values ≤ at
    → with_more front (bytes_from s at (Some sign) (drop at values)) ≡ all → all ≡ Err (BadSpelling at)
unfolding bytes_from
bytes_pending s front at sign values all past is = sym is ∙ ap (λ (vs : List ℕ). with_more front (bytes_from s at (Some sign) vs)) (drop_all at values past)

pub sign_is : (s : RowSymbology) (front : List Element) (at : ℕ) (sign other : Option ℕ) (values : List ℕ) (all : Spelling) → sign ≡ other
    → with_more front (bytes_from s at sign (drop at values)) ≡ all → with_more front (bytes_from s at other (drop at values)) ≡ all
sign_is s front at sign other values all same is = ap (λ (t : Option ℕ). with_more front (bytes_from s at t (drop at values))) (sym same) ∙ is

pub as_left : (s : RowSymbology) (front front' : List Element) (at : ℕ) (sign sign' : Option ℕ) (rest : List ℕ) (all : Spelling) → front ≡ front' → sign ≡ sign'
    → with_more front' (bytes_from s at sign' rest) ≡ all → with_more front (bytes_from s at sign rest) ≡ all
as_left s front front' at sign sign' rest all same_front same_sign is =
    ap (λ (es : List Element). with_more es (bytes_from s at sign rest)) same_front ∙ ap (λ (t : Option ℕ). with_more front' (bytes_from s at t rest)) same_sign ∙ is

pub act_on : (place : ℕ) (state : State) (value : ℕ) (values : List ℕ) (effect : Effect) → act_of state value ≡ Some effect
    → spelled_from place state (value ∷ values) ≡ with_more (spelled_elements effect.spelled) (spelled_from (place + 1) effect.next values)
unfolding by_effect
act_on place state value values effect is = acts place state value values (Some effect) is

pub alone_on : (s : RowSymbology) (place value byte : ℕ) (values : List ℕ) → byte_alone s value ≡ Some byte
    → bytes_from s place None (value ∷ values) ≡ with_more (element.Byte byte ∷ []) (bytes_from s (place + 1) None values)
unfolding by_alone
alone_on s place value byte values found = alone s place value values (Some byte) found

pub sign_on : (s : RowSymbology) (place value : ℕ) (values : List ℕ) → byte_alone s value ≡ None
    → bytes_from s place None (value ∷ values) ≡ bytes_from s (place + 1) (Some value) values
unfolding by_alone
sign_on s place value values none = alone s place value values None none

pub pair_on : (s : RowSymbology) (place sign value byte : ℕ) (values : List ℕ) → byte_of_pair s sign value ≡ Some byte
    → bytes_from s place (Some sign) (value ∷ values) ≡ with_more (element.Byte byte ∷ []) (bytes_from s (place + 1) None values)
unfolding by_pair
pair_on s place sign value byte values found = pair s place sign value values (Some byte) found
