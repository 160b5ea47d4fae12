-- A body read from the left, element by element.
use Rattle.std.proofs.Common.{◌≡◌, ℕ, ◌+◌, ◌≤◌, ◌∙◌, List, [], ◌∷◌, ◌++◌, All, Bool, true, false, MatchBool, MatchOption, Option, Some, None, length, drop, get_or, ◌<◌, ap, sym, subst, refl, inl, inr, append-nil, append_assoc}
use Rattle.std.specs.Option.{unwrap_or}
use Rattle.std.proofs.lemmas.List.Elements.{All-cons, All-head, All-nil, All-tail}
use Rattle.std.specs.List.{flat_map}
use Rattle.std.proofs.lemmas.List.{drop_all, drop_more}
use Rattle.bar_base.specs.declared.element.Element.{Element}
use Rattle.bar_base.specs.declared.element.Element.TheVariants.{Byte, Eci, Fnc1}
use Rattle.eci_sets.specs.CharacterSets.{set_numbered}
use Rattle.eci_sets.specs.Encodings.{IsEncodedIn, Encoded, first_lacking}
use Rattle.eci_sets.specs.JoinedTexts.{IsPart, IsPartText, IsJoinedText, Part, Advances, Blocks, byte_elements, part_elements}
use Rattle.eci_sets.specs.declared.character_set.CharacterSet.{CharacterSet}
use Rattle.eci_sets.proofs.OneText.{one_text}

-- the text of what is left, where a part of the number has begun with these bytes
unfoldable pub Walk : ℕ → List ℕ → List Element → List ℕ → Type 0
Walk n part [] text = IsPartText n part text
Walk n part (Byte b ∷ es) text = Walk n (part ++ b ∷ []) es text
Walk n part (Eci m ∷ es) text = (t : List ℕ) × (u : List ℕ) × IsPartText n part t × Walk m [] es u × (text ≡ t ++ u)
Walk n part (Fnc1 ∷ es) text = ⊥

none_spelled : (set : CharacterSet) → Encoded set [] []
unfolding first_lacking
none_spelled set = record { characters = []; scalar = refl; text_is = refl; all = refl; bytes_are = refl }

no_spelled : (o : Option CharacterSet) (text bytes : List ℕ) → bytes ≡ [] → IsEncodedIn o text bytes → text ≡ []
no_spelled None text bytes e is = absurd is
no_spelled (Some set) text bytes e is = one_text set [] text [] (none_spelled set) (subst (λ (b : List ℕ). Encoded set text b) e is)

one_spelled : (o : Option CharacterSet) (t u bytes : List ℕ) → IsEncodedIn o t bytes → IsEncodedIn o u bytes → t ≡ u
one_spelled None t u bytes a b = absurd a
one_spelled (Some set) t u bytes a b = one_text set u t bytes b a

pub one_read : (n : ℕ) (bytes t u : List ℕ) → IsPartText n bytes t → IsPartText n bytes u → t ≡ u
one_read n bytes t u (inl e) (inl f) = e.1 ∙ sym f.1
one_read n bytes t u (inl e) (inr b) = e.1 ∙ sym (no_spelled (set_numbered n) u bytes e.0 b)
one_read n bytes t u (inr a) (inl f) = no_spelled (set_numbered n) t bytes f.0 a ∙ sym f.1
one_read n bytes t u (inr a) (inr b) = one_spelled (set_numbered n) t u bytes a b

join : (a b c d : List ℕ) → a ≡ c → b ≡ d → a ++ b ≡ c ++ d
join a b c d e f = ap (λ (x : List ℕ). x ++ b) e ∙ ap (λ (x : List ℕ). c ++ x) f

pub one_walk : (n : ℕ) (part : List ℕ) (es : List Element) (t u : List ℕ) → Walk n part es t → Walk n part es u → t ≡ u
unfolding Walk
one_walk n part [] t u a b = one_read n part t u a b
one_walk n part (Byte c ∷ es) t u a b = one_walk n (part ++ c ∷ []) es t u a b
one_walk n part (Eci m ∷ es) t u a b = a.4 ∙ join a.0 a.1 b.0 b.1 (one_read n part a.0 b.0 a.2 b.2) (one_walk m [] es a.1 b.1 a.3 b.3) ∙ sym b.4
one_walk n part (Fnc1 ∷ es) t u a b = absurd a

texts_of : List Part → List ℕ
texts_of ps = flat_map (λ p. p.text) ps

pub to_walk : (bytes : List ℕ) (n : ℕ) (part t : List ℕ) (more : List Part) → IsPartText n (part ++ bytes) t → All IsPart more → Walk n part (byte_elements bytes ++ flat_map part_elements more) (t ++ flat_map (λ p. p.text) more)
unfolding Walk
to_walk [] n part t [] is each = subst (λ (x : List ℕ). IsPartText n part x) (sym (append-nil t)) (subst (λ (x : List ℕ). IsPartText n x t) (append-nil part) is)
to_walk [] n part t (p ∷ ps) is each =
    (t, p.text ++ flat_map (λ p. p.text) ps, subst (λ (x : List ℕ). IsPartText n x t) (append-nil part) is, to_walk p.bytes p.eci [] p.text ps (All-head IsPart p ps each) (All-tail IsPart p ps each), refl)
to_walk (b ∷ bytes) n part t more is each = to_walk bytes n (part ++ b ∷ []) t more (subst (λ (x : List ℕ). IsPartText n x t) (sym (append_assoc part (b ∷ []) bytes)) is) each

-- what is left is bytes and then parts
record Cut (n : ℕ) (part : List ℕ) (es : List Element) (text : List ℕ) : Type 0 where
  bytes : List ℕ
  t : List ℕ
  more : List Part
  is : IsPartText n (part ++ bytes) t
  each : All IsPart more
  body_is : es ≡ byte_elements bytes ++ flat_map part_elements more
  text_is : text ≡ t ++ flat_map (λ p. p.text) more

from_walk : (n : ℕ) (part : List ℕ) (es : List Element) (text : List ℕ) → Walk n part es text → Cut n part es text
unfolding Walk
from_walk n part [] text w = record { bytes = []; t = text; more = []; is = subst (λ (x : List ℕ). IsPartText n x text) (sym (append-nil part)) w; each = All-nil IsPart; body_is = refl; text_is = sym (append-nil text) }
from_walk n part (Byte b ∷ es) text w =
    let c = from_walk n (part ++ b ∷ []) es text w in
    record { bytes = b ∷ c.bytes; t = c.t; more = c.more; is = subst (λ (x : List ℕ). IsPartText n x c.t) (append_assoc part (b ∷ []) c.bytes) c.is; each = c.each; body_is = ap (λ (x : List Element). Byte b ∷ x) c.body_is; text_is = c.text_is }
from_walk n part (Eci m ∷ es) text w =
    let c = from_walk m [] es w.1 w.3 in
    let p : Part = record { eci = m; bytes = c.bytes; text = c.t } in
    record { bytes = []; t = w.0; more = p ∷ c.more; is = subst (λ (x : List ℕ). IsPartText n x w.0) (sym (append-nil part)) w.2; each = All-cons IsPart p c.more c.is c.each; body_is = ap (λ (x : List Element). Eci m ∷ x) c.body_is; text_is = w.4 ∙ ap (λ (x : List ℕ). w.0 ++ x) c.text_is }
from_walk n part (Fnc1 ∷ es) text w = absurd w

pub text_walk : (eci : Option ℕ) (body : List Element) (text : List ℕ) → IsJoinedText eci body text → Walk (unwrap_or eci 3) [] body text
text_walk eci body text is =
    subst (λ (n : ℕ). Walk n [] body text) is.number
    (subst (λ (x : List Element). Walk is.first.eci [] x text) (sym is.body_is)
    (subst (λ (x : List ℕ). Walk is.first.eci [] (byte_elements is.first.bytes ++ flat_map part_elements is.more) x) (sym is.text_is)
    (to_walk is.first.bytes is.first.eci [] is.first.text is.more (All-head IsPart is.first is.more is.each) (All-tail IsPart is.first is.more is.each))))

pub walk_text : (eci : Option ℕ) (body : List Element) (text : List ℕ) → Walk (unwrap_or eci 3) [] body text → IsJoinedText eci body text
walk_text eci body text w =
    let c = from_walk (unwrap_or eci 3) [] body text w in
    let p : Part = record { eci = unwrap_or eci 3; bytes = c.bytes; text = c.t } in
    record { first = p; more = c.more; number = refl; body_is = c.body_is; each = All-cons IsPart p c.more c.is c.each; text_is = c.text_is }

-- the text so far, and how what is left goes on
pub record Walked (n0 : ℕ) (body : List Element) (n : ℕ) (part text : List ℕ) (es : List Element) : Type 0 where
  pub forth : (t : List ℕ) → Walk n part es t → Walk n0 [] body (text ++ t)
  pub back : (t : List ℕ) → Walk n0 [] body t → (u : List ℕ) × Walk n part es u × (t ≡ text ++ u)

pub none_walked : (n : ℕ) (body : List Element) → Walked n body n [] [] body
none_walked n body = record { forth = λ t w. w; back = λ t w. (t, w, refl) }

pub byte_walked : (n0 : ℕ) (body : List Element) (n : ℕ) (part text : List ℕ) (b : ℕ) (es : List Element) → Walked n0 body n part text (Byte b ∷ es) → Walked n0 body n (part ++ b ∷ []) text es
unfolding Walk
byte_walked n0 body n part text b es w = record { forth = w.forth; back = w.back }

pub eci_walked : (n0 : ℕ) (body : List Element) (n : ℕ) (part text : List ℕ) (m : ℕ) (es : List Element) (t : List ℕ) → Walked n0 body n part text (Eci m ∷ es) → IsPartText n part t → Walked n0 body m [] (text ++ t) es
unfolding Walk
eci_walked n0 body n part text m es t w is = record {
  forth = λ u v. subst (λ (x : List ℕ). Walk n0 [] body x) (sym (append_assoc text t u)) (w.forth (t ++ u) (t, u, is, v, refl));
  back = λ x v.
      let c = w.back x v in
      let q = c.1 in
      (q.1, q.3, c.2 ∙ ap (λ (y : List ℕ). text ++ y) q.4 ∙ sym (append_assoc text q.0 q.1) ∙ ap (λ (y : List ℕ). (text ++ y) ++ q.1) (one_read n part q.0 t q.2 is));
}

pub eci_none : (n0 : ℕ) (body : List Element) (n : ℕ) (part text : List ℕ) (m : ℕ) (es : List Element) → Walked n0 body n part text (Eci m ∷ es) → ((t : List ℕ) → IsPartText n part t → ⊥) → (t : List ℕ) → Walk n0 [] body t → ⊥
unfolding Walk
eci_none n0 body n part text m es w never t v = let c = w.back t v in let q = c.1 in never q.0 q.2

pub fnc_none : (n0 : ℕ) (body : List Element) (n : ℕ) (part text : List ℕ) (es : List Element) → Walked n0 body n part text (Fnc1 ∷ es) → (t : List ℕ) → Walk n0 [] body t → ⊥
unfolding Walk
fnc_none n0 body n part text es w t v = let c = w.back t v in c.1

pub end_none : (n0 : ℕ) (body : List Element) (n : ℕ) (part text : List ℕ) → Walked n0 body n part text [] → ((t : List ℕ) → IsPartText n part t → ⊥) → (t : List ℕ) → Walk n0 [] body t → ⊥
unfolding Walk
end_none n0 body n part text w never t v = let c = w.back t v in never c.0 c.1

pub end_some : (n0 : ℕ) (body : List Element) (n : ℕ) (part text t : List ℕ) → Walked n0 body n part text [] → IsPartText n part t → Walk n0 [] body (text ++ t)
unfolding Walk
end_some n0 body n part text t w is = w.forth t is

-- the same, at a place of the body
pub here : (n0 : ℕ) (body : List Element) (n : ℕ) (part text : List ℕ) (place : ℕ) (d : Element) → Walked n0 body n part text (drop place body) → place < length body
    → Walked n0 body n part text (get_or body place d ∷ drop (place + 1) body)
here n0 body n part text place d w within = subst (λ (es : List Element). Walked n0 body n part text es) (drop_more body place d within) w

pub at_end : (n0 : ℕ) (body : List Element) (n : ℕ) (part text : List ℕ) (place : ℕ) → Walked n0 body n part text (drop place body) → length body ≤ place
    → Walked n0 body n part text []
at_end n0 body n part text place w past = subst (λ (es : List Element). Walked n0 body n part text es) (drop_all place body past) w

pub none_text : (eci : Option ℕ) (body : List Element) → ((t : List ℕ) → Walk (unwrap_or eci 3) [] body t → ⊥) → (t : List ℕ) → IsJoinedText eci body t → ⊥
none_text eci body never t is = never t (text_walk eci body t is)

pub only_text : (eci : Option ℕ) (body : List Element) (text other : List ℕ) → IsJoinedText eci body text → IsJoinedText eci body other → other ≡ text
only_text eci body text other a b = one_walk (unwrap_or eci 3) [] body other text (text_walk eci body other b) (text_walk eci body text a)

pub stepped : (n0 : ℕ) (body : List Element) (n : ℕ) (part text : List ℕ) (e : Element) (es : List Element) (m : ℕ) (part' text' : List ℕ) → Walked n0 body n part text (e ∷ es) → Advances n part text e m part' text' → Walked n0 body m part' text' es
stepped n0 body n part text (Byte b) es m part' text' w s =
    subst (λ (k : ℕ). Walked n0 body k part' text' es) (sym s.0) (subst (λ (x : List ℕ). Walked n0 body n x text' es) (sym s.1) (subst (λ (x : List ℕ). Walked n0 body n (part ++ b ∷ []) x es) (sym s.2) (byte_walked n0 body n part text b es w)))
stepped n0 body n part text (Eci k) es m part' text' w s =
    subst (λ (j : ℕ). Walked n0 body j part' text' es) (sym s.1) (subst (λ (x : List ℕ). Walked n0 body k x text' es) (sym s.2) (subst (λ (x : List ℕ). Walked n0 body k [] x es) (sym s.4) (eci_walked n0 body n part text k es s.0 w s.3)))
stepped n0 body n part text Fnc1 es m part' text' w s = absurd s

pub stuck : (n0 : ℕ) (body : List Element) (n : ℕ) (part text : List ℕ) (e : Element) (es : List Element) → Walked n0 body n part text (e ∷ es) → Blocks n part e → (t : List ℕ) → Walk n0 [] body t → ⊥
stuck n0 body n part text (Byte b) es w s = absurd s
stuck n0 body n part text (Eci k) es w s = eci_none n0 body n part text k es w s
stuck n0 body n part text Fnc1 es w s = fnc_none n0 body n part text es w

-- the last part
abbrev pub AtEnd : ℕ → List ℕ → List ℕ → List ℕ → Bool → Type 0
AtEnd n part text text' b = MatchBool b ((t : List ℕ) × IsPartText n part t × (text' ≡ text ++ t)) ((t : List ℕ) → IsPartText n part t → ⊥)

pub end_true : (n0 : ℕ) (body : List Element) (n : ℕ) (part text text' : List ℕ) (b : Bool) → b ≡ true → AtEnd n part text text' b → Walked n0 body n part text [] → Walk n0 [] body text'
end_true n0 body n part text text' true e m w = subst (λ (x : List ℕ). Walk n0 [] body x) (sym m.2) (end_some n0 body n part text m.0 w m.1)
end_true n0 body n part text text' false e m w = cc

pub end_false : (n0 : ℕ) (body : List Element) (n : ℕ) (part text text' : List ℕ) (b : Bool) → b ≡ false → AtEnd n part text text' b → Walked n0 body n part text [] → (t : List ℕ) → Walk n0 [] body t → ⊥
end_false n0 body n part text text' true e m w t v = cc
end_false n0 body n part text text' false e m w t v = end_none n0 body n part text w m t v

pub never_read : (n : ℕ) (part text text' : List ℕ) (b : Bool) → b ≡ false → AtEnd n part text text' b → (t : List ℕ) → IsPartText n part t → ⊥
never_read n part text text' true e m t is = cc
never_read n part text text' false e m t is = m t is

same_number : (j k : ℕ) → Some j ≡ Some k → j ≡ k
same_number j k e = cc

pub none_step : (n : ℕ) (part : List ℕ) (e : Element) (r : Option ℕ) (P : ℕ → Type 0) → r ≡ None → MatchOption r (Blocks n part e) P → Blocks n part e
none_step n part e None P is m = m
none_step n part e (Some k) P is m = cc

pub some_step : (n : ℕ) (part : List ℕ) (e : Element) (r : Option ℕ) (k : ℕ) (P : ℕ → Type 0) → r ≡ Some k → MatchOption r (Blocks n part e) P → P k
some_step n part e None k P is m = cc
some_step n part e (Some j) k P is m = subst P (same_number j k is) m
