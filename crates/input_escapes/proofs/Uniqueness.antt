-- A text is pieces joined in one way at most, up to the first place where none begins.
use Rattle.std.proofs.Common.{◌≡◌, ℕ, suc, ◌∙◌, ◌++◌, List, [], ◌∷◌, length, take, drop, ap, sym, refl, arith, append_assoc, append-nil, length-append, length-drop}
use Rattle.std.specs.List.{All, flat_map}
use Rattle.std.proofs.lemmas.List.{take-append-drop, take-append-le, take_all}
use Rattle.input_escapes.specs.Escapes.{Bytes, Head, head, piece}
use Rattle.input_escapes.specs.Texts.{IsPiece, StandsFor, Stops}
use Rattle.input_escapes.proofs.Fronts.{head_local}

-- no piece begins there
abbrev pub IsNoPiece : Head → Type 0
IsNoPiece here = (n : ℕ) (b : Bytes) → here ≡ piece n b → ⊥

abbrev texts : List (Bytes × Bytes) → Bytes
texts = flat_map (λ p. p.0)

-- a piece stands at the front of each text that begins with it
begins : (p : Bytes × Bytes) (more : Bytes) → IsPiece p → head (p.0 ++ more) ≡ piece (length p.0) p.1
begins p more is =
    let front : take (length p.0) (p.0 ++ more) ≡ take (length p.0) p.0 = take-append-le (length p.0) p.0 more (omega arith) in
    (head_local p.0 (p.0 ++ more) (length p.0) p.1 is).2 front (omega (arith, length-append p.0 more))

cut_front : (x more : Bytes) → take (length x) (x ++ more) ≡ x
cut_front x more = take-append-le (length x) x more (omega arith) ∙ take_all (length x) x (omega arith)

cut_rest : (x more : Bytes) → drop (length x) (x ++ more) ≡ more
cut_rest [] more = refl
cut_rest (b ∷ x) more = cut_rest x more

rest_each : (p : Bytes × Bytes) (ps : List (Bytes × Bytes)) → All IsPiece (p ∷ ps) → All IsPiece ps
rest_each p ps each k d below = each (suc k) d (omega arith)

first_each : (p : Bytes × Bytes) (ps : List (Bytes × Bytes)) → All IsPiece (p ∷ ps) → IsPiece p
first_each p ps each = each 0 p (omega arith)

one_reading : (p : Bytes × Bytes) (r more : Bytes) → IsPiece p → r ≡ p.0 ++ more → IsNoPiece (head r) → ⊥
one_reading p r more is e none = none (length p.0) p.1 (ap head e ∙ begins p more is)

same_first : (p q : Bytes × Bytes) (x y : Bytes) → IsPiece p → IsPiece q → p.0 ++ x ≡ q.0 ++ y → (p ≡ q) × (x ≡ y)
same_first p q x y is_p is_q e =
    let heads : piece (length p.0) p.1 ≡ piece (length q.0) q.1 = sym (begins p x is_p) ∙ ap head e ∙ begins q y is_q in
    let sizes : length p.0 ≡ length q.0 = cc in
    let bytes : p.1 ≡ q.1 = cc in
    let fronts : p.0 ≡ q.0 = sym (cut_front p.0 x) ∙ ap (λ (k : ℕ). take k (p.0 ++ x)) sizes ∙ ap (take (length q.0)) e ∙ cut_front q.0 y in
    let rests : x ≡ y = sym (cut_rest p.0 x) ∙ ap (λ (k : ℕ). drop k (p.0 ++ x)) sizes ∙ ap (drop (length q.0)) e ∙ cut_rest q.0 y in
    (ap (λ (k : Bytes). (k, p.1)) fronts ∙ ap (λ (k : Bytes). (q.0, k)) bytes, rests)

pub same_pieces : (ps qs : List (Bytes × Bytes)) (r s : Bytes) → All IsPiece ps → All IsPiece qs → texts ps ++ r ≡ texts qs ++ s
    → IsNoPiece (head r) → IsNoPiece (head s) → (ps ≡ qs) × (r ≡ s)
same_pieces [] [] r s each_p each_q e no_r no_s = (refl, e)
same_pieces [] (q ∷ qs) r s each_p each_q e no_r no_s =
    absurd (one_reading q r (texts qs ++ s) (first_each q qs each_q) (e ∙ append_assoc q.0 (texts qs) s) no_r)
same_pieces (p ∷ ps) [] r s each_p each_q e no_r no_s =
    absurd (one_reading p s (texts ps ++ r) (first_each p ps each_p) (sym e ∙ append_assoc p.0 (texts ps) r) no_s)
same_pieces (p ∷ ps) (q ∷ qs) r s each_p each_q e no_r no_s =
    let parts = same_first p q (texts ps ++ r) (texts qs ++ s) (first_each p ps each_p) (first_each q qs each_q)
    (sym (append_assoc p.0 (texts ps) r) ∙ e ∙ append_assoc q.0 (texts qs) s) in
    let rest = same_pieces ps qs r s (rest_each p ps each_p) (rest_each q qs each_q) parts.1 no_r no_s in
    (ap (λ (k : Bytes × Bytes). k ∷ ps) parts.0 ∙ ap (λ (ks : List (Bytes × Bytes)). q ∷ ks) rest.0, rest.1)

nothing_there : IsNoPiece (head [])
unfolding head
nothing_there n b e = cc

-- a text stands for one list of bytes at most
pub only_bytes : (text a b : Bytes) → StandsFor text a → StandsFor text b → a ≡ b
only_bytes text a b is_a is_b =
    let joined = ap (λ (t : Bytes). t ++ []) (sym is_a.text_is ∙ is_b.text_is) in
    let same = same_pieces is_a.pieces is_b.pieces [] [] is_a.each is_b.each joined nothing_there nothing_there in
    is_a.bytes_are ∙ ap (flat_map (λ p. p.1)) same.0 ∙ sym is_b.bytes_are

at_place : (text : Bytes) (place : ℕ) (here : Head) (s : Stops text place here) → texts s.before.pieces ++ drop place text ≡ text
at_place text place here s = ap (λ (t : Bytes). t ++ drop place text) (sym s.before.text_is) ∙ take-append-drop place text

no_piece_here : (text : Bytes) (place : ℕ) (here : Head) → Stops text place here → IsNoPiece here → IsNoPiece (head (drop place text))
no_piece_here text place here s none n b e = none n b (sym s.at_place ∙ e)

-- a text that stops at a place stands for no bytes
pub stands_for_none : (text bytes : Bytes) (place : ℕ) (here : Head) → StandsFor text bytes → Stops text place here → IsNoPiece here → ⊥
stands_for_none text bytes place here is s none =
    let joined = at_place text place here s ∙ is.text_is ∙ sym (append-nil (texts is.pieces)) in
    let same = same_pieces s.before.pieces is.pieces (drop place text) [] s.before.each is.each joined (no_piece_here text place here s none) nothing_there in
    let gone = ap (length {A = ℕ}) same.1 in
    let within = s.within in
    absurd (omega (arith, length-drop place text))

-- a text stops at one place at most
pub stops_once : (text : Bytes) (k j : ℕ) (here there : Head) → Stops text k here → Stops text j there → IsNoPiece here → IsNoPiece there
    → (k ≡ j) × (here ≡ there)
stops_once text k j here there s z none_s none_z =
    let joined = at_place text k here s ∙ sym (at_place text j there z) in
    let same = same_pieces s.before.pieces z.before.pieces (drop k text) (drop j text) s.before.each z.before.each joined
    (no_piece_here text k here s none_s) (no_piece_here text j there z none_z) in
    let lengths = ap (length {A = ℕ}) same.1 in
    let within_s = s.within in
    let within_z = z.within in
    let place : k ≡ j = omega (arith, length-drop k text, length-drop j text) in
    (place, sym s.at_place ∙ ap head same.1 ∙ z.at_place)
