-- Bars and spaces of joined lists of widths, and of pieces.
use Rattle.std.proofs.Common.{◌≡◌, ℕ, Bool, not, All, List, [], ◌∷◌, ◌++◌, replicate, refl, sym, ap, ◌∙◌, append_assoc}
use Rattle.std.specs.List.{flat_map}
use Rattle.std.proofs.lemmas.List.Elements.{All-head, All-tail}
use Rattle.bar_base.specs.Stripes.{stripes}

-- Whether a bar follows after these widths.
unfoldable pub after : (dark : Bool) → (widths : List ℕ) → Bool
after dark [] = dark
after dark (width ∷ widths) = after (not dark) widths

pub stripes-append : (dark : Bool) (front back : List ℕ) → stripes dark (front ++ back) ≡ stripes dark front ++ stripes (after dark front) back
unfolding stripes after
stripes-append dark [] back = refl
stripes-append dark (width ∷ front) back =
    ap (λ (xs : List Bool). replicate width dark ++ xs) (stripes-append (not dark) front back)
    ∙ sym (append_assoc (replicate width dark) (stripes (not dark) front) (stripes (after (not dark) front) back))

pub stripes-pieces : (dark : Bool) (f : ℕ → List ℕ) (values rest : List ℕ) → All (λ value. after dark (f value) ≡ dark) values
    → stripes dark (flat_map f values ++ rest) ≡ flat_map (λ value. stripes dark (f value)) values ++ stripes dark rest
stripes-pieces dark f [] rest same = refl
stripes-pieces dark f (value ∷ values) rest same =
    ap (stripes dark) (append_assoc (f value) (flat_map f values) rest)
    ∙ stripes-append dark (f value) (flat_map f values ++ rest)
    ∙ ap (λ (d : Bool). stripes dark (f value) ++ stripes d (flat_map f values ++ rest)) (All-head (λ (v : ℕ). after dark (f v) ≡ dark) value values same)
    ∙ ap (λ (xs : List Bool). stripes dark (f value) ++ xs) (stripes-pieces dark f values rest (All-tail (λ (v : ℕ). after dark (f v) ≡ dark) value values same))
    ∙ sym (append_assoc (stripes dark (f value)) (flat_map (λ v. stripes dark (f v)) values) (stripes dark rest))
