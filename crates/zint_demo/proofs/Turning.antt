-- Modules of a picture turned, one set of them after another.
use Rattle.std.proofs.Common.{◌≡◌, ◌≢◌, ℕ, zero, suc, ◌+◌, ◌*◌, ◌<◌, ◌⊎◌, Bool, List, [], ◌∷◌, Some, length, not, set, refl, sym, ap, subst, ◌∙◌, ⊎_elim, arith}
use Rattle.std.specs.Prelude.{option_map, slice_get}
use Rattle.std.proofs.lemmas.List.{length-set}
use Rattle.std.proofs.lemmas.Nat.{same_from_place}
use Rattle.std.proofs.lemmas.Option.{slice_get_within}
use Rattle.bar_base.specs.Picture.{Picture, module_at, row_count, with_module}
use Rattle.zint_demo.specs.Damage.{IsTurned}

-- nothing is turned
pub turned_none : (g : Picture) (P : ℕ → ℕ → Type 0) → ((x y : ℕ) → P x y → ⊥) → IsTurned g g P
turned_none g P nothing = record {
  width = refl;
  heights = refl;
  whole = refl;
  turned = λ x y in_x in_y p. absurd (nothing x y p);
  kept = λ x y in_x in_y other. refl;
}

-- the same turning in other words
pub turned_same : (g h : Picture) (P R : ℕ → ℕ → Type 0) → IsTurned g h P → ((x y : ℕ) → P x y → R x y) → ((x y : ℕ) → R x y → P x y) → IsTurned g h R
turned_same g h P R p to from = record {
  width = p.width;
  heights = p.heights;
  whole = p.whole;
  turned = λ x y in_x in_y r. p.turned x y in_x in_y (from x y r);
  kept = λ x y in_x in_y other. p.kept x y in_x in_y (λ q. other (to x y q));
}

-- what is turned first and what is turned then, where no module is turned twice
pub turned_both : (g h k : Picture) (P Q R : ℕ → ℕ → Type 0) → IsTurned g h P → IsTurned h k Q → ((x y : ℕ) → P x y → Q x y → ⊥)
    → ((x y : ℕ) → P x y → R x y) → ((x y : ℕ) → Q x y → R x y) → ((x y : ℕ) → R x y → P x y ⊎ Q x y) → IsTurned g k R
turned_both g h k P Q R first then apart to_first to_then from = record {
  width = then.width ∙ first.width;
  heights = then.heights ∙ first.heights;
  whole = then.whole ∙ first.whole;
  turned = λ x y in_x in_y r. ⊎_elim
      (λ p. then.kept x y (wide x in_x) (tall y in_y) (λ q. apart x y p q) ∙ first.turned x y in_x in_y p)
      (λ q. then.turned x y (wide x in_x) (tall y in_y) q ∙ ap (option_map not) (first.kept x y in_x in_y (λ p. apart x y p q)))
      (from x y r);
  kept = λ x y in_x in_y other.
      then.kept x y (wide x in_x) (tall y in_y) (λ q. other (to_then x y q)) ∙ first.kept x y in_x in_y (λ p. other (to_first x y p));
}
  where
    wide : (x : ℕ) → x < g.width → x < h.width
    wide x in_x = subst (λ (w : ℕ). x < w) (sym first.width) in_x

    tall : (y : ℕ) → y < row_count g → y < row_count h
    tall y in_y = subst (λ (hs : List ℕ). y < length hs) (sym first.heights) in_y

-- reading a list after a write
slice_get-set_same : {X : Type 0} (xs : List X) (i : ℕ) (v : X) → i < length xs → slice_get (set xs i v) i ≡ Some v
slice_get-set_same [] i v inside = absurd (omega arith)
slice_get-set_same (x ∷ xs) zero v inside = refl
slice_get-set_same (x ∷ xs) (suc i) v inside = slice_get-set_same xs i v (omega arith)

slice_get-set_other : {X : Type 0} (xs : List X) (i j : ℕ) (v : X) → i ≢ j → slice_get (set xs i v) j ≡ slice_get xs j
slice_get-set_other [] i j v apart = refl
slice_get-set_other (x ∷ xs) zero zero v apart = absurd (apart refl)
slice_get-set_other (x ∷ xs) zero (suc j) v apart = refl
slice_get-set_other (x ∷ xs) (suc i) zero v apart = refl
slice_get-set_other (x ∷ xs) (suc i) (suc j) v apart = slice_get-set_other xs i j v (λ e. apart (ap suc e))

-- one module turned
pub turned_one : (g : Picture) (x y : ℕ) (dark : Bool) → x < g.width → module_at g x y ≡ Some dark
    → IsTurned g (with_module g x y (not dark)) (λ a b. (a ≡ x) × (b ≡ y))
turned_one g x y dark inside here = record {
  width = refl;
  heights = refl;
  whole = length-set g.modules (y * g.width + x) (not dark);
  turned = λ a b in_a in_b p.
      let place : b * g.width + a ≡ y * g.width + x = ap (λ (n : ℕ). n * g.width + a) p.1 ∙ ap (λ (n : ℕ). y * g.width + n) p.0 in
      ap (slice_get (set g.modules (y * g.width + x) (not dark))) place
      ∙ slice_get-set_same g.modules (y * g.width + x) (not dark) (slice_get_within g.modules (y * g.width + x) dark here)
      ∙ sym (ap (option_map not) (ap (slice_get g.modules) place ∙ here));
  kept = λ a b in_a in_b other. slice_get-set_other g.modules (y * g.width + x) (b * g.width + a) (not dark)
      (λ same. let place : (y ≡ b) × (x ≡ a) = same_from_place y x b a g.width inside in_a same in other (sym place.1, sym place.0));
}
