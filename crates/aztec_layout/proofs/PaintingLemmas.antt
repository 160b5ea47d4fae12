-- Drawing one thing after another.
use Rattle.std.proofs.Common.{◌≡◌, ◌≢◌, ℕ, ◌+◌, ◌*◌, ◌<◌, ◌≤◌, ◌⊎◌, Bool, true, false, List, [], ◌∷◌, Some, zero, suc, length, set, refl, ap, subst, sym, ◌∙◌, inl, inr, ⊎_elim, arith}
use Rattle.std.specs.Prelude.{◌↔◌, ◌||◌, slice_get}
use Rattle.std.proofs.lemmas.Bool.{cases_eq, cases_lt}
use Rattle.std.proofs.lemmas.List.{length-set}
use Rattle.std.proofs.lemmas.Nat.{same_from_place}
use Rattle.std.proofs.lemmas.Option.{slice_get_within}
use Rattle.bar_base.specs.Picture.{Picture, module_at, row_count, with_module}
use Rattle.aztec_layout.specs.Painting.{Paints}

-- nothing is drawn
pub paints_none : (g : Picture) (P : ℕ → ℕ → Type 0) → ((x y : ℕ) → P x y → ⊥) → Paints g g P
paints_none g P nothing = record {
  width = refl;
  heights = refl;
  whole = refl;
  dark = λ x y in_x in_y. (inl, λ h. ⊎_elim (λ d. d) (λ p. absurd (nothing x y p)) h);
}

-- what is drawn first and what is drawn then, together
pub paints_both : (g h k : Picture) (P Q R : ℕ → ℕ → Type 0) → Paints g h P → Paints h k Q →
    ((x y : ℕ) → x < g.width → y < row_count g → P x y ⊎ Q x y → R x y) →
    ((x y : ℕ) → x < g.width → y < row_count g → R x y → P x y ⊎ Q x y) → Paints g k R
paints_both g h k P Q R first then to from = record {
  width = then.width ∙ first.width;
  heights = then.heights ∙ first.heights;
  whole = then.whole ∙ first.whole;
  dark = λ x y in_x in_y.
      let in_x' : x < h.width = subst (λ (w : ℕ). x < w) (sym first.width) in_x in
      let in_y' : y < row_count h = subst (λ (hs : List ℕ). y < length hs) (sym first.heights) in_y in (
        λ d. ⊎_elim
            (λ d'. ⊎_elim (λ old. inl old) (λ p. inr (to x y in_x in_y (inl p))) ((first.dark x y in_x in_y).0 d'))
            (λ q. inr (to x y in_x in_y (inr q)))
            ((then.dark x y in_x' in_y').0 d),
        λ d. ⊎_elim
            (λ old. (then.dark x y in_x' in_y').1 (inl ((first.dark x y in_x in_y).1 (inl old))))
            (λ r. ⊎_elim (λ p. (then.dark x y in_x' in_y').1 (inl ((first.dark x y in_x in_y).1 (inr p)))) (λ q. (then.dark x y in_x' in_y').1 (inr q)) (from x y in_x in_y r))
            d,
      );
}

-- the same drawing in other words
pub paints_same : (g h : Picture) (P R : ℕ → ℕ → Type 0) → Paints g h P →
    ((x y : ℕ) → x < g.width → y < row_count g → P x y → R x y) → ((x y : ℕ) → x < g.width → y < row_count g → R x y → P x y) → Paints g h R
paints_same g h P R p to from = record {
  width = p.width;
  heights = p.heights;
  whole = p.whole;
  dark = λ x y in_x in_y. (
    λ d. ⊎_elim (λ old. inl old) (λ q. inr (to x y in_x in_y q)) ((p.dark x y in_x in_y).0 d),
    λ d. ⊎_elim (λ old. (p.dark x y in_x in_y).1 (inl old)) (λ r. (p.dark x y in_x in_y).1 (inr (from x y in_x in_y r))) d,
  );
}

-- one of the first n of a row of drawings
abbrev pub Upto : (ℕ → ℕ → ℕ → Type 0) → ℕ → ℕ → ℕ → Type 0
Upto A n x y = (i : ℕ) × (i < n) × A i x y

pub paints_begin : (g : Picture) (A : ℕ → ℕ → ℕ → Type 0) → Paints g g (Upto A 0)
paints_begin g A = paints_none g (Upto A 0) (λ x y p. let below : p.0 < 0 = p.1 in omega arith)

-- one drawing more
pub paints_next : (g h k : Picture) (A : ℕ → ℕ → ℕ → Type 0) (n : ℕ) → Paints g h (Upto A n) → Paints h k (A n) → Paints g k (Upto A (n + 1))
paints_next g h k A n first then = paints_both g h k (Upto A n) (A n) (Upto A (n + 1)) first then
    (λ x y in_x in_y p. ⊎_elim
    (λ q. let below : q.0 < n = q.1 in (q.0, (let more : q.0 < n + 1 = omega arith in more), q.2))
    (λ q. (n, (let more : n < n + 1 = omega arith in more), q)) p)
    (λ x y in_x in_y p. split x y p.0 p.1 p.2 (cases_lt p.0 n))
  where
    split : (x y i : ℕ) → i < n + 1 → A i x y → (i < n) ⊎ (n ≤ i) → Upto A n x y ⊎ A n x y
    split x y i below a cases = ⊎_elim (λ h. inl (i, h, a))
        (λ h. let le : n ≤ i = h in inr (subst (λ (j : ℕ). A j x y) (let e : i ≡ n = omega arith in e) a)) cases

-- reading a list after a write
pub slice_get-set_same : {X : Type 0} (xs : List X) (i : ℕ) (v : X) → i < length xs → slice_get (set xs i v) i ≡ Some v
slice_get-set_same [] i v inside = absurd (omega arith)
slice_get-set_same (x ∷ xs) zero v inside = refl
slice_get-set_same (x ∷ xs) (suc i) v inside = slice_get-set_same xs i v (omega arith)

pub slice_get-set_other : {X : Type 0} (xs : List X) (i j : ℕ) (v : X) → i ≢ j → slice_get (set xs i v) j ≡ slice_get xs j
slice_get-set_other [] i j v apart = refl
slice_get-set_other (x ∷ xs) zero zero v apart = absurd (apart refl)
slice_get-set_other (x ∷ xs) zero (suc j) v apart = refl
slice_get-set_other (x ∷ xs) (suc i) zero v apart = refl
slice_get-set_other (x ∷ xs) (suc i) (suc j) v apart = slice_get-set_other xs i j v (λ e. apart (ap suc e))

either_dark : (dark old : Bool) → Some (dark || old) ≡ Some true → (Some old ≡ Some true) ⊎ (dark ≡ true)
either_dark true old e = inr refl
either_dark false old e = inl e

dark_already : (dark old : Bool) → Some old ≡ Some true → Some (dark || old) ≡ Some true
dark_already true old e = refl
dark_already false old e = e

dark_now : (dark old : Bool) → dark ≡ true → Some (dark || old) ≡ Some true
dark_now true old e = refl
dark_now false old e = absurd (cc)

-- one module made dark where `dark` says so
pub paints_dot : (g : Picture) (x y : ℕ) (dark old : Bool) → x < g.width → module_at g x y ≡ Some old →
    Paints g (with_module g x y (dark || old)) (λ a b. (dark ≡ true) × (a ≡ x) × (b ≡ y))
paints_dot g x y dark old inside here = record {
  width = refl;
  heights = refl;
  whole = length-set g.modules (y * g.width + x) (dark || old);
  dark = λ a b in_a in_b. at a b in_a (cases_eq (y * g.width + x) (b * g.width + a));
}
  where
    here_at : (a b : ℕ) → a < g.width → y * g.width + x ≡ b * g.width + a →
        (module_at (with_module g x y (dark || old)) a b ≡ Some true) ↔ ((module_at g a b ≡ Some true) ⊎ ((dark ≡ true) × (a ≡ x) × (b ≡ y)))
    here_at a b in_a same =
        let place : (y ≡ b) × (x ≡ a) = same_from_place y x b a g.width inside in_a same in
        let now : module_at (with_module g x y (dark || old)) a b ≡ Some (dark || old) =
        ap (slice_get (set g.modules (y * g.width + x) (dark || old))) (sym same)
        ∙ slice_get-set_same g.modules (y * g.width + x) (dark || old) (slice_get_within g.modules (y * g.width + x) old here) in
        let before : module_at g a b ≡ Some old = ap (slice_get g.modules) (sym same) ∙ here in (
          λ d. ⊎_elim (λ e. inl (before ∙ e)) (λ e. inr (e, sym place.1, sym place.0)) (either_dark dark old (sym now ∙ d)),
          λ d. ⊎_elim (λ e. now ∙ dark_already dark old (sym before ∙ e)) (λ e. now ∙ dark_now dark old e.0) d,
        )

    other_at : (a b : ℕ) → (y * g.width + x ≡ b * g.width + a → ⊥) →
        (module_at (with_module g x y (dark || old)) a b ≡ Some true) ↔ ((module_at g a b ≡ Some true) ⊎ ((dark ≡ true) × (a ≡ x) × (b ≡ y)))
    other_at a b other =
        let stays : module_at (with_module g x y (dark || old)) a b ≡ module_at g a b =
        slice_get-set_other g.modules (y * g.width + x) (b * g.width + a) (dark || old) other in (
          λ d. inl (sym stays ∙ d),
          λ d. ⊎_elim (λ e. stays ∙ e)
              (λ e. absurd (other (ap (λ (t : ℕ). t * g.width + x) (sym e.2) ∙ ap (λ (t : ℕ). b * g.width + t) (sym e.1)))) d,
        )

    at : (a b : ℕ) → a < g.width → (y * g.width + x ≡ b * g.width + a) ⊎ (y * g.width + x ≡ b * g.width + a → ⊥) →
        (module_at (with_module g x y (dark || old)) a b ≡ Some true) ↔ ((module_at g a b ≡ Some true) ⊎ ((dark ≡ true) × (a ≡ x) × (b ≡ y)))
    at a b in_a cases = ⊎_elim (here_at a b in_a) (other_at a b) cases
