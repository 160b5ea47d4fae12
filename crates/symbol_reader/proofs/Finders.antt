-- Which finder stands in a picture, and which module is named where none does.
use Rattle.std.proofs.Common.{◌≡◌, ◌⊎◌, ℕ, ◌<◌, ◌≤◌, inl, inr, Bool, true, false, not, Some, refl, sym, ap, subst, ◌∙◌, arith}
use Rattle.std.specs.Prelude.{Option, None, IfNone, IfSome, if◌then◌else◌}
use Rattle.std.proofs.lemmas.Bool.{cases_order}
use Rattle.std.proofs.lemmas.Bool.Decides.{nat_tests}
use Rattle.bar_base.specs.Picture.{Picture, row_count}
use Rattle.aztec_layout.specs.declared.sizes.Size.{Size}
use Rattle.aztec_layout.specs.Core.{is_dark_core}
use Rattle.aztec_layout.specs.CoreReading.{Agrees, Differs, IsFirstDiffering, HasFinder, middle_of}
use Rattle.aztec_layout.specs.DataReading.{HasSide}
use Rattle.symbol_reader.specs.Reading.{HasNoFinder, IsFound}
use Rattle.symbol_reader.specs.Sight.{IsFirstWrong, IsRightAt, Sight, StandsIn, earlier_of, is_earlier}

opposite : (b : Bool) → Some b ≡ Some (not b) → ⊥
opposite true e = cc
opposite false e = cc

no_both : (full : Bool) (picture : Picture) (x y : ℕ) → Differs full picture x y → Agrees full picture x y → ⊥
no_both full picture x y differs agrees = opposite (is_dark_core full (middle_of picture) x y) (sym (agrees differs.0) ∙ differs.1)

-- A module that is wrong is not right.
pub wrong_apart : (full : Bool) (sight : Sight) (x y : ℕ) → Differs full sight.picture x y ⊎ Differs full sight.dark x y → IsRightAt full sight x y → ⊥
wrong_apart full sight x y (inl differs) right = no_both full sight.picture x y differs right.0
wrong_apart full sight x y (inr differs) right = no_both full sight.dark x y differs right.1

differs_apart : (full : Bool) (sight : Sight) (x y : ℕ) → IsFirstWrong full sight x y → StandsIn full sight → ⊥
differs_apart full sight x y d stands =
    wrong_apart full sight x y d.wrong
    (λ core. stands.stands x y d.column d.row core, λ core. stands.stands_dark x y (subst (λ (n : ℕ). x < n) (sym stands.width) d.column) (subst (λ (n : ℕ). y < n) (sym stands.rows) d.row) core)

-- In a picture whose modules are all known the first that differs is the first wrong one.
pub known_wrong : (full : Bool) (sight : Sight) (x y : ℕ) → sight.dark ≡ sight.picture → IsFirstDiffering full sight.picture x y → IsFirstWrong full sight x y
known_wrong full sight x y same first =
    subst (λ (dark : Picture). IsFirstWrong full (record { picture = sight.picture; dark = dark }) x y) (sym same)
    (record {
      column = first.column;
      row = first.row;
      wrong = inl first.differs;
      above = λ a b column row. (first.above a b column row, first.above a b column row);
      before = λ a column. (first.before a column, first.before a column);
    })

pub known_stands : (full : Bool) (sight : Sight) → sight.dark ≡ sight.picture → HasFinder full sight.picture → StandsIn full sight
known_stands full sight same stands = record {
  stands = stands;
  stands_dark = subst (λ (dark : Picture). HasFinder full dark) (sym same) stands;
  width = ap (λ (dark : Picture). dark.width) same;
  rows = ap (λ (dark : Picture). row_count dark) same;
}

-- The earlier of the first modules that differ with the unknown modules light and with them dark.
module _ (full : Bool) (sight : Sight) (width : sight.dark.width ≡ sight.picture.width) (rows : row_count sight.dark ≡ row_count sight.picture) where
  abbrev pub First : (picture : Picture) → Option (ℕ × ℕ) → Type 0
  First picture None = HasFinder full picture
  First picture (Some place) = IsFirstDiffering full picture place.0 place.1

  abbrev pub Wrong : Option (ℕ × ℕ) → Type 0
  Wrong None = StandsIn full sight
  Wrong (Some place) = IsFirstWrong full sight place.0 place.1

  pub first_of : (picture : Picture) (place : Option (ℕ × ℕ)) → IfNone place (HasFinder full picture) → IfSome place (λ p. IsFirstDiffering full picture p.0 p.1) → First picture place
  first_of picture None stands differs = stands
  first_of picture (Some place) stands differs = differs

  pub stands_from : (place : Option (ℕ × ℕ)) → Wrong place → IfNone place (StandsIn full sight)
  stands_from None wrong = wrong
  stands_from (Some place) wrong = tt

  pub wrong_from : (place : Option (ℕ × ℕ)) → Wrong place → IfSome place (λ p. IsFirstWrong full sight p.0 p.1)
  wrong_from None wrong = tt
  wrong_from (Some place) wrong = wrong

  from_picture : (x y : ℕ) → IsFirstDiffering full sight.picture x y
      → ((a b : ℕ) → a < sight.picture.width → b < y → Agrees full sight.dark a b) → ((a : ℕ) → a < x → Agrees full sight.dark a y) → IsFirstWrong full sight x y
  from_picture x y first above before = record {
    column = first.column;
    row = first.row;
    wrong = inl first.differs;
    above = λ a b column row. (first.above a b column row, above a b column row);
    before = λ a column. (first.before a column, before a column);
  }

  from_dark : (x y : ℕ) → IsFirstDiffering full sight.dark x y
      → ((a b : ℕ) → a < sight.picture.width → b < y → Agrees full sight.picture a b) → ((a : ℕ) → a < x → Agrees full sight.picture a y) → IsFirstWrong full sight x y
  from_dark x y first above before = record {
    column = omega (arith, first.column, width);
    row = omega (arith, first.row, rows);
    wrong = inr first.differs;
    above = λ a b column row. (above a b column row, first.above a b (omega (arith, column, width)) row);
    before = λ a column. (before a column, first.before a column);
  }

  -- what stands in front of a later place is right
  in_front : (picture : Picture) (x y a b : ℕ) → IsFirstDiffering full picture a b → (y < b) ⊎ ((y ≡ b) × (x ≤ a)) → picture.width ≡ sight.picture.width
      → ((c d : ℕ) → c < sight.picture.width → d < y → Agrees full picture c d) × ((c : ℕ) → c < x → c < sight.picture.width → Agrees full picture c y)
  in_front picture x y a b first (inl higher) wide = (
    λ c d column row. first.above c d (omega (arith, column, wide)) (omega (arith, row, higher)),
    λ c column inside. first.above c y (omega (arith, inside, wide)) higher,
  )
  in_front picture x y a b first (inr (same, left)) wide = (
    λ c d column row. first.above c d (omega (arith, column, wide)) (omega (arith, row, same)),
    λ c column inside. subst (λ (n : ℕ). Agrees full picture c n) (sym same) (first.before c (omega (arith, column, left))),
  )

  is_before : (x y a b : ℕ) → is_earlier x y a b ≡ true → (y < b) ⊎ ((y ≡ b) × (x ≤ a))
  is_before x y a b is = elim (cases_order y b) [
    | inl same ↦ inr (same, grind (arith, nat_tests))
    | inr (inl higher) ↦ inl higher
    | inr (inr lower) ↦ absurd (grind (arith, nat_tests))
  ]

  is_behind : (x y a b : ℕ) → is_earlier x y a b ≡ false → (b < y) ⊎ ((b ≡ y) × (a ≤ x))
  is_behind x y a b is = elim (cases_order y b) [
    | inl same ↦ inr (sym same, grind (arith, nat_tests))
    | inr (inl higher) ↦ absurd (grind (arith, nat_tests))
    | inr (inr lower) ↦ inl lower
  ]

  pub earlier_wrong : (one other : Option (ℕ × ℕ)) → First sight.picture one → First sight.dark other → Wrong (earlier_of one other)
  unfolding earlier_of
  earlier_wrong None None stands stands_dark = record { stands = stands; stands_dark = stands_dark; width = width; rows = rows }
  earlier_wrong None (Some (x, y)) stands first =
      from_dark x y first (λ a b column row. stands a b column (omega (arith, row, first.row, rows))) (λ a column. stands a y (omega (arith, column, first.column, width)) (omega (arith, first.row, rows)))
  earlier_wrong (Some (x, y)) None first stands =
      from_picture x y first (λ a b column row. stands a b (omega (arith, column, width)) (omega (arith, row, first.row, rows))) (λ a column. stands a y (omega (arith, column, first.column, width)) (omega (arith, first.row, rows)))
  earlier_wrong (Some (x, y)) (Some (a, b)) first second = by_test (is_earlier a b x y) refl
    where
      by_test : (t : Bool) → is_earlier a b x y ≡ t → Wrong (if t then Some (a, b) else Some (x, y))
      by_test true is =
          let front = in_front sight.picture a b x y first (is_before a b x y is) refl in
          from_dark a b second front.0 (λ c column. front.1 c column (omega (arith, column, second.column, width)))
      by_test false is =
          let front = in_front sight.dark x y a b second (is_behind a b x y is) width in
          from_picture x y first front.0 (λ c column. front.1 c column (omega (arith, column, first.column)))

-- No size has a side that isn't there for any number of layers.
pub no_kind : (picture : Picture) (full : Bool) → ((layers : ℕ) → HasSide picture (record { full = full; layers = layers }) → ⊥) → (s : Size) → HasSide picture s → s.full ≡ full → ⊥
no_kind picture full none s side is = none s.layers (subst (λ (f : Bool). HasSide picture (record { full = f; layers = s.layers })) is side)

pub no_size : (picture : Picture) → ((layers : ℕ) → HasSide picture (record { full = false; layers = layers }) → ⊥) → ((layers : ℕ) → HasSide picture (record { full = true; layers = layers }) → ⊥)
    → (s : Size) → HasSide picture s → ⊥
no_size picture compact full s side = by_kind s.full refl
  where
    by_kind : (b : Bool) → s.full ≡ b → ⊥
    by_kind true is = no_kind picture true full s side is
    by_kind false is = no_kind picture false compact s side is

pub not_square : (picture : Picture) → (row_count picture ≡ picture.width → ⊥) → (s : Size) → HasSide picture s → ⊥
not_square picture other s side = other (side.rows ∙ sym side.width)

-- No finder, from the compact kind's first module that differs.
pub no_finder_compact : (sight : Sight) (size : Size) (x y : ℕ) → HasSide sight.picture size → size.full ≡ false → IsFirstWrong size.full sight x y
    → ((s : Size) → IsFound sight s → s.full ≡ true → ⊥) → HasNoFinder sight x y
no_finder_compact sight size x y side kind first full = record {
  none = λ s found. by_kind s found s.full refl;
  size = size;
  side = side;
  compact = λ other other_side is. kind;
  first = first;
}
  where
    by_kind : (s : Size) → IsFound sight s → (b : Bool) → s.full ≡ b → ⊥
    by_kind s found true is = full s found is
    by_kind s found false is =
        differs_apart false sight x y (subst (λ (f : Bool). IsFirstWrong f sight x y) kind first) (subst (λ (f : Bool). StandsIn f sight) is found.finder)

-- The full kind has no finder there.
pub no_full : (sight : Sight) (other : Size) (x y : ℕ) → other.full ≡ true → IsFirstWrong other.full sight x y → (s : Size) → IsFound sight s → s.full ≡ true → ⊥
no_full sight other x y kind first s found is =
    differs_apart true sight x y (subst (λ (f : Bool). IsFirstWrong f sight x y) kind first) (subst (λ (f : Bool). StandsIn f sight) is found.finder)

pub no_full_side : (sight : Sight) → ((layers : ℕ) → HasSide sight.picture (record { full = true; layers = layers }) → ⊥) → (s : Size) → IsFound sight s → s.full ≡ true → ⊥
no_full_side sight none s found is = no_kind sight.picture true none s found.side is

-- No finder, where only the full kind has the side.
pub no_finder_full : (sight : Sight) (size : Size) (x y : ℕ) → HasSide sight.picture size → size.full ≡ true → IsFirstWrong size.full sight x y
    → ((layers : ℕ) → HasSide sight.picture (record { full = false; layers = layers }) → ⊥) → HasNoFinder sight x y
no_finder_full sight size x y side kind first none = record {
  none = λ s found. by_kind s found s.full refl;
  size = size;
  side = side;
  compact = λ other other_side is. absurd (no_kind sight.picture false none other other_side is);
  first = first;
}
  where
    by_kind : (s : Size) → IsFound sight s → (b : Bool) → s.full ≡ b → ⊥
    by_kind s found false is = no_kind sight.picture false none s found.side is
    by_kind s found true is = no_full sight size x y kind first s found is
