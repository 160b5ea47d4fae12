-- The first of stands, looked for by one number after the other.
use Rattle.std.proofs.Common.{◌≡◌, ℕ, ◌+◌, ◌<◌, ◌≤◌, ◌⊎◌, if◌then◌else◌, inl, inr, ⊎_elim, Bool, true, false, Some, None, refl, sym, ap, subst, ◌∙◌, arith}
use Rattle.std.proofs.lemmas.Bool.{cases_lt}
use Rattle.bar_base.specs.Picture.{Picture}
use Rattle.image_locate.specs.Stands.{IsStand, ShowsFinder}
use Rattle.image_locate.specs.Finding.{AtPixel, ComesBefore, InRow, IsFirstOf, IsFirstStand, OfUnit, kind_and_turn}
use Rattle.image_locate.specs.declared.stand.Stand.{Stand}

-- None of some stands whose number is below n shows a finder.
abbrev pub NoneBelow : Picture → (among : Stand → Type 0) → (number : Stand → ℕ) → (n : ℕ) → Type 0
NoneBelow picture among number n = (stand : Stand) → among stand → IsStand stand → ShowsFinder picture stand → number stand < n → ⊥

-- One that comes before another has no greater number.
abbrev pub Follows : (among : Stand → Type 0) → (number : Stand → ℕ) → Type 0
Follows among number = (one other : Stand) → among one → among other → ComesBefore one other → number one ≤ number other

-- the first of those with the number n, where none has a lower one
pub first_at : (picture : Picture) (among : Stand → Type 0) (number : Stand → ℕ) (n : ℕ) (stand : Stand) → Follows among number → NoneBelow picture among number n
    → IsFirstOf picture (λ s. among s × (number s ≡ n)) (Some stand) → IsFirstOf picture among (Some stand)
first_at picture among number n stand follows none (here, ranged, shows, first) = (
  here.0,
  ranged,
  shows,
  λ other is is_ranged does before. ⊎_elim
      (λ less. none other is is_ranged does less)
      (λ more. (let bound = follows other stand is here.0 before in first other (is, omega (arith, more, bound, here.1)) is_ranged does before))
      (cases_lt (number other) n),
)

-- none with the number n either
pub none_more : (picture : Picture) (among : Stand → Type 0) (number : Stand → ℕ) (n : ℕ) → NoneBelow picture among number n
    → IsFirstOf picture (λ s. among s × (number s ≡ n)) None → NoneBelow picture among number (n + 1)
none_more picture among number n none here = λ stand is ranged shows below. ⊎_elim
    (λ less. none stand is ranged shows less)
    (λ more. here stand (is, omega (arith, more, below)) ranged shows)
    (cases_lt (number stand) n)

row_follows : (one other : Stand) → ComesBefore one other → one.y ≤ other.y
row_follows one other (inl less) = omega (arith, less)
row_follows one other (inr (same, rest)) = omega (arith, same)

pub column_follows : (y : ℕ) → Follows (InRow y) (λ s. s.x)
column_follows y one other is is_other (inl less) = absurd (omega (arith, less, is, is_other))
column_follows y one other is is_other (inr (same, inl less)) = omega (arith, less)
column_follows y one other is is_other (inr (same, inr (alike, rest))) = omega (arith, alike)

pub unit_follows : (x y : ℕ) → Follows (AtPixel x y) (λ s. s.u)
unit_follows x y one other is is_other (inl less) = absurd (omega (arith, less, is.0, is_other.0))
unit_follows x y one other is is_other (inr (same, inl less)) = absurd (omega (arith, less, is.1, is_other.1))
unit_follows x y one other is is_other (inr (same, inr (alike, inl less))) = omega (arith, less)
unit_follows x y one other is is_other (inr (same, inr (alike, inr (one_unit, rest)))) = omega (arith, one_unit)

pub kind_follows : (x y u : ℕ) → Follows (OfUnit x y u) kind_and_turn
kind_follows x y u one other is is_other (inl less) = absurd (omega (arith, less, is.0.0, is_other.0.0))
kind_follows x y u one other is is_other (inr (same, inl less)) = absurd (omega (arith, less, is.0.1, is_other.0.1))
kind_follows x y u one other is is_other (inr (same, inr (alike, inl less))) = absurd (omega (arith, less, is.1, is_other.1))
kind_follows x y u one other is is_other (inr (same, inr (alike, inr (one_unit, rest)))) = omega (arith, rest)

kind_below : (f : Bool) (turn : ℕ) → turn < 4 → (if f then 4 + turn else turn) < 8
kind_below true turn few = omega (arith, few)
kind_below false turn few = omega (arith, few)

pub few_kinds : (stand : Stand) → IsStand stand → kind_and_turn stand < 8
few_kinds stand ranged = kind_below stand.full stand.turn ranged.turns

-- the kind and the turn are told by one number
kinds_once : (f g : Bool) (t s : ℕ) → t < 4 → s < 4 → (if f then 4 + t else t) ≡ (if g then 4 + s else s) → (f ≡ g) × (t ≡ s)
kinds_once true true t s few few_more same = (refl, omega (arith, same))
kinds_once false false t s few few_more same = (refl, same)
kinds_once true false t s few few_more same = absurd (omega (arith, same, few_more))
kinds_once false true t s few few_more same = absurd (omega (arith, same, few))

stand_with : (y x u : ℕ) → Bool → ℕ → Stand
stand_with y x u full turn = record { y = y; x = x; u = u; full = full; turn = turn }

-- at one pixel and of one unit, a stand is told by kind and turn
pub same_stand : (x y u : ℕ) (one other : Stand) → OfUnit x y u one → OfUnit x y u other → IsStand one → IsStand other → kind_and_turn one ≡ kind_and_turn other → one ≡ other
unfolding stand_with
same_stand x y u one other is is_other ranged is_ranged same =
    let kinds = kinds_once one.full other.full one.turn other.turn ranged.turns is_ranged.turns same in
    ap (λ (n : ℕ). stand_with n one.x one.u one.full one.turn) (is.0.0 ∙ sym is_other.0.0)
    ∙ ap (λ (n : ℕ). stand_with other.y n one.u one.full one.turn) (is.0.1 ∙ sym is_other.0.1)
    ∙ ap (λ (n : ℕ). stand_with other.y other.x n one.full one.turn) (is.1 ∙ sym is_other.1)
    ∙ ap (λ (f : Bool). stand_with other.y other.x other.u f one.turn) kinds.0
    ∙ ap (stand_with other.y other.x other.u other.full) kinds.1

-- a stand that shows no finder is none of those with its number
pub other_number : (picture : Picture) (x y u n : ℕ) (stand : Stand) → OfUnit x y u stand → IsStand stand → kind_and_turn stand ≡ n → (ShowsFinder picture stand → ⊥)
    → IsFirstOf picture (λ s. OfUnit x y u s × (kind_and_turn s ≡ n)) None
other_number picture x y u n stand is ranged number none = λ other here is_ranged shows.
    none (subst (ShowsFinder picture) (same_stand x y u other stand here.0 is is_ranged ranged (here.1 ∙ sym number)) shows)

-- a stand that shows a finder is the first of those with its number
pub this_number : (picture : Picture) (x y u n : ℕ) (stand : Stand) → OfUnit x y u stand → IsStand stand → kind_and_turn stand ≡ n → ShowsFinder picture stand
    → IsFirstOf picture (λ s. OfUnit x y u s × (kind_and_turn s ≡ n)) (Some stand)
this_number picture x y u n stand is ranged number shows = (
  (is, number),
  ranged,
  shows,
  λ other here is_ranged does before. before_itself stand (subst (λ s. ComesBefore s stand) (same_stand x y u other stand here.0 is is_ranged ranged (here.1 ∙ sym number)) before),
)
  where
    before_itself : (s : Stand) → ComesBefore s s → ⊥
    before_itself s (inl less) = omega (arith, less)
    before_itself s (inr (same, inl less)) = omega (arith, less)
    before_itself s (inr (same, inr (alike, inl less))) = omega (arith, less)
    before_itself s (inr (same, inr (alike, inr (one_unit, less)))) = omega (arith, less)

-- the first of the first row with one is the first of the picture
pub first_of_all : (picture : Picture) (y : ℕ) (stand : Stand) → NoneBelow picture (λ s. Unit {0}) (λ s. s.y) y → IsFirstOf picture (InRow y) (Some stand) → IsFirstStand picture stand
first_of_all picture y stand none (here, ranged, shows, first) = record {
  ranged = ranged;
  shows = shows;
  first = λ other is_ranged does before. ⊎_elim
      (λ less. none other tt is_ranged does less)
      (λ more. (let bound = row_follows other stand before in first other (omega (arith, more, bound, here)) is_ranged does before))
      (cases_lt other.y y);
}

pub none_more_rows : (picture : Picture) (y : ℕ) → NoneBelow picture (λ s. Unit {0}) (λ s. s.y) y → IsFirstOf picture (InRow y) None → NoneBelow picture (λ s. Unit {0}) (λ s. s.y) (y + 1)
none_more_rows picture y none here = λ stand is ranged shows below. ⊎_elim
    (λ less. none stand tt ranged shows less)
    (λ more. here stand (omega (arith, more, below)) ranged shows)
    (cases_lt stand.y y)

-- Two first stands are one.
pub first_once : (picture : Picture) (one other : Stand) → IsFirstStand picture one → IsFirstStand picture other → one ≡ other
first_once picture one other is is_other = by_rows (cases_lt one.y other.y) (cases_lt other.y one.y)
  where
    not_before : ComesBefore one other → ⊥
    not_before before = is_other.first one is.ranged is.shows before

    not_after : ComesBefore other one → ⊥
    not_after before = is.first other is_other.ranged is_other.shows before

    by_kinds : one.y ≡ other.y → one.x ≡ other.x → one.u ≡ other.u → (kind_and_turn one < kind_and_turn other) ⊎ (kind_and_turn other ≤ kind_and_turn one)
        → (kind_and_turn other < kind_and_turn one) ⊎ (kind_and_turn one ≤ kind_and_turn other) → one ≡ other
    by_kinds rows columns units (inl less) rest = absurd (not_before (inr (rows, inr (columns, inr (units, less)))))
    by_kinds rows columns units (inr more) (inl less) = absurd (not_after (inr (sym rows, inr (sym columns, inr (sym units, less)))))
    by_kinds rows columns units (inr more) (inr most) =
        same_stand other.x other.y other.u one other ((rows, columns), units) ((refl, refl), refl) is.ranged is_other.ranged (omega (arith, more, most))

    by_units : one.y ≡ other.y → one.x ≡ other.x → (one.u < other.u) ⊎ (other.u ≤ one.u) → (other.u < one.u) ⊎ (one.u ≤ other.u) → one ≡ other
    by_units rows columns (inl less) rest = absurd (not_before (inr (rows, inr (columns, inl less))))
    by_units rows columns (inr more) (inl less) = absurd (not_after (inr (sym rows, inr (sym columns, inl less))))
    by_units rows columns (inr more) (inr most) =
        by_kinds rows columns (omega (arith, more, most)) (cases_lt (kind_and_turn one) (kind_and_turn other)) (cases_lt (kind_and_turn other) (kind_and_turn one))

    by_columns : one.y ≡ other.y → (one.x < other.x) ⊎ (other.x ≤ one.x) → (other.x < one.x) ⊎ (one.x ≤ other.x) → one ≡ other
    by_columns rows (inl less) rest = absurd (not_before (inr (rows, inl less)))
    by_columns rows (inr more) (inl less) = absurd (not_after (inr (sym rows, inl less)))
    by_columns rows (inr more) (inr most) = by_units rows (omega (arith, more, most)) (cases_lt one.u other.u) (cases_lt other.u one.u)

    by_rows : (one.y < other.y) ⊎ (other.y ≤ one.y) → (other.y < one.y) ⊎ (one.y ≤ other.y) → one ≡ other
    by_rows (inl less) rest = absurd (not_before (inl less))
    by_rows (inr more) (inl less) = absurd (not_after (inl less))
    by_rows (inr more) (inr most) = by_columns (omega (arith, more, most)) (cases_lt one.x other.x) (cases_lt other.x one.x)

-- none at a pixel whose numbers of pixels have all been tried
pub none_of_all : (picture : Picture) (among : Stand → Type 0) (number : Stand → ℕ) (n : ℕ) → NoneBelow picture among number n
    → ((stand : Stand) → among stand → IsStand stand → ShowsFinder picture stand → number stand < n) → IsFirstOf picture among None
none_of_all picture among number n none few = λ stand is ranged shows. none stand is ranged shows (few stand is ranged shows)
