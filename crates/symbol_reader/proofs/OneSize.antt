-- A picture has one size, and a mode message names one number of data codewords.
use Rattle.std.proofs.Common.{◌≡◌, ℕ, ◌-◌, ◌^◌, ◌<◌, ◌≤◌, Bool, true, false, List, [], Some, refl, sym, ap, subst, ◌∙◌, arith}
use Rattle.std.specs.Prelude.{nat_le}
use Rattle.std.proofs.lemmas.Bool.{agree_below_at, leb-true}
use Rattle.std.proofs.lemmas.Bool.Decides.{nat_tests}
use Rattle.std.proofs.lemmas.List.{append-nil, append_cancel_left}
use Rattle.bar_base.specs.Bits.{to_bits}
use Rattle.bar_base.specs.Picture.{Picture, module_at, row_count}
use Rattle.bar_base.proofs.NumberBits.{SameNumber, to_bits_once}
use Rattle.aztec_layout.specs.declared.sizes.Size.{Size}
use Rattle.aztec_layout.specs.Core.{is_core, is_dark_core}
use Rattle.aztec_layout.specs.CoreReading.{HasFinder, middle_of}
use Rattle.aztec_layout.specs.ModeMessage.{CanHold, IsModeMessage, mode_front}
use Rattle.aztec_layout.specs.Sizes.{IsSize, codewords_of}
use Rattle.aztec_layout.proofs.SizeLemmas.{same_size, side_some}
use Rattle.aztec_layout.proofs.SizeParts.{size_at}
use Rattle.symbol_reader.specs.Reading.{IsFound}
use Rattle.symbol_reader.specs.Sight.{Sight}

-- The finder of a compact symbol and that of a full one do not stand in one picture.
no_both : (picture : Picture) → 7 ≤ middle_of picture → picture.width ≤ row_count picture → HasFinder true picture → HasFinder false picture → ⊥
no_both picture room tall full compact =
    let m : ℕ = middle_of picture in
    let in_x : m - 5 < picture.width = omega (arith, room) in
    let in_y : m - 5 < row_count picture = omega (arith, room, tall, in_x) in
    let light : module_at picture (m - 5) (m - 5) ≡ Some (is_dark_core true m (m - 5) (m - 5)) = full (m - 5) (m - 5) in_x in_y (full_core m room) in
    let dark : module_at picture (m - 5) (m - 5) ≡ Some (is_dark_core false m (m - 5) (m - 5)) = compact (m - 5) (m - 5) in_x in_y (compact_core m room) in
    let both : Some false ≡ Some true = sym (ap Some (full_light m room)) ∙ sym light ∙ dark ∙ ap Some (compact_dark m room) in
    cc
  where
    full_core : (m : ℕ) → 7 ≤ m → is_core true m (m - 5) (m - 5) ≡ true
    full_core m room = grind (arith, nat_tests)

    compact_core : (m : ℕ) → 7 ≤ m → is_core false m (m - 5) (m - 5) ≡ true
    compact_core m room = grind (arith, nat_tests)

    full_light : (m : ℕ) → 7 ≤ m → is_dark_core true m (m - 5) (m - 5) ≡ false
    full_light m room = grind (arith, nat_tests)

    compact_dark : (m : ℕ) → 7 ≤ m → is_dark_core false m (m - 5) (m - 5) ≡ true
    compact_dark m room = grind (arith, nat_tests)

-- A picture has one size.
pub found_once : (sight : Sight) (s t : Size) → IsFound sight s → IsFound sight t → s ≡ t
found_once sight s t p q = by_kinds s.full t.full refl refl
  where
    room : 7 ≤ middle_of sight.picture
    room = omega (arith, p.side.width, side_some s p.side.sized)

    tall : sight.picture.width ≤ row_count sight.picture
    tall = omega (arith, p.side.width, p.side.rows)

    alike : s.full ≡ t.full → s ≡ t
    alike kinds = same_size s t kinds (sym p.side.width ∙ q.side.width)

    by_kinds : (f g : Bool) → s.full ≡ f → t.full ≡ g → s ≡ t
    by_kinds true true is is' = alike (is ∙ sym is')
    by_kinds false false is is' = alike (is ∙ sym is')
    by_kinds true false is is' =
        absurd (no_both sight.picture room tall (subst (λ (f : Bool). HasFinder f sight.picture) is p.finder.stands) (subst (λ (f : Bool). HasFinder f sight.picture) is' q.finder.stands))
    by_kinds false true is is' =
        absurd (no_both sight.picture room tall (subst (λ (f : Bool). HasFinder f sight.picture) is' q.finder.stands) (subst (λ (f : Bool). HasFinder f sight.picture) is p.finder.stands))

-- Numbers from 1 on are told by the bits of one less.
counted_bits : (width m n : ℕ) → 1 ≤ m → 1 ≤ n → m ≤ 2 ^ width → n ≤ 2 ^ width → to_bits width (m - 1) ≡ to_bits width (n - 1) → m ≡ n
counted_bits width m n some some' few few' same =
    let h : SameNumber (m - 1) (n - 1) [] [] =
    to_bits_once width (m - 1) (n - 1) [] [] (omega (arith, some, few)) (omega (arith, some', few'))
    (append-nil (to_bits width (m - 1)) ∙ same ∙ sym (append-nil (to_bits width (n - 1)))) in
    omega (arith, h.number, some, some')

few_test : ℕ → Bool
few_test n = nat_le (codewords_of (size_at true n)) 2048

-- A full symbol has at most 2,048 codewords.
pub full_few : (n : ℕ) → n ≤ 32 → codewords_of (size_at true n) ≤ 2048
unfolding few_test
full_few n small = leb-true (codewords_of (size_at true n)) 2048 (agree_below_at few_test (λ k. true) 33 n refl (omega (arith, small)))

fronts_once : (f : Bool) (n h h' : ℕ) → IsSize (size_at f n) → CanHold (size_at f n) h → CanHold (size_at f n) h'
    → mode_front (size_at f n) h ≡ mode_front (size_at f n) h' → h ≡ h'
fronts_once true n h h' sized c c' same =
    counted_bits 11 h h' c.some c'.some (omega (arith, c.few, full_few n sized.1)) (omega (arith, c'.few, full_few n sized.1))
    (append_cancel_left (to_bits 5 (n - 1)) (to_bits 11 (h - 1)) (to_bits 11 (h' - 1)) same)
fronts_once false n h h' sized c c' same =
    counted_bits 6 h h' c.some c'.some (omega (arith, c.compact refl)) (omega (arith, c'.compact refl))
    (append_cancel_left (to_bits 2 (n - 1)) (to_bits 6 (h - 1)) (to_bits 6 (h' - 1)) same)

-- A mode message names one number of data codewords.
pub held_once : (size : Size) (h h' : ℕ) (mode : List ℕ) → IsSize size → CanHold size h → CanHold size h' → IsModeMessage size h mode → IsModeMessage size h' mode → h ≡ h'
held_once size h h' mode sized can can' is is' = fronts_once size.full size.layers h h' sized can can' (sym is.front ∙ is'.front)
