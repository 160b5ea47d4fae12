use Rattle.std.proofs.Common.{◌≡◌, ◌-◌, ◌*◌, ◌/◌, ◌%◌, ◌<◌, ℕ, Some, None, Err, refl, sym, ap, ◌∙◌, arith}
use Rattle.std.proofs.lemmas.Result.{err_from_is_err_and}
use Rattle.bmp_io.specs.ReadBmp.{modules_across, modules_down, module_seen}
use Rattle.bmp_io.proofs.Seen.{SeenSoFar-none, SeenSoFar-more, SeenSoFar-all, SeenSoFar-refused, seen-some, seen-none, seen-rows}
use Rattle.bmp_io.proofs.Sides.{area-few, modules-few}
use Rattle.bmp_io.proofs.Steps.{given_refusal}
use Rattle.bmp_io.specs.BmpHeader.{pixels_high}
use Rattle.bmp_io.proofs.reading.see_all.Goals as goal

same_height : (lines lines' white unit : ℕ) → lines ≡ lines' → lines / unit - 2 * white ≡ lines' / unit - 2 * white
same_height lines lines' white unit high = rw high refl

pub loop-n-init : goal.loop-n-init
loop-n-init c =
    rw c.in_ok-grid.ensures.light
    (SeenSoFar-none c.args.sampling c.args.header c.args.bytes.now _ _ refl (same_height _ _ _ _ c.pixels_high.ensures))

pub loop-n-preserved : goal.loop-n-preserved
loop-n-preserved c =
    let width = c.args.header.width / c.args.sampling.unit - 2 * c.args.sampling.white in
    let wide : width ≡ modules_across c.args.sampling c.args.header = refl in
    let high : c.pixels_high.result / c.args.sampling.unit - 2 * c.args.sampling.vwhite ≡ modules_down c.args.sampling c.args.header = same_height _ _ _ _ c.pixels_high.ensures in
    let inside : c.loop-n.n < modules_down c.args.sampling c.args.header * modules_across c.args.sampling c.args.header = rw (← high, ← wide) c.loop-n-test.true in
    let seen : module_seen c.args.sampling c.args.header c.args.bytes.now (c.loop-n.n % width) (c.loop-n.n / width) ≡ Some c.in_ok-dark.dark =
    seen-some (module_seen c.args.sampling c.args.header c.args.bytes.now (c.loop-n.n % width) (c.loop-n.n / width)) c.in_ok-dark.dark (sym c.see.ensures ∙ c.in_ok-dark.was) in
    rw c.set.ensures.changed (SeenSoFar-more width c.in_ok-dark.dark c.loop-n.invariant wide inside seen)

pub returns-in_err-dark-clause-gives : goal.returns-in_err-dark-clause-gives
returns-in_err-dark-clause-gives c =
    let width = c.args.header.width / c.args.sampling.unit - 2 * c.args.sampling.white in
    let wide : width ≡ modules_across c.args.sampling c.args.header = refl in
    let high : c.pixels_high.result / c.args.sampling.unit - 2 * c.args.sampling.vwhite ≡ modules_down c.args.sampling c.args.header = same_height _ _ _ _ c.pixels_high.ensures in
    let inside : c.loop-n.n < modules_down c.args.sampling c.args.header * modules_across c.args.sampling c.args.header = rw (← high, ← wide) c.loop-n-test.true in
    let fault = c.in_err-dark.field-0.0 in
    let seen = seen-none (module_seen c.args.sampling c.args.header c.args.bytes.now (c.loop-n.n % width) (c.loop-n.n / width)) fault (sym c.see.ensures ∙ c.in_err-dark.was) in
    let none : module_seen c.args.sampling c.args.header c.args.bytes.now (c.loop-n.n % modules_across c.args.sampling c.args.header) (c.loop-n.n / modules_across c.args.sampling c.args.header) ≡ None =
    rw (← wide) seen.0 in
    let p = err_from_is_err_and c.from_residual-in_err-dark.result c.from_residual-in_err-dark.ensures.1 in
    rw (p.1, p.2) (given_refusal fault _ (sym (SeenSoFar-refused c.args.sampling c.args.header c.args.bytes.now c.loop-n.n inside none ∙ ap (λ fault. Err fault) seen.1)))

pub returns-clause-gives : goal.returns-clause-gives
returns-clause-gives c =
    let wide : c.args.header.width / c.args.sampling.unit - 2 * c.args.sampling.white ≡ modules_across c.args.sampling c.args.header = refl in
    let high : c.pixels_high.result / c.args.sampling.unit - 2 * c.args.sampling.vwhite ≡ modules_down c.args.sampling c.args.header = same_height _ _ _ _ c.pixels_high.ensures in
    let last : c.loop-n.n ≡ modules_down c.args.sampling c.args.header * modules_across c.args.sampling c.args.header = rw (← high, ← wide) (omega arith) in
    SeenSoFar-all c.loop-n.invariant last

pub new-requires-clause-small : goal.new-requires-clause-small
new-requires-clause-small c =
    let s = c.args.sampling in
    let wide = modules-few s.unit s.white s.most c.args.header.width c.requires.sides.across in
    let high = modules-few s.unit s.vwhite s.most (pixels_high c.args.header) c.requires.sides.down in
    rw c.pixels_high.ensures (area-few _ _ s.most high wide c.requires.sampling.few)

pub returns-clause-wide : goal.returns-clause-wide
returns-clause-wide c =
    let s = c.args.sampling in
    omega (arith, c.loop-n.invariant.wide, modules-few s.unit s.white s.most c.args.header.width c.requires.sides.across)

pub returns-clause-high : goal.returns-clause-high
returns-clause-high c =
    let s = c.args.sampling in
    omega (arith, seen-rows c.loop-n.invariant, modules-few s.unit s.vwhite s.most (pixels_high c.args.header) c.requires.sides.down)
