use Rattle.std.proofs.Common.{subst, arith}
use Rattle.std.specs.Prelude.{IfNone, IfSome}
use Rattle.std.specs.declared.option.Option.{Option}
use Rattle.bar_base.specs.Picture.{Picture}
use Rattle.aztec_layout.specs.Sizes.{IsSize}
use Rattle.image_locate.specs.Stands.{IsCut}
use Rattle.symbol_reader.specs.Reading.{IsBadModeOf}
use Rattle.symbol_reader.specs.Sight.{known}
use Rattle.zint_read.proofs.Cuts.{CutsSoFar, bad_cuts, first_cut, no_cuts, size_within, so_far_bad, so_far_none, so_far_outside}
use Rattle.zint_read.proofs.frames.anywhere.cut_at.Goals as goal
use Rattle.zint_read.proofs.frames.anywhere.cut_at.Goals.{in-None, in-Some+in_ok-bad_mode-in-Some+in-Some-2}

pub loop-layers-init : goal.loop-layers-init
loop-layers-init c = so_far_none c.args.pixels.now c.args.stand

pub loop-layers-preserved : goal.loop-layers-preserved
loop-layers-preserved c =
    let p = c.args.pixels.now in
    let s = c.args.stand in
    let size = c.size_of-size.result in
    let sized : IsSize size = size_within s.full size c.loop-layers.layers c.most_layers-layers-end.result c.size_of-size.ensures.kind c.size_of-size.ensures.layers (omega arith) c.loop-layers-test.true c.most_layers-layers-end.ensures in
    elim c.match-branch-2.branch [
      | in-None w ↦ rw w.bad-is (so_far_outside p s size c.loop-layers.layers c.loop-layers.bad c.size_of-size.ensures.kind c.size_of-size.ensures.layers
          (subst (λ (o : Option Picture). IfNone o ((grid : Picture) → IsCut p s size grid → ⊥)) w.in-None.is c.in_ok-cut.ensures.none) c.loop-layers.invariant)
      | in-Some+in_ok-bad_mode-in-Some+in-Some-2 w ↦ rw w.bad-is (so_far_bad p s size c.loop-layers.layers c.loop-layers.bad w.in-Some-2.words c.requires.shows sized c.size_of-size.ensures.kind
          c.size_of-size.ensures.layers w.in-Some.grid (subst (λ (o : Option Picture). IfSome o (IsCut p s size)) w.in-Some.is c.in_ok-cut.ensures.cut)
          (subst (IsBadModeOf (known w.in-Some.grid)) w.in-Some-2.is w.in_ok-bad_mode-in-Some.ensures.bad) c.loop-layers.invariant)
    ]

pub returns-in-None-2 : goal.returns-in-None-2
returns-in-None-2 c =
    let p = c.args.pixels.now in
    let s = c.args.stand in
    let size = c.size_of-size.result in
    let sized : IsSize size = size_within s.full size c.loop-layers.layers c.most_layers-layers-end.result c.size_of-size.ensures.kind c.size_of-size.ensures.layers (omega arith) c.loop-layers-test.true c.most_layers-layers-end.ensures in
    first_cut p s size c.loop-layers.layers c.loop-layers.bad c.in-Some.grid sized c.size_of-size.ensures.layers
    (subst (λ (o : Option Picture). IfSome o (IsCut p s size)) c.in-Some.is c.in_ok-cut.ensures.cut)
    (subst (IsBadModeOf (known c.in-Some.grid)) c.in-None-2.is c.in_ok-bad_mode-in-Some.ensures.bad) c.loop-layers.invariant

pub returns-in-None-bad : goal.returns-in-None-bad
returns-in-None-bad c =
    rw (c.bad_image.ensures, c.width.ensures.width, c.rows.ensures.rows)
    (no_cuts c.args.pixels.now c.args.stand c.loop-layers.layers (omega (arith, c.most_layers-layers-end.ensures, c.loop-layers-test.false))
    (subst (CutsSoFar c.args.pixels.now c.args.stand c.loop-layers.layers) c.in-None-bad.is c.loop-layers.invariant))

pub returns-in-Some-bad : goal.returns-in-Some-bad
returns-in-Some-bad c =
    bad_cuts c.args.pixels.now c.args.stand c.loop-layers.layers c.in-Some-bad.words (omega (arith, c.most_layers-layers-end.ensures, c.loop-layers-test.false))
    (subst (CutsSoFar c.args.pixels.now c.args.stand c.loop-layers.layers) c.in-Some-bad.is c.loop-layers.invariant)
