use Rattle.std.proofs.Common.{◌+◌, ℕ, subst, arith}
use Rattle.aztec_modes.specs.declared.mode.Mode.TheVariants.{Upper, Lower, Mixed}
use Rattle.aztec_best.specs.Lows.{HasKeys}
use Rattle.aztec_best.specs.Runs.{AreRuns}
use Rattle.aztec_best.proofs.RunLaws.{low_key, keys_later, runs_of_lows}
use Rattle.aztec_best.proofs.runs.runs_of.Goals as goal

pub headed-requires-clause-upper : goal.headed-requires-clause-upper
headed-requires-clause-upper c =
    let keys : HasKeys c.args.costs.now (c.args.place + c.args.form.fewest) (c.args.place + c.min.result) =
    keys_later c.args.costs.now c.args.place c.args.form.fewest c.min.result c.args.bytes c.requires.keys c.requires.some
    (omega (arith, c.requires.form, c.requires.there, c.min.ensures)) (omega (arith, c.min.ensures)) in
    let key = low_key c.args.costs.now Upper (c.args.place + c.args.form.fewest) (c.args.place + c.min.result) c.slide-lows.result.upper keys c.slide-lows.ensures.lows.upper in
    omega (arith, key.large)

pub headed-requires-clause-upper_small : goal.headed-requires-clause-upper_small
headed-requires-clause-upper_small c =
    let keys : HasKeys c.args.costs.now (c.args.place + c.args.form.fewest) (c.args.place + c.min.result) =
    keys_later c.args.costs.now c.args.place c.args.form.fewest c.min.result c.args.bytes c.requires.keys c.requires.some
    (omega (arith, c.requires.form, c.requires.there, c.min.ensures)) (omega (arith, c.min.ensures)) in
    let key = low_key c.args.costs.now Upper (c.args.place + c.args.form.fewest) (c.args.place + c.min.result) c.slide-lows.result.upper keys c.slide-lows.ensures.lows.upper in
    omega (arith, key.small)

pub headed-requires-clause-lower : goal.headed-requires-clause-lower
headed-requires-clause-lower c =
    let keys : HasKeys c.args.costs.now (c.args.place + c.args.form.fewest) (c.args.place + c.min.result) =
    keys_later c.args.costs.now c.args.place c.args.form.fewest c.min.result c.args.bytes c.requires.keys c.requires.some
    (omega (arith, c.requires.form, c.requires.there, c.min.ensures)) (omega (arith, c.min.ensures)) in
    let key = low_key c.args.costs.now Lower (c.args.place + c.args.form.fewest) (c.args.place + c.min.result) c.slide-lows.result.lower keys c.slide-lows.ensures.lows.lower in
    omega (arith, key.large)

pub headed-requires-clause-lower_small : goal.headed-requires-clause-lower_small
headed-requires-clause-lower_small c =
    let keys : HasKeys c.args.costs.now (c.args.place + c.args.form.fewest) (c.args.place + c.min.result) =
    keys_later c.args.costs.now c.args.place c.args.form.fewest c.min.result c.args.bytes c.requires.keys c.requires.some
    (omega (arith, c.requires.form, c.requires.there, c.min.ensures)) (omega (arith, c.min.ensures)) in
    let key = low_key c.args.costs.now Lower (c.args.place + c.args.form.fewest) (c.args.place + c.min.result) c.slide-lows.result.lower keys c.slide-lows.ensures.lows.lower in
    omega (arith, key.small)

pub headed-requires-clause-mixed : goal.headed-requires-clause-mixed
headed-requires-clause-mixed c =
    let keys : HasKeys c.args.costs.now (c.args.place + c.args.form.fewest) (c.args.place + c.min.result) =
    keys_later c.args.costs.now c.args.place c.args.form.fewest c.min.result c.args.bytes c.requires.keys c.requires.some
    (omega (arith, c.requires.form, c.requires.there, c.min.ensures)) (omega (arith, c.min.ensures)) in
    let key = low_key c.args.costs.now Mixed (c.args.place + c.args.form.fewest) (c.args.place + c.min.result) c.slide-lows.result.mixed keys c.slide-lows.ensures.lows.mixed in
    omega (arith, key.large)

pub headed-requires-clause-mixed_small : goal.headed-requires-clause-mixed_small
headed-requires-clause-mixed_small c =
    let keys : HasKeys c.args.costs.now (c.args.place + c.args.form.fewest) (c.args.place + c.min.result) =
    keys_later c.args.costs.now c.args.place c.args.form.fewest c.min.result c.args.bytes c.requires.keys c.requires.some
    (omega (arith, c.requires.form, c.requires.there, c.min.ensures)) (omega (arith, c.min.ensures)) in
    let key = low_key c.args.costs.now Mixed (c.args.place + c.args.form.fewest) (c.args.place + c.min.result) c.slide-lows.result.mixed keys c.slide-lows.ensures.lows.mixed in
    omega (arith, key.small)

pub returns-clause-runs : goal.returns-clause-runs
returns-clause-runs c =
    let keys : HasKeys c.args.costs.now (c.args.place + c.args.form.fewest) (c.args.place + c.min.result) =
    keys_later c.args.costs.now c.args.place c.args.form.fewest c.min.result c.args.bytes c.requires.keys c.requires.some
    (omega (arith, c.requires.form, c.requires.there, c.min.ensures)) (omega (arith, c.min.ensures)) in
    subst (λ (n : ℕ). AreRuns c.args.costs.now c.args.place c.args.form.fewest n c.args.form.head c.headed.result) c.min.ensures
    (runs_of_lows c.args.costs.now c.args.place c.args.form.fewest c.min.result c.args.form.head c.slide-lows.result c.headed.result keys
    c.slide-lows.ensures.lows c.headed.ensures.upper c.headed.ensures.lower c.headed.ensures.mixed)
