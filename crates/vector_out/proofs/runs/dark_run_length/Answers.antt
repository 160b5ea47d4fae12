use Rattle.std.proofs.Common.{◌≡◌, ◌+◌, ◌-◌, ◌<◌, Bool, true, false, drop, get_or, sym, ◌∙◌, arith}
use Rattle.std.specs.List.{prefix_len}
use Rattle.std.proofs.lemmas.List.Sums.{prefix_len-drop_yes, prefix_len-drop_no, prefix_len-drop_all}
use Rattle.std.proofs.lemmas.Option.{get_or_from_slice_get}
use Rattle.bar_base.specs.Picture.{row_of}
use Rattle.bar_base.proofs.PictureLemmas.{row_module}
use Rattle.vector_out.proofs.RunLines.{length-row}
use Rattle.vector_out.proofs.runs.dark_run_length.Goals as goal

pub loop-k-preserved : goal.loop-k-preserved
loop-k-preserved c =
    let picture = c.args.grid.now in
    let row = row_of picture c.args.y in
    let k = c.loop-k.k in
    let inside : k < picture.width = omega (arith, c.width-width.ensures.width, c.loop-k-test.true) in
    let dark : get_or row k false ≡ true =
    get_or_from_slice_get row k c.dark.result false (row_module picture k c.args.y c.dark.result inside c.dark.ensures.«module») ∙ c.if-not-dark.false in
    let long = length-row picture c.args.y c.width-width.ensures.shape c.requires.row in
    let more : prefix_len (λ (dark : Bool). dark) (drop k row) ≡ 1 + prefix_len (λ (dark : Bool). dark) (drop (k + 1) row) = prefix_len-drop_yes (λ dark. dark) row k false (omega (arith, long)) dark in
    c.loop-k.invariant ∙ (let e : (k - c.args.x) + prefix_len (λ (dark : Bool). dark) (drop k row) ≡ (k + 1 - c.args.x) + prefix_len (λ (dark : Bool). dark) (drop (k + 1) row) = omega (arith, more, c.loop-k.auto.k) in e)

pub returns-then-not-dark-clause-length : goal.returns-then-not-dark-clause-length
returns-then-not-dark-clause-length c =
    let picture = c.args.grid.now in
    let row = row_of picture c.args.y in
    let k = c.loop-k.k in
    let inside : k < picture.width = omega (arith, c.width-width.ensures.width, c.loop-k-test.true) in
    let light : get_or row k false ≡ false =
    get_or_from_slice_get row k c.dark.result false (row_module picture k c.args.y c.dark.result inside c.dark.ensures.«module») ∙ c.if-not-dark.true in
    let long = length-row picture c.args.y c.width-width.ensures.shape c.requires.row in
    let none : prefix_len (λ (dark : Bool). dark) (drop k row) ≡ 0 = prefix_len-drop_no (λ dark. dark) row k false (omega (arith, long)) light in
    sym (c.loop-k.invariant ∙ (let e : (k - c.args.x) + prefix_len (λ (dark : Bool). dark) (drop k row) ≡ k - c.args.x = omega (arith, none) in e))

pub returns-clause-length : goal.returns-clause-length
returns-clause-length c =
    let picture = c.args.grid.now in
    let row = row_of picture c.args.y in
    let k = c.loop-k.k in
    let long = length-row picture c.args.y c.width-width.ensures.shape c.requires.row in
    let none : prefix_len (λ (dark : Bool). dark) (drop k row) ≡ 0 = prefix_len-drop_all (λ dark. dark) row k (omega (arith, long, c.width-width.ensures.width, c.loop-k-test.false)) in
    let last : k ≡ c.width-width.result = omega (arith, c.loop-k.auto.k-end, c.width-width.ensures.width, c.loop-k-test.false, c.requires.column) in
    sym (c.loop-k.invariant ∙ (let e : (k - c.args.x) + prefix_len (λ (dark : Bool). dark) (drop k row) ≡ c.width-width.result - c.args.x = omega (arith, none, last) in e))
