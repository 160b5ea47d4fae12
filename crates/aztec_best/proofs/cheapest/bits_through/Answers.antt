use Rattle.std.proofs.Common.{◌≡◌, ◌+◌, arith}
use Rattle.aztec_modes.specs.Entry.{code_count, code_next}
use Rattle.aztec_best.specs.Bench.{kept_cost}
use Rattle.aztec_best.proofs.Small.{through_small}
use Rattle.aztec_best.proofs.cheapest.bits_through.Goals as goal

pub overflow_add-result : goal.overflow_add-result
overflow_add-result c =
    let facts = through_small c.args.costs.now c.args.elements.now c.args.at.place c.args.at.mode c.args.code c.requires.front c.requires.filled c.len.ensures.elements c.requires.within in
    let same : c.kept.result ≡ kept_cost c.args.costs.now (c.args.at.place + code_count c.args.at.mode c.args.code) (code_next c.args.at.mode c.args.code) = cc in
    omega arith

pub returns-clause-small : goal.returns-clause-small
returns-clause-small c =
    let facts = through_small c.args.costs.now c.args.elements.now c.args.at.place c.args.at.mode c.args.code c.requires.front c.requires.filled c.len.ensures.elements c.requires.within in
    let same : c.kept.result ≡ kept_cost c.args.costs.now (c.args.at.place + code_count c.args.at.mode c.args.code) (code_next c.args.at.mode c.args.code) = cc in
    omega arith
