use Rattle.std.proofs.Common.{◌≡◌, length, ap, ◌∙◌, rules}
use Rattle.aztec_layout.specs.SymbolGrid.{data_bits}
use Rattle.aztec_layout.proofs.BitLemmas.{length-data_bits}
use Rattle.aztec_layout.proofs.bit_rows.data_bits.Goals as goal

pub returns-clause-all : goal.returns-clause-all
returns-clause-all c =
    let e : c.push_words.new.row ≡ data_bits c.args.size c.args.words.now = search rules in
    ap length e ∙ length-data_bits c.args.size c.args.words.now c.requires.counted
