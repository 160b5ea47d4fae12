use Rattle.std.proofs.Common.{◌≡◌, ◌*◌, ◌≤◌, [], length, ap, ◌∙◌, arith}
use Rattle.aztec_layout.proofs.BitLemmas.{length-word_bits, word_bits_all}
use Rattle.aztec_layout.proofs.bit_rows.mode_bits.Goals as goal

pub returns-clause-all : goal.returns-clause-all
returns-clause-all c =
    let all : length c.args.words.now ≤ c.loop-word.word-index = omega arith in
    ap length (word_bits_all 4 c.args.words.now c.loop-word.word-index [] c.loop-word.row all c.loop-word.invariant)
    ∙ length-word_bits 4 c.args.words.now ∙ (let e : length c.args.words.now * 4 ≡ 4 * length c.args.words.now = omega arith in e)
