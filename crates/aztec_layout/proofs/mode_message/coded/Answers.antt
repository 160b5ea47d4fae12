use Rattle.std.proofs.Common.{rules}
use Rattle.aztec_layout.proofs.ModeLemmas.{check_small}
use Rattle.aztec_layout.proofs.mode_message.coded.Goals as goal

pub push_words-requires-2 : goal.push_words-requires-2
push_words-requires-2 g c =
    (search rules, (check_small c.args.front.now c.encode_numbers.new.check c.encode_numbers.ensures.continues.check.each, search rules))
