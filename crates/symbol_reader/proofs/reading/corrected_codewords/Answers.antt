use Rattle.std.proofs.Common.{◌-◌, ap, ℕ}
use Rattle.symbol_reader.proofs.reading.corrected_codewords.Goals as goal

pub returns-in-None-clause-refused : goal.returns-in-None-clause-refused
returns-in-None-clause-refused c = record {
  size = c.args.size;
  held = c.args.held;
  mode = c.requires;
  words = c.in_ok-words.words;
  lost = c.in_ok-lost.lost.items;
  seen = rw c.as_slice.ensures.same at c.in_ok-lost.ensures.seen;
  none = rw (c.in-None.is, c.as_slice-2.ensures.same, c.deref.ensures.value, c.codewords-count.ensures.counted) at c.in_ok-correct_codewords.ensures;
  count_is = c.codewords-count.ensures.counted;
  check_is = ap (λ (n : ℕ). n - c.args.held) c.codewords-count.ensures.counted;
}
