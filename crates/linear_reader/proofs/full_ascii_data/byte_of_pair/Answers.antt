use Rattle.std.proofs.Common.{◌∙◌, ℕ, List, sym, ap, arith}
use Rattle.linear_reader.specs.Data.{byte_of_pair, drawn_values, is_drawn_by_pair}
use Rattle.linear_reader.proofs.Searches.{first_more, first_found, first_none}
use Rattle.linear_reader.proofs.full_ascii_data.byte_of_pair.Goals as goal

pub returns-then-is_drawn_by_pair : goal.returns-then-is_drawn_by_pair
unfolding byte_of_pair
returns-then-is_drawn_by_pair c =
    let drawn = ap (λ (values : List ℕ). is_drawn_by_pair values c.args.sign c.args.value) (c.as_slice.ensures.bytes ∙ c.drawn_values.ensures) in
    first_found (λ byte. is_drawn_by_pair (drawn_values c.args.symbology byte) c.args.sign c.args.value) 128 c.loop-byte.byte _ (omega arith)
    (sym drawn ∙ sym c.is_drawn_by_pair.ensures ∙ c.if-is_drawn_by_pair.true) c.loop-byte.invariant

pub loop-byte-preserved : goal.loop-byte-preserved
loop-byte-preserved c =
    let drawn = ap (λ (values : List ℕ). is_drawn_by_pair values c.args.sign c.args.value) (c.as_slice.ensures.bytes ∙ c.drawn_values.ensures) in
    first_more (λ byte. is_drawn_by_pair (drawn_values c.args.symbology byte) c.args.sign c.args.value) 128 c.loop-byte.byte _ (omega arith)
    (sym drawn ∙ sym c.is_drawn_by_pair.ensures ∙ c.if-is_drawn_by_pair.false) c.loop-byte.invariant

pub returns : goal.returns
unfolding byte_of_pair
returns c = first_none (λ byte. is_drawn_by_pair (drawn_values c.args.symbology byte) c.args.sign c.args.value) 128 c.loop-byte.byte _ (omega arith) c.loop-byte.invariant
