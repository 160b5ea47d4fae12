use Rattle.std.proofs.Common.{◌∙◌, ℕ, List, sym, ap, arith}
use Rattle.linear_reader.specs.Data.{byte_alone, drawn_values, is_drawn_alone}
use Rattle.linear_reader.proofs.Searches.{first_more, first_found, first_none}
use Rattle.linear_reader.proofs.full_ascii_data.byte_alone.Goals as goal

pub returns-then-is_drawn_alone : goal.returns-then-is_drawn_alone
unfolding byte_alone
returns-then-is_drawn_alone c =
    let drawn = ap (λ (values : List ℕ). is_drawn_alone values c.args.value) (c.as_slice.ensures.bytes ∙ c.drawn_values.ensures) in
    first_found (λ byte. is_drawn_alone (drawn_values c.args.symbology byte) c.args.value) 128 c.loop-byte.byte _ (omega arith)
    (sym drawn ∙ sym c.is_drawn_alone.ensures ∙ c.if-is_drawn_alone.true) c.loop-byte.invariant

pub loop-byte-preserved : goal.loop-byte-preserved
loop-byte-preserved c =
    let drawn = ap (λ (values : List ℕ). is_drawn_alone values c.args.value) (c.as_slice.ensures.bytes ∙ c.drawn_values.ensures) in
    first_more (λ byte. is_drawn_alone (drawn_values c.args.symbology byte) c.args.value) 128 c.loop-byte.byte _ (omega arith)
    (sym drawn ∙ sym c.is_drawn_alone.ensures ∙ c.if-is_drawn_alone.false) c.loop-byte.invariant

pub returns : goal.returns
unfolding byte_alone
returns c = first_none (λ byte. is_drawn_alone (drawn_values c.args.symbology byte) c.args.value) 128 c.loop-byte.byte _ (omega arith) c.loop-byte.invariant
