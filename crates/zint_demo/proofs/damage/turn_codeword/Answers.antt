use Rattle.std.proofs.Common.{◌≡◌, ◌+◌, ◌-◌, ◌*◌, ◌∙◌, ℕ, ap, subst}
use Rattle.aztec_layout.specs.Places.{IsBitPlace}
use Rattle.aztec_layout.specs.Sizes.{codeword_width, codewords_of, layer_bits, lead_bits}
use Rattle.zint_demo.proofs.FirstBits.{turned_at_bit}
use Rattle.zint_demo.proofs.damage.turn_codeword.Goals as goal

-- the first bit of the codeword, as it is computed
first_is : (all used width width' n used' : ℕ) (codeword : ℕ) → used' ≡ used → width ≡ n → width' ≡ n
    → all - used' * width + codeword * width' ≡ all - used * n + codeword * n
first_is all used width width' n used' codeword used_is width_is width_is' =
    ap (λ (k : ℕ). all - k * width + codeword * width') used_is
    ∙ ap (λ (k : ℕ). all - used * k + codeword * width') width_is
    ∙ ap (λ (k : ℕ). all - used * n + codeword * k) width_is'

pub returns : goal.returns
returns c =
    let e : c.bits.result - c.codewords.result * c.width.result + c.args.codeword * c.width-2.result
    ≡ lead_bits c.args.size + c.args.codeword * codeword_width c.args.size =
    ap (λ (k : ℕ). k - c.codewords.result * c.width.result + c.args.codeword * c.width-2.result) c.bits.ensures.bits
    ∙ first_is (layer_bits c.args.size) (codewords_of c.args.size) c.width.result c.width-2.result (codeword_width c.args.size) c.codewords.result c.args.codeword
    c.codewords.ensures.counted c.width.ensures c.width-2.ensures in
    turned_at_bit c.args.size c.args.codeword c.place-x.result.0 c.place-x.result.1 c.args.grid.now c.turn.new.grid
    (subst (λ (q : ℕ). IsBitPlace c.args.size q c.place-x.result.0 c.place-x.result.1) e c.place-x.ensures.place) c.turn.ensures
