use Rattle.std.proofs.Common.{◌≡◌, ◌-◌, ◌++◌, List, ℕ, append_assoc, length}
use Rattle.std.specs.Prelude.{codes, decimal}
use Rattle.aztec_layout.specs.Sizes.{codewords_of}
use Rattle.zint_answers.specs.Report.{size_text}
use Rattle.zint_demo.specs.Damage.{damage_of}
use Rattle.zint_demo.specs.Demonstration.{demonstration_line}
use Rattle.zint_demo.proofs.demonstration.put_line.Goals as goal

-- pieces put one by one behind a text are one piece behind it
regroup : (o a b c d e f g h i j k l m : List ℕ)
    → ((((((((((((o ++ a) ++ b) ++ c) ++ d) ++ e) ++ f) ++ g) ++ h) ++ i) ++ j) ++ k) ++ l) ++ m
    ≡ o ++ ((((((((((((a ++ b) ++ c) ++ d) ++ e) ++ f) ++ g) ++ h) ++ i) ++ j) ++ k) ++ l) ++ m)
regroup o a b c d e f g h i j k l m = simp append_assoc

pub returns : goal.returns
unfolding demonstration_line
returns c =
    rw (
      c.in_ok-put_text-7.ensures,
      c.in_ok-put_number-5.ensures,
      c.from-3.ensures,
      c.damage_of.ensures,
      c.in_ok-put_text-6.ensures,
      c.in_ok-put_number-4.ensures,
      c.from-2.ensures,
      c.codewords.ensures.counted,
      c.in_ok-put_text-5.ensures,
      c.in_ok-put_number-3.ensures,
      c.from.ensures,
      c.in_ok-put_text-4.ensures,
      c.in_ok-put_size.ensures,
      c.in_ok-put_text-3.ensures,
      c.in_ok-put_number-2.ensures,
      c.len.ensures.counted,
      c.in_ok-put_text-2.ensures,
      c.in_ok-put_number.ensures,
      c.in_ok-put_text.ensures,
    )
    (regroup c.args.lines.now.items (codes "bytes=") (decimal c.args.count) (codes " bits=") (decimal (length c.args.symbol.now.spelling)) (codes " size=")
    (size_text c.args.symbol.now.size) (codes " codewords=") (decimal c.args.symbol.now.held) (codes "+")
    (decimal (codewords_of c.args.symbol.now.size - c.args.symbol.now.held)) (codes " damaged=")
    (decimal (damage_of c.args.symbol.now.size c.args.symbol.now.held)) (codes "\n"))
