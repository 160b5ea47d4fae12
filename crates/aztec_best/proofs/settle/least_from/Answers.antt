use Rattle.std.proofs.Common.{◌∙◌, sym, ap, subst, ℕ, drop}
use Rattle.aztec_best.specs.Start.{start_of, start_in}
use Rattle.aztec_best.specs.Shortest.{IsLeast}
use Rattle.aztec_best.proofs.PlaceLeast.{place_least}
use Rattle.aztec_best.proofs.settle.least_from.Goals as goal

pub returns : goal.returns
returns c =
    subst (λ (n : ℕ). IsLeast c.args.mode (drop c.args.place c.args.elements.now) n) (sym c.settled_bits.ensures)
    (place_least c.args.costs.now c.args.elements.now c.args.place c.requires.ready.filled c.requires.ready.within c.requires.ready.valid c.args.runs c.requires.runs
    (start_of c.args.starts.now) (λ m. c.requires.starts m ∙ ap (λ f. start_in c.args.costs.now c.args.place m f c.args.runs) c.requires.ready.fronts) c.args.mode)
