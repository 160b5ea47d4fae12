use Rattle.std.proofs.Common.{◌≡◌, ◌∙◌, ◌+◌, ◌*◌, ◌/◌, ◌%◌, ℕ, ap, sym, subst, Some, Bool}
use Rattle.std.specs.Prelude.{slice_get}
use Rattle.std.proofs.Math.Nat.{div-add-mod'}
use Rattle.symbol_reader.proofs.Sights.{either_at}
use Rattle.symbol_reader.proofs.darkening.is_dark.Goals as goal

pub returns : goal.returns
returns c =
    let place : ℕ = c.args.place in
    let own : c.args.place / c.width-2.result * c.args.grid.now.width + c.args.place % c.width.result ≡ c.args.place =
    rw (c.width.ensures.width, c.width-2.ensures.width) (div-add-mod' c.args.place c.args.grid.now.width) in
    let other : c.args.place / c.width-2.result * c.args.lost.now.width + c.args.place % c.width.result ≡ c.args.place = rw c.requires.width own in
    either_at c.args.grid.now.modules c.args.lost.now.modules c.args.place c.dark-dark.result c.dark-gone.result
    (subst (λ (k : ℕ). slice_get c.args.grid.now.modules k ≡ Some c.dark-dark.result) own c.dark-dark.ensures.«module»)
    (subst (λ (k : ℕ). slice_get c.args.lost.now.modules k ≡ Some c.dark-gone.result) other c.dark-gone.ensures.«module»)
    ∙ ap (λ (b : Bool). Some b) (sym c.either.ensures)
