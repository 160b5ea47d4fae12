use Rattle.std.proofs.Common.{◌≡◌, sym, subst}
use Rattle.rs_decode.specs.Values.{IsErrorAt}
use Rattle.rs_decode.proofs.Places.{length-error_values}
use Rattle.rs_decode.proofs.decoder.correct_places.Goals as goal

pub returns : goal.returns
returns g c = λ bound values error falling fits sums is long.
    let solved : c.solve.new.sums ≡ values = c.solve.ensures bound values falling fits (length-error_values g.met.F.Field.laws c.args.places.now values error is) sums in
    c.mend.ensures error (subst (λ v. IsErrorAt g.F.Field.nought g.F.Field.times g.F.Field.power c.args.places.now v error) (sym solved) is) long
