use Rattle.std.proofs.Common.{◌≡◌, ℕ, not, ◌+◌, length, subst, sym, ap, ◌∙◌, arith, ◌<◌}
use Rattle.std.proofs.Math.ListN.{set}
use Rattle.std.proofs.Math.Dec.{leb, ltb}
use Rattle.std.proofs.lemmas.Bool.{OnTrue_at, OnTrue_from}
use Rattle.std.proofs.lemmas.Bool.Decides.{nat_tests}
use Rattle.bar_memory.specs.StoredFiles.{Grows}
use Rattle.bar_memory.proofs.Kept.{Grows-at}
use Rattle.bar_memory.proofs.FoundFiles.{stands, short-at}
use Rattle.bar_memory.proofs.stored_files.append_in.Goals as goal

not_within : (a b : ℕ) → not (leb a b) ≡ ltb b a
not_within a b = grind (arith, nat_tests)

pub returns-clause-grown : goal.returns-clause-grown
returns-clause-grown c =
    let files = c.args.files.now.items in
    let at = c.args.at in
    let file = c.index_mut.result.now in
    let within : at < length files = omega (arith, c.args.files.now.ok.0) in
    let here = stands files at file within c.index_mut.ensures.value in
    OnTrue_from c.append.result (Grows files (set files at c.append.new.self) at c.args.piece.now) (λ fits.
    subst (λ next. Grows files (set files at next) at c.args.piece.now) (sym (OnTrue_at fits c.append.ensures.grown)) (Grows-at files at file c.args.piece.now here))

pub returns-clause-short : goal.returns-clause-short
returns-clause-short c = λ reading kept.
    let files = c.args.files.now.items in
    let file = c.index_mut.result.now in
    let within : c.args.at < length files = omega (arith, c.args.files.now.ok.0) in
    let here = stands files c.args.at file within c.index_mut.ensures.value in
    ap not c.append.ensures.fits ∙ not_within (length file.bytes + length c.args.piece.now) file.room ∙ sym (short-at files c.args.at file c.args.piece.now reading here kept)
