use Rattle.std.proofs.Common.{[], ◌∷◌, ◌++◌, subst, sym, ap, ◌∙◌}
use Rattle.std.proofs.Math.ListN.{set}
use Rattle.std.proofs.lemmas.Result.{on_ok_weaker}
use Rattle.bar_memory.specs.StoredFiles.{AllOther, IsFileAt, Reserves}
use Rattle.bar_memory.proofs.Kept.{Reserves-fresh}
use Rattle.bar_memory.proofs.FoundFiles.{found-wide}
use Rattle.bar_memory.proofs.stored_files.reserve_in.Goals as goal

pub returns-in-Some-clause-reserved : goal.returns-in-Some-clause-reserved
returns-in-Some-clause-reserved c =
    let files = c.args.files.now.items in
    let name = c.args.name.now in
    let at = c.in-Some.at in
    let found = subst (λ list. IsFileAt list name at) c.deref.ensures.value c.in-Some.ensures.found in
    let wide = found-wide files name at found c.index_mut.result.now c.index_mut.ensures.value c.args.room in
    on_ok_weaker c.widen.result (λ is. subst (λ file. Reserves files (set files at file) name c.args.room) (sym is) wide) c.widen.ensures.widened

pub returns-in_ok-push-in-None-clause-reserved : goal.returns-in_ok-push-in-None-clause-reserved
returns-in_ok-push-in-None-clause-reserved c =
    let files = c.args.files.now.items in
    let name = c.args.name.now in
    let others = subst (AllOther name) c.deref.ensures.value c.in-None.ensures.missing in
    let pushed = c.in_ok-push-in-None.ensures.items ∙ ap (λ file. files ++ file ∷ []) c.in_ok-file-in-None.ensures.reserved in
    subst (λ list. Reserves files list name c.args.room) (sym pushed) (Reserves-fresh files name c.args.room others)
