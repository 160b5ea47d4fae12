use Rattle.std.proofs.Common.{ap, subst, sym}
use Rattle.std.proofs.Math.ListN.{set}
use Rattle.std.specs.Option.{is_some}
use Rattle.bar_memory.specs.StoredFiles.{AllOther, Creates, IsFileAt}
use Rattle.bar_memory.proofs.StoredFiles.{rooms_of-missing}
use Rattle.bar_memory.proofs.FoundFiles.{found-made}
use Rattle.bar_memory.proofs.stored_files.create_in.Goals as goal

pub returns-in_default-clause-unreserved : goal.returns-in_default-clause-unreserved
returns-in_default-clause-unreserved c =
    let files = c.args.files.now.items in
    let name = c.args.name.now in
    let others = subst (AllOther name) c.deref.ensures.value c.in_default.ensures.missing in
    ap is_some (rooms_of-missing name files others)

pub returns-clause-made : goal.returns-clause-made
returns-clause-made c =
    let files = c.args.files.now.items in
    let name = c.args.name.now in
    let at = c.in-Some.at in
    let found = subst (λ list. IsFileAt list name at) c.deref.ensures.value c.in-Some.ensures.found in
    subst (λ file. Creates files (set files at file) name at) (sym c.make.ensures) (found-made files name at found c.index_mut.result.now c.index_mut.ensures.value)
