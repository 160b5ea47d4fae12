use Rattle.std.proofs.Common.{ℕ, List, length, Some, None, cond, ap, sym, subst, ◌∙◌}
use Rattle.bar_memory.specs.StoredFiles.{OpensAt}
use Rattle.bar_memory.proofs.StoredFiles.{files_of-missing}
use Rattle.bar_memory.proofs.FoundFiles.{found-bytes, found-opened}
use Rattle.bar_memory.proofs.stored_files.open_in.Goals as goal

pub returns-in_default-clause-missing : goal.returns-in_default-clause-missing
returns-in_default-clause-missing c = files_of-missing c.args.name.now c.args.files.now c.in_default.ensures.missing

pub returns-then-is_made-clause-found : goal.returns-then-is_made-clause-found
returns-then-is_made-clause-found c =
    let files = c.args.files.now in
    let name = c.args.name.now in
    let at = c.in-Some.at in
    let made = sym c.is_made.ensures ∙ c.if-is_made.true in
    subst (λ (bytes : List ℕ). OpensAt files name (record { file = at; at = 0; end = length bytes })) (sym c.bytes.ensures)
    (found-opened files name at c.in-Some.ensures.found c.index-files-at.result c.index-files-at.is made)

pub returns-else-is_made-clause-missing : goal.returns-else-is_made-clause-missing
returns-else-is_made-clause-missing c =
    let file = c.index-files-at.result in
    let made = sym c.is_made.ensures ∙ c.if-is_made.false in
    found-bytes c.args.files.now c.args.name.now c.in-Some.at c.in-Some.ensures.found file c.index-files-at.is c.requires
    ∙ ap (λ b. cond b (Some file.bytes) None) made
