use Rattle.std.proofs.Common.{Some, None, cond, ap, sym, ◌∙◌}
use Rattle.bar_memory.proofs.StoredFiles.{files_of-missing}
use Rattle.bar_memory.proofs.FoundFiles.{found-bytes}
use Rattle.bar_memory.proofs.stored_files.bytes_of.Goals as goal

pub returns-in_default : goal.returns-in_default
returns-in_default c = record { bytes = sym (files_of-missing c.args.name.now c.args.files.now c.in_default.ensures.missing) }

pub returns-then-is_made : goal.returns-then-is_made
returns-then-is_made c =
    let file = c.index-files-at.result in
    let made = sym c.is_made.ensures ∙ c.if-is_made.true in
    record {
      bytes = ap Some c.bytes.ensures
          ∙ sym (ap (λ b. cond b (Some file.bytes) None) made)
          ∙ sym (found-bytes c.args.files.now c.args.name.now c.in-Some.at c.in-Some.ensures.found file c.index-files-at.is c.requires);
    }

pub returns-else-is_made : goal.returns-else-is_made
returns-else-is_made c =
    let file = c.index-files-at.result in
    let made = sym c.is_made.ensures ∙ c.if-is_made.false in
    record {
      bytes = sym (ap (λ b. cond b (Some file.bytes) None) made)
          ∙ sym (found-bytes c.args.files.now c.args.name.now c.in-Some.at c.in-Some.ensures.found file c.index-files-at.is c.requires);
    }
