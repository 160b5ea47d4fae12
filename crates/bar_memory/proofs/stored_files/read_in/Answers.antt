use Rattle.std.proofs.Common.{ℕ, ◌-◌, List, Some, length, min, take, drop, ap, ◌∙◌}
use Rattle.bar_memory.specs.StoredFiles.{IsReadAt}
use Rattle.bar_memory.proofs.FoundFiles.{Reads-at, front-read, length-left}
use Rattle.bar_memory.proofs.stored_files.read_in.Goals as goal

pub returns-clause-moved : goal.returns-clause-moved
returns-clause-moved c =
    let inside : IsReadAt c.args.files.now (Some c.args.place.now) = c.requires in
    let place = c.args.place.now in
    let left = ap (λ (bytes : List ℕ). length (take (place.end - place.at) (drop place.at bytes))) c.bytes.ensures
    ∙ length-left c.args.files.now place c.index-files-place.result inside c.index-files-place.is in
    Reads-at c.args.files.now place (length c.args.into.now) c.copy_front-count.result inside (c.copy_front-count.ensures.count ∙ ap (min (length c.args.into.now)) left)

pub returns-clause-front : goal.returns-clause-front
returns-clause-front c =
    let place = c.args.place.now in
    let inside : IsReadAt c.args.files.now (Some place) = c.requires in
    let count = c.copy_front-count.result in
    front-read c.args.files.now place count c.copy_front-count.new.into c.index-files-place.result inside c.index-files-place.is
    (c.copy_front-count.ensures.front ∙ ap (λ (bytes : List ℕ). take count (take (place.end - place.at) (drop place.at bytes))) c.bytes.ensures)
