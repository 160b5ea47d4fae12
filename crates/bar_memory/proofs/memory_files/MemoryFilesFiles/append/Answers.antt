use Rattle.std.proofs.Common.{◌≡◌, Some, length, take, ap, subst, sym, ◌∙◌}
use Rattle.std.proofs.lemmas.Bool.{OnTrue_at}
use Rattle.std.specs.Io.KnownBytes.{Appends}
use Rattle.bar_base.specs.Files.{held_of, beside_held}
use Rattle.bar_memory.specs.MemoryFiles.{appended}
use Rattle.bar_memory.specs.StoredFiles.{stored_state, IsKept}
use Rattle.bar_memory.proofs.FilesAfter.{held-appended, beside-appended}
use Rattle.bar_memory.proofs.memory_files.MemoryFilesFiles.append.Goals as goal
use Rattle.bar_memory.proofs.memory_files.MemoryFilesFiles.append.Goals.{Then-append_in}

-- the files have grown by the piece
state_is : (c : Then-append_in) → stored_state c.append_in.new.files.items c.self.inside.reading c.self.inside.writing ≡ appended c.args.piece.now c.args.self.now.state
state_is c =
    let inside = c.self.inside in
    let old = inside.files.items in
    let new = c.append_in.new.files.items in
    let piece = c.args.piece.now in
    let grows = OnTrue_at c.if-append_in.true c.append_in.ensures.grown in
    let kept = subst (IsKept old inside.reading) c.in-Some.is c.self.invariant in
    ap (stored_state new inside.reading) c.in-Some.is
    ∙ grows.state inside.reading kept
    ∙ ap (λ writing. appended piece (stored_state old inside.reading writing)) (sym c.in-Some.is)
    ∙ ap (λ (v : _). appended piece v.state) c.self.view_is

pub returns-then-append_in-clause-appended : goal.returns-then-append_in-clause-appended
returns-then-append_in-clause-appended c =
    let old = c.args.self.now.state in
    let piece = c.args.piece.now in
    subst (λ new. Appends (held_of (Some old)) (held_of (Some new)) (take (length piece) piece)) (sym (state_is c)) (held-appended old piece)

pub returns-then-append_in-clause-beside : goal.returns-then-append_in-clause-beside
returns-then-append_in-clause-beside c = ap beside_held (state_is c) ∙ beside-appended c.args.self.now.state c.args.piece.now
