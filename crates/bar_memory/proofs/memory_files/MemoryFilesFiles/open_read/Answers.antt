use Rattle.std.proofs.Common.{◌≡◌, Some, false, cond, ap, subst, sym, ◌∙◌}
use Rattle.bar_memory.specs.Memory.{next_fails}
use Rattle.bar_base.specs.Files.{Opens}
use Rattle.bar_memory.specs.MemoryFiles.{FilesValue, after_open, opened, went_on, reading_failed}
use Rattle.bar_memory.specs.StoredFiles.{rooms_of, stored_state, OpensAt}
use Rattle.bar_memory.proofs.FilesAfter.{Opens-opened}
use Rattle.bar_memory.proofs.memory_files.MemoryFilesFiles.open_read.Goals as goal

pub invariant_of-self-2 : goal.invariant_of-self-2
invariant_of-self-2 c =
    let found = subst (λ files. OpensAt files c.args.name.now c.in-Some.place) c.deref.ensures.value c.in-Some.ensures.found in
    found.kept c.self.inside.reading c.self.inside.writing c.self.invariant

pub returns-clause-after : goal.returns-clause-after
returns-clause-after c =
    let inside = c.self.inside in
    let name = c.args.name.now in
    let value : FilesValue = record {
      state = stored_state inside.files.items inside.reading inside.writing;
      rooms = rooms_of inside.files.items;
      calls = inside.calls;
      faults = record { reading = inside.reading_faults; writing = inside.writing_faults };
    } in
    let found = subst (λ files. OpensAt files c.args.name.now c.in-Some.place) c.deref.ensures.value c.in-Some.ensures.found in
    let given : next_fails inside.calls ≡ false = sym c.next.ensures.given ∙ c.if-next.false in
    (λ k. record { state = found.state inside.reading inside.writing c.self.invariant k; rooms = value.rooms; calls = c.next.ensures.counted k; faults = value.faults })
    ∙ sym (ap (λ b. cond b (reading_failed value) (went_on (opened name value.state) value)) given)
    ∙ ap (after_open name) c.self.view_is

pub returns-clause-opened : goal.returns-clause-opened
returns-clause-opened c =
    let inside = c.self.inside in
    let name = c.args.name.now in
    let old = stored_state inside.files.items inside.reading inside.writing in
    let new = stored_state inside.files.items (Some c.in-Some.place) inside.writing in
    let found = subst (λ files. OpensAt files c.args.name.now c.in-Some.place) c.deref.ensures.value c.in-Some.ensures.found in
    let state = found.state inside.reading inside.writing c.self.invariant in
    let there = found.there c.self.invariant.distinct in
    subst (λ (v : FilesValue). Opens name (Some v.state) (Some new)) c.self.view_is
    (subst (λ after. Opens name (Some old) (Some after)) (sym state) (Opens-opened name old there))
