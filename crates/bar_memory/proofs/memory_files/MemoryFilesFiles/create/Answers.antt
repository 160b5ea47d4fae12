use Rattle.std.proofs.Common.{◌≡◌, Some, false, cond, not, ap, subst, sym, ◌∙◌}
use Rattle.std.specs.Prelude.{◌||◌}
use Rattle.bar_memory.specs.Memory.{next_fails}
use Rattle.bar_base.specs.Files.{created}
use Rattle.bar_memory.specs.MemoryFiles.{FilesValue, after_create, create_fails, went_on, writing_failed}
use Rattle.bar_memory.specs.StoredFiles.{rooms_of, stored_state, IsKept}
use Rattle.bar_memory.proofs.memory_files.MemoryFilesFiles.create.Goals as goal

pub invariant_of-self : goal.invariant_of-self
invariant_of-self c =
    let inside = c.self.inside in
    let at = c.in-Some.at in
    let made = c.in-Some.ensures.made in
    subst (λ reading. IsKept c.create_in.new.files.items reading (Some at)) (sym c.emptied_place-self-inside.ensures) (made.kept inside.reading inside.writing c.self.invariant)

pub returns-in-Some-clause-created : goal.returns-in-Some-clause-created
returns-in-Some-clause-created c =
    let inside = c.self.inside in
    let new = c.create_in.new.files.items in
    let made = c.in-Some.ensures.made in
    ap (λ reading. stored_state new reading (Some c.in-Some.at)) c.emptied_place-self-inside.ensures
    ∙ made.state inside.reading inside.writing c.self.invariant
    ∙ ap (λ (v : FilesValue). created c.args.name.now v.state) c.self.view_is

pub returns-in-Some-clause-after : goal.returns-in-Some-clause-after
returns-in-Some-clause-after c =
    let inside = c.self.inside in
    let name = c.args.name.now in
    let made = c.in-Some.ensures.made in
    let value : FilesValue = record {
      state = stored_state inside.files.items inside.reading inside.writing;
      rooms = rooms_of inside.files.items;
      calls = inside.calls;
      faults = record { reading = inside.reading_faults; writing = inside.writing_faults };
    } in
    let state = ap (λ reading. stored_state c.create_in.new.files.items reading (Some c.in-Some.at)) c.emptied_place-self-inside.ensures
    ∙ made.state inside.reading inside.writing c.self.invariant in
    let given : next_fails inside.calls ≡ false = sym c.next.ensures.given ∙ c.if-not-next.true in
    let fails : create_fails name value ≡ false = λ k. given k || not (made.reserved c.self.invariant.distinct k) in
    (λ k. record { state = state k; rooms = made.rooms k; calls = c.next.ensures.counted k; faults = value.faults })
    ∙ sym (ap (λ b. cond b (writing_failed value) (went_on (created name value.state) value)) fails)
    ∙ ap (after_create name) c.self.view_is
