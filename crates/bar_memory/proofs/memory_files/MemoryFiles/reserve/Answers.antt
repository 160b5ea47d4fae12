use Rattle.std.proofs.Common.{ap, ◌∙◌}
use Rattle.std.proofs.lemmas.Result.{on_ok_weaker}
use Rattle.bar_memory.specs.MemoryFiles.{reserved}
use Rattle.bar_memory.proofs.FoundFiles.{kept-reserved}
use Rattle.bar_memory.proofs.memory_files.MemoryFiles.reserve.Goals as goal

pub invariant_of-self : goal.invariant_of-self
invariant_of-self c =
    let inside = c.self.inside in
    kept-reserved inside.files.items c.reserve_in.new.files.items c.args.name.now c.args.room inside.reading inside.writing c.reserve_in.result c.reserve_in.ensures.reserved c.reserve_in.ensures.kept c.self.invariant

pub returns-clause-reserved : goal.returns-clause-reserved
returns-clause-reserved c =
    let inside = c.self.inside in
    let kept = c.self.invariant in
    on_ok_weaker c.reserve_in.result (λ reserves.
    (λ k. record {
      state = reserves.state inside.reading inside.writing kept k;
      rooms = reserves.rooms kept.distinct k;
      calls = inside.calls;
      faults = record { reading = inside.reading_faults; writing = inside.writing_faults };
    }) ∙ ap (reserved c.args.name.now c.args.room) c.self.view_is) c.reserve_in.ensures.reserved
