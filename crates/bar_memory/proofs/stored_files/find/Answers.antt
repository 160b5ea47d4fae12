use Rattle.std.proofs.Common.{take, sym, subst, ◌∙◌}
use Rattle.std.specs.Cmp.Lexicographic.{same_text, other_text}
use Rattle.bar_memory.specs.StoredFiles.{AllOther}
use Rattle.bar_base.proofs.ListLemmas.{take_next}
use Rattle.bar_memory.proofs.FoundFiles.{stands}
use Rattle.bar_memory.proofs.StoredFiles.{AllOther-push}
use Rattle.bar_memory.proofs.stored_files.find.Goals as goal

pub loop-at-preserved : goal.loop-at-preserved
loop-at-preserved c =
    let file = c.index-files-at.result in
    let files = c.args.files.now in
    let name = c.args.name.now in
    let here = stands files c.loop-at.at file c.loop-at-test.true c.index-files-at.is in
    let differ = other_text file.name name (sym c.if-is_named.false ∙ c.is_named.ensures) in
    subst (AllOther name) (sym (take_next files c.loop-at.at file here)) (AllOther-push name (take c.loop-at.at files) file c.loop-at.invariant differ)

pub returns-then-is_named-clause-found : goal.returns-then-is_named-clause-found
returns-then-is_named-clause-found c = record {
  file = c.index-files-at.result;
  here = stands c.args.files.now c.loop-at.at c.index-files-at.result c.loop-at-test.true c.index-files-at.is;
  named = same_text c.index-files-at.result.name c.args.name.now (sym c.if-is_named.true ∙ c.is_named.ensures);
}
