use Rattle.zint_demo.proofs.NoRefusals.{only_memory}
use Rattle.zint_demo.proofs.demonstration.demonstrate.Goals as goal

pub returns-clause-memory : goal.returns-clause-memory
returns-clause-memory c = only_memory c.deref.result.now c.demonstrate_text.result c.demonstrate_text.ensures.given
