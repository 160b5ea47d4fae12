use Rattle.std.proofs.Common.{◌≡◌, subst, Bool, List, IfOk, IfErr}
use Rattle.bar_base.specs.declared.message.Message.{Message}
use Rattle.aztec_modes.specs.declared.reading.ReadFault.TheVariants.{NoMemory}
use Rattle.aztec_modes.specs.Reading.{IsReading}
use Rattle.aztec_modes.proofs.SplitMessages.{only_made, none_made, refusal_passed, refused_apart}
use Rattle.aztec_modes.proofs.reading.read.Goals as goal

pub returns-in-Err-clause-none : goal.returns-in-Err-clause-none
returns-in-Err-clause-none c =
    subst (λ (b : List Bool). (other : Message) → IsReading c.args.width b other → c.in-Err.fault ≡ NoMemory) c.as_slice-items.ensures.same
    (λ other reading. refused_apart c.args.width c.as_slice-items.result.now c.in-Err.fault other
    (refusal_passed c.args.width c.as_slice-items.result.now c.in-Err.fault c.in-Err.ensures.refused) reading)

pub returns-in-Ok-clause-only : goal.returns-in-Ok-clause-only
returns-in-Ok-clause-only c =
    subst (λ (b : List Bool). IfOk c.split.result (λ message. (other : Message) → IsReading c.args.width b other → other ≡ message)) c.as_slice-items.ensures.same
    (only_made c.args.width c.as_slice-items.result.now c.in-Ok.elements c.is_marked.result c.split.result c.in-Ok.ensures.read
    c.is_marked.ensures.marked c.is_marked.ensures.unmarked c.split.ensures.split)

pub returns-in-Ok-clause-none : goal.returns-in-Ok-clause-none
returns-in-Ok-clause-none c =
    subst (λ (b : List Bool). IfErr c.split.result (λ fault. (other : Message) → IsReading c.args.width b other → fault ≡ NoMemory)) c.as_slice-items.ensures.same
    (none_made c.args.width c.as_slice-items.result.now c.in-Ok.elements c.is_marked.result c.split.result c.in-Ok.ensures.read
    c.is_marked.ensures.marked c.split.ensures.refused)
