use Rattle.zint_read.specs.readers.{Tells, TellsWhole}
use Rattle.zint_read.proofs.ReaderLaws.{read_told, told_answered, whole_told}
use Rattle.zint_read.proofs.reading.read_report.Goals as goal

pub returns-clause-back : goal.returns-clause-back
returns-clause-back c = λ drawn has.
    told_answered (λ report. report.items) c.read_as.result c.args.look c.args.bytes.now (Tells c.args.look drawn) c.read_as.ensures
    (read_told c.args.look c.args.bytes.now drawn has)

pub returns-clause-whole : goal.returns-clause-whole
returns-clause-whole c = λ drawn written.
    told_answered (λ report. report.items) c.read_as.result c.args.look c.args.bytes.now (TellsWhole c.args.look drawn) c.read_as.ensures
    (whole_told c.args.look c.args.bytes.now drawn c.requires.look written).1
