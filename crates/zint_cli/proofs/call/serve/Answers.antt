use Rattle.std.proofs.Common.{refl}
use Rattle.zint_settings.specs.Settings.{request_in}
use Rattle.zint_settings.proofs.Known.{task_fit}
use Rattle.zint_cli.specs.inner.OutputText.{output_text}
use Rattle.zint_cli.proofs.Serving.{answered, not_answered}
use Rattle.zint_cli.proofs.call.serve.Goals as goal

pub returns-in-Ok : goal.returns-in-Ok
returns-in-Ok g c =
    answered _ (request_in c.args.asking.now) refl (task_fit c.args.asking.now.task) (output_text c.in-Ok.output)
    (g.F.Files.state c.answer.new.files) (g.F.Files.writing_faults c.answer.new.files)
    c.in-Ok.ensures.given c.in-Ok.ensures.near c.in-Ok.ensures.ended c.in-Ok.ensures.same_files c.in-Ok.ensures.writing_count c.in-Ok.ensures.input_kept
    c.finish.ensures.status c.finish.ensures.written c.finish.ensures.part c.finish.ensures.cause c.finish.ensures.out_kept c.finish.ensures.ended
    c.finish.ensures.quiet c.finish.ensures.line

pub returns-in-Err : goal.returns-in-Err
returns-in-Err g c =
    not_answered _ (request_in c.args.asking.now) refl (task_fit c.args.asking.now.task) c.in-Err.fault
    c.in-Err.ensures.refused c.tell.ensures.status c.tell.ensures.refused c.tell.ensures.line refl c.in-Err.ensures.same_files c.in-Err.ensures.input_kept
