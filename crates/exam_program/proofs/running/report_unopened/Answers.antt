use Rattle.std.proofs.Common.{refl}
use Rattle.exam_program.proofs.Ran.{not_reached}
use Rattle.exam_program.proofs.running.report_unopened.Goals as goal

pub returns-in_default : goal.returns-in_default
returns-in_default g c =
    not_reached g.O.Write.contents c.args.out.now _ c.args.out.now c.args.line.now.job c.in_default.not-Check
    (c.args.refusal, c.requires, refl, refl)
