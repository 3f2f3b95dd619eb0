use Rattle.std.proofs.Common.{rules, ◌≡◌, [], ◌∷◌, Some, Err, ap, sym, ◌∙◌}
use Rattle.std.specs.Result.{result_err}
use Rattle.exam_rules.specs.Relations.{relations_of}
use Rattle.exam_commands.specs.Lodgings.{appeal_is_open, subject_checks}
use Rattle.exam_commands.proofs.LodgingChecks.{first_failed}
use Rattle.exam_changes.proofs.lodging.check_asked.Goals as goal

pub returns-in_err-check_subject : goal.returns-in_err-check_subject
returns-in_err-check_subject c =
    let r = relations_of c.args.facts.now in
    let l = c.args.lodging.now in
    let is : c.from_residual.result ≡ Err c.in_err-check_subject.field-0.0 = search rules in
    let was : result_err c.check_subject.result ≡ Some c.in_err-check_subject.field-0.0 = search rules in
    ap result_err is
    ∙ sym (first_failed (subject_checks r c.args.seats.now.entries l.session l.number l.subject)
    (appeal_is_open r l ∷ []) c.in_err-check_subject.field-0.0 (sym c.check_subject.ensures ∙ was))
