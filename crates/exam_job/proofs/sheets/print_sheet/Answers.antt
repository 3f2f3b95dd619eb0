use Rattle.exam_job.proofs.Shown.{printed, unprinted}
use Rattle.exam_job.proofs.sheets.print_sheet.Goals as goal

pub returns-clause-sheet : goal.returns-clause-sheet
returns-clause-sheet g c = printed g.O.Write.contents _ _ _ _ _ _ _ c.in_ok-view.ensures.ok c.print_view.ensures

pub returns-in_err-view-clause-sheet : goal.returns-in_err-view-clause-sheet
returns-in_err-view-clause-sheet g c =
    unprinted g.O.Write.contents c.args.store.now.office c.args.session.now c.args.sheet.now c.args.out.now
    c.in_err-view.field-0.0 c.from_residual.result
    c.in_err-view.ensures.refusal c.from_residual.ensures.1
