use Rattle.std.proofs.Common.{◌∙◌, Some, None}
use Rattle.exam_http.proofs.Pages.{named_by, nobody}
use Rattle.exam_http.proofs.answering.named_by.Goals as goal

pub returns-in_err-number : goal.returns-in_err-number
returns-in_err-number g c = c.from_residual.ensures ∙ nobody c.args.store.now.office _ c.in_err-number.ensures

pub returns-in_err-code : goal.returns-in_err-code
returns-in_err-code g c =
    c.from_residual-in_err-code.ensures
    ∙ named_by c.args.store.now.office _ c.in_ok-number.number None c.in_ok-number.ensures c.in_err-code.ensures

pub returns : goal.returns
returns g c = named_by c.args.store.now.office _ c.in_ok-number.number
    (Some c.in_ok-code.code) c.in_ok-number.ensures c.in_ok-code.ensures
