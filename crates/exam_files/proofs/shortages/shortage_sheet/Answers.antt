-- That the view can show a shortage is known before memory is taken, so there is a sheet also where it cannot be
-- written.
use Rattle.std.proofs.Common.{◌≡◌, ◌∙◌, List, ℕ, ap, sym}
use Rattle.std.specs.Prelude.{Ok, refl}
use Rattle.exam_views.specs.Views.{Report, report_of}
use Rattle.exam_files.specs.Shortages.{shortage_text}
use Rattle.exam_files.proofs.Written.{written, unsent}
use Rattle.exam_files.proofs.shortages.shortage_sheet.Goals as goal

pub returns : goal.returns
returns g c =
    let report : Report = report_of c.in_ok-shortage.shortage in
    let text : c.as_slice.result.now ≡ shortage_text c.args.view.now.code report =
    c.as_slice.ensures.value ∙ c.in_ok-text.ensures.ok
    ∙ ap (λ (s : List ℕ). shortage_text s report) c.code.ensures in (
      report,
      c.in_ok-shortage.ensures.ok,
      written g.W.Write.contents c.send.result c.args.writer.now c.send.new.writer c.as_slice.result.now _
          (ap Ok (sym text)) c.send.ensures.ok c.send.ensures.err c.send.ensures.fault,
    )

pub returns-in_err-shortage : goal.returns-in_err-shortage
returns-in_err-shortage g c =
    let some = c.show_shortage.ensures in (
      some.0,
      some.1,
      unsent g.W.Write.contents c.args.writer.now c.from_residual.result c.in_err-shortage.field-0.0
          (shortage_text c.args.view.now.code some.0) _ c.from_residual.ensures.1 c.in_err-shortage.ensures.memory refl,
    )

pub returns-in_err-text : goal.returns-in_err-text
returns-in_err-text g c =
    let some = c.show_shortage.ensures in (
      some.0,
      some.1,
      unsent g.W.Write.contents c.args.writer.now c.from_residual-in_err-text.result
          c.in_err-text.field-0.0
          (shortage_text c.args.view.now.code some.0) _ c.from_residual-in_err-text.ensures.1
          c.in_err-text.ensures.memory refl,
    )
