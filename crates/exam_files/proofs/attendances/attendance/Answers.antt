-- The seats are those of the view, so the text is the sheet. What fails before it is sent has written nothing.
use Rattle.std.proofs.Common.{◌≡◌, ◌∙◌, List, ℕ, ap, sym}
use Rattle.std.specs.Prelude.{Ok}
use Rattle.exam_rules.specs.declared.rows.Session.{Session}
use Rattle.exam_views.specs.Views.{seats_of}
use Rattle.exam_files.specs.Attendances.{attendance_text}
use Rattle.exam_files.specs.Writing.{sheet_if}
use Rattle.exam_files.proofs.Written.{written, unsent}
use Rattle.exam_files.proofs.attendances.attendance.Goals as goal

pub returns : goal.returns
returns g c =
    let view = c.args.view.now in
    let seats : c.deref.result.now ≡ seats_of view = c.deref.ensures.value ∙ c.in_ok-seats.ensures.ok in
    let text : c.as_slice.result.now ≡ attendance_text view.code view.session c.args.paper.now (seats_of view) =
    c.as_slice.ensures.value ∙ c.in_ok-text.ensures.ok
    ∙ ap (λ (code : List ℕ). attendance_text code c.session.result c.args.paper.now c.deref.result.now) c.code.ensures
    ∙ ap (λ (session : Session). attendance_text view.code session c.args.paper.now c.deref.result.now)
    c.session.ensures
    ∙ ap (attendance_text view.code view.session c.args.paper.now) seats in
    written g.W.Write.contents c.send.result c.args.writer.now c.send.new.writer c.as_slice.result.now _
    (ap (sheet_if (λ (found : Unit {0}). attendance_text view.code view.session c.args.paper.now (seats_of view)))
    (sym c.in_ok-check_paper.ensures) ∙ ap Ok (sym text)) c.send.ensures.ok c.send.ensures.err c.send.ensures.fault

pub returns-in_err-seats : goal.returns-in_err-seats
returns-in_err-seats g c =
    let view = c.args.view.now in
    unsent g.W.Write.contents c.args.writer.now c.from_residual-in_err-seats.result c.in_err-seats.field-0.0
    (attendance_text view.code view.session c.args.paper.now (seats_of view)) _
    c.from_residual-in_err-seats.ensures.1 c.in_err-seats.ensures.memory
    (ap (sheet_if (λ (found : Unit {0}). attendance_text view.code view.session c.args.paper.now (seats_of view)))
    (sym c.in_ok-check_paper.ensures))

pub returns-in_err-text : goal.returns-in_err-text
returns-in_err-text g c =
    let view = c.args.view.now in
    unsent g.W.Write.contents c.args.writer.now c.from_residual-in_err-text.result c.in_err-text.field-0.0
    (attendance_text view.code view.session c.args.paper.now (seats_of view)) _
    c.from_residual-in_err-text.ensures.1 c.in_err-text.ensures.memory
    (ap (sheet_if (λ (found : Unit {0}). attendance_text view.code view.session c.args.paper.now (seats_of view)))
    (sym c.in_ok-check_paper.ensures))
