-- The seats are those of the view and the opening is that of the hall, so the text is the sheet. What fails before it
-- is sent has written nothing.
use Rattle.std.proofs.Common.{◌≡◌, ◌∙◌, List, ℕ, ap, sym}
use Rattle.std.specs.Prelude.{Ok}
use Rattle.exam_rules.specs.declared.rows.Opening.{Opening}
use Rattle.exam_rules.specs.declared.rows.Session.{Session}
use Rattle.exam_views.specs.Views.{seats_of}
use Rattle.exam_files.specs.Doors.{door_text}
use Rattle.exam_files.specs.Writing.{sheet_if}
use Rattle.exam_files.proofs.Written.{written, unsent}
use Rattle.exam_files.proofs.doors.door_list.Goals as goal

pub returns : goal.returns
returns g c =
    let view = c.args.view.now in
    let seats : c.deref.result.now ≡ seats_of view = c.deref.ensures.value ∙ c.in_ok-seats.ensures.ok in
    let text : c.as_slice.result.now
    ≡ door_text view.code view.session c.args.hall.now c.in_ok-opening.opening (seats_of view) =
    c.as_slice.ensures.value ∙ c.in_ok-text.ensures.ok
    ∙ ap (λ (code : List ℕ). door_text code c.session.result c.args.hall.now c.in_ok-opening.opening
    c.deref.result.now) c.code.ensures
    ∙ ap (λ (session : Session). door_text view.code session c.args.hall.now c.in_ok-opening.opening
    c.deref.result.now) c.session.ensures
    ∙ ap (door_text view.code view.session c.args.hall.now c.in_ok-opening.opening) seats in
    written g.W.Write.contents c.send.result c.args.writer.now c.send.new.writer c.as_slice.result.now _
    (ap (sheet_if (λ (opening : Opening). door_text view.code view.session c.args.hall.now opening (seats_of view)))
    (sym c.in_ok-opening.ensures) ∙ ap Ok (sym text)) c.send.ensures.ok c.send.ensures.err c.send.ensures.fault

pub returns-in_err-seats : goal.returns-in_err-seats
returns-in_err-seats g c =
    let view = c.args.view.now in
    unsent g.W.Write.contents c.args.writer.now c.from_residual-in_err-seats.result c.in_err-seats.field-0.0
    (door_text view.code view.session c.args.hall.now c.in_ok-opening.opening (seats_of view)) _
    c.from_residual-in_err-seats.ensures.1 c.in_err-seats.ensures.memory
    (ap (sheet_if (λ (opening : Opening). door_text view.code view.session c.args.hall.now opening (seats_of view)))
    (sym c.in_ok-opening.ensures))

pub returns-in_err-text : goal.returns-in_err-text
returns-in_err-text g c =
    let view = c.args.view.now in
    unsent g.W.Write.contents c.args.writer.now c.from_residual-in_err-text.result c.in_err-text.field-0.0
    (door_text view.code view.session c.args.hall.now c.in_ok-opening.opening (seats_of view)) _
    c.from_residual-in_err-text.ensures.1 c.in_err-text.ensures.memory
    (ap (sheet_if (λ (opening : Opening). door_text view.code view.session c.args.hall.now opening (seats_of view)))
    (sym c.in_ok-opening.ensures))
