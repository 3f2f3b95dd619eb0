use Rattle.std.proofs.Common.{◌≡◌, ◌∙◌, List, ℕ, ap, sym, refl}
use Rattle.std.specs.Prelude.{Ok}
use Rattle.exam_views.specs.Views.{seats_of}
use Rattle.exam_files.specs.Exports.{seat_export, export_text}
use Rattle.exam_files.proofs.Written.{written, unsent}
use Rattle.exam_files.proofs.exports.export_seats.Goals as goal

pub returns : goal.returns
returns g c =
    let view = c.args.view.now in
    let seats : c.deref.result.now ≡ seats_of view = c.deref.ensures.value ∙ c.in_ok-seats.ensures.ok in
    let text : c.as_slice.result.now ≡ seat_export view =
    c.as_slice.ensures.value ∙ c.in_ok-text.ensures.ok
    ∙ ap (λ (code : List ℕ). export_text code c.deref.result.now) c.code.ensures
    ∙ ap (export_text view.code) seats in
    written g.W.Write.contents c.send.result c.args.writer.now c.send.new.writer c.as_slice.result.now _
    (ap Ok (sym text)) c.send.ensures.ok c.send.ensures.err c.send.ensures.fault

pub returns-in_err-seats : goal.returns-in_err-seats
returns-in_err-seats g c =
    unsent g.W.Write.contents c.args.writer.now c.from_residual.result c.in_err-seats.field-0.0
    (seat_export c.args.view.now) _ c.from_residual.ensures.1 c.in_err-seats.ensures.memory refl

pub returns-in_err-text : goal.returns-in_err-text
returns-in_err-text g c =
    unsent g.W.Write.contents c.args.writer.now c.from_residual-in_err-text.result c.in_err-text.field-0.0
    (seat_export c.args.view.now) _ c.from_residual-in_err-text.ensures.1 c.in_err-text.ensures.memory refl
