use Rattle.std.proofs.Common.{◌≡◌, ◌∙◌, List, ℕ, ap, sym, refl}
use Rattle.std.specs.Prelude.{Ok}
use Rattle.exam_views.specs.declared.view.AppealRow.{AppealRow}
use Rattle.exam_files.specs.Registers.{appeal_register, register_text}
use Rattle.exam_files.proofs.Written.{written, unsent}
use Rattle.exam_files.proofs.registers.appeal_register.Goals as goal

pub returns : goal.returns
returns g c =
    let view = c.args.view.now in
    let text : c.as_slice.result.now ≡ appeal_register view =
    c.as_slice.ensures.value ∙ c.in_ok-text.ensures.ok
    ∙ ap (λ (code : List ℕ). register_text code c.appeals.result.now) c.code.ensures
    ∙ ap (λ (appeals : List AppealRow). register_text view.code appeals) c.appeals.ensures in
    written g.W.Write.contents c.send.result c.args.writer.now c.send.new.writer c.as_slice.result.now _
    (ap Ok (sym text)) c.send.ensures.ok c.send.ensures.err c.send.ensures.fault

pub returns-in_err-text : goal.returns-in_err-text
returns-in_err-text g c =
    unsent g.W.Write.contents c.args.writer.now c.from_residual.result c.in_err-text.field-0.0
    (appeal_register c.args.view.now) _ c.from_residual.ensures.1 c.in_err-text.ensures.memory refl
