use Rattle.std.proofs.Common.{◌≡◌, ◌∙◌, List, ℕ, ap, sym, refl}
use Rattle.std.specs.Prelude.{Ok}
use Rattle.exam_rules.specs.declared.rows.Session.{Session}
use Rattle.exam_views.specs.declared.view.Clash.{Clash}
use Rattle.exam_files.specs.Clashes.{clash_list, clash_text}
use Rattle.exam_files.proofs.Written.{written, unsent}
use Rattle.exam_files.proofs.clashes.clash_list.Goals as goal

pub returns : goal.returns
returns g c =
    let view = c.args.view.now in
    let clashes : c.deref.result.now ≡ view.clashes = c.deref.ensures.value ∙ c.in_ok-clashes.ensures.ok in
    let text : c.as_slice.result.now ≡ clash_list view =
    c.as_slice.ensures.value ∙ c.in_ok-text.ensures.ok
    ∙ ap (λ (code : List ℕ). clash_text code c.session.result c.deref.result.now) c.code.ensures
    ∙ ap (λ (session : Session). clash_text view.code session c.deref.result.now) c.session.ensures
    ∙ ap (λ (clashes : List Clash). clash_text view.code view.session clashes) clashes in
    written g.W.Write.contents c.send.result c.args.writer.now c.send.new.writer c.as_slice.result.now _
    (ap Ok (sym text)) c.send.ensures.ok c.send.ensures.err c.send.ensures.fault

pub returns-in_err-clashes : goal.returns-in_err-clashes
returns-in_err-clashes g c =
    unsent g.W.Write.contents c.args.writer.now c.from_residual.result c.in_err-clashes.field-0.0
    (clash_list c.args.view.now) _ c.from_residual.ensures.1 c.in_err-clashes.ensures.memory refl

pub returns-in_err-text : goal.returns-in_err-text
returns-in_err-text g c =
    unsent g.W.Write.contents c.args.writer.now c.from_residual-in_err-text.result c.in_err-text.field-0.0
    (clash_list c.args.view.now) _ c.from_residual-in_err-text.ensures.1 c.in_err-text.ensures.memory refl
