use Rattle.std.proofs.Common.{◌∙◌, ap, inl, inr}
use Rattle.exam_commands.specs.Own.{own_of}
use Rattle.exam_request.specs.Answer.{refusal_told}
use Rattle.exam_http.proofs.Pages.{page_told}
use Rattle.exam_http.proofs.answering.show.Goals as goal

pub returns-in-Ok-clause-body : goal.returns-in-Ok-clause-body
returns-in-Ok-clause-body g c =
    inr (page_told (own_of c.args.store.now.office c.args.number) c.args.page _ _ c.in-Ok.ensures.body c.ok.ensures)

pub returns-in-Err-clause-body : goal.returns-in-Err-clause-body
returns-in-Err-clause-body g c = inl (c.refusal.ensures ∙ ap refusal_told c.in-Err.ensures.memory)
