use Rattle.exam_http.proofs.Pages.{deskless_viewed, whole_viewed}
use Rattle.exam_http.proofs.answering.viewed.Goals as goal

pub returns-in-Seats-clause-ok : goal.returns-in-Seats-clause-ok
returns-in-Seats-clause-ok g c = whole_viewed c.args.page _ _ c.view_candidate.ensures.ok

pub returns-in-Clashes-clause-ok : goal.returns-in-Clashes-clause-ok
returns-in-Clashes-clause-ok g c = deskless_viewed c.args.page c.in-Clashes.is _ _ c.view_without_desks.ensures.ok
