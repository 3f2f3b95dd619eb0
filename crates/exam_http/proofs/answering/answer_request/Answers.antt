use Rattle.std.proofs.Common.{inl, refl}
use Rattle.exam_request.specs.Asked.{request_of}
use Rattle.exam_http.proofs.Pages.{answered}
use Rattle.exam_http.proofs.answering.answer_request.Goals as goal

pub returns-in-Ok : goal.returns-in-Ok
returns-in-Ok g c = answered g.S.Store c.args.today c.args.store.now
    (request_of c.args.request.now) _ _ c.answer_found.ensures

pub returns : goal.returns
returns g c = inl (c.refusal.ensures, refl)
