use Rattle.exam_request.specs.Asked.{asked_of}
use Rattle.exam_http.proofs.Served.{served}
use Rattle.exam_http.proofs.ServedOn.{replied_on}
use Rattle.exam_http.proofs.serving.serve_one.Goals as goal

pub returns-in-Ok-clause-serves : goal.returns-in-Ok-clause-serves
returns-in-Ok-clause-serves g c =
    served g.S.Store g.W.Write.contents c.args.today _ _ c.in-Ok.asked _ _ _ _ _ c.in-Ok.ensures
    c.write_back.ensures.replies

pub returns-in-Ok-clause-served : goal.returns-in-Ok-clause-served
returns-in-Ok-clause-served g c =
    replied_on g.S.Store g.W.Write.contents c.args.today (asked_of c.in-Ok.asked) _ _ _ _ _ c.write_back.ensures.replies
