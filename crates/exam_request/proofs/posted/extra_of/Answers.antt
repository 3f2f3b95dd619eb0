use Rattle.std.proofs.Common.{◌≡◌, rules}
use Rattle.exam_request.proofs.Extras.{extra_is}
use Rattle.exam_request.proofs.posted.extra_of.Goals as goal

pub returns : goal.returns
returns c =
    let same : c.in_ok-ok.field-0 ≡ c.args.number = search rules in
    let exact = extra_is c.new.result c.in_ok-ok.field-0 c.new.ensures in
    rw same at exact
