use Rattle.std.proofs.Common.{rules, arith}
use Rattle.exam_request.specs.Head.{HasWholeLines}
use Rattle.exam_request.proofs.Heads.{no_head, whole_head}
use Rattle.exam_request.proofs.head.judge.Goals as goal

pub returns-in-Some-clause-judges : goal.returns-in-Some-clause-judges
returns-in-Some-clause-judges c =
    let lines : HasWholeLines c.args.head.now = search rules in
    whole_head _ _ _ _ lines c.in-Some.ensures.whole (omega arith) c.in-Some.ensures.len c.said_by.ensures.said

pub returns-in-None-clause-judges : goal.returns-in-None-clause-judges
returns-in-None-clause-judges c = no_head _ (λ h is. c.in-None.ensures.none h is.reads is.few)
