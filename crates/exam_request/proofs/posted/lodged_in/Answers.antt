use Rattle.std.proofs.Common.{◌≡◌, ◌<◌, Some, length, rules}
use Rattle.exam_request.proofs.Nonempty.{counted_text}
use Rattle.exam_request.specs.Posted.{members_written}
use Rattle.exam_request.proofs.posted.lodged_in.Goals as goal

pub returns-in-Some-2-clause-memory : goal.returns-in-Some-2-clause-memory
returns-in-Some-2-clause-memory c =
    let counted : members_written c.args.text.now ≡ Some c.in-Some.count = search rules in
    let long : 0 < length c.args.text.now = counted_text c.args.text.now c.in-Some.count counted in
    search rules
