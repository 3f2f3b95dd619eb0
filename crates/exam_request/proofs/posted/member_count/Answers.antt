use Rattle.std.proofs.Common.{Some, ap, sym, ◌∙◌}
use Rattle.std.specs.Prelude.{option_map}
use Rattle.json.specs.Find.{as_object}
use Rattle.json.specs.Value.{value_view}
use Rattle.json.proofs.Trees.{view-Object}
use Rattle.exam_request.specs.Posted.{count_of}
use Rattle.exam_request.proofs.Members.{count_members}
use Rattle.exam_request.proofs.posted.member_count.Goals as goal

pub returns-in-Object : goal.returns-in-Object
returns-in-Object c =
    let count = c.len.ensures ∙ c.in-Object.members.ok.0 ∙ sym (count_members c.in-Object.members.items) in
    let seen = ap (λ j. option_map count_of (as_object j))
    (ap value_view c.in-Object.is ∙ view-Object c.in-Object.members) in
    ap (λ n. Some n) count ∙ sym seen
