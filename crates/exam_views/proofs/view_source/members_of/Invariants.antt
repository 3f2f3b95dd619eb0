use Rattle.std.proofs.Common.{◌≡◌, Some, map, take}
use Rattle.exam_rules.specs.Relations.{relations_of}
use Rattle.exam_views.specs.Views.{member_of}
use Rattle.exam_views.proofs.view_source.members_of.Given as goal

abbrev pub invariant-loop-number : goal.invariant-loop-number
invariant-loop-number l =
    map (λ member. Some member) l.members.items
    ≡ map (member_of (relations_of l.facts) l.session) (take l.number-index l.numbers)
