use Rattle.std.proofs.Common.{◌≡◌, Some, map, take}
use Rattle.exam_rules.specs.Relations.{relations_of}
use Rattle.exam_views.specs.Views.{clash_of}
use Rattle.exam_views.proofs.view_source.with_sitting.Given as goal

abbrev pub invariant-loop-pair : goal.invariant-loop-pair
invariant-loop-pair l =
    map (λ clash. Some clash) l.list.items ≡ map (clash_of (relations_of l.facts) l.session) (take l.pair-index l.pairs)
