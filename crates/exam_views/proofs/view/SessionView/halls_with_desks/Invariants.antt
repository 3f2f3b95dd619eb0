use Rattle.std.proofs.Common.{◌≡◌, map, take}
use Rattle.exam_views.specs.Views.{hall_with_desks}
use Rattle.exam_views.proofs.view.SessionView.halls_with_desks.Given as goal

abbrev pub invariant-loop-place : goal.invariant-loop-place
invariant-loop-place l = l.halls.items ≡ map (hall_with_desks l.self) (take l.place-index l.places)
