use Rattle.std.proofs.Common.{◌≡◌, map, take}
use Rattle.exam_views.specs.Views.{number_of}
use Rattle.exam_views.proofs.view.SessionView.numbers_of.Given as goal

abbrev pub invariant-loop-place : goal.invariant-loop-place
invariant-loop-place l = l.numbers.items ≡ map (number_of l.self) (take l.place-index l.places)
