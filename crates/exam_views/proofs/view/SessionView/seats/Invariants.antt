use Rattle.std.proofs.Common.{◌≡◌, ◌++◌, drop}
use Rattle.exam_views.specs.Views.{seats_from, seats_of}
use Rattle.exam_views.proofs.view.SessionView.seats.Given as goal

-- what is left makes of the seats so far the whole
abbrev pub invariant-loop-index : goal.invariant-loop-index
invariant-loop-index l = l.seats.items ++ seats_from l.self l.index (drop l.index l.self.members) ≡ seats_of l.self
