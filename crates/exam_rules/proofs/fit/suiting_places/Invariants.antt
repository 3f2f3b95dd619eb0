use Rattle.exam_rules.proofs.Words.{is_suiting}
use Rattle.exam_rules.proofs.HallMasks.{ArePlaces}
use Rattle.exam_rules.proofs.fit.suiting_places.Given as goal

-- what is left makes of the places so far the whole
abbrev pub invariant-loop-place : goal.invariant-loop-place
invariant-loop-place l = ArePlaces (is_suiting l.terms l.barred) l.halls l.place l.places
