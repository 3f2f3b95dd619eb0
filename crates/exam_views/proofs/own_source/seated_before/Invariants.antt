use Rattle.std.proofs.Common.{◌≡◌, ◌+◌, count_by}
use Rattle.exam_plan.specs.Matching.{occupants}
use Rattle.exam_rules.specs.Relations.{relations_of}
use Rattle.exam_rules.specs.Seatings.{seating, plan_of, comes_before}
use Rattle.exam_views.proofs.OwnSeats.{before_among}
use Rattle.exam_views.proofs.own_source.seated_before.Given as goal

-- those counted and those left are all
abbrev pub invariant-loop-key : goal.invariant-loop-key
invariant-loop-key l =
    (goal.iterator-loop-key).can_next l.key-iterator × (goal.iterator-loop-key).is_finite l.key-iterator
    × (l.count + before_among (relations_of l.facts) l.session l.hall l.own l.key-iterator
    ≡ count_by (λ d. comes_before (relations_of l.facts) l.session d l.fn.number)
    (occupants (seating (relations_of l.facts) l.session) (plan_of l.seats.entries l.session) l.hall))
