use Rattle.exam_rules.proofs.Words.{relations_of, fitting_places}
use Rattle.std.proofs.Common.{map, length}
use Rattle.exam_rules.proofs.HallMasks.{AreMasksOf}
use Rattle.exam_rules.proofs.seating.fit_rows.Given as goal

-- a row for each candidate so far
abbrev pub invariant-loop-key : goal.invariant-loop-key
invariant-loop-key l =
    AreMasksOf (length l.halls)
    (λ key. fitting_places (relations_of l.facts) l.session key.1 (map (λ hall. hall.0) l.halls)) l.keys
    l.key-index l.rows.items
