use Rattle.exam_rules.proofs.Words.{Opening, Code, relations_of, same_code, open_halls, listed}
use Rattle.std.proofs.Common.{◌≡◌, ◌++◌, map, filter}
use Rattle.exam_rules.proofs.listing.halls_by_session.Given as goal

-- with what is left each list is the whole
abbrev pub invariant-loop-key : goal.invariant-loop-key
invariant-loop-key l =
    (s : Code) → listed l.halls.entries s
    ++ map (λ (o : (Code × Code) × Opening). o.0.1) (filter (λ o. same_code o.0.0 s) l.key-iterator)
    ≡ open_halls (relations_of l.facts) s
