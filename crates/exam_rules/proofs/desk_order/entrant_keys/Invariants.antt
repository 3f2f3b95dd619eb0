use Rattle.exam_rules.proofs.Words.{Entrant, relations_of, desk_key}
use Rattle.std.proofs.Common.{◌≡◌, ◌++◌, map, drop}
use Rattle.exam_rules.proofs.desk_order.entrant_keys.Given as goal

-- a key for each member so far
abbrev pub invariant-loop-entrant : goal.invariant-loop-entrant
invariant-loop-entrant l =
    l.keys.items ++ map (λ (e : Entrant). desk_key (relations_of l.facts) l.session e.number)
    (drop l.entrant-index l.entrants)
    ≡ map (λ (e : Entrant). desk_key (relations_of l.facts) l.session e.number) l.entrants
