use Rattle.exam_rules.proofs.Words.{keys_of, Code, relations_of, least_live_paper, listed}
use Rattle.std.proofs.Common.{◌≡◌, ◌++◌, List, ℕ}
use Rattle.exam_rules.proofs.Listed.{listed_with}
use Rattle.exam_rules.proofs.listing.members_by_session.Given as goal

-- each list has the members among the candidates so far
abbrev pub invariant-loop-number : goal.invariant-loop-number
invariant-loop-number l =
    (done : List ℕ) × (done ++ keys_of l.number-iterator ≡ keys_of l.facts.candidates.entries)
    × ((s : Code) → listed l.members.entries s ≡ listed_with (least_live_paper (relations_of l.facts) s) done)
