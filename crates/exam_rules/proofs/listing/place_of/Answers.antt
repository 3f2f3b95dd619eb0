use Rattle.exam_rules.proofs.Words.{Entrant}
use Rattle.std.proofs.Common.{nat_lt, rules}
use Rattle.std.proofs.lemmas.List.Sorted.{IsPartitionPoint-from_clause, IsPartitionedBy-ltb}
use Rattle.exam_rules.proofs.listing.place_of.Goals as goal

pub returns-clause-place : goal.returns-clause-place
returns-clause-place c = λ up.
    IsPartitionPoint-from_clause
    (λ (e : Entrant). nat_lt e.number c.args.number) _ _ c.partition_point.ensures.partitioned
    (IsPartitionedBy-ltb (λ (e : Entrant). e.number) _ c.args.number up) (λ a r q k. search rules)
