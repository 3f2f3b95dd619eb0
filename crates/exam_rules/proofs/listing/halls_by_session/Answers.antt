use Rattle.exam_rules.proofs.Naming.{halls_rise}
use Rattle.exam_rules.proofs.listing.halls_by_session.Goals as goal

pub returns-clause-rising : goal.returns-clause-rising
returns-clause-rising c =
    λ s. halls_rise s c.args.facts.now.openings.entries c.into_iter-key-iterator.ensures.into_iter_gives.5
