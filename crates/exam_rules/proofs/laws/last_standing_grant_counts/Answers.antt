use Rattle.exam_rules.specs.Sessions.{standing_grants}
use Rattle.exam_rules.proofs.LastGrants.{last_counts, none_counts}
use Rattle.exam_rules.proofs.laws.last_standing_grant_counts.Goals as goal

pub returns-clause-last : goal.returns-clause-last
returns-clause-last c = λ r n day g. last_counts day (standing_grants r n) g

pub returns-clause-none : goal.returns-clause-none
returns-clause-none c = λ r n day. none_counts day (standing_grants r n)
