use Rattle.exam_rules.proofs.NamedDesks.{desk_within, desk_apart}
use Rattle.exam_rules.proofs.laws.desks_are_of_their_own.Goals as goal

pub returns-clause-within : goal.returns-clause-within
returns-clause-within c = λ r s q d n h up lawful. desk_within r s up q lawful d n h

pub returns-clause-apart : goal.returns-clause-apart
returns-clause-apart c = λ r s q d e h up lawful few. desk_apart r s up q lawful few d e h
