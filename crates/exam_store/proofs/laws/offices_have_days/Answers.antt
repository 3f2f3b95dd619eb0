use Rattle.exam_store.proofs.DaysKept.{command_days, formed_days, no_days}
use Rattle.exam_store.proofs.laws.offices_have_days.Goals as goal

pub returns-clause-empty : goal.returns-clause-empty
returns-clause-empty c = no_days

pub returns-clause-opened : goal.returns-clause-opened
returns-clause-opened c = formed_days

pub returns-clause-kept : goal.returns-clause-kept
returns-clause-kept c = command_days
