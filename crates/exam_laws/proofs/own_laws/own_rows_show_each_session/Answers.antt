use Rattle.exam_laws.proofs.OwnSessions.{as_many, sessions_shown, shown_if_member}
use Rattle.exam_laws.proofs.own_laws.own_rows_show_each_session.Goals as goal

pub returns-clause-rows : goal.returns-clause-rows
returns-clause-rows c office number own is = sessions_shown office number own is

pub returns-clause-count : goal.returns-clause-count
returns-clause-count c office number own is = as_many office number own is

pub returns-clause-each : goal.returns-clause-each
returns-clause-each c office number own good is s = shown_if_member office number own is good s
