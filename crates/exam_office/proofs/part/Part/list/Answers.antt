use Rattle.exam_office.proofs.part.Part.list.Goals as goal

pub returns-clause-listed : goal.returns-clause-listed
returns-clause-listed c = record { lists = c.in_ok-lists.ensures.ok; sessions = c.in_ok-sessions.ensures.exact }
