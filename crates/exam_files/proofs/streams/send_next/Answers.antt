use Rattle.exam_files.proofs.Streaming.{given_asked}
use Rattle.exam_files.proofs.streams.send_next.Goals as goal

pub returns-in-Some-clause-asked : goal.returns-in-Some-clause-asked
returns-in-Some-clause-asked g c = λ honest.
    given_asked (g.A.AppealSource.Refuses c.args.source.now c.next.new.self) c.in-Some.row _
    (g.A.AppealSource.coming c.args.source.now)
    (g.A.AppealSource.coming c.next.new.self) c.send_row.result c.in-Some.is
    (c.in_ok-row.ensures.row honest)
