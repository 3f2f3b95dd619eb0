use Rattle.exam_store.proofs.ReadInTurn.{rows_whole}
use Rattle.exam_store.proofs.appeal_rows.AppealRows.new.Goals as goal

pub returns-clause-rows : goal.returns-clause-rows
returns-clause-rows g c = rows_whole c.args.store.now.office c.args.session
