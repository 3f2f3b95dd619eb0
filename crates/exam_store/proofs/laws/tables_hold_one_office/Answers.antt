use Rattle.exam_store.proofs.Unique.{one_office}
use Rattle.exam_store.proofs.laws.tables_hold_one_office.Goals as goal

pub returns : goal.returns
returns c = one_office
