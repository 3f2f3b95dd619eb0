use Rattle.exam_laws.proofs.OneResult.{one_run}
use Rattle.exam_laws.proofs.laws.one_list_gives_one_office.Goals as goal

pub returns : goal.returns
returns c = one_run
