use Rattle.std.proofs.Common.{sym, subst}
use Rattle.exam_store.specs.Kept.{Keeps}
use Rattle.exam_store.proofs.Running.{one_office}
use Rattle.exam_store.proofs.SameTables.{same_tables}
use Rattle.exam_store.proofs.laws.applied_list_gives_one_office.Goals as goal

pub returns-clause-office : goal.returns-clause-office
returns-clause-office c = one_office

pub returns-clause-tables : goal.returns-clause-tables
returns-clause-tables c = λ done before one other first second here there none never run again keeps kept.
    let same = (one_office done before one other first second none never run again).1 in
    same_tables here there one keeps (subst (Keeps there) (sym same) kept)
