use Rattle.exam_commands.proofs.Seated.{is_seated}
use Rattle.exam_office.proofs.office.Office.show_seated.Goals as goal

pub returns : goal.returns
returns c = λ s. is_seated c.args.self.now s c.show_good.ensures c.show_order.ensures.tables
