use Rattle.std.proofs.Common.{subst}
use Rattle.exam_views.specs.Views.{IsView}
use Rattle.exam_views.proofs.Showing.{some_shortage}
use Rattle.exam_views.proofs.view.SessionView.show_shortage.Goals as goal

pub returns : goal.returns
returns c = some_shortage c.args.self.now (subst IsView c.self.view_is c.self.invariant)
