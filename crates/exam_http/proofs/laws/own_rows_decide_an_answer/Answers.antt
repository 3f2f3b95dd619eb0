use Rattle.exam_http.proofs.Alike.{alike}
use Rattle.exam_http.proofs.laws.own_rows_decide_an_answer.Goals as goal

pub returns : goal.returns
returns g c today request one_after other_after first second same =
    alike g.S.Store g.T.Store today request c.args.one.now one_after c.args.other.now other_after first second
    c.show_good.ensures.good c.show_good.ensures.order c.show_good-2.ensures.good c.show_good-2.ensures.order same
