-- A line with its file means one command, which has one result. So what the store came to is what the definition says.
use Rattle.exam_theorem.proofs.Words.{job_shown, FollowsCommand, LineEnd, is_failure, command_of, IsDay, Settles}
use Rattle.std.proofs.Common.{None, Some, subst, sym}
use Rattle.std.specs.Prelude.{IsTrue}
use Rattle.exam_theorem.proofs.Carried.{follows}
use Rattle.exam_theorem.proofs.SaidDays.{job_days}
use Rattle.exam_theorem.proofs.SettledOrders.{line_settles}
use Rattle.exam_theorem.proofs.orders.follow_line.Goals as goal

pub returns-clause-follows : goal.returns-clause-follows
returns-clause-follows g c =
    subst (λ (o : LineEnd). FollowsCommand
    (command_of (job_shown c.args.line.job) c.args.file.now) c.args.line.today c.args.store.now.office o
    c.carry_out.new.store.office)
    (sym c.told.ensures)
    (follows g.S.Store (λ _. None) c.args.line.today c.args.file.now
    (Some c.carry_out.new.reader.now) c.args.store.now c.carry_out.new.store c.sink.result c.carry_out.new.out
    (job_shown c.args.line.job) c.carry_out.result c.carry_out.ensures.does).0

pub returns-clause-kept : goal.returns-clause-kept
returns-clause-kept g c =
    (follows g.S.Store (λ _. None) c.args.line.today c.args.file.now
    (Some c.carry_out.new.reader.now) c.args.store.now c.carry_out.new.store c.sink.result c.carry_out.new.out
    (job_shown c.args.line.job) c.carry_out.result c.carry_out.ensures.does).1

pub returns-clause-settles : goal.returns-clause-settles
returns-clause-settles g c = λ days.
    let job = job_shown c.args.line.job in
    let file = c.args.file.now in
    let today = c.args.line.today in
    let is_day : IsDay today = subst IsDay c.number.ensures.value c.number.ensures.range in
    subst (λ (o : LineEnd). Settles g.S.Store (IsTrue (is_failure o))
    (λ at. (end : LineEnd) × FollowsCommand (command_of job file) today c.args.store.now.office end at)
    c.args.store.now c.carry_out.new.store)
    (sym c.told.ensures)
    (line_settles g.S.Store
    (λ h trees is may. g.met.S.Store.settled h.store trees is may) c.one_step_has_one_result.ensures
    c.offices_have_days.ensures.kept (λ _. None) today is_day
    file (Some c.carry_out.new.reader.now) c.args.store.now c.carry_out.new.store c.sink.result c.carry_out.new.out
    c.carry_out.result (returns-clause-kept g c)
    job (job_days job file days) c.carry_out.ensures.does)
