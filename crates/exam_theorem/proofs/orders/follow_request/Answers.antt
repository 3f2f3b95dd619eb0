-- The bytes ask one thing, of the candidate whose code they show. To lodge or to retract moves nobody, so nobody
-- else's seat is another.
use Rattle.exam_theorem.proofs.Words.{IsDay}
use Rattle.std.proofs.Common.{Some, ap, refl, subst}
use Rattle.exam_theorem.proofs.OwnRows.{own_decides}
use Rattle.exam_theorem.proofs.Served.{served}
use Rattle.exam_theorem.proofs.SettledOrders.{request_settles}
use Rattle.exam_theorem.proofs.Sparing.{request_spares}
use Rattle.exam_theorem.proofs.orders.follow_request.Goals as goal

pub returns-clause-follows : goal.returns-clause-follows
returns-clause-follows g c =
    (served g.S.Store c.one_step_has_one_result.ensures c.args.today c.args.store.now c.serve_one-served.new.store
    c.args.bytes.now (Some c.serve_one-served.new.reader.now)
    (λ v. Some v.items) c.new-answer.result c.serve_one-served.new.writer c.serve_one-served.new.writer.items
    (ap Some c.new-answer.ensures.items) refl c.serve_one-served.result c.serve_one-served.ensures.serves).0

pub returns-clause-kept : goal.returns-clause-kept
returns-clause-kept g c =
    (served g.S.Store c.one_step_has_one_result.ensures c.args.today c.args.store.now c.serve_one-served.new.store
    c.args.bytes.now (Some c.serve_one-served.new.reader.now)
    (λ v. Some v.items) c.new-answer.result c.serve_one-served.new.writer c.serve_one-served.new.writer.items
    (ap Some c.new-answer.ensures.items) refl c.serve_one-served.result c.serve_one-served.ensures.serves).1

pub returns-clause-spares : goal.returns-clause-spares
returns-clause-spares g c =
    request_spares c.lodging_and_retracting_move_nobody.ensures.lodging
    c.lodging_and_retracting_move_nobody.ensures.retracting
    c.args.store.now.office c.show_good.ensures.good c.show_good.ensures.order c.args.today
    c.serve_one-served.new.store.office c.args.bytes.now c.serve_one-served.result
    c.serve_one-served.new.writer.items
    (returns-clause-follows g c)

pub returns-clause-own : goal.returns-clause-own
returns-clause-own g c =
    own_decides c.requests_ask_one_thing.ensures c.choices_are_of_who_shows_the_code.ensures c.args.bytes.now
    c.args.today c.args.store.now.office c.serve_one-served.new.store.office
    c.show_good.ensures.good c.show_good.ensures.order
    (record { served = c.serve_one-served.result; answer = c.serve_one-served.new.writer })
    (returns-clause-follows g c)

pub returns-clause-settles : goal.returns-clause-settles
returns-clause-settles g c =
    let is_day : IsDay c.args.today = subst IsDay c.number.ensures.value c.number.ensures.range in
    request_settles g.S.Store
    (λ h trees is may. g.met.S.Store.settled h.store trees is may) c.one_step_has_one_result.ensures
    c.offices_have_days.ensures.kept (λ v. Some v.items) c.args.today is_day
    c.args.bytes.now (Some c.serve_one-served.new.reader.now) c.args.store.now c.serve_one-served.new.store
    (returns-clause-kept g c)
    c.new-answer.result c.serve_one-served.new.writer c.serve_one-served.new.writer.items
    (ap Some c.new-answer.ensures.items) refl c.serve_one-served.result c.serve_one-served.ensures.serves
