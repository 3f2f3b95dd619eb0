-- Members, plan and desks of a view have one length. The seats so far are those of the members walked so far.
use Rattle.std.proofs.Common.{◌≡◌, ◌∙◌, ◌<◌, Option, length, [], ◌∷◌, ◌++◌, get_or, ap, subst, arith}
use Rattle.exam_plan.specs.Problems.{desk_numbers}
use Rattle.exam_rules.specs.Relations.{Code}
use Rattle.exam_views.specs.declared.view.Seat.{Seat}
use Rattle.exam_views.specs.Views.{View, IsView, seat_in}
use Rattle.exam_views.proofs.Showing.{desks_long, one_more_seat}
use Rattle.exam_views.proofs.view.SessionView.seats.Goals as goal

pub index-requires-in-loop-index : goal.index-requires-in-loop-index
index-requires-in-loop-index c =
    let v : View = c.args.self.now in
    let same : length c.deref-member-items.result.now ≡ length v.members =
    ap length (c.deref-member-items.ensures.value ∙ ap (λ (w : View). w.members) c.self.view_is) in
    let long : length c.in_ok-desks.desks.items ≡ length v.members =
    desks_long v (subst IsView c.self.view_is c.self.invariant) c.in_ok-desks.desks.items
    (c.in_ok-desks.ensures.numbers ∙ ap (λ (w : View). desk_numbers w.problem w.plan) c.self.view_is) in
    let below : c.loop-index.index < length c.deref-member-items.result.now = c.loop-index-test.true in
    omega (arith, c.in_ok-desks.desks.ok.0)

pub loop-index-preserved : goal.loop-index-preserved
loop-index-preserved c =
    let v : View = c.args.self.now in
    one_more_seat v (subst IsView c.self.view_is c.self.invariant) c.loop-index.index c.member-item.result
    c.deref-member-items.result.now c.in_ok-desks.desks.items c.index.result.now c.index-in-loop-index.result.now
    c.loop-index.seats.items c.push.new.self.items
    (c.deref-member-items.ensures.value ∙ ap (λ (w : View). w.members) c.self.view_is) c.loop-index-test.true
    c.member-item.is
    (c.in_ok-desks.ensures.numbers ∙ ap (λ (w : View). desk_numbers w.problem w.plan) c.self.view_is)
    (c.index.ensures ∙ ap (λ (w : View). get_or w.plan c.loop-index.index c.index.result.now) c.self.view_is)
    c.index-in-loop-index.ensures
    (c.in_ok-push.ensures.items
    ∙ ap (λ (x : Seat). c.loop-index.seats.items ++ x ∷ [])
    (c.in_ok-seat_in.ensures.ok
    ∙ ap (λ (h : Option Code). seat_in c.member-item.result h c.index-in-loop-index.result.now)
    c.hall_at-hall.ensures))
    c.loop-index.invariant
