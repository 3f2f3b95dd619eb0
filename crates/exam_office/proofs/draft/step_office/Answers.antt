-- The step is that of the part. Only its new plans are put among the seats, whose other sessions stay; if there is no
-- memory for them, part and seats are taken back.
use Rattle.std.proofs.Common.{◌≡◌, true, Option, ap, sym, subst, ◌∙◌}
use Rattle.exam_rules.specs.Relations.{has_row, relations_of, row_at, seat_cmp}
use Rattle.exam_commands.specs.Exchanges.{all_put}
use Rattle.exam_commands.specs.NextPlans.{Plans}
use Rattle.exam_commands.specs.State.{Seats}
use Rattle.exam_office.specs.declared.part.Part.{Part}
use Rattle.exam_office.specs.HeldParts.{part_state}
use Rattle.exam_office.proofs.Drafting.{drafted, old_in_office, old_stay, seats_back, seats_put}
use Rattle.exam_office.proofs.SteppedParts.{lists_again}
use Rattle.exam_office.proofs.draft.step_office.Goals as goal

pub take_back-requires-clause-seats : goal.take_back-requires-clause-seats
take_back-requires-clause-seats c =
    let ask = c.requires.office in
    let part : Part = c.step_part.new.part in
    let kept : Option Plans = part.undo.plans in
    old_stay kept ask.0.seats c.put_seats.new.seats.entries
    (old_in_office c.args.command.now ask.0 (part_state c.args.part.now) ask.1.1 ask.1.3
    (relations_of part.facts) part.plans.entries c.show_order-3.ensures kept
    c.in_ok-reply.ensures.made.plans_back)
    (λ k here. c.put_seats.ensures.stays k (subst (λ (q : Seats). has_row seat_cmp q k ≡ true) ask.1.2 here))

pub returns-in-Err-clause-lists : goal.returns-in-Err-clause-lists
returns-in-Err-clause-lists c =
    lists_again c.args.command.now c.args.today
    (part_state c.args.part.now) c.step_part.new.part c.in_ok-reply.reply c.in_ok-reply.ensures.made
    c.take_back.new.part
    c.take_back.ensures.part

pub returns-in-Err-clause-seats : goal.returns-in-Err-clause-seats
returns-in-Err-clause-seats c =
    let ask = c.requires.office in
    let part : Part = c.step_part.new.part in
    c.take_back.ensures.seats
    ∙ seats_back c.args.command.now ask.0 (part_state c.args.part.now) ask.1.1 ask.1.3
    (relations_of part.facts) part.plans.entries c.show_order-3.ensures
    part.undo.plans c.in-Some.field-0 c.in-Some.is c.in_ok-reply.ensures.made.plans_back
    c.put_seats.new.seats.entries c.put_seats.ensures.rises
    (λ k away. c.put_seats.ensures.others k away ∙ sym (ap (λ (q : Seats). row_at seat_cmp q k) ask.1.2))
    ∙ ask.1.2

pub returns-in-Ok-clause-ok : goal.returns-in-Ok-clause-ok
returns-in-Ok-clause-ok c = λ office is.
    let part : Part = c.step_part.new.part in
    let new : Seats = part.plans.entries in
    drafted c.args.command.now c.args.today office c.args.part.now part c.put_seats.new.seats.entries
    c.in_ok-reply.reply is.0 is.1 is.3
    c.show_order.ensures c.show_order-3.ensures c.show_order-2.ensures c.in_ok-reply.ensures.made
    (c.in-Ok.ensures.ok ∙ ap (λ (q : Seats). all_put seat_cmp q new) (sym is.2)
    ∙ sym (ap (λ (o : Option Plans). seats_put o office.seats new) c.in-Some.is))

pub returns-in-None-clause-ok : goal.returns-in-None-clause-ok
returns-in-None-clause-ok c = λ office is.
    let part : Part = c.step_part.new.part in
    let new : Seats = part.plans.entries in
    drafted c.args.command.now c.args.today office c.args.part.now part c.args.seats.now.entries c.in_ok-reply.reply
    is.0 is.1 is.3
    c.show_order.ensures c.show_order-3.ensures c.show_order-2.ensures c.in_ok-reply.ensures.made
    (sym is.2 ∙ sym (ap (λ (o : Option Plans). seats_put o office.seats new) c.in-None.is))
