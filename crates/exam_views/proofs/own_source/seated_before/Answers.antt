-- The count is of those walked so far who sit in that hall and come before the candidate. All of them are members, so
-- it fits.
use Rattle.std.proofs.Common.{ℕ, filter, ap, zero-add, ◌∙◌, arith}
use Rattle.exam_rules.specs.Relations.{Code, relations_of, same_code}
use Rattle.exam_rules.proofs.InOrder.{lists_rise}
use Rattle.exam_views.proofs.OwnSeats.{before_among, counted_before, few_before}
use Rattle.exam_commands.proofs.SameSeats.{few_members}
use Rattle.exam_views.proofs.own_source.seated_before.Goals as goal

pub loop-key-init : goal.loop-key-init
loop-key-init c = (
  tt,
  tt,
  zero-add _
      ∙ ap (before_among (relations_of c.args.facts.now) c.args.session.now c.args.hall.now c.desk_key_among-own.result)
      (c.into_iter-key-iterator.ensures.into_iter_gives ∙ c.seats_of-key-items.ensures.value)
      ∙ ap (λ key. before_among (relations_of c.args.facts.now) c.args.session.now c.args.hall.now key
      (filter (λ (e : (Code × ℕ) × Code). same_code e.0.0 c.args.session.now) c.args.seats.now.entries))
      c.desk_key_among-own.ensures
      ∙ counted_before (relations_of c.args.facts.now) c.args.seats.now.entries c.args.session.now
      c.seats_of-key-items.ensures.rising (c.requires.good.best c.args.session.now).lawful c.args.hall.now
      (lists_rise (relations_of c.args.facts.now) c.args.session.now c.show_order.ensures).numbers c.args.number,
)

pub overflow_add-count : goal.overflow_add-count
overflow_add-count c =
    let few = few_before
    (relations_of c.args.facts.now) c.args.seats.now.entries c.args.session.now c.args.hall.now c.args.number
    (few_members (relations_of c.args.facts.now) c.requires.good.limits c.args.session.now c.requires.known) in
    grind (arith, few, c.loop-key.invariant.2)

pub returns-clause-most : goal.returns-clause-most
returns-clause-most c =
    let few = few_before
    (relations_of c.args.facts.now) c.args.seats.now.entries c.args.session.now c.args.hall.now c.args.number
    (few_members (relations_of c.args.facts.now) c.requires.good.limits c.args.session.now c.requires.known) in
    omega (arith, few, c.loop-key.invariant.2)
