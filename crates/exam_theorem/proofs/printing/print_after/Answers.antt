use Rattle.exam_theorem.proofs.Words.{State, EndsInOne, shown}
use Rattle.std.proofs.Common.{subst, sym}
use Rattle.std.specs.Prelude.{map}
use Rattle.exam_theorem.proofs.KeptOffice.{then_on}
use Rattle.exam_theorem.proofs.OneOffice.{ends_in_one}
use Rattle.exam_theorem.proofs.printing.print_after.Goals as goal

pub returns-clause-kept : goal.returns-clause-kept
returns-clause-kept g c =
    then_on g.S.Store c.args.store.now c.follow_all.new.store c.print_asked-printed.new.store c.follow_all.ensures.kept
    c.print_asked-printed.ensures.kept

pub returns-clause-one : goal.returns-clause-one
returns-clause-one g c =
    subst (λ (office : State). EndsInOne
    (map shown c.args.orders.now) c.args.store.now.office c.in_ok-outcomes.outcomes.items office)
    (sym c.print_asked-printed.ensures.office)
    (ends_in_one c.one_step_has_one_result.ensures c.requests_ask_one_thing.ensures
    (map shown c.args.orders.now) c.args.store.now.office c.follow_all.new.store.office
    c.in_ok-outcomes.outcomes.items c.in_ok-outcomes.ensures.run)

pub returns-clause-passes : goal.returns-clause-passes
returns-clause-passes g c = record {
  last = c.follow_all.new.store;
  passed = c.in_ok-outcomes.ensures.passes;
  stays = c.print_asked-printed.ensures.stays;
  sheet = c.print_asked-printed.ensures.sheet;
}
