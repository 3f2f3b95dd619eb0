-- Facts, lists and seats are those of the office, and nothing but the facts changes.
use Rattle.std.proofs.Common.{◌≡◌, None, Ok, sym, subst, true}
use Rattle.exam_rules.specs.Lists.{AreListsOf}
use Rattle.exam_rules.specs.Relations.{Relations}
use Rattle.exam_commands.specs.Good.{IsGood}
use Rattle.exam_commands.specs.Orders.{IsInOrder}
use Rattle.exam_commands.specs.State.{State, office_of}
use Rattle.exam_commands.specs.Steps.{Step}
use Rattle.exam_office.specs.declared.part.Part.{Part}
use Rattle.exam_office.specs.declared.relisting.ListUndo.TheVariants.{Nothing}
use Rattle.exam_office.specs.Drafts.{state_after}
use Rattle.exam_office.proofs.AppealDrafts.{appeal_draft, appeal_step}
use Rattle.exam_office.proofs.draft.Draft.of_office.Goals as goal

pub invariant_of-result : goal.invariant_of-result
invariant_of-result c =
    let parts = c.into_parts-facts in
    let here : State = office_of parts.result.0 parts.result.2 in
    let same : here ≡ c.args.office =
    λ i. record { relations = parts.ensures.facts i; seats = parts.ensures.seats i } in
    let part : Part = record {
      facts = c.change_within.new.facts;
      plans = c.new.result;
      is_listed = true;
      lists = parts.result.1;
      sessions = c.new-in-Ok.result;
      undo = record { facts = c.in-Ok.undo; lists = Nothing; plans = None };
    } in
    (appeal_draft c.args.command.now c.requires c.args.today here (subst IsGood (sym same) c.show_good.ensures)
    (subst IsInOrder (sym same) c.show_order.ensures) part c.in-Ok.ensures.checked c.in-Ok.ensures.ok
    c.in-Ok.ensures.limits c.show_order-in-Ok.ensures c.in-Ok.undo c.in-Ok.ensures.back
    (subst (λ (r : Relations). AreListsOf r parts.result.1) (sym parts.ensures.facts) parts.ensures.lists)
    c.in-Ok.reply c.in-Ok.ensures.reply).draft

pub returns-in-Ok-clause-step : goal.returns-in-Ok-clause-step
returns-in-Ok-clause-step c =
    let parts = c.into_parts-facts in
    let here : State = office_of parts.result.0 parts.result.2 in
    let same : here ≡ c.args.office =
    λ i. record { relations = parts.ensures.facts i; seats = parts.ensures.seats i } in
    let part : Part = record {
      facts = c.change_within.new.facts;
      plans = c.new.result;
      is_listed = true;
      lists = parts.result.1;
      sessions = c.new-in-Ok.result;
      undo = record { facts = c.in-Ok.undo; lists = Nothing; plans = None };
    } in
    subst (λ (office : State). Step c.args.command.now c.args.today office (Ok c.in-Ok.reply)
    (state_after part parts.result.2.entries)) same
    (appeal_step c.args.command.now c.requires c.args.today here (subst IsGood (sym same) c.show_good.ensures)
    (subst IsInOrder (sym same) c.show_order.ensures) part c.in-Ok.ensures.checked c.in-Ok.ensures.ok
    c.in-Ok.ensures.limits c.show_order-in-Ok.ensures c.in-Ok.reply c.in-Ok.ensures.reply)
