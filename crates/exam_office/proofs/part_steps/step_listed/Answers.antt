-- What the command reads is the same in the part as in the office, so facts, lists and plans change as they would
-- there. If the new plans cannot be made, the facts go back by what was kept.
use Rattle.std.proofs.Common.{rules, ◌≡◌, ◌↔◌, Contains, IsTrue, List, Err, inr, refl, ap, sym, subst, ◌∙◌}
use Rattle.std.specs.Prelude.{OnErr}
use Rattle.exam_rules.specs.Lists.{AreListsOf}
use Rattle.exam_rules.specs.Relations.{Code, Relations, relations_of}
use Rattle.exam_commands.specs.declared.command.Reply.{Reply}
use Rattle.exam_commands.specs.NextPlans.{after_plans, first_reply, last_reply, newly_decided}
use Rattle.exam_commands.specs.Parts.{IsMadeIn, IsPutBack, reads}
use Rattle.exam_commands.specs.State.{Seats, State}
use Rattle.exam_commands.specs.Steps.{MayStep}
use Rattle.exam_laws.proofs.Making.{put_after, refused_early, refused_late, was_made}
use Rattle.exam_laws.proofs.Parting.{made_back, refused_back}
use Rattle.exam_office.specs.declared.part.Part.{Part}
use Rattle.exam_office.specs.HeldParts.{IsListed, part_state}
use Rattle.exam_office.proofs.ListsPutBack.{same_are}
use Rattle.exam_office.proofs.SteppedParts.{lists_were, part_again, read_back, step_made, still_listed}
use Rattle.exam_office.proofs.part_steps.step_listed.Goals as goal

pub settled-requires : goal.settled-requires
settled-requires c =
    let ask = c.requires.part in (
      relations_of c.args.part.now.facts,
      c.requires.listed.lists,
      was_made c.args.command.now c.args.today ask.office (part_state c.args.part.now) ask.good ask.order ask.agrees
          (relations_of c.change.new.facts) c.in_ok-facts.ensures.checked c.in_ok-facts.ensures.ok,
    )

pub returns-in-Ok-clause-made : goal.returns-in-Ok-clause-made
returns-in-Ok-clause-made c =
    let ask = c.requires.part in
    let done = c.args.command.now in
    let part : State = part_state c.args.part.now in
    let new : State = record
    { relations = relations_of c.change.new.facts; seats = c.put_plans-plans.new.plans.entries } in
    let sessions = c.deref.result.now in
    let exact : (s : Code) → Contains sessions s ↔ IsTrue (reads part.relations done s) =
    λ s. subst (λ (list : List Code). Contains list s ↔ IsTrue (reads part.relations done s))
    (sym c.deref.ensures.value) (c.requires.listed.sessions s) in
    let put : new.seats ≡ after_plans c.in-Ok.next part.seats =
    put_after c.in-Ok.next part.seats new.seats c.put_plans-plans.result c.put_plans-plans.ensures in
    let told : c.last_reply-reply.result
    ≡ last_reply done (newly_decided part.relations done)
    (first_reply done part.relations new.relations) new.relations part.seats new.seats =
    c.last_reply-reply.ensures
    ∙ ap (λ d. last_reply done d c.in_ok-facts.reply new.relations part.seats (after_plans c.in-Ok.next part.seats))
    c.newly_decided-decided.ensures
    ∙ ap (λ (first : Reply). last_reply done (newly_decided part.relations done) first new.relations part.seats
    (after_plans c.in-Ok.next part.seats)) c.in_ok-facts.ensures.reply
    ∙ ap (λ (seats : Seats). last_reply done (newly_decided part.relations done)
    (first_reply done part.relations new.relations) new.relations part.seats seats) (sym put) in
    record {
      made = subst (λ (answer : Reply). IsMadeIn done c.args.today part new answer) (sym told)
          (step_made done c.args.today ask.office part ask.good ask.order ask.agrees sessions exact new
          c.in_ok-facts.ensures.checked c.in_ok-facts.ensures.ok
          c.in-Ok.ensures.limits c.in-Ok.next c.in-Ok.ensures.plans put);
      change = was_made done c.args.today ask.office part ask.good ask.order ask.agrees new.relations
          c.in_ok-facts.ensures.checked c.in_ok-facts.ensures.ok;
      limits = c.in-Ok.ensures.limits;
      lists = c.in-Ok.ensures.lists;
      facts_back = c.in_ok-facts.ensures.back;
      lists_there = c.in-Ok.ensures.back.there;
      lists_back = lists_were part.relations _ _ c.args.part.now.lists c.requires.listed.lists c.in-Ok.ensures.back;
      plans_back = read_back done part.relations sessions exact new.relations part.seats new.seats c.in-Ok.next
          c.in-Ok.ensures.plans c.put_plans-plans.result c.put_plans-plans.ensures;
    }

pub returns-in-Ok-clause-step : goal.returns-in-Ok-clause-step
returns-in-Ok-clause-step c = λ office after good up agrees put.
    inr (made_back c.args.today office (part_state c.args.part.now) after good up
    (record { relations = relations_of c.change.new.facts; seats = c.put_plans-plans.new.plans.entries })
    c.show_order.ensures c.args.command.now c.last_reply-reply.result agrees put
    (returns-in-Ok-clause-made c).made)

pub returns-in-Ok-clause-back : goal.returns-in-Ok-clause-back
returns-in-Ok-clause-back c = let is = returns-in-Ok-clause-made c in (is.facts_back.0, is.lists_there)

pub returns-in-Ok-clause-again : goal.returns-in-Ok-clause-again
returns-in-Ok-clause-again c = λ back is_back.
    part_again c.args.command.now c.args.today c.args.part.now _ c.last_reply-reply.result c.requires.part
    c.requires.listed (returns-in-Ok-clause-made c) refl back is_back

pub returns-in-Err-clause-refusal : goal.returns-in-Err-clause-refusal
returns-in-Err-clause-refusal c =
    let ask = c.requires.part in
    let new : State = record { relations = relations_of c.change.new.facts; seats = c.args.part.now.plans.entries } in
    refused_late c.args.command.now c.args.today ask.office
    (part_state c.args.part.now) ask.good ask.order ask.agrees new
    c.in_ok-facts.ensures.checked c.in_ok-facts.ensures.ok c.in-Err.refusal c.in-Err.ensures.refusal

pub returns-in_err-facts-clause-step : goal.returns-in_err-facts-clause-step
returns-in_err-facts-clause-step c =
    let done = c.args.command.now in
    let part : State = part_state c.args.part.now in
    let e = c.in_err-facts.field-0.0 in
    let is : c.from_residual.result ≡ Err e = search rules in
    λ office after good up agrees put.
    subst (λ result. MayStep done c.args.today office result after) (sym is)
    (refused_back c.args.today office part after good up done e agrees
    (subst (λ (r : Relations). IsPutBack done office (record { relations = r; seats = part.seats }) after)
    c.in_err-facts.ensures.same put)
    (refused_early done c.args.today part e c.in_err-facts.ensures.refusal))

pub returns-in_err-facts-clause-listed : goal.returns-in_err-facts-clause-listed
returns-in_err-facts-clause-listed c =
    let old : Part = c.args.part.now in
    let new : Part = record {
      facts = c.change.new.facts;
      plans = old.plans;
      is_listed = old.is_listed;
      lists = old.lists;
      sessions = old.sessions;
      undo = old.undo;
    } in
    let is : c.from_residual.result ≡ Err c.in_err-facts.field-0.0 = search rules in
    subst (λ result. OnErr result (IsListed c.args.command.now new)) (sym is)
    (still_listed c.args.command.now old new c.requires.listed
    (ap (λ (r : Relations). let x : State = record { relations = r; seats = old.plans.entries } in x)
    c.in_err-facts.ensures.same)
    (subst (λ (r : Relations). AreListsOf r old.lists) (sym c.in_err-facts.ensures.same) c.requires.listed.lists) refl)

pub returns-in-Err-clause-listed : goal.returns-in-Err-clause-listed
returns-in-Err-clause-listed c =
    let old : Part = c.args.part.now in
    let new : Part = record {
      facts = c.take_back.new.facts;
      plans = old.plans;
      is_listed = old.is_listed;
      lists = c.settled.new.lists;
      sessions = old.sessions;
      undo = old.undo;
    } in
    let same : relations_of new.facts ≡ relations_of old.facts = c.take_back.ensures ∙ c.in_ok-facts.ensures.back.1 in
    still_listed c.args.command.now old new c.requires.listed
    (ap (λ (r : Relations). let x : State = record { relations = r; seats = old.plans.entries } in x) same)
    (same_are (relations_of new.facts) old.lists new.lists c.in-Err.ensures.same
    (subst (λ (r : Relations). AreListsOf r old.lists) (sym same) c.requires.listed.lists)) refl

pub returns-in-Err-clause-step : goal.returns-in-Err-clause-step
returns-in-Err-clause-step c = λ office after good up agrees put.
    let old : Part = c.args.part.now in
    refused_back c.args.today office (part_state old) after good up c.args.command.now c.in-Err.refusal agrees
    (subst (λ (r : Relations). IsPutBack c.args.command.now office
    (record { relations = r; seats = old.plans.entries }) after)
    (c.take_back.ensures ∙ c.in_ok-facts.ensures.back.1) put)
    (returns-in-Err-clause-refusal c)
