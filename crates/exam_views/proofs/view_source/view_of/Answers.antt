-- Each part of the view is read from the same facts, and the stored plan is the plan by indices. So it is the view of
-- that session.
use Rattle.std.proofs.Common.{refl, ap, is_some, map, ◌∙◌}
use Rattle.exam_rules.specs.Relations.{relations_of}
use Rattle.exam_views.specs.Views.{member_of}
use Rattle.exam_commands.proofs.SameSeats.{few_members}
use Rattle.exam_views.proofs.Showing.{places_listed, is_view, is_view_of}
use Rattle.exam_views.proofs.view_source.view_of.Goals as goal

pub returns-clause-ok : goal.returns-clause-ok
returns-clause-ok c =
    is_view_of (relations_of c.args.facts.now) c.args.seats.now.entries c.args.session.now c.in_ok-listed.ensures.lists
    (few_members (relations_of c.args.facts.now) c.requires.good.limits c.args.session.now
    (ap is_some c.requires.known)) (c.requires.good.best c.args.session.now) _ (record {
      code = refl;
      session = c.requires.known;
      hall_codes = c.in_ok-hall_codes.ensures.ok;
      openings = c.in_ok-openings_of.ensures.ok;
      problem = c.in_ok-listed.ensures.ok;
      plan = places_listed
          (relations_of c.args.facts.now) c.args.seats.now.entries c.args.session.now c.deref.result.now
          c.deref-2.result.now c.in_ok-plan.plan.items (c.deref.ensures.value ∙ c.in_ok-listed.ensures.numbers)
          (c.deref-2.ensures.value ∙ c.in_ok-listed.ensures.halls) c.in_ok-plan.ensures.ok;
      papers = c.in_ok-papers_of.ensures.ok;
      clashes = c.in_ok-clashes_of.ensures.ok;
      appeals = c.in_ok-appeals_of.ensures.ok;
      members = c.in_ok-members_of.ensures.ok
          ∙ ap (map (member_of (relations_of c.args.facts.now) c.args.session.now))
          (c.deref-3.ensures.value ∙ c.in_ok-listed.ensures.numbers);
    })

pub invariant_of-result : goal.invariant_of-result
invariant_of-result c =
    is_view (relations_of c.args.facts.now) c.args.seats.now.entries c.args.session.now c.in_ok-listed.ensures.lists
    (few_members (relations_of c.args.facts.now) c.requires.good.limits c.args.session.now
    (ap is_some c.requires.known)) (c.requires.good.best c.args.session.now) _ (record {
      code = refl;
      session = c.requires.known;
      hall_codes = c.in_ok-hall_codes.ensures.ok;
      openings = c.in_ok-openings_of.ensures.ok;
      problem = c.in_ok-listed.ensures.ok;
      plan = places_listed
          (relations_of c.args.facts.now) c.args.seats.now.entries c.args.session.now c.deref.result.now
          c.deref-2.result.now c.in_ok-plan.plan.items (c.deref.ensures.value ∙ c.in_ok-listed.ensures.numbers)
          (c.deref-2.ensures.value ∙ c.in_ok-listed.ensures.halls) c.in_ok-plan.ensures.ok;
      papers = c.in_ok-papers_of.ensures.ok;
      clashes = c.in_ok-clashes_of.ensures.ok;
      appeals = c.in_ok-appeals_of.ensures.ok;
      members = c.in_ok-members_of.ensures.ok
          ∙ ap (map (member_of (relations_of c.args.facts.now) c.args.session.now))
          (c.deref-3.ensures.value ∙ c.in_ok-listed.ensures.numbers);
    })
