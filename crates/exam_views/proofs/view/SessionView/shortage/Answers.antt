-- The indices of the certificate are below the halls and the members of the view. Named by codes and numbers they are
-- the report.
use Rattle.std.proofs.Common.{◌↔◌, ◌∙◌, ℕ, ◌<◌, List, length, map, Contains, ap, sym, subst}
use Rattle.std.specs.List.{All}
use Rattle.exam_plan.specs.Matching.{IsCertificate, IsContested, unseated}
use Rattle.exam_plan.specs.Problems.{seating_of, plan_at}
use Rattle.exam_views.specs.Views.{View, IsView, number_of, hall_with_desks}
use Rattle.exam_views.proofs.Showing.{halls_within, candidates_within}
use Rattle.exam_views.proofs.view.SessionView.shortage.Goals as goal

pub halls_with_desks-requires : goal.halls_with_desks-requires
halls_with_desks-requires c =
    let v : View = c.args.self.now in
    subst (λ (hs : List ℕ). All (λ j. j < length v.openings) hs) (sym c.deref.ensures.value)
    (halls_within v (subst IsView c.self.view_is c.self.invariant) c.in_ok-found.found.candidates.items
    c.in_ok-found.found.halls.items
    (subst (λ (w : View). IsCertificate (seating_of w.problem)
    (plan_at w.plan) c.in_ok-found.found.candidates.items c.in_ok-found.found.halls.items) c.self.view_is
    c.in_ok-found.ensures.certificate))

pub numbers_of-requires : goal.numbers_of-requires
numbers_of-requires c =
    let v : View = c.args.self.now in
    subst (λ (ns : List ℕ). All (λ i. i < length v.members) ns) (sym c.deref-2.ensures.value)
    (candidates_within v
    (subst IsView c.self.view_is c.self.invariant) c.in_ok-found.found.candidates.items
    c.in_ok-found.found.halls.items
    (subst (λ (w : View). IsCertificate (seating_of w.problem)
    (plan_at w.plan) c.in_ok-found.found.candidates.items c.in_ok-found.found.halls.items) c.self.view_is
    c.in_ok-found.ensures.certificate))

pub returns-clause-ok : goal.returns-clause-ok
returns-clause-ok c = record {
  candidates = c.in_ok-found.found.candidates.items;
  halls = c.in_ok-found.found.halls.items;
  certificate = subst (λ (w : View). IsCertificate (seating_of w.problem)
      (plan_at w.plan) c.in_ok-found.found.candidates.items c.in_ok-found.found.halls.items) c.self.view_is
      c.in_ok-found.ensures.certificate;
  contested = subst (λ (w : View). (i : ℕ)
      → Contains c.in_ok-found.found.candidates.items i ↔ IsContested (seating_of w.problem) i) c.self.view_is
      c.in_ok-found.ensures.contested;
  unseated = c.in_ok-found.ensures.unseated
      ∙ ap (λ (w : View). length (unseated (seating_of w.problem) (plan_at w.plan))) c.self.view_is;
  named = c.in_ok-numbers_of.ensures.ok ∙ ap (map (number_of c.args.self.now)) c.deref-2.ensures.value;
  halls_named = c.in_ok-halls_with_desks.ensures.ok ∙ ap (map (hall_with_desks c.args.self.now)) c.deref.ensures.value;
}
