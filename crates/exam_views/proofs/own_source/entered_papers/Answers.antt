use Rattle.std.proofs.Common.{◌≡◌, ◌∙◌, nat_eq, true, Some, arith, rules}
use Rattle.std.proofs.lemmas.Bool.Decides.{nat_tests}
use Rattle.exam_rules.specs.Lists.{entered_session}
use Rattle.exam_rules.specs.Relations.{relations_of}
use Rattle.exam_views.proofs.OwnEntered.{entered_turn}
use Rattle.exam_views.proofs.own_source.entered_papers.Goals as goal

pub loop-key-preserved-in-Continue-1 : goal.loop-key-preserved-in-Continue-1
loop-key-preserved-in-Continue-1 c =
    let of_number : c.next.new.self.0 ≡ c.args.number = c.in-Some.ensures.steps.1 ∙ c.loop-key.invariant.2 in
    let own : nat_eq c.in-Some.key.now.0 c.args.number ≡ true =
    rw (c.in-Some.ensures.steps.2, c.loop-key.invariant.2) (grind (arith, nat_tests)) in
    let entered : entered_session (relations_of c.args.facts.now) c.in-Some.key.now.1 c.in-Some.entry.now
    ≡ Some c.in-Some-entered_session.session = search rules in (
      tt,
      tt,
      of_number,
      entered_turn (relations_of c.args.facts.now) c.args.number c.in-Some.key.now c.in-Some.entry.now
          c.loop-key.key-iterator.1 c.next.new.self.1 own c.in-Some.ensures.steps.0
          c.in-Some-entered_session.session c.loop-key.entered.entries c.append_by_session.new.lists.entries entered
          c.in_ok-append_by_session.ensures.ok c.loop-key.invariant.3,
    )
