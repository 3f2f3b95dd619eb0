use Rattle.exam_rules.proofs.Words.{nat_tests, relations_of, is_paper_of, is_clash}
use Rattle.std.proofs.Common.{◌≡◌, ◌++◌, true, nat_eq, ap, sym, ◌∙◌, arith, rules}
use Rattle.exam_rules.proofs.Turns.{clashes_left, clash_turn, push_step}
use Rattle.exam_rules.proofs.clashing.push_clashes.Goals as goal

pub loop-key-preserved-then-is_clash : goal.loop-key-preserved-then-is_clash
loop-key-preserved-then-is_clash c =
    let of_number : c.next.new.self.0 ≡ c.args.number = c.in-Some.ensures.steps.1 ∙ c.loop-key.invariant.2 in
    let own : nat_eq c.in-Some.key.now.0 c.args.number ≡ true =
    rw (c.in-Some.ensures.steps.2, c.loop-key.invariant.2) (grind (arith, nat_tests)) in
    let of_session : is_paper_of (relations_of c.args.facts.now) c.args.session.now c.in-Some.key.now.1 ≡ true =
    search rules in
    let clash : is_clash c.sitting_by_entries-sat.result c.in-Some.key.now.1 ≡ true = search rules in (
      tt,
      tt,
      of_number,
      push_step c.loop-key.list.items c.push.new.self.items
          (clashes_left (relations_of c.args.facts.now) c.args.session.now c.args.number
          c.sitting_by_entries-sat.result c.next.new.self.1) _ (c.args.number, c.in-Some.key.now.1)
          c.in_ok-push.ensures.items
          (ap (λ t. c.loop-key.list.items ++ t)
          (sym (clash_turn (relations_of c.args.facts.now) c.args.session.now c.args.number
          c.sitting_by_entries-sat.result c.in-Some.key.now c.in-Some.entry.now c.next.new.self.1 own c.if-entry.true
          of_session clash))
          ∙ ap (λ rows. c.loop-key.list.items
          ++ clashes_left (relations_of c.args.facts.now) c.args.session.now c.args.number
          c.sitting_by_entries-sat.result rows) (sym c.in-Some.ensures.steps.0)
          ∙ c.loop-key.invariant.3),
    )
