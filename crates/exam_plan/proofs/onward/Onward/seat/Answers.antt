-- With a table that is noted, a candidate who sat leaves it and then enters it anew: it is the table of the plan with
-- that one place changed. Without one nothing has to agree.
use Rattle.exam_plan.proofs.Words.{plan_at}
use Rattle.std.proofs.Common.{◌<◌, length, set, Some, ap, ◌∙◌, arith}
use Rattle.exam_plan.proofs.Steps.{sits_below}
use Rattle.exam_plan.specs.declared.onward.Onward.{Onward}
use Rattle.exam_plan.proofs.TurnLemmas.{seated_at}
use Rattle.exam_plan.proofs.Tables.{noted_table, kept_table, blank_table, seated_in, moved_in, fits_counted}
use Rattle.exam_plan.proofs.Tables.{fitting_count-le}
use Rattle.exam_plan.proofs.onward.Onward.seat.Goals as goal
use Rattle.exam_plan.proofs.onward.Onward.seat.Goals.{then-self, in-Some, in_default, else-self}

pub leave-requires-clause-inside : goal.leave-requires-clause-inside
leave-requires-clause-inside c k fit =
    let t = noted_table c.args.problem.now
    (plan_at c.args.plan.now.items) c.args.self.now c.requires.kept c.if-self.true in
    let sits = seated_at c.args.plan.now.items c.args.candidate c.index.result.now
    (omega (arith, c.requires.candidate, c.requires.plan.whole)) c.index.ensures ∙ c.in-Some.is in
    let below = sits_below c.args.problem.now c.args.plan.now.items c.requires.plan c.args.candidate c.in-Some.from
    sits in
    let are = t.tallies c.in-Some.from k below in
    let some = fits_counted c.args.problem.now (plan_at c.args.plan.now.items) c.in-Some.from k
    (length c.args.problem.now.fit) c.args.candidate c.requires.candidate sits fit in
    omega (arith, are, some)

pub enter-requires-clause-room : goal.enter-requires-clause-room
enter-requires-clause-room c k =
    let t = noted_table c.args.problem.now
    (plan_at c.args.plan.now.items) c.args.self.now c.requires.kept c.if-self.true in
    let are = t.tallies c.args.hall k c.requires.hall in
    let few = fitting_count-le c.args.problem.now (plan_at c.args.plan.now.items) c.args.hall k
    (length c.args.problem.now.fit) in
    elim c.match-index.branch [
      | in-Some w ↦ rw w.self-is
          (let less = w.leave.ensures.less c.args.hall k c.requires.hall in omega (arith, are, few, less))
      | in_default w ↦ rw w.self-is (omega (arith, are, few))
    ]

pub returns-clause-kept : goal.returns-clause-kept
returns-clause-kept c =
    let inside : c.args.candidate < length c.args.plan.now.items =
    omega (arith, c.requires.candidate, c.requires.plan.whole) in
    elim c.if-self.branch [
      | then-self w ↦ (
          let t = noted_table c.args.problem.now
          (plan_at c.args.plan.now.items) c.args.self.now c.requires.kept w.if-self.true in
          let sits = seated_at c.args.plan.now.items c.args.candidate w.index.result.now inside w.index.ensures in
          rw w.self-is (elim w.match-index.branch [
            | in-Some v ↦ kept_table c.args.problem.now
                (plan_at (set c.args.plan.now.items c.args.candidate (Some c.args.hall))) w.enter.new.self
                (moved_in c.args.problem.now c.args.plan.now.items
                (length c.args.problem.now.fit) c.args.candidate c.args.hall c.requires.candidate inside
                c.args.self.now v.leave.new.self w.enter.new.self v.in-Some.from
                (sits ∙ v.in-Some.is) t v.leave.ensures
                (rw v.self-is at w.enter.ensures))
                (w.enter.ensures.noted ∙ ap (λ (s : Onward). s.is_noted) v.self-is ∙ v.leave.ensures.noted
                ∙ w.if-self.true)
            | in_default v ↦ kept_table c.args.problem.now
                (plan_at (set c.args.plan.now.items c.args.candidate (Some c.args.hall))) w.enter.new.self
                (seated_in c.args.problem.now c.args.plan.now.items
                (length c.args.problem.now.fit) c.args.candidate c.args.hall c.requires.candidate inside
                c.args.self.now w.enter.new.self (sits ∙ v.in_default.is) t (rw v.self-is at w.enter.ensures))
                (w.enter.ensures.noted ∙ ap (λ (s : Onward). s.is_noted) v.self-is ∙ w.if-self.true)
          ]))
      | else-self w ↦ rw w.self-is
          (blank_table c.args.problem.now (plan_at c.args.plan.now.items)
          (plan_at (set c.args.plan.now.items c.args.candidate (Some c.args.hall))) c.args.self.now c.requires.kept
          w.if-self.false)
    ]
