-- Below the candidate at hand all who sit are in the table. A tally never passes the number of candidates.
use Rattle.exam_plan.proofs.Words.{plan_at}
use Rattle.std.proofs.Common.{◌∙◌, arith}
use Rattle.exam_plan.proofs.Steps.{sits_below}
use Rattle.exam_plan.proofs.TurnLemmas.{seated_at}
use Rattle.exam_plan.proofs.Tables.{one_in, none_in, fitting_count-le}
use Rattle.exam_plan.proofs.onward.Onward.note.Goals as goal
use Rattle.exam_plan.proofs.onward.Onward.note.Goals.{in-Some, in_default}

pub enter-requires-clause-room : goal.enter-requires-clause-room
enter-requires-clause-room c k =
    let sits = seated_at c.args.plan.now.items c.loop-candidate.candidate c.index.result.now
    (omega (
      arith,
      c.loop-candidate-test.true,
      c.candidate_count-candidate-end.ensures.count,
      c.requires.plan.whole,
    )) c.index.ensures ∙ c.in-Some.is in
    let below = sits_below c.args.problem.now c.args.plan.now.items c.requires.plan c.loop-candidate.candidate
    c.in-Some.hall sits in
    let are = c.loop-candidate.invariant.tallies c.in-Some.hall k below in
    let few = fitting_count-le c.args.problem.now
    (plan_at c.args.plan.now.items) c.in-Some.hall k c.loop-candidate.candidate in
    omega (arith, are, few, c.loop-candidate-test.true, c.candidate_count-candidate-end.ensures.count)

pub loop-candidate-preserved : goal.loop-candidate-preserved
loop-candidate-preserved c =
    let sits = seated_at c.args.plan.now.items c.loop-candidate.candidate c.index.result.now
    (omega (
      arith,
      c.loop-candidate-test.true,
      c.candidate_count-candidate-end.ensures.count,
      c.requires.plan.whole,
    )) c.index.ensures in
    elim c.match-index.branch [
      | in-Some w ↦ rw w.self-is
          (one_in c.args.problem.now
          (plan_at c.args.plan.now.items) c.loop-candidate.self w.enter.new.self c.loop-candidate.candidate
          w.in-Some.hall c.loop-candidate.invariant (sits ∙ w.in-Some.is) w.enter.ensures)
      | in_default w ↦ rw w.self-is
          (none_in c.args.problem.now
          (plan_at c.args.plan.now.items) c.loop-candidate.self c.loop-candidate.candidate c.loop-candidate.invariant
          (sits ∙ w.in_default.is))
    ]
