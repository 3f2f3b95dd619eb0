-- Below the candidate at hand everybody sits where the hall fits, and from there on as before.
use Rattle.exam_plan.proofs.Words.{seating_of, where_fitting}
use Rattle.std.proofs.Common.{length, None, Some, refl, sym, ◌∙◌, arith}
use Rattle.exam_plan.proofs.KeptLemmas.{below_stays_at, below_out_at, below_all, fitting_stays, fitting_out}
use Rattle.exam_plan.proofs.KeptLemmas.{places_none}
use Rattle.exam_plan.proofs.keeping.put_out_unfit.Goals as goal
use Rattle.exam_plan.proofs.keeping.put_out_unfit.Goals.{in-Some+then-not-fits, in-Some+else-not-fits, in_default}

pub loop-candidate-preserved : goal.loop-candidate-preserved
loop-candidate-preserved c = elim c.match-plan-candidate.branch [
  | in-Some+then-not-fits w ↦ record {
    exist = rw w.plan-is
        (places_none c.loop-candidate.plan
        (length c.args.problem.now.desk_counts) c.loop-candidate.candidate c.loop-candidate.invariant.exist);
    kept = rw w.plan-is (below_out_at
        (where_fitting (seating_of c.args.problem.now)) c.args.plan.now c.loop-candidate.plan
        c.loop-candidate.candidate (Some w.in-Some.hall)
        (omega (arith, c.loop-candidate-test.true, c.loop-candidate.auto.plan)) c.loop-candidate.invariant.kept
        w.in-Some.is
        (fitting_out c.args.problem.now c.loop-candidate.candidate w.in-Some.hall
        (sym w.fits.ensures ∙ w.if-not-fits.true)));
  }
  | in-Some+else-not-fits w ↦ record {
    exist = rw w.plan-is c.loop-candidate.invariant.exist;
    kept = rw w.plan-is (below_stays_at
        (where_fitting (seating_of c.args.problem.now)) c.args.plan.now c.loop-candidate.plan
        c.loop-candidate.candidate (Some w.in-Some.hall) c.loop-candidate.invariant.kept w.in-Some.is
        (fitting_stays c.args.problem.now c.loop-candidate.candidate w.in-Some.hall
        (omega (arith, c.loop-candidate-test.true, c.requires.whole)) (sym w.fits.ensures ∙ w.if-not-fits.false)));
  }
  | in_default w ↦ record {
    exist = rw w.plan-is c.loop-candidate.invariant.exist;
    kept = rw w.plan-is (below_stays_at
        (where_fitting (seating_of c.args.problem.now)) c.args.plan.now c.loop-candidate.plan
        c.loop-candidate.candidate None c.loop-candidate.invariant.kept w.in_default.is refl);
  }
]

pub returns-clause-kept : goal.returns-clause-kept
returns-clause-kept c =
    below_all (where_fitting (seating_of c.args.problem.now)) c.args.plan.now c.loop-candidate.plan
    c.loop-candidate.candidate (λ d. refl) c.loop-candidate-test.false c.loop-candidate.invariant.kept
