use Rattle.exam_plan.proofs.chains.+advance.Given as goal

abbrev pub decreases-advance : goal.decreases-advance
decreases-advance l = l.hops
