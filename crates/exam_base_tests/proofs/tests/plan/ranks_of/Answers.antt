use Rattle.std.proofs.Common.{◌∙◌}
use Rattle.exam_base_tests.proofs.TinyProblems.{ranks_more}
use Rattle.exam_base_tests.proofs.tests.plan.ranks_of.Goals as goal

pub loop-rank-preserved : goal.loop-rank-preserved
loop-rank-preserved c =
    c.in_ok-push.ensures.items ∙ ranks_more c.loop-rank.ranks.items c.loop-rank.rank c.loop-rank.invariant
