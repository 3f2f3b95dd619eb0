use Rattle.std.proofs.Common.{rules, ◌≡◌, length, arith}
use Rattle.exam_base_tests.proofs.TinyProblems.{tiny_problem}
use Rattle.exam_base_tests.proofs.tests.plan.problem_of.Goals as goal

pub new-requires : goal.new-requires
new-requires c =
    let three : length c.in_ok-from_slice.field-0.items ≡ 3 = search rules in
    record {
      problem = tiny_problem c.in_ok-from_slice.field-0.items c.in_ok-rows.rows.items c.in_ok-ranks.ranks.items
          (length c.args.fits.now) three c.in_ok-rows.ensures.count c.requires c.in_ok-ranks.ensures
          c.in_ok-rows.ensures.rising c.in_ok-rows.ensures.exist;
      few_halls = omega (arith, three);
    }
