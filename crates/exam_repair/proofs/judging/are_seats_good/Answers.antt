use Rattle.std.proofs.Common.{None, subst, rules}
use Rattle.std.proofs.Math.Path.{fun_ext}
use Rattle.exam_plan.specs.Matching.{IsBest}
use Rattle.exam_rules.specs.Relations.{relations_of}
use Rattle.exam_rules.specs.Seatings.{seating, plan_of}
use Rattle.exam_commands.proofs.SameSeats.{few_within, few_halls_within}
use Rattle.exam_commands.proofs.Staying.{best_stays}
use Rattle.exam_repair.proofs.ChosenSessions.{all_chosen}
use Rattle.exam_repair.proofs.judging.are_seats_good.Goals as goal

pub repaired_among-requires-clause-few : goal.repaired_among-requires-clause-few
repaired_among-requires-clause-few c = few_within (relations_of c.args.facts.now) c.requires.few

pub repaired_among-requires-clause-few_halls : goal.repaired_among-requires-clause-few_halls
repaired_among-requires-clause-few_halls c = few_halls_within (relations_of c.args.facts.now) c.requires.few_halls

pub returns-clause-ok : goal.returns-clause-ok
returns-clause-ok c =
    let all = all_chosen
    (relations_of c.args.facts.now) None c.args.seats.now.entries c.in_ok-repaired.repaired.entries
    c.deref.result.now (search rules) c.in_ok-repaired.ensures.ok in (
      λ e s. subst (IsBest (seating (relations_of c.args.facts.now) s)) (fun_ext (c.same_seats.ensures.0 e s))
          (all s).best,
      λ best. c.same_seats.ensures.1
          (λ s. best_stays (relations_of c.args.facts.now) s (c.requires.lists.rising s) None
          (plan_of c.args.seats.now.entries s) (plan_of c.in_ok-repaired.repaired.entries s) (best s)
          (all s).repair),
    )
