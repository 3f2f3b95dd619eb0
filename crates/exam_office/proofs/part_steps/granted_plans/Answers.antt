use Rattle.exam_rules.specs.Relations.{relations_of}
use Rattle.exam_commands.proofs.SameSeats.{few_halls, few_members}
use Rattle.exam_office.proofs.part_steps.granted_plans.Goals as goal

pub repaired_among-requires-clause-few : goal.repaired_among-requires-clause-few
repaired_among-requires-clause-few c = few_members (relations_of c.args.facts.now) c.requires.limits

pub repaired_among-requires-clause-few_halls : goal.repaired_among-requires-clause-few_halls
repaired_among-requires-clause-few_halls c = few_halls (relations_of c.args.facts.now) c.requires.limits
