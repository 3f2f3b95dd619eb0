use Rattle.exam_rules.specs.Relations.{relations_of}
use Rattle.exam_commands.proofs.SameSeats.{few_members, few_halls}
use Rattle.exam_views.proofs.Showing.{on_err, memory_alone}
use Rattle.exam_views.proofs.view_source.listed.Goals as goal

pub returns-clause-memory : goal.returns-clause-memory
returns-clause-memory c =
    on_err c.indexed_problem.result _ _
    (memory_alone (relations_of c.args.facts.now) c.args.session.now
    (few_members (relations_of c.args.facts.now) c.requires.limits c.args.session.now c.requires.known)
    (few_halls (relations_of c.args.facts.now) c.requires.limits c.args.session.now c.requires.known))
    c.indexed_problem.ensures.refusal
