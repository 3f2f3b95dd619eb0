-- What the command makes of a good office is within every limit, or the command is refused as one too many. The lists
-- of the facts stay.
use Rattle.std.proofs.Common.{sym, ◌∙◌}
use Rattle.exam_rules.specs.Relations.{relations_of}
use Rattle.exam_commands.specs.State.{office_of}
use Rattle.exam_office.proofs.AppealDrafts.{lists_stay, refused_past, was_made}
use Rattle.exam_office.proofs.part_steps.change_within.Goals as goal

pub stays_within-requires-clause-lists : goal.stays_within-requires-clause-lists
stays_within-requires-clause-lists c =
    lists_stay c.args.command.now c.requires.alone c.args.today (office_of c.args.facts.now c.args.seats.now)
    c.requires.good c.requires.order (relations_of c.change.new.facts) c.in_ok-undo.ensures.checked
    c.in_ok-undo.ensures.ok c.args.lists.now c.requires.lists

pub stays_within-requires-clause-made : goal.stays_within-requires-clause-made
stays_within-requires-clause-made c = (
  relations_of c.args.facts.now,
  was_made c.args.command.now c.requires.alone c.args.today (office_of c.args.facts.now c.args.seats.now)
      c.requires.good c.requires.order (relations_of c.change.new.facts) c.in_ok-undo.ensures.checked
      c.in_ok-undo.ensures.ok,
)

pub returns-clause-refusal : goal.returns-clause-refusal
returns-clause-refusal c =
    refused_past c.args.command.now c.requires.alone c.args.today (office_of c.args.facts.now c.args.seats.now)
    c.requires.good c.requires.order (relations_of c.change.new.facts) c.in_ok-undo.ensures.checked
    c.in_ok-undo.ensures.ok (sym c.stays_within.ensures ∙ c.if-stays_within.false)
