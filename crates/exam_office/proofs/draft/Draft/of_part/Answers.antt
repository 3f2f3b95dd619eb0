use Rattle.exam_laws.proofs.Making.{refused_office}
use Rattle.exam_office.specs.HeldParts.{part_state}
use Rattle.exam_office.proofs.draft.Draft.of_part.Goals as goal

pub returns-in-Err-clause-refusal : goal.returns-in-Err-clause-refusal
returns-in-Err-clause-refusal c =
    refused_office c.args.command.now c.args.today c.args.office
    (part_state c.in_ok-part.part) c.in-Err.refusal c.in_ok-part.ensures.agrees
    c.in-Err.ensures.refusal
