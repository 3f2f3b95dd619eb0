use Rattle.exam_program.proofs.Following.{lead}
use Rattle.exam_program.proofs.laws.lines_lead_an_office_on.Goals as goal

pub returns : goal.returns
returns g c = λ first lines last v office is held runs.
    lead g.D.Disk c.one_step_has_one_result.ensures g.O.Write.contents g.E.Write.contents lines first last v office is
    held runs
