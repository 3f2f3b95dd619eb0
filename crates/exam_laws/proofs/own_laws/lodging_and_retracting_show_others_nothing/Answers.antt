use Rattle.exam_laws.proofs.OwnView.{lodging_shows_others, retraction_shows_others}
use Rattle.exam_laws.proofs.own_laws.lodging_and_retracting_show_others_nothing.Goals as goal

pub returns-clause-lodging : goal.returns-clause-lodging
returns-clause-lodging c lodging day number before after answer good up up_after another step =
    lodging_shows_others before day lodging good after answer up up_after step number another

pub returns-clause-retracting : goal.returns-clause-retracting
returns-clause-retracting c appellant reference day number before after answer good up up_after another step =
    retraction_shows_others before appellant reference good day after answer up up_after step number another
