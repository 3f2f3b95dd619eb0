use Rattle.exam_laws.proofs.OwnLodging.{same_lodging_refusal, same_lodging_answer}
use Rattle.exam_laws.proofs.OwnView.{same_lodging_view}
use Rattle.exam_laws.proofs.own_laws.own_rows_decide_a_lodging.Goals as goal

pub returns-clause-refusal : goal.returns-clause-refusal
returns-clause-refusal c lodging day one other good up sound rise same =
    same_lodging_refusal one other day lodging good up sound rise same

pub returns-clause-answer : goal.returns-clause-answer
returns-clause-answer c lodging day one other one_after other_after first second good up sound rise same =
    same_lodging_answer one other one_after other_after day lodging first second good up sound rise same

pub returns-clause-shown : goal.returns-clause-shown
returns-clause-shown c lodging day one other one_after other_after first second good up sound rise up_after rise_after
    same =
    same_lodging_view one other one_after other_after day lodging first second good up sound rise up_after rise_after
    same
