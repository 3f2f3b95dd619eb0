use Rattle.exam_laws.proofs.OwnRetracting.{same_retraction_refusal, same_retraction_answer}
use Rattle.exam_laws.proofs.OwnView.{same_retraction_view}
use Rattle.exam_laws.proofs.own_laws.own_rows_decide_a_retraction.Goals as goal

pub returns-clause-refusal : goal.returns-clause-refusal
returns-clause-refusal c number reference one other good sound same =
    same_retraction_refusal one other number reference good sound same

pub returns-clause-answer : goal.returns-clause-answer
returns-clause-answer c number reference day later one other one_after other_after first second good sound same =
    same_retraction_answer one other one_after other_after number reference day later first second good sound same

pub returns-clause-shown : goal.returns-clause-shown
returns-clause-shown c number reference day later one other one_after other_after first second good up sound rise
    up_after rise_after same =
    same_retraction_view one other one_after other_after number reference day later first second good up sound rise
    up_after rise_after same
