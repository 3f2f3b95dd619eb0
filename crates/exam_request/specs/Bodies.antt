-- The bodies that show a candidate their own rows: members come in rising byte order of their names.
use Rattle.std.specs.Prelude.{ℕ, List, [], ◌∷◌, Option, Some, None, codes, map}
use Rattle.std.specs.List.{flat_map}
use Rattle.exam_commands.specs.Appeals.{state_of}
use Rattle.exam_rules.specs.Relations.{Code}
use Rattle.exam_rules.specs.declared.rows.Status.{Status}
use Rattle.exam_rules.specs.declared.rows.Status.TheVariants as status
use Rattle.exam_types.specs.Days.{day_text}
use Rattle.exam_types.specs.Features.{features_text}
use Rattle.exam_types.specs.Numbers.{minute_text}
use Rattle.exam_commands.specs.declared.own.OwnAppeal.{OwnAppeal}
use Rattle.exam_request.specs.Json.{Object, flag, list_body, number, or_null, text}
use Rattle.exam_commands.specs.Own.{OwnRows, OwnSessionRow}
use Rattle.exam_request.specs.declared.own_bodies.MissedPaper.{MissedPaper}
use Rattle.exam_request.specs.declared.own_bodies.Page.{Page}
use Rattle.exam_request.specs.declared.own_bodies.Page.TheVariants as page
use Rattle.exam_commands.specs.Words.{kind_word, state_word, subject_text}

-- ---- seats

-- a session of the candidate, with their place in it
unfoldable pub seat_object : OwnSessionRow → Object
seat_object own =
    (codes "date", text (day_text own.day))
    ∷ (codes "desk", or_null number own.desk)
    ∷ (codes "extra", number own.arrangement.extra)
    ∷ (codes "finish", text (minute_text own.finish))
    ∷ (codes "hall", or_null text own.hall)
    ∷ (codes "needs", text (features_text own.arrangement.needs))
    ∷ (codes "paper", text own.sitting)
    ∷ (codes "session", text own.session)
    ∷ (codes "start", text (minute_text own.start))
    ∷ []

-- all of the candidate's sessions, by code
abbrev pub seats_body : OwnRows → List ℕ
seats_body own = list_body (codes "seats") (map seat_object own.sessions)

-- ---- clashes

-- a live paper that the candidate does not sit, its session, and the paper that they sit there
unfoldable pub clash_object : MissedPaper → Object
clash_object missed =
    (codes "paper", text missed.paper)
    ∷ (codes "session", text missed.session)
    ∷ (codes "sitting", text missed.sitting)
    ∷ []

-- a paper that the candidate does not sit in a session
abbrev pub missed_paper : OwnSessionRow → Code → MissedPaper
missed_paper own paper = record { paper = paper; session = own.session; sitting = own.sitting }

-- the papers that the candidate does not sit in a session, by code
abbrev pub missed_in : OwnSessionRow → List MissedPaper
missed_in own = map (missed_paper own) own.clashes

-- all such papers, by session and paper
abbrev pub missed_papers : OwnRows → List MissedPaper
missed_papers own = flat_map missed_in own.sessions

-- all that the candidate does not sit, by session and paper
abbrev pub clashes_body : OwnRows → List ℕ
clashes_body own = list_body (codes "clashes") (map clash_object (missed_papers own))

-- ---- appeals

-- the reason of the decision, if there was one
abbrev pub decision_reason : Status → Option (List ℕ)
decision_reason status.Pending = None
decision_reason (status.Granted answer) = Some answer
decision_reason (status.Refused answer) = Some answer
decision_reason status.Retracted = None
decision_reason (status.Superseded answer) = Some answer

-- an appeal under its reference, and whether it bears the mark of a standing grant
unfoldable pub appeal_object : OwnAppeal → Object
appeal_object own =
    (codes "answer", or_null text (decision_reason own.appeal.status))
    ∷ (codes "kind", text (kind_word own.appeal.subject))
    ∷ (codes "lodged", text (day_text own.appeal.lodged))
    ∷ (codes "reason", text own.appeal.reason)
    ∷ (codes "ref", text own.reference)
    ∷ (codes "session", text own.appeal.session)
    ∷ (codes "standing", flag own.standing)
    ∷ (codes "state", text (state_word (state_of own.appeal.status)))
    ∷ (codes "subject", text (subject_text own.appeal.subject))
    ∷ []

-- all of the candidate's appeals, by reference
abbrev pub appeals_body : OwnRows → List ℕ
appeals_body own = list_body (codes "appeals") (map appeal_object own.appeals)

-- ---- a page

-- the body of each page
abbrev pub page_body : Page → OwnRows → List ℕ
page_body page.Seats own = seats_body own
page_body page.Clashes own = clashes_body own
page_body page.Appeals own = appeals_body own
