-- The stored forms of values.
use Rattle.std.specs.Prelude.{ℕ, pos, Bool, IsTrue, List, [], ◌∷◌, Option, Some, None, if◌then◌else◌}
use Rattle.sqlite_value.specs.declared.value.Value.{Value}
use Rattle.sqlite_value.specs.declared.value.Value.TheVariants.{Int, Text}
use Rattle.sqlite_value.specs.Order.{Row}
use Rattle.sqlite.specs.Values.{or_null}
use Rattle.exam_types.specs.Codes.{is_hall_code, is_paper_code}
use Rattle.exam_types.specs.Days.{day_text}
use Rattle.exam_types.specs.Numbers.{IsExtra}
use Rattle.exam_types.specs.Texts.{is_reason}
use Rattle.exam_types.specs.Features.{Features, features_sum}
use Rattle.exam_rules.specs.declared.rows.Subject.{Subject}
use Rattle.exam_rules.specs.declared.rows.Subject.TheVariants.{Hall, Clash, Arrangement}
use Rattle.exam_rules.specs.declared.rows.Status.{Status}
use Rattle.exam_rules.specs.declared.rows.Status.TheVariants.{Pending, Granted, Refused, Retracted, Superseded}

-- any value of this type
abbrev pub IsAny : {V : Type 0} → V → Type 0
IsAny value = Unit {0}

-- a number of minutes, of desks or of a candidate, as a whole number
abbrev pub whole : ℕ → Value
whole n = Int (pos n)

-- no as 0, and yes as 1
abbrev pub flag : Bool → Value
flag b = whole (if b then 1 else 0)

-- a day as its text
abbrev pub day : ℕ → Value
day n = Text (day_text n)

-- a feature set as its sum
abbrev pub features : Features → Value
features f = whole (features_sum f)

-- what an appeal asks for: 1 another hall, 2 to sit a paper, 3 an arrangement
abbrev pub kind_number : Subject → ℕ
kind_number (Hall hall) = 1
kind_number (Clash paper) = 2
kind_number (Arrangement wanted) = 3

-- the code of the hall or the paper, or the empty text for an arrangement
abbrev pub target_of : Subject → List ℕ
target_of (Hall hall) = hall
target_of (Clash paper) = paper
target_of (Arrangement wanted) = []

-- the sum of the needs; 0 if the appeal asks for no arrangement
abbrev pub needs_of : Subject → ℕ
needs_of (Arrangement wanted) = features_sum wanted.needs
needs_of _ = 0

abbrev pub extra_of : Subject → ℕ
extra_of (Arrangement wanted) = wanted.extra
extra_of _ = 0

-- the four columns of what an appeal asks for
abbrev pub subject : Subject → Row
subject s = whole (kind_number s) ∷ Text (target_of s) ∷ whole (needs_of s) ∷ whole (extra_of s) ∷ []

abbrev pub IsSubject : Subject → Type 0
IsSubject (Hall hall) = IsTrue (is_hall_code hall)
IsSubject (Clash paper) = IsTrue (is_paper_code paper)
IsSubject (Arrangement wanted) = IsExtra wanted.extra

-- the state of an appeal: 1 open, 2 granted, 3 refused, 4 retracted, 5 superseded
abbrev pub state_number : Status → ℕ
state_number Pending = 1
state_number (Granted answer) = 2
state_number (Refused answer) = 3
state_number Retracted = 4
state_number (Superseded answer) = 5

-- the reason of its decision, if it was decided
abbrev pub answer_of : Status → Option (List ℕ)
answer_of Pending = None
answer_of (Granted answer) = Some answer
answer_of (Refused answer) = Some answer
answer_of Retracted = None
answer_of (Superseded answer) = Some answer

-- a text, or NULL if there is none
abbrev pub text_or_null : Option (List ℕ) → Value
text_or_null = or_null Text

-- the two columns for the state of an appeal
abbrev pub status : Status → Row
status s = whole (state_number s) ∷ text_or_null (answer_of s) ∷ []

abbrev pub IsAnswer : Option (List ℕ) → Type 0
IsAnswer None = Unit {0}
IsAnswer (Some answer) = IsTrue (is_reason answer)

abbrev pub IsStatus : Status → Type 0
IsStatus s = IsAnswer (answer_of s)
