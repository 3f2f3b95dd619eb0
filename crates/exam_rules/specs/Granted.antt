-- What a candidate's granted appeals give in a session.
use Rattle.std.specs.Prelude.{ℕ, List, Option, filter_map}
use Rattle.exam_rules.specs.declared.rows.Appeal.{Appeal}
pub use Rattle.exam_rules.specs.declared.rows.Subject.{Subject}
use Rattle.exam_rules.specs.Relations.{Code, same_code}
use Rattle.exam_rules.specs.Sessions.{asked_hall, granted_subjects, head_of, option_filter}

-- the first value that a function makes of one of these appeals
abbrev pub first_made : {X : Type 0} → (Subject → Option X) → List ((ℕ × Code) × Appeal) → Code → ℕ → Option X
first_made made appeals s c = head_of (filter_map made (granted_subjects appeals s c))

-- the hall that the appeal bars, if it is this one
abbrev pub barred_by : Code → Subject → Option Code
barred_by h wanted = option_filter (same_code h) (asked_hall wanted)
