-- The words for the kinds, the states and the subjects of appeals.
use Rattle.std.specs.Prelude.{ℕ, List, ◌++◌, codes, decimal}
use Rattle.exam_commands.specs.declared.command.AppealState.{AppealState}
use Rattle.exam_commands.specs.declared.command.AppealState.TheVariants as state
use Rattle.exam_rules.specs.declared.rows.Arrangement.{Arrangement}
use Rattle.exam_rules.specs.declared.rows.Subject.{Subject}
use Rattle.exam_rules.specs.declared.rows.Subject.TheVariants as subject
use Rattle.exam_types.specs.Features.{features_text}

-- what an appeal asks for
abbrev pub kind_word : Subject → List ℕ
kind_word (subject.Hall hall) = codes "hall"
kind_word (subject.Clash paper) = codes "clash"
kind_word (subject.Arrangement asked) = codes "arrangement"

-- the state of an appeal
abbrev pub state_word : AppealState → List ℕ
state_word state.Pending = codes "open"
state_word state.Granted = codes "granted"
state_word state.Refused = codes "refused"
state_word state.Retracted = codes "retracted"
state_word state.Superseded = codes "superseded"

-- the needs, a space and the extra time
abbrev pub arrangement_text : Arrangement → List ℕ
arrangement_text asked = features_text asked.needs ++ (codes " " ++ decimal asked.extra)

-- what an appeal asks for: the hall, the paper, or the needs and the extra time
abbrev pub subject_text : Subject → List ℕ
subject_text (subject.Hall hall) = hall
subject_text (subject.Clash paper) = paper
subject_text (subject.Arrangement asked) = arrangement_text asked
