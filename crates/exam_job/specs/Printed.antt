-- The lines that the program prints.
use Rattle.std.specs.Prelude.{◌≡◌, ◌==◌, ◌⊎◌, ℕ, List, if◌then◌else◌, ◌++◌, Option, Result, Ok, Err, codes}
use Rattle.std.specs.Prelude.{string_bytes}
use Rattle.std.specs.Fmt.{decimal}
use Rattle.std.specs.Io.KnownBytes.{Appends, Keeps}
use Rattle.exam_types.specs.Days.{day_text}
use Rattle.exam_types.specs.Refusals.{refusal_number}
use Rattle.exam_types.specs.declared.refusal.Refusal.{Refusal}
use Rattle.exam_types.specs.declared.refusal.Refusal.TheVariants.{BadRow, NoMemory, PastClosing, RowConflict}
use Rattle.exam_commands.specs.Words.{state_word}
use Rattle.exam_commands.specs.declared.command.AppealState.{AppealState}
use Rattle.exam_commands.specs.declared.command.Reply.{Reply}
use Rattle.exam_commands.specs.declared.command.Reply.TheVariants as reply
use Rattle.exam_files.specs.Places.{hall_word}
use Rattle.exam_files.specs.declared.sheet_fault.SheetFault.{SheetFault}
use Rattle.exam_files.specs.declared.sheet_fault.SheetFault.TheVariants as sheet
use Rattle.exam_line.specs.declared.line.LineFault.{LineFault}
use Rattle.exam_line.specs.declared.line.LineFault.TheVariants as line
use Rattle.exam_tables.specs.Versions.{version}
use Rattle.exam_send.specs.Sending.{AppendsBeginning, AppendsPart}
use Rattle.exam_job.specs.declared.report.JobFault.{JobFault}
use Rattle.exam_job.specs.declared.report.JobFault.TheVariants as fault

-- ---- their texts

abbrev pub imported_text : ℕ → ℕ → ℕ → List ℕ
imported_text added changed same =
    codes "added " ++ decimal added ++ codes " changed " ++ decimal changed ++ codes " same " ++ decimal same
    ++ codes "\n"

abbrev pub lodged_text : AppealState → List ℕ
lodged_text state = codes "lodged " ++ state_word state ++ codes "\n"

abbrev pub decided_text : AppealState → Option (List ℕ) → ℕ → List ℕ
decided_text state seat moved =
    codes "decided " ++ state_word state ++ codes " hall " ++ hall_word seat ++ codes " moved " ++ decimal moved
    ++ codes "\n"

-- the line for an accepted command
abbrev pub reply_text : Reply → List ℕ
reply_text (reply.Imported added changed same) = imported_text added changed same
reply_text reply.Withdrawn = codes "withdrawn\n"
reply_text reply.Reinstated = codes "reinstated\n"
reply_text reply.Closed = codes "closed\n"
reply_text (reply.Lodged state) = lodged_text state
reply_text reply.Retracted = codes "retracted\n"
reply_text (reply.Decided state seat moved) = decided_text state seat moved
reply_text reply.Unchanged = codes "unchanged\n"

abbrev pub bad_row_text : ℕ → ℕ → List ℕ
bad_row_text place column =
    codes "refused 1 record " ++ decimal place ++ codes " column " ++ decimal column ++ codes "\n"

abbrev pub row_conflict_text : ℕ → List ℕ
row_conflict_text place = codes "refused 3 record " ++ decimal place ++ codes "\n"

abbrev pub past_closing_text : ℕ → List ℕ
past_closing_text day = codes "refused 13 last day " ++ day_text day ++ codes "\n"

abbrev pub number_text : ℕ → List ℕ
number_text number = codes "refused " ++ decimal number ++ codes "\n"

-- the line for a refusal: its number, and what it carries
abbrev pub refusal_text : Refusal → List ℕ
refusal_text (BadRow place column) = bad_row_text place column
refusal_text (RowConflict place) = row_conflict_text place
refusal_text (PastClosing day) = past_closing_text day
refusal_text other = number_text (refusal_number other)

-- the line for a fault
abbrev pub fault_text : JobFault → List ℕ
fault_text (fault.Refused refusal) = refusal_text refusal
fault_text fault.File = codes "file fault\n"
fault_text fault.Write = codes "write fault\n"
fault_text fault.Net = codes "net fault\n"

-- the line for an office that was opened or made
abbrev pub ready_text : List ℕ
ready_text = codes "ready\n"

-- the line for an office that has the version already
abbrev pub already_text : ℕ → List ℕ
already_text version = codes "already " ++ decimal version ++ codes "\n"

-- the line for an office that was of one version and now is of another, or of the same one
abbrev pub migration_text : ℕ → ℕ → List ℕ
migration_text before after =
    if before == after then already_text after
    else codes "migrated " ++ decimal before ++ codes " to " ++ decimal after ++ codes "\n"

-- the line that is printed once the port is bound
abbrev pub serving_text : ℕ → List ℕ
serving_text port = codes "serving 127.0.0.1 " ++ decimal port ++ codes "\n"

-- the line for a connection that ended in the fault with this number
abbrev pub connection_fault_text : ℕ → List ℕ
connection_fault_text number = codes "fault " ++ decimal number ++ codes "\n"

-- the version of the program, and that of its tables
abbrev pub version_text : List ℕ
version_text = codes "examoffice 1.1.0, tables of version " ++ decimal version ++ codes "\n"

-- the line for words that are not understood
abbrev pub not_understood_text : List ℕ
not_understood_text = codes "line not understood\n"

-- ---- what is written

-- the fault of a sheet that was not written
abbrev pub fault_of : SheetFault → JobFault
fault_of (sheet.Refused refusal) = fault.Refused refusal
fault_of sheet.Write = fault.Write

-- a line on standard output: the whole line, or a beginning of it if the writer fails
abbrev pub Prints : {W : Type 0} → (W → Option (List ℕ)) → List ℕ → W → Result (Unit {0}) JobFault → W → Type 0
Prints contents text before (Ok done) after = Appends (contents before) (contents after) text
Prints contents text before (Err fault.Write) after = AppendsBeginning (contents before) (contents after) text
Prints contents text before (Err (fault.Refused refusal)) after = ⊥
Prints contents text before (Err fault.File) after = ⊥
Prints contents text before (Err fault.Net) after = ⊥

-- nothing is added
abbrev pub Flushes : {W : Type 0} → (W → Option (List ℕ)) → W → Result (Unit {0}) JobFault → W → Type 0
Flushes contents before (Ok done) after = Keeps (contents before) (contents after)
Flushes contents before (Err failed) after =
    (failed ≡ fault.Write) × Keeps (contents before) (contents after)

-- a line on standard error: all of it, or not all if that writer fails
abbrev pub IsTold : {W : Type 0} → (W → Option (List ℕ)) → List ℕ → W → W → Type 0
IsTold contents line before after =
    Appends (contents before) (contents after) line ⊎ AppendsPart (contents before) (contents after) line

-- the exit status, and what standard error has: nothing new, or the fault's line
abbrev pub Reports : {W : Type 0} → (W → Option (List ℕ)) → Result (Unit {0}) JobFault → W → ℕ → W → Type 0
Reports contents (Ok done) before status after = (status ≡ 0) × (after ≡ before)
Reports contents (Err failed) before status after =
    (status ≡ 1) × IsTold contents (fault_text failed) before after

-- what a writer of this type has taken, if that is known
abbrev pub Contents : Type 0 → Type 0
Contents W = W → Option (List ℕ)

-- the exit status of a request, whose text goes to standard output; a fault is reported like any other
abbrev pub ReportsText : {O E : Type 0} → Contents O → Contents E → List ℕ → O → E → ℕ → O → E → Type 0
ReportsText contents errors text before untold status after told =
    (result : Result (Unit {0}) JobFault) × Prints contents text before result after
    × Reports errors result untold status told

-- the exit status of words that are no line, and what is printed for them
abbrev pub ReportsNoLine : {O E : Type 0} → Contents O → Contents E → LineFault → O → E → ℕ → O → E → Type 0
ReportsNoLine contents errors (line.Help text) before untold status after told =
    ReportsText contents errors (string_bytes text) before untold status after told
ReportsNoLine contents errors line.Version before untold status after told =
    ReportsText contents errors version_text before untold status after told
ReportsNoLine contents errors line.NotUnderstood before untold status after told =
    (after ≡ before) × (status ≡ 2) × IsTold errors not_understood_text untold told
ReportsNoLine contents errors line.NoMemory before untold status after told =
    (after ≡ before) × Reports errors (Err (fault.Refused NoMemory)) untold status told
