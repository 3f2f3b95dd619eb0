-- What is printed of a session's sheet.
use Rattle.std.specs.Prelude.{◌≡◌, ◌⊎◌, ⊤, ℕ, true, false, List, Option, Some, None, Result, Ok, Err}
use Rattle.std.specs.Io.KnownBytes.{Appends}
use Rattle.sqlite_trees.specs.declared.store.Store.{Ghosts}
use Rattle.exam_types.specs.declared.refusal.Refusal.{Refusal}
use Rattle.exam_types.specs.declared.refusal.Refusal.TheVariants.{NoMemory, UnknownSession}
use Rattle.exam_rules.specs.declared.rows.Session.{Session}
use Rattle.exam_rules.specs.Relations.{Code, code_cmp, has_row, row_at}
use Rattle.exam_commands.specs.State.{State}
use Rattle.exam_views.specs.Views.{IsShortageOf, Report, ShowsShortage, View}
use Rattle.exam_files.specs.Attendances.{attendance}
use Rattle.exam_files.specs.Clashes.{clash_list}
use Rattle.exam_files.specs.Doors.{door_list}
use Rattle.exam_files.specs.Exports.{seat_export}
use Rattle.exam_files.specs.OfficeSheets.{attendance_of, clash_list_of, door_list_of, export_of, register_of}
use Rattle.exam_files.specs.Registers.{appeal_register}
use Rattle.exam_files.specs.Shortages.{shortage_text}
use Rattle.exam_line.specs.declared.line.Sheet.{Sheet}
use Rattle.exam_line.specs.declared.line.Sheet.TheVariants as sheet
use Rattle.exam_send.specs.Sending.{AppendsBeginning}
use Rattle.exam_store.specs.InTurn.{FailsToRead}
use Rattle.exam_store.specs.OnlyRead.{OnlyIsRead}
use Rattle.exam_store.specs.Stores.{OfficeIn}
use Rattle.exam_job.specs.declared.report.JobFault.{JobFault}
use Rattle.exam_job.specs.declared.report.JobFault.TheVariants.{File, Net, Refused, Write}

-- ---- texts

-- the shortage sheet of a session that exists: a deficiency certificate of exactly its contested candidates
abbrev pub IsShortageSheet : State → Code → Option Session → Result (List ℕ) Refusal → Type 0
IsShortageSheet office s None text = text ≡ Err UnknownSession
IsShortageSheet office s (Some session) text =
    (report : Report) × IsShortageOf office s report × (text ≡ Ok (shortage_text s report))

-- the text of a session's sheet in the office, or why there is none
abbrev pub IsSheetOf : State → Code → Sheet → Result (List ℕ) Refusal → Type 0
IsSheetOf office s (sheet.DoorList hall) text = text ≡ door_list_of office s hall
IsSheetOf office s (sheet.Attendance paper) text = text ≡ attendance_of office s paper
IsSheetOf office s sheet.Clashes text = text ≡ clash_list_of office s
IsSheetOf office s sheet.Shortage text = IsShortageSheet office s (row_at code_cmp office.relations.sessions s) text
IsSheetOf office s sheet.Appeals text = text ≡ register_of office s
IsSheetOf office s sheet.Export text = text ≡ export_of office s

-- the sheet's text by the view of its session
abbrev pub IsSheetOfView : View → Sheet → Result (List ℕ) Refusal → Type 0
IsSheetOfView view (sheet.DoorList hall) text = text ≡ door_list view hall
IsSheetOfView view (sheet.Attendance paper) text = text ≡ attendance view paper
IsSheetOfView view sheet.Clashes text = text ≡ Ok (clash_list view)
IsSheetOfView view sheet.Shortage text =
    (report : Report) × ShowsShortage view report × (text ≡ Ok (shortage_text view.code report))
IsSheetOfView view sheet.Appeals text = text ≡ Ok (appeal_register view)
IsSheetOfView view sheet.Export text = text ≡ Ok (seat_export view)

-- ---- what is written

-- a sheet on standard output: all of it; nothing, if it is refused; or a beginning, if the writer fails
abbrev pub Sends : {W : Type 0} → (W → Option (List ℕ)) → Result (List ℕ) Refusal
    → W → Result (Unit {0}) JobFault → W → Type 0
Sends contents text before (Ok done) after =
    (bytes : List ℕ) × (text ≡ Ok bytes) × Appends (contents before) (contents after) bytes
Sends contents text before (Err (Refused refusal)) after = (text ≡ Err refusal) × (after ≡ before)
Sends contents text before (Err Write) after =
    (bytes : List ℕ) × (text ≡ Ok bytes) × AppendsBeginning (contents before) (contents after) bytes
Sends contents text before (Err File) after = ⊥
Sends contents text before (Err Net) after = ⊥

-- A sheet that is written line by line: all of it; nothing, if it is refused; or a beginning after a fault for which it
-- may break off.
abbrev pub Streams : {W : Type 0} → (JobFault → Type 0) → (W → Option (List ℕ)) → Result (List ℕ) Refusal
    → W → Result (Unit {0}) JobFault → W → Type 0
Streams breaks contents (Ok text) before (Ok done) after = Appends (contents before) (contents after) text
Streams breaks contents (Ok text) before (Err fault) after =
    breaks fault × AppendsBeginning (contents before) (contents after) text
Streams breaks contents (Err refusal) before result after = (result ≡ Err (Refused refusal)) × (after ≡ before)

-- why the appeals break off: one is not read, or a write fails
abbrev pub BreaksOffAppeals : {S : Type 0} → Ghosts S → OfficeIn S → OfficeIn S → JobFault → Type 0
BreaksOffAppeals g old new (Refused e) = FailsToRead g old new e
BreaksOffAppeals g old new Write = ⊤
BreaksOffAppeals g old new File = ⊥
BreaksOffAppeals g old new Net = ⊥

-- memory ran out, and nothing was written
abbrev pub IsShort : {W : Type 0} → W → Result (Unit {0}) JobFault → W → Type 0
IsShort before result after = (result ≡ Err (Refused NoMemory)) × (after ≡ before)

-- a sheet of what is shown of a session
abbrev pub PrintsView : {W : Type 0} → (W → Option (List ℕ)) → View → Sheet
    → W → Result (Unit {0}) JobFault → W → Type 0
PrintsView contents view which before result after =
    IsShort before result after
    ⊎ ((text : Result (List ℕ) Refusal) × IsSheetOfView view which text × Sends contents text before result after)

-- a sheet of the office; or memory ran out, but only if the session exists
abbrev pub PrintsSheet : {W : Type 0} → (W → Option (List ℕ)) → State → Code → Sheet
    → W → Result (Unit {0}) JobFault → W → Type 0
PrintsSheet contents office s which before result after =
    ((has_row code_cmp office.relations.sessions s ≡ true) × IsShort before result after)
    ⊎ ((text : Result (List ℕ) Refusal) × IsSheetOf office s which text × Sends contents text before result after)

-- The appeals of a session, printed as the database shows them, are the office's. The office stays as it is, and the
-- database is only read.
pub record PrintsAppeals {S W : Type 0} (g : Ghosts S) (contents : W → Option (List ℕ)) (s : Code)
    (old : OfficeIn S) (before : W) (result : Result (Unit {0}) JobFault) (new : OfficeIn S) (after : W) : Type 0 where
  pub sheet : Streams (BreaksOffAppeals g old new) contents (register_of old.office s) before result after
  pub unknown : has_row code_cmp old.office.relations.sessions s ≡ false
      → (result ≡ Err (Refused UnknownSession)) × (new ≡ old) × (after ≡ before)
  pub read : OnlyIsRead g old new
