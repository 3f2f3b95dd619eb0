-- What words come to, from the bytes that the files of a database held to the exit status and both outputs.
use Rattle.std.specs.Prelude.{◌≡◌, ◌⊎◌, ℕ, List, Bool, Some, Result, Ok, Err, IsTrue}
use Rattle.sqlite_disk.specs.declared.Disk as disk
use Rattle.sqlite_wal.specs.Recovery.{Image}
use Rattle.sqlite_store.specs.declared.store.FileStore.{FileStore}
use Rattle.sqlite.specs.Files.{IsOpened, file_state}
use Rattle.sqlite.specs.Held.{Held}
use Rattle.sqlite.specs.Start.{FindsIn}
use Rattle.sqlite.specs.State.{HasCleanDisk}
use Rattle.exam_types.specs.declared.refusal.Refusal.{Refusal}
use Rattle.exam_line.specs.Lines.{Answers, Job, Said, shown}
use Rattle.exam_line.specs.Lines as line
use Rattle.exam_line.specs.declared.line.Line.{Line}
use Rattle.exam_line.specs.declared.line.LineFault.{LineFault}
use Rattle.exam_tables.specs.Faults.{is_store_refusal}
use Rattle.exam_check.specs.Refused.{is_check_refusal}
use Rattle.exam_check.specs.declared.tables.Table.TheVariants.{Office}
use Rattle.exam_job.specs.Printed.{Contents, Reports, ReportsNoLine}
use Rattle.exam_job.specs.declared.report.JobFault.{JobFault}
use Rattle.exam_job.specs.declared.report.JobFault.TheVariants.{Refused}
use Rattle.exam_program.specs.Checking.{TellsTable}
use Rattle.exam_program.specs.Files.{Closed, RunsDatabase}

-- ---- from the bytes of the files

-- no database was opened, for one of these reasons, and nothing was printed
abbrev pub IsUnopened : {O : Type 0} → (Refusal → Bool) → O → Result ℕ JobFault → O → Type 0
IsUnopened may before result after =
    (refusal : Refusal) × IsTrue (may refusal) × (result ≡ Err (Refused refusal)) × (after ≡ before)

-- no database was opened; to `check` that may be a bad office
abbrev pub IsNotReached : {O : Type 0} → Contents O → Job → O → Result ℕ JobFault → O → Type 0
IsNotReached contents line.check before result after =
    TellsTable contents (Some Office) before result after ⊎ IsUnopened is_check_refusal before result after
IsNotReached contents job before result after = IsUnopened is_store_refusal before result after

-- The connection was opened over files that held this, if until then the disks had returned what was written.
pub record IsOver {D : Type 0} {g : disk.Ghosts D} (image : Image) (was : Held (FileStore D g)) : Type 0 where
  pub found : HasCleanDisk (file_state was) → FindsIn image (file_state was)
  pub opened : HasCleanDisk (file_state was) → IsOpened was

-- what a line comes to over files that held this, before its fault is reported
abbrev pub RunsJob : {D O E : Type 0} → disk.Ghosts D → Image → Contents O → Contents E → Said → O → E
    → Result ℕ JobFault → O → E → Type 0
RunsJob {D} g image contents errors said before untold result after told =
    (IsNotReached contents said.job before result after × (told ≡ untold))
    ⊎ ((was : Held (FileStore D g)) × IsOver image was × (closed : Closed D g)
    × RunsDatabase g contents errors said was before untold result closed after told)

-- ---- from the words

-- the exit status, and the line of a fault on standard error
abbrev pub Ends : {E : Type 0} → Contents E → Result ℕ JobFault → E → ℕ → E → Type 0
Ends errors (Ok status) before ended after = (ended ≡ status) × (after ≡ before)
Ends errors (Err fault) before ended after = Reports errors (Err fault) before ended after

-- a line is carried out over the files that it names, and its fault is reported
abbrev pub RunsLine : {D O E : Type 0} → disk.Ghosts D → Image → Contents O → Contents E → Said → O → E → ℕ → O → E
    → Type 0
RunsLine {D} {O} {E} g image contents errors said before untold status after told =
    (result : Result ℕ JobFault) × (mid : E) × RunsJob g image contents errors said before untold result after mid
    × Ends errors result mid status told

-- a line is carried out; or the words say none, and that is reported
abbrev pub RunsParsed : {D O E : Type 0} → disk.Ghosts D → Image → Contents O → Contents E → Result Line LineFault
    → O → E → ℕ → O → E → Type 0
RunsParsed g image contents errors (Ok parsed) before untold status after told =
    RunsLine g image contents errors (shown parsed) before untold status after told
RunsParsed g image contents errors (Err fault) before untold status after told =
    ReportsNoLine contents errors fault before untold status after told

-- what the words themselves come to
abbrev pub RunsWords : {D O E : Type 0} → disk.Ghosts D → Image → Contents O → Contents E → List (List ℕ)
    → O → E → ℕ → O → E → Type 0
RunsWords g image contents errors words before untold status after told =
    (parsed : Result Line LineFault) × Answers parsed words
    × RunsParsed g image contents errors parsed before untold status after told
