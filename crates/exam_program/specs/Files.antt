-- What the files of a database hold after a command line was carried out over it and it was closed.
use Rattle.std.specs.Prelude.{◌≡◌, ◌⊎◌, ℕ, List, [], ◌∷◌, Option, None, Some, ⊤, Result, Ok, Err, IsTrue}
use Rattle.sqlite_disk.specs.declared.Disk as disk
use Rattle.sqlite_disk.specs.declared.Files.{Files}
use Rattle.sqlite_wal.specs.Files.{outcomes}
use Rattle.sqlite_wal.specs.Reads.{AreClean}
use Rattle.sqlite_wal.specs.Recovery.{Image}
use Rattle.sqlite_trees.specs.View.{IsClean}
use Rattle.sqlite_store.specs.FileStore.{view}
use Rattle.sqlite_store.specs.declared.store.FileStore.{FileStore}
use Rattle.sqlite.specs.Closing.{HoldsAlone, IsCopied}
use Rattle.sqlite.specs.Effect.{Database, IsDatabase}
use Rattle.sqlite.specs.Files.{FailsToClose, Finds, IsClosed, IsOpened, file_state, image_of, over_files}
use Rattle.sqlite.specs.Held.{Held}
use Rattle.sqlite.specs.declared.error.Error.{Error}
use Rattle.exam_commands.specs.State.{State as Office}
use Rattle.exam_line.specs.Lines.{Job, Said}
use Rattle.exam_line.specs.Lines as line
use Rattle.exam_tables.specs.Versions.{IsVersion, version}
use Rattle.exam_store.specs.Kept.{Keeps, KeepsIn}
use Rattle.exam_job.specs.Printed.{Contents}
use Rattle.exam_job.specs.declared.report.JobFault.{JobFault}
use Rattle.exam_program.specs.Running.{IsReady, RunsOn}

-- The files hold a database of which this is so, and the database file holds it with no log. So does each pair of
-- files that a crash may leave of them.
pub record Hold {D : Type 0} (g : disk.Ghosts D) (IsSo : Database → Type 0) (files : Files D) : Type 0 where
  pub db : Database
  pub keeps : IsSo db
  pub sound : IsDatabase db
  pub seen : HoldsAlone (image_of g files) db.trees
  pub left : (image : Image) → outcomes g files.log files.db image → HoldsAlone image db.trees

-- the tables in the files keep the office
abbrev pub HoldOffice : {D : Type 0} → disk.Ghosts D → Files D → Office → Type 0
HoldOffice g files office = Hold g (λ db. Keeps db office) files

-- the tables in the files keep the office in the version with this number
abbrev pub HoldOfficeIn : {D : Type 0} → disk.Ghosts D → ℕ → Files D → Office → Type 0
HoldOfficeIn g v files office = Hold g (λ db. KeepsIn v db office) files

-- what was closed: the two files, or why it could not be closed, with what is left
abbrev pub Closed : (D : Type 0) → disk.Ghosts D → Type 0
Closed D g = Result (Files D) (Error × FileStore D g)

-- The files that come back can be used. If their disks have returned what was written, they hold what this connection
-- had committed, and the database file holds it alone. If the connection could not be closed, a crash leaves nothing
-- new.
abbrev pub Closes : {D : Type 0} {g : disk.Ghosts D} → Held (FileStore D g) → Closed D g → Type 0
Closes {D} {g} now (Ok files) =
    (IsTrue (g.is_usable files.log) × IsTrue (g.is_usable files.db))
    × (AreClean g files.log files.db → IsCopied now files)
Closes now (Err e) = IsClosed now e.1 × (IsClean (view e.1) → FailsToClose now e.1 e.0)

-- Where no office was opened, the files hold the one that the tables kept, in its version: `check` and a line that is
-- refused leave it as it is. `migrate` brings it to the newest version if it answers, and otherwise may have done so.
abbrev pub HoldStill : {D : Type 0} → disk.Ghosts D → Job → Result ℕ JobFault → ℕ → Files D → Office → Type 0
HoldStill g line.migrate (Ok status) v files office = HoldOfficeIn g version files office
HoldStill g line.migrate (Err fault) v files office =
    HoldOfficeIn g v files office ⊎ HoldOfficeIn g version files office
HoldStill g job result v files office = HoldOfficeIn g v files office

-- What the files hold that come back, if their disks have returned what was written: the office after the line, if the
-- database had the tables that the job needs; or, where none was opened, the office that the tables kept, if the
-- connection saw what was committed.
abbrev pub HoldsAfter : {D : Type 0} {g : disk.Ghosts D} → Job → Held (FileStore D g) → Result ℕ JobFault
    → Option Office → Closed D g → Type 0
HoldsAfter {D} {g} job was result (Some office) (Ok files) =
    AreClean g files.log files.db → IsReady job (file_state was) → HoldOffice g files office
HoldsAfter {D} {g} job was result None (Ok files) =
    AreClean g files.log files.db → (file_state was).committed ≡ (file_state was).now
    → (v : ℕ) → IsVersion v → (office : Office) → KeepsIn v (file_state was).now office
    → HoldStill g job result v files office
HoldsAfter job was result office (Err e) = ⊤

-- What a line comes to over a database in files: what it does over the connection, which is then closed; and what the
-- files that come back hold.
abbrev pub RunsDatabase : {D O E : Type 0} → (g : disk.Ghosts D) → Contents O → Contents E → Said → Held (FileStore D g)
    → O → E → Result ℕ JobFault → Closed D g → O → E → Type 0
RunsDatabase {D} g contents errors said was before untold result closed after told =
    (now : Held (FileStore D g)) × (office : Option Office)
    × RunsOn over_files contents errors said said.job was before untold result now office after told
    × Closes now closed × HoldsAfter said.job was result office closed

-- Files that hold an office show it to the connection that is opened over them, if the disks have returned what was
-- written: it is ready for each job.
abbrev pub ShowTheirOffice : {D : Type 0} → disk.Ghosts D → Type 0
ShowTheirOffice {D} g =
    (files : Files D) (office : Office) (was : Held (FileStore D g)) (job : Job) → HoldOffice g files office
    → Finds files was → IsOpened was → IsReady job (file_state was) × Keeps (file_state was).now office

-- ---- a list of lines

-- Lines are carried out in turn, each over the files that the one before gave back: the connection that is opened over
-- them finds what they hold, the files come back, and their disks have returned what was written.
abbrev pub RunInTurn : {D O E : Type 0} → disk.Ghosts D → Contents O → Contents E → Files D → List Said → Files D
    → Type 0
RunInTurn g contents errors first [] last = last ≡ first
RunInTurn {D} {O} {E} g contents errors first (said ∷ rest) last =
    (was : Held (FileStore D g)) × (before : O) × (untold : E) × (result : Result ℕ JobFault) × (next : Files D)
    × (after : O) × (told : E) × Finds first was × IsOpened was
    × RunsDatabase g contents errors said was before untold result (Ok next) after told
    × AreClean g next.log next.db × RunInTurn g contents errors next rest last

-- An office leads to another over a line. If one was opened, the files held one of the newest version, and hold the one
-- that was opened after the line. If none was, they still hold the one that they held (`HoldStill`).
abbrev pub Leads : {D : Type 0} → disk.Ghosts D → Job → Result ℕ JobFault → ℕ → Office → Option Office → ℕ → Office
    → Files D → Type 0
Leads g job result v office (Some done) w new files =
    (v ≡ version) × (w ≡ version) × (new ≡ done) × HoldOfficeIn g w files new
Leads g job result v office None w new files =
    (new ≡ office) × HoldStill g job result v files office × HoldOfficeIn g w files new

-- An office leads to another over lines in turn. Each line is carried out over a connection whose tables keep the
-- office that the files held, in its version.
abbrev pub LeadsInTurn : {D O E : Type 0} → disk.Ghosts D → Contents O → Contents E → ℕ → Office → List Said → ℕ
    → Office → Files D → Type 0
LeadsInTurn g contents errors v office [] w new last = (w ≡ v) × (new ≡ office) × HoldOfficeIn g w last new
LeadsInTurn {D} {O} {E} g contents errors v office (said ∷ rest) w new last =
    (was : Held (FileStore D g)) × (before : O) × (untold : E) × (result : Result ℕ JobFault)
    × (now : Held (FileStore D g)) × (done : Option Office) × (after : O) × (told : E)
    × KeepsIn v (file_state was).now office
    × RunsOn over_files contents errors said said.job was before untold result now done after told
    × (u : ℕ) × (between : Office) × (files : Files D) × IsVersion u
    × Leads g said.job result v office done u between files
    × LeadsInTurn g contents errors u between rest w new last

-- whatever the lines are, the office that the files hold at first leads to the one that they hold at last
abbrev pub LinesLead : {D O E : Type 0} → disk.Ghosts D → Contents O → Contents E → Type 0
LinesLead {D} {O} {E} g contents errors =
    (first : Files D) (lines : List Said) (last : Files D) (v : ℕ) (office : Office) → IsVersion v
    → HoldOfficeIn g v first office → RunInTurn g contents errors first lines last
    → (w : ℕ) × (new : Office) × IsVersion w × LeadsInTurn g contents errors v office lines w new last
