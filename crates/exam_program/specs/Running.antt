-- What a command line comes to over an open database: its result, both outputs, and the database afterwards.
use Rattle.std.specs.Prelude.{◌≡◌, ◌⊎◌, ℕ, List, [], ◌∷◌, Option, Some, None, Result, Ok, Err, IfErr}
use Rattle.sqlite.specs.Held.{Held, state}
use Rattle.sqlite.specs.State.{State}
use Rattle.sqlite_trees.specs.declared.store.Store.{Ghosts}
use Rattle.exam_types.specs.declared.refusal.Refusal.{Refusal}
use Rattle.exam_rules.specs.Relations.{Code}
use Rattle.exam_commands.specs.Headline.{IsSeated}
use Rattle.exam_commands.specs.State.{State as Office}
use Rattle.exam_line.specs.Lines.{Job, Said}
use Rattle.exam_line.specs.Lines as line
use Rattle.exam_tables.specs.Transactions.{IsSound}
use Rattle.exam_store.specs.Kept.{IsKept}
use Rattle.exam_store.specs.Stores.{OfficeIn}
use Rattle.exam_http.specs.Serving.{ServedOn, http_fault_number}
use Rattle.exam_http.specs.declared.serving.HttpFault.{HttpFault}
use Rattle.exam_job.specs.Jobs.{DoesJob}
use Rattle.exam_job.specs.Migrations.{PrintsMigration}
use Rattle.exam_job.specs.Printed.{Contents, IsTold, Prints, connection_fault_text, ready_text, serving_text}
use Rattle.exam_job.specs.declared.report.JobFault.{JobFault}
use Rattle.exam_job.specs.declared.report.JobFault.TheVariants.{Net, Refused}
use Rattle.exam_program.specs.Checking.{Checks, status_of}
use Rattle.exam_program.specs.Opening.{HasTables, IsNotOpened, OpensFor}

-- ---- over an open office

-- what a connection leaves on standard error: nothing, or the line of its fault, or not all of that line
abbrev pub TellsEnd : {E : Type 0} → Contents E → Result (Unit {0}) HttpFault → E → E → Type 0
TellsEnd errors (Ok done) before after = after ≡ before
TellsEnd errors (Err fault) before after =
    IsTold errors (connection_fault_text (http_fault_number fault)) before after

-- A connection ended: the store changed as if at most one request had asked for it on this day, and at most one line
-- was told.
abbrev pub EndsOne : {S E : Type 0} → Ghosts S → Contents E → ℕ → OfficeIn S → E → OfficeIn S → E → Type 0
EndsOne g errors today old untold new told =
    (end : Result (Unit {0}) HttpFault) × ServedOn g today old new × TellsEnd errors end untold told

-- connections ended so, one after the other
abbrev pub EndInTurn : {S E : Type 0} → Ghosts S → Contents E → ℕ → OfficeIn S → E → List (Result (Unit {0}) HttpFault)
    → OfficeIn S → E → Type 0
EndInTurn g errors today old untold [] new told = (new ≡ old) × (told ≡ untold)
EndInTurn {S} {E} g errors today old untold (end ∷ rest) new told =
    (between : OfficeIn S) × (mid : E) × ServedOn g today old between × TellsEnd errors end untold mid
    × EndInTurn g errors today between mid rest new told

-- some connections ended in turn, and nothing else changed the store or told anything
abbrev pub AreEnded : {S E : Type 0} → Ghosts S → Contents E → ℕ → OfficeIn S → E → OfficeIn S → E → Type 0
AreEnded g errors today old untold new told =
    (ends : List (Result (Unit {0}) HttpFault)) × EndInTurn g errors today old untold ends new told

-- what serving ends in after its line: nothing, unless the network failed; or the fault of that line
abbrev pub ServesAfter : {S E : Type 0} → Ghosts S → Contents E → ℕ → OfficeIn S → E → Result (Unit {0}) JobFault
    → Result (Unit {0}) JobFault → OfficeIn S → E → Type 0
ServesAfter g errors today old untold (Ok printed) result new told =
    IfErr result (λ fault. fault ≡ Net) × AreEnded g errors today old untold new told
ServesAfter g errors today old untold (Err fault) result new told =
    (result ≡ Err fault) × (new ≡ old) × (told ≡ untold)

-- The port cannot be bound, and nothing is printed. Or it is bound, a line says so, and requests are answered.
abbrev pub ServesOn : {S O E : Type 0} → Ghosts S → Contents O → Contents E → ℕ → ℕ → OfficeIn S → O → E
    → Result (Unit {0}) JobFault → OfficeIn S → O → E → Type 0
ServesOn g contents errors port today old before untold result new after told =
    ((result ≡ Err Net) × (new ≡ old) × (after ≡ before) × (told ≡ untold))
    ⊎ ((printed : Result (Unit {0}) JobFault) × Prints contents (serving_text port) before printed after
    × ServesAfter g errors today old untold printed result new told)

-- what a job does over an open office: `init` prints that it is ready; an import, on the bytes of some file
abbrev pub CarriesOut : {S O E : Type 0} → Ghosts S → Contents O → Contents E → Job → ℕ → OfficeIn S → O → E
    → Result (Unit {0}) JobFault → OfficeIn S → O → E → Type 0
CarriesOut g contents errors line.init today old before untold result new after told =
    (told ≡ untold) × (new ≡ old) × Prints contents ready_text before result after
CarriesOut g contents errors (line.serve port) today old before untold result new after told =
    ServesOn g contents errors port today old before untold result new after told
CarriesOut g contents errors job today old before untold result new after told =
    (told ≡ untold)
    × ((input : Option (List ℕ)) × (rest : Option (List ℕ))
    × DoesJob g contents job today input rest old before result new after)

-- ---- over an open database

-- The connection sees what is committed, which has the tables that the job needs.
abbrev pub IsReady : Job → State → Type 0
IsReady job s = (s.committed ≡ s.now) × HasTables job s.now

-- The office in a database is opened, or `init` makes one. The line is carried out over it, and every session is seated
-- as promised afterwards.
pub record RunsOver {S O E : Type 0} (g : Ghosts S) (contents : Contents O) (errors : Contents E) (said : Said)
    (was : Held S) (before : O) (untold : E) (result : Result (Unit {0}) JobFault) (now : Held S) (office : Office)
    (after : O) (told : E) : Type 0 where
  pub first : OfficeIn S
  pub opened : OpensFor said.job (state g was) (state g first.database) first.office
  pub last : OfficeIn S
  pub ends : (last.office ≡ office) × (last.database ≡ now)
  pub done : CarriesOut g contents errors said.job said.today first before untold result last after told
  pub seated : (s : Code) → IsSeated office s
  -- The tables keep the one office before the line and the other after it, both committed, if the disk has returned
  -- what was written and the connection is open in the end.
  pub kept : IsReady said.job (state g was) → IsSound (state g now)
      → IsKept (state g first.database) first.office × IsKept (state g now) office

-- no office is opened, and nothing is printed
abbrev pub IsRefused : {S O E : Type 0} → Ghosts S → Job → Held S → O → E → Result (Unit {0}) JobFault → Held S → O → E
    → Type 0
IsRefused g job was before untold result now after told =
    (refusal : Refusal) × IsNotOpened g job was refusal now × (result ≡ Err (Refused refusal)) × (after ≡ before)
    × (told ≡ untold)

-- A line that needs an office, and the office that is in the database in the end, if one was opened.
abbrev pub RunsOpened : {S O E : Type 0} → Ghosts S → Contents O → Contents E → Said → Held S → O → E
    → Result (Unit {0}) JobFault → Held S → Option Office → O → E → Type 0
RunsOpened g contents errors said was before untold result now None after told =
    IsRefused g said.job was before untold result now after told
RunsOpened g contents errors said was before untold result now (Some office) after told =
    RunsOver g contents errors said was before untold result now office after told

-- What a line comes to over a database, by its job: `migrate` and `check` open no office.
abbrev pub RunsOn : {S O E : Type 0} → Ghosts S → Contents O → Contents E → Said → Job → Held S → O → E
    → Result ℕ JobFault → Held S → Option Office → O → E → Type 0
RunsOn g contents errors said line.migrate was before untold result now office after told =
    (told ≡ untold) × (office ≡ None)
    × ((done : Result (Unit {0}) JobFault) × PrintsMigration g contents was before done now after
    × (result ≡ status_of 0 done))
RunsOn g contents errors said line.check was before untold result now office after told =
    (told ≡ untold) × (office ≡ None) × Checks g contents was before result now after
RunsOn g contents errors said job was before untold result now office after told =
    (done : Result (Unit {0}) JobFault) × RunsOpened g contents errors said was before untold done now office after told
    × (result ≡ status_of 0 done)
