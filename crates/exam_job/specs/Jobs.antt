-- What a line of the program does to the office in a store, and what it prints.
use Rattle.std.specs.Prelude.{◌≡◌, ◌⊎◌, ℕ, List, Option, Result, Ok, Err}
use Rattle.sqlite_trees.specs.declared.store.Store.{Ghosts}
use Rattle.sqlite.specs.Held.{state}
use Rattle.exam_types.specs.declared.refusal.Refusal.{Refusal}
use Rattle.exam_types.specs.declared.refusal.Refusal.TheVariants.{NoMemory}
use Rattle.exam_commands.specs.declared.command.Command.{Command}
use Rattle.exam_commands.specs.declared.command.Command.TheVariants as command
use Rattle.exam_commands.specs.declared.command.Reply.{Reply}
use Rattle.exam_commands.specs.declared.import_row.Kind.{Kind}
use Rattle.exam_commands.specs.Imports.{ImportRows}
use Rattle.exam_files.specs.ImportFiles.{import_of}
use Rattle.exam_line.specs.Lines.{Job, Said}
use Rattle.exam_line.specs.Lines as line
use Rattle.exam_line.specs.declared.line.Sheet.TheVariants as sheet
use Rattle.exam_send.specs.Given.{Gave}
use Rattle.exam_store.specs.Applied.{IsApplied}
use Rattle.exam_tables.specs.Transactions.{IsSound}
use Rattle.exam_store.specs.Kept.{Rekeeps}
use Rattle.exam_store.specs.Stores.{OfficeIn}
use Rattle.exam_job.specs.Printed.{Prints, Reports, reply_text}
use Rattle.exam_job.specs.Reading.{Reads, most_read}
use Rattle.exam_job.specs.Sheets.{PrintsAppeals, PrintsSheet}
use Rattle.exam_job.specs.declared.report.JobFault.{JobFault}
use Rattle.exam_job.specs.declared.report.JobFault.TheVariants.{File, Refused}

-- nothing was done, because of this fault
abbrev pub Stops : {O W : Type 0} → JobFault → O → W → Result (Unit {0}) JobFault → O → W → Type 0
Stops fault old before result new after = (result ≡ Err fault) × (new ≡ old) × (after ≡ before)

-- ---- commands

-- a command is applied to an office in a database, which keeps the office after it
pub record IsCarriedOut {S : Type 0} (g : Ghosts S) (done : Command) (today : ℕ) (old : OfficeIn S)
    (answered : Result Reply Refusal) (new : OfficeIn S) : Type 0 where
  pub applied : IsApplied g done today old answered new
  pub kept : IsSound (state g new.database)
      → Rekeeps old.office new.office (state g old.database).now (state g new.database).now

-- the reply is printed on standard output; for a refusal nothing is
abbrev pub PrintsReply : {W : Type 0} → (W → Option (List ℕ)) → Result Reply Refusal
    → W → Result (Unit {0}) JobFault → W → Type 0
PrintsReply contents (Ok reply) before result after = Prints contents (reply_text reply) before result after
PrintsReply contents (Err refusal) before result after = (result ≡ Err (Refused refusal)) × (after ≡ before)

-- a command is carried out and its reply printed; or memory ran out before it, and nothing was done
abbrev pub Commands : {S W : Type 0} → Ghosts S → (W → Option (List ℕ)) → Command → ℕ
    → OfficeIn S → W → Result (Unit {0}) JobFault → OfficeIn S → W → Type 0
Commands g contents done today old before result new after =
    Stops (Refused NoMemory) old before result new after
    ⊎ ((answered : Result Reply Refusal) × IsCarriedOut g done today old answered new
    × PrintsReply contents answered before result after)

-- the import that a file denotes is carried out, or its refusal is the answer
abbrev pub Imports : {S W : Type 0} → Ghosts S → (W → Option (List ℕ)) → Result ImportRows Refusal → ℕ
    → OfficeIn S → W → Result (Unit {0}) JobFault → OfficeIn S → W → Type 0
Imports g contents (Ok rows) today old before result new after =
    Commands g contents (command.Import rows) today old before result new after
Imports g contents (Err refusal) today old before result new after = Stops (Refused refusal) old before result new after

-- An import file is read and imported. If a read fails or memory runs out before the command, nothing is done.
pub data ImportsFile {S W : Type 0} (g : Ghosts S) (contents : W → Option (List ℕ)) (kind : Kind) (today : ℕ)
    (input rest : Option (List ℕ)) (old : OfficeIn S) (before : W) (result : Result (Unit {0}) JobFault)
    (new : OfficeIn S) (after : W) : Type 0 where
  denoted : (import : Result ImportRows Refusal) → Gave most_read input rest (λ bytes. import_of kind bytes ≡ import)
      → Imports g contents import today old before result new after
      → ImportsFile g contents kind today input rest old before result new after
  unread : Reads input rest → Stops File old before result new after
      → ImportsFile g contents kind today input rest old before result new after
  short : Reads input rest → Stops (Refused NoMemory) old before result new after
      → ImportsFile g contents kind today input rest old before result new after

-- ---- lines

-- What a line's job does. `init`, `migrate`, `check` and `serve` do nothing here: the program itself does them. Only an
-- import reads the reader.
abbrev pub DoesJob : {S W : Type 0} → Ghosts S → (W → Option (List ℕ)) → Job → ℕ → Option (List ℕ)
    → Option (List ℕ) → OfficeIn S → W → Result (Unit {0}) JobFault → OfficeIn S → W → Type 0
DoesJob g contents (line.import kind file) today input rest old before result new after =
    ImportsFile g contents kind today input rest old before result new after
DoesJob g contents (line.apply done) today input rest old before result new after =
    (rest ≡ input) × Commands g contents done today old before result new after
DoesJob g contents (line.print session sheet.Appeals) today input rest old before result new after =
    (rest ≡ input) × PrintsAppeals g contents session old before result new after
DoesJob g contents (line.print session which) today input rest old before result new after =
    (rest ≡ input) × (new ≡ old) × PrintsSheet contents old.office session which before result after
DoesJob g contents other today input rest old before result new after =
    (rest ≡ input) × (new ≡ old) × (result ≡ Ok tt) × (after ≡ before)

-- a line is carried out and reported
abbrev pub Runs : {S O E : Type 0} → Ghosts S → (O → Option (List ℕ)) → (E → Option (List ℕ)) → Said
    → Option (List ℕ) → Option (List ℕ) → OfficeIn S → O → E → ℕ → OfficeIn S → O → E → Type 0
Runs g contents errors said input rest old before untold status new after told =
    (result : Result (Unit {0}) JobFault)
    × DoesJob g contents said.job said.today input rest old before result new after
    × Reports errors result untold status told
