-- What the command `check` finds and prints, which looks for the first bad table.
use Rattle.std.specs.Prelude.{◌≡◌, ℕ, List, Option, None, Some, Result, Ok, Err, IsTrue, IfOk, IfErr}
use Rattle.sqlite.specs.Held.{Held, state}
use Rattle.sqlite.specs.State.{HasCleanDisk, Survives}
use Rattle.sqlite_trees.specs.declared.store.Store.{Ghosts}
use Rattle.exam_types.specs.declared.refusal.Refusal.{Refusal}
use Rattle.exam_tables.specs.Loaded.{OnlyReads}
use Rattle.exam_check.specs.FirstBad.{FindsBad}
use Rattle.exam_check.specs.Lines.{check_text}
use Rattle.exam_check.specs.Refused.{FailsToCheck, is_check_refusal}
use Rattle.exam_check.specs.declared.tables.Table.{Table}
use Rattle.exam_job.specs.Printed.{Prints}
use Rattle.exam_job.specs.declared.report.JobFault.{JobFault}
use Rattle.exam_job.specs.declared.report.JobFault.TheVariants.{Refused}

-- 0 if there is none
abbrev pub check_status : Option Table → ℕ
check_status None = 0
check_status (Some t) = 1

-- the exit status, if the line was printed
abbrev pub status_of : ℕ → Result (Unit {0}) JobFault → Result ℕ JobFault
status_of status (Ok done) = Ok status
status_of status (Err fault) = Err fault

-- the line for the table, or for none, and the exit status
abbrev pub TellsTable : {W : Type 0} → (W → Option (List ℕ)) → Option Table → W → Result ℕ JobFault → W → Type 0
TellsTable contents found before result after =
    (printed : Result (Unit {0}) JobFault) × Prints contents (check_text found) before printed after
    × (result ≡ status_of (check_status found) printed)

-- This is the first bad table of the database, which is of no older version, or it is refused for this reason. The
-- database is only read.
pub record IsChecked {S : Type 0} (g : Ghosts S) (was : Held S) (answered : Result (Option Table) Refusal)
    (now : Held S) : Type 0 where
  pub found : HasCleanDisk (state g now) → IfOk answered (FindsBad (state g was).now)
  pub told : IfErr answered (λ e. IsTrue (is_check_refusal e))
  pub refusal : HasCleanDisk (state g now) → IfErr answered (FailsToCheck g was now)
  pub left : HasCleanDisk (state g now) → OnlyReads (state g was) (state g now) answered
  pub survives : Survives (state g was) (state g now) (λ _. ⊥)

-- the line for what was found is printed; for a refusal nothing is
abbrev pub TellsFound : {W : Type 0} → (W → Option (List ℕ)) → Result (Option Table) Refusal → W → Result ℕ JobFault
    → W → Type 0
TellsFound contents (Ok found) before result after = TellsTable contents found before result after
TellsFound contents (Err refusal) before result after = (result ≡ Err (Refused refusal)) × (after ≡ before)

-- a database is checked, and what was found is printed
abbrev pub Checks : {S W : Type 0} → Ghosts S → (W → Option (List ℕ)) → Held S → W → Result ℕ JobFault → Held S → W
    → Type 0
Checks g contents was before result now after =
    (answered : Result (Option Table) Refusal) × IsChecked g was answered now
    × TellsFound contents answered before result after
