-- What the command `migrate` does, which brings an office of an earlier version to the newest, and what it prints.
use Rattle.std.specs.Prelude.{◌≡◌, ℕ, List, Option, Result, Ok, Err, IfOk, IfErr}
use Rattle.sqlite_trees.specs.declared.store.Store.{Ghosts}
use Rattle.sqlite.specs.Held.{Held, state}
use Rattle.sqlite.specs.State.{HasCleanDisk}
use Rattle.exam_types.specs.declared.refusal.Refusal.{Refusal}
use Rattle.exam_tables.specs.Transactions.{Commits}
use Rattle.exam_tables.specs.Versions.{IsVersion, version}
use Rattle.exam_store.specs.Found.{HadGood, RefusesMigrating, StaysNewest}
use Rattle.exam_store.specs.Found as store
use Rattle.exam_job.specs.Printed.{Prints, migration_text}
use Rattle.exam_job.specs.declared.report.JobFault.{JobFault}
use Rattle.exam_job.specs.declared.report.JobFault.TheVariants.{Refused}

-- What is done with an office of an earlier version or of the newest one. The versions before and after are those of
-- the tables, which held a good office; the database keeps it in the newest version, in one transaction or not at all;
-- over an office of the newest version, or where no office is good, nothing is written; why this is refused.
pub record IsMigrated {S : Type 0} (g : Ghosts S) (old : Held S) (answered : Result (ℕ × ℕ) Refusal) (new : Held S)
    : Type 0 where
  pub versions : IfOk answered (λ v. IsVersion v.0 × (v.1 ≡ version))
  pub found : HasCleanDisk (state g new) → IfOk answered (λ v. HadGood (state g old).now v.0)
  pub newest : IfOk answered (λ v. StaysNewest (state g old) (state g new) v.0)
  pub made : Commits (state g old) (state g new) answered store.Migrates
  pub refused : HasCleanDisk (state g new) → IfErr answered (RefusesMigrating g old new)

-- the versions before and after are printed on standard output; for a refusal nothing is
abbrev pub TellsVersions : {W : Type 0} → (W → Option (List ℕ)) → Result (ℕ × ℕ) Refusal
    → W → Result (Unit {0}) JobFault → W → Type 0
TellsVersions contents (Ok versions) before result after =
    Prints contents (migration_text versions.0 versions.1) before result after
TellsVersions contents (Err refusal) before result after = (result ≡ Err (Refused refusal)) × (after ≡ before)

-- a migration is carried out and its result printed
abbrev pub PrintsMigration : {S W : Type 0} → Ghosts S → (W → Option (List ℕ)) → Held S → W
    → Result (Unit {0}) JobFault → Held S → W → Type 0
PrintsMigration g contents old before result new after =
    (answered : Result (ℕ × ℕ) Refusal) × IsMigrated g old answered new
    × TellsVersions contents answered before result after
