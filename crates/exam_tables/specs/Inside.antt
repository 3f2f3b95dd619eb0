-- What a call does inside a transaction.
use Rattle.std.specs.Prelude.{◌≡◌, ◌⊎◌, ℕ, List, [], ◌∷◌, ◌++◌, IsTrue, Option, Result, Ok, Err, OnOk, IfErr}
use Rattle.sqlite_value.specs.Order.{Row}
use Rattle.sqlite_trees.specs.Tree.{Trees}
use Rattle.sqlite.specs.Effect.{Database}
use Rattle.sqlite.specs.declared.error.Error.{Error}
use Rattle.sqlite.specs.State.{State, HasCleanDisk, KeepsCommit, Survives, Executes, ExecutesInside}
use Rattle.exam_types.specs.declared.refusal.Refusal.{Refusal}
use Rattle.exam_types.specs.declared.refusal.Refusal.TheVariants.{NoMemory, Store}
use Rattle.exam_sql.specs.Refusals.{IsDown, Refuses, RefusesRows, RunsTo}
use Rattle.exam_sql.specs.Tables.{store_schema}
use Rattle.exam_sql.specs.Changes.{with_row, without_row}
use Rattle.exam_sql.specs.Content.{ContainsIn}
use Rattle.exam_tables.specs.Faults.{is_store_refusal, refusal_of}

-- the eleven tables have these rows
abbrev pub Contains : Database → Trees → Type 0
Contains = ContainsIn store_schema

-- the eleven tables exist, with any rows
abbrev pub IsOurs : Database → Type 0
IsOurs db = (all : Trees) × Contains db all

-- a statement with its parameters, and what it makes of the rows
pub record Write : Type 0 where
  pub sql : List ℕ
  pub params : Row
  pub change : Trees → Trees

abbrev pub put_of : List ℕ → ℕ → List ℕ → Row → Write
put_of sql tree key row = record { sql = sql; params = row; change = with_row tree key row }

abbrev pub delete_of : List ℕ → ℕ → List ℕ → Row → Write
delete_of sql tree key row = record { sql = sql; params = row; change = without_row tree key row }

-- the rows after the writes in turn
abbrev pub written : List Write → Trees → Trees
written [] all = all
written (w ∷ more) all = written more (w.change all)

-- the new database has the rows of the old one, with the writes made
abbrev pub Becomes : List Write → Database → Database → Type 0
Becomes writes old new = (all : Trees) → Contains old all → Contains new (written writes all)

-- the database after the writes in turn, each run within that limit of steps
abbrev pub AreRun : Option ℕ → List Write → Database → Database → Type 0
AreRun limit [] old new = new ≡ old
AreRun limit (w ∷ more) old new = (mid : Database) × RunsTo limit w.sql w.params old mid × AreRun limit more mid new

-- the database, after the first writes, refuses the next one
abbrev pub RefusesOne : List Write → Option ℕ → Database → Type 0
RefusesOne writes limit db =
    (done : List Write) × (next : Write) × (rest : List Write) × (writes ≡ done ++ next ∷ rest)
    × (at : Database) × AreRun limit done db at × Becomes done db at × Refuses limit at next.sql next.params

-- the database refuses one of the writes while it writes that one's rows, so no foreign key is the reason
abbrev pub RefusesOneRow : List Write → Option ℕ → Database → Type 0
RefusesOneRow writes limit db =
    (done : List Write) × (next : Write) × (rest : List Write) × (writes ≡ done ++ next ∷ rest)
    × (at : Database) × AreRun limit done db at × Becomes done db at × RefusesRows limit at next.sql next.params

-- Why a change is not made: there is no memory, a call of the disk failed, the connection was shut, or this is the
-- reason.
abbrev pub FailsFor : Type 0 → State → State → Refusal → Type 0
FailsFor Against old new e = (e ≡ NoMemory) ⊎ ((e ≡ Store) × (IsDown old new ⊎ Against))

-- why the writes are not made: the database may refuse one of them
abbrev pub FailsToWrite : List Write → State → State → Refusal → Type 0
FailsToWrite writes old new = FailsFor (RefusesOne writes old.step_limit old.now) old new

-- what running a statement does
pub record Runs (sql : List ℕ) (params : Row) (old new : State) (result : Result (Unit {0}) Refusal) : Type 0 where
  pub ran : HasCleanDisk new → IsTrue old.in_transaction
      → OnOk result ((count : ℕ) × Executes sql params old new (Ok count) × IsTrue new.in_transaction)
  -- a refusal reports the error that the database gave
  pub failed : HasCleanDisk new → IsTrue old.in_transaction → IfErr result (λ e. (error : Error)
      × (e ≡ refusal_of error) × ExecutesInside 0 sql params old new (Err error))
  -- it commits nothing, whether or not it succeeds
  pub kept : HasCleanDisk new → KeepsCommit old new
  pub survives : Survives old new (λ _. ⊥)
  pub told : IfErr result (λ e. IsTrue (is_store_refusal e))

pub record Makes (old new : State) (result : Result (Unit {0}) Refusal) (writes : List Write) : Type 0 where
  -- if it succeeds, the writes are made and the transaction goes on
  pub made : HasCleanDisk new → IsTrue old.in_transaction
      → OnOk result (Becomes writes old.now new.now × IsTrue new.in_transaction)
  -- if it succeeds, each of them was run
  pub ran : HasCleanDisk new → IsTrue old.in_transaction → IsOurs old.now
      → OnOk result (AreRun old.step_limit writes old.now new.now)
  pub failed : HasCleanDisk new → IsTrue old.in_transaction → IsOurs old.now
      → IfErr result (FailsToWrite writes old new)
  -- it commits nothing, whether or not it succeeds
  pub kept : HasCleanDisk new → KeepsCommit old new
  pub survives : Survives old new (λ _. ⊥)
  pub told : IfErr result (λ e. IsTrue (is_store_refusal e))
