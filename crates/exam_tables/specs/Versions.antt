-- The versions of the tables, and a database that was just made.
use Rattle.std.specs.Prelude.{◌≡◌, ◌⊎◌, IsSome, None, Some, Bool, true, false, ℕ, ◌==◌, [], ◌∷◌, IsTrue, Result}
use Rattle.std.specs.Prelude.{OnOk, IfErr, if◌then◌else◌}
use Rattle.sqlite_value.specs.declared.value.Value.TheVariants.{Null}
use Rattle.sqlite_value.specs.Order.{Row}
use Rattle.sqlite_trees.specs.Tree.{Trees, with_tree}
use Rattle.sqlite_schema.specs.declared.schema.Constraint.{Constraint}
use Rattle.sqlite_schema.specs.declared.schema.Schema.{Schema}
use Rattle.sqlite_schema.specs.Rules.{Keeps}
use Rattle.sqlite.specs.Effect.{Database}
use Rattle.sqlite.specs.State.{State, HasCleanDisk, KeepsCommit, Survives}
use Rattle.exam_types.specs.declared.refusal.Refusal.{Refusal}
use Rattle.exam_types.specs.declared.refusal.Refusal.TheVariants.{Store}
use Rattle.exam_sql.specs.Content.{ContainsIn, put}
use Rattle.exam_sql.specs.Made.{ContainsMade, made_schema}
use Rattle.exam_sql.specs.Tables.{no_schema, first_schema, store_schema}
use Rattle.exam_tables.specs.Faults.{is_store_refusal}
use Rattle.exam_tables.specs.Inside.{Contains, FailsFor}
use Rattle.exam_tables.specs.Stored.{whole}
use Rattle.exam_tables.specs.declared.version.Limits.{Limits}
use Rattle.exam_tables.specs.declared.version.Version.{Version}

-- ---- the versions that there have been

-- what the tables of an older version could hold
abbrev pub older_limits : Limits
older_limits = record { openings = 128; greatest_sum = 31 }

abbrev pub first : Version
first = record { number = 1; has_marks = false; limits = Some older_limits }

abbrev pub second : Version
second = record { number = 2; has_marks = true; limits = Some older_limits }

-- that of a new database, which may hold what an office may hold
abbrev pub newest : Version
newest = record { number = 3; has_marks = true; limits = None }

-- what belongs to the version with this number
abbrev pub version_at : ℕ → Version
version_at v = if v == 1 then first else (if v == 2 then second else newest)

-- the number of the newest version
abbrev pub version : ℕ
version = newest.number

-- the numbers of the older versions
abbrev pub IsOlder : ℕ → Type 0
IsOlder v = (v ≡ 1) ⊎ (v ≡ 2)

-- the numbers of all versions
abbrev pub IsVersion : ℕ → Type 0
IsVersion v = IsOlder v ⊎ (v ≡ version)

-- one of the versions
abbrev pub IsKnown : Version → Type 0
IsKnown v = IsVersion v.number × (v ≡ version_at v.number)

-- ---- their tables

-- the row of the table `office`, as a query shows it
abbrev pub version_row : ℕ → Row
version_row v = whole 1 ∷ whole v ∷ []

-- the table `office` has the row of this version and no other
abbrev pub HasVersion : ℕ → Trees → Type 0
HasVersion v all = all 0 ≡ (Null ∷ version_row v) ∷ []

-- the row of the newest version, and no row in any other table
abbrev pub new_tables : Trees
new_tables tree = if tree == 0 then (Null ∷ version_row version) ∷ [] else []

-- no table, no index and no view
abbrev pub IsBlank : Database → Type 0
IsBlank db = db.schema ≡ no_schema

-- the tables of the schema, with no rows
abbrev pub HasNoRows : Schema → Database → Type 0
HasNoRows schema db = ContainsIn schema db (λ tree. [])

-- the tables with no row but the version
abbrev pub IsMade : Database → Type 0
IsMade db = Contains db new_tables

-- Why the tables are not made: there is no memory, a call of the disk failed, the connection was shut, or it limits the
-- steps of its statements.
abbrev pub FailsToMake : State → State → Refusal → Type 0
FailsToMake old new = FailsFor (IsSome old.step_limit) old new

-- Why nothing is created: the tables are not made, or a transaction is under way.
abbrev pub FailsToCreate : State → State → Refusal → Type 0
FailsToCreate old new e = FailsToMake old new e ⊎ ((e ≡ Store) × IsTrue old.in_transaction)

-- what a call does inside a transaction that turns databases of one kind into those of another
pub record Leads (before after : Database → Type 0) (old new : State)
    (result : Result (Unit {0}) Refusal) : Type 0 where
  -- if it succeeds, the transaction goes on
  pub made : HasCleanDisk new → IsTrue old.in_transaction
      → OnOk result ((before old.now → after new.now) × IsTrue new.in_transaction)
  pub failed : HasCleanDisk new → IsTrue old.in_transaction → before old.now
      → IfErr result (FailsToMake old new)
  -- it commits nothing, whether or not it succeeds
  pub kept : HasCleanDisk new → KeepsCommit old new
  pub survives : Survives old new (λ _. ⊥)
  pub told : IfErr result (λ e. IsTrue (is_store_refusal e))

-- the table of marks exists since version 2
abbrev pub marks_since : ℕ → Bool
marks_since v = (version_at v).has_marks

-- The tables of this version have these rows. In version 1 there are no marks.
abbrev pub ContainsOf : ℕ → Database → Trees → Type 0
ContainsOf v db all = ContainsIn (made_schema (marks_since v)) db all × (marks_since v ≡ false → all 17 ≡ [])

-- ---- from an older version to the newest

-- the tables of version 1 have these rows, and there is no mark
abbrev pub HasFirst : Trees → Database → Type 0
HasFirst all db = ContainsIn first_schema db all × (all 17 ≡ [])

-- the eleven tables have these rows, which obey each rule of the schema if the connection is open
abbrev pub HasRuled : Bool → Trees → Database → Type 0
HasRuled is_open all db =
    Contains db all × (IsTrue is_open → (rule : Constraint) → Keeps rule store_schema db.trees)

-- the tables of an older version have these rows: with the table of marks, or without it
abbrev pub HasOlder : Bool → Bool → Trees → Database → Type 0
HasOlder is_open true = HasRuled is_open
HasOlder is_open false = HasFirst

-- the rows, with the row of the newest version
abbrev pub with_version : Trees → Trees
with_version all = with_tree all 0 (put (1 ∷ []) (Null ∷ version_row version) (all 0))

abbrev pub HasNewest : Trees → Database → Type 0
HasNewest all db = Contains db (with_version all)

-- whatever rows the tables of any version had, those of the newest have the same, with its number
abbrev pub Widens : Database → Database → Type 0
Widens old new = (all : Trees) → ContainsMade old all → HasNewest all new
