-- The database that keeps an office.
use Rattle.std.specs.Prelude.{◌≡◌, ◌↔◌, ℕ}
use Rattle.sqlite_trees.specs.Tree.{Trees}
use Rattle.sqlite.specs.Effect.{Database}
use Rattle.sqlite.specs.State.{State, HasCleanDisk}
use Rattle.exam_commands.specs.State.{State as Office}
use Rattle.exam_tables.specs.Forms as forms
use Rattle.exam_tables.specs.Held.{HasRows, HoldsFacts}
use Rattle.exam_tables.specs.Inside.{Contains, IsOurs}
use Rattle.exam_tables.specs.Versions.{ContainsOf, HasVersion, version}

-- each table of facts has the rows of its relation, and the table of seats those of the plans
pub record HoldsOffice (all : Trees) (office : Office) : Type 0 where
  pub facts : HoldsFacts all office.relations
  pub seats : HasRows forms.seats office.seats all

-- the tables have the rows of the office, in any order, and the newest version
pub record Keeps (db : Database) (office : Office) : Type 0 where
  pub all : Trees
  pub contains : Contains db all
  pub version : HasVersion version all
  pub held : HoldsOffice all office

-- the tables of the version with this number have the rows of the office, and that number
pub record KeepsIn (v : ℕ) (db : Database) (office : Office) : Type 0 where
  pub all : Trees
  pub contains : ContainsOf v db all
  pub version : HasVersion v all
  pub held : HoldsOffice all office

-- a database that keeps the one office becomes one that keeps the other
abbrev pub Rekeeps : Office → Office → Database → Database → Type 0
Rekeeps before after old new = Keeps old before → Keeps new after

-- the tables that are seen keep the office, and are committed
abbrev pub IsKept : State → Office → Type 0
IsKept s office = Keeps s.now office × (s.committed ≡ s.now)

-- the tables that are seen keep the office, if they are ours
abbrev pub KeepsOurs : State → Office → Type 0
KeepsOurs s office = HasCleanDisk s → IsOurs s.now → Keeps s.now office

-- the eleven tables exist in both, with the same rows in any order
pub record HaveSameTables (here there : Database) : Type 0 where
  pub ours : IsOurs here
  pub same : (all : Trees) → Contains here all ↔ Contains there all
