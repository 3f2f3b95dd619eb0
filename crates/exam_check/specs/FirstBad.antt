-- The first bad table of a database.
use Rattle.std.specs.Prelude.{◌≡◌, ◌≢◌, ◌⊎◌, IsTrue, List, [], ◌∷◌, Option, None, Some, option_map}
use Rattle.sqlite_trees.specs.Tree.{Trees}
use Rattle.sqlite.specs.Effect.{Database}
use Rattle.sqlite.specs.State.{State as Shown, HasCleanDisk}
use Rattle.exam_commands.specs.Good.{IsTableGood, tables}
use Rattle.exam_commands.specs.State.{State}
use Rattle.exam_commands.specs.declared.table.Table.{Table as OfficeTable}
use Rattle.exam_commands.specs.declared.table.Table.TheVariants as office
use Rattle.exam_sql.specs.Made.{ContainsMade, lists_newest}
use Rattle.exam_sql.specs.Texts.{load_texts}
use Rattle.exam_tables.specs.Forms as forms
use Rattle.exam_tables.specs.Held.{HasTable}
use Rattle.exam_tables.specs.Loaded.{AreUnderstood}
use Rattle.exam_tables.specs.Versions.{ContainsOf, HasVersion, version}
use Rattle.exam_store.specs.Found.{Finds, IsNoOlder}
use Rattle.exam_check.specs.declared.tables.Table.{Table}
use Rattle.exam_check.specs.declared.tables.Table.TheVariants as table

-- the rows of this table, in any order, are those of the office, each in its stored form
abbrev pub HoldsTableOf : Trees → State → OfficeTable → Type 0
HoldsTableOf all o office.Sessions = HasTable forms.sessions o.relations.sessions all
HoldsTableOf all o office.Papers = HasTable forms.papers o.relations.papers all
HoldsTableOf all o office.Halls = HasTable forms.halls o.relations.halls all
HoldsTableOf all o office.Openings = HasTable forms.openings o.relations.openings all
HoldsTableOf all o office.Candidates = HasTable forms.candidates o.relations.candidates all
HoldsTableOf all o office.Entries = HasTable forms.entries o.relations.entries all
HoldsTableOf all o office.Arrangements = HasTable forms.arrangements o.relations.arrangements all
HoldsTableOf all o office.Appeals = HasTable forms.appeals o.relations.appeals all
HoldsTableOf all o office.Standing = HasTable forms.standing o.relations.standing all
HoldsTableOf all o office.Seats = HasTable forms.seats o.seats all

-- no office has these rows in this table: one has no stored form, or two have the same key
abbrev pub HoldsNoTable : Trees → OfficeTable → Type 0
HoldsNoTable all t = (o : State) → HoldsTableOf all o t → ⊥

-- What is found when these tables are checked in order: the first whose rows no office has, or that is not good beside
-- the tables before it; or none. Only the tables that were checked so far say anything about the office.
abbrev pub IsFirstBadIn : Trees → State → List OfficeTable → Option OfficeTable → Type 0
IsFirstBadIn all o [] found = found ≡ None
IsFirstBadIn all o (t ∷ ts) found =
    ((HoldsNoTable all t ⊎ (HoldsTableOf all o t × (IsTableGood o t → ⊥))) × (found ≡ Some t))
    ⊎ (HoldsTableOf all o t × IsTableGood o t × IsFirstBadIn all o ts found)

-- The tables are those of the newest version, and the table `office` has its number and no other row.
abbrev pub HasGoodVersion : Database → Trees → Type 0
HasGoodVersion db all = ContainsOf version db all × HasVersion version all

-- the first bad table of a database with these rows, or none
abbrev pub IsFirstBadTable : Database → Trees → Option Table → Type 0
IsFirstBadTable db all found =
    ((HasGoodVersion db all → ⊥) × (found ≡ Some table.Office))
    ⊎ (HasGoodVersion db all × (o : State) × (bad : Option OfficeTable)
    × IsFirstBadIn all o tables bad × (found ≡ option_map table.Of bad))

-- This was found, in a database of no older version. It is the first bad table, whichever rows the tables have.
pub record FindsBad (db : Database) (found : Option Table) : Type 0 where
  pub bad : (all : Trees) → ContainsMade db all → IsFirstBadTable db all found
  -- unless it is `office`, no column is missing, and each of the eleven names is that of a table
  pub understood : (found ≡ Some table.Office) ⊎ AreUnderstood db load_texts
  pub listed : (found ≡ Some table.Office) ⊎ IsTrue (lists_newest db.schema)
  pub newest : IsNoOlder db

-- ---- beside what opening finds

-- the tables have these rows, if each of the eleven names is that of a table
abbrev pub ContainsIfListed : Database → Trees → Type 0
ContainsIfListed db all = IsTrue (lists_newest db.schema) → ContainsMade db all

-- nothing is opened, and the first bad table is `office`
abbrev pub OpensNothing : Shown → Shown → State → Trees → Option Table → Type 0
OpensNothing old new office all found =
    (HasCleanDisk new → Finds old new office → ⊥)
    × (IsFirstBadTable old.now all found → found ≡ Some table.Office)

-- ---- of those that could be read and those that could not

-- The first of these tables whose rows no office has, or none. The office has the rows of those before it.
abbrev pub IsFirstUnread : Trees → State → List OfficeTable → Option OfficeTable → Type 0
IsFirstUnread all o [] unread = unread ≡ None
IsFirstUnread all o (t ∷ ts) unread =
    (HoldsNoTable all t × (unread ≡ Some t)) ⊎ (HoldsTableOf all o t × IsFirstUnread all o ts unread)

-- the first of these tables that is one of the two, or none
abbrev pub IsFirstOf : List OfficeTable → Option OfficeTable → Option OfficeTable → Option OfficeTable → Type 0
IsFirstOf [] one other first = first ≡ None
IsFirstOf (t ∷ ts) one other first =
    (((one ≡ Some t) ⊎ (other ≡ Some t)) × (first ≡ Some t))
    ⊎ ((one ≢ Some t) × (other ≢ Some t) × IsFirstOf ts one other first)
