-- How each table is stored: one description of each of the ten tables.
use Rattle.std.specs.Prelude.{ℕ, List, [], ◌∷◌, map}
use Rattle.std.specs.Borrow.{Bor}
use Rattle.std.specs.List.{Contains}
use Rattle.std.specs.declared.cmp.Ordering.{Ordering}
use Rattle.std.specs.Ordering.{nat_cmp}
use Rattle.sqlite_value.specs.declared.value.Value.TheVariants.{Text}
use Rattle.sqlite_value.specs.Order.{Row}
use Rattle.sqlite_trees.specs.Tree.{Trees}
use Rattle.sqlite_schema.specs.declared.schema.Schema.{Schema}
use Rattle.sqlite.specs.Effect.{Database}
use Rattle.exam_rules.specs.Relations.{Code, code_cmp, opening_cmp, entry_cmp, appeal_cmp, seat_cmp}
use Rattle.exam_rules.specs.Tables.{Table, KeyOf, RowOf, Sessions, Papers, Halls, Openings, Candidates}
use Rattle.exam_rules.specs.Tables.{Entries, Arrangements, Appeals, Standing}
use Rattle.exam_rules.specs.declared.rows.Session.{Session}
use Rattle.exam_rules.specs.declared.rows.Paper.{Paper}
use Rattle.exam_rules.specs.declared.rows.Hall.{Hall}
use Rattle.exam_rules.specs.declared.rows.Opening.{Opening}
use Rattle.exam_rules.specs.declared.rows.Candidate.{Candidate}
use Rattle.exam_rules.specs.declared.rows.Entry.{Entry}
use Rattle.exam_rules.specs.declared.rows.Arrangement.{Arrangement}
use Rattle.exam_rules.specs.declared.rows.Appeal.{Appeal}
use Rattle.exam_sql.specs.Content.{ContainsIn}
use Rattle.exam_sql.specs.Loads.{IsLoad}
use Rattle.exam_sql.specs.Made.{ContainsMade}
use Rattle.exam_sql.specs.Tables as tables
use Rattle.exam_sql.specs.Tables.{Described}
use Rattle.exam_sql.specs.Texts.{load_texts}
use Rattle.exam_sql.proofs.Edits.{PutsRow}
use Rattle.exam_sql.proofs.Quiet.{IsQuery}
use Rattle.exam_tables.specs.Inside as inside
use Rattle.exam_tables.specs.Loaded.{KeysMatch}
use Rattle.exam_tables.specs.Stored.{whole}
use Rattle.exam_tables.specs.Rows.{session_row, paper_row, hall_row, opening_row, candidate_row, entry_row}
use Rattle.exam_tables.specs.Rows.{arrangement_row, appeal_row, standing_row, seat_row}
use Rattle.exam_tables.specs.Rows.{IsSession, IsPaper, IsHall, IsOpening, IsCandidate, IsEntry, IsArrangement}
use Rattle.exam_tables.specs.Rows.{IsAppeal, IsStanding, IsSeat}

-- how a table is stored
pub record Form (K X : Type 0) : Type 1 where
  -- the tree of its rows, and the places of its key among the columns, from 1
  pub tree : ℕ
  pub places : List ℕ
  -- how its keys are ordered
  pub cmp : K → K → Ordering
  -- the columns of a row, and the keys and values that may be a row
  pub row : K → X → Row
  pub IsRow : K → X → Type 0
  -- the statement that puts a row, and the one that shows all rows
  pub put : List ℕ
  pub load : List ℕ
  -- the databases from which all rows can be shown, with the rows of their tables
  pub Holds : Database → Trees → Type 0

-- that of a table which every version has
abbrev pub made_form : {K X : Type 0} → Described → (K → K → Ordering) → (K → X → Row) → (K → X → Type 0) → Form K X
made_form d cmp row IsRow = record {
  tree = d.table.tree;
  places = d.key;
  cmp = cmp;
  row = row;
  IsRow = IsRow;
  put = d.put;
  load = d.load;
  Holds = ContainsMade;
}

abbrev pub sessions : Form Code Session
sessions = made_form tables.session code_cmp session_row IsSession

abbrev pub papers : Form Code Paper
papers = made_form tables.paper code_cmp paper_row IsPaper

abbrev pub halls : Form Code Hall
halls = made_form tables.hall code_cmp hall_row IsHall

abbrev pub candidates : Form ℕ Candidate
candidates = made_form tables.candidate nat_cmp candidate_row IsCandidate

abbrev pub openings : Form (Code × Code) Opening
openings = made_form tables.opening opening_cmp opening_row IsOpening

abbrev pub entries : Form (ℕ × Code) Entry
entries = made_form tables.entry entry_cmp entry_row IsEntry

abbrev pub arrangements : Form ℕ Arrangement
arrangements = made_form tables.arrangement nat_cmp arrangement_row IsArrangement

abbrev pub appeals : Form (ℕ × Code) Appeal
appeals = made_form tables.appeal appeal_cmp appeal_row IsAppeal

abbrev pub seats : Form (Code × ℕ) Code
seats = made_form tables.seat seat_cmp seat_row IsSeat

-- version 1 has no table of marks
abbrev pub standing : Form (ℕ × Code) (Unit {0})
standing = record (made_form tables.standing appeal_cmp standing_row IsStanding) { Holds = inside.Contains }

-- that of each table of facts
abbrev pub form_of : (t : Table) → Form (KeyOf t) (RowOf t)
form_of Sessions = sessions
form_of Papers = papers
form_of Halls = halls
form_of Openings = openings
form_of Candidates = candidates
form_of Entries = entries
form_of Arrangements = arrangements
form_of Appeals = appeals
form_of Standing = standing

-- the columns of the key of an opening and of a seat, by which rows are deleted
abbrev pub opening_key : Code × Code → Row
opening_key key = Text key.0 ∷ Text key.1 ∷ []

abbrev pub seat_key : Code × ℕ → Row
seat_key key = Text key.0 ∷ whole key.1 ∷ []

-- the write that puts a row, and those that put rows
abbrev pub row_put : {K X : Type 0} → Form K X → K → X → inside.Write
row_put form k x = inside.put_of form.put form.tree form.places (form.row k x)

abbrev pub with_put : {K X : Type 0} → Form K X → List (Bor K × Bor X) → List inside.Write
with_put form rows = map (λ r. row_put form r.0.now r.1.now) rows

-- What the texts of this product's tables have in common. Keys differ as in SQL. The text that puts a row does
-- that and no more. The one that loads is one of the eleven, and shows the rows also of the newest tables.
pub record IsOurTable {K X : Type 0} (cmp : K → K → Ordering) (form : Form K X) : Type 0 where
  pub keys : KeysMatch cmp form.places form.row
  pub puts : (k : K) (x : X) → PutsRow form.tree form.places form.put (form.row k x)
  pub loads : Contains load_texts form.load
  pub query : IsQuery form.load
  -- the tables of a schema by which it loads the rows; also the newest ones
  pub shows : (db : Database) (all : Trees) → form.Holds db all
      → (schema : Schema) × ContainsIn schema db all × IsLoad schema form.tree form.load
  pub newest : (db : Database) (all : Trees) → inside.Contains db all → form.Holds db all
