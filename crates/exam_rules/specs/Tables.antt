-- The tables of facts by name, so that what holds of each is said once, of any of them.
use Rattle.std.specs.Prelude.{ℕ, List}
use Rattle.std.specs.declared.cmp.Ordering.{Ordering}
use Rattle.std.specs.Ordering.{nat_cmp}
use Rattle.exam_rules.specs.declared.rows.Session.{Session}
use Rattle.exam_rules.specs.declared.rows.Paper.{Paper}
use Rattle.exam_rules.specs.declared.rows.Hall.{Hall}
use Rattle.exam_rules.specs.declared.rows.Opening.{Opening}
use Rattle.exam_rules.specs.declared.rows.Candidate.{Candidate}
use Rattle.exam_rules.specs.declared.rows.Entry.{Entry}
use Rattle.exam_rules.specs.declared.rows.Arrangement.{Arrangement}
use Rattle.exam_rules.specs.declared.rows.Appeal.{Appeal}
use Rattle.exam_rules.specs.Relations.{Code, Relations, appeal_cmp, code_cmp, entry_cmp, opening_cmp}

pub data Table : Type 0 where
  Sessions : Table
  Papers : Table
  Halls : Table
  Openings : Table
  Candidates : Table
  Entries : Table
  Arrangements : Table
  Appeals : Table
  Standing : Table

-- what the keys of a table are
abbrev pub KeyOf : Table → Type 0
KeyOf Sessions = Code
KeyOf Papers = Code
KeyOf Halls = Code
KeyOf Openings = Code × Code
KeyOf Candidates = ℕ
KeyOf Entries = ℕ × Code
KeyOf Arrangements = ℕ
KeyOf Appeals = ℕ × Code
KeyOf Standing = ℕ × Code

-- what stands at a key
abbrev pub RowOf : Table → Type 0
RowOf Sessions = Session
RowOf Papers = Paper
RowOf Halls = Hall
RowOf Openings = Opening
RowOf Candidates = Candidate
RowOf Entries = Entry
RowOf Arrangements = Arrangement
RowOf Appeals = Appeal
RowOf Standing = Unit {0}

-- the order of the keys
abbrev pub cmp_of : (t : Table) → KeyOf t → KeyOf t → Ordering
cmp_of Sessions = code_cmp
cmp_of Papers = code_cmp
cmp_of Halls = code_cmp
cmp_of Openings = opening_cmp
cmp_of Candidates = nat_cmp
cmp_of Entries = entry_cmp
cmp_of Arrangements = nat_cmp
cmp_of Appeals = appeal_cmp
cmp_of Standing = appeal_cmp

-- the rows of a table
abbrev pub rows_of : Relations → (t : Table) → List (KeyOf t × RowOf t)
rows_of r Sessions = r.sessions
rows_of r Papers = r.papers
rows_of r Halls = r.halls
rows_of r Openings = r.openings
rows_of r Candidates = r.candidates
rows_of r Entries = r.entries
rows_of r Arrangements = r.arrangements
rows_of r Appeals = r.appeals
rows_of r Standing = r.standing
