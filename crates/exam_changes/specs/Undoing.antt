-- How a change of the facts is taken back.
use Rattle.std.specs.Prelude.{◌≡◌, ⊤, ℕ, Bool, IsTrue, List, [], Option, None, Some, if◌then◌else◌}
use Rattle.std.specs.Ordering.{nat_cmp}
use Rattle.exam_rules.specs.declared.rows.Appeal.{Appeal}
use Rattle.exam_rules.specs.Relations.{Code, Relations, appeal_cmp, code_cmp, entry_cmp, has_row, opening_cmp, put_row}
use Rattle.exam_rules.specs.Relations.{remove_row}
use Rattle.exam_rules.specs.Tables.{Table, Sessions, Papers, Halls, Openings, Candidates, Entries, Arrangements}
use Rattle.exam_rules.specs.Tables.{Appeals, Standing, KeyOf, RowOf, cmp_of, rows_of}
use Rattle.exam_changes.specs.declared.kept.KeptRows.{KeptRows}
use Rattle.exam_changes.specs.declared.undo.Undo.{Undo}
use Rattle.exam_changes.specs.declared.undo.Undo.TheVariants as undo
use Rattle.exam_commands.specs.Exchanges.{GoBack, HasRows, put_back}

-- ---- the rows of an import

-- the changed keys of a table, each with the row that it had, or none
abbrev pub kept_of : KeptRows → (t : Table) → List (KeyOf t × Option (RowOf t))
kept_of kept Sessions = kept.sessions.entries
kept_of kept Papers = kept.papers.entries
kept_of kept Halls = kept.halls.entries
kept_of kept Openings = kept.openings.entries
kept_of kept Candidates = kept.candidates.entries
kept_of kept Entries = kept.entries.entries
kept_of kept Arrangements = kept.arrangements.entries
kept_of kept Appeals = kept.appeals.entries
kept_of kept Standing = kept.standing.entries

-- no row is kept
abbrev pub AreNone : KeptRows → Type 0
AreNone kept = (t : Table) → kept_of kept t ≡ []

-- each key that was changed has a row, so that putting it back, or taking it away, needs no memory
abbrev pub AreThere : KeptRows → Relations → Type 0
AreThere kept r = (t : Table) → HasRows (cmp_of t) (kept_of kept t) (rows_of r t)

-- the facts with the rows as they were
abbrev pub with_kept : KeptRows → Relations → Relations
with_kept kept r = record r {
  sessions = put_back code_cmp r.sessions kept.sessions.entries;
  papers = put_back code_cmp r.papers kept.papers.entries;
  halls = put_back code_cmp r.halls kept.halls.entries;
  openings = put_back opening_cmp r.openings kept.openings.entries;
  candidates = put_back nat_cmp r.candidates kept.candidates.entries;
  entries = put_back entry_cmp r.entries kept.entries.entries;
  arrangements = put_back nat_cmp r.arrangements kept.arrangements.entries;
  appeals = put_back appeal_cmp r.appeals kept.appeals.entries;
  standing = put_back appeal_cmp r.standing kept.standing.entries;
}

-- the new facts become the old ones, table by table
abbrev pub RowsGoBack : KeptRows → Relations → Relations → Type 0
RowsGoBack kept new old = (t : Table) → GoBack (cmp_of t) (kept_of kept t) (rows_of new t) (rows_of old t)

-- ---- the rows of a decision

-- with the earlier grant as it is now, if there is one
abbrev pub with_earlier : Option ((ℕ × Code) × Appeal) → List ((ℕ × Code) × Appeal) → List ((ℕ × Code) × Appeal)
with_earlier None appeals = appeals
with_earlier (Some e) appeals = put_row appeal_cmp appeals e.0 e.1

-- with a mark for the appeal at the key, if the grant bears one
abbrev pub marks_with : Bool → ℕ × Code → List ((ℕ × Code) × Unit {0}) → List ((ℕ × Code) × Unit {0})
marks_with mark key standing = if mark then put_row appeal_cmp standing key tt else standing

-- with the rows that a decision of the appeal at the key changes
abbrev pub with_decided_rows : Option ((ℕ × Code) × Appeal) → ℕ × Code → Appeal → Bool → Relations → Relations
with_decided_rows earlier key appeal mark r = record r {
  appeals = put_row appeal_cmp (with_earlier earlier r.appeals) key appeal;
  standing = marks_with mark key r.standing;
}

-- ---- any change

-- the facts with the change taken back
abbrev pub restored : Undo → Relations → Relations
restored undo.Nothing r = r
restored (undo.Entry k x) r = record r { entries = put_row entry_cmp r.entries k x }
restored (undo.NewAppeal k) r = record r { appeals = remove_row appeal_cmp r.appeals k }
restored (undo.Appeal k x) r = record r { appeals = put_row appeal_cmp r.appeals k x }
restored (undo.Rows kept) r = with_kept kept r
restored (undo.Openings m) r = record r { openings = m.entries }

-- each key that is named has a row, so that putting it back, or taking it away, needs no memory
abbrev pub IsThere : Undo → Relations → Type 0
IsThere undo.Nothing r = ⊤
IsThere (undo.Entry k x) r = IsTrue (has_row entry_cmp r.entries k)
IsThere (undo.NewAppeal k) r = IsTrue (has_row appeal_cmp r.appeals k)
IsThere (undo.Appeal k x) r = IsTrue (has_row appeal_cmp r.appeals k)
IsThere (undo.Rows kept) r = AreThere kept r
IsThere (undo.Openings m) r = ⊤

-- the new facts become the old ones
abbrev pub TakesBack : Undo → Relations → Relations → Type 0
TakesBack u new old = IsThere u new × (restored u new ≡ old)
