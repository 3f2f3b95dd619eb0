-- What the tables of an office were before a command.
use Rattle.std.specs.Prelude.{◌≡◌, ℕ, true, false, IsTrue, List, ◌||◌}
use Rattle.std.specs.declared.cmp.Ordering.{Ordering}
use Rattle.exam_rules.specs.Relations.{Code, Relations, has_row, remove_row, row_at, seat_cmp}
use Rattle.exam_rules.specs.Tables.{Table, Sessions, Papers, Halls, Openings, Candidates, Entries, Arrangements}
use Rattle.exam_rules.specs.Tables.{Appeals, Standing, KeyOf, RowOf, cmp_of, rows_of}
use Rattle.exam_changes.specs.declared.before.Before.{Before}
use Rattle.exam_changes.specs.declared.before.Before.TheVariants as was
use Rattle.exam_changes.specs.declared.before.PlansBefore.{PlansBefore}
use Rattle.exam_changes.specs.declared.before.PlansBefore.TheVariants as were
use Rattle.exam_changes.specs.declared.before.TablesBefore.{TablesBefore as Told}
use Rattle.exam_commands.specs.Exchanges.{HasRows, put_back}
use Rattle.exam_commands.specs.State.{Seats}

-- the table was before the command what this says
abbrev pub WasTable : {K X : Type 0} → (K → K → Ordering) → Before K X → List (K × X) → List (K × X) → Type 0
WasTable cmp was.Same before after = before ≡ after
WasTable cmp (was.Row k) before after =
    IsTrue (has_row cmp after k.now) × (remove_row cmp before k.now ≡ remove_row cmp after k.now)
WasTable cmp (was.Rows rows) before after =
    HasRows cmp rows.now.entries after × (before ≡ put_back cmp after rows.now.entries)
WasTable cmp (was.Table rows) before after = rows.now.entries ≡ before

-- what is said of a table
abbrev pub said_of : Told → (t : Table) → Before (KeyOf t) (RowOf t)
said_of told Sessions = told.sessions
said_of told Papers = told.papers
said_of told Halls = told.halls
said_of told Openings = told.openings
said_of told Candidates = told.candidates
said_of told Entries = told.entries
said_of told Arrangements = told.arrangements
said_of told Appeals = told.appeals
said_of told Standing = told.standing

-- each table of facts was what this says
abbrev pub WereTables : Told → Relations → Relations → Type 0
WereTables told before after = (t : Table) → WasTable (cmp_of t) (said_of told t) (rows_of before t) (rows_of after t)

-- each table was the same
abbrev pub all_same : Told
all_same = record {
  sessions = was.Same;
  papers = was.Same;
  halls = was.Same;
  openings = was.Same;
  candidates = was.Same;
  entries = was.Same;
  arrangements = was.Same;
  appeals = was.Same;
  standing = was.Same;
}

-- At the keys of the old and the new plans the seats are those of the old plans before and those of the new plans
-- after. Everybody else sits as before.
pub record AreOf (old new before after : Seats) : Type 0 where
  pub told_before : (k : Code × ℕ) → has_row seat_cmp old k || has_row seat_cmp new k ≡ true
      → row_at seat_cmp before k ≡ row_at seat_cmp old k
  pub told_after : (k : Code × ℕ) → has_row seat_cmp old k || has_row seat_cmp new k ≡ true
      → row_at seat_cmp after k ≡ row_at seat_cmp new k
  pub others : (k : Code × ℕ) → has_row seat_cmp old k || has_row seat_cmp new k ≡ false
      → row_at seat_cmp after k ≡ row_at seat_cmp before k

-- the plans were before the command what this says
abbrev pub WerePlans : PlansBefore → Seats → Seats → Type 0
WerePlans were.Same before after = before ≡ after
WerePlans (were.Plans old new) before after = AreOf old.now.entries new.now.entries before after
