-- The changes that save an office, and why it is not saved.
use Rattle.std.specs.Prelude.{ℕ, List, [], Option, Result, IfErr, map}
use Rattle.std.specs.Borrow.{Bor}
use Rattle.std.specs.declared.cmp.Ordering.{Ordering}
use Rattle.std.specs.Map.Iter.{deref_pair}
use Rattle.std.specs.Ordering.{nat_cmp}
use Rattle.sqlite.specs.Effect.{Database}
use Rattle.sqlite.specs.State.{State as Shown, HasCleanDisk}
use Rattle.exam_types.specs.declared.refusal.Refusal.{Refusal}
use Rattle.exam_rules.specs.Relations.{code_cmp, opening_cmp, entry_cmp, appeal_cmp, seat_cmp}
use Rattle.exam_commands.specs.State.{State}
use Rattle.exam_tables.specs.declared.differences.Difference.{Difference}
use Rattle.exam_tables.specs.declared.writing.Changes.{Changes}
use Rattle.exam_tables.specs.Differences.{Turns}
use Rattle.exam_tables.specs.Inside.{FailsFor, IsOurs, RefusesOne, RefusesOneRow}
use Rattle.exam_tables.specs.Writes.{all_saved}
use Rattle.exam_store.specs.Kept.{Keeps}

-- the rows that are put turn a table that loses none
abbrev pub TurnsRows : {K V : Type 0} → (K → K → Ordering) → List (K × V) → List (K × V) → List (Bor K × Bor V)
    → Type 0
TurnsRows cmp old new puts = Turns cmp old new (map deref_pair puts) []

-- the difference turns one that can lose rows
abbrev pub TurnsTable : {K V : Type 0} → (K → K → Ordering) → List (K × V) → List (K × V) → Difference K V → Type 0
TurnsTable cmp old new d = Turns cmp old new (map deref_pair d.put.items) (map (λ k. k.now) d.delete.items)

-- the changes turn each table of the one office into that of the other
pub record TurnsTables (before after : State) (c : Changes) : Type 0 where
  pub sessions : TurnsRows code_cmp before.relations.sessions after.relations.sessions c.sessions.items
  pub papers : TurnsRows code_cmp before.relations.papers after.relations.papers c.papers.items
  pub halls : TurnsRows code_cmp before.relations.halls after.relations.halls c.halls.items
  pub openings : TurnsTable opening_cmp before.relations.openings after.relations.openings c.openings
  pub candidates : TurnsRows nat_cmp before.relations.candidates after.relations.candidates c.candidates.items
  pub entries : TurnsRows entry_cmp before.relations.entries after.relations.entries c.entries.items
  pub arrangements : TurnsRows nat_cmp before.relations.arrangements after.relations.arrangements c.arrangements.items
  pub appeals : TurnsRows appeal_cmp before.relations.appeals after.relations.appeals c.appeals.items
  pub standing : TurnsRows appeal_cmp before.relations.standing after.relations.standing c.standing.items
  pub seats : TurnsTable seat_cmp before.seats after.seats c.seats

-- ---- why an office is not saved

-- The database, within that limit of steps, refuses one of the writes that turn the tables of the one office into those
-- of the other. If it keeps the one, no foreign key is the reason: the database stops before it has written the rows.
abbrev pub RefusesChange : State → State → Option ℕ → Database → Type 0
RefusesChange before after limit db =
    (c : Changes) × TurnsTables before after c × RefusesOne (all_saved c) limit db
    × (Keeps db before → RefusesOneRow (all_saved c) limit db)

-- there is no memory, a call of the disk failed, the connection was shut, or the database refuses a write
abbrev pub FailsToSave : State → State → Shown → Shown → Refusal → Type 0
FailsToSave before after old new = FailsFor (RefusesChange before after old.step_limit old.now) old new

-- why the office is not saved, where the tables are ours
abbrev pub RefusesSaving : State → State → Shown → Shown → Result (Unit {0}) Refusal → Type 0
RefusesSaving before after old new result =
    HasCleanDisk new → IsOurs old.now → IfErr result (FailsToSave before after old new)
