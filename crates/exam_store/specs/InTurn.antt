-- The appeals of a session, read from the database one by one.
use Rattle.std.specs.Prelude.{◌≡◌, ⊤, ℕ, List, map, Option, None, Some}
use Rattle.std.specs.Borrow.{MutBor}
use Rattle.std.specs.declared.ops.Bound.{Bound}
use Rattle.std.specs.declared.ops.Bound.TheVariants.{Excluded}
use Rattle.sqlite_trees.specs.declared.store.Store.{Ghosts}
use Rattle.sqlite.specs.declared.error.Error.{Error}
use Rattle.sqlite.specs.Held.{state}
use Rattle.sqlite.specs.State.{FailsToQuery, HasCleanDisk}
use Rattle.exam_sql.specs.Texts.{find_appeal}
use Rattle.exam_types.specs.declared.refusal.Refusal.{Refusal}
use Rattle.exam_types.specs.declared.refusal.Refusal.TheVariants.{BadStore, NoMemory, Store}
use Rattle.exam_rules.specs.Relations.{Code}
use Rattle.exam_commands.specs.State.{State as Office}
use Rattle.exam_views.specs.declared.view.AppealRow.{AppealRow}
use Rattle.exam_views.specs.Views.{appeal_row}
use Rattle.exam_tables.specs.Appeals.{appeal_key, appeals_from}
use Rattle.exam_tables.specs.Faults.{refusal_of}
use Rattle.exam_store.specs.declared.appeal_rows.AppealRows.{AppealRows}
use Rattle.exam_store.specs.Kept.{Keeps}
use Rattle.exam_store.specs.OnlyRead.{OnlyIsRead, read_then}
use Rattle.exam_store.specs.Stores.{OfficeIn}

-- the office's appeals of the session with keys from this bound on, as a register lists them
abbrev pub rows_from : Office → Code → Bound (ℕ × Code) → List AppealRow
rows_from office s from = map appeal_row (appeals_from office.relations.appeals s from)

-- from where the next one is looked for, after this one
abbrev pub bound_after : Bound (ℕ × Code) → Option AppealRow → Bound (ℕ × Code)
bound_after from None = from
bound_after from (Some row) = Excluded (row.number, row.reference)

-- the store that the source holds
abbrev pub store_held : {S : Type 0} → AppealRows S → MutBor (OfficeIn S)
store_held rows = rows.store

-- the rows to come from it
abbrev pub rows_to_come : {S : Type 0} → AppealRows S → List AppealRow
rows_to_come rows = rows_from rows.store.now.office rows.session rows.from

module _ {S : Type 0} (g : Ghosts S) where
  -- appeals were only read, until the query for one failed; this is reported as `Store`
  abbrev pub FailedToFind : OfficeIn S → OfficeIn S → Type 0
  FailedToFind old new =
      (mid : OfficeIn S) × OnlyIsRead g old mid
      × (key : ℕ × Code) × (error : Error) × (Store ≡ refusal_of error)
      × FailsToQuery find_appeal (appeal_key key) (state g mid.database) (state g new.database) error

  -- Why an appeal is not read: memory ran out, the query for it failed, or the database does not keep the office.
  abbrev pub FailsToRead : OfficeIn S → OfficeIn S → Refusal → Type 0
  FailsToRead old new NoMemory = ⊤
  FailsToRead old new Store = HasCleanDisk (state g new.database) → FailedToFind old new
  FailsToRead old new BadStore =
      HasCleanDisk (state g new.database) → Keeps (state g new.database).now new.office → ⊥
  FailsToRead old new other = ⊥

  -- so it is from before another reading
  pub fails_then : (a b c : OfficeIn S) (e : Refusal) → OnlyIsRead g a b → FailsToRead b c e → FailsToRead a c e
  fails_then a b c NoMemory first why = tt
  fails_then a b c Store first why = λ clean.
      let failed = why clean in
      (failed.0, read_then g a b failed.0 first failed.1, failed.2, failed.3, failed.4, failed.5)
  fails_then a b c BadStore first why = why
  fails_then a b c other first why = absurd why
