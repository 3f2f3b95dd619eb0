-- What becomes of the tables that keep an office.
use Rattle.sqlite_trees.specs.declared.store.Store.{Ghosts}
use Rattle.sqlite.specs.Held.{state}
use Rattle.exam_tables.specs.Transactions.{IsSound}
use Rattle.exam_store.specs.Kept.{IsKept}
use Rattle.exam_store.specs.Stores.{OfficeIn}

-- the tables keep the office, and that is committed
unfoldable pub KeepsIt : {S : Type 0} → Ghosts S → OfficeIn S → Type 0
KeepsIt g it = IsKept (state g it.database) it.office

-- If the disk has returned what was written and the connection is open, this was so before too, and an office that the
-- tables kept is still kept.
pub record KeepsOn {S : Type 0} (g : Ghosts S) (old new : OfficeIn S) : Type 0 where
  pub was_sound : IsSound (state g new.database) → IsSound (state g old.database)
  pub kept : IsSound (state g new.database) → KeepsIt g old → KeepsIt g new
