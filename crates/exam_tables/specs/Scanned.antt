-- A table that is read a row at a time.
use Rattle.std.specs.Prelude.{◌≡◌, ◌⊎◌, List, [], ◌∷◌, ◌++◌, Option, MatchOption, Result, Ok, Err}
use Rattle.std.specs.declared.cmp.Ordering.{Ordering}
use Rattle.std.specs.BTreeMap.{BTreeMap}
use Rattle.sqlite_value.specs.Order.{Row}
use Rattle.sqlite_trees.specs.declared.store.Store.{Ghosts}
use Rattle.sqlite_trees.specs.Tree.{Trees}
use Rattle.sqlite.specs.Given.{HasGiven}
use Rattle.sqlite.specs.Held.{Held, state}
use Rattle.sqlite.specs.State.{IsUnchanged, Shown}
use Rattle.exam_types.specs.declared.refusal.Refusal.{Refusal}
use Rattle.exam_types.specs.declared.refusal.Refusal.TheVariants.{NoMemory}
use Rattle.exam_tables.specs.declared.scanning.Next.{Next}
use Rattle.exam_tables.specs.declared.scanning.Next.TheVariants as next
use Rattle.exam_tables.specs.Forms.{Form}
use Rattle.exam_tables.specs.Loaded.{AreRowsOf, FailsToLoadFrom, HoldsTable, IsLeft, IsUnderstood, Told}

-- what the rows of a table are read as: its entries, or none if they are the rows of no entries
abbrev pub IsReadAs : {K X : Type 0} → (K → K → Ordering) → Form K X → List Row → Option (BTreeMap K X) → Type 0
IsReadAs {K} {X} cmp form meant found = MatchOption found
    ((entries : List (K × X)) → HoldsTable cmp form.IsRow form.row entries meant → ⊥)
    (λ table. HoldsTable cmp form.IsRow form.row table.entries meant)

-- rows that begin with these are the rows of no entries
abbrev pub BeginNone : {K X : Type 0} → (K → K → Ordering) → Form K X → List Row → Type 0
BeginNone {K} {X} cmp form rows =
    (tail : List Row) (entries : List (K × X)) → AreRowsOf cmp form.IsRow form.row (rows ++ tail) entries → ⊥

module _ {S K X : Type 0} (g : Ghosts S) (cmp : K → K → Ordering) (form : Form K X) (old new : Held S) where
  -- what a scan of the table answers, and what it leaves
  abbrev pub Scans : Result (Option (BTreeMap K X)) Refusal → Type 0
  Scans (Ok found) =
      IsUnchanged (state g old) (state g new) × IsUnderstood (state g old).now form.load
      × ((all : Trees) → form.Holds (state g old).now all → IsReadAs cmp form (all form.tree) found)
  Scans (Err e) =
      IsLeft (state g old) (state g new)
      × ((e ≡ NoMemory) ⊎ FailsToLoadFrom form.Holds form.load (state g old) (state g new) e)

  -- What a step of the scan comes to, if the query had given these rows. After it the map has these entries.
  abbrev pub Goes : List Row → List (K × X) → Result Next Refusal → Type 0
  Goes given entries (Ok next.Put) =
      IsUnchanged (state g old) (state g new) × (row : Row) × HasGiven g form.load [] new (given ++ row ∷ [])
      × AreRowsOf cmp form.IsRow form.row (given ++ row ∷ []) entries
  Goes given entries (Ok next.End) =
      IsUnchanged (state g old) (state g new) × Shown form.load [] (state g old) (state g new) given
      × AreRowsOf cmp form.IsRow form.row given entries
  Goes given entries (Ok next.NoTable) =
      IsUnchanged (state g old) (state g new) × (row : Row) × HasGiven g form.load [] new (given ++ row ∷ [])
      × BeginNone cmp form (given ++ row ∷ [])
  Goes given entries (Err e) =
      (IsUnchanged (state g old) (state g new) × (e ≡ NoMemory)) ⊎ Told form.load (state g old) (state g new) e
