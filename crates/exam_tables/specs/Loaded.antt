-- The rows from which a table is loaded, and why none is.
use Rattle.std.specs.Prelude.{◌≡◌, ◌≢◌, ◌⊎◌, ◌≤◌, ℕ, Result, Ok, Err, List, [], ◌∷◌, map, IsPermutation}
use Rattle.std.specs.declared.cmp.Ordering.{Ordering}
use Rattle.std.specs.List.{AllByRecursion, Contains}
use Rattle.std.specs.Ordering.{is_eq}
use Rattle.sqlite_trees.specs.Tree.{Trees}
use Rattle.sqlite_trees.specs.declared.store.Store.{Ghosts}
use Rattle.sqlite.specs.Held.{Held, state}
use Rattle.sqlite.specs.State.{State, FailsToQuery, IsUnchanged, IsRolledBack}
use Rattle.sqlite.specs.Effect.{Database}
use Rattle.sqlite.specs.Listing.{understood}
use Rattle.sqlite.specs.declared.error.Error.{Error}
use Rattle.sqlite_resolve.specs.declared.compiled.Compiled.{Compiled}
use Rattle.sqlite_value.specs.declared.value.Value.TheVariants.{Null}
use Rattle.sqlite_value.specs.Order.{Row}
use Rattle.exam_types.specs.declared.refusal.Refusal.{Refusal}
use Rattle.exam_types.specs.declared.refusal.Refusal.TheVariants.{NoMemory, BadStore}
use Rattle.exam_sql.specs.Content.{same_key}
use Rattle.exam_sql.specs.Made.{ContainsMade}
use Rattle.exam_sql.specs.Texts.{load_texts}
use Rattle.exam_rules.specs.Orders.{KeysRise}
use Rattle.exam_tables.specs.Faults.{refusal_of}

-- Two rows of a table have the same key in SQL exactly if their keys compare as equal.
pub record KeysMatch {K X : Type 0} (cmp : K → K → Ordering) (key : List ℕ) (row : K → X → Row) : Type 0 where
  pub rows : (a b : K × X) → same_key key (Null ∷ row a.0 a.1) (Null ∷ row b.0 b.1) ≡ is_eq (cmp a.0 b.0)

-- these rows, as they are shown, are those of these entries, which have the forms of the table
pub record AreRowsOf {K X : Type 0} (cmp : K → K → Ordering) (IsRow : K → X → Type 0)
    (row : K → X → Row) (rows : List Row) (entries : List (K × X)) : Type 0 where
  pub rises : KeysRise cmp entries
  pub forms : AllByRecursion (λ e. IsRow e.0 e.1) entries
  pub same : IsPermutation rows (map (λ e. row e.0 e.1) entries)

-- the rows of these entries, read by columns, with NULL in the place of the rowid
abbrev pub HoldsTable : {K X : Type 0} → (K → K → Ordering) → (K → X → Type 0) → (K → X → Row) → List (K × X)
    → List Row → Type 0
HoldsTable cmp IsRow row entries meant = AreRowsOf cmp IsRow (λ k x. Null ∷ row k x) meant entries

-- the database understands the text: the table that it names exists, with its columns
abbrev pub IsUnderstood : Database → List ℕ → Type 0
IsUnderstood db text = (c : Compiled) × (understood db.schema text ≡ Ok c)

abbrev pub AreUnderstood : Database → List (List ℕ) → Type 0
AreUnderstood db = AllByRecursion (IsUnderstood db)

-- the refusal reports the error that the query of this text gave
abbrev pub Told : List ℕ → State → State → Refusal → Type 0
Told text old new e = (error : Error) × (e ≡ refusal_of error) × FailsToQuery text [] old new error

-- the tables of some version exist, with any rows
abbrev pub IsMadeHere : Database → Type 0
IsMadeHere db = (all : Trees) × ContainsMade db all

-- The refusal reports the query's error. If the database held any such tables, the refusal is not `BadStore`.
abbrev pub FailsToLoadFrom : (Database → Trees → Type 0) → List ℕ → State → State → Refusal → Type 0
FailsToLoadFrom Holds text old new e = Told text old new e × ((all : Trees) × Holds old.now all → e ≢ BadStore)

-- The refusal reports the query's error. If the database held the tables of some version, it is not `BadStore`.
abbrev pub FailsToLoad : List ℕ → State → State → Refusal → Type 0
FailsToLoad = FailsToLoadFrom ContainsMade

-- the database is as it was, or a call that failed has undone a transaction, back to the last commit
abbrev pub IsLeft : State → State → Type 0
IsLeft old new = IsUnchanged old new ⊎ IsRolledBack old new

-- what a call that only reads leaves
abbrev pub OnlyReads : {A E : Type 0} → State → State → Result A E → Type 0
OnlyReads old new (Ok value) = IsUnchanged old new
OnlyReads old new (Err e) = IsLeft old new

-- Both show the same database, in the same mode and with the same limit of steps. No fault of the disk is forgotten.
pub record IsStill (old new : State) : Type 0 where
  pub now : new.now ≡ old.now
  pub committed : new.committed ≡ old.committed
  pub in_transaction : new.in_transaction ≡ old.in_transaction
  pub is_open : new.is_open ≡ old.is_open
  pub limit : new.step_limit ≡ old.step_limit
  pub counts : old.faults ≤ new.faults

-- while the database was still as it was, the query that loads one of the tables failed
abbrev pub FailsThenFrom : {S : Type 0} → (Database → Trees → Type 0) → Ghosts S → Held S → Held S → Refusal → Type 0
FailsThenFrom {S} Holds g old new e =
    (mid : Held S) × IsStill (state g old) (state g mid)
    × (text : List ℕ) × Contains load_texts text × FailsToLoadFrom Holds text (state g mid) (state g new) e

-- while the database still had the tables of some version, the query that loads one of them failed
abbrev pub FailsThen : {S : Type 0} → Ghosts S → Held S → Held S → Refusal → Type 0
FailsThen = FailsThenFrom ContainsMade

-- why nothing is loaded: memory ran out, a query failed, or there is nothing to load
abbrev pub IsLoadRefusal : (Refusal → Type 0) → Type 0 → Refusal → Type 0
IsLoadRefusal Fails IsNone e = (e ≡ NoMemory) ⊎ (Fails e ⊎ ((e ≡ BadStore) × IsNone))
