-- A text that loads a table shows its rows.
use Rattle.exam_sql.proofs.Words.{IsPermutation, IsPermutation-sym, IsPermutation-trans, IsPermutation-map, Null, Row}
use Rattle.exam_sql.proofs.Words.{Trees, map-map, filter_all, all_of, Term, col, eval_all, IsAnswer, overlay, all_has}
use Rattle.exam_sql.proofs.Words.{Select, Schema, Table, Error, SqliteFailure, OutOfMemory, State, FailsToQuery, Shown}
use Rattle.exam_sql.proofs.Words.{understood, reads_listing, IsPlain, command_of, places, bare, Holds, ContainsIn}
use Rattle.exam_sql.proofs.Words.{IsLoad, one_table, is_failure, Described}
use Rattle.std.proofs.Common.{◌≡◌, ◌⊎◌, IsTrue, sym, ap, ℕ, List, [], ◌∷◌, map, filter, true, false, Some, slice_get}
use Rattle.std.proofs.Common.{refl, subst, ◌∙◌}
use Rattle.sqlite_rules.proofs.ListLemmas.{has_got}
use Rattle.sqlite.specs.State.{IsUnchanged}
use Rattle.sqlite.proofs.Callers.{reads_as}
use Rattle.exam_sql.specs.Tables.{names}
use Rattle.exam_sql.proofs.Queries.{picks, map_same}
use Rattle.exam_sql.proofs.QueryFails.{query_fails}

-- each column of a row
abbrev pub column_terms : Table → List Term
column_terms table = map (col 1) (places table)

-- the load of this table
pub load_of : (schema : Schema) (d : Described) → slice_get schema.tables d.at ≡ Some d.table
    → command_of (understood schema d.load)
    ≡ Select (record { lets = []; body = one_table d.table.tree [] (column_terms d.table) [] }) (names d.table)
    → IsPlain (understood schema d.load) → reads_listing schema d.load ≡ false
    → ((db : Trees) → overlay db [] d.table.tree ≡ db d.table.tree)
    → ((r : Row) → Null ∷ eval_all (column_terms d.table) ([] ∷ r ∷ []) ≡ bare (places d.table) r)
    → IsLoad schema d.table.tree d.load
load_of schema d place is plain unlisted own shows = record {
  at = d.at;
  table = d.table;
  project = column_terms d.table;
  names = names d.table;
  tree_is = refl;
  place = place;
  is = is;
  plain = plain;
  unlisted = unlisted;
  own = own;
  shows = shows;
}

-- what the query shows are the rows
shows_all : (tree : ℕ) (at : List ℕ) (project : List Term) (db : Trees) (meant rows : List Row)
    → ((r : Row) → Null ∷ eval_all project ([] ∷ r ∷ []) ≡ bare at r)
    → Holds at (db tree) meant → overlay db [] tree ≡ db tree
    → IsAnswer (one_table tree [] project []) (overlay db []) [] rows
    → IsPermutation meant (map (λ r. Null ∷ r) rows)
shows_all tree at project db meant rows shows held own a =
    let show = λ (r : Row). eval_all project ([] ∷ r ∷ []) in
    let all : IsPermutation (map show (db tree)) rows =
    subst (λ l. IsPermutation (map show l) rows) (filter_all (λ _. true) (db tree) (all_of _ (λ _. refl) (db tree)))
    (subst (λ l. IsPermutation (map show (filter (λ _. true) l)) rows) own
    (picks tree [] project [] (overlay db []) [] rows a)) in
    let kept : map (λ r. Null ∷ r) (map show (db tree)) ≡ map (bare at) (db tree) =
    map-map (λ r. Null ∷ r) show (db tree) ∙ map_same (λ r. Null ∷ show r) (bare at) shows (db tree) in
    let same = subst (λ l. IsPermutation l (map (λ r. Null ∷ r) rows)) kept
    (IsPermutation-map (λ r. Null ∷ r) _ _ all) in
    IsPermutation-trans _ _ _ (IsPermutation-sym _ _ held.same) same

-- a query changes nothing
unchanged_by : (schema : Schema) (text : List ℕ) (old new : State) (rows : List Row) → old.now.schema ≡ schema
    → IsPlain (understood schema text) → Shown text [] old new rows → IsUnchanged old new
unfolding Shown
unchanged_by schema text old new rows has plain h =
    let known = sym h.1.is ∙ ap (λ s. understood s text) has in
    let bare = subst IsPlain (sym known) plain in
    let it = rw bare.0 at h.2 in
    it.3

module _ {schema : Schema} {tree : ℕ} {text : List ℕ} (load : IsLoad schema tree text) where
  -- The text, run, shows the rows of its table, and changes nothing.
  pub shown_by : (old new : State) (rows : List Row) (all : Trees) → ContainsIn schema old.now all
      → Shown text [] old new rows → IsPermutation (all tree) (map (λ r. Null ∷ r) rows) × IsUnchanged old new
  shown_by old new rows all was shown =
      let read = reads_as text [] old new schema was.schema_is _ load.is load.plain load.unlisted rows shown in
      let held = all_has _ schema.tables load.table was.rows (has_got schema.tables load.at load.table load.place) in (
        subst (λ t. IsPermutation (all t) (map (λ r. Null ∷ r) rows)) load.tree_is
            (shows_all load.table.tree (places load.table) load.project old.now.trees
            (all load.table.tree) rows load.shows held (load.own old.now.trees) (read.answer Null)),
        unchanged_by schema text old new rows was.schema_is load.plain shown,
      )

  -- where it fails, it was understood
  pub load_fails : (old new : State) → old.now.schema ≡ schema → (e : Error) → FailsToQuery text [] old new e
      → (e ≡ SqliteFailure OutOfMemory) ⊎ IsTrue (is_failure e)
  load_fails old new has e h = query_fails text [] old new schema has load.plain e h
