-- What INSERT OR REPLACE and INSERT .. ON CONFLICT .. DO UPDATE make of a keyed table.
use Rattle.exam_sql.proofs.Words.{AllByRecursion, list_all, IsPermutation, and_parts, not-true, false_from_ne_true}
use Rattle.exam_sql.proofs.Words.{cases_Bool, eqb-true, IsPermutation-trans, IsPermutation-sym, IsPermutation-map}
use Rattle.exam_sql.proofs.Words.{Value, Null, Int, Row, value_cmp, Trees, rowid, with_tree, IsShaped, filter-map}
use Rattle.exam_sql.proofs.Words.{filter_all, IsPermutation-filter, Term, eval_all, holds, overlay, IsAnswer, Conflict}
use Rattle.exam_sql.proofs.Words.{Abort, Replace, Upsert, InsertOr, Values, Enforced, Schema, Table, Unique, passes}
use Rattle.exam_sql.proofs.Words.{Given, Chosen, cast_row, Has, id_in, edit_of, with_rowid, without_all, is_taken}
use Rattle.exam_sql.proofs.Words.{taken_by, ids_of, all_has, all_from, test_has, has_kept, mapped_has, has_mapped}
use Rattle.exam_sql.proofs.Words.{int_is, tied_same, Error, Database, Then, Written, Task, Edited, mended, nothing}
use Rattle.exam_sql.proofs.Words.{count_of, shown, Puts, Clears, Tries, TriesEach, InsertsOr, Tally, Does, AtPlace}
use Rattle.exam_sql.proofs.Words.{OnRows, State, mode_of, Writes, Executes, understood, one_step, IsPlain, command_of}
use Rattle.exam_sql.proofs.Words.{runs_as, places, bare, Holds, ContainsIn, put, same_key, same_rowid, IsKeyed}
use Rattle.exam_sql.proofs.Words.{one_table, on_conflict}
use Rattle.std.proofs.Common.{◌≡◌, ◌≢◌, ◌⊎◌, inl, inr, ℕ, ℤ, List, [], ◌∷◌, ◌++◌, map, filter, length, Bool, true}
use Rattle.std.proofs.Common.{false, if◌then◌else◌, MatchBool, not, ◌==◌, ◌/◌, Some, None, Option, Ok, Err, Result}
use Rattle.std.proofs.Common.{OnOk, refl, sym, ap, ap₂, subst, ◌∙◌, append-nil, true≢false, Equal}
use Rattle.std.proofs.lemmas.Bool.{or_cases, or_right, eqb-false}
use Rattle.std.proofs.lemmas.List.Sorted.{IsPermutation-cons}
use Rattle.sqlite_trees.specs.declared.store.Shape.TheVariants.{Table as TableShape}
use Rattle.sqlite_trees.specs.Tree.{has_rowid, put_row}
use Rattle.sqlite_trees.proofs.TreeLemmas.{IsShaped-put_row, IsShaped-filter}
use Rattle.sqlite_trees.proofs.ListLemmas.{all_both}
use Rattle.sqlite_sql.specs.Term.{Env}
use Rattle.sqlite_schema.specs.Rules as rules
use Rattle.sqlite_rules.specs.declared.error.Rowids.TheVariants.{Above}
use Rattle.sqlite_rules.specs.Keys.{AreConflicts, conflicts}
use Rattle.sqlite_rules.specs.Edit.{are_fresh, put_all}
use Rattle.sqlite_rules.proofs.ListLemmas.{has_got}
use Rattle.sqlite_rules.proofs.TableLemmas.{put_all_adds, put_all_keeps}
use Rattle.sqlite.specs.Effect.{value_rows}
use Rattle.sqlite.specs.Rows.{Gives, rowids_for, Updates, Meets, Upserts}
use Rattle.sqlite.proofs.Callers.{one_permutation}
use Rattle.exam_sql.proofs.Fits.{Fits, Comes}
use Rattle.exam_sql.proofs.Keys.{cast_int, equal_is, same_place, ties_itself, tied_rows}
use Rattle.exam_sql.proofs.Queries.{picks}
use Rattle.exam_sql.proofs.RowLemmas.{put_fresh, taken_out, only_one}

pub same_value : {B E : Type 0} {a b : B} → ◌≡◌ {A = Result B E} (Ok a) (Ok b) → a ≡ b
same_value e = cc

-- the table that a statement sets has its new rows, and each other has its own
pub elsewhere : (tables : List Table) (db next all : Trees) (tree : ℕ) (rows : List Row)
    → AllByRecursion (λ t. Holds (places t) (db t.tree) (all t.tree)) tables
    → AllByRecursion (λ t. t.tree ≡ tree → Holds (places t) (next tree) rows) tables
    → AllByRecursion (λ t. t.tree ≢ tree → next t.tree ≡ db t.tree) tables
    → AllByRecursion (λ t. Holds (places t) (next t.tree) (with_tree all tree rows t.tree)) tables
elsewhere [] db next all tree rows was set others = tt
elsewhere (t ∷ tables) db next all tree rows was set others = (
  go (places t) t.tree was.0 set.0 others.0 (cases_Bool (t.tree == tree)),
  elsewhere tables db next all tree rows was.1 set.1 others.1,
)
  where
    go : (at : List ℕ) (t : ℕ) → Holds at (db t) (all t) → (t ≡ tree → Holds at (next tree) rows)
        → (t ≢ tree → next t ≡ db t) → ((t == tree) ≡ true) ⊎ ((t == tree) ≡ false)
        → Holds at (next t) (with_tree all tree rows t)
    go at t held set same (inl is) = rw (is, eqb-true t tree is) (set (eqb-true t tree is))
    go at t held set same (inr other) =
        rw other (subst (λ l. Holds at l (all t)) (sym (same (eqb-false t tree other))) held)

-- a part that gave a value did not stop on the way
pub went : {B E R : Type 0} {b : B} {Stops : E → Type 0} → ((stop : E) × Stops stop × (Ok b ≡ Err stop)) ⊎ R → R
went (inl stopped) = absurd (let e = stopped.2 in cc)
went (inr on) = on

pub uncounts : (P Q : Type 0) (counted x : Bool) → counted ≡ false → MatchBool (if counted then x else false) P Q → Q
uncounts P Q true x e h = absurd (true≢false e)
uncounts P Q false x e h = h

pub unstamps : (params : Row) (terms : List Term) (env : Env) → terms ≡ [] → params ++ eval_all terms env ≡ params
unstamps params terms env e = rw (e, append-nil)

pub database_is : {schema : Schema} {trees : Trees} (db : Database) → db.schema ≡ schema → db.trees ≡ trees
    → db ≡ record { schema = schema; trees = trees }
database_is db is are = ap₂ (λ s t. record { schema = s; trees = t }) is are

module _ (schema : Schema) (at : ℕ) (table : Table) (key target : List ℕ)
    (keyed : IsKeyed schema at table key target) where
  -- the rows with the key of the values are taken out
  abbrev pub without : Row → List Row → List Row
  without values = filter (λ r. not (same_key key (bare (places table) r) (Null ∷ values)))

  -- the rows with the key are taken out, and the new one is put in at a free rowid
  pub record IsPut (columns values : Row) (db next : Trees) : Type 0 where
    pub id : ℤ
    pub full : bare (places table) (Int id ∷ columns) ≡ Null ∷ values
    pub free : is_taken (without values (db table.tree)) (Int id ∷ columns) ≡ false
    pub rows : next table.tree ≡ put_row (Int id ∷ columns) (without values (db table.tree))
    pub others : AllByRecursion (λ t. t.tree ≢ table.tree → next t.tree ≡ db t.tree) schema.tables

  -- in the words of a table's content
  pub put_holds : (db next : Trees) (columns values : Row) (rows : List Row) → IsPut columns values db next
      → Holds (places table) (db table.tree) rows
      → Holds (places table) (next table.tree) (put key (Null ∷ values) rows)
  put_holds db next columns values rows put held =
      let show = bare (places table) in
      let new : Row = Int put.id ∷ columns in
      let bare_test = λ (r : Row). not (same_key key r (Null ∷ values)) in
      let left = without values (db table.tree) in
      let shaped : IsShaped TableShape (put_row new left) =
      IsShaped-put_row new left refl
      (IsShaped-filter TableShape (λ r. bare_test (show r)) (db table.tree) held.shaped) in
      let more : IsPermutation (map show (put_row new left)) (show new ∷ map show left) =
      IsPermutation-sym _ _ (IsPermutation-map show (new ∷ left) (put_row new left) (put_fresh new left put.free)) in
      let kept : IsPermutation (map show left) (filter bare_test rows) =
      subst (λ l. IsPermutation l (filter bare_test rows)) (filter-map bare_test show (db table.tree))
      (IsPermutation-filter bare_test _ _ held.same) in
      let whole : IsPermutation (map show (put_row new left)) ((Null ∷ values) ∷ filter bare_test rows) =
      subst (λ r. IsPermutation (map show (put_row new left)) (r ∷ filter bare_test rows)) put.full
      (IsPermutation-trans _ _ _ more (IsPermutation-cons (show new) _ _ kept)) in
      record {
        shaped = subst (IsShaped TableShape) (sym put.rows) shaped;
        same = subst (λ l. IsPermutation (map show l) ((Null ∷ values) ∷ filter bare_test rows)) (sym put.rows) whole;
      }

  -- the table holds its rows
  pub held_at : (db all : Trees) → AllByRecursion (λ t. Holds (places t) (db t.tree) (all t.tree)) schema.tables
      → Holds (places table) (db table.tree) (all table.tree)
  held_at db all rows = all_has _ schema.tables table rows (has_got schema.tables at table keyed.place)

  -- one table is set, and the others hold what they held
  pub set_in : (old new : Database) (all : Trees) (rows : List Row) → ContainsIn schema old all → new.schema ≡ schema
      → Holds (places table) (new.trees table.tree) rows
      → AllByRecursion (λ t. t.tree ≢ table.tree → new.trees t.tree ≡ old.trees t.tree) schema.tables
      → ContainsIn schema new (with_tree all table.tree rows)
  set_in old new all rows was is set others =
      let each = all_from (λ t. t.tree ≡ table.tree → Holds (places t) (new.trees table.tree) rows) schema.tables
      (λ t has e. subst (λ w. Holds w (new.trees table.tree) rows)
      (sym (same_place _ _ _ _ (test_has _ schema.tables t keyed.apart has) e)) set) in
      record {
        schema_is = is;
        rows = elsewhere schema.tables old.trees new.trees all table.tree rows was.rows each others;
      }

  module _ (limit : Option ℕ) (params : Row) where
    abbrev pub task : Task
    task = record { limit = limit; keys = Enforced; schema = schema; table = table; params = params }

    -- a statement with one source row tries to put the row that it becomes
    pub tries_one : (way : Conflict) (clauses : List Upsert) (db : Trees) (source : Row) (terms : List Term)
        (width : ℕ) (w : Written) → value_rows params width (length terms / width) terms ≡ source ∷ []
        → InsertsOr task way clauses (Values terms width) db (Ok w)
        → (one : Written) × Tries task way clauses
        (with_rowid Chosen (db table.tree) (cast_row table (mended way table source))) db (Ok one)
        × (w.trees ≡ one.trees)
    tries_one way clauses db source terms width w given wrote =
        let sourced = went wrote in
        let counted = went sourced.2 in
        let tried = went counted.2 in
        let ended = went tried.2 in
        let next : ended.0 ≡ tried.0.0.trees = same_value (uncounts _ _ table.is_counted _ keyed.uncounted ended.1) in
        let rows : sourced.0 ≡ source ∷ [] =
        sourced.1.1 ∙ ap (λ p. value_rows p width (length terms / width) terms)
        (unstamps params table.stamps.terms _ keyed.unstamped) ∙ given in
        let each = went (subst
        (λ l. TriesEach task way clauses l (count_of counted.0) (nothing db) (Ok tried.0)) rows tried.1) in
        let chosen : with_rowid (rowids_for table (count_of counted.0)) (db table.tree)
        (cast_row table (mended way table source))
        ≡ with_rowid Chosen (db table.tree) (cast_row table (mended way table source)) =
        ap (λ c. with_rowid (if c then Above (count_of counted.0) else Chosen) (db table.tree)
        (cast_row table (mended way table source))) keyed.uncounted in
        let trees : w.trees ≡ each.0.trees =
        ap (λ (it : Written). it.trees) (same_value ended.2) ∙ next
        ∙ ap (λ (p : Written × ℤ). p.0.trees) (same_value each.2) in
        (each.0, subst (λ n. Tries task way clauses n db (Ok each.0)) chosen each.1, trees)

    -- what a statement that inserts leaves is what its rows are
    inserted : (way : Conflict) (clauses : List Upsert) (old new : State) (text : List ℕ) (terms : List Term)
        (width count : ℕ) → limit ≡ old.step_limit → old.now.schema ≡ schema
        → Writes old new None (InsertOr at way (Values terms width) clauses) text params count
        → (new.now.schema ≡ schema) × (w : Written)
        × InsertsOr task way clauses (Values terms width) old.now.trees (Ok w) × (new.now.trees ≡ w.trees)
    inserted way clauses old new text terms width count lim has w =
        let command = InsertOr at way (Values terms width) clauses in
        let db = old.now.trees in
        let made = subst (λ s. Does old.step_limit (mode_of old) params
        (record old.now { schema = s }) text None command (Ok (w.tally, new.now))) has w.changed in
        let ran : OnRows task (mode_of old) None command db (Ok (w.tally, new.now)) =
        subst (λ o. AtPlace (λ t. OnRows
        (record { limit = limit; keys = Enforced; schema = schema; table = t; params = params })
        (mode_of old) None command db) o (Ok (w.tally, new.now))) keyed.place
        (subst (λ l. Does l (mode_of old) params (record { schema = schema; trees = db }) text None command
        (Ok (w.tally, new.now))) (sym lim) made) in
        let all = went ran in
        let now : new.now ≡ record { schema = schema; trees = all.0.trees } =
        ap (λ (p : Tally × Database). p.1) (same_value (went (went all.2).2).2) in
        (ap (λ (d : Database). d.schema) now, all.0, all.1, ap (λ (d : Database). d.trees) now)

    module _ (first : Value) (columns values : Row) (fits : Fits table key first columns values) where
      -- one row is put in
      puts : (id : ℤ) (db : Trees) (one : Written) → Puts task (Int id ∷ columns) db (Ok one)
          → (one.trees table.tree ≡ put_row (Int id ∷ columns) (db table.tree))
          × (is_taken (db table.tree) (Int id ∷ columns) ≡ false)
          × AllByRecursion (λ t. t.tree ≢ table.tree → one.trees t.tree ≡ db t.tree) schema.tables
      puts id db one h =
          let edit = edit_of db table [] Given 0 ((Int id ∷ columns) ∷ []) in
          let it = went h in
          let step = one_step schema Enforced db it.0 edit (keyed.still (taken_by db edit) edit.news) it.1 in
          let trees : one.trees ≡ it.0 = ap (λ (it : Written). it.trees) (same_value it.2) in
          let news : edit.news ≡ (Int id ∷ columns) ∷ [] = rw (cast_int, fits.typed) in (
            ap (λ (t : Trees). t table.tree) trees ∙ step.rows ∙ ap (put_all (db table.tree)) news,
            not-true _ (and_parts _ _ (subst (λ l. are_fresh (db table.tree) l ≡ true) news step.fresh)).0,
            subst (λ (t : Trees). AllByRecursion (λ s. s.tree ≢ table.tree → t s.tree ≡ db s.tree) schema.tables)
                (sym trees) step.tables,
          )

      -- a row conflicts with the new one only if it has its key
      meets : (db : Trees) (new : Comes table key first columns values (db table.tree)) (r : Row)
          → Has (db table.tree) r → conflicts None schema.indexes table (Int new.id ∷ columns) r ≡ true
          → same_key key (bare (places table) r) (Null ∷ values) ≡ true
      meets db new r h is = elim (or_cases _ _ (sym (keyed.barred r (Int new.id ∷ columns)) ∙ is)) [
        | inl tied ↦ new.tied r h tied
        | inr same ↦ subst (λ b. same_key key (bare (places table) r) b ≡ true) new.full same
      ]

      -- the rows that are found are those with the key
      pub finds : (db : Trees) (new : Comes table key first columns values (db table.tree)) (found : List Row)
          → IsShaped TableShape (db table.tree)
          → AreConflicts None schema.indexes table (db table.tree) (Int new.id ∷ columns) found
          → without_all (db table.tree) (ids_of found) ≡ without values (db table.tree)
      finds db new found shaped are =
          taken_out (λ r. same_key key (bare (places table) r) (Null ∷ values)) (db table.tree)
          (ids_of found) shaped sound complete
        where
          sound : (n : ℤ) → Has (ids_of found) n
              → (r : Row) × Has (db table.tree) r × (same_key key (bare (places table) r) (Null ∷ values) ≡ true)
              × (n ≡ id_in (rowid r))
          sound n h =
              let x = has_mapped _ found n h in
              let it = are.sound x.0 x.1 in
              (it.0, it.1, meets db new it.0 it.1 it.2, x.2 ∙ ap (λ (r : Row). id_in (rowid r)) it.3)

          complete : (r : Row) → Has (db table.tree) r → same_key key (bare (places table) r) (Null ∷ values) ≡ true
              → Has (ids_of found) (id_in (rowid r))
          complete r h same =
              mapped_has (λ (x : Row). id_in (rowid x)) found (rowid r ∷ []) (are.complete r h
              (keyed.barred r (Int new.id ∷ columns)
              ∙ or_right _ _ (subst (λ b. same_key key (bare (places table) r) b ≡ true) (sym new.full) same)))

      -- the rows with the same key are taken out first
      clears : (db : Trees) (new : Comes table key first columns values (db table.tree)) (one : Written)
          (found : List Row) → without_all (db table.tree) (ids_of found) ≡ without values (db table.tree)
          → Clears task Replace (Int new.id ∷ columns) db found (Ok one) → IsPut columns values db one.trees
      clears db new one [] left h =
          let put = puts new.id db one h in
          record {
            id = new.id;
            full = new.full;
            free = rw left at put.1;
            rows = put.0 ∙ ap (put_row (Int new.id ∷ columns)) left;
            others = put.2;
          }
      clears db new one (x ∷ more) left h =
          let edit = edit_of db table (ids_of (x ∷ more)) Given 0 [] in
          let it = went h in
          let step = one_step schema Enforced db it.0 edit (keyed.still (taken_by db edit) edit.news) it.1 in
          let put = puts new.id it.0 one it.2 in
          let mid : it.0 table.tree ≡ without values (db table.tree) = step.rows ∙ left in
          record {
            id = new.id;
            full = new.full;
            free = rw mid at put.1;
            rows = put.0 ∙ ap (put_row (Int new.id ∷ columns)) mid;
            others = all_both _ _ _ (λ t p q apart. p apart ∙ q apart) schema.tables put.2 step.tables;
          }

      -- INSERT OR REPLACE
      pub replaces : (db : Trees) (new : Comes table key first columns values (db table.tree)) (one : Written)
          → IsShaped TableShape (db table.tree) → Tries task Replace [] (Int new.id ∷ columns) db (Ok one)
          → IsPut columns values db one.trees
      replaces db new one shaped (inl stops) = absurd (let e = stops.1 in cc)
      replaces db new one shaped (inr (None, judged, h)) = clears db new one h.0 (finds db new h.0 shaped h.1) h.2
      replaces db new one shaped (inr (Some why, judged, h)) = absurd cc

      -- no row has the key
      lacks : (db : Trees) (new : Comes table key first columns values (db table.tree))
          → AreConflicts (Some target) schema.indexes table (db table.tree) (Int new.id ∷ columns) []
          → db table.tree ≡ without values (db table.tree)
      lacks db new are = sym
          (filter_all _ (db table.tree) (all_from _ (db table.tree) (λ r h. ap not (false_from_ne_true _ (λ same.
          are.complete r h (keyed.aimed r (Int new.id ∷ columns)
          ∙ subst (λ b. same_key key (bare (places table) r) b ≡ true) (sym new.full) same))))))

      -- the query finds only the row t, and writes it again
      found_anew : (db : Trees) (given : Row) (terms project : List Term) (t : Row) (found : List Row)
          → IsShaped TableShape (db table.tree) → overlay db [] table.tree ≡ db table.tree → Has (db table.tree) t
          → ((r : Row) → list_all (holds (given ∷ r ∷ [])) terms ≡ same_rowid r t)
          → eval_all project (given ∷ t ∷ []) ≡ rowid t ∷ rowid t ∷ columns
          → IsAnswer (one_table table.tree terms project []) (overlay db []) given found
          → found ≡ (rowid t ∷ rowid t ∷ columns) ∷ []
      found_anew db given terms project t found shaped own has picked written answer =
          let alone : filter (λ r. list_all (holds (given ∷ r ∷ [])) terms) (overlay db [] table.tree) ≡ t ∷ [] =
          ap (filter _) own
          ∙ only_one _ (db table.tree) t shaped has (picked t ∙ ties_itself (db table.tree) t shaped has)
          (λ r h passes. tied_rows (db table.tree) r t shaped h has (sym (picked r) ∙ passes)) in
          let same = subst (λ l. IsPermutation (map (λ r. eval_all project (given ∷ r ∷ [])) l) found) alone
          (picks table.tree terms project [] (overlay db []) given found answer) in
          one_permutation _ found (subst (λ r. IsPermutation (r ∷ []) found) written same)

      -- if one row replaces the row t with the key, no other row has the key
      still_there : (db next : Trees) (t : Row) (id : ℤ) → IsShaped TableShape (db table.tree) → Has (db table.tree) t
          → rowid t ≡ Int id → same_key key (bare (places table) t) (Null ∷ values) ≡ true
          → are_fresh (without_all (db table.tree) (id ∷ [])) ((Int id ∷ columns) ∷ []) ≡ true
          → next table.tree ≡ put_row (Int id ∷ columns) (without_all (db table.tree) (id ∷ []))
          → rules.Fits schema next
          → without_all (db table.tree) (id ∷ []) ≡ without values (db table.tree)
      still_there db next t id shaped has lies same fresh rows kept =
          taken_out (λ r. same_key key (bare (places table) r) (Null ∷ values)) (db table.tree)
          (id ∷ []) shaped sound complete
        where
          left : List Row
          left = without_all (db table.tree) (id ∷ [])

          next_shaped : IsShaped TableShape (next table.tree)
          next_shaped = subst (IsShaped TableShape) (sym rows)
              (IsShaped-put_row (Int id ∷ columns) left refl
              (IsShaped-filter TableShape (λ r. not (has_rowid id r)) (db table.tree) shaped))

          unique : AllByRecursion (λ row. passes Unique schema next table row ≡ true) (next table.tree)
          unique = all_has _ schema.tables table (kept.rules Unique (λ e. cc))
              (has_got schema.tables at table keyed.place)

          sound : (n : ℤ) → Has (id ∷ []) n
              → (r : Row) × Has (db table.tree) r × (same_key key (bare (places table) r) (Null ∷ values) ≡ true)
              × (n ≡ id_in (rowid r))
          sound n (inl is) = (t, has, same, is ∙ ap id_in (sym lies))
          sound n (inr none) = absurd none

          complete : (r : Row) → Has (db table.tree) r → same_key key (bare (places table) r) (Null ∷ values) ≡ true
              → Has (id ∷ []) (id_in (rowid r))
          complete r h also = elim (cases_Bool (has_rowid id r)) [
            | inl is ↦ inl (ap (λ (r : Row). id_in (rowid r))
                (tied_same (db table.tree) r t shaped.0 h has
                (subst (λ v. value_cmp (rowid r) v ≡ Equal) (sym lies) (equal_is _ is))) ∙ ap id_in lies)
            | inr other ↦
                let there : Has (next table.tree) r =
                subst (λ l. Has l r) (sym rows)
                (put_all_keeps ((Int id ∷ columns) ∷ []) left r fresh
                (has_kept _ (db table.tree) r h (ap not other))) in
                let new : Has (next table.tree) (Int id ∷ columns) =
                subst (λ l. Has l (Int id ∷ columns)) (sym rows)
                (put_all_adds ((Int id ∷ columns) ∷ []) left (Int id ∷ columns) fresh (inl refl)) in
                inl (ap (λ (r : Row). id_in (rowid r))
                (keyed.alone next next_shaped unique r (Int id ∷ columns) there new
                (subst (λ b. same_key key (bare (places table) r) b ≡ true)
                (sym (fits.moved t id lies same)) also)))
          ]

      -- DO UPDATE writes the row t with the key again, at its rowid
      changes : (db : Trees) (one : Written) (given : Row) (terms project : List Term) (t : Row)
          → IsShaped TableShape (db table.tree) → overlay db [] table.tree ≡ db table.tree
          → Has (db table.tree) t → same_key key (bare (places table) t) (Null ∷ values) ≡ true
          → ((r : Row) → list_all (holds (given ∷ r ∷ [])) terms ≡ same_rowid r t)
          → eval_all project (given ∷ t ∷ []) ≡ rowid t ∷ rowid t ∷ columns
          → Updates task (record { lets = []; body = one_table table.tree terms project [] }) given db (Ok one)
          → IsPut columns values db one.trees
      changes db one given terms project t shaped own has same picked written u =
          let id = id_in (rowid t) in
          let lies : rowid t ≡ Int id = int_is (rowid t) (all_has _ (db table.tree) t shaped.1 has) in
          let found = went u in
          let rows : found.0 ≡ (Int id ∷ Int id ∷ columns) ∷ [] =
          found_anew db given terms project t found.0 shaped own has picked written (found.1.answer Null)
          ∙ ap (λ v. (v ∷ v ∷ columns) ∷ []) lies in
          let edit = edit_of db table (ids_of ((Int id ∷ Int id ∷ columns) ∷ [])) Given 1
          ((Int id ∷ Int id ∷ columns) ∷ []) in
          let it = went (subst
          (λ rows. Then (Edited schema Enforced db (edit_of db table (ids_of rows) Given 1 rows))
          (λ next. Gives (record
          { trees = next; rows = (edit_of db table (ids_of rows) Given 1 rows).news; last = None })) (Ok one)) rows
          found.2) in
          let step = one_step schema Enforced db it.0 edit (keyed.still (taken_by db edit) edit.news) it.1 in
          let trees : one.trees ≡ it.0 = ap (λ (it : Written). it.trees) (same_value it.2) in
          let news : edit.news ≡ (Int id ∷ columns) ∷ [] = rw (cast_int, fits.typed) in
          let fresh = subst (λ l. are_fresh (without_all (db table.tree) (id ∷ [])) l ≡ true) news step.fresh in
          let next : it.0 table.tree ≡ put_row (Int id ∷ columns) (without_all (db table.tree) (id ∷ [])) =
          step.rows ∙ ap (put_all (without_all (db table.tree) (id ∷ []))) news in
          let left = still_there db it.0 t id shaped has lies same fresh next step.fits in
          record {
            id = id;
            full = fits.moved t id lies same;
            free = subst (λ l. is_taken l (Int id ∷ columns) ≡ false) left (not-true _ (and_parts _ _ fresh).0);
            rows = ap (λ (t : Trees). t table.tree) trees ∙ next ∙ ap (put_row (Int id ∷ columns)) left;
            others = subst (λ (t : Trees). AllByRecursion
                (λ s. s.tree ≢ table.tree → t s.tree ≡ db s.tree) schema.tables) (sym trees) step.tables;
          }

      -- what DO UPDATE reads: the row that is there, and the new one
      abbrev pub facing : Row → Row → Row
      facing there new = params ++ rowid there ∷ shown table new

      module _ (terms project : List Term)
          (picked : (t r : Row) (id : ℤ)
          → list_all (holds (facing t (Int id ∷ columns) ∷ r ∷ [])) terms ≡ same_rowid r t)
          (written : (t : Row) (id : ℤ) → same_key key (bare (places table) t) (Null ∷ values) ≡ true
          → eval_all project (facing t (Int id ∷ columns) ∷ t ∷ []) ≡ rowid t ∷ rowid t ∷ columns) where
        abbrev clause : Upsert
        clause = on_conflict target table.tree terms project

        goes : (db : Trees) (new : Comes table key first columns values (db table.tree)) (one : Written)
            (found : List Row) → IsShaped TableShape (db table.tree) → overlay db [] table.tree ≡ db table.tree
            → AreConflicts (Some target) schema.indexes table (db table.tree) (Int new.id ∷ columns) found
            → Meets task (Upserts task Abort (Int new.id ∷ columns) db []) (Int new.id ∷ columns) db clause found
            (Ok one)
            → IsPut columns values db one.trees
        goes db new one [] shaped own are h =
            let put = puts new.id db one (plainly h.0 h.2) in
            let left = lacks db new are in
            record {
              id = new.id;
              full = new.full;
              free = subst (λ l. is_taken l (Int new.id ∷ columns) ≡ false) left put.1;
              rows = put.0 ∙ ap (put_row (Int new.id ∷ columns)) left;
              others = put.2;
            }
          where
            plainly : (found : List Row) → Clears task Abort (Int new.id ∷ columns) db found (Ok one)
                → Puts task (Int new.id ∷ columns) db (Ok one)
            plainly [] h = h
            plainly (x ∷ more) h = h
        goes db new one (there ∷ more) shaped own are h =
            let x = are.sound there (inl refl) in
            let same = subst (λ b. same_key key (bare (places table) x.0) b ≡ true) new.full
            (sym (keyed.aimed x.0 (Int new.id ∷ columns)) ∙ x.2) in
            changes db one (facing x.0 (Int new.id ∷ columns)) terms project x.0 shaped own x.1 same
            (λ r. picked x.0 r new.id) (written x.0 new.id same)
            (subst (λ (there : Row). Updates task (record { lets = []; body = one_table table.tree terms project [] })
            (params ++ rowid there ∷ shown table (Int new.id ∷ columns)) db (Ok one)) x.3 h)

        -- ON CONFLICT DO UPDATE
        upserts : (db : Trees) (new : Comes table key first columns values (db table.tree)) (one : Written)
            → IsShaped TableShape (db table.tree) → overlay db [] table.tree ≡ db table.tree
            → Tries task Abort (clause ∷ []) (Int new.id ∷ columns) db (Ok one) → IsPut columns values db one.trees
        upserts db new one shaped own (inl stops) = absurd (let e = stops.1 in cc)
        upserts db new one shaped own (inr (None, judged, h)) = goes db new one h.0 shaped own h.1 h.2
        upserts db new one shaped own (inr (Some why, judged, h)) = absurd cc

  -- what a statement that puts one row does with the rows that it finds
  abbrev pub SetsRow : Option ℕ → Conflict → List Upsert → List Term → ℕ → Row → Row → Type 0
  SetsRow limit way clauses terms width params values =
      (db : Trees) (w : Written) → InsertsOr (task limit params) way clauses (Values terms width) db (Ok w)
      → (all : Trees) → ContainsIn schema (record { schema = schema; trees = db }) all
      → ContainsIn schema (record { schema = schema; trees = w.trees })
      (with_tree all table.tree (put key (Null ∷ values) (all table.tree)))

  -- a statement with one source row sets its key to the row, by what it does with the row that it tries
  sets : (limit : Option ℕ) (way : Conflict) (clauses : List Upsert) (terms : List Term) (width : ℕ) (params : Row)
      (first : Value) (columns values : Row) (fits : Fits table key first columns values)
      → mended way table (first ∷ columns) ≡ first ∷ columns
      → value_rows params width (length terms / width) terms ≡ (first ∷ columns) ∷ []
      → ((db : Trees) (new : Comes table key first columns values (db table.tree)) (one : Written)
      → IsShaped TableShape (db table.tree)
      → Tries (task limit params) way clauses (Int new.id ∷ columns) db (Ok one)
      → IsPut columns values db one.trees)
      → SetsRow limit way clauses terms width params values
  sets limit way clauses terms width params first columns values fits whole source does db w wrote all was =
      let held = held_at db all was.rows in
      let tried = tries_one limit params way clauses db (first ∷ columns) terms width w source wrote in
      let comes = fits.comes (db table.tree) held.shaped in
      let row : with_rowid Chosen (db table.tree) (cast_row table (mended way table (first ∷ columns))) ≡ Int comes.id
      ∷ columns =
      ap (λ r. with_rowid Chosen (db table.tree) (cast_row table r)) whole
      ∙ ap₂ (λ v vs. with_rowid Chosen (db table.tree) (v ∷ vs)) fits.first_typed fits.typed ∙ comes.numbered in
      let put = does db comes tried.0 held.shaped
      (subst (λ n. Tries (task limit params) way clauses n db (Ok tried.0)) row tried.1) in
      let done = subst (IsPut columns values db) (sym tried.2) put in
      set_in (record { schema = schema; trees = db }) (record { schema = schema; trees = w.trees }) all _ was refl
      (put_holds db w.trees columns values (all table.tree) done held) done.others

  -- so does its text, run
  runs : (way : Conflict) (clauses : List Upsert) (text : List ℕ) (terms : List Term) (width : ℕ)
      → command_of (understood schema text) ≡ InsertOr at way (Values terms width) clauses
      → IsPlain (understood schema text)
      → (old new : State) (params values : Row) (count : ℕ)
      → SetsRow old.step_limit way clauses terms width params values → Executes text params old new (Ok count)
      → (all : Trees) → ContainsIn schema old.now all
      → ContainsIn schema new.now (with_tree all table.tree (put key (Null ∷ values) (all table.tree)))
  runs way clauses text terms width is simple old new params values count does h all was =
      let wrote = inserted old.step_limit params way clauses old new _ terms width count refl was.schema_is
      (runs_as text params old new schema was.schema_is _ is simple count h) in
      let now : new.now ≡ record { schema = schema; trees = wrote.1.trees } = database_is new.now wrote.0 wrote.3 in
      subst (λ (d : Database). ContainsIn schema d
      (with_tree all table.tree (put key (Null ∷ values) (all table.tree)))) (sym now)
      (does old.now.trees wrote.1 wrote.2 all
      (subst (λ (d : Database). ContainsIn schema d all) (database_is old.now was.schema_is refl) was))

  -- The text of such a statement, run, sets the key to the row.
  pub sets_by : (way : Conflict) (clauses : List Upsert) (text : List ℕ) (terms : List Term) (width : ℕ)
      → command_of (understood schema text) ≡ InsertOr at way (Values terms width) clauses
      → IsPlain (understood schema text)
      → (old new : State) (params values : Row) (r : Result ℕ Error)
      → ((limit : Option ℕ) → SetsRow limit way clauses terms width params values) → Executes text params old new r
      → OnOk r ((all : Trees) → ContainsIn schema old.now all
      → ContainsIn schema new.now (with_tree all table.tree (put key (Null ∷ values) (all table.tree))))
  sets_by way clauses text terms width is simple old new params values (Err e) sets h = tt
  sets_by way clauses text terms width is simple old new params values (Ok count) sets h =
      runs way clauses text terms width is simple old new params values count (sets old.step_limit) h

  -- INSERT OR REPLACE sets the key to the row.
  pub put_sets : (limit : Option ℕ) (terms : List Term) (width : ℕ) (params : Row) (first : Value)
      (columns values : Row) → Fits table key first columns values
      → value_rows params width (length terms / width) terms ≡ (first ∷ columns) ∷ []
      → SetsRow limit Replace [] terms width params values
  put_sets limit terms width params first columns values fits source =
      sets limit Replace [] terms width params first columns values fits (ap (λ vs. first ∷ vs) fits.whole) source
      (λ db comes one. replaces limit params first columns values fits db comes one)

  -- INSERT .. ON CONFLICT .. DO UPDATE sets the key to the row.
  pub upsert_sets : (limit : Option ℕ) (terms : List Term) (width : ℕ) (filter project : List Term)
      → ((db : Trees) → overlay db [] table.tree ≡ db table.tree)
      → (params : Row) (first : Value) (columns values : Row) → Fits table key first columns values
      → value_rows params width (length terms / width) terms ≡ (first ∷ columns) ∷ []
      → ((t r : Row) (id : ℤ)
      → list_all (holds ((params ++ rowid t ∷ shown table (Int id ∷ columns)) ∷ r ∷ [])) filter ≡ same_rowid r t)
      → ((t : Row) (id : ℤ) → same_key key (bare (places table) t) (Null ∷ values) ≡ true
      → eval_all project ((params ++ rowid t ∷ shown table (Int id ∷ columns)) ∷ t ∷ []) ≡ rowid t ∷ rowid t
      ∷ columns)
      → SetsRow limit Abort (on_conflict target table.tree filter project ∷ []) terms width params values
  upsert_sets limit terms width filter project own params first columns values fits source picked written =
      sets limit Abort (on_conflict target table.tree filter project ∷ []) terms width params first columns values fits
      refl source (λ db comes one shaped tried. upserts limit params first columns values fits filter project
      picked written db comes one shaped (own db) tried)
