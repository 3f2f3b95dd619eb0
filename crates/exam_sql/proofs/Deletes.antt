-- What a DELETE by the key leaves.
use Rattle.exam_sql.proofs.Words.{AllByRecursion, list_all, IsPermutation, IsPermutation-sym, Null, Row, Trees, rowid}
use Rattle.exam_sql.proofs.Words.{with_tree, IsShaped, filter-map, IsPermutation-filter, Term, col, holds, overlay}
use Rattle.exam_sql.proofs.Words.{Delete, Enforced, Schema, Table, Given, Has, id_in, edit_of, taken_by, without_all}
use Rattle.exam_sql.proofs.Words.{ids_of, has_filtered, has_kept, has_mapped, mapped_has, Database, Written, Tally}
use Rattle.exam_sql.proofs.Words.{Does, AtPlace, OnRows, State, mode_of, Writes, Executes, understood, Error, one_step}
use Rattle.exam_sql.proofs.Words.{IsPlain, command_of, runs_as, places, bare, Holds, ContainsIn, delete, same_key}
use Rattle.exam_sql.proofs.Words.{IsKeyed, one_table}
use Rattle.std.proofs.Common.{◌≡◌, ◌≢◌, ℕ, ℤ, List, [], ◌∷◌, map, filter, true, not, Ok, Err, Result, OnOk, None}
use Rattle.std.proofs.Common.{Option, refl, sym, ap, subst, ◌∙◌}
use Rattle.sqlite_trees.specs.declared.store.Shape.TheVariants.{Table as TableShape}
use Rattle.sqlite_trees.proofs.TreeLemmas.{IsShaped-filter}
use Rattle.sqlite_schema.specs.declared.program.Program.{Program}
use Rattle.sqlite.specs.Rows.{Deletes}
use Rattle.exam_sql.proofs.RowLemmas.{taken_out}
use Rattle.exam_sql.proofs.Queries.{picks, has_permuted}
use Rattle.exam_sql.proofs.Statements.{went, same_value, database_is, held_at, set_in, task, without}

module _ (schema : Schema) (at : ℕ) (table : Table) (key target : List ℕ) (keyed : IsKeyed schema at table key target)
    (terms : List Term) where
  -- the rows that have the key are taken out
  pub record IsDeleted (db next : Trees) (values : Row) : Type 0 where
    pub rows : next table.tree ≡ without schema at table key target keyed values (db table.tree)
    pub others : AllByRecursion (λ t. t.tree ≢ table.tree → next t.tree ≡ db t.tree) schema.tables

  pub delete_holds : (db next : Trees) (values : Row) (rows : List Row) → IsDeleted db next values
      → Holds (places table) (db table.tree) rows
      → Holds (places table) (next table.tree) (delete key (Null ∷ values) rows)
  delete_holds db next values rows gone held =
      let show = bare (places table) in
      let test = λ (r : Row). not (same_key key r (Null ∷ values)) in
      let kept : IsPermutation (map show (filter (λ r. test (show r)) (db table.tree))) (filter test rows) =
      subst (λ l. IsPermutation l (filter test rows)) (filter-map test show (db table.tree))
      (IsPermutation-filter test _ _ held.same) in
      record {
        shaped = subst (IsShaped TableShape) (sym gone.rows)
            (IsShaped-filter TableShape (λ r. test (show r)) (db table.tree) held.shaped);
        same = subst (λ l. IsPermutation (map show l) (filter test rows)) (sym gone.rows) kept;
      }

  finds_deleted : (db : Trees) (params : Row) (found : List Row) → IsShaped TableShape (db table.tree)
      → ((r : Row) → list_all (holds (params ∷ r ∷ [])) terms ≡ same_key key (bare (places table) r) (Null ∷ params))
      → IsPermutation (map (λ r. rowid r ∷ [])
      (filter (λ r. list_all (holds (params ∷ r ∷ [])) terms) (db table.tree))) found
      → without_all (db table.tree) (ids_of found) ≡ without schema at table key target keyed params (db table.tree)
  finds_deleted db params found shaped means same =
      taken_out (λ r. same_key key (bare (places table) r) (Null ∷ params)) (db table.tree)
      (ids_of found) shaped sound complete
    where
      sound : (n : ℤ) → Has (ids_of found) n
          → (r : Row) × Has (db table.tree) r × (same_key key (bare (places table) r) (Null ∷ params) ≡ true)
          × (n ≡ id_in (rowid r))
      sound n h =
          let x = has_mapped _ found n h in
          let r = has_mapped (λ (r : Row). rowid r ∷ []) _ x.0
          (has_permuted found _ x.0 (IsPermutation-sym _ _ same) x.1) in
          let it = has_filtered _ (db table.tree) r.0 r.1 in
          (r.0, it.0, sym (means r.0) ∙ it.1, x.2 ∙ ap (λ (r : Row). id_in (rowid r)) r.2)

      complete : (r : Row) → Has (db table.tree) r → same_key key (bare (places table) r) (Null ∷ params) ≡ true
          → Has (ids_of found) (id_in (rowid r))
      complete r h is =
          mapped_has (λ (x : Row). id_in (rowid x)) found (rowid r ∷ [])
          (has_permuted _ found (rowid r ∷ []) same
          (mapped_has (λ (r : Row). rowid r ∷ []) _ r (has_kept _ (db table.tree) r h (means r ∙ is))))

  abbrev pub taking : ℕ → Program
  taking tree = record { lets = []; body = one_table tree terms (col 1 0 ∷ []) [] }

  takes_out : (limit : Option ℕ) (db : Trees) (params : Row) (w : Written) → overlay db [] table.tree ≡ db table.tree
      → ((r : Row) → list_all (holds (params ∷ r ∷ [])) terms ≡ same_key key (bare (places table) r) (Null ∷ params))
      → IsShaped TableShape (db table.tree)
      → Deletes (task schema at table key target keyed limit params) (taking table.tree) db (Ok w)
      → IsDeleted db w.trees params
  takes_out limit db params w own means shaped wrote =
      let found = went wrote in
      let same = subst (λ rows. IsPermutation
      (map (λ r. rowid r ∷ []) (filter (λ r. list_all (holds (params ∷ r ∷ [])) terms) rows)) found.0) own
      (picks table.tree terms (col 1 0 ∷ []) [] (overlay db []) params found.0 (found.1.answer Null)) in
      let edit = edit_of db table (ids_of found.0) Given 0 [] in
      let it = went found.2 in
      let step = one_step schema Enforced db it.0 edit (keyed.still (taken_by db edit) edit.news) it.1 in
      let trees : w.trees ≡ it.0 = ap (λ (it : Written). it.trees) (same_value it.2) in
      record {
        rows = ap (λ (t : Trees). t table.tree) trees ∙ step.rows ∙ finds_deleted db params found.0 shaped means same;
        others = subst (λ (t : Trees). AllByRecursion (λ s. s.tree ≢ table.tree → t s.tree ≡ db s.tree) schema.tables)
            (sym trees) step.tables;
      }

  -- what a statement that deletes by the key does with the rows that it finds
  abbrev pub TakesRow : Option ℕ → Row → Type 0
  TakesRow limit params =
      (db : Trees) (w : Written)
      → Deletes (task schema at table key target keyed limit params) (taking table.tree) db (Ok w) → (all : Trees)
      → ContainsIn schema (record { schema = schema; trees = db }) all
      → ContainsIn schema (record { schema = schema; trees = w.trees })
      (with_tree all table.tree (delete key (Null ∷ params) (all table.tree)))

  -- DELETE takes the key away.
  pub delete_takes : (limit : Option ℕ) → ((db : Trees) → overlay db [] table.tree ≡ db table.tree) → (params : Row)
      → ((r : Row) → list_all (holds (params ∷ r ∷ [])) terms ≡ same_key key (bare (places table) r) (Null ∷ params))
      → TakesRow limit params
  delete_takes limit own params means db w wrote all was =
      let held = held_at schema at table key target keyed db all was.rows in
      let done = takes_out limit db params w (own db) means held.shaped wrote in
      set_in schema at table key target keyed (record { schema = schema; trees = db })
      (record { schema = schema; trees = w.trees }) all _ was refl
      (delete_holds db w.trees params (all table.tree) done held) done.others

  -- what a statement that deletes leaves is what its rows are
  deleted : (old new : State) (text : List ℕ) (params : Row) (count : ℕ) → old.now.schema ≡ schema
      → Writes old new None (Delete at (taking table.tree)) text params count
      → (new.now.schema ≡ schema) × (w : Written)
      × Deletes (task schema at table key target keyed old.step_limit params) (taking table.tree) old.now.trees
      (Ok w) × (new.now.trees ≡ w.trees)
  deleted old new text params count has w =
      let command = Delete at (taking table.tree) in
      let db = old.now.trees in
      let made = subst (λ s. Does old.step_limit (mode_of old) params (record old.now { schema = s }) text None command
      (Ok (w.tally, new.now))) has w.changed in
      let ran : OnRows (record
      { limit = old.step_limit; keys = Enforced; schema = schema; table = table; params = params })
      (mode_of old) None command db (Ok (w.tally, new.now)) =
      subst (λ o. AtPlace (λ t. OnRows
      (record { limit = old.step_limit; keys = Enforced; schema = schema; table = t; params = params })
      (mode_of old) None command db) o (Ok (w.tally, new.now))) keyed.place made in
      let all = went ran in
      let now : new.now ≡ record { schema = schema; trees = all.0.trees } =
      ap (λ (p : Tally × Database). p.1) (same_value (went (went all.2).2).2) in
      (ap (λ (d : Database). d.schema) now, all.0, all.1, ap (λ (d : Database). d.trees) now)

  -- The statement's text, run, takes the key away.
  pub delete_by : (text : List ℕ) → command_of (understood schema text) ≡ Delete at (taking table.tree)
      → IsPlain (understood schema text)
      → ((db : Trees) → overlay db [] table.tree ≡ db table.tree)
      → (old new : State) (params : Row) (r : Result ℕ Error)
      → ((r : Row) → list_all (holds (params ∷ r ∷ [])) terms ≡ same_key key (bare (places table) r) (Null ∷ params))
      → Executes text params old new r
      → OnOk r ((all : Trees) → ContainsIn schema old.now all
      → ContainsIn schema new.now (with_tree all table.tree (delete key (Null ∷ params) (all table.tree))))
  delete_by text is plain own old new params (Err e) means h = tt
  delete_by text is plain own old new params (Ok count) means h = λ all was.
      let wrote = deleted old new _ params count was.schema_is
      (runs_as text params old new schema was.schema_is _ is plain count h) in
      let now : new.now ≡ record { schema = schema; trees = wrote.1.trees } = database_is new.now wrote.0 wrote.3 in
      subst (λ (d : Database). ContainsIn schema d
      (with_tree all table.tree (delete key (Null ∷ params) (all table.tree)))) (sym now)
      (delete_takes old.step_limit own params means old.now.trees wrote.1 wrote.2 all
      (subst (λ (d : Database). ContainsIn schema d all) (database_is old.now was.schema_is refl) was))
