-- Why the version is not set: whatever rows the tables have, only a limit of steps that is too low prevents it.
use Rattle.exam_sql.proofs.Words.{AllByRecursion, list_all, list_any, is_eq, both_true, not-true, and_parts, cases_Bool}
use Rattle.exam_sql.proofs.Words.{eqb-true, false_from_ne_true, Null, Int, Row, value_cmp, plain, first_key, Trees}
use Rattle.exam_sql.proofs.Words.{rowid, IsShaped, Replace, InsertOr, Values, Unique, Enforced, Table, Index, passes}
use Rattle.exam_sql.proofs.Words.{equal, Refers, agree, table_reals, Chosen, Given, ids_of, cast_row, edit_of}
use Rattle.exam_sql.proofs.Words.{with_rowid, without_all, id_in, is_taken, taken_by, Has, all_has, all_from, test_has}
use Rattle.exam_sql.proofs.Words.{has_filtered, some_has, int_is, Error, SqliteFailure, Task, Written, Edited, Puts}
use Rattle.exam_sql.proofs.Words.{Clears, Tries, TriesEach, InsertsOr, count_of, mended, nothing, Does, OnRows}
use Rattle.exam_sql.proofs.Words.{Database, IsDatabase, understood, State, ExecutesInside, text_of, IsPlain, command_of}
use Rattle.exam_sql.proofs.Words.{one_step, ContainsIn, bare, places, same_key, same_rowid, Fails, Refuses}
use Rattle.exam_sql.proofs.Words.{store_schema}
use Rattle.std.proofs.Common.{◌≡◌, ◌⊎◌, ◌==◌, ◌||◌, ◌&&◌, not, inl, inr, ℕ, ℤ, zero, suc, pos, negsuc, List, [], ◌∷◌}
use Rattle.std.proofs.Common.{length, Bool, true, false, None, Some, Option, Ok, Err, refl, sym, ap, ap₂, subst, ◌∙◌}
use Rattle.std.proofs.Common.{arith, IsSome, lit≤, lit<, length-append, true≢false, All, Equal}
use Rattle.std.proofs.lemmas.Bool.{eqb-false}
use Rattle.std.specs.Float.{NotNan}
use Rattle.std.proofs.lemmas.Nat.Bits.{bit_at-zero}
use Rattle.sqlite_value.specs.Order.{number}
use Rattle.sqlite_value.specs.Keys.{joined}
use Rattle.sqlite_trees.specs.declared.store.Shape.TheVariants.{Table as TableShape}
use Rattle.sqlite_trees.specs.View.{IsStorableRow}
use Rattle.sqlite_sql.specs.Ops.{fits_i64}
use Rattle.sqlite_schema.specs.declared.schema.Constraint.{Constraint}
use Rattle.sqlite_schema.specs.declared.schema.Constraint.TheVariants.{Datatype, NotNull, Check, PrimaryKey, ForeignKey}
use Rattle.sqlite_schema.specs.declared.schema.Among.TheVariants as among
use Rattle.sqlite_schema.specs.declared.schema.Reference.{Reference}
use Rattle.sqlite_schema.specs.Names.{same_name}
use Rattle.sqlite_schema.specs.Rules.{guards, clashes, Keeps, ParentKey, parent_key, has_null, is_held, is_among}
use Rattle.sqlite_schema.specs.Rules.{has_parent, references_fit}
use Rattle.sqlite_rules.specs.declared.error.Refusal.{Refusal}
use Rattle.sqlite_rules.specs.declared.error.Refusal.TheVariants.{Violates, Mismatch, NoRowid, BadReference, TooDeep}
use Rattle.sqlite_rules.specs.Action.{Leads, Writes}
use Rattle.sqlite_rules.specs.Edit.{Edit, left_by, IsRefused, IsOversized, are_fresh, have_rowids}
use Rattle.sqlite_rules.specs.Steps.{IsJudged}
use Rattle.sqlite_rules.proofs.ListLemmas.{test_from}
use Rattle.sqlite.specs.declared.error.ErrorCode.TheVariants.{OperationInterrupted}
use Rattle.sqlite.specs.Rows.{Sourced, stamped}
use Rattle.sqlite.specs.Does.{Concludes}
use Rattle.exam_sql.specs.Refusals.{at_once}
use Rattle.exam_sql.specs.Tables as tables
use Rattle.exam_sql.proofs.Fits.{Comes}
use Rattle.exam_sql.proofs.Keys.{cast_int, cast_null, equal_is, equal_itself, same_ints}
use Rattle.exam_sql.proofs.KeysHold.{on_insert}
use Rattle.exam_sql.proofs.OfOffice as office
use Rattle.exam_sql.proofs.Statements.{finds, replaces, tries_one, without, held_at, database_is}
use Rattle.exam_sql.proofs.KeysHold.{first_of}

-- the first table has no index
unguarded : list_all
    (λ (t : Table). not (t.tree == 0) || list_all (λ i. not (guards i t)) store_schema.indexes) store_schema.tables
    ≡ true
unfolding store_schema
unguarded = refl

unindexed : list_all (λ (i : Index). not (i.table == 0)) store_schema.indexes ≡ true
unfolding store_schema
unindexed = refl

-- it refers to no other
rootless : list_all (λ (t : Table). not (t.tree == 0) || (length t.references == 0)) store_schema.tables ≡ true
unfolding store_schema
rootless = refl

-- the key is that of a table other than the first
abbrev is_elsewhere : Option ParentKey → Bool
is_elsewhere None = true
is_elsewhere (Some key) = not (key.0 == 0) && list_any (λ (t : Table). t.tree == key.0) store_schema.tables

-- and no other refers to it
childless : list_all
    (λ (t : Table). list_all (λ (ref : Reference). is_elsewhere (parent_key store_schema.tables ref)) t.references)
    store_schema.tables ≡ true
unfolding store_schema same_name joined
childless = refl

fit_references : (adds removes : Bool) → references_fit store_schema tables.office.table adds removes ≡ true
unfolding store_schema same_name
fit_references true true = refl
fit_references true false = refl
fit_references false true = refl
fit_references false false = refl

-- where it is the table with this tree
of_first : (test : Table → Bool) → list_all (λ (t : Table). not (t.tree == 0) || test t) store_schema.tables ≡ true
    → (t : Table) → Has store_schema.tables t → (t.tree == 0) ≡ true → test t ≡ true
of_first test all t has is =
    rw is at (test_has (λ (t : Table). not (t.tree == 0) || test t) store_schema.tables t all has)

none_of : {X : Type 0} (test : X → Bool) (xs : List X) → (length xs == 0) ≡ true → list_all test xs ≡ true
none_of test [] is = refl
none_of test (x ∷ xs) is = let zero : length (x ∷ xs) ≡ 0 = eqb-true _ _ is in absurd (omega arith)

-- each other table has the rows that it had
abbrev KeepsOthers : Trees → Trees → Type 0
KeepsOthers db next = (t : Table) → Has store_schema.tables t → (t.tree == 0) ≡ false → next t.tree ≡ db t.tree

-- so UNIQUE holds still
keeps_unique : (db next : Trees) → KeepsOthers db next → Keeps Unique store_schema db → Keeps Unique store_schema next
keeps_unique db next others was = all_from _ store_schema.tables (λ t has. by_tree t has (cases_Bool (t.tree == 0)))
  where
    alone : (t : Table) → Has store_schema.tables t → (t.tree == 0) ≡ true → (r : Row)
        → passes Unique store_schema next t r ≡ true
    alone t has is r = test_from _ store_schema.indexes
        (λ i hi. let none : guards i t ≡ false =
        not-true _ (test_has (λ i. not (guards i t)) store_schema.indexes i
        (of_first (λ t. list_all (λ i. not (guards i t)) store_schema.indexes) unguarded t has is) hi) in rw none refl)

    by_tree : (t : Table) → Has store_schema.tables t → ((t.tree == 0) ≡ true) ⊎ ((t.tree == 0) ≡ false)
        → AllByRecursion (λ r. passes Unique store_schema next t r ≡ true) (next t.tree)
    by_tree t has (inl is) = all_from _ (next t.tree) (λ r hr. alone t has is r)
    by_tree t has (inr other) =
        subst (λ l. AllByRecursion
        (λ r. list_all (λ i. not (guards i t && clashes i.order i.columns l r)) store_schema.indexes ≡ true) l)
        (sym (others t has other)) (all_has _ store_schema.tables t was has)

-- and so do the foreign keys
module _ (db next : Trees) (others : KeepsOthers db next) where
  same_parent : (r : Row) (columns : List ℕ) (key : Option ParentKey) → is_elsewhere key ≡ true
      → is_held next columns r key ≡ is_held db columns r key
  same_parent r columns None away = refl
  same_parent r columns (Some key) away =
      let t = some_has (λ (t : Table). t.tree == key.0) store_schema.tables (and_parts _ _ away).1 in
      let at : t.0.tree ≡ key.0 = eqb-true _ _ t.2 in
      let apart : (t.0.tree == 0) ≡ false = ap (λ n. n == 0) at ∙ not-true _ (and_parts _ _ away).0 in
      ap (list_any (λ parent. agree key.2 key.1 parent columns r))
      (subst (λ n. next n ≡ db n) at (others t.0 t.1 apart))

  still_refers : Keeps ForeignKey store_schema db → Refers among.All store_schema next
  still_refers was = all_from _ store_schema.tables (λ t has. by_tree t has (cases_Bool (t.tree == 0)))
    where
      of_row : (t : Table) → Has store_schema.tables t → (r : Row) → Has (db t.tree) r
          → list_all (λ ref. not (is_among among.All ref) || has_parent store_schema.tables next r ref) t.references
          ≡ true
      of_row t has r hr =
          test_from _ t.references (λ ref href.
          let away = test_has (λ (ref : Reference). is_elsewhere (parent_key store_schema.tables ref)) t.references ref
          (test_has (λ (t : Table). list_all
          (λ (ref : Reference). is_elsewhere (parent_key store_schema.tables ref)) t.references)
          store_schema.tables t childless has) href in
          ap (λ b. has_null ref.columns r || b) (same_parent r ref.columns (parent_key store_schema.tables ref) away)
          ∙ test_has (has_parent store_schema.tables db r) t.references ref
          (all_has _ (db t.tree) r (all_has _ store_schema.tables t was has) hr) href)

      by_tree : (t : Table) → Has store_schema.tables t → ((t.tree == 0) ≡ true) ⊎ ((t.tree == 0) ≡ false)
          → AllByRecursion (λ r. list_all
          (λ ref. not (is_among among.All ref) || has_parent store_schema.tables next r ref) t.references ≡ true)
          (next t.tree)
      by_tree t has (inl is) =
          all_from _ (next t.tree)
          (λ r hr. none_of (λ ref. not (is_among among.All ref) || has_parent store_schema.tables next r ref)
          t.references (of_first (λ t. length t.references == 0) rootless t has is))
      by_tree t has (inr other) =
          subst (λ l. AllByRecursion
          (λ r. list_all (λ ref. not (is_among among.All ref) || has_parent store_schema.tables next r ref)
          t.references ≡ true) l) (sym (others t has other)) (all_from _ (db t.tree) (of_row t has))

-- ---- one step of the statement

module _ (db : Trees) (gone : List ℤ) (sources news : List Row) where
  abbrev step : Edit
  step = edit_of db tables.office.table gone Given 0 sources

  -- its rows pass the rules that look at a row alone, and have free rowids
  record Passes : Type 0 where
    is : step.news ≡ news
    datatype : list_all (passes Datatype store_schema db tables.office.table) news ≡ true
    not_null : list_all (passes NotNull store_schema db tables.office.table) news ≡ true
    check : list_all (passes Check store_schema db tables.office.table) news ≡ true
    fresh : are_fresh (left_by db step) news ≡ true
    rowids : have_rowids news ≡ true
    fit : list_all (λ r. fits_i64 (id_in (rowid r))) news ≡ true
    small : (r : Row) → Has news r → IsOversized store_schema tables.office.table r → ⊥

  module _ (pass : Passes) (unique : Keeps Unique store_schema db) where
    not_refused : (why : Refusal) → IsRefused store_schema Enforced db step why → ⊥
    not_refused (Violates Datatype) bad =
        absurd (true≢false (sym pass.datatype
        ∙ subst (λ l. list_all (passes Datatype store_schema db tables.office.table) l ≡ false) pass.is bad))
    not_refused (Violates NotNull) bad =
        absurd (true≢false (sym pass.not_null
        ∙ subst (λ l. list_all (passes NotNull store_schema db tables.office.table) l ≡ false) pass.is bad))
    not_refused (Violates Check) bad =
        absurd (true≢false (sym pass.check
        ∙ subst (λ l. list_all (passes Check store_schema db tables.office.table) l ≡ false) pass.is bad))
    not_refused (Violates PrimaryKey) bad =
        absurd (true≢false (sym pass.fresh ∙ subst (λ l. are_fresh (left_by db step) l ≡ false) pass.is bad))
    not_refused (Violates Unique) bad = bad (keeps_unique db _ (λ t has other. rw other refl) unique)
    not_refused (Violates ForeignKey) bad = bad
    not_refused Mismatch bad = absurd (true≢false (sym pass.rowids ∙ subst (λ l. have_rowids l ≡ false) pass.is bad))
    not_refused NoRowid bad =
        absurd (true≢false (sym pass.fit
        ∙ subst (λ l. list_all (λ r. fits_i64 (id_in (rowid r))) l ≡ false) pass.is bad))
    not_refused BadReference bad = absurd (true≢false (sym (fit_references _ _) ∙ bad))
    not_refused TooDeep bad = bad

    -- no action follows
    settled : (next : Trees) (why : Option Refusal) (n : ℕ) → Leads store_schema Enforced n next [] (Err why) → ⊥
    settled next why zero h = absurd (let e = h.1 in cc)
    settled next why (suc n) h = absurd (omega (arith, ap length h.2, length-append h.0 (h.1 ∷ [])))

    not_stopped : (why : Option Refusal) → Writes store_schema Enforced db step (Err why) → ⊥
    not_stopped why (inl (for, refused, same)) = not_refused for refused
    not_stopped why (inr (inl (r, has, big, same))) = pass.small r (subst (λ l. Has l r) pass.is has) big
    not_stopped why (inr (inr (next, applies, settles))) =
        settled next why settles.0 (rw (office.keyed.still (taken_by db step) step.news) at settles.1)

-- rows that are only taken out
takes_pass : (db : Trees) (gone : List ℤ) → Passes db gone [] []
takes_pass db gone =
    record {
      is = refl;
      datatype = refl;
      not_null = refl;
      check = refl;
      fresh = refl;
      rowids = refl;
      fit = refl;
      small = λ r none big. none;
    }

module _ (version : ℤ) where
  abbrev row : Row
  row = Int (pos 1) ∷ Null ∷ Int version ∷ []

  abbrev values : Row
  values = office.row (pos 1) version

  whole : (n : ℤ) → NotNan (number (Int n))
  unfolding lib.Ieee.is_nan
  whole (pos n) = tt
  whole (negsuc n) = tt

  storable : IsStorableRow (table_reals tables.office.table) row
  unfolding lib.Ieee.is_nan
  storable = (
    record {
      typed = λ c set. absurd (let zero : 0 ≡ 1 = sym (bit_at-zero c) ∙ set in cc);
      columns = (lit< tt, lit≤ tt);
      numbers = numbered;
      short = lit≤ tt;
    },
    lit< tt,
  )
    where
      numbered : All (λ v. NotNan (number v)) row
      numbered zero d below = tt
      numbered (suc zero) d below = tt
      numbered (suc (suc zero)) d below = whole version
      numbered (suc (suc (suc k))) d below = absurd (omega arith)

  small : (r : Row) → Has (row ∷ []) r → IsOversized store_schema tables.office.table r → ⊥
  small r (inl is) (inl long) = long (subst (IsStorableRow (table_reals tables.office.table)) (sym is) storable)
  small r (inr off) (inl long) = absurd off
  small r has (inr (i, hi, at, long)) =
      true≢false (sym (ap (λ n. n == 0) at)
      ∙ not-true _ (test_has (λ (i : Index). not (i.table == 0)) store_schema.indexes i unindexed hi))

  cast_is : cast_row tables.office.table row ≡ row
  cast_is = ap₂ (λ v vs. v ∷ vs) (cast_int (pos 1)) (simp (cast_null, cast_int))

  -- the row, where its rowid is free
  put_passes : (db : Trees) → is_taken (db 0) row ≡ false → Passes db [] (row ∷ []) (row ∷ [])
  put_passes db free =
      record {
        is = ap (λ r. r ∷ []) cast_is;
        datatype = refl;
        not_null = refl;
        check = refl;
        fresh = rw free refl;
        rowids = refl;
        fit = refl;
        small = small;
      }

  -- the rows without the key
  abbrev left : List Row → List Row
  left = without store_schema 0 tables.office.table (1 ∷ []) (0 ∷ []) office.keyed values

  -- what the row becomes beside the rows that are there
  abbrev comes : (rows : List Row)
      → Comes tables.office.table (1 ∷ []) (Int (pos 1)) (office.columns (pos 1) version) values rows
  comes rows = record { id = pos 1; numbered = refl; full = refl; tied = λ r h same. same }

  -- none has its rowid
  free : (rows : List Row) → IsShaped TableShape rows → is_taken (left rows) row ≡ false
  free rows shaped =
      false_from_ne_true _ (λ taken.
      let r = some_has (λ r. is_eq (value_cmp (rowid r) (Int (pos 1)))) (left rows) taken in
      let inside = has_filtered
      (λ r. not (same_key (1 ∷ []) (bare (places tables.office.table) r) (Null ∷ values))) rows r.0 r.1 in
      let lies = int_is (rowid r.0) (all_has _ rows r.0 shaped.1 inside.0) in
      let one : id_in (rowid r.0) ≡ pos 1 =
      same_ints _ _ (subst (λ v. value_cmp v (Int (pos 1)) ≡ Equal) lies (equal_is _ r.2)) in
      let same : same_rowid r.0 row ≡ true =
      subst (λ v. (equal (first_key plain).collation v (Int (pos 1)) && true) ≡ true) (sym (lies ∙ ap Int one))
      (both_true (equal_itself (pos 1)) refl) in
      true≢false (sym ((comes rows).tied r.0 inside.0 same) ∙ not-true _ inside.1))

  abbrev given : Row
  given = Int version ∷ []

  module _ (limit : Option ℕ) (db : Trees) (shaped : IsShaped TableShape (db 0))
      (rules : (rule : Constraint) → Keeps rule store_schema db) where
    abbrev office_task : Task
    office_task = record
        { limit = limit; keys = Enforced; schema = store_schema; table = tables.office.table; params = given }

    abbrev TooFew : Option Error → Type 0
    TooFew stop = (stop ≡ Some (SqliteFailure OperationInterrupted)) × IsSome limit

    sourced : (stop : Option Error)
        → Sourced limit (record { schema = store_schema; trees = db }) (stamped tables.office.table given)
        (Values office.terms 3) (Err stop) → TooFew stop
    sourced None h = absurd h
    sourced (Some e) (inl typed) = absurd (true≢false typed.1)
    sourced (Some e) (inr few) = (ap Some few.0, few.1)

    puts : (mid : Trees) → is_taken (mid 0) row ≡ false → Keeps Unique store_schema mid → (stop : Option Error)
        → Puts office_task row mid (Err stop) → ⊥
    puts mid is_free unique stop (inl (s, it, same)) = edit_stops s it
      where
        edit_stops : (s : Option Error) → Edited store_schema Enforced mid (step mid [] (row ∷ []) (row ∷ [])) (Err s)
            → ⊥
        edit_stops s it = not_stopped mid [] (row ∷ []) (row ∷ []) (put_passes mid is_free) unique it.0 it.1
    puts mid is_free unique stop (inr (next, it, ended)) = absurd (let e = ended in cc)

    clears : (found : List Row) → without_all (db 0) (ids_of found) ≡ left (db 0) → (stop : Option Error)
        → Clears office_task Replace row db found (Err stop) → ⊥
    clears [] is stop h =
        puts db (subst (λ l. is_taken l row ≡ false) (sym is) (free (db 0) shaped)) (rules Unique) stop h
    clears (x ∷ more) is stop (inl (s, it, same)) = edit_stops s it
      where
        edit_stops : (s : Option Error) → Edited store_schema Enforced db (step db (ids_of (x ∷ more)) [] []) (Err s)
            → ⊥
        edit_stops s it = not_stopped db (ids_of (x ∷ more)) [] [] (takes_pass db (ids_of (x ∷ more)))
            (rules Unique) it.0 it.1
    clears (x ∷ more) is stop (inr (mid, it, h)) =
        let edit = step db (ids_of (x ∷ more)) [] [] in
        let applied = one_step store_schema Enforced db mid edit (office.keyed.still (taken_by db edit) edit.news) it in
        puts mid (subst (λ l. is_taken l row ≡ false) (sym (applied.rows ∙ is)) (free (db 0) shaped))
        (applied.fits.rules Unique (λ e. cc)) stop h

    tries : (stop : Option Error) → Tries office_task Replace [] row db (Err stop) → ⊥
    tries stop (inl (off, same)) = absurd cc
    tries stop (inr (Some why, judged, h)) = misjudged why judged
      where
        misjudged : (why : Refusal) → IsJudged tables.office.table row (Some why) → ⊥
        misjudged Mismatch bad = absurd (true≢false bad)
        misjudged NoRowid bad = bad
        misjudged BadReference bad = bad
        misjudged TooDeep bad = bad
        misjudged (Violates Datatype) bad = absurd (true≢false bad)
        misjudged (Violates NotNull) bad = absurd (true≢false bad)
        misjudged (Violates Check) bad = absurd (true≢false bad)
        misjudged (Violates PrimaryKey) bad = bad
        misjudged (Violates Unique) bad = bad
        misjudged (Violates ForeignKey) bad = bad
    tries stop (inr (None, judged, (found, are, h))) =
        clears found (finds store_schema 0 tables.office.table (1 ∷ []) (0 ∷ []) office.keyed limit given (Int (pos 1))
        (office.columns (pos 1) version) values (office.fits (pos 1) version) db (comes (db 0)) found shaped are)
        stop h

    -- the source row is the row
    tried_is : with_rowid Chosen (db 0) (cast_row tables.office.table (mended Replace tables.office.table row)) ≡ row
    tried_is = ap (with_rowid Chosen (db 0)) cast_is

    inserts : (stop : Option Error) → InsertsOr office_task Replace [] (Values office.terms 3) db (Err stop)
        → TooFew stop
    inserts stop (inl it) =
        sourced stop (first_of
        {First = λ s. Sourced limit (record { schema = store_schema; trees = db }) (stamped tables.office.table given)
        (Values office.terms 3) (Err s)} stop it)
    inserts stop (inr (rows, is, inl counter)) = absurd (let e = counter.1 in cc)
    inserts stop (inr (rows, is, inr (counter, counted, inl each))) =
        absurd (of_each each.0
        (subst (λ l. TriesEach office_task Replace [] l (count_of counter) (nothing db) (Err each.0)) is.1 each.1))
      where
        of_each : (s : Option Error)
            → TriesEach office_task Replace [] (row ∷ []) (count_of counter) (nothing db) (Err s) → ⊥
        of_each s (inl (t, it, same)) = tries t (subst (λ r. Tries office_task Replace [] r db (Err t)) tried_is it)
        of_each s (inr (one, it, ended)) = absurd (let e = ended in cc)
    inserts stop (inr (rows, is, inr (counter, counted, inr (done, each, inl counts)))) =
        absurd (let e = counts.1 in cc)
    inserts stop (inr (rows, is, inr (counter, counted, inr (done, each, inr ended)))) = absurd (let e = ended.2 in cc)

    -- each other table keeps its rows
    others : (w : Written) → InsertsOr office_task Replace [] (Values office.terms 3) db (Ok w) → KeepsOthers db w.trees
    others w wrote t has other =
        let one = tries_one store_schema 0 tables.office.table (1 ∷ [])
        (0 ∷ []) office.keyed limit given Replace [] db row office.terms 3 w refl wrote in
        let put = replaces store_schema 0 tables.office.table (1 ∷ []) (0 ∷ []) office.keyed limit given (Int (pos 1))
        (office.columns (pos 1) version) values (office.fits (pos 1) version) db (comes (db 0)) one.0 shaped
        (subst (λ r. Tries office_task Replace [] r db (Ok one.0)) tried_is one.1) in
        ap (λ (d : Trees). d t.tree) one.2 ∙ all_has _ store_schema.tables t put.others has (eqb-false t.tree 0 other)

    concludes : (w : Written) → InsertsOr office_task Replace [] (Values office.terms 3) db (Ok w)
        → (stop : Option Error) → Concludes office_task at_once None w (Err stop) → TooFew stop
    concludes w wrote stop (inl tested) =
        absurd (tested.1.0 (still_refers db w.trees (others w wrote) (rules ForeignKey)))
    concludes w wrote stop (inr (in_doubt, holds, inl returns)) = absurd (let e = returns.1 in cc)
    concludes w wrote stop (inr (in_doubt, holds, inr ended)) = absurd (let e = ended.2 in cc)

    on_rows : (stop : Option Error)
        → OnRows office_task at_once None (InsertOr 0 Replace (Values office.terms 3) []) db (Err stop) → TooFew stop
    on_rows stop (inl it) =
        inserts stop (first_of {First = λ s. InsertsOr office_task Replace [] (Values office.terms 3) db (Err s)} stop
        it)
    on_rows stop (inr (w, wrote, ended)) = concludes w wrote stop ended

  module _ (limit : Option ℕ) (db : Database) (all : Trees) (was : ContainsIn store_schema db all)
      (rules : (rule : Constraint) → Keeps rule store_schema db.trees) where
    -- what the database has of the text
    few : Refuses limit db office.put_text given → IsSome limit
    few (c, known, stop, does) =
        let at : understood store_schema office.put_text ≡ Ok c =
        ap (λ s. understood s office.put_text) (sym was.schema_is) ∙ known in
        let plain : (c.returning ≡ None) × (c.formats ≡ []) = subst IsPlain at office.put_plain in
        let command : c.command ≡ InsertOr 0 Replace (Values office.terms 3) [] =
        sym (ap command_of at) ∙ office.put_is in
        let ran : Does limit at_once given (record { schema = store_schema; trees = db.trees })
        (text_of office.put_text c) None (InsertOr 0 Replace (Values office.terms 3) []) (Err stop) =
        subst (λ d. Does limit at_once given d (text_of office.put_text c) None
        (InsertOr 0 Replace (Values office.terms 3) []) (Err stop)) (database_is db was.schema_is refl)
        (rw (plain.0, command) at does) in
        (on_rows limit db.trees
        (held_at store_schema 0 tables.office.table (1 ∷ []) (0 ∷ []) office.keyed db.trees all was.rows).shaped
        rules stop
        (on_insert store_schema 0 tables.office.table (1 ∷ [])
        (0 ∷ []) office.keyed Replace [] office.terms 3 limit given
        (text_of office.put_text c) db.trees stop ran)).1

-- It fails because memory runs out, because the disk or the connection fails, or because the steps are limited.
pub version_fails : (old new : State) (all : Trees) (version : ℤ) → ContainsIn store_schema old.now all
    → ((rule : Constraint) → Keeps rule store_schema old.now.trees)
    → (e : Error) → ExecutesInside 0 office.put_text (Int version ∷ []) old new (Err e)
    → Fails old new (IsSome old.step_limit) e
version_fails old new all version was rules e ran =
    narrow ((office.put_answers old new version was.schema_is).fails e ran)
  where
    narrow : Fails old new (Refuses old.step_limit old.now office.put_text (Int version ∷ [])) e
        → Fails old new (IsSome old.step_limit) e
    narrow (inl lacks) = inl lacks
    narrow (inr (named, inl down)) = inr (named, inl down)
    narrow (inr (named, inr refused)) = inr (named, inr (few version old.step_limit old.now all was rules refused))

-- a database whose tables are sound obeys each rule
pub sound_rules : (db : Database) → db.schema ≡ store_schema → IsDatabase db → (rule : Constraint)
    → Keeps rule store_schema db.trees
sound_rules db has sound rule = subst (λ s. Keeps rule s db.trees) has (sound.obeys.rules rule)
