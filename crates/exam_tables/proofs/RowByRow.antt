-- A table that is read a row at a time: what each step finds, and what the scan answers.
use Rattle.exam_tables.proofs.Words.{is_at, lookup, IsTotalOrder, IsPermutation, IsStrictlySortedBy, IsPermutation-refl}
use Rattle.exam_tables.proofs.Words.{Row, Ghosts, Database, Held, state, State, FailsToQuery, HasCleanDisk, IsNotRun}
use Rattle.exam_tables.proofs.Words.{IsUnchanged, Survives, Error, unchanged_then, Refusal, BadStore, NoMemory}
use Rattle.exam_tables.proofs.Words.{failed_unchanged, KeysRise, refusal_of, Form, KeysMatch, table_part}
use Rattle.std.proofs.Common.{◌≡◌, ◌⊎◌, ℕ, List, [], ◌∷◌, ◌++◌, Option, Some, None, Result, Ok, Err, inl, inr}
use Rattle.std.proofs.Common.{refl, sym, ap, subst, ◌∙◌, ◌<◌, length, length-append, get_or, IfErr, OnErr, OnOk, IsSome}
use Rattle.std.proofs.Common.{IsTrue, arith}
use Rattle.std.specs.Option.{ok_or}
use Rattle.std.specs.declared.cmp.Ordering.{Ordering}
use Rattle.std.specs.BTreeMap.{BTreeMap}
use Rattle.sqlite_trees.proofs.ListLemmas.{all-permutation}
use Rattle.sqlite_schema.specs.declared.schema.Schema.{Schema}
use Rattle.sqlite_resolve.specs.declared.compiled.Compiled.{Compiled}
use Rattle.sqlite.specs.Clock.{timed}
use Rattle.sqlite.specs.Effect.{RefusesToRead}
use Rattle.sqlite.specs.Given.{Advances, GivesOn, HasGiven, IsRefused}
use Rattle.sqlite.specs.Listing.{understood, reads_listing, IsSourceOf}
use Rattle.sqlite.specs.State.{Begins, FailsToShow, IsStatement}
use Rattle.sqlite.proofs.Callers.{EndsIn, begins_shown, command_of, given_begin}
use Rattle.sqlite.proofs.StreamLemmas.{fails_since, given_plain}
use Rattle.exam_sql.specs.Loads.{IsLoad}
use Rattle.exam_sql.proofs.Loads.{load_fails, shown_by}
use Rattle.exam_tables.specs.Faults.{is_store_refusal}
use Rattle.exam_tables.specs.Forms.{IsOurTable}
use Rattle.exam_tables.specs.Loaded.{AreRowsOf, FailsToLoadFrom, IsUnderstood}
use Rattle.exam_tables.specs.Parts.{LoadingBy, LoadsOr, Part, scanned_part}
use Rattle.exam_tables.specs.declared.scanning.Next.TheVariants as next
use Rattle.exam_tables.specs.Scanned.{BeginNone, Goes, Scans}
use Rattle.exam_tables.proofs.Inserting.{one_read}
use Rattle.exam_tables.proofs.Leaving.{bad_unchanged, left_then, not_bad_store, shown_understood, understood_before}
use Rattle.exam_tables.proofs.Refusing.{no_form, no_twice, rows_held, rows_shown}

-- a call that does nothing leaves what there was
pub survives_itself : (s : State) → Survives s s (λ _. ⊥)
survives_itself s = record {
  clean = omega arith;
  shield = λ x. x;
  counts = omega arith;
  limit = refl;
  closes = λ clean going. inl going;
  crash = λ clean db may. inl may;
}

-- a query that was refused
pub refused_fails : {S X : Type 0} (g : Ghosts S) (sql : List ℕ) (params : Row) (old new : Held S)
    (result : Result X Error) (e : Error) → result ≡ Err e → OnErr result (IsRefused g sql params old result new)
    → HasCleanDisk (state g new) → FailsToQuery sql params (state g old) (state g new) e
refused_fails g sql params old new (Ok rows) e is held clean = absurd cc
refused_fails g sql params old new (Err f) e is held clean = let same : f ≡ e =
    cc in subst (FailsToQuery sql params (state g old) (state g new)) same (held.err clean)

-- what is said of a row that is refused as bad
pub of_bad : {P : Type 0} (e : Refusal) → e ≡ BadStore → (e ≡ NoMemory) ⊎ ((e ≡ BadStore) × P) → P
of_bad e bad (inl lacks) = absurd (let same : NoMemory ≡ BadStore = sym lacks ∙ bad in cc)
of_bad e bad (inr (is, says)) = says

-- a connection that gives rows is open, and does nothing by that
pub still_open : {S : Type 0} (g : Ghosts S) (sql : List ℕ) (params : Row) (h : Held S) (given : List Row)
    → HasGiven g sql params h given → IsUnchanged (state g h) (state g h)
unfolding HasGiven
still_open g sql params h given reads = (
  record { was_open = reads.0.is_open; is_open = reads.0.is_open; now_is = refl; committed_is = refl; mode = refl },
  record { changes = refl; last_rowid = refl },
  refl,
)

-- its text is understood
given_understood : {S : Type 0} (g : Ghosts S) (text : List ℕ) (h : Held S) (given : List Row)
    → HasGiven g text [] h given → IsUnderstood (state g h).now text
unfolding Begins
given_understood g text h given reads = let begun = given_begin g text [] h given reads in (begun.0, begun.1.is)

-- A query without RETURNING that fails has failed also from an earlier state, if nothing has changed since.
module _ (text : List ℕ) (old mid new : State) (same : IsUnchanged old mid) (kept : Survives old mid (λ _. ⊥))
    (plain : (c : Compiled) → understood old.now.schema text ≡ Ok c → c.returning ≡ None) where
  abbrev since : (c : Compiled) → IsStatement mid text [] c → IsStatement old text [] c
  since c h = record {
    is = subst (λ (d : Database). understood d.schema text ≡ Ok c) same.0.now_is h.is;
    whole = h.whole;
    given = h.given;
    now = h.now;
  }

  pub fails_to_query_since : (e : Error) → FailsToQuery text [] mid new e → FailsToQuery text [] old new e
  unfolding FailsToQuery IsNotRun
  fails_to_query_since e (inl (inl h)) = inl (inl (rw (← same.0.now_is) h.0, unchanged_then old mid new same h.1))
  fails_to_query_since e (inl (inr h)) = inl (inr (fails_since old mid new same kept.counts e h))
  fails_to_query_since e (inr h) =
      let none = plain h.0 (since h.0 h.1).is in
      let full = timed [] h.0.formats h.1.now in
      let it = subst (FailsToShow mid new text h.0 full e) none h.2 in
      inr (
        h.0,
        since h.0 h.1,
        subst (FailsToShow old new text h.0 full e) (sym none) (
          it.0,
          subst (λ (d : Database). IsSourceOf (reads_listing d.schema text) d it.0) same.0.now_is it.1,
          subst (λ l. RefusesToRead l h.0.command it.0 full e) kept.limit it.2,
          unchanged_then old mid new same it.3,
        ),
      )

-- no table of a text that loads is computed by rounds
ends : {schema : Schema} {tree : ℕ} {text : List ℕ} → IsLoad schema tree text → (s : State) → s.now.schema ≡ schema
    → (c : Compiled) (db : Database) (it : IsStatement s text [] c)
    → IsSourceOf (reads_listing s.now.schema text) s.now db → EndsIn c.command db (timed [] c.formats it.now)
ends {schema} {tree} {text} load s has c db it source =
    let known : understood schema text ≡ Ok c = ap (λ d. understood d text) (sym has) ∙ it.is in
    subst (λ k. EndsIn k db (timed [] c.formats it.now)) (sym load.is ∙ ap command_of known) tt

-- no rows are those of no entries
pub nothing_read : {K X : Type 0} (cmp : K → K → Ordering) (IsRow : K → X → Type 0) (row : K → X → Row)
    → AreRowsOf cmp IsRow row [] []
unfolding IsStrictlySortedBy
nothing_read cmp IsRow row = record { rises = tt; forms = tt; same = IsPermutation-refl [] }

-- the row after those that were given
middle : (given tail : List Row) (row : Row) → row ≡ get_or ((given ++ row ∷ []) ++ tail) (length given) row
middle [] tail row = refl
middle (r ∷ given) tail row = middle given tail row

before_end : (given tail : List Row) (row : Row) → length given < length ((given ++ row ∷ []) ++ tail)
before_end given tail row = omega (arith, length-append (given ++ row ∷ []) tail, length-append given (row ∷ []))

module _ {K X : Type 0} {cmp : K → K → Ordering} (form : Form K X) (row : Row) (given : List Row)
    (before : List (K × X)) (rows : AreRowsOf cmp form.IsRow form.row given before) where
  -- one more row is read, with a key of its own
  pub one_more_row : (k : K) (x : X) (after : List (K × X)) → form.IsRow k x → row ≡ form.row k x
      → IsPermutation ((k, x) ∷ before) after → KeysRise cmp after
      → AreRowsOf cmp form.IsRow form.row (given ++ row ∷ []) after
  one_more_row k x after one is more rises = record {
    rises = rises;
    forms = all-permutation (λ (e : K × X). form.IsRow e.0 e.1) _ _ more (one, rows.forms);
    same = one_read (λ (e : K × X). form.row e.0 e.1) given (given ++ row ∷ []) row
        (k, x) before after refl is rows.same more;
  }

  -- the row has no form
  pub no_form_begins : ((e : K × X) → form.IsRow e.0 e.1 → row ≡ form.row e.0 e.1 → ⊥)
      → BeginNone cmp form (given ++ row ∷ [])
  no_form_begins none tail entries table =
      no_form (λ (e : K × X). form.row e.0 e.1) (λ (e : K × X). form.IsRow e.0 e.1)
      ((given ++ row ∷ []) ++ tail) entries (length given) row
      (before_end given tail row) (middle given tail row) none table.forms table.same

  -- its key is there twice
  pub no_key_begins : IsTotalOrder cmp → KeysMatch cmp form.places form.row → (k : K) (x : X) → row ≡ form.row k x
      → IsSome (lookup (is_at (cmp k)) before) → BeginNone cmp form (given ++ row ∷ [])
  no_key_begins total match k x is twice tail entries table =
      no_twice total match k x ((given ++ row ∷ []) ++ tail) given tail before entries
      (ap (λ r. (given ++ r ∷ []) ++ tail) is) rows.same twice table.rises table.same

-- the query gave these rows so far, and the map has their entries
pub record HasScanned {S K X : Type 0} (g : Ghosts S) (cmp : K → K → Ordering) (form : Form K X) (old now : Held S)
    (entries : List (K × X)) : Type 0 where
  pub given : List Row
  pub same : IsUnchanged (state g old) (state g now)
  pub reads : HasGiven g form.load [] now given
  pub rows : AreRowsOf cmp form.IsRow form.row given entries

module _ {S K X : Type 0} (g : Ghosts S) {cmp : K → K → Ordering} (form : Form K X) (ours : IsOurTable cmp form) where
  -- no table has the rows with the next
  pub none_goes : (old new : Held S) (row : Row) (shown : Option Row) (before after : List (K × X)) → Some row ≡ shown
      → Advances g old new shown → IsUnchanged (state g old) (state g new)
      → ((given : List Row) → AreRowsOf cmp form.IsRow form.row given before → BeginNone cmp form (given ++ row ∷ []))
      → (given : List Row) → HasGiven g form.load [] old given → AreRowsOf cmp form.IsRow form.row given before
      → Goes g cmp form old new given after (Ok next.NoTable)
  none_goes old new row shown before after is advances same none given reads rows = (
    same,
    row,
    subst (GivesOn g form.load [] old new given) (sym is) (advances form.load [] given reads),
    none given rows,
  )

  pub none_scanned : (h : Held S) → HasGiven g form.load [] h [] → HasScanned g cmp form h h []
  none_scanned h reads =
      record {
        given = [];
        same = still_open g form.load [] h [] reads;
        reads = reads;
        rows = nothing_read cmp form.IsRow form.row;
      }

  -- A scan has come to this also from an earlier state, if nothing has changed since.
  pub scans_since : (old mid new : Held S) → IsUnchanged (state g old) (state g mid)
      → Survives (state g old) (state g mid) (λ _. ⊥)
      → (given : List Row) → HasGiven g form.load [] mid given → (result : Result (Option (BTreeMap K X)) Refusal)
      → Scans g cmp form mid new result → Scans g cmp form old new result
  scans_since old mid new same kept given reads (Ok found) scans = (
    unchanged_then (state g old) (state g mid) (state g new) same scans.0,
    understood_before form.load (state g old) (state g mid) same scans.1,
    λ all holds. scans.2 all (subst (λ db. form.Holds db all) (sym same.0.now_is) holds),
  )
  scans_since old mid new same kept given reads (Err e) scans =
      (left_then (state g old) (state g mid) (state g new) same scans.0, why scans.1)
    where
      plain : (c : Compiled) → understood (state g old).now.schema form.load ≡ Ok c → c.returning ≡ None
      plain c is = given_plain g form.load [] mid given reads c
          (subst (λ (d : Database). understood d.schema form.load ≡ Ok c) (sym same.0.now_is) is)

      why : (e ≡ NoMemory) ⊎ FailsToLoadFrom form.Holds form.load (state g mid) (state g new) e
          → (e ≡ NoMemory) ⊎ FailsToLoadFrom form.Holds form.load (state g old) (state g new) e
      why (inl short) = inl short
      why (inr fails) = inr (
        (
          fails.0.0,
          fails.0.1,
          fails_to_query_since form.load (state g old) (state g mid)
              (state g new) same kept plain fails.0.0 fails.0.2,
        ),
        λ there. fails.1 (there.0, subst (λ db. form.Holds db there.0) (sym same.0.now_is) there.1),
      )

  -- a query that failed
  pub failed_scans : (old new : Held S) (e : Refusal) (error : Error) → e ≡ refusal_of error
      → FailsToQuery form.load [] (state g old) (state g new) error → Scans g cmp form old new (Err e)
  failed_scans old new e error told failed = (
    failed_unchanged form.load [] (state g old) (state g new) error failed,
    inr (
      (error, told, failed),
      λ there.
          let it = ours.shows (state g old).now there.0 there.1 in
          not_bad_store e error told (load_fails it.2 (state g old) (state g new) it.1.schema_is error failed),
    ),
  )

  -- the scan refuses where its step does
  pub err_scans : (mid new : Held S) (given : List Row) (entries : List (K × X)) (e : Refusal)
      → Goes g cmp form mid new given entries (Err e) → Scans g cmp form mid new (Err e)
  err_scans mid new given entries e (inl (same, short)) = (inl same, inl short)
  err_scans mid new given entries e (inr (error, told, failed)) = failed_scans mid new e error told failed

  -- the table was read whole
  pub end_scans : (mid new : Held S) (given : List Row) (table : BTreeMap K X)
      → Goes g cmp form mid new given table.entries (Ok next.End) → Scans g cmp form mid new (Ok (Some table))
  end_scans mid new given table (same, shown, rows) = (
    same,
    shown_understood form.load (state g mid) (state g new) given shown,
    λ all holds.
        let it = ours.shows (state g mid).now all holds in
        rows_held given (all form.tree) table.entries
        (shown_by it.2 (state g mid) (state g new) given all it.1 shown).0 rows,
  )

  -- no table has the rows that were read
  pub none_scans : (mid new : Held S) (given : List Row) (entries : List (K × X))
      → Goes g cmp form mid new given entries (Ok next.NoTable) → Scans g cmp form mid new (Ok None)
  none_scans mid new given entries (same, row, reads, none) = (
    same,
    understood_before form.load (state g mid) (state g new) same
        (given_understood g form.load new (given ++ row ∷ []) reads),
    λ all holds entries table.
        let it = ours.shows (state g new).now all (subst (λ db. form.Holds db all) (sym same.0.now_is) holds) in
        let whole = begins_shown form.load [] (state g new) (state g new) (given ++ row ∷ [])
        (given_begin g form.load [] new (given ++ row ∷ []) reads)
        (still_open g form.load [] new (given ++ row ∷ []) reads) (ends it.2 (state g new) it.1.schema_is) in
        none whole.0 entries
        (rows_shown ((given ++ row ∷ []) ++ whole.0) (all form.tree) entries
        (shown_by it.2 (state g new) (state g new) ((given ++ row ∷ []) ++ whole.0) all it.1 whole.1).0 table),
  )

  -- what a scan answers, with `BadStore` where no table has the rows
  module _ (old new : Held S) (early : HasCleanDisk (state g new) → HasCleanDisk (state g old))
      (survives : Survives (state g old) (state g new) (λ _. ⊥)) where
    pub scan_loads : (found : Option (BTreeMap K X))
        → (HasCleanDisk (state g new) → Scans g cmp form old new (Ok found))
        → LoadingBy form.load g old new (ok_or found BadStore) (table_part cmp form)
    scan_loads None scans = record {
      rows = λ clean. tt;
      bad = λ clean. inr (inr (refl, (scans clean).2));
      left = λ clean. inl (scans clean).0;
      unchanged = λ clean bad. (scans clean).0;
      understood = λ clean. tt;
      survives = survives;
      early = early;
      told = refl;
    }
    scan_loads (Some table) scans = record {
      rows = λ clean. (scans clean).2;
      bad = λ clean. tt;
      left = λ clean. (scans clean).0;
      unchanged = λ clean. tt;
      understood = λ clean. (scans clean).1;
      survives = survives;
      early = early;
      told = tt;
    }

    -- why there is no answer, whatever it would have been
    pub scan_fails : {A : Type 0} {part : Part A} (e : Refusal)
        → (HasCleanDisk (state g new) → Scans g cmp form old new (Err e)) → IsTrue (is_store_refusal e)
        → LoadsOr (FailsToLoadFrom form.Holds form.load (state g old) (state g new)) g old new (Err e) part
    scan_fails e scans told = record {
      rows = λ clean. tt;
      bad = λ clean. elim (scans clean).1 [ inl short ↦ inl short | inr fails ↦ inr (inl fails) ];
      left = λ clean. (scans clean).0;
      unchanged = λ clean is. elim (scans clean).1 [
        | inl short ↦ absurd (let same : NoMemory ≡ BadStore = sym short ∙ is in cc)
        | inr fails ↦
            bad_unchanged form.load [] (state g old) (state g new) fails.0.0 fails.0.2 (sym fails.0.1 ∙ is)
      ];
      understood = λ clean. tt;
      survives = survives;
      early = early;
      told = told;
    }

    -- what a scan answers
    pub scan_finds : (result : Result (Option (BTreeMap K X)) Refusal)
        → (HasCleanDisk (state g new) → Scans g cmp form old new result)
        → IfErr result (λ e. IsTrue (is_store_refusal e))
        → LoadingBy form.load g old new result (scanned_part cmp form)
    scan_finds (Ok found) scans told = record {
      rows = λ clean. (scans clean).2;
      bad = λ clean. tt;
      left = λ clean. (scans clean).0;
      unchanged = λ clean. tt;
      understood = λ clean. (scans clean).1;
      survives = survives;
      early = early;
      told = tt;
    }
    scan_finds (Err e) scans told = scan_fails e scans told

pub on_ok : {A E P Q : Type 0} (result : Result A E) → (P → Q) → OnOk result P → OnOk result Q
on_ok (Ok a) f p = f p
on_ok (Err e) f p = tt
