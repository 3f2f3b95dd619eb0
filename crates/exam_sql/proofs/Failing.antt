-- Why a statement on the rows of a table fails.
use Rattle.exam_sql.proofs.Words.{Row, Trees, rowid, Conflict, Abort, Replace, Upsert, Command, InsertOr, Delete}
use Rattle.exam_sql.proofs.Words.{Values, Schema, Table, cast_row, edit_of, with_rowid, ids_of, Given, Compiled}
use Rattle.exam_sql.proofs.Words.{CompileError, Error, Database, Then, Task, Edited, Written, Puts, Clears, Tries}
use Rattle.exam_sql.proofs.Words.{TriesEach, InsertsOr, nothing, shown, count_of, mended, Does, OnRows, AtPlace, Tally}
use Rattle.exam_sql.proofs.Words.{timed, State, Executes, ExecutesInside, Escapes, IsMisplaced, text_of}
use Rattle.exam_sql.proofs.Words.{mode_of, understood, IsPlain, command_of, statement_of, Refuses, Fails, is_failure}
use Rattle.std.proofs.Common.{◌≡◌, inl, inr, ℕ, ℤ, List, [], ◌∷◌, ◌++◌, length, Bool, true, false, ◌||◌, MatchBool}
use Rattle.std.proofs.Common.{IsTrue, Some, None, Option, option_map, Ok, Err, Result, refl, sym, ap, subst, subst₂}
use Rattle.std.proofs.Common.{◌∙◌, append-nil}
use Rattle.sqlite_schema.specs.declared.command.Conflict.TheVariants.{Ignore}
use Rattle.sqlite_schema.specs.declared.command.Source.{Source}
use Rattle.sqlite_schema.specs.declared.command.Source.TheVariants.{Query}
use Rattle.sqlite_schema.specs.declared.program.Program.{Program}
use Rattle.sqlite_schema.specs.declared.schema.Keys.{Keys}
use Rattle.sqlite_rules.specs.declared.error.Refusal.{Refusal}
use Rattle.sqlite_rules.specs.declared.error.Refusal.TheVariants.{Violates, Mismatch, NoRowid, BadReference, TooDeep}
use Rattle.sqlite_rules.specs.Edit.{Edit}
use Rattle.sqlite.specs.declared.error.Error.TheVariants.{InvalidQuery}
use Rattle.sqlite_schema.specs.declared.schema.Constraint.TheVariants.{ForeignKey}
use Rattle.sqlite.specs.declared.run.Mode.{Mode}
use Rattle.sqlite.specs.Effect.{edit_error, is_query}
use Rattle.sqlite.specs.Rows.{Part, Gives, Queried, Sourced, Counter, CounterIn, Counts, CountsIn, Updates, Resolves}
use Rattle.sqlite.specs.Rows.{Meets, Upserts, Judged, Deletes, passes_over, sequence, joined, higher, rowids_for}
use Rattle.sqlite.specs.Rows.{stamped}
use Rattle.sqlite.specs.Does.{Concludes}
use Rattle.sqlite.specs.State.{ExecutesIn, shows_rows, is_pragma, Runs, RunsCommand}
use Rattle.exam_sql.specs.Refusals.{RunsTo}
use Rattle.exam_sql.proofs.StatementFails.{IsQuiet, IsWhole, fails_by}

-- ---- the errors by which a part of a statement is refused

abbrev Named : {A : Type 0} → Part A → Type 0
Named P = (e : Error) → P (Err (Some e)) → IsTrue (is_failure e)

-- a part that stopped at its first part
left : {B : Type 0} {First : Option Error → Type 0} (e : Error)
    → ((stop : Option Error) × First stop × ◌≡◌ {A = Result B (Option Error)} (Err (Some e)) (Err stop))
    → ((f : Error) → First (Some f) → IsTrue (is_failure f)) → IsTrue (is_failure e)
left {B} {First} e stopped named = go stopped.0 stopped.1 stopped.2
  where
    go : (stop : Option Error) → First stop → ◌≡◌ {A = Result B (Option Error)} (Err (Some e)) (Err stop)
        → IsTrue (is_failure e)
    go None first same = absurd cc
    go (Some f) first same = let it : e ≡ f = cc in subst (λ x. IsTrue (is_failure x)) (sym it) (named f first)

gives_named : {A : Type 0} (a : A) → Named (Gives a)
gives_named a e h = absurd cc

is : (e f : Error) → e ≡ f → IsTrue (is_failure f) → IsTrue (is_failure e)
is e f same named = subst (λ x. IsTrue (is_failure x)) (sym same) named

-- this error is the one that is reported
told : {A : Type 0} (e f : Error) → ◌≡◌ {A = Result A (Option Error)} (Err (Some e)) (Err (Some f))
    → IsTrue (is_failure f) → IsTrue (is_failure e)
told e f same named = let it : e ≡ f = cc in is e f it named

queried_named : (limit : Option ℕ) (db : Database) (q : Program) (params : Row) → Named (Queried limit db q params)
queried_named limit db q params e (inl typed) = is e _ typed.0 refl
queried_named limit db q params e (inr (inl over)) = is e _ over.0 refl
queried_named limit db q params e (inr (inr long)) = is e _ long.0 refl

sourced_named : (limit : Option ℕ) (db : Database) (params : Row) (from : Source) → Named (Sourced limit db params from)
sourced_named limit db params (Values terms width) e (inl typed) = is e _ typed.0 refl
sourced_named limit db params (Values terms width) e (inr long) = is e _ long.0 refl
sourced_named limit db params (Query q) e h = queried_named limit db q params e h

edit_named : (why : Refusal) → IsTrue (is_failure (edit_error why))
edit_named (Violates rule) = refl
edit_named Mismatch = refl
edit_named NoRowid = refl
edit_named BadReference = refl
edit_named TooDeep = refl

edited_named : (schema : Schema) (keys : Keys) (db : Trees) (edit : Edit) → Named (Edited schema keys db edit)
edited_named schema keys db edit e h = go h.0 h.2
  where
    go : (why : Option Refusal) → Some e ≡ option_map edit_error why → IsTrue (is_failure e)
    go None same = absurd cc
    go (Some why) same = let it : e ≡ edit_error why = cc in is e (edit_error why) it (edit_named why)

match_named : {A : Type 0} (b : Bool) (P Q : Part A) → Named P → Named Q → Named (λ out. MatchBool b (P out) (Q out))
match_named true P Q one two e h = one e h
match_named false P Q one two e h = two e h

at_named : {X A : Type 0} (P : X → Part A) (o : Option X) → ((x : X) → Named (P x)) → Named (AtPlace P o)
at_named P None named e h = told e InvalidQuery h refl
at_named P (Some x) named e h = named x e h

module _ (task : Task) where
  open task use {limit, keys, schema, table, params}

  counter_named : (db : Trees) → Named (Counter task db)
  counter_named db = match_named table.is_counted (CounterIn task db (sequence schema)) (Gives None)
      (in_named (sequence schema)) (gives_named None)
    where
      in_named : (o : Option Table) → Named (CounterIn task db o)
      in_named None e h = told e InvalidQuery h refl
      in_named (Some counters) e h = absurd cc

  counts_named : (db : Trees) (counter : Option Row) (top : ℤ) → Named (Counts task db counter top)
  counts_named db counter top =
      match_named _ (CountsIn task db counter top (sequence schema)) (Gives db) (in_named (sequence schema))
      (gives_named db)
    where
      in_named : (o : Option Table) → Named (CountsIn task db counter top o)
      in_named None e h = told e InvalidQuery h refl
      in_named (Some counters) e h = edited_named schema keys db _ e h

  puts_named : (new : Row) (db : Trees) → Named (Puts task new db)
  puts_named new db e (inl s) = left e s (λ f. edited_named schema keys db (edit_of db table [] Given 0 (new ∷ [])) f)
  puts_named new db e (inr on) = let h = on.2 in absurd cc

  replaced : (new : Row) (db : Trees) (found : List Row)
      → Named (Then (Edited schema keys db (edit_of db table (ids_of found) Given 0 [])) (Puts task new))
  replaced new db found e (inl s) =
      left e s (λ f. edited_named schema keys db (edit_of db table (ids_of found) Given 0 []) f)
  replaced new db found e (inr on) = puts_named new on.0 e on.2

  clears_named : (way : Conflict) (new : Row) (db : Trees) (found : List Row) → Named (Clears task way new db found)
  clears_named way new db [] e h = puts_named new db e h
  clears_named Abort new db (x ∷ more) e h = puts_named new db e h
  clears_named Ignore new db (x ∷ more) e h = absurd cc
  clears_named Replace new db (x ∷ more) e h = replaced new db (x ∷ more) e h

  updates_named : (q : Program) (given : Row) (db : Trees) → Named (Updates task q given db)
  updates_named q given db e (inl s) =
      left e s (λ f. queried_named limit (record { schema = schema; trees = db }) q given f)
  updates_named q given db e (inr (found, _, inl s)) =
      left e s (λ f. edited_named schema keys db (edit_of db table (ids_of found) Given 1 found) f)
  updates_named q given db e (inr (found, _, inr on)) = let h = on.2 in absurd cc

  deletes_named : (q : Program) (db : Trees) → Named (Deletes task q db)
  deletes_named q db e (inl s) = left e s (λ f. queried_named limit (record { schema = schema; trees = db }) q params f)
  deletes_named q db e (inr (found, _, inl s)) =
      left e s (λ f. edited_named schema keys db (edit_of db table (ids_of found) Given 0 []) f)
  deletes_named q db e (inr (found, _, inr on)) = let h = on.2 in absurd cc

  resolves_named : (new : Row) (db : Trees) (there : Row) (q : Option Program) → Named (Resolves task new db there q)
  resolves_named new db there None e h = absurd cc
  resolves_named new db there (Some q) e h = updates_named q (params ++ rowid there ∷ shown table new) db e h

  meets_named : (Otherwise : Part Written) (new : Row) (db : Trees) (clause : Upsert) (found : List Row)
      → Named Otherwise → Named (Meets task Otherwise new db clause found)
  meets_named Otherwise new db clause [] named = named
  meets_named Otherwise new db clause (there ∷ more) named = resolves_named new db there clause.update

  upserts_named : (way : Conflict) (new : Row) (db : Trees) (clauses : List Upsert)
      → Named (Upserts task way new db clauses)
  upserts_named way new db [] e h = clears_named way new db h.0 e h.2
  upserts_named way new db (clause ∷ more) e h =
      meets_named (Upserts task way new db more) new db clause h.0 (upserts_named way new db more) e h.2

  judged_named : (way : Conflict) (clauses : List Upsert) (new : Row) (db : Trees) (verdict : Option Refusal)
      → Named (Judged task way clauses new db verdict)
  judged_named way clauses new db None = upserts_named way new db clauses
  judged_named way clauses new db (Some why) =
      match_named (passes_over way why) (Gives (nothing db)) (λ out. out ≡ Err (Some (edit_error why)))
      (gives_named (nothing db)) (λ e h. told e (edit_error why) h (edit_named why))

  tries_named : (way : Conflict) (clauses : List Upsert) (new : Row) (db : Trees)
      → Named (Tries task way clauses new db)
  tries_named way clauses new db e (inl full) = told e (edit_error NoRowid) full.1 (edit_named NoRowid)
  tries_named way clauses new db e (inr judged) = judged_named way clauses new db judged.0 e judged.2

  each_named : (way : Conflict) (clauses : List Upsert) (sources : List Row) (top : ℤ) (done : Written)
      → Named (TriesEach task way clauses sources top done)
  each_named way clauses [] top done e h = absurd cc
  each_named way clauses (source ∷ more) top done e (inl s) =
      left e s (λ f. tries_named way clauses
      (with_rowid (rowids_for table top) (done.trees table.tree) (cast_row table (mended way table source))) done.trees
      f)
  each_named way clauses (source ∷ more) top done e (inr on) =
      each_named way clauses more
      (higher top (with_rowid (rowids_for table top) (done.trees table.tree)
      (cast_row table (mended way table source)))) (joined done on.0) e on.2

  inserts_named : (way : Conflict) (clauses : List Upsert) (from : Source) (db : Trees)
      → Named (InsertsOr task way clauses from db)
  inserts_named way clauses from db e (inl s) =
      left e s (λ f. sourced_named limit (record { schema = schema; trees = db }) (stamped table params) from f)
  inserts_named way clauses from db e (inr (found, _, inl s)) = left e s (λ f. counter_named db f)
  inserts_named way clauses from db e (inr (found, _, inr (counter, _, inl s))) =
      left e s (λ f. each_named way clauses found (count_of counter) (nothing db) f)
  inserts_named way clauses from db e (inr (found, _, inr (counter, _, inr (done, _, inl s)))) =
      left e s (λ f. counts_named done.0.trees counter done.1 f)
  inserts_named way clauses from db e (inr (found, _, inr (counter, _, inr (done, _, inr on)))) = let h =
      on.2 in absurd cc

  concludes_named : (mode : Mode) (w : Written) → Named (Concludes task mode None w)
  concludes_named mode w e (inl s) =
      left e s (λ f h. let it : f ≡ edit_error (Violates ForeignKey) = let h =
      h.1 in cc in is f (edit_error (Violates ForeignKey)) it (edit_named (Violates ForeignKey)))
  concludes_named mode w e (inr (in_doubt, _, inl s)) = left e s (λ f h. absurd cc)
  concludes_named mode w e (inr (in_doubt, _, inr on)) = let h = on.2 in absurd cc

-- ---- a statement that fails

-- it writes rows
abbrev pub IsOnRows : Command → Type 0
IsOnRows (InsertOr at way from clauses) = Unit {0}
IsOnRows (Delete at q) = Unit {0}
IsOnRows _ = ⊥

abbrev task_on : Option ℕ → Mode → Row → Database → Table → Task
task_on limit mode params db table =
    record { limit = limit; keys = mode.keys; schema = db.schema; table = table; params = params }

on_insert : (task : Task) (mode : Mode) (way : Conflict) (clauses : List Upsert) (from : Source) (db : Trees)
    → Named (Then (InsertsOr task way clauses from db) (Concludes task mode None))
on_insert task mode way clauses from db e (inl s) = left e s (λ f. inserts_named task way clauses from db f)
on_insert task mode way clauses from db e (inr went) = concludes_named task mode went.0 e went.2

on_delete : (task : Task) (mode : Mode) (at : ℕ) (q : Program) (db : Trees)
    → Named (Then (Deletes task q db) (Concludes task mode None))
on_delete task mode at q db e (inl s) = left e s (λ f. deletes_named task q db f)
on_delete task mode at q db e (inr went) = concludes_named task mode went.0 e went.2

does_named : (limit : Option ℕ) (mode : Mode) (params : Row) (db : Database) (text : List ℕ) (command : Command)
    → IsOnRows command → Named (Does limit mode params db text None command)
does_named limit mode params db text (InsertOr at way from clauses) rows =
    at_named (λ table. OnRows (task_on limit mode params db table) mode None (InsertOr at way from clauses) db.trees) _
    (λ table. on_insert (task_on limit mode params db table) mode way clauses from db.trees)
does_named limit mode params db text (Delete at q) rows =
    at_named (λ table. OnRows (task_on limit mode params db table) mode None (Delete at q) db.trees) _
    (λ table. on_delete (task_on limit mode params db table) mode at q db.trees)
does_named limit mode params db text _ rows = absurd rows

-- what follows from the answer of a statement: the database does it, or why it fails
pub record Answers (sql : List ℕ) (params : Row) (old new : State) : Type 0 where
  pub done : (count : ℕ) → Executes sql params old new (Ok count) → RunsTo old.step_limit sql params old.now new.now
  pub fails : (e : Error) → ExecutesInside 0 sql params old new (Err e)
      → Fails old new (Refuses old.step_limit old.now sql params) e

quiet_on_rows : (command : Command) → IsOnRows command → IsQuiet command
quiet_on_rows command rows = record { placed = misplaced; stays = escapes; rowless = rowless command rows }
  where
    rowless : (command : Command) → IsOnRows command → (is_query command || (is_pragma command || false)) ≡ false
    rowless (InsertOr at way from clauses) rows = refl
    rowless (Delete at q) rows = refl
    rowless _ rows = absurd rows

    misplaced : (s : State) (e : Error) → IsMisplaced s command e → ⊥
    misplaced s e (inl (same, inl (it, going))) = subst IsOnRows it rows
    misplaced s e (inl (same, inr (inl it, out))) = subst IsOnRows it rows
    misplaced s e (inl (same, inr (inr it, out))) = subst IsOnRows it rows
    misplaced s e (inr (same, name, inl it, none)) = subst IsOnRows it rows
    misplaced s e (inr (same, name, inr it, none)) = subst IsOnRows it rows

    escapes : (s : State) → Escapes 0 s command → ⊥
    escapes s (inl (inl it)) = subst IsOnRows it rows
    escapes s (inl (inr it)) = subst IsOnRows it rows
    escapes s (inr (name, inl it, held)) = subst IsOnRows it rows
    escapes s (inr (name, inr it, held)) = subst IsOnRows it rows

module _ (sql : List ℕ) (params : Row) (old new : State) (schema : Schema) (has : old.now.schema ≡ schema)
    (command : Command) (commands : command_of (understood schema sql) ≡ command) (writes : IsOnRows command)
    (plain : IsPlain (understood schema sql)) (whole : IsWhole sql (length params) (understood schema sql)) where
  module _ (c : Compiled) (known : understood schema sql ≡ Ok c) where
    its_plain : (c.returning ≡ None) × (c.formats ≡ [])
    its_plain = subst IsPlain known plain

    its_rows : IsOnRows c.command
    its_rows = subst IsOnRows (sym commands ∙ ap command_of known) writes

    -- what it was done by
    tally_of : (k : Command) → IsOnRows k → (given : Row) (count : ℕ)
        → Runs old new c.returning k (text_of sql c) given count
        → (tally : Tally) × Does old.step_limit (mode_of old) given old.now (text_of sql c) c.returning k
        (Ok (tally, new.now))
    tally_of (InsertOr at way from clauses) rows given count w = (w.tally, w.changed)
    tally_of (Delete at q) rows given count w = (w.tally, w.changed)
    tally_of _ rows given count w = absurd rows

    reached : (now : ℕ) (tally : Tally)
        → Does old.step_limit (mode_of old) (timed params c.formats now) old.now (text_of sql c) c.returning c.command
        (Ok (tally, new.now)) → RunsTo old.step_limit sql params old.now new.now
    reached now tally does =
        (c, ap (λ s. understood s sql) has ∙ known, tally, rw (its_plain.1, append-nil params) at does)

    command_done : (now count : ℕ) → RunsCommand old new sql c (timed params c.formats now) (Ok count)
        → RunsTo old.step_limit sql params old.now new.now
    command_done now count ran =
        let it = tally_of c.command its_rows (timed params c.formats now) count ran in
        reached now it.0 it.1

  done_as : (count : ℕ) → Executes sql params old new (Ok count) → RunsTo old.step_limit sql params old.now new.now
  unfolding ExecutesIn
  done_as count (c, it, ran) =
      let known : understood schema sql ≡ Ok c = ap (λ s. understood s sql) (sym has) ∙ it.is in
      let quiet : shows_rows false c ≡ false =
      rw ((its_plain c known).0) ((quiet_on_rows c.command (its_rows c known)).rowless) in
      command_done c known it.now count (rw quiet at ran)

  refused : (r : Result Compiled CompileError) → understood schema sql ≡ r → (stop : Option Error)
      → Does old.step_limit (mode_of old) params old.now (statement_of sql r) None command (Err stop)
      → Refuses old.step_limit old.now sql params
  refused (Ok c) known stop does = (
    c,
    ap (λ s. understood s sql) has ∙ known,
    stop,
    subst₂ (λ shown k. Does old.step_limit (mode_of old) params old.now (text_of sql c) shown k (Err stop))
        (sym (its_plain c known).0) (sym commands ∙ ap command_of known) does,
  )
  refused (Err fault) known stop does = absurd (subst IsPlain known plain)

  pub answers : Answers sql params old new
  answers = record {
    done = done_as;
    fails = fails_by sql params old new schema has command commands (quiet_on_rows command writes) plain whole
        (Refuses old.step_limit old.now sql params)
        (λ e does. does_named old.step_limit (mode_of old) params old.now _ command writes e does)
        (refused _ refl);
  }
