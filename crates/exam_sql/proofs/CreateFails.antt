-- Why CREATE TABLE fails if nothing in the schema forbids it.
use Rattle.exam_sql.proofs.Words.{list_all, not-true, Text, CreateTable, Schema, Table, Index, table_reals, Has}
use Rattle.exam_sql.proofs.Words.{test_has, Error, created, next_tree, table_defined_by, Does, Tally, lacks_sequence}
use Rattle.exam_sql.proofs.Words.{Database, understood, Then, State, mode_of, ExecutesInside, Escapes, IsMisplaced}
use Rattle.exam_sql.proofs.Words.{IsPlain, command_of, statement_of, Fails}
use Rattle.std.proofs.Common.{◌≡◌, ◌⊎◌, ◌+◌, ◌*◌, ◌^◌, ◌<◌, ◌≤◌, inl, inr, ℕ, List, [], length, codes, not, ◌==◌, true}
use Rattle.std.proofs.Common.{false, None, Some, Option, Ok, Err, Result, refl, sym, ap, subst, ◌∙◌, arith, IsUtf8}
use Rattle.std.proofs.Common.{nat_lt, true≢false}
use Rattle.std.proofs.lemmas.Bool.{ltb-true}
use Rattle.sqlite_schema.specs.Rules.{index_reals}
use Rattle.sqlite_catalog.specs.declared.error.Refusal as alter
use Rattle.sqlite_catalog.specs.declared.error.Refusal.TheVariants.{Invalid, NameTaken, BadName, TooBig, BadKey}
use Rattle.sqlite_catalog.specs.declared.error.Refusal.TheVariants.{BadText, Violates}
use Rattle.sqlite_catalog.specs.Calls.{RefusesTable, IsLongTable}
use Rattle.sqlite_catalog.specs.Change.{is_used, is_reserved, automatics}
use Rattle.sqlite_catalog.specs.Listing.{is_fit, is_formed}
use Rattle.sqlite.specs.Does.{Defines, MakesTable, MakesSequence}
use Rattle.exam_sql.proofs.StatementFails.{IsQuiet, IsWhole, fails_by}
use Rattle.exam_sql.proofs.KeysHold.{first_of}

-- nothing forbids the table: its name is free, and its text and its columns are neither too long nor too many
pub record IsFree (schema : Schema) (table : Table) (text : List ℕ) : Type 0 where
  pub name : is_used schema table.name ≡ false
  pub keys : list_all (λ (i : Index). not (is_used schema i.name)) (automatics table 0 0 table.uniques) ≡ true
  pub utf8 : IsUtf8 text
  pub name_utf8 : IsUtf8 table.name
  pub own : is_reserved table.name ≡ false
  pub few : next_tree schema + length table.uniques < 65536
  pub narrow : table_reals table < 2 ^ 64
  pub narrow_keys : list_all (λ key. nat_lt (index_reals (table_reals table) key) (2 ^ 64)) table.uniques ≡ true
  pub formed : is_formed table ≡ true
  pub fit : is_fit (Text (codes "table")) (Text table.name) (Text table.name) (Text text) ≡ true
  pub short : 2 * length table.name + length text + 200 < 10 ^ 9

module _ (schema : Schema) (table : Table) (text : List ℕ) (defined : table_defined_by text ≡ Ok table)
    (free : IsFree schema table text) where
  -- the text defines this table and no other
  same_table : (t : Table) → table_defined_by text ≡ Ok t → t ≡ table
  same_table t is =
      let both : Ok t ≡ Ok table = sym is ∙ defined in
      cc

  not_refused : (why : alter.Refusal) → RefusesTable schema text why → ⊥
  not_refused (Invalid e) bad = absurd (let both : Err e ≡ Ok table = sym bad ∙ defined in cc)
  not_refused NameTaken (t, is, taken) = names t (same_table t is) taken
    where
      names : (t : Table) → t ≡ table
          → (is_used schema t.name ≡ true)
          ⊎ ((index : Index) × Has (automatics t 0 0 t.uniques) index × (is_used schema index.name ≡ true)) → ⊥
      names t same (inl used) = true≢false (sym used ∙ ap (λ (t : Table). is_used schema t.name) same ∙ free.name)
      names t same (inr (index, has, used)) =
          let among = subst (λ (t : Table). Has (automatics t 0 0 t.uniques) index) same has in
          true≢false (sym used
          ∙ not-true _ (test_has (λ (i : Index). not (is_used schema i.name))
          (automatics table 0 0 table.uniques) index free.keys among))
  not_refused BadName (t, is, bad) = names t (same_table t is) bad
    where
      names : (t : Table) → t ≡ table
          → (¬ IsUtf8 t.name) ⊎ ((is_reserved t.name ≡ true) × ((length t.uniques == 0) ≡ false)) → ⊥
      names t same (inl not_utf8) = not_utf8 (subst (λ (t : Table). IsUtf8 t.name) (sym same) free.name_utf8)
      names t same (inr (own, _)) = true≢false (sym own ∙ ap (λ (t : Table). is_reserved t.name) same ∙ free.own)
  not_refused TooBig (t, is, big) = sizes t (same_table t is) big
    where
      sizes : (t : Table) → t ≡ table
          → (65536 ≤ next_tree schema + length t.uniques)
          ⊎ ((2 ^ 64 ≤ table_reals t)
          ⊎ ((key : List ℕ) × Has t.uniques key × (2 ^ 64 ≤ index_reals (table_reals t) key))) → ⊥
      sizes t same (inl many) =
          omega (arith, subst (λ (t : Table). 65536 ≤ next_tree schema + length t.uniques) same many, free.few)
      sizes t same (inr (inl wide)) =
          omega (arith, subst (λ (t : Table). 2 ^ 64 ≤ table_reals t) same wide, free.narrow)
      sizes t same (inr (inr (key, has, wide))) =
          let among = subst (λ (t : Table). Has t.uniques key) same has in
          let over : 2 ^ 64 ≤ index_reals (table_reals table) key =
          subst (λ (t : Table). 2 ^ 64 ≤ index_reals (table_reals t) key) same wide in
          let under : nat_lt (index_reals (table_reals table) key) (2 ^ 64) ≡ true =
          test_has (λ key. nat_lt (index_reals (table_reals table) key) (2 ^ 64)) table.uniques key
          free.narrow_keys among in
          omega (arith, ltb-true _ _ under, over)
  not_refused BadKey (t, is, bad) = true≢false (sym free.formed ∙ ap is_formed (sym (same_table t is)) ∙ bad)
  not_refused BadText (t, is, bad) =
      true≢false (sym free.fit
      ∙ ap (λ (t : Table). is_fit (Text (codes "table")) (Text t.name) (Text t.name) (Text text))
      (sym (same_table t is)) ∙ bad)
  not_refused (Violates rule) bad = bad

  not_long : IsLongTable text → ⊥
  not_long (t, is, long) =
      omega (
        arith,
        subst (λ (t : Table). 10 ^ 9 ≤ 2 * length t.name + length text + 200) (same_table t is) long,
        free.short,
      )

  -- the table is made
  made : (db : Database) → db.schema ≡ schema → (stop : Option Error) → MakesTable text db (Err stop) → ⊥
  made db has None long = not_long long
  made db has (Some e) (inl no_text) = no_text.0 free.utf8
  made db has (Some e) (inr (why, refused, same)) = not_refused why (subst (λ s. RefusesTable s text why) has refused)

module _ (schema : Schema) (table : Table) (text : List ℕ) (is : command_of (understood schema text) ≡ CreateTable)
    (plain : IsPlain (understood schema text)) (whole : IsWhole text 0 (understood schema text))
    (one : statement_of text (understood schema text) ≡ text) (defined : table_defined_by text ≡ Ok table)
    (uncounted : lacks_sequence (created schema table) ≡ false) (free : IsFree schema table text) where
  -- carrying it out does not stop either
  not_stopped : (db : Database) → db.schema ≡ schema → (stop : Option Error)
      → Then (MakesTable text db) MakesSequence (Err stop) → ⊥
  not_stopped db has stop (inl at_table) =
      made schema table text defined free db has stop (first_of {First = λ s. MakesTable text db (Err s)} stop at_table)
  not_stopped db has stop (inr (after, makes, counts)) =
      let same : makes.table ≡ table = same_table schema table text defined free makes.table makes.defined in
      let now : after.schema ≡ created schema table =
      makes.is ∙ ap (λ s. created s makes.table) has ∙ ap (created schema) same in
      let none : lacks_sequence after.schema ≡ false = ap lacks_sequence now ∙ uncounted in
      let given = rw none at counts in
      cc

  creates_quietly : IsQuiet CreateTable
  creates_quietly = record {
    placed = λ s e wrong. misplaced s e wrong;
    stays = λ s ends. escapes s ends;
    rowless = refl;
  }
    where
      misplaced : (s : State) (e : Error) → IsMisplaced s CreateTable e → ⊥
      misplaced s e (inl (same, inl (it, going))) = absurd cc
      misplaced s e (inl (same, inr (inl it, out))) = absurd cc
      misplaced s e (inl (same, inr (inr it, out))) = absurd cc
      misplaced s e (inr (same, name, inl it, none)) = absurd cc
      misplaced s e (inr (same, name, inr it, none)) = absurd cc

      escapes : (s : State) → Escapes 0 s CreateTable → ⊥
      escapes s (inl (inl it)) = absurd cc
      escapes s (inl (inr it)) = absurd cc
      escapes s (inr (name, inl it, held)) = absurd cc
      escapes s (inr (name, inr it, held)) = absurd cc

  module _ (old new : State) (has : old.now.schema ≡ schema) where
    never : (stop : Option Error)
        → Does old.step_limit (mode_of old) [] old.now (statement_of text (understood schema text)) None CreateTable
        (Err stop) → ⊥
    never stop does =
        let named = subst (λ t. Does old.step_limit (mode_of old) [] old.now t None CreateTable (Err stop)) one does in
        not_stopped old.now has stop
        (first_of {First = λ s. Then (MakesTable text old.now) MakesSequence (Err s)} stop (first named))
      where
        first : Defines (mode_of old) (Then (MakesTable text old.now) MakesSequence) (Err stop)
            → (s : Option Error) × Then (MakesTable text old.now) MakesSequence (Err s)
            × ◌≡◌ {A = Result (Tally × Database) (Option Error)} (Err stop) (Err s)
        first (inl it) = it
        first (inr (after, makes, gives)) = absurd cc

    -- The text that makes the table fails only if memory runs out, or if the disk or the connection fails.
    pub fails_create : (e : Error) → ExecutesInside 0 text [] old new (Err e) → Fails old new ⊥ e
    fails_create = fails_by text [] old new schema has CreateTable is creates_quietly plain whole ⊥
        (λ e does. absurd (never (Some e) does)) never
