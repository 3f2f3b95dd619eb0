-- The values of a statement, as a row that a table keeps.
use Rattle.exam_sql.proofs.Words.{is_eq, and_parts, Value, Null, Int, Row, value_cmp, plain, first_key, rowid, IsShaped}
use Rattle.exam_sql.proofs.Words.{Table, equal, Chosen, cast, Has, with_rowid, is_taken, all_has, some_from, int_is}
use Rattle.exam_sql.proofs.Words.{places, bare, same_key, same_rowid}
use Rattle.std.proofs.Common.{◌≡◌, ℕ, ℤ, true, List, ◌∷◌, refl, sym, ap, subst, ◌∙◌, true≢false, Equal}
use Rattle.sqlite_trees.specs.declared.store.Shape.TheVariants.{Table as TableShape}
use Rattle.sqlite_schema.specs.declared.schema.Kind.TheVariants.{Integer}
use Rattle.sqlite_rules.specs.Cast.{cast_all}
use Rattle.sqlite_rules.specs.Edit.{next_rowid}
use Rattle.sqlite_rules.proofs.PlaceLemmas.{next_is_free}
use Rattle.sqlite.specs.Rows.{mended_from}
use Rattle.exam_sql.proofs.Keys.{cast_int, cast_null, tied_from, same_ints}

-- the row that a statement's source becomes, beside the rows that are there
pub record Comes (table : Table) (key : List ℕ) (first : Value) (columns values : Row) (rows : List Row) : Type 0 where
  pub id : ℤ
  pub numbered : with_rowid Chosen rows (first ∷ columns) ≡ Int id ∷ columns
  pub full : bare (places table) (Int id ∷ columns) ≡ Null ∷ values
  -- a row has its rowid only if it has its key
  pub tied : (r : Row) → Has rows r → same_rowid r (Int id ∷ columns) ≡ true
      → same_key key (bare (places table) r) (Null ∷ values) ≡ true

-- The source `first ∷ columns` of a statement is stored as it is, and represents the values.
pub record Fits (table : Table) (key : List ℕ) (first : Value) (columns values : Row) : Type 0 where
  pub whole : mended_from table.key 0 table.columns columns ≡ columns
  pub typed : cast_all table.columns columns ≡ columns
  pub first_typed : cast Integer first ≡ first
  pub comes : (rows : List Row) → IsShaped TableShape rows → Comes table key first columns values rows
  -- so it is too at the rowid of a row that has the key
  pub moved : (r : Row) (id : ℤ) → rowid r ≡ Int id → same_key key (bare (places table) r) (Null ∷ values) ≡ true
      → bare (places table) (Int id ∷ columns) ≡ Null ∷ values

-- the rowid is chosen, and is no column
pub fits_chosen : (table : Table) (key : List ℕ) (values : Row) → mended_from table.key 0 table.columns values ≡ values
    → cast_all table.columns values ≡ values
    → ((v : Value) → bare (places table) (v ∷ values) ≡ Null ∷ values) → Fits table key Null values values
fits_chosen table key values whole typed full = record {
  whole = whole;
  typed = typed;
  first_typed = cast_null;
  comes = λ rows shaped. record {
    id = next_rowid rows;
    numbered = refl;
    full = full (Int (next_rowid rows));
    tied = λ r h same. absurd (never rows shaped r h same);
  };
  moved = λ r id at same. full (Int id);
}
  where
    never : (rows : List Row) → IsShaped TableShape rows → (r : Row) → Has rows r
        → same_rowid r (Int (next_rowid rows) ∷ values) ≡ true → ⊥
    never rows shaped r h same =
        let whole = int_is (rowid r) (all_has _ rows r shaped.1 h) in
        let ints = subst (λ v. equal (first_key plain).collation v (Int (next_rowid rows)) ≡ true) whole
        (and_parts _ _ same).0 in
        let taken : is_taken rows (Int (next_rowid rows) ∷ values) ≡ true =
        some_from (λ r. is_eq (value_cmp (rowid r) (Int (next_rowid rows)))) rows r h
        (ap is_eq (subst (λ v. value_cmp v (Int (next_rowid rows)) ≡ Equal) (sym whole) (tied_from _ _ ints))) in
        true≢false (sym taken ∙ next_is_free Chosen rows values shaped.0 shaped.1)

-- the rowid is the key, a number that the statement gives
pub fits_given : (table : Table) (key : List ℕ) (n : ℤ) (columns values : Row)
    → mended_from table.key 0 table.columns columns ≡ columns → cast_all table.columns columns ≡ columns
    → bare (places table) (Int n ∷ columns) ≡ Null ∷ values
    → ((r : Row) → same_key key (bare (places table) r) (Null ∷ values) ≡ same_rowid r (Int n ∷ columns))
    → Fits table key (Int n) columns values
fits_given table key n columns values whole typed full is = record {
  whole = whole;
  typed = typed;
  first_typed = cast_int n;
  comes = λ rows shaped. record { id = n; numbered = refl; full = full; tied = λ r h same. is r ∙ same };
  moved = λ r id at same.
      let ints = subst (λ v. equal (first_key plain).collation v (Int n) ≡ true) at
      (and_parts _ _ (sym (is r) ∙ same)).0 in
      subst (λ m. bare (places table) (Int m ∷ columns) ≡ Null ∷ values)
      (sym (same_ints id n (tied_from (Int id) (Int n) ints))) full;
}
