-- A change of the facts is taken back, and an import changes its own table only.
use Rattle.std.proofs.Common.{◌≡◌, ℕ, true, false, List, [], ◌∷◌, Option, None, Some, is_some, refl, ap, sym, subst}
use Rattle.std.proofs.Common.{◌∙◌}
use Rattle.std.specs.Cmp.{IsTotalOrder}
use Rattle.std.specs.declared.cmp.Ordering.{Ordering}
use Rattle.std.proofs.lemmas.List.Elements.{All-head, All-tail}
use Rattle.exam_rules.specs.declared.rows.Appeal.{Appeal}
use Rattle.exam_rules.specs.declared.rows.Entry.{Entry}
use Rattle.exam_rules.specs.Orders.{KeysRise}
use Rattle.exam_rules.specs.Tables.{KeyOf, RowOf, Table, cmp_of, rows_of}
use Rattle.exam_rules.specs.Tables as table
use Rattle.exam_rules.specs.Relations.{Code, Relations, appeal_cmp, entry_cmp, has_row, put_row, row_at}
use Rattle.exam_commands.proofs.KeyedRows.{appeals_total, put_again, put_found, put_removed, put_same}
use Rattle.exam_commands.specs.declared.import_row.Kind.{Kind}
use Rattle.exam_commands.specs.declared.import_row.Kind.TheVariants as kind
use Rattle.exam_commands.specs.declared.import_row.Row.{Row}
use Rattle.exam_commands.specs.declared.import_row.Row.TheVariants as row
use Rattle.exam_changes.specs.declared.undo.Undo.TheVariants as undo
use Rattle.exam_commands.specs.Changes.{rows_with, target, with_row, with_rows, with_table}
use Rattle.exam_commands.specs.Imports.{AreOfKind, kind_of}
use Rattle.exam_changes.specs.declared.kept.KeptRows.{KeptRows}
use Rattle.exam_commands.specs.Exchanges.{GoBack, put_back}
use Rattle.exam_commands.proofs.Entering.{table_again, table_as_is, table_itself}
use Rattle.exam_changes.specs.Undoing.{AreNone, RowsGoBack, TakesBack, kept_of}

-- ---- a row that is put

module _ {K X : Type 0} (cmp : K → K → Ordering) (o : IsTotalOrder cmp) where
  -- the row that was at the key is put back
  pub row_again : (rows : List (K × X)) (k : K) (x y : X) → KeysRise cmp rows → row_at cmp rows k ≡ Some y
      → put_row cmp (put_row cmp rows k x) k y ≡ rows
  row_again rows k x y up at = put_again cmp o rows k x y ∙ put_same cmp o rows k y up at

-- ---- an entry or an appeal

pub entry_back : (r : Relations) (k : ℕ × Code) (x y : Entry) → KeysRise entry_cmp r.entries
    → row_at entry_cmp r.entries k ≡ Some y
    → TakesBack (undo.Entry k y) (record r { entries = put_row entry_cmp r.entries k x }) r
entry_back r k x y up at = (
  ap is_some (put_found entry_cmp appeals_total r.entries k x),
  ap (λ (rows : List ((ℕ × Code) × Entry)). record r { entries = rows })
      (row_again entry_cmp appeals_total r.entries k x y up at),
)

pub appeal_back : (r : Relations) (k : ℕ × Code) (x y : Appeal) → KeysRise appeal_cmp r.appeals
    → row_at appeal_cmp r.appeals k ≡ Some y
    → TakesBack (undo.Appeal k y) (record r { appeals = put_row appeal_cmp r.appeals k x }) r
appeal_back r k x y up at = (
  ap is_some (put_found appeal_cmp appeals_total r.appeals k x),
  ap (λ (rows : List ((ℕ × Code) × Appeal)). record r { appeals = rows })
      (row_again appeal_cmp appeals_total r.appeals k x y up at),
)

pub new_appeal_back : (r : Relations) (k : ℕ × Code) (x : Appeal) → row_at appeal_cmp r.appeals k ≡ None
    → TakesBack (undo.NewAppeal k) (record r { appeals = put_row appeal_cmp r.appeals k x }) r
new_appeal_back r k x none = (
  ap is_some (put_found appeal_cmp appeals_total r.appeals k x),
  ap (λ (rows : List ((ℕ × Code) × Appeal)). record r { appeals = rows })
      (put_removed appeal_cmp appeals_total r.appeals k x none),
)

-- ---- the rows of an import

none_goes_back : {K X : Type 0} (cmp : K → K → Ordering) (was : List (K × Option X)) (rows : List (K × X)) → was ≡ []
    → GoBack cmp was rows rows
none_goes_back cmp was rows none = record {
  there = λ k has. absurd (let differ : false ≡ true = sym (ap (λ kept. has_row cmp kept k) none) ∙ has in cc);
  back = ap (put_back cmp rows) none;
}

-- if nothing is kept yet, nothing has changed
pub none_back : (kept : KeptRows) (r : Relations) → AreNone kept → RowsGoBack kept r r
none_back kept r none t = none_goes_back (cmp_of t) (kept_of kept t) (rows_of r t) (none t)

-- with all rows as they were the facts are the first ones
pub rows_back : (kept : KeptRows) (t r : Relations) → RowsGoBack kept t r → TakesBack (undo.Rows kept) t r
rows_back kept t r back = (
  λ name. (back name).there,
  λ i. record {
    sessions = (back table.Sessions).back i;
    papers = (back table.Papers).back i;
    halls = (back table.Halls).back i;
    openings = (back table.Openings).back i;
    candidates = (back table.Candidates).back i;
    entries = (back table.Entries).back i;
    arrangements = (back table.Arrangements).back i;
    appeals = (back table.Appeals).back i;
    standing = (back table.Standing).back i;
  },
)

-- ---- the table of an import

abbrev pub table_of : Kind → Table
table_of kind.Sessions = table.Sessions
table_of kind.Papers = table.Papers
table_of kind.Halls = table.Halls
table_of kind.Openings = table.Openings
table_of kind.Candidates = table.Candidates
table_of kind.Entries = table.Entries
table_of kind.Arrangements = table.Arrangements

-- t differs from r at most in the table of the kind
abbrev pub ChangesOnly : Kind → Relations → Relations → Type 0
ChangesOnly k r t = t ≡ with_table r (table_of k) (rows_of t (table_of k))

pub only_same : (k : Kind) (r : Relations) → ChangesOnly k r r
only_same k r = sym (table_as_is r (table_of k))

-- one more row of the kind
pub only_more : (k : Kind) (r t : Relations) (x : Row) → kind_of x ≡ k → ChangesOnly k r t
    → ChangesOnly k r (with_row t x)
only_more k r t x of only =
    subst (λ n. with_row t x ≡ with_table r n (rows_of (with_row t x) n)) (target_of x ∙ ap table_of of)
    (ap (λ (s : Relations). with_table s name rows) (only_so (sym (target_of x ∙ ap table_of of)))
    ∙ table_again r name (rows_of t name) rows ∙ ap (with_table r name) (sym (table_itself t name rows)))
  where
    name : Table
    name = (target x).0

    rows : List (KeyOf name × RowOf name)
    rows = rows_with name (rows_of t name) (target x).1 (target x).2

    only_so : table_of k ≡ name → t ≡ with_table r name (rows_of t name)
    only_so same = subst (λ n. t ≡ with_table r n (rows_of t n)) same only

    target_of : (y : Row) → (target y).0 ≡ table_of (kind_of y)
    target_of (row.OfSession s v) = refl
    target_of y = refl

only_rest : (k : Kind) (r t : Relations) (xs : List Row) → AreOfKind k xs → ChangesOnly k r t
    → ChangesOnly k r (with_rows t xs)
only_rest k r t [] of only = only
only_rest k r t (x ∷ xs) of only =
    only_rest k r (with_row t x) xs (All-tail (λ y. kind_of y ≡ k) x xs of)
    (only_more k r t x (All-head (λ y. kind_of y ≡ k) x xs of) only)

-- an accepted import changes its table only
pub import_only : (k : Kind) (r : Relations) (xs : List Row) → AreOfKind k xs → ChangesOnly k r (with_rows r xs)
import_only k r xs of = only_rest k r r xs of (only_same k r)
