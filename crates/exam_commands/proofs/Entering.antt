-- A row of an import puts one row of one table: what holds of that table, and of each table as it was, holds after it.
use Rattle.std.proofs.Common.{◌≡◌, ℕ, Bool, true, false, cond, List, [], ◌∷◌, Some, is_some, refl, ap}
use Rattle.std.specs.BTreeMap.{is_at}
use Rattle.exam_rules.specs.declared.rows.Entry.{Entry}
use Rattle.exam_rules.specs.Orders.{KeysRise}
use Rattle.exam_rules.specs.Relations.{Code, Relations, entry_cmp, has_row, put_row, row_at}
use Rattle.exam_rules.specs.Tables.{KeyOf, RowOf, Table, cmp_of, rows_of}
use Rattle.exam_rules.specs.Tables as table
use Rattle.exam_commands.proofs.KeyedRows.{entries_total, has_put, keys_total, put_found, put_rises, put_same}
use Rattle.exam_commands.proofs.KeyedRows.{put_stays}
use Rattle.exam_commands.specs.declared.import_row.Row.{Row}
use Rattle.exam_commands.specs.declared.import_row.Row.TheVariants as row
use Rattle.exam_commands.specs.Changes.{rows_with, target, with_row, with_rows, with_table}
use Rattle.exam_commands.specs.KeptRows.{KeepsKeys}

-- ---- one table

pub table_itself : (r : Relations) (t : Table) (rows : List (KeyOf t × RowOf t))
    → rows_of (with_table r t rows) t ≡ rows
table_itself r table.Sessions rows = refl
table_itself r t rows = refl

pub table_as_is : (r : Relations) (t : Table) → with_table r t (rows_of r t) ≡ r
table_as_is r table.Sessions = refl
table_as_is r t = refl

-- of rows put one after the other the last stand
pub table_again : (r : Relations) (t : Table) (rows more : List (KeyOf t × RowOf t))
    → with_table (with_table r t rows) t more ≡ with_table r t more
table_again r table.Sessions rows more = refl
table_again r t rows more = refl

-- what holds of the rows of the one table, and of all rows as they were, holds of each table
pub table_by : (P : (t : Table) → List (KeyOf t × RowOf t) → Type 0) (r : Relations) (t : Table)
    (rows : List (KeyOf t × RowOf t)) → P t rows → ((u : Table) → P u (rows_of r u)) → (u : Table)
    → P u (rows_of (with_table r t rows) u)
table_by P r table.Sessions rows here same = elim [ table.Sessions ↦ here | u ↦ same u ]
table_by P r table.Papers rows here same = elim [ table.Papers ↦ here | u ↦ same u ]
table_by P r table.Halls rows here same = elim [ table.Halls ↦ here | u ↦ same u ]
table_by P r table.Openings rows here same = elim [ table.Openings ↦ here | u ↦ same u ]
table_by P r table.Candidates rows here same = elim [ table.Candidates ↦ here | u ↦ same u ]
table_by P r table.Entries rows here same = elim [ table.Entries ↦ here | u ↦ same u ]
table_by P r table.Arrangements rows here same = elim [ table.Arrangements ↦ here | u ↦ same u ]
table_by P r table.Appeals rows here same = elim [ table.Appeals ↦ here | u ↦ same u ]
table_by P r table.Standing rows here same = elim [ table.Standing ↦ here | u ↦ same u ]

-- ---- a row is entered: it is put, or an entry stays as it is

pub rows_with_by : (t : Table) (rows : List (KeyOf t × RowOf t)) (k : KeyOf t) (x : RowOf t)
    (P : List (KeyOf t × RowOf t) → Type 0) → P rows → P (put_row (cmp_of t) rows k x) → P (rows_with t rows k x)
rows_with_by table.Entries rows k x P same put = inner (has_row entry_cmp rows k)
  where
    inner : (b : Bool) → P (cond b rows (put_row entry_cmp rows k x))
    inner true = same
    inner false = put
rows_with_by t rows k x P same put = put

-- what holds of each table as it was, and goes on to a row that is put, holds after a row of an import
pub row_by : (P : (t : Table) → List (KeyOf t × RowOf t) → Type 0) (r : Relations) (x : Row)
    → ((t : Table) → P t (rows_of r t))
    → (P (target x).0 (rows_of r (target x).0)
    → P (target x).0 (put_row (cmp_of (target x).0) (rows_of r (target x).0) (target x).1 (target x).2))
    → (t : Table) → P t (rows_of (with_row r x) t)
row_by P r x same put =
    let to = target x in
    table_by P r to.0 (rows_with to.0 (rows_of r to.0) to.1 to.2)
    (rows_with_by to.0 (rows_of r to.0) to.1 to.2 (P to.0) (same to.0) (put (same to.0))) same

pub table_in_order : (r : Relations) (x : Row) (t : Table) → KeysRise (cmp_of t) (rows_of r t)
    → KeysRise (cmp_of t) (rows_of (with_row r x) t)
table_in_order r x t up =
    let to = target x in
    row_by (λ u rows. KeysRise (cmp_of u) (rows_of r u) → KeysRise (cmp_of u) rows) r x (λ u up. up)
    (λ same up. put_rises (cmp_of to.0) (keys_total to.0) (rows_of r to.0) to.1 to.2 (same up)) t up

-- an entry that exists leaves all as it was
pub entry_entered : (r : Relations) (c : ℕ) (p : Code) → with_row r (row.OfEntry c p)
    ≡ cond (has_row entry_cmp r.entries (c, p)) r
    (record r { entries = put_row entry_cmp r.entries (c, p) (record { live = true }) })
entry_entered r c p =
    inner (has_row entry_cmp r.entries (c, p)) (put_row entry_cmp r.entries (c, p) (record { live = true }))
  where
    inner : (b : Bool) (es : List ((ℕ × Code) × Entry))
        → record r { entries = cond b r.entries es } ≡ cond b r (record r { entries = es })
    inner true es = refl
    inner false es = refl

-- ---- no table loses a key

abbrev pub Keeps : Relations → Relations → Type 0
Keeps r t = (name : Table) → KeepsKeys (cmp_of name) (rows_of r name) (rows_of t name)

pub keeps_row : (r : Relations) (x : Row) → Keeps r (with_row r x)
keeps_row r x =
    let to = target x in
    row_by (λ t rows. KeepsKeys (cmp_of t) (rows_of r t) rows) r x (λ t k has. has)
    (λ same k. has_put (cmp_of to.0) (keys_total to.0) (rows_of r to.0) to.1 k to.2)

pub keeps_rows : (r : Relations) (rows : List Row) → Keeps r (with_rows r rows)
keeps_rows r [] name k has = has
keeps_rows r (x ∷ rows) name k has = keeps_rows (with_row r x) rows name k (keeps_row r x name k has)

-- ---- a row is held: it is there as it is, an entry live or withdrawn

abbrev pub IsHeld : (t : Table) → List (KeyOf t × RowOf t) → KeyOf t → RowOf t → Type 0
IsHeld table.Entries rows k x = has_row entry_cmp rows k ≡ true
IsHeld t rows k x = row_at (cmp_of t) rows k ≡ Some x

pub held_again : (t : Table) (rows : List (KeyOf t × RowOf t)) (k : KeyOf t) (x : RowOf t) → KeysRise (cmp_of t) rows
    → IsHeld t rows k x → rows_with t rows k x ≡ rows
held_again table.Entries rows k x up at = ap (λ b. cond b rows (put_row entry_cmp rows k x)) at
held_again t rows k x up at = put_same (cmp_of t) (keys_total t) rows k x up at

pub held_then : (t : Table) (rows : List (KeyOf t × RowOf t)) (k : KeyOf t) (x : RowOf t)
    → IsHeld t (rows_with t rows k x) k x
held_then table.Entries rows k x = inner (has_row entry_cmp rows k) refl
  where
    inner : (b : Bool) → has_row entry_cmp rows k ≡ b
        → has_row entry_cmp (cond b rows (put_row entry_cmp rows k x)) k ≡ true
    inner true has = has
    inner false has = ap is_some (put_found entry_cmp entries_total rows k x)
held_then t rows k x = put_found (cmp_of t) (keys_total t) rows k x

-- a row that does not contradict it leaves it
pub held_still : (t : Table) (rows : List (KeyOf t × RowOf t)) (k q : KeyOf t) (v x : RowOf t)
    → (is_at (cmp_of t k) q ≡ true → v ≡ x) → IsHeld t rows q x → IsHeld t (rows_with t rows k v) q x
held_still table.Entries rows k q v x agrees at =
    rows_with_by table.Entries rows k v (λ es. has_row entry_cmp es q ≡ true) at
    (has_put entry_cmp entries_total rows k q v at)
held_still t rows k q v x agrees at = put_stays (cmp_of t) (keys_total t) rows k q v x agrees at
