-- The terms of the statements that put a row of a table.
use Rattle.exam_sql.proofs.Words.{list_all, Int, Null, Row, rowid, Term, col, eval_all, holds, Table, shown, bare}
use Rattle.exam_sql.proofs.Words.{places, same_key, same_rowid, Described}
use Rattle.std.proofs.Common.{◌≡◌, ◌+◌, ◌-◌, ◌++◌, true, ℕ, ℤ, List, [], ◌∷◌, length, map, Option, None, Some}
use Rattle.std.specs.List.{range_with_len}
use Rattle.sqlite_value.specs.declared.keys.Collation.TheVariants.{Binary}
use Rattle.sqlite_sql.specs.Term.{lit, op2}
use Rattle.sqlite_sql.specs.declared.ops.BinaryOp.TheVariants.{Compare}
use Rattle.sqlite_sql.specs.declared.ops.CompareOp.TheVariants.{Eq}

-- what a statement gives for the rowid and for each column; a column that is the rowid is kept as NULL
abbrev pub given_terms : Table → List Term
given_terms table = given table.key
  where
    given : Option ℕ → List Term
    given None = lit Null ∷ map (col 0) (range_with_len 0 (length table.columns))
    given (Some at) = col 0 0 ∷ lit Null ∷ map (col 0) (range_with_len 1 (length table.columns - 1))

-- the row that is there
abbrev pub found_terms : Table → List Term
found_terms table = op2 (Compare Eq Binary) (col 1 0) (col 0 (length table.columns)) ∷ []

-- its rowid, and the row that it becomes: its key, and the other columns as they are given
abbrev pub changed_terms : Table → List Term
changed_terms table =
    col 1 0 ∷ col 1 0 ∷ kept table.key
    ++ map (col 0)
    (range_with_len (length table.columns + length table.primary + 2) (length table.columns - length table.primary))
  where
    kept : Option ℕ → List Term
    kept None = map (col 1) table.primary
    kept (Some at) = lit Null ∷ []

-- the row has the key that is given
abbrev pub key_terms : Table → List Term
key_terms table = map (λ (p : ℕ). op2 (Compare Eq Binary) (col 1 p) (col 0 (p - 1))) table.primary

-- the row that is changed is the one with the rowid
abbrev pub Finds : Described → Row → Row → Type 0
Finds d columns row = (t r : Row) (id : ℤ)
    → list_all (holds ((row ++ rowid t ∷ shown d.table (Int id ∷ columns)) ∷ r ∷ [])) (found_terms d.table)
    ≡ same_rowid r t

-- by these terms the row that has the key becomes the one that is given
abbrev pub BecomesBy : List Term → Described → Row → Row → Type 0
BecomesBy changed d columns row = (t : Row) (id : ℤ)
    → same_key d.key (bare (places d.table) t) (Null ∷ row) ≡ true
    → eval_all changed ((row ++ rowid t ∷ shown d.table (Int id ∷ columns)) ∷ t ∷ [])
    ≡ rowid t ∷ rowid t ∷ columns
