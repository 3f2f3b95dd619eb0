-- A put and a delete of one table, and many of them.
use Rattle.std.specs.Prelude.{◌≡◌, ℕ, Bool, false, List, [], ◌∷◌}
use Rattle.std.specs.List.{list_any}
use Rattle.sqlite_value.specs.declared.value.Value.TheVariants.{Null}
use Rattle.sqlite_value.specs.Order.{Row}
use Rattle.sqlite_trees.specs.Tree.{Trees, with_tree}
use Rattle.exam_sql.specs.Content.{put, delete, same_key}

-- the row, as a query shows it, replaces the row with its key in the table of this tree
abbrev pub with_row : ℕ → List ℕ → Row → Trees → Trees
with_row tree key row all = with_tree all tree (put key (Null ∷ row) (all tree))

-- the rows without those that have this key
abbrev pub without_row : ℕ → List ℕ → Row → Trees → Trees
without_row tree key row all = with_tree all tree (delete key (Null ∷ row) (all tree))

abbrev pub put_all : List ℕ → List Row → List Row → List Row
put_all key [] rows = rows
put_all key (r ∷ more) rows = put_all key more (put key r rows)

abbrev pub delete_all : List ℕ → List Row → List Row → List Row
delete_all key [] rows = rows
delete_all key (r ∷ more) rows = delete_all key more (delete key r rows)

-- the rows of one table are put, one after another
abbrev pub with_puts : ℕ → List ℕ → List Row → Trees → Trees
with_puts tree key [] all = all
with_puts tree key (r ∷ more) all = with_puts tree key more (with_tree all tree (put key r (all tree)))

abbrev pub with_deletes : ℕ → List ℕ → List Row → Trees → Trees
with_deletes tree key [] all = all
with_deletes tree key (r ∷ more) all =
    with_deletes tree key more (with_tree all tree (delete key r (all tree)))

-- the row has the key of one of these
abbrev pub is_among : List ℕ → List Row → Row → Bool
is_among key rows r = list_any (same_key key r) rows

-- no two of the rows have the same key
abbrev pub AreApart : List ℕ → List Row → Type 0
AreApart key [] = Unit {0}
AreApart key (r ∷ more) = (is_among key more r ≡ false) × AreApart key more
