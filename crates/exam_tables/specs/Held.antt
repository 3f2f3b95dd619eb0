-- The facts and the seats that tables hold.
use Rattle.std.specs.Prelude.{ℕ, List, ◌∷◌, map, IsPermutation}
use Rattle.sqlite_value.specs.declared.value.Value.TheVariants.{Null}
use Rattle.sqlite_value.specs.Order.{Row}
use Rattle.sqlite_trees.specs.Tree.{Trees}
use Rattle.exam_rules.specs.Relations.{Code, Relations}
use Rattle.exam_rules.specs.Tables.{Table, rows_of}
use Rattle.exam_tables.specs.Forms as forms
use Rattle.exam_tables.specs.Forms.{Form, form_of}
use Rattle.exam_tables.specs.Loaded.{HoldsTable}

-- the rows, in any order, are those of the entries
abbrev pub HoldsRows : {K X : Type 0} → (K → X → Row) → List (K × X) → List Row → Type 0
HoldsRows row entries meant = IsPermutation meant (map (λ e. Null ∷ row e.0 e.1) entries)

-- the table has the rows of these entries
abbrev pub HasRows : {K X : Type 0} → Form K X → List (K × X) → Trees → Type 0
HasRows form entries all = HoldsRows form.row entries (all form.tree)

-- the table has the rows of these entries, whose keys rise and whose values have the forms of the table
abbrev pub HasTable : {K X : Type 0} → Form K X → List (K × X) → Trees → Type 0
HasTable form entries all = HoldsTable form.cmp form.IsRow form.row entries (all form.tree)

-- each table has the rows of its relation
abbrev pub HoldsFacts : Trees → Relations → Type 0
HoldsFacts all r = (t : Table) → HasRows (form_of t) (rows_of r t) all

-- each table has the rows of its relation, whose keys rise and whose values have its forms
abbrev pub HoldsRelations : Trees → Relations → Type 0
HoldsRelations all r = (t : Table) → HasTable (form_of t) (rows_of r t) all

abbrev pub HoldsSeats : Trees → List ((Code × ℕ) × Code) → Type 0
HoldsSeats all seats = HasTable forms.seats seats all
