-- The rows that a command leaves in the tables: all except the opening that closing a hall takes away.
use Rattle.std.specs.Prelude.{◌≡◌, Bool, true, false, IsTrue, List}
use Rattle.std.specs.declared.cmp.Ordering.{Ordering}
use Rattle.exam_rules.specs.Relations.{Code, Relations, has_row, opening_cmp}
use Rattle.exam_rules.specs.Tables.{Table, Openings, cmp_of, rows_of}
use Rattle.exam_commands.specs.declared.command.Command.{Command}
use Rattle.exam_commands.specs.declared.command.Command.TheVariants as command

-- each key of the one table is also in the other
abbrev pub KeepsKeys : {K X : Type 0} → (K → K → Ordering) → List (K × X) → List (K × X) → Type 0
KeepsKeys {K} cmp before after = (k : K) → IsTrue (has_row cmp before k) → IsTrue (has_row cmp after k)

-- commands take rows away from no table but that of openings
abbrev pub may_lose_rows : Table → Bool
may_lose_rows Openings = true
may_lose_rows _ = false

-- every other table keeps its keys
abbrev pub KeepsRows : Relations → Relations → Type 0
KeepsRows before after =
    (t : Table) → may_lose_rows t ≡ false → KeepsKeys (cmp_of t) (rows_of before t) (rows_of after t)

-- the command closes this hall for this session
abbrev pub IsClosing : Command → Code × Code → Type 0
IsClosing (command.CloseHall s h) k = k ≡ (s, h)
IsClosing _ k = ⊥

-- the table of openings keeps its keys except the one that the command closes
abbrev pub KeepsOpenings : Command → Relations → Relations → Type 0
KeepsOpenings done before after =
    (k : Code × Code) → (IsClosing done k → ⊥) → IsTrue (has_row opening_cmp before.openings k)
    → IsTrue (has_row opening_cmp after.openings k)
