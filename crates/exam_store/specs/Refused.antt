-- Tables that hold no office.
use Rattle.std.specs.Prelude.{◌⊎◌, ℕ, Bool, true, IsTrue, List}
use Rattle.std.specs.Option.{option_map_or}
use Rattle.sqlite_trees.specs.Tree.{Trees}
use Rattle.exam_rules.specs.Relations.{Code, Relations}
use Rattle.exam_commands.specs.Good.{IsGood}
use Rattle.exam_commands.specs.Limits.{holds_at_most}
use Rattle.exam_commands.specs.State.{State}
use Rattle.exam_tables.specs.Held.{HoldsRelations, HoldsSeats}
use Rattle.exam_tables.specs.Versions.{HasVersion, version_at}
use Rattle.exam_tables.specs.declared.version.Version.{Version}

-- the tables have the rows of this office, whose keys rise and whose values have the forms of their columns
abbrev pub HoldsFormed : Trees → State → Type 0
HoldsFormed all office = HoldsRelations all office.relations × HoldsSeats all office.seats

-- no more than the version can hold
abbrev pub is_within : Version → State → Bool
is_within version office =
    option_map_or (λ most. holds_at_most most.openings most.greatest_sum office.relations) version.limits true

-- A good office, with no more than the version with this number can hold. The rules are the same for all versions.
abbrev pub IsGoodIn : ℕ → State → Type 0
IsGoodIn v office = IsGood office × IsTrue (is_within (version_at v) office)

-- a table has rows that no office has, or what the tables hold is not good in that sense
abbrev pub HoldsNoOffice : (State → Type 0) → Trees → Type 0
HoldsNoOffice Good all =
    ((r : Relations) → HoldsRelations all r → ⊥)
    ⊎ (((seats : List ((Code × ℕ) × Code)) → HoldsSeats all seats → ⊥)
    ⊎ ((office : State) × HoldsFormed all office × (Good office → ⊥)))

-- the version is missing, or there is no good office of it
abbrev pub HoldsNone : ℕ → Trees → Type 0
HoldsNone version all = (HasVersion version all → ⊥) ⊎ HoldsNoOffice (IsGoodIn version) all
