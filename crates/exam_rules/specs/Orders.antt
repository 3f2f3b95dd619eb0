-- Tables in the order of their keys.
use Rattle.std.specs.Prelude.{List}
use Rattle.std.specs.declared.cmp.Ordering.{Ordering}
use Rattle.std.specs.List.Sorted.{IsStrictlySortedBy}
use Rattle.std.specs.Map.{keys_of}
use Rattle.exam_rules.specs.Relations.{Relations}
use Rattle.exam_rules.specs.Tables.{Table, cmp_of, rows_of}

-- each key is below those after it, so no key comes twice
abbrev pub KeysRise : {K X : Type 0} → (K → K → Ordering) → List (K × X) → Type 0
KeysRise cmp rows = IsStrictlySortedBy cmp (keys_of rows)

-- the keys of every table rise
abbrev pub AreInOrder : Relations → Type 0
AreInOrder r = (t : Table) → KeysRise (cmp_of t) (rows_of r t)
