use Rattle.std.proofs.Common.{◌≡◌, map, drop}
use Rattle.csv.specs.Records.{fields_of}
use Rattle.exam_files.specs.ImportFiles.{has_fields}
use Rattle.exam_files.proofs.headers.has_names.Given as goal

-- the names that are left decide as all do
abbrev pub invariant-loop-column : goal.invariant-loop-column
invariant-loop-column l =
    has_fields l.column (map (λ name. name.now) (drop l.column l.names)) (fields_of l.fields)
    ≡ has_fields 0 (map (λ name. name.now) l.names) (fields_of l.fields)
