use Rattle.std.proofs.Common.{◌≡◌, ◌+◌, ◌<◌, ℕ, List, Some, length}
use Rattle.exam_files.specs.Left.{Leaves}
use Rattle.exam_files.specs.ImportFiles.{rows_in, rows_from}
use Rattle.exam_files.proofs.imports.read_records.Given as goal

-- the rows so far and the records left give the import, and there are turns enough for the records
abbrev pub invariant-loop-place : goal.invariant-loop-place
invariant-loop-place l = (rs : List (List (List ℕ))) × Leaves (λ s. Some s.now) l.reader rs
    × (rows_from l.fn.kind (l.place + 1) l.import.rows rs ≡ rows_in l.fn.kind l.fn.bytes)
    × (length rs + l.place < length l.fn.bytes)
    × (length l.import.rows ≡ l.place) × (l.import.kind ≡ l.fn.kind)
