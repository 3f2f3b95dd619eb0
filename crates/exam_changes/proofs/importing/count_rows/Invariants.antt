use Rattle.std.proofs.Common.{◌≡◌, drop}
use Rattle.exam_rules.specs.Relations.{relations_of}
use Rattle.exam_commands.specs.Changes.{rows_refusal}
use Rattle.exam_changes.proofs.Counting.{AreCounted}
use Rattle.exam_changes.proofs.importing.count_rows.Given as goal

-- the rows before the place are counted, and those that are left decide as all do
abbrev pub invariant-loop-place : goal.invariant-loop-place
invariant-loop-place l =
    AreCounted (relations_of l.facts) l.import.rows l.place l.counts
    × (rows_refusal (relations_of l.facts) (drop l.place l.import.rows)
    ≡ rows_refusal (relations_of l.facts) l.import.rows)
