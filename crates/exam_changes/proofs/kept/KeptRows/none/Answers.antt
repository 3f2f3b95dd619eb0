use Rattle.exam_rules.specs.Tables as table
use Rattle.exam_changes.proofs.kept.KeptRows.none.Goals as goal

pub returns : goal.returns
returns c = elim [
  | table.Sessions ↦ c.new.ensures.empty
  | table.Papers ↦ c.new-2.ensures.empty
  | table.Halls ↦ c.new-3.ensures.empty
  | table.Openings ↦ c.new-4.ensures.empty
  | table.Candidates ↦ c.new-5.ensures.empty
  | table.Entries ↦ c.new-6.ensures.empty
  | table.Arrangements ↦ c.new-7.ensures.empty
  | table.Appeals ↦ c.new-8.ensures.empty
  | table.Standing ↦ c.new-9.ensures.empty
]
