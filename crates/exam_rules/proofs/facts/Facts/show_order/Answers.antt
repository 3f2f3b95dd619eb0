use Rattle.exam_rules.specs.Tables as table
use Rattle.exam_rules.proofs.facts.Facts.show_order.Goals as goal

pub returns : goal.returns
returns c = elim [
  | table.Sessions ↦ c.len.ensures.ordered
  | table.Papers ↦ c.len-2.ensures.ordered
  | table.Halls ↦ c.len-3.ensures.ordered
  | table.Openings ↦ c.len-4.ensures.ordered
  | table.Candidates ↦ c.len-5.ensures.ordered
  | table.Entries ↦ c.len-6.ensures.ordered
  | table.Arrangements ↦ c.len-7.ensures.ordered
  | table.Appeals ↦ c.len-8.ensures.ordered
  | table.Standing ↦ c.len-9.ensures.ordered
]
