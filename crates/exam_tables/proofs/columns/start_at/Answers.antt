use Rattle.exam_types.specs.Numbers.{IsStartTime}
use Rattle.exam_tables.proofs.Reading.{narrowed}
use Rattle.exam_tables.proofs.columns.start_at.Goals as goal

pub returns : goal.returns
returns c = rw c.ok_or.ensures.value (narrowed IsStartTime _ _ c.new.result c.in_ok-small_at.ensures.1 c.new.ensures)
