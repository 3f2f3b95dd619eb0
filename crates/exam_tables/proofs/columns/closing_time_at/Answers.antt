use Rattle.exam_types.specs.Numbers.{IsClosingTime}
use Rattle.exam_tables.proofs.Reading.{narrowed}
use Rattle.exam_tables.proofs.columns.closing_time_at.Goals as goal

pub returns : goal.returns
returns c = rw c.ok_or.ensures.value (narrowed IsClosingTime _ _ c.new.result c.in_ok-small_at.ensures.1 c.new.ensures)
