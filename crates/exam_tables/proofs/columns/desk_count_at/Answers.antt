use Rattle.exam_types.specs.Numbers.{IsDeskCount}
use Rattle.exam_tables.proofs.Reading.{narrowed}
use Rattle.exam_tables.proofs.columns.desk_count_at.Goals as goal

pub returns : goal.returns
returns c = rw c.ok_or.ensures.value (narrowed IsDeskCount _ _ c.new.result c.in_ok-whole_at.ensures.1 c.new.ensures)
