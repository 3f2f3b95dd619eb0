use Rattle.exam_types.specs.Numbers.{IsNumber}
use Rattle.exam_tables.proofs.Reading.{narrowed}
use Rattle.exam_tables.proofs.columns.number_at.Goals as goal

pub returns : goal.returns
returns c = rw c.ok_or.ensures.value (narrowed IsNumber _ _ c.new.result c.in_ok-whole_at.ensures.1 c.new.ensures)
