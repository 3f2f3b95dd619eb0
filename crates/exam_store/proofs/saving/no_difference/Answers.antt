use Rattle.exam_tables.proofs.RowTurning.{nothing_turns}
use Rattle.exam_store.proofs.saving.no_difference.Goals as goal

pub returns : goal.returns
returns g c rows = rw (c.new.ensures.items, c.new-2.ensures.items) (nothing_turns g.K.Ord.cmp rows)
