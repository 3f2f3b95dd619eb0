use Rattle.std.proofs.Common.{◌≡◌}
use Rattle.exam_rules.specs.Orders.{KeysRise}
use Rattle.exam_commands.specs.Exchanges.{HasRows, put_back}
use Rattle.exam_changes.proofs.kept.put_back.Given as goal

-- the rows with those that are left put back are the rows with all put back
abbrev pub invariant-loop-key : goal.invariant-loop-key
invariant-loop-key g l = record {
  so_far : put_back g.K.Ord.cmp l.rows.entries l.key-iterator
      ≡ put_back g.K.Ord.cmp l.fn.rows.entries l.fn.kept.entries;
  there : HasRows g.K.Ord.cmp l.key-iterator l.rows.entries;
  left_rise : KeysRise g.K.Ord.cmp l.key-iterator;
  rises : KeysRise g.K.Ord.cmp l.rows.entries;
}
