-- Offices in the order of their keys.
use Rattle.exam_rules.specs.Orders.{AreInOrder, KeysRise}
use Rattle.exam_rules.specs.Relations.{seat_cmp}
use Rattle.exam_commands.specs.State.{State}

-- the keys of every table and of the seats rise
pub record IsInOrder (office : State) : Type 0 where
  pub tables : AreInOrder office.relations
  pub seats : KeysRise seat_cmp office.seats
