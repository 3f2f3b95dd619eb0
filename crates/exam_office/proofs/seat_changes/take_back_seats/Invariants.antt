use Rattle.std.proofs.Common.{◌≡◌, ℕ, IsTrue}
use Rattle.exam_rules.specs.Orders.{KeysRise}
use Rattle.exam_rules.specs.Relations.{Code, has_row, seat_cmp}
use Rattle.exam_commands.specs.Exchanges.{taken_back}
use Rattle.exam_office.proofs.seat_changes.take_back_seats.Given as goal

abbrev pub invariant-loop-key : goal.invariant-loop-key
invariant-loop-key l = record {
  so_far : taken_back seat_cmp l.seats.entries l.old.entries l.key-iterator
      ≡ taken_back seat_cmp l.fn.seats.entries l.old.entries l.new.entries;
  there : (k : Code × ℕ) → IsTrue (has_row seat_cmp l.old.entries k) → IsTrue (has_row seat_cmp l.seats.entries k);
  rises : KeysRise seat_cmp l.seats.entries;
}
