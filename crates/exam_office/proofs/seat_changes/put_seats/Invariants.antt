use Rattle.std.proofs.Common.{◌≡◌, ℕ, true, false, IsTrue}
use Rattle.exam_rules.specs.Orders.{KeysRise}
use Rattle.exam_rules.specs.Relations.{Code, has_row, row_at, seat_cmp}
use Rattle.exam_commands.specs.Exchanges.{all_put}
use Rattle.exam_office.proofs.seat_changes.put_seats.Given as goal

-- the seats with those that are left put are the seats with all put
abbrev pub invariant-loop-key : goal.invariant-loop-key
invariant-loop-key l = record {
  so_far : all_put seat_cmp l.seats.entries l.key-iterator ≡ all_put seat_cmp l.fn.seats.entries l.new.entries;
  among : (k : Code × ℕ) → has_row seat_cmp l.key-iterator k ≡ true → has_row seat_cmp l.new.entries k ≡ true;
  others : (k : Code × ℕ) → has_row seat_cmp l.new.entries k ≡ false
      → row_at seat_cmp l.seats.entries k ≡ row_at seat_cmp l.fn.seats.entries k;
  stays : (k : Code × ℕ) → IsTrue (has_row seat_cmp l.fn.seats.entries k) → IsTrue (has_row seat_cmp l.seats.entries k);
  rises : KeysRise seat_cmp l.seats.entries;
}
