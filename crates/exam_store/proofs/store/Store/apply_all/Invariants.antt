use Rattle.std.proofs.Common.{◌≡◌, ◌≤◌, length, take}
use Rattle.std.specs.Prelude.{vec_len}
use Rattle.std.specs.Vec.{vec_capacity}
use Rattle.sqlite.specs.Held.{state}
use Rattle.exam_store.specs.Applied.{Applies, AreApplied}
use Rattle.exam_tables.specs.Transactions.{IsSound}
use Rattle.exam_store.specs.Kept.{Rekeeps}
use Rattle.exam_store.proofs.store.Store.apply_all.Given as goal

-- the commands so far, what they answered and what they made of the tables; and there is room for the other replies
abbrev pub invariant-commands : goal.invariant-commands
invariant-commands g l = record {
  so_far : Applies (take l.command-index l.commands) l.fn.self.office l.replies.items l.self.office;
  each : AreApplied g.S.Store (take l.command-index l.commands) l.fn.self l.replies.items l.self;
  kept : IsSound (state g.S.Store l.self.database)
      → Rekeeps l.fn.self.office l.self.office (state g.S.Store l.fn.self.database).now
      (state g.S.Store l.self.database).now;
  was_open : IsSound (state g.S.Store l.self.database) → IsSound (state g.S.Store l.fn.self.database);
  answered : vec_len l.replies ≡ l.command-index;
  room : length l.commands ≤ vec_capacity l.replies;
}
