use Rattle.exam_theorem.proofs.Words.{AreFollowed, KeepsOn, shown}
use Rattle.std.proofs.Common.{◌≡◌, ◌≤◌, length, take}
use Rattle.std.specs.Prelude.{map, vec_len}
use Rattle.std.specs.Vec.{vec_capacity}
use Rattle.exam_theorem.specs.Following.{EachSparesOthers}
use Rattle.exam_theorem.specs.Life.{ArePassed}
use Rattle.exam_theorem.proofs.orders.follow_all.Given as goal

-- what became of the orders so far, and of the tables; and there is room for the other outcomes
abbrev pub invariant-orders : goal.invariant-orders
invariant-orders g l = record {
  so_far : AreFollowed (map shown (take l.order-index l.orders)) l.fn.store.office l.outcomes.items l.store.office;
  spares : EachSparesOthers (map shown (take l.order-index l.orders)) l.fn.store.office l.outcomes.items l.store.office;
  passes : ArePassed g.S.Store (map shown (take l.order-index l.orders)) l.fn.store l.outcomes.items l.store;
  kept : KeepsOn g.S.Store l.fn.store l.store;
  answered : vec_len l.outcomes ≡ l.order-index;
  room : length l.orders ≤ vec_capacity l.outcomes;
}
