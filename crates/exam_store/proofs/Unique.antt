-- Tables hold one office.
use Rattle.std.proofs.Common.{◌≡◌}
use Rattle.sqlite_trees.specs.Tree.{Trees}
use Rattle.exam_commands.specs.State.{State}
use Rattle.exam_tables.proofs.OneTable.{one_facts, one_seats}
use Rattle.exam_store.specs.Refused.{HoldsFormed}

pub one_office : (all : Trees) (a b : State) → HoldsFormed all a → HoldsFormed all b → a ≡ b
one_office all a b x y =
    let relations = one_facts all a.relations b.relations x.0 y.0 in
    let seats = one_seats all a.seats b.seats x.1 y.1 in
    λ i. record { relations = relations i; seats = seats i }
