-- The orders followed so far have their outcomes, and the store is the one that they led to.
use Rattle.exam_theorem.proofs.Words.{Follows}
use Rattle.std.proofs.Common.{◌≡◌, ◌+◌, ◌∷◌, ◌++◌, [], take, ap, sym, ◌∙◌, arith}
use Rattle.std.proofs.lemmas.List.{take_more}
use Rattle.exam_theorem.specs.Following.{SparesOthers}
use Rattle.exam_theorem.proofs.KeptOffice.{then_on}
use Rattle.exam_theorem.proofs.Listing.{next_of_each}
use Rattle.exam_theorem.proofs.Passing.{next_passed}
use Rattle.exam_theorem.proofs.orders.follow_all.Goals as goal

pub orders-preserved : goal.orders-preserved
orders-preserved g c =
    let i = c.orders.order-index in
    let orders = c.args.orders.now in
    let x = c.order-item.result in
    let before = c.args.store.now.office in
    let mid = c.orders.store.office in
    let after = c.follow.new.store.office in
    let outcomes = c.orders.outcomes.items in
    let all = c.push_reserved.new.self.items in
    let more : take (i + 1) orders ≡ take i orders ++ x ∷ [] =
    take_more orders i x c.orders-test.true ∙ ap (λ z. take i orders ++ z ∷ []) (sym c.order-item.is) in
    record {
      so_far = next_of_each Follows (take i orders)
          (take (i + 1) orders) x more outcomes all c.follow.result c.push_reserved.ensures.items before mid after
          c.orders.invariant.so_far c.follow.ensures.follows;
      spares = next_of_each SparesOthers (take i orders)
          (take (i + 1) orders) x more outcomes all c.follow.result c.push_reserved.ensures.items before mid after
          c.orders.invariant.spares
          (record {
            follows = c.follow.ensures.follows;
            spares = c.follow.ensures.spares;
            seated = c.follow.ensures.headline;
          });
      passes = next_passed g.S.Store (take i orders)
          (take (i + 1) orders) x more outcomes all c.follow.result c.push_reserved.ensures.items c.args.store.now
          c.orders.store c.follow.new.store
          c.orders.invariant.passes
          (record {
            follows = c.follow.ensures.follows;
            spares = c.follow.ensures.spares;
            seated = c.follow.ensures.headline;
            own = c.follow.ensures.own;
            settles = c.follow.ensures.settles;
          });
      kept = then_on g.S.Store c.args.store.now c.orders.store c.follow.new.store c.orders.invariant.kept
          c.follow.ensures.kept;
      answered = omega (arith, c.push_reserved.ensures.len, c.orders.invariant.answered);
      room = omega (arith, c.push_reserved.ensures.capacity, c.orders.invariant.room);
    }
