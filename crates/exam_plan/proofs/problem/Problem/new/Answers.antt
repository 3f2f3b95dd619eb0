-- Each row that was read so far is the set of its halls, since each hall is below the most halls that a set can hold.
-- So what the sets represent is the rows again.
use Rattle.exam_plan.proofs.Words.{IsStrictlySortedBy, nat_cmp, most_halls, holds, halls_below, list_any, AreMasks}
use Rattle.std.proofs.Common.{◌≡◌, ◌+◌, ◌<◌, ℕ, nat_eq, List, Vec, Global, length, take, map, sym, ap, subst, arith}
use Rattle.std.specs.Prelude.{All}
use Rattle.exam_plan.proofs.HallRows.{AreSets, row_known, sets_more, sets_done}
use Rattle.exam_plan.proofs.problem.Problem.new.Goals as goal

pub set_of-requires : goal.set_of-requires
set_of-requires c =
    let few : length c.args.desks.items < most_halls + 1 = omega (arith, c.requires.few_halls) in
    let Q : List ℕ → Type 0 = λ hs. All (λ h. h < most_halls) hs in
    subst Q (sym c.as_slice.ensures.value)
    (λ i d l. let b : _ < length c.args.desks.items =
    row_known (λ hs. All (λ h. h < length c.args.desks.items) hs) c.args.fit.items c.deref-row-items.result.now
    c.loop-row.row-index c.row-item.result c.deref-row-items.ensures.value c.requires.problem.exist
    c.loop-row-test.true c.row-item.is i d l in omega (arith, b, few))

pub loop-row-preserved : goal.loop-row-preserved
loop-row-preserved c =
    rw c.in_ok-push.ensures.items
    (sets_more (length c.args.desks.items) c.loop-row.row-index c.deref-row-items.result.now c.row-item.result
    c.loop-row.sets.items c.set_of.result c.loop-row.invariant
    c.loop-row-test.true c.row-item.is
    (row_known (IsStrictlySortedBy nat_cmp) c.args.fit.items c.deref-row-items.result.now c.loop-row.row-index
    c.row-item.result c.deref-row-items.ensures.value c.requires.problem.rising c.loop-row-test.true c.row-item.is)
    (row_known (λ hs. All (λ h. h < length c.args.desks.items) hs) c.args.fit.items c.deref-row-items.result.now
    c.loop-row.row-index c.row-item.result c.deref-row-items.ensures.value c.requires.problem.exist
    c.loop-row-test.true c.row-item.is)
    (subst (λ (s : List ℕ). (h : ℕ) → holds c.set_of.result h ≡ list_any (nat_eq h) s) c.as_slice.ensures.value
    c.set_of.ensures))

done : (c : goal.After-loop-row) → AreMasks c.args.desks.items c.loop-row.sets.items c.args.rank.items
    × (map (halls_below (length c.args.desks.items)) c.loop-row.sets.items
    ≡ map (λ (r : Vec ℕ Global). r.items) c.args.fit.items)
done c =
    let P : List (Vec ℕ Global) → Type 0 =
    λ fits. AreSets (length c.args.desks.items)
    (take c.loop-row.row-index (map (λ (r : Vec ℕ Global). r.items) fits)) c.loop-row.sets.items in
    sets_done c.args.desks.items c.args.rank.items c.loop-row.sets.items c.loop-row.row-index c.args.fit.items
    c.requires.problem c.requires.few_halls
    (omega (arith, c.loop-row-test.false, ap length c.deref-row-items.ensures.value))
    (subst P c.deref-row-items.ensures.value c.loop-row.invariant)

pub invariant_of-result : goal.invariant_of-result
invariant_of-result c = (done c).0
