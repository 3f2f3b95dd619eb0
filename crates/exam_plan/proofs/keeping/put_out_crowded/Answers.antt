-- The counts are those who were met so far, by hall. Who meets a count above the desks is one with as many lesser
-- candidates in their hall as it has desks; all others stay.
use Rattle.exam_plan.proofs.Words.{length-set, get_or-set_same, get_or_default, Problem, plan_at, seating_of}
use Rattle.exam_plan.proofs.Words.{where_room, lesser_occupants, count_at}
use Rattle.std.proofs.Common.{rules, ◌≡◌, ℕ, ◌+◌, ◌<◌, ◌≤◌, List, Option, length, get_or, set, None, Some, IfSome, refl}
use Rattle.std.proofs.Common.{arith}
use Rattle.std.specs.Prelude.{All}
use Rattle.exam_plan.proofs.Steps.{count_at-le, met_some, met_none, place_below}
use Rattle.exam_plan.proofs.KeptLemmas.{IsFilteredBelow, below_read, below_stays_at, below_out_at, below_all}
use Rattle.exam_plan.proofs.KeptLemmas.{counted_lesser, room_out, room_stays, places_none}
use Rattle.exam_plan.proofs.keeping.put_out_crowded.Goals as goal
use Rattle.exam_plan.proofs.keeping.put_out_crowded.Goals.{in-Some+then-desk_count-met, in-Some+else-desk_count-met}
use Rattle.exam_plan.proofs.keeping.put_out_crowded.Goals.{in_default}

-- after one more candidate, who sits in the hall, is counted: what the count decides
record Taken (p : Problem) (before plan : List (Option ℕ)) (met : List ℕ) (i h desks : ℕ) : Type 0 where
  room : length p.desk_counts ≤ length (set met h (get_or met h 0 + 1))
  counted : (k : ℕ) → k < length p.desk_counts
      → get_or (set met h (get_or met h 0 + 1)) k 0 ≡ count_at (plan_at before) k (i + 1)
  out : desks < get_or (set met h (get_or met h 0 + 1)) h 0
      → IsFilteredBelow (where_room (seating_of p) (plan_at before)) before (set plan i None) (i + 1)
  stays : get_or (set met h (get_or met h 0 + 1)) h 0 ≤ desks
      → IsFilteredBelow (where_room (seating_of p) (plan_at before)) before plan (i + 1)

taken : (p : Problem) (before plan : List (Option ℕ)) (met : List ℕ) (i h desks : ℕ) → length before ≡ length p.fit
    → length plan ≡ length before → i < length before
    → All (λ place. IfSome place (λ k. k < length p.desk_counts)) plan
    → IsFilteredBelow (where_room (seating_of p) (plan_at before)) before plan i
    → length p.desk_counts ≤ length met
    → ((k : ℕ) → k < length p.desk_counts → get_or met k 0 ≡ count_at (plan_at before) k i)
    → get_or plan i None ≡ Some h → desks ≡ get_or p.desk_counts h 0 → Taken p before plan met i h desks
taken p before plan met i h desks whole same within exist kept room counted here are =
    let R : ℕ → Option ℕ → Option ℕ = where_room (seating_of p) (plan_at before) in
    let below : h < length p.desk_counts =
    place_below plan (length p.desk_counts) i h exist (omega (arith, within, same)) here in
    let new : get_or (set met h (get_or met h 0 + 1)) h 0 ≡ get_or met h 0 + 1 =
    get_or-set_same met h (get_or met h 0 + 1) 0 (omega (arith, below, room)) in
    let lesser : get_or met h 0 ≡ lesser_occupants (seating_of p) (plan_at before) i h =
    counted_lesser p (plan_at before) i h (get_or met h 0) (omega (arith, within, whole)) (counted h below) in
    record {
      room = rw length-set room;
      counted = met_some (plan_at before) (length p.desk_counts) i met counted h (get_or met h 0) room
          (below_read R before plan i (Some h) kept here)
          (get_or_default met h 0 (get_or met h 0) (omega (arith, below, room)));
      out = λ more. below_out_at R before plan i (Some h) (omega (arith, within, same)) kept here
          (room_out (seating_of p) (plan_at before) i h desks (get_or met h 0) are lesser (omega (arith, more, new)));
      stays = λ few. below_stays_at R before plan i (Some h) kept here
          (room_stays (seating_of p) (plan_at before) i h desks (get_or met h 0) are lesser (omega (arith, few, new)));
    }

pub overflow_add-met : goal.overflow_add-met
overflow_add-met c =
    let inside : c.in-Some.hall < length c.args.problem.now.desk_counts =
    place_below c.loop-candidate.plan
    (length c.args.problem.now.desk_counts) c.loop-candidate.candidate c.in-Some.hall
    c.loop-candidate.invariant.exist
    (omega (arith, c.loop-candidate-test.true, c.loop-candidate.auto.plan)) c.in-Some.is in
    let is : get_or c.loop-candidate.met c.in-Some.hall 0
    ≡ count_at (plan_at c.args.plan.now) c.in-Some.hall c.loop-candidate.candidate =
    c.loop-candidate.invariant.met c.in-Some.hall inside in
    let few = count_at-le (plan_at c.args.plan.now) c.in-Some.hall c.loop-candidate.candidate in
    let le : get_or c.loop-candidate.met c.in-Some.hall 0 ≤ c.loop-candidate.candidate = omega (arith, is, few) in
    search rules

pub loop-candidate-preserved : goal.loop-candidate-preserved
loop-candidate-preserved c = elim c.match-plan-candidate.branch [
  | in-Some+then-desk_count-met w ↦ (
      let s : Taken c.args.problem.now c.args.plan.now c.loop-candidate.plan c.loop-candidate.met
      c.loop-candidate.candidate w.in-Some.hall w.desk_count.result =
      taken _ _ _ _ _ _ _ c.requires.whole c.loop-candidate.auto.plan c.loop-candidate-test.true
      c.loop-candidate.invariant.exist c.loop-candidate.invariant.kept c.loop-candidate.invariant.room
      c.loop-candidate.invariant.met w.in-Some.is w.desk_count.ensures in
      record {
        exist = rw w.plan-is
            (places_none c.loop-candidate.plan
            (length c.args.problem.now.desk_counts) c.loop-candidate.candidate c.loop-candidate.invariant.exist);
        kept = rw w.plan-is (s.out w.if-desk_count-met.true);
        room = rw w.met-is s.room;
        met = rw w.met-is s.counted;
      })
  | in-Some+else-desk_count-met w ↦ (
      let s : Taken c.args.problem.now c.args.plan.now c.loop-candidate.plan c.loop-candidate.met
      c.loop-candidate.candidate w.in-Some.hall w.desk_count.result =
      taken _ _ _ _ _ _ _ c.requires.whole c.loop-candidate.auto.plan c.loop-candidate-test.true
      c.loop-candidate.invariant.exist c.loop-candidate.invariant.kept c.loop-candidate.invariant.room
      c.loop-candidate.invariant.met w.in-Some.is w.desk_count.ensures in
      record {
        exist = rw w.plan-is c.loop-candidate.invariant.exist;
        kept = rw w.plan-is (s.stays w.if-desk_count-met.false);
        room = rw w.met-is s.room;
        met = rw w.met-is s.counted;
      })
  | in_default w ↦ record {
    exist = rw w.plan-is c.loop-candidate.invariant.exist;
    kept = rw w.plan-is (below_stays_at
        (where_room (seating_of c.args.problem.now) (plan_at c.args.plan.now)) c.args.plan.now c.loop-candidate.plan
        c.loop-candidate.candidate None c.loop-candidate.invariant.kept w.in_default.is refl);
    room = rw w.met-is c.loop-candidate.invariant.room;
    met = rw w.met-is (met_none (plan_at c.args.plan.now)
        (length c.args.problem.now.desk_counts) c.loop-candidate.candidate c.loop-candidate.met
        c.loop-candidate.invariant.met
        (below_read (where_room (seating_of c.args.problem.now) (plan_at c.args.plan.now)) c.args.plan.now
        c.loop-candidate.plan c.loop-candidate.candidate None c.loop-candidate.invariant.kept w.in_default.is));
  }
]

pub returns-clause-kept : goal.returns-clause-kept
returns-clause-kept c =
    below_all (where_room (seating_of c.args.problem.now) (plan_at c.args.plan.now)) c.args.plan.now
    c.loop-candidate.plan c.loop-candidate.candidate
    (λ d. refl) c.loop-candidate-test.false c.loop-candidate.invariant.kept
