use Rattle.exam_plan.proofs.Words.{seating_of, plan_at, where_room, count_at}
use Rattle.std.proofs.Common.{◌≡◌, ℕ, ◌<◌, ◌≤◌, length, get_or, All, IfSome}
use Rattle.exam_plan.proofs.KeptLemmas.{IsFilteredBelow}
use Rattle.exam_plan.proofs.keeping.put_out_crowded.Given as goal

abbrev pub invariant-loop-candidate : goal.invariant-loop-candidate
invariant-loop-candidate l = record {
  exist : All (λ place. IfSome place (λ h. h < length l.problem.desk_counts)) l.plan;
  kept : IsFilteredBelow (where_room (seating_of l.problem) (plan_at l.initial.plan)) l.initial.plan l.plan l.candidate;
  room : length l.problem.desk_counts ≤ length l.met;
  met : (h : ℕ) → h < length l.problem.desk_counts → get_or l.met h 0 ≡ count_at (plan_at l.initial.plan) h l.candidate;
}
