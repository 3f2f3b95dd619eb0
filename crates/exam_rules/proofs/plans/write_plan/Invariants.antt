use Rattle.exam_rules.proofs.Words.{Code, Relations, same_code, members, open_halls, plan_of, ListsRise}
use Rattle.std.proofs.Common.{◌≡◌, ℕ, false}
use Rattle.exam_rules.proofs.Writing.{written}
use Rattle.exam_rules.proofs.plans.write_plan.Given as goal

abbrev pub invariant-loop-index : goal.invariant-loop-index
invariant-loop-index l = record {
  mine : (r : Relations) → ListsRise r l.session → l.numbers ≡ members r l.session → l.halls ≡ open_halls r l.session
      → (c : ℕ) → plan_of l.seats.entries l.session c ≡ written r l.session l.plan l.index c;
  others : (s : Code) (c : ℕ) → same_code l.session s ≡ false
      → plan_of l.seats.entries s c ≡ plan_of l.fn.seats.entries s c;
}
