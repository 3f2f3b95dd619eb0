-- The halls that the search marks are those that fit a contested candidate: it marks no other, and it is closed. So
-- the candidates who can only sit there outnumber their desks by exactly those whom the best plan leaves out.
use Rattle.exam_plan.proofs.Words.{range_with_len, holds, halls_below, seating_of, plan_at, IsMarked, Draws, is_drawn}
use Rattle.std.proofs.Common.{◌≡◌, ℕ, List, Option, length, ap, ◌∙◌, subst, IsTrue}
use Rattle.std.specs.Prelude.{filter}
use Rattle.exam_plan.proofs.ShortOfDesks.{is_certificate, exactly_contested}
use Rattle.exam_plan.proofs.calls.shortage.Goals as goal

-- the search's facts, for the plan as it was given
drawn : (c : goal.In_ok-drawn_in) → (h : ℕ) → IsMarked (holds c.contested_halls-contested.result) h
    → (j : ℕ) × Draws c.args.problem.now (plan_at c.args.plan.now.items) j h
drawn c = (let P : List (Option ℕ) → Type 0 = λ m. (h : ℕ) → IsMarked (holds c.contested_halls-contested.result) h
    → (j : ℕ) × Draws c.args.problem.now (plan_at m) j h in
    subst P c.as_slice.ensures.value c.contested_halls-contested.ensures.drawn)

closed : (c : goal.In_ok-drawn_in) → (d h : ℕ)
    → IsTrue (is_drawn (holds c.contested_halls-contested.result) (plan_at c.args.plan.now.items d))
    → IsTrue ((seating_of c.args.problem.now).fits d h) → IsMarked (holds c.contested_halls-contested.result) h
closed c = (let P : List (Option ℕ) → Type 0 = λ m. (d h : ℕ)
    → IsTrue (is_drawn (holds c.contested_halls-contested.result) (plan_at m d))
    → IsTrue ((seating_of c.args.problem.now).fits d h)
    → IsMarked (holds c.contested_halls-contested.result) h in
    subst P c.as_slice.ensures.value c.contested_halls-contested.ensures.closed)

candidates_are : (c : goal.In_ok-drawn_in)
    → c.in_ok-drawn_in.field-0.items
    ≡ filter (λ d. is_drawn (holds c.contested_halls-contested.result) (plan_at c.args.plan.now.items d))
    (range_with_len 0 (length c.args.problem.now.fit))
candidates_are c = (c.in_ok-drawn_in.ensures.candidates
    ∙ ap (λ (m : List (Option ℕ)). filter (λ d. is_drawn (holds c.contested_halls-contested.result) (plan_at m d))
    (range_with_len 0 (length m))) c.as_slice-3.ensures.value
    ∙ ap (λ n. filter (λ d. is_drawn (holds c.contested_halls-contested.result) (plan_at c.args.plan.now.items d))
    (range_with_len 0 n)) c.requires.plan.whole)

halls_are : (c : goal.In_ok-drawn_in)
    → c.in_ok-listed.field-0.items
    ≡ halls_below (length c.args.problem.now.desk_counts) c.contested_halls-contested.result
halls_are c = (c.in_ok-listed.ensures.listed
    ∙ ap (λ n. halls_below n c.contested_halls-contested.result) c.hall_count.ensures.count)

pub returns-clause-certificate : goal.returns-clause-certificate
returns-clause-certificate c =
    is_certificate c.args.problem.now c.unseated_count.ensures.problem (plan_at c.args.plan.now.items) c.requires.best
    (holds c.contested_halls-contested.result) (drawn c)
    (closed c) c.in_ok-drawn_in.field-0.items c.in_ok-listed.field-0.items (candidates_are c) (halls_are c)

pub returns-clause-contested : goal.returns-clause-contested
returns-clause-contested c =
    exactly_contested c.args.problem.now c.unseated_count.ensures.problem
    (plan_at c.args.plan.now.items) c.requires.best (holds c.contested_halls-contested.result) (drawn c)
    (closed c) c.in_ok-drawn_in.field-0.items c.in_ok-listed.field-0.items (candidates_are c) (halls_are c)
