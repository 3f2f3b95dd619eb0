use Rattle.std.proofs.Common.{◌≡◌, ℕ, None, take}
use Rattle.std.specs.Prelude.{if◌then◌else◌}
use Rattle.std.specs.List.{list_any}
use Rattle.exam_rules.specs.Relations.{Code, same_code}
use Rattle.exam_rules.specs.Seatings.{plan_of}
use Rattle.exam_office.proofs.lending.read_plans.Given as goal

-- the plans of the sessions so far
abbrev pub invariant-loop-session : goal.invariant-loop-session
invariant-loop-session l = (s : Code) (c : ℕ) → plan_of l.plans.entries s c
    ≡ (if list_any (λ t. same_code t s)
    (take l.session-index l.session-items) then plan_of l.office.seats s c else None)
