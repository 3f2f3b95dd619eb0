use Rattle.std.proofs.Common.{◌≡◌, ℕ, take}
use Rattle.std.specs.Prelude.{◌&&◌, nat_eq, if◌then◌else◌}
use Rattle.std.specs.List.{list_any}
use Rattle.std.specs.Option.{option_or}
use Rattle.exam_rules.specs.declared.listing.Entrant.{Entrant}
use Rattle.exam_rules.specs.Lists.{listed}
use Rattle.exam_rules.specs.Relations.{Code, same_code}
use Rattle.exam_rules.specs.Seatings.{plan_of}
use Rattle.exam_office.proofs.lending.copy_plan.Given as goal

-- who sits where after the members so far are seated as in the office
abbrev pub invariant-loop-entrant : goal.invariant-loop-entrant
invariant-loop-entrant l = (s : Code) (c : ℕ) → plan_of l.plans.entries s c
    ≡ (if same_code l.session s
    && list_any (λ (e : Entrant). nat_eq e.number c)
    (take l.entrant-index (listed l.lists.members.entries l.session))
    then option_or (plan_of l.seats.entries s c) (plan_of l.fn.plans.entries s c) else plan_of l.fn.plans.entries s c)
