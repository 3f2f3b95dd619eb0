-- The plans of all sessions after the facts have changed.
use Rattle.std.specs.Prelude.{ℕ, Option}
use Rattle.exam_plan.specs.Matching.{IsBest}
use Rattle.exam_plan.specs.Repair.{IsRepair}
use Rattle.exam_rules.specs.Relations.{Code, Relations}
use Rattle.exam_rules.specs.Seatings.{seating, plan_of}
use Rattle.exam_commands.specs.State.{Seats}

-- the new plan of the session is the repair of the old one, with the first candidate seated first; it is a best plan
pub record IsRepaired (r : Relations) (first : Option ℕ) (before after : Seats) (s : Code) : Type 0 where
  pub repair : IsRepair (seating r s) first (plan_of before s) (plan_of after s)
  pub best : IsBest (seating r s) (plan_of after s)
