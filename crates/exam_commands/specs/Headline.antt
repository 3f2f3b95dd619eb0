-- The headline: what an office promises of every session.
use Rattle.std.specs.Prelude.{◌≡◌, ℕ, ◌≤◌, Contains, IsTrue, Option, Some}
use Rattle.exam_plan.specs.Matching.{Plan, IsLawful, desk_number, size}
use Rattle.exam_rules.specs.Relations.{Code}
use Rattle.exam_rules.specs.Sessions.{members}
use Rattle.exam_rules.specs.Seatings.{seating, plan_of, fits, desks, comes_before}
use Rattle.exam_commands.specs.State.{State}

-- the number of the candidate's desk, if they are seated
abbrev pub desk_of : State → Code → ℕ → Option ℕ
desk_of office s c =
    desk_number (seating office.relations s) (comes_before office.relations s) (plan_of office.seats s) c

-- Everybody who sits is a member, and sits alone at a desk of a hall that fits them. No lawful plan seats more.
pub record IsSeated (office : State) (s : Code) : Type 0 where
  pub member : (c : ℕ) (h : Code) → plan_of office.seats s c ≡ Some h → Contains (members office.relations s) c
  pub fitting : (c : ℕ) (h : Code) → plan_of office.seats s c ≡ Some h → IsTrue (fits office.relations s c h)
  pub at_desk : (c : ℕ) (h : Code) → plan_of office.seats s c ≡ Some h
      → (n : ℕ) × (desk_of office s c ≡ Some n) × (1 ≤ n) × (n ≤ desks office.relations s h)
  pub alone : (c d : ℕ) (h : Code) → plan_of office.seats s c ≡ Some h → plan_of office.seats s d ≡ Some h
      → desk_of office s c ≡ desk_of office s d → c ≡ d
  pub greatest : (other : Plan ℕ Code) → IsLawful (seating office.relations s) other
      → size (seating office.relations s) other ≤ size (seating office.relations s) (plan_of office.seats s)
