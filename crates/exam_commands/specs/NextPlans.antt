-- The plans and the reply that a command makes, from its change of the facts on.
use Rattle.std.specs.Prelude.{◌≡◌, ◌⊎◌, ℕ, Bool, true, false, List, Contains, Option, None, Some, if◌then◌else◌}
use Rattle.std.specs.BTreeMap.{BTreeMap}
use Rattle.std.specs.Option.{option_and_then}
use Rattle.exam_types.specs.declared.refusal.Refusal.{Refusal}
use Rattle.exam_types.specs.declared.refusal.Refusal.TheVariants.{NoMemory, TooMany}
use Rattle.exam_rules.specs.declared.rows.Appeal.{Appeal}
use Rattle.exam_rules.specs.Relations.{Code, Relations}
use Rattle.exam_rules.specs.Seatings.{plan_of}
use Rattle.exam_commands.specs.declared.command.Command.{Command}
use Rattle.exam_commands.specs.declared.command.Command.TheVariants as command
use Rattle.exam_commands.specs.declared.command.Decision.{Decision}
use Rattle.exam_commands.specs.declared.command.Outcome.{Outcome}
use Rattle.exam_commands.specs.declared.command.Outcome.TheVariants as outcome
use Rattle.exam_commands.specs.declared.command.Reply.{Reply}
use Rattle.exam_commands.specs.declared.command.Reply.TheVariants as reply
use Rattle.exam_commands.specs.Appeals.{appeal_at, stored_state}
use Rattle.exam_commands.specs.Decisions.{is_made}
use Rattle.exam_commands.specs.FactsMade.{may_pass_limit}
use Rattle.exam_commands.specs.Limits.{within_limits}
use Rattle.exam_commands.specs.Moves.{moved}
use Rattle.exam_commands.specs.Repairs.{IsRepaired}
use Rattle.exam_commands.specs.Replies.{import_reply}
use Rattle.exam_commands.specs.State.{Seats}
use Rattle.exam_commands.specs.Steps.{first_seated}
use Rattle.exam_commands.specs.Touched.{touches}

abbrev pub Plans : Type 0
Plans = BTreeMap (Code × ℕ) Code

-- the command changes no plan
abbrev pub refuses : Outcome → Bool
refuses outcome.Grant = false
refuses outcome.Standing = false
refuses outcome.Refuse = true

abbrev pub keeps_plans : Command → Bool
keeps_plans (command.Import import) = false
keeps_plans (command.Withdraw c p) = false
keeps_plans (command.Reinstate c p) = false
keeps_plans (command.CloseHall s h) = false
keeps_plans (command.Lodge l) = true
keeps_plans (command.Retract c reference) = true
keeps_plans (command.Decide d) = refuses d.outcome

-- the plans of these sessions are repaired, and nobody is seated in other sessions
pub record AreRepaired (t : Relations) (first : Option ℕ) (sessions : List Code) (old new : Seats) : Type 0 where
  pub repaired : (s : Code) → Contains sessions s → IsRepaired t first old new s
  pub others : (s : Code) (c : ℕ) → (Contains sessions s → ⊥) → plan_of new s c ≡ None

-- the next plans of the sessions that the command touches, or none if it changes no plan
abbrev pub AreNext : Command → Relations → List Code → Seats → Option Plans → Type 0
AreNext done t sessions old None = keeps_plans done ≡ true
AreNext done t sessions old (Some new) =
    (keeps_plans done ≡ false) × AreRepaired t (first_seated done) sessions old new.entries

abbrev pub AreDecided : Decision → Outcome → Relations → List Code → Seats → Option Plans → Type 0
AreDecided d o t sessions old None = refuses o ≡ true
AreDecided d o t sessions old (Some new) =
    (refuses o ≡ false) × AreRepaired t (Some d.number) sessions old new.entries

-- the plans after: the next ones, or these if they stay
abbrev pub after_plans : Option Plans → Seats → Seats
after_plans None old = old
after_plans (Some new) old = new.entries

-- these are the old plans
abbrev pub IsGiven : Option Plans → Seats → Type 0
IsGiven None old = ⊥
IsGiven (Some kept) old = kept.entries ≡ old

-- the next plans are in the place of the old ones, which are returned
abbrev pub ArePut : Option Plans → Seats → Seats → Option Plans → Type 0
ArePut None old new given = (new ≡ old) × (given ≡ None)
ArePut (Some next) old new given = (new ≡ next.entries) × IsGiven given old

-- What is kept of the plans. Either nothing: they are as they were, and the command changes no plan. Or the plans as
-- they were; then the new ones seat nobody in a session that the command does not touch.
abbrev pub PlansBack : Command → Relations → Option Plans → Seats → Seats → Type 0
PlansBack done r None new old = (new ≡ old) × (keeps_plans done ≡ true)
PlansBack done r (Some kept) new old =
    (kept.entries ≡ old) × ((s : Code) (c : ℕ) → touches r done s ≡ false → plan_of new s c ≡ None)

-- refused because memory ran out or a limit was passed
abbrev pub IsLimitRefusal : Command → Relations → Refusal → Type 0
IsLimitRefusal done t e =
    (e ≡ NoMemory)
    ⊎ ((e ≡ TooMany) × (may_pass_limit done ≡ true) × (within_limits t ≡ false))

-- ---- the reply

-- what can be answered without the plans; for a decision, the answer to a repeated one
abbrev pub first_reply : Command → Relations → Relations → Reply
first_reply (command.Import import) old new = import_reply old import.rows
first_reply (command.Withdraw c p) old new = reply.Withdrawn
first_reply (command.Reinstate c p) old new = reply.Reinstated
first_reply (command.CloseHall s h) old new = reply.Closed
first_reply (command.Lodge l) old new = reply.Lodged (stored_state new l.number l.reference)
first_reply (command.Retract c reference) old new = reply.Retracted
first_reply (command.Decide d) old new = reply.Unchanged

-- the session of the appeal that is decided, unless the decision is already made
abbrev pub decided_session : Relations → Decision → Appeal → Option Code
decided_session r d a = if is_made r d a then None else Some a.session

abbrev pub newly_decided : Relations → Command → Option Code
newly_decided r (command.Import import) = None
newly_decided r (command.Withdraw c p) = None
newly_decided r (command.Reinstate c p) = None
newly_decided r (command.CloseHall s h) = None
newly_decided r (command.Lodge l) = None
newly_decided r (command.Retract c reference) = None
newly_decided r (command.Decide d) = option_and_then (decided_session r d) (appeal_at r d.number d.reference)

-- the answer to the decision of an appeal for the session
abbrev pub decided_reply : Decision → Code → Relations → Seats → Seats → Reply
decided_reply d s t old new =
    reply.Decided (stored_state t d.number d.reference) (plan_of new s d.number) (moved old new d.number)

abbrev pub reply_unless_repeated : Decision → Option Code → Reply → Relations → Seats → Seats → Reply
reply_unless_repeated d None first t old new = first
reply_unless_repeated d (Some s) first t old new = decided_reply d s t old new

abbrev pub last_reply : Command → Option Code → Reply → Relations → Seats → Seats → Reply
last_reply (command.Import import) decided first t old new = first
last_reply (command.Withdraw c p) decided first t old new = first
last_reply (command.Reinstate c p) decided first t old new = first
last_reply (command.CloseHall s h) decided first t old new = first
last_reply (command.Lodge l) decided first t old new = first
last_reply (command.Retract c reference) decided first t old new = first
last_reply (command.Decide d) decided first t old new = reply_unless_repeated d decided first t old new
