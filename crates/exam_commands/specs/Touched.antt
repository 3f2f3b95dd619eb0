-- Which sessions a command touches, over the facts before it.
use Rattle.std.specs.Prelude.{ℕ, ◌&&◌, ◌||◌, not, Bool, true, false, Option}
use Rattle.std.specs.List.{list_any}
use Rattle.std.specs.Option.{option_map_or}
use Rattle.exam_rules.specs.declared.rows.Appeal.{Appeal}
use Rattle.exam_rules.specs.Relations.{Code, Relations, code_cmp, opening_cmp, has_row, same_code}
use Rattle.exam_rules.specs.Sessions.{is_granted, is_marked, is_member, is_paper_of}
use Rattle.exam_commands.specs.Imports.{ImportRows}
use Rattle.exam_commands.specs.declared.import_row.Kind.{Kind}
use Rattle.exam_commands.specs.declared.import_row.Kind.TheVariants as kind
use Rattle.exam_commands.specs.declared.import_row.Row.{Row}
use Rattle.exam_commands.specs.declared.import_row.Row.TheVariants as row
use Rattle.exam_commands.specs.declared.command.Command.{Command}
use Rattle.exam_commands.specs.declared.command.Command.TheVariants as command
use Rattle.exam_commands.specs.declared.command.Decision.{Decision}
use Rattle.exam_commands.specs.Appeals.{appeal_at, bears_mark, is_grant}
use Rattle.exam_commands.specs.Decisions.{is_earlier}

-- a reference to this session, which exists
abbrev pub names : Relations → Code → Code → Bool
names r named s = same_code named s && has_row code_cmp r.sessions s

-- the row sets the session
abbrev pub sets_session : Code → Row → Bool
sets_session s (row.OfSession named x) = same_code named s
sets_session s (row.OfPaper p x) = false
sets_session s (row.OfHall h x) = false
sets_session s (row.OfOpening named h x) = false
sets_session s (row.OfCandidate c x) = false
sets_session s (row.OfEntry c p) = false
sets_session s (row.OfArrangement c x) = false

-- ---- the sessions that a command reaches; some may not exist

-- a row of an import names the session of its opening; the old and the new session of its paper; the session of the
-- paper of its entry; or the sessions that the candidate of its arrangement is a member of
abbrev pub names_session : Relations → Row → Code → Bool
names_session r (row.OfSession named x) s = false
names_session r (row.OfPaper p x) s = is_paper_of r s p || names r x.session s
names_session r (row.OfHall h x) s = false
names_session r (row.OfOpening named h x) s = names r named s
names_session r (row.OfCandidate c x) s = false
names_session r (row.OfEntry c p) s = is_paper_of r s p
names_session r (row.OfArrangement c x) s = is_member r s c

-- the row is one of the hall
abbrev pub names_hall : Row → Code → Bool
names_hall (row.OfSession named x) h = false
names_hall (row.OfPaper p x) h = false
names_hall (row.OfHall named x) h = same_code named h
names_hall (row.OfOpening named opened x) h = false
names_hall (row.OfCandidate c x) h = false
names_hall (row.OfEntry c p) h = false
names_hall (row.OfArrangement c x) h = false

-- a standing grant of a member of the session
abbrev pub stands_in : Relations → Code → (ℕ × Code) × Appeal → Bool
stands_in r s a = (is_granted a.1.status && is_marked r a.0) && is_member r s a.0.0

-- a member of the session has a standing grant
abbrev pub has_standing_member : Relations → Code → Bool
has_standing_member r s = list_any (stands_in r s) r.appeals

-- A row of a session reaches, since the session's date may change, each session with a member who has a standing
-- grant. A row reaches the old and the new session of its paper, the sessions that open its hall, the session of the
-- paper of its entry, and those that the candidate of its arrangement is a member of.
abbrev pub row_reaches : Relations → Row → Code → Bool
row_reaches r (row.OfSession named x) s = has_standing_member r s
row_reaches r (row.OfPaper p x) s = is_paper_of r s p || names r x.session s
row_reaches r (row.OfHall h x) s = has_row opening_cmp r.openings (s, h)
row_reaches r (row.OfOpening named h x) s = names r named s
row_reaches r (row.OfCandidate c x) s = false
row_reaches r (row.OfEntry c p) s = is_paper_of r s p
row_reaches r (row.OfArrangement c x) s = is_member r s c

abbrev pub is_of_sessions : Kind → Bool
is_of_sessions kind.Sessions = true
is_of_sessions kind.Papers = false
is_of_sessions kind.Halls = false
is_of_sessions kind.Openings = false
is_of_sessions kind.Candidates = false
is_of_sessions kind.Entries = false
is_of_sessions kind.Arrangements = false

-- An import reaches what its rows reach; one of sessions, also without rows, each session with a member who has a
-- standing grant.
abbrev pub import_reaches : Relations → ImportRows → Code → Bool
import_reaches r import s =
    list_any (λ (x : Row). row_reaches r x s) import.rows || (is_of_sessions import.kind && has_standing_member r s)

-- the appeal is for the session, which exists
abbrev pub is_appeal_for : Relations → Option Appeal → Code → Bool
is_appeal_for r stored s = option_map_or (λ (a : Appeal). names r a.session s) stored false

-- another appeal of the appellant, whose grant a grant of this one supersedes and which also holds for later sessions
abbrev pub is_ended : Relations → Decision → Appeal → (ℕ × Code) × Appeal → Bool
is_ended r d a e =
    (is_earlier d.number a.session a.subject e && is_marked r e.0) && not (same_code e.0.1 d.reference)

-- the grant supersedes one that also holds for later sessions
abbrev pub ends_standing : Relations → Decision → Appeal → Bool
ends_standing r d a = list_any (is_ended r d a) r.appeals

-- A grant reaches the session of the appeal. If it sets or ends a standing grant, it also reaches each session that the
-- appellant is a member of.
abbrev pub grant_reaches : Relations → Decision → Appeal → Code → Bool
grant_reaches r d a s =
    same_code a.session s
    || ((bears_mark d.outcome || ends_standing r d a) && is_member r s d.number)

abbrev pub decision_reaches : Relations → Decision → Code → Bool
decision_reaches r d s =
    is_grant d.outcome && option_map_or (λ a. grant_reaches r d a s) (appeal_at r d.number d.reference) false

-- Withdrawing or reinstating an entry reaches the session of its paper. Closing a hall reaches the session named.
-- A lodging and a retraction reach none.
abbrev pub reaches : Relations → Command → Code → Bool
reaches r (command.Import import) s = import_reaches r import s
reaches r (command.Withdraw c p) s = is_paper_of r s p
reaches r (command.Reinstate c p) s = is_paper_of r s p
reaches r (command.CloseHall named h) s = names r named s
reaches r (command.Lodge l) s = false
reaches r (command.Retract c reference) s = false
reaches r (command.Decide d) s = decision_reaches r d s

-- ---- what it touches

-- the command sets the session
abbrev pub is_set_by : Command → Code → Bool
is_set_by (command.Import import) s = list_any (sets_session s) import.rows
is_set_by (command.Withdraw c p) s = false
is_set_by (command.Reinstate c p) s = false
is_set_by (command.CloseHall named h) s = false
is_set_by (command.Lodge l) s = false
is_set_by (command.Retract c reference) s = false
is_set_by (command.Decide d) s = false

-- A command touches the sessions that it sets, and of those that exist the ones that it reaches.
abbrev pub touches : Relations → Command → Code → Bool
touches r done s = is_set_by done s || (has_row code_cmp r.sessions s && reaches r done s)
