-- What a command answers.
use Rattle.std.specs.Prelude.{not, Bool, true, false, List, length, filter, Option, is_none, None, Some, if◌then◌else◌}
use Rattle.std.specs.Option.{option_map, option_map_or}
use Rattle.std.specs.Ordering.{nat_cmp}
use Rattle.exam_rules.specs.Relations.{Relations, code_cmp, opening_cmp, entry_cmp, row_at}
use Rattle.exam_commands.specs.declared.import_row.Row.{Row}
use Rattle.exam_commands.specs.declared.import_row.Row.TheVariants as row
use Rattle.exam_commands.specs.declared.command.Command.{Command}
use Rattle.exam_commands.specs.declared.command.Command.TheVariants as command
use Rattle.exam_commands.specs.declared.command.Reply.{Reply}
use Rattle.exam_commands.specs.declared.command.Reply.TheVariants as reply
use Rattle.exam_commands.specs.Appeals.{appeal_at, stored_state}
use Rattle.exam_commands.specs.Decisions.{is_made}
use Rattle.exam_commands.specs.Moves.{moved}
use Rattle.exam_commands.specs.declared.command.Decision.{Decision}
use Rattle.exam_rules.specs.declared.rows.Appeal.{Appeal}
use Rattle.exam_rules.specs.Seatings.{plan_of}
use Rattle.exam_commands.specs.Imports.{distinct_rows}
use Rattle.exam_commands.specs.State.{State}
use Rattle.exam_commands.specs.SameRows.{same_arrangement, same_candidate, same_hall, same_opening, same_paper}
use Rattle.exam_commands.specs.SameRows.{same_session}

-- whether the stored row is the same, or none if there is none
abbrev pub is_stored : Relations → Row → Option Bool
is_stored r (row.OfSession s x) = option_map (same_session x) (row_at code_cmp r.sessions s)
is_stored r (row.OfPaper p x) = option_map (same_paper x) (row_at code_cmp r.papers p)
is_stored r (row.OfHall h x) = option_map (same_hall x) (row_at code_cmp r.halls h)
is_stored r (row.OfOpening s h x) = option_map (same_opening x) (row_at opening_cmp r.openings (s, h))
is_stored r (row.OfCandidate c x) = option_map (same_candidate x) (row_at nat_cmp r.candidates c)
is_stored r (row.OfEntry c p) = option_map (λ _. true) (row_at entry_cmp r.entries (c, p))
is_stored r (row.OfArrangement c x) = option_map (same_arrangement x) (row_at nat_cmp r.arrangements c)

abbrev pub is_new : Relations → Row → Bool
is_new r x = is_none (is_stored r x)

abbrev pub is_changed : Relations → Row → Bool
is_changed r x = option_map_or not (is_stored r x) false

abbrev pub is_same : Relations → Row → Bool
is_same r x = option_map_or (λ same. same) (is_stored r x) false

-- how many distinct keys are new, have another row, and have the same row
abbrev pub import_reply : Relations → List Row → Reply
import_reply r rows = reply.Imported
    (length (filter (is_new r) (distinct_rows rows)))
    (length (filter (is_changed r) (distinct_rows rows)))
    (length (filter (is_same r) (distinct_rows rows)))

-- the answer to the decision of this stored appeal: its state after it, the appellant's hall in its session, and how
-- many others moved
abbrev pub reply_to : State → State → Decision → Option Appeal → Reply
reply_to before after d None = reply.Unchanged
reply_to before after d (Some a) =
    if is_made before.relations d a then reply.Unchanged
    else reply.Decided (stored_state after.relations d.number d.reference) (plan_of after.seats a.session d.number)
    (moved before.seats after.seats d.number)

abbrev pub decision_reply : State → State → Decision → Reply
decision_reply before after d = reply_to before after d (appeal_at before.relations d.number d.reference)

-- the answer to an accepted command, from the office before and after
abbrev pub reply_of : Command → State → State → Reply
reply_of (command.Import import) before after = import_reply before.relations import.rows
reply_of (command.Withdraw c p) before after = reply.Withdrawn
reply_of (command.Reinstate c p) before after = reply.Reinstated
reply_of (command.CloseHall s h) before after = reply.Closed
reply_of (command.Lodge l) before after = reply.Lodged (stored_state after.relations l.number l.reference)
reply_of (command.Retract c reference) before after = reply.Retracted
reply_of (command.Decide d) before after = decision_reply before after d
