-- The names that many proofs of this crate cite, passed on from one place. Declares nothing.
pub use Rattle.exam_commands.proofs.Borne.{unborne}
pub use Rattle.exam_commands.proofs.KeyedRows.{all_at_row, appeals_exact, appeals_total, entries_total, openings_exact}
pub use Rattle.exam_commands.proofs.KeyedRows.{put_found, put_passed_over, same_rows, seats_exact, seats_total}
pub use Rattle.exam_commands.proofs.Referring.{neither, passed, there}
pub use Rattle.exam_commands.specs.Appeals.{appeal_at, bears_mark, decided, is_grant, is_open, is_retracted}
pub use Rattle.exam_commands.specs.Appeals.{stored_state, superseded}
pub use Rattle.exam_commands.specs.Changes.{first_refusal, imported, rows_refusal, too_many, unless, with_live}
pub use Rattle.exam_commands.specs.Changes.{with_rows, without_opening}
pub use Rattle.exam_commands.specs.Decisions.{decision_checks, decision_refusal, gives_way, giving_way, grant_checks}
pub use Rattle.exam_commands.specs.Decisions.{is_made, is_too_late, not_arrangement, open_checks, with_decided}
pub use Rattle.exam_commands.specs.Decisions.{with_decision, with_outcome, with_superseded}
pub use Rattle.exam_commands.specs.FactsMade.{early_refusal, facts_made}
pub use Rattle.exam_commands.specs.Good.{IsGood, appeal_refers, marks_were_granted, refers}
pub use Rattle.exam_commands.specs.Limits.{appeals_within, candidates_within, halls_within, members_within}
pub use Rattle.exam_commands.specs.Limits.{most_appeals, openings_within, papers_within, sessions_within, within_limits}
pub use Rattle.exam_commands.specs.Moves.{moved}
pub use Rattle.exam_commands.specs.Orders.{IsInOrder}
pub use Rattle.exam_commands.specs.Own.{OwnRows, OwnSessionRow, own_of, own_rows, own_sessions}
pub use Rattle.exam_commands.specs.Repairs.{IsRepaired}
pub use Rattle.exam_commands.specs.Replies.{reply_of, reply_to}
pub use Rattle.exam_commands.specs.Singles.{AreSingle, SingleKey, same_single_key, single_key}
pub use Rattle.exam_commands.specs.State.{Seats, State}
pub use Rattle.exam_commands.specs.Steps.{MayStep, Run, SameSeating, SeatsOn, Step, StepTo, change, first_seated}
pub use Rattle.exam_commands.specs.Touched.{ends_standing, grant_reaches, is_appeal_for, touches}
pub use Rattle.exam_commands.specs.declared.command.Command.{Command}
pub use Rattle.exam_commands.specs.declared.command.Decision.{Decision}
pub use Rattle.exam_commands.specs.declared.command.Lodging.{Lodging}
pub use Rattle.exam_commands.specs.declared.command.Outcome.{Outcome}
pub use Rattle.exam_commands.specs.declared.command.Reply.{Reply}
pub use Rattle.exam_commands.specs.declared.import_row.Row.{Row}
pub use Rattle.exam_plan.specs.Matching.{IsBest, SamePlan}
pub use Rattle.exam_rules.proofs.Naming.{same_code_exact, same_code_itself}
pub use Rattle.exam_rules.specs.Names.{ListsRise}
pub use Rattle.exam_rules.specs.Orders.{AreInOrder, KeysRise}
pub use Rattle.exam_rules.specs.Relations.{Code, Relations, appeal_cmp, code_cmp, entry_cmp, has_row, is_row_of}
pub use Rattle.exam_rules.specs.Relations.{opening_cmp, put_row, row_at, same_code, seat_cmp}
pub use Rattle.exam_rules.specs.Seatings.{fits, opened_room, plan_of, seating, suits_opened}
pub use Rattle.exam_rules.specs.Sessions.{appeal_count, arrangement_by, asked_arrangement, granted_subjects}
pub use Rattle.exam_rules.specs.Sessions.{has_live_entry, is_granted, is_granted_appeal, is_live_entry, is_live_paper}
pub use Rattle.exam_rules.specs.Sessions.{is_marked, is_member, is_paper_of, is_standing, option_filter, session_day}
pub use Rattle.exam_rules.specs.Sessions.{standing_grant, standing_grants}
pub use Rattle.exam_rules.specs.declared.rows.Appeal.{Appeal}
pub use Rattle.exam_rules.specs.declared.rows.Arrangement.{Arrangement}
pub use Rattle.exam_rules.specs.declared.rows.Candidate.{Candidate}
pub use Rattle.exam_rules.specs.declared.rows.Entry.{Entry}
pub use Rattle.exam_rules.specs.declared.rows.Opening.{Opening}
pub use Rattle.exam_rules.specs.declared.rows.Paper.{Paper}
pub use Rattle.exam_rules.specs.declared.rows.Session.{Session}
pub use Rattle.exam_rules.specs.declared.rows.Status.{Status}
pub use Rattle.exam_rules.specs.declared.rows.Subject.{Subject}
pub use Rattle.exam_types.specs.declared.refusal.Refusal.{Refusal}
pub use Rattle.std.proofs.Math.Path.{fun_ext}
pub use Rattle.std.proofs.lemmas.Bool.{and_from, and_parts, not-false}
pub use Rattle.std.proofs.lemmas.List.{length-map}
pub use Rattle.std.proofs.lemmas.Map.Keys.{sorted_head, sorted_tail}
pub use Rattle.std.proofs.lemmas.Map.Lookups.{exact_bytes, exact_unsigned}
pub use Rattle.std.proofs.lemmas.Map.Views.{exact_unsigned_eq}
pub use Rattle.std.specs.BTreeMap.{is_at}
pub use Rattle.std.specs.Cmp.{Equal-is, nat_cmp_total}
pub use Rattle.std.specs.Cmp.Lexicographic.{nat_list_cmp_total}
pub use Rattle.std.specs.List.{AllByRecursion, cons_option, filter_map, list_all, list_any}
pub use Rattle.std.specs.Map.{keys_of}
pub use Rattle.std.specs.Option.{option_and_then, option_map, option_map_or, option_or}
pub use Rattle.std.specs.Ordering.{nat_cmp}
pub use Rattle.std.specs.declared.cmp.Ordering.{Ordering}
pub use Rattle.std.specs.declared.cmp.Ordering.TheVariants.{Less}
