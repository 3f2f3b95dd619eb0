-- The names that many proofs of this crate cite, passed on from one place. Declares nothing.
pub use Rattle.clap.specs.Words.{Text}
pub use Rattle.exam_commands.specs.Good.{IsGood}
pub use Rattle.exam_commands.specs.Imports.{ImportRows}
pub use Rattle.exam_commands.specs.Orders.{IsInOrder}
pub use Rattle.exam_commands.specs.State.{State}
pub use Rattle.exam_commands.specs.Steps.{Step}
pub use Rattle.exam_commands.specs.declared.command.Command.{Command}
pub use Rattle.exam_commands.specs.declared.command.Reply.{Reply}
pub use Rattle.exam_commands.specs.declared.import_row.Kind.{Kind}
pub use Rattle.exam_files.specs.ImportFiles.{import_of}
pub use Rattle.exam_http.specs.Answering.{choice_in}
pub use Rattle.exam_http.specs.declared.serving.HttpFault.{HttpFault}
pub use Rattle.exam_http.specs.declared.serving.HttpFault.TheVariants.{Read, Write}
pub use Rattle.exam_job.specs.Jobs.{DoesJob}
pub use Rattle.exam_job.specs.declared.report.JobFault.{JobFault}
pub use Rattle.exam_line.specs.Lines.{Answers, Job, Said, job_shown}
pub use Rattle.exam_line.specs.declared.line.Line.{Line}
pub use Rattle.exam_line.specs.declared.line.Sheet.{Sheet}
pub use Rattle.exam_request.specs.Answer.{Told, answer_text, refusal_told}
pub use Rattle.exam_request.specs.Asked.{Asks, Request}
pub use Rattle.exam_request.specs.declared.choice.Choice.{Choice}
pub use Rattle.exam_request.specs.declared.fault.Fault.{Fault}
pub use Rattle.exam_rules.specs.Relations.{Code}
pub use Rattle.exam_sql.specs.Made.{ContainsMade}
pub use Rattle.exam_store.proofs.Marking.{made_of}
pub use Rattle.exam_store.specs.Applied.{MayApply}
pub use Rattle.exam_store.specs.Found.{FailsToFind, HoldsGood}
pub use Rattle.exam_store.specs.Kept.{Keeps}
pub use Rattle.exam_store.specs.Stops.{HasDays, HasRowDays}
pub use Rattle.exam_store.specs.Stores.{OfficeIn}
pub use Rattle.exam_tables.specs.Faults.{is_store_refusal}
pub use Rattle.exam_tables.specs.Loaded.{IsLeft}
pub use Rattle.exam_tables.specs.Transactions.{Commits, IsSound}
pub use Rattle.exam_tables.specs.Versions.{HasVersion, IsVersion, version}
pub use Rattle.exam_theorem.specs.Following.{AreFollowed, EndsInOne, Follows, FollowsCommand, FollowsLine, IsFailureOf}
pub use Rattle.exam_theorem.specs.Following.{LineEnd, is_failure, told}
unfoldable pub use Rattle.exam_theorem.specs.Keeping.{KeepsIt}
pub use Rattle.exam_theorem.specs.Keeping.{KeepsOn}
unfoldable pub use Rattle.exam_theorem.specs.Orders.{line_of}
pub use Rattle.exam_theorem.specs.Orders.{Given, command_of, import_command, of_line, of_request, sheet_of, shown}
pub use Rattle.exam_theorem.specs.Printing.{PrintsAsked}
pub use Rattle.exam_theorem.specs.Requests.{AnswersInOffice, DoesCommandInOffice, ServesInOffice, TellsInOffice}
pub use Rattle.exam_theorem.specs.Resting.{BringsOver, HasOffice, IsAccepted, IsAtRest, IsVersioned, RestsOn, Settles}
pub use Rattle.exam_theorem.specs.Resting.{StopsWith}
pub use Rattle.exam_theorem.specs.declared.orders.Outcome.{Outcome}
pub use Rattle.exam_types.specs.Days.{IsDay}
pub use Rattle.exam_types.specs.declared.refusal.Refusal.{Refusal}
pub use Rattle.sqlite.specs.Effect.{Database}
pub use Rattle.sqlite.specs.Held.{Held, state}
pub use Rattle.sqlite.specs.State.{HasCleanDisk, Survives}
pub use Rattle.sqlite_trees.specs.Tree.{Trees}
pub use Rattle.sqlite_trees.specs.declared.store.Store.{Ghosts}
