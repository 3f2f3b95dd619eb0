-- The names that many proofs of this crate cite, passed on from one place. Declares nothing.
pub use Rattle.exam_sql.specs.Changes.{without_row}
pub use Rattle.exam_sql.specs.Content.{ContainsIn, Holds, bare, delete, places, put, same_key, same_rowid}
pub use Rattle.exam_sql.specs.Keyed.{IsKeyed}
pub use Rattle.exam_sql.specs.Loads.{IsLoad}
pub use Rattle.exam_sql.specs.Made.{made_schema}
pub use Rattle.exam_sql.specs.Plain.{on_conflict, one_table}
pub use Rattle.exam_sql.specs.Refusals.{Fails, Refuses, is_failure}
unfoldable pub use Rattle.exam_sql.specs.Tables.{first_schema, made, store_schema}
pub use Rattle.exam_sql.specs.Tables.{Described}
pub use Rattle.sqlite.proofs.Callers.{IsPlain, command_of, one_step, runs_as, statement_of}
pub use Rattle.sqlite.specs.Change.{created, next_tree}
pub use Rattle.sqlite.specs.Clock.{timed}
pub use Rattle.sqlite.specs.Compile.{table_defined_by}
pub use Rattle.sqlite.specs.Does.{AtPlace, Does, OnRows, Tally, lacks_sequence}
pub use Rattle.sqlite.specs.Effect.{Database, IsDatabase}
unfoldable pub use Rattle.sqlite.specs.Listing.{understood}
pub use Rattle.sqlite.specs.Listing.{reads_listing}
pub use Rattle.sqlite.specs.Rows.{Clears, Edited, InsertsOr, Puts, Task, Then, Tries, TriesEach, Written, count_of}
pub use Rattle.sqlite.specs.Rows.{mended, nothing, shown}
unfoldable pub use Rattle.sqlite.specs.State.{FailsToQuery, IsNotRun, Shown}
pub use Rattle.sqlite.specs.State.{Escapes, Executes, ExecutesInside, IsMisplaced, State, Writes, mode_of, text_of}
pub use Rattle.sqlite.specs.declared.error.Error.{Error}
pub use Rattle.sqlite.specs.declared.error.Error.TheVariants.{SqliteFailure}
pub use Rattle.sqlite.specs.declared.error.ErrorCode.TheVariants.{OutOfMemory}
pub use Rattle.sqlite_resolve.specs.declared.compiled.Compiled.{Compiled}
pub use Rattle.sqlite_resolve.specs.declared.error.CompileError.{CompileError}
pub use Rattle.sqlite_rules.proofs.ListLemmas.{all_from, all_has, has_filtered, has_kept, some_from, some_has, test_has}
pub use Rattle.sqlite_rules.proofs.PlaceLemmas.{tied_same}
pub use Rattle.sqlite_rules.proofs.ProbeLemmas.{has_mapped, mapped_has}
pub use Rattle.sqlite_rules.proofs.TableLemmas.{int_is}
pub use Rattle.sqlite_rules.specs.Calls.{ids_of}
pub use Rattle.sqlite_rules.specs.Cast.{cast, cast_row}
pub use Rattle.sqlite_rules.specs.Edit.{edit_of, id_in, is_taken, taken_by, with_rowid, without_all}
pub use Rattle.sqlite_rules.specs.Lists.{Has}
pub use Rattle.sqlite_rules.specs.declared.error.Rowids.TheVariants.{Chosen, Given}
pub use Rattle.sqlite_schema.specs.Rules.{Refers, agree, equal, passes, table_reals}
pub use Rattle.sqlite_schema.specs.declared.command.Command.{Command}
pub use Rattle.sqlite_schema.specs.declared.command.Command.TheVariants.{CreateTable, Delete, InsertOr, Select}
pub use Rattle.sqlite_schema.specs.declared.command.Conflict.{Conflict}
pub use Rattle.sqlite_schema.specs.declared.command.Conflict.TheVariants.{Abort, Replace}
pub use Rattle.sqlite_schema.specs.declared.command.Source.TheVariants.{Values}
pub use Rattle.sqlite_schema.specs.declared.command.Upsert.{Upsert}
pub use Rattle.sqlite_schema.specs.declared.schema.Constraint.TheVariants.{Unique}
pub use Rattle.sqlite_schema.specs.declared.schema.Index.{Index}
pub use Rattle.sqlite_schema.specs.declared.schema.Keys.TheVariants.{Enforced}
pub use Rattle.sqlite_schema.specs.declared.schema.Schema.{Schema}
pub use Rattle.sqlite_schema.specs.declared.schema.Table.{Table}
pub use Rattle.sqlite_sql.specs.Program.{overlay}
pub use Rattle.sqlite_sql.specs.Query.{IsAnswer}
pub use Rattle.sqlite_sql.specs.Term.{Term, col, eval_all, holds}
unfoldable pub use Rattle.sqlite_tied.specs.Compute.{everything}
pub use Rattle.sqlite_trees.proofs.ListLemmas.{IsPermutation-filter, all_of, filter-map, filter_all, map-map}
unfoldable pub use Rattle.sqlite_trees.specs.Sound.{begins, fits_kind, is_free_name, same_name}
pub use Rattle.sqlite_trees.specs.Tree.{Trees, rowid, with_tree}
pub use Rattle.sqlite_trees.specs.View.{IsShaped}
unfoldable pub use Rattle.sqlite_value.specs.Keys.{first_key}
pub use Rattle.sqlite_value.specs.Keys.{plain}
unfoldable pub use Rattle.sqlite_value.specs.Order.{value_cmp}
pub use Rattle.sqlite_value.specs.Order.{Row}
pub use Rattle.sqlite_value.specs.declared.value.Value.{Value}
pub use Rattle.sqlite_value.specs.declared.value.Value.TheVariants.{Int, Null, Text}
pub use Rattle.std.proofs.lemmas.Bool.{and_parts, cases_Bool, eq-eqb, eqb-true, false_from_ne_true, not-true}
pub use Rattle.std.proofs.lemmas.List.Sorted.{IsPermutation-map, IsPermutation-refl, IsPermutation-sym}
pub use Rattle.std.proofs.lemmas.List.Sorted.{IsPermutation-trans}
pub use Rattle.std.specs.Cmp.Derive.{both_true}
pub use Rattle.std.specs.List.{AllByRecursion, list_all, list_any}
pub use Rattle.std.specs.List.Sorted.{IsPermutation}
pub use Rattle.std.specs.Ordering.{is_eq}
unfoldable pub use lib.Utf8.{encode}
