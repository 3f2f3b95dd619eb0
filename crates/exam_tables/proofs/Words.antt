-- The names that many proofs of this crate cite, passed on from one place. Declares nothing.
pub use Rattle.exam_rules.specs.Orders.{KeysRise}
pub use Rattle.exam_rules.specs.Relations.{Code, appeal_cmp, same_code}
pub use Rattle.exam_rules.specs.declared.rows.Appeal.{Appeal}
pub use Rattle.exam_rules.specs.declared.rows.Status.{Status}
pub use Rattle.exam_rules.specs.declared.rows.Subject.{Subject}
pub use Rattle.exam_sql.proofs.Edits.{put_edits}
pub use Rattle.exam_sql.proofs.Quiet.{failed_unchanged, shown_unchanged}
pub use Rattle.exam_sql.specs.Made.{lists_marks}
unfoldable pub use Rattle.exam_sql.specs.Tables.{made}
pub use Rattle.exam_tables.specs.Appeals.{KeyedAppeal}
pub use Rattle.exam_tables.specs.Differences.{Turns, has_key, is_one_of}
pub use Rattle.exam_tables.specs.Faults.{refusal_of}
pub use Rattle.exam_tables.specs.Forms.{Form, opening_key, row_put, seat_key, standing}
pub use Rattle.exam_tables.specs.Inside.{Becomes, Contains, FailsToWrite, Makes, Write, delete_of}
pub use Rattle.exam_tables.specs.Loaded.{HoldsTable, IsLeft, KeysMatch}
pub use Rattle.exam_tables.specs.OurTables.{appeals_ours, standing_ours}
pub use Rattle.exam_tables.specs.Parts.{table_part}
pub use Rattle.exam_tables.specs.Stored.{kind_number, state_number}
pub use Rattle.exam_tables.specs.Transactions.{Commits}
pub use Rattle.exam_tables.specs.Versions.{FailsToMake, HasFirst, HasNoRows, HasOlder, HasRuled, IsBlank, Leads}
pub use Rattle.exam_tables.specs.Writes.{all_saved}
pub use Rattle.exam_types.specs.Features.{features_sum}
pub use Rattle.exam_types.specs.declared.refusal.Refusal.{Refusal}
pub use Rattle.exam_types.specs.declared.refusal.Refusal.TheVariants.{BadStore, NoMemory, Store}
pub use Rattle.sqlite.proofs.Callers.{survives_begin, unchanged_then}
pub use Rattle.sqlite.proofs.StateLemmas.{survives_then, survives_weaker}
pub use Rattle.sqlite.specs.Effect.{Database}
pub use Rattle.sqlite.specs.Held.{Held, state}
unfoldable pub use Rattle.sqlite.specs.State.{FailsToQuery, IsNotRun, Shown}
pub use Rattle.sqlite.specs.State.{HasCleanDisk, IsUnchanged, State, Survives}
pub use Rattle.sqlite.specs.declared.error.Error.{Error}
pub use Rattle.sqlite.specs.declared.error.Error.TheVariants.{SqliteFailure}
pub use Rattle.sqlite.specs.declared.error.ErrorCode.TheVariants.{OutOfMemory}
pub use Rattle.sqlite_trees.proofs.ListLemmas.{IsPermutation-filter, map-map}
pub use Rattle.sqlite_trees.specs.Tree.{Trees}
pub use Rattle.sqlite_trees.specs.declared.store.Store.{Ghosts}
pub use Rattle.sqlite_value.specs.Order.{Row}
pub use Rattle.sqlite_value.specs.declared.value.Value.TheVariants.{Null}
pub use Rattle.std.proofs.lemmas.Bool.{both_ways, cases_Bool}
pub use Rattle.std.proofs.lemmas.List.{map-append, take_all}
pub use Rattle.std.proofs.lemmas.List.Sorted.{IsPermutation-cons, IsPermutation-map, IsPermutation-refl}
pub use Rattle.std.proofs.lemmas.List.Sorted.{IsPermutation-sym, IsPermutation-trans, length_permutation}
pub use Rattle.std.proofs.lemmas.Result.{IfErr-weaker}
pub use Rattle.std.specs.BTreeMap.{is_at}
pub use Rattle.std.specs.Borrow.{Bor}
pub use Rattle.std.specs.Cmp.{IsTotalOrder}
pub use Rattle.std.specs.List.{AllByRecursion, filter}
unfoldable pub use Rattle.std.specs.List.Sorted.{IsStrictlySortedBy}
pub use Rattle.std.specs.List.Sorted.{IsPermutation}
pub use Rattle.std.specs.Map.{keys_of, lookup}
pub use Rattle.std.specs.Map.Iter.{deref_pair}
pub use Rattle.std.specs.Ordering.{is_eq, ordering_reverse}
