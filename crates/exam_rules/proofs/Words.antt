-- The names that many proofs of this crate cite, passed on from one place. Declares nothing.
pub use Rattle.exam_plan.specs.HallSets.{halls_below, holds, sets_of}
pub use Rattle.exam_plan.specs.Matching.{Plan}
pub use Rattle.exam_plan.specs.Problems.{most_members}
pub use Rattle.exam_rules.specs.Lists.{AreListsOf, entered, entrant, entrants, listed, with_last, with_member}
pub use Rattle.exam_rules.specs.Names.{ListsRise, hall_at, hall_index, index_of, named_plan, naming, number_at}
pub use Rattle.exam_rules.specs.Orders.{AreInOrder}
pub use Rattle.exam_rules.specs.Relations.{Code, Relations, code_cmp, entry_cmp, has_row, is_row_of, leading}
pub use Rattle.exam_rules.specs.Relations.{opening_cmp, relations_of, row_at, same_code}
pub use Rattle.exam_rules.specs.Seatings.{comes_before, desk_cmp, desk_key, desks, fits, fitting_places, is_suiting}
pub use Rattle.exam_rules.specs.Seatings.{open_halls, opened_room, plan_of, positions, problem_of, rank, sitting_terms}
pub use Rattle.exam_rules.specs.Sessions.{barred_halls, clashes_of, has_live_entry, head_of, is_clash, is_live_entry}
pub use Rattle.exam_rules.specs.Sessions.{is_paper_of, later_of, least_live_paper, live_papers_in, members, sitting}
pub use Rattle.exam_rules.specs.Tables.{Candidates, Openings}
pub use Rattle.exam_rules.specs.declared.fit.Room.{Room}
pub use Rattle.exam_rules.specs.declared.listing.Entrant.{Entrant}
pub use Rattle.exam_rules.specs.declared.listing.SessionLists.{SessionLists}
pub use Rattle.exam_rules.specs.declared.rows.Appeal.{Appeal}
pub use Rattle.exam_rules.specs.declared.rows.Entry.{Entry}
pub use Rattle.exam_rules.specs.declared.rows.Opening.{Opening}
pub use Rattle.exam_rules.specs.declared.rows.Paper.{Paper}
pub use Rattle.std.proofs.lemmas.Bool.{and_parts, le-ltb, lt-ltb, ne_eqb}
pub use Rattle.std.proofs.lemmas.Bool.Decides.{nat_tests}
pub use Rattle.std.proofs.lemmas.Cmp.{ranked, tied_itself}
pub use Rattle.std.proofs.lemmas.List.{get_or-map, length-map}
pub use Rattle.std.proofs.lemmas.List.Elements.{All-from_recursion}
pub use Rattle.std.proofs.lemmas.List.Kept.{IsStrictlySortedBy-filter}
pub use Rattle.std.proofs.lemmas.Map.Keys.{Less-from_sorted, sorted_head, sorted_tail}
pub use Rattle.std.proofs.lemmas.Map.Lookups.{exact_bytes, exact_pairs, exact_unsigned}
pub use Rattle.std.proofs.lemmas.Map.Views.{exact_unsigned_eq}
pub use Rattle.std.proofs.lemmas.Simd.{map-map}
pub use Rattle.std.specs.BTreeMap.{is_at}
pub use Rattle.std.specs.Cmp.{IsTotalOrder, nat_cmp_is, nat_cmp_total, on_total, then_total}
pub use Rattle.std.specs.Cmp.Lexicographic.{nat_list_cmp_total, texts_ties}
pub use Rattle.std.specs.Global.{Global}
pub use Rattle.std.specs.List.{All, AllByRecursion, cons_option, flat_map, list_any}
unfoldable pub use Rattle.std.specs.List.Sorted.{IsStrictlySortedBy}
pub use Rattle.std.specs.List.Sorted.{IsNonDecreasingBy}
pub use Rattle.std.specs.Map.{keys_of}
pub use Rattle.std.specs.Option.{option_and_then, option_copied_mut, option_map, option_map_or, option_or}
pub use Rattle.std.specs.Ordering.{MatchOrdering, is_eq, is_lt, nat_cmp, ordering_reverse, ordering_then}
pub use Rattle.std.specs.declared.cmp.Ordering.{Ordering}
pub use Rattle.std.specs.declared.cmp.Ordering.TheVariants.{Equal, Greater, Less}
