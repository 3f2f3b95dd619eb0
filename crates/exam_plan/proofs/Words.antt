-- The names that many proofs of this crate cite, passed on from one place. Declares nothing.
pub use Rattle.exam_plan.specs.Chains.{Chain, HasFreeDesk, IsChain, IsLeastChain, Leads, LeadsTo, augmented}
pub use Rattle.exam_plan.specs.DeskOrder.{behind_rank}
pub use Rattle.exam_plan.specs.HallSets.{halls_below, holds, most_halls}
pub use Rattle.exam_plan.specs.Matching.{IsBest, IsCertificate, IsContested, IsLawful, Plan, SamePlan, Seating}
pub use Rattle.exam_plan.specs.Matching.{desk_number, is_hall, occupants, size, unseated}
pub use Rattle.exam_plan.specs.Naming.{Naming, indexed_plan, named_plan}
pub use Rattle.exam_plan.specs.Problems.{AreMasks, IsPlan, IsProblem, Problem, plan_at, seating_of}
pub use Rattle.exam_plan.specs.Repair.{IsRepair, IsSweep, ListsDead, Sweeps, Turn, TurnFrom, fitting_part, kept_part}
pub use Rattle.exam_plan.specs.Repair.{lesser_occupants, room_part, sweep_order, where_fitting, where_room}
pub use Rattle.exam_plan.specs.Searches.{AreInward, AreOnward, CanReach, Draws, IsMarked, IsSettled, MarksAll, Reaches}
pub use Rattle.exam_plan.specs.Searches.{count_at, is_drawn, no_digits, tally_at}
pub use Rattle.exam_plan.specs.Tallies.{one_if, tally_of}
pub use Rattle.exam_plan.specs.declared.tally.Tally.{Tally}
pub use Rattle.std.proofs.Math.Path.{fun_ext}
pub use Rattle.std.proofs.lemmas.Bool.{and_from, and_parts, cases_Bool, cases_eq, cases_lt, cases_order, eq-eqb}
pub use Rattle.std.proofs.lemmas.Bool.{eqb-true, false_from_ne_true, le-ltb, lt-ltb, ltb-true, ne_eqb, or_cases}
pub use Rattle.std.proofs.lemmas.Bool.{or_left, or_right}
pub use Rattle.std.proofs.lemmas.List.{get_or-map, get_or-replicate, get_or-set_other, get_or-set_same, get_or_default}
pub use Rattle.std.proofs.lemmas.List.{get_or_past, length-append, length-map, length-replicate, length-set}
pub use Rattle.std.proofs.lemmas.List.Elements.{All-filter, All-from_get_or, All-from_recursion, All-get_or}
pub use Rattle.std.proofs.lemmas.List.Elements.{recursion_from_All}
pub use Rattle.std.proofs.lemmas.List.Folds.{Any-from_list_any, list_any_at}
pub use Rattle.std.proofs.lemmas.List.FromFn.{get_or-range_with_len, length-range_with_len}
pub use Rattle.std.proofs.lemmas.List.Sums.{length-filter, sum_by-cons}
pub use Rattle.std.proofs.lemmas.Option.{IfSome_then, same_Some}
pub use Rattle.std.specs.Cmp.{IsTotalOrder, nat_cmp_is, nat_cmp_total}
pub use Rattle.std.specs.FinMap.{nat_cmp-IsAntisymmetric}
unfoldable pub use Rattle.std.specs.List.{IsDistinct}
pub use Rattle.std.specs.List.{AllByRecursion, list_any, range_with_len}
unfoldable pub use Rattle.std.specs.List.Sorted.{IsStrictlySortedBy}
pub use Rattle.std.specs.Option.{option_and_then, option_map}
pub use Rattle.std.specs.Ordering.{is_lt, nat_cmp, ordering_then}
pub use Rattle.std.specs.declared.cmp.Ordering.{Ordering}
pub use Rattle.std.specs.declared.cmp.Ordering.TheVariants.{Equal, Greater, Less}
