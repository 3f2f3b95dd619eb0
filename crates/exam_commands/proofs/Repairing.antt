-- The repair of one session by indices is its repair by numbers and codes.
use Rattle.std.proofs.Common.{◌≡◌, ℕ, ◌+◌, ◌<◌, Bool, true, false, cond, List, [], ◌∷◌, length, map, nat_eq, nat_lt}
use Rattle.std.proofs.Common.{get_or, Option, None, Some, IfSome, Result, Ok, Err, OnOk, refl, ap, sym, subst, ◌∙◌}
use Rattle.std.specs.Prelude.{position}
use Rattle.std.specs.List.{position_from, position_or_len}
use Rattle.std.specs.Option.{option_and_then}
use Rattle.std.proofs.Math.Path.{fun_ext}
use Rattle.std.proofs.lemmas.Bool.{ltb-true}
use Rattle.std.proofs.lemmas.List.{length-map, get_or-map}
use Rattle.std.proofs.lemmas.List.Elements.{All-map}
use Rattle.std.proofs.lemmas.Iterator.Adapters.{position_from-zero}
use Rattle.exam_plan.specs.Matching.{SamePlan, IsBest}
use Rattle.exam_plan.specs.Problems.{Problem, IsPlan, seating_of, plan_at}
use Rattle.exam_plan.specs.Repair.{IsRepair}
use Rattle.exam_plan.proofs.Renaming.{IsBest-named}
use Rattle.exam_rules.specs.Relations.{Code, Relations, same_code}
use Rattle.exam_rules.specs.Sessions.{members}
use Rattle.exam_rules.specs.Seatings.{indexed_seating, seating, problem_of, plan_of, open_halls, desks, fitting_places}
use Rattle.exam_rules.specs.Names.{naming, first_place, ListsRise, number_at, index_of, hall_index, named_plan}
use Rattle.exam_rules.specs.Names.{indexed_plan}
use Rattle.exam_rules.specs.Plans.{place_of, places_of}
use Rattle.exam_rules.proofs.Naming.{renames}
use Rattle.exam_rules.proofs.Following.{follows}
use Rattle.exam_plan.proofs.KeptNames.{IsRepair-named}
use Rattle.exam_rules.proofs.PlanLists.{list_is_plan}
use Rattle.exam_commands.specs.State.{Seats}
use Rattle.exam_commands.specs.Repairs.{IsRepaired}

first_from : {A : Type 0} (p : A → Bool) (n : ℕ) (xs : List A) → position_from p n xs ≡ first_place p n xs
first_from p n [] = refl
first_from p n (x ∷ xs) = ap (λ t. cond (p x) (Some n) t) (first_from p (n + 1) xs)

position_is : {A : Type 0} (p : A → Bool) (xs : List A) → position p xs ≡ first_place p 0 xs
position_is p xs = position_from-zero p xs ∙ first_from p 0 xs

position_within : {A : Type 0} (p : A → Bool) (xs : List A) → IfSome (position p xs) (λ i. i < length xs)
position_within p xs = inner (nat_lt (position_or_len p xs) (length xs)) refl
  where
    inner : (b : Bool) → nat_lt (position_or_len p xs) (length xs) ≡ b
        → IfSome (cond b (Some (position_or_len p xs)) None) (λ i. i < length xs)
    inner true e = ltb-true (position_or_len p xs) (length xs) e
    inner false e = tt

module _ (r : Relations) (s : Code) (before : Seats) where
  place_exists : (c : ℕ) → IfSome (place_of before s (open_halls r s) c) (λ h. h < length (open_halls r s))
  place_exists c = inner (plan_of before s c)
    where
      inner : (o : Option Code)
          → IfSome (option_and_then (λ h. position (same_code h) (open_halls r s)) o) (λ h. h < length (open_halls r s))
      inner None = tt
      inner (Some h) = position_within (same_code h) (open_halls r s)

  pub stored_is_plan : IsPlan (problem_of r s) (places_of before s (open_halls r s) (members r s))
  stored_is_plan = record {
    whole = length-map (members r s) (place_of before s (open_halls r s))
        ∙ sym (length-map (members r s) (λ c. fitting_places r s c (open_halls r s)));
    exist = All-map (λ hall. IfSome hall (λ h. h < length (map (desks r s) (open_halls r s))))
        (place_of before s (open_halls r s)) (members r s)
        (λ k d below. rw (length-map (open_halls r s) (desks r s)) (place_exists (get_or (members r s) k d)));
  }

  pub stored_is_indexed : ListsRise r s
      → SamePlan (plan_at (places_of before s (open_halls r s) (members r s))) (indexed_plan r s (plan_of before s))
  stored_is_indexed up =
      list_is_plan r s up (plan_of before s) (places_of before s (open_halls r s) (members r s))
      (length-map (members r s) (place_of before s (open_halls r s)))
      (λ i below. get_or-map (place_of before s (open_halls r s)) (members r s) i 0 None below
      ∙ inner (plan_of before s (number_at r s i)))
    where
      inner : (o : Option Code)
          → option_and_then (λ h. position (same_code h) (open_halls r s)) o ≡ option_and_then (hall_index r s) o
      inner None = refl
      inner (Some h) = position_is (same_code h) (open_halls r s)

  first_is : (first : Option ℕ)
      → option_and_then (λ c. position (nat_eq c) (members r s)) first ≡ option_and_then (index_of r s) first
  first_is None = refl
  first_is (Some c) = position_is (nat_eq c) (members r s)

  module _ (up : ListsRise r s) (first : Option ℕ) (problem : Problem) (numbers : List ℕ) (halls : List Code)
      (stored : List (Option ℕ))
      (numbers_are : numbers ≡ members r s) (halls_are : halls ≡ open_halls r s)
      (problem_is : problem ≡ problem_of r s) (stored_are : stored ≡ places_of before s halls numbers) where
    listed : stored ≡ places_of before s (open_halls r s) (members r s)
    listed = stored_are ∙ ap (λ hs. places_of before s hs numbers) halls_are
        ∙ ap (places_of before s (open_halls r s)) numbers_are

    -- the stored plan is one of the problem
    pub is_plan : IsPlan problem stored
    is_plan = subst (λ p. IsPlan p stored) (sym problem_is)
        (subst (IsPlan (problem_of r s)) (sym listed) stored_is_plan)

    -- written by numbers and codes the repaired plan is the repair
    pub is_repaired : (place : Option ℕ) (new : List (Option ℕ)) (after : Seats)
        → place ≡ option_and_then (λ c. position (nat_eq c) numbers) first
        → IsRepair (seating_of problem) place (plan_at stored) (plan_at new) → IsBest (seating_of problem) (plan_at new)
        → SamePlan (plan_of after s) (named_plan r s (plan_at new)) → IsRepaired r first before after s
    is_repaired place new after place_is repair best written =
        let here : place ≡ option_and_then (index_of r s) first =
        place_is ∙ ap (λ ns. option_and_then (λ c. position (nat_eq c) ns) first) numbers_are ∙ first_is first in
        let old : plan_at stored ≡ indexed_plan r s (plan_of before s) =
        ap plan_at listed ∙ fun_ext (stored_is_indexed up) in
        let repaired : IsRepair (indexed_seating r s) (option_and_then (index_of r s) first)
        (indexed_plan r s (plan_of before s)) (plan_at new) =
        subst (λ q. IsRepair (indexed_seating r s) (option_and_then (index_of r s) first) q (plan_at new)) old
        (subst (λ f. IsRepair (indexed_seating r s) f (plan_at stored) (plan_at new)) here
        (subst (λ p. IsRepair (seating_of p) place (plan_at stored) (plan_at new)) problem_is repair)) in
        let same : named_plan r s (plan_at new) ≡ plan_of after s = sym (fun_ext written) in
        record {
          repair = subst (IsRepair (seating r s) first (plan_of before s)) same
              (IsRepair-named (naming r s) (renames r s up) (follows r s up) first (plan_of before s)
              (plan_at new) repaired);
          best = subst (IsBest (seating r s)) same
              (IsBest-named (naming r s) (renames r s up) (plan_at new)
              (subst (λ p. IsBest (seating_of p) (plan_at new)) problem_is best));
        }

pub on_ok : {T E : Type 0} (result : Result T E) (P Q : Type 0) → OnOk result P → (P → Q) → OnOk result Q
on_ok (Ok x) P Q p f = f p
on_ok (Err e) P Q p f = tt
