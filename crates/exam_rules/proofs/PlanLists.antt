-- A list with each member's place of a hall is a plan by indices.
use Rattle.exam_rules.proofs.Words.{option_map, option_and_then, exact_unsigned_eq, Plan, Code, Relations, members}
use Rattle.exam_rules.proofs.Words.{number_at, hall_at, index_of, hall_index, named_plan, ListsRise}
use Rattle.std.proofs.Common.{◌≡◌, ℕ, ◌<◌, ◌≤◌, Bool, true, false, List, length, get_or, cond, nat_eq, Option, None}
use Rattle.std.proofs.Common.{Some, inl, inr, refl, sym, ap, ◌∙◌, eq-eqb, arith}
use Rattle.std.proofs.lemmas.Bool.{cases_lt}
use Rattle.std.proofs.lemmas.List.{get_or_past}
use Rattle.exam_plan.specs.Matching.{SamePlan}
use Rattle.exam_plan.specs.Problems.{plan_at}
use Rattle.exam_plan.proofs.Steps.{plan_at-get_or}
use Rattle.exam_rules.specs.Names.{indexed_plan}
use Rattle.exam_rules.proofs.Naming.{index_known, index_below}

module _ (r : Relations) (s : Code) where
  -- by index, a member sits in the hall in which they sit
  pub indexed_member : ListsRise r s → (q : Plan ℕ Code) (i : ℕ) → i < length (members r s)
      → indexed_plan r s q i ≡ option_and_then (hall_index r s) (q (number_at r s i))
  indexed_member up q i below =
      ap (option_and_then (λ k. cond (nat_eq k i) (option_and_then (hall_index r s) (q (number_at r s i))) None))
      (index_known r s up i below)
      ∙ ap (λ t. cond t (option_and_then (hall_index r s) (q (number_at r s i))) None) (eq-eqb i i refl)

  pub named_at_index : ListsRise r s → (p : Plan ℕ ℕ) (i : ℕ) → i < length (members r s)
      → named_plan r s p (number_at r s i) ≡ option_map (hall_at r s) (p i)
  named_at_index up p i below = ap (option_and_then (λ k. option_map (hall_at r s) (p k))) (index_known r s up i below)

  -- nobody sits under an index that is no member's
  indexed_past : (q : Plan ℕ Code) (i : ℕ) → length (members r s) ≤ i → indexed_plan r s q i ≡ None
  indexed_past q i past = outer (index_of r s (number_at r s i)) refl
    where
      inner : (k : ℕ) (t : Bool) → nat_eq k i ≡ t → k < length (members r s)
          → cond t (option_and_then (hall_index r s) (q (number_at r s i))) None ≡ None
      inner k true e below = absurd (let is : k ≡ i = exact_unsigned_eq k i e in omega arith)
      inner k false e below = refl

      outer : (o : Option ℕ) → index_of r s (number_at r s i) ≡ o → indexed_plan r s q i ≡ None
      outer None e = ap (option_and_then
          (λ k. cond (nat_eq k i) (option_and_then (hall_index r s) (q (number_at r s i))) None)) e
      outer (Some k) e =
          ap (option_and_then (λ k. cond (nat_eq k i) (option_and_then (hall_index r s) (q (number_at r s i))) None)) e
          ∙ inner k (nat_eq k i) refl (index_below r s (number_at r s i) k e)

  pub list_is_plan : ListsRise r s → (q : Plan ℕ Code) (halls : List (Option ℕ)) → length halls ≡ length (members r s)
      → ((i : ℕ) → i < length (members r s)
      → get_or halls i None ≡ option_and_then (hall_index r s) (q (number_at r s i)))
      → SamePlan (plan_at halls) (indexed_plan r s q)
  list_is_plan up q halls long same i = plan_at-get_or halls i ∙ elim (cases_lt i (length (members r s))) [
    | inl below ↦ same i below ∙ sym (indexed_member up q i below)
    | inr past ↦ get_or_past halls i None (omega arith) ∙ sym (indexed_past q i past)
  ]
