-- Who stays: the repair of a best plan is that plan, and nobody who is kept is put out later.
use Rattle.std.proofs.Common.{◌≡◌, ℕ, Bool, true, false, cond, List, [], ◌∷◌, Option, None, Some, IsSome, refl, ap, sym}
use Rattle.std.proofs.Common.{subst, ◌∙◌, inl, inr}
use Rattle.std.specs.Option.{option_and_then}
use Rattle.std.proofs.Math.Path.{fun_ext}
use Rattle.exam_plan.specs.Matching.{Seating, Plan, SamePlan, IsBest}
use Rattle.exam_plan.specs.Chains.{augmented, seated}
use Rattle.exam_plan.specs.Repair.{kept_part, sweep_order, TurnFrom, Sweeps, IsRepair}
use Rattle.exam_plan.proofs.LawLemmas.{best_repaired, best_is_repair}
use Rattle.exam_rules.specs.Relations.{Code, Relations}
use Rattle.exam_rules.specs.Seatings.{indexed_seating, seating, problem_of}
use Rattle.exam_rules.specs.Names.{naming, ListsRise, index_of, named_plan, indexed_plan}
use Rattle.exam_rules.proofs.Naming.{renames}
use Rattle.exam_rules.proofs.Following.{follows}
use Rattle.exam_plan.proofs.KeptNames.{IsRepair-indexed, IsRepair-named, name_of_index}
use Rattle.exam_plan.proofs.Carrying.{IsBest-indexed}

-- the repair of a best plan is that plan
pub best_stays : (r : Relations) (s : Code) → ListsRise r s → (first : Option ℕ) (before after : Plan ℕ Code)
    → IsBest (seating r s) before → IsRepair (seating r s) first before after → SamePlan after before
best_stays r s up first before after best repair =
    let back = IsRepair-indexed (naming r s) (renames r s up) (follows r s up) first before after repair in
    let indexed : IsBest (indexed_seating r s) (indexed_plan r s before) =
    IsBest-indexed (naming r s) (renames r s up) before best in
    let same : back.0 ≡ indexed_plan r s before =
    fun_ext (best_repaired (problem_of r s) (option_and_then (index_of r s) first)
    (indexed_plan r s before) back.0 indexed back.1) in
    λ c. back.2 c ∙ ap (λ p. named_plan r s p c) same
    ∙ name_of_index (naming r s) (renames r s up) (follows r s up) before best.lawful c

-- and it is one
pub best_is_repaired : (r : Relations) (s : Code) → ListsRise r s → (first : Option ℕ) (plan : Plan ℕ Code)
    → IsBest (seating r s) plan → IsRepair (seating r s) first plan plan
best_is_repaired r s up first plan best =
    let indexed : IsBest (indexed_seating r s) (indexed_plan r s plan) =
    IsBest-indexed (naming r s) (renames r s up) plan best in
    subst (IsRepair (seating r s) first plan)
    (fun_ext (name_of_index (naming r s) (renames r s up) (follows r s up) plan best.lawful))
    (IsRepair-named (naming r s) (renames r s up) (follows r s up) first plan (indexed_plan r s plan)
    (best_is_repair (problem_of r s) (option_and_then (index_of r s) first) (indexed_plan r s plan) indexed))

-- ---- nobody is put out by a sweep

module _ {C H : Type 0} (g : Seating C H) where
  seated_stays : (p : Plan C H) (c : C) (h : H) (d : C) → IsSome (p d) → IsSome (seated g p c h d)
  seated_stays p c h d some = inner (g.same_candidate c d)
    where
      inner : (b : Bool) → IsSome (cond b (Some h) (p d))
      inner true = refl
      inner false = some

  augmented_stays : (p : Plan C H) (c : C) (hops : List (H × C)) (last : H) (d : C) → IsSome (p d)
      → IsSome (augmented g p c hops last d)
  augmented_stays p c [] last d some = seated_stays p c last d some
  augmented_stays p c (hop ∷ hops) last d some =
      seated_stays (augmented g p hop.1 hops last) c hop.0 d (augmented_stays p hop.1 hops last d some)

  turn_stays : (before : Plan C H) (c : C) (o : Option H) (after : Plan C H) → TurnFrom g before c o after → (d : C)
      → IsSome (before d) → IsSome (after d)
  turn_stays before c (Some h) after turn d some = subst (λ o. IsSome o) (sym (turn d)) some
  turn_stays before c None after (inl turn) d some =
      subst (λ o. IsSome o) (sym (turn.2 d)) (augmented_stays before c turn.0.hops turn.0.last d some)
  turn_stays before c None after (inr turn) d some = subst (λ o. IsSome o) (sym (turn.1 d)) some

  sweeps_stay : (cs : List C) (before after : Plan C H) → Sweeps g before cs after → (d : C) → IsSome (before d)
      → IsSome (after d)
  sweeps_stay [] before after same d some = subst (λ o. IsSome o) (sym (same d)) some
  sweeps_stay (c ∷ cs) before after turns d some =
      sweeps_stay cs turns.0 after turns.2 d (turn_stays before c (before c) turns.0 turns.1 d some)

  -- who is kept stays seated
  pub kept_stays : (first : Option C) (before after : Plan C H) → IsRepair g first before after → (c : C)
      → IsSome (kept_part g before c) → IsSome (after c)
  kept_stays first before after repair c some =
      sweeps_stay (sweep_order g first) (kept_part g before) after repair c some
