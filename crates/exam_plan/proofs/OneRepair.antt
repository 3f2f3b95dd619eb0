-- A plan has one repair, where the orders tell candidates and halls apart.
use Rattle.exam_plan.proofs.Words.{IsTotalOrder, fun_ext, Seating, Plan, SamePlan, Chain, augmented, TurnFrom, Sweeps}
use Rattle.exam_plan.proofs.Words.{kept_part, sweep_order, IsRepair}
use Rattle.std.proofs.Common.{◌≡◌, List, [], ◌∷◌, Option, None, Some, inl, inr, sym, ap, subst, ◌∙◌}
use Rattle.std.specs.FinMap.{IsAntisymmetric}
use Rattle.exam_plan.proofs.LeastChains.{least_chain_is_one}

module _ {C H : Type 0} (g : Seating C H) (candidates : IsTotalOrder g.candidate_cmp) (halls : IsTotalOrder g.hall_cmp)
    (exact_candidates : IsAntisymmetric g.candidate_cmp) (exact_halls : IsAntisymmetric g.hall_cmp) where
  same_as : (p x y : Plan C H) → SamePlan x p → SamePlan y p → SamePlan x y
  same_as p x y u v c = u c ∙ sym (v c)

  one_turn : (before : Plan C H) (c : C) (o : Option H) (x y : Plan C H) → TurnFrom g before c o x
      → TurnFrom g before c o y → SamePlan x y
  one_turn before c (Some h) x y u v = same_as before x y u v
  one_turn before c None x y (inl u) (inl v) =
      let one : u.0 ≡ v.0 =
      least_chain_is_one g candidates halls exact_candidates exact_halls before c u.0 v.0 u.1 v.1 in
      λ d. u.2 d ∙ ap (λ (chain : Chain C H). augmented g before c chain.hops chain.last d) one ∙ sym (v.2 d)
  one_turn before c None x y (inl u) (inr v) = absurd (v.0 u.0 u.1.is_chain)
  one_turn before c None x y (inr u) (inl v) = absurd (u.0 v.0 v.1.is_chain)
  one_turn before c None x y (inr u) (inr v) = same_as before x y u.1 v.1

  pub one_sweep : (cs : List C) (before x y : Plan C H) → Sweeps g before cs x → Sweeps g before cs y → SamePlan x y
  one_sweep [] before x y u v = same_as before x y u v
  one_sweep (c ∷ cs) before x y u v =
      one_sweep cs u.0 x y u.2
      (subst (λ (mid : Plan C H). Sweeps g mid cs y)
      (sym (fun_ext (one_turn before c (before c) u.0 v.0 u.1 v.1))) v.2)

  pub one_repair : (first : Option C) (before x y : Plan C H) → IsRepair g first before x → IsRepair g first before y
      → SamePlan x y
  one_repair first before x y u v = one_sweep (sweep_order g first) (kept_part g before) x y u v
