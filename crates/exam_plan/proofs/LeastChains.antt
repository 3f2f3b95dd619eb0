-- There is at most one least chain, where the orders tell candidates and halls apart.
use Rattle.exam_plan.proofs.Words.{Ordering, Less, Equal, Greater, IsTotalOrder, nat_cmp_total, Seating, Plan, Chain}
use Rattle.exam_plan.proofs.Words.{IsLeastChain}
use Rattle.std.proofs.Common.{◌≡◌, length, refl}
use Rattle.std.specs.Ordering.{ordering_reverse}
use Rattle.std.specs.FinMap.{IsAntisymmetric, slice_cmp-IsAntisymmetric}
use Rattle.std.proofs.lemmas.Cmp.{on_total, then_total, lists_total}
use Rattle.std.proofs.lemmas.Map.Lookups.{exact_pairs}
use Rattle.exam_plan.specs.Chains.{chain_cmp}
use Rattle.exam_plan.proofs.Small.{both_tie}

-- neither is greater: they tie
tied : (o p : Ordering) → o ≡ ordering_reverse p → (o ≡ Greater → ⊥) → (p ≡ Greater → ⊥) → o ≡ Equal
tied Less Less e f g = cc
tied Less Equal e f g = cc
tied Less Greater e f g = absurd (g refl)
tied Equal p e f g = refl
tied Greater p e f g = absurd (f refl)

module _ {C H : Type 0} (g : Seating C H) (candidates : IsTotalOrder g.candidate_cmp) (halls : IsTotalOrder g.hall_cmp)
    (exact_candidates : IsAntisymmetric g.candidate_cmp) (exact_halls : IsAntisymmetric g.hall_cmp) where
  pub chain_cmp_total : IsTotalOrder (chain_cmp g)
  chain_cmp_total =
      then_total (on_total (λ (a : Chain C H). length a.hops) nat_cmp_total)
      (then_total (on_total (λ (a : Chain C H). a.hops)
      (lists_total (then_total (on_total (λ (x : H × C). x.0) halls) (on_total (λ (x : H × C). x.1) candidates))))
      (on_total (λ (a : Chain C H). a.last) halls))

  pub chain_cmp_exact : IsAntisymmetric (chain_cmp g)
  chain_cmp_exact a b e =
      let rest = (both_tie _ _ e).1 in
      let hops : a.hops ≡ b.hops =
      slice_cmp-IsAntisymmetric (exact_pairs g.hall_cmp g.candidate_cmp exact_halls exact_candidates) a.hops b.hops
      (both_tie _ _ rest).0 in
      let last : a.last ≡ b.last = exact_halls a.last b.last (both_tie _ _ rest).1 in
      λ i. record { hops = hops i; last = last i }

  pub least_chain_is_one : (plan : Plan C H) (c : C) (a b : Chain C H) → IsLeastChain g plan c a
      → IsLeastChain g plan c b → a ≡ b
  least_chain_is_one plan c a b l m =
      chain_cmp_exact a b (tied _ _ (chain_cmp_total.antisymm a b) (l.least b m.is_chain) (m.least a l.is_chain))
