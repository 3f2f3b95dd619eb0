-- Numbers and codes are ordered as their indices, so chains by indices can be read by numbers and codes.
use Rattle.exam_rules.proofs.Words.{Ordering, Less, Equal, Greater, nat_cmp, ordering_reverse, IsTotalOrder}
use Rattle.exam_rules.proofs.Words.{nat_cmp_total, nat_cmp_is, nat_list_cmp_total, tied_itself, exact_unsigned_eq, Plan}
use Rattle.exam_rules.proofs.Words.{Code, Relations, code_cmp, naming, number_at, hall_at, hall_index, ListsRise}
use Rattle.std.proofs.Common.{◌≡◌, ℕ, Contains, Some, inl, inr, sym, ap, ◌∙◌, eq-eqb}
use Rattle.std.proofs.lemmas.Bool.{cases_order}
use Rattle.std.proofs.lemmas.Option.{IfSome_then}
use Rattle.exam_plan.specs.Matching.{IsLawful}
use Rattle.exam_rules.specs.Seatings.{indexed_seating}
use Rattle.exam_rules.specs.Names.{SeatsInOpenHalls}
use Rattle.exam_rules.proofs.Naming.{numbers_rise, codes_rise, fit_member, fit_open}
use Rattle.exam_plan.proofs.ChainNames.{Follows}

-- if names rise with their indices, they compare as the indices
order_kept : {Y : Type 0} (S : Y → Y → Ordering) → IsTotalOrder S → (name : ℕ → Y) (P : ℕ → Type 0)
    → ((i j : ℕ) → P i → P j → nat_cmp i j ≡ Less → S (name i) (name j) ≡ Less)
    → (i j : ℕ) → P i → P j → S (name i) (name j) ≡ nat_cmp i j
order_kept S o name P rise i j p q = elim (cases_order i j) [
  | inl e ↦ ap (λ k. S (name i) (name k)) (sym e) ∙ tied_itself o (name i) ∙ nat_cmp_is i j Equal e
  | inr w ↦ elim w [
    | inl l ↦ rise i j p q (sym (nat_cmp_is i j Less l)) ∙ nat_cmp_is i j Less l
    | inr g ↦ o.antisymm (name i) (name j) ∙ ap ordering_reverse (rise j i q p (sym (nat_cmp_is j i Less g)))
        ∙ nat_cmp_is i j Greater g
  ]
]

pub follows : (r : Relations) (s : Code) → ListsRise r s → Follows (naming r s)
follows r s up = record {
  candidates = order_kept nat_cmp nat_cmp_total (number_at r s) (Contains (indexed_seating r s).members)
      (numbers_rise r s up);
  halls = order_kept code_cmp nat_list_cmp_total (hall_at r s) (λ j. hall_index r s (hall_at r s j) ≡ Some j)
      (codes_rise r s up);
  same_a = λ i j. (exact_unsigned_eq i j, eq-eqb i j);
  same_b = λ c d. (exact_unsigned_eq c d, eq-eqb c d);
  fit_members = fit_member r s;
}

pub lawful_seats : (r : Relations) (s : Code) (p : Plan ℕ ℕ) → IsLawful (indexed_seating r s) p → SeatsInOpenHalls r s p
lawful_seats r s p lawful i = IfSome_then (p i) (lawful.fitting i) (fit_open r s i)
