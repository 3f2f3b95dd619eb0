-- Every problem has a best plan: of a lawful plan either the closed set is full, and it is best, or another lawful plan
-- seats one more; and nobody can go on seating more for ever.
use Rattle.exam_plan.proofs.Words.{range_with_len, list_any, cases_Bool, cases_lt, and_parts, and_from, ltb-true}
use Rattle.exam_plan.proofs.Words.{lt-ltb, list_any_at, Any-from_list_any, Plan, occupants, size, IsLawful, IsBest}
use Rattle.exam_plan.proofs.Words.{augmented, Problem, IsProblem, seating_of, is_drawn}
use Rattle.std.proofs.Common.{◌≡◌, ◌⊎◌, ℕ, zero, suc, ◌+◌, ◌≤◌, Bool, true, false, ◌&&◌, List, length, get_or, Option}
use Rattle.std.proofs.Common.{None, Some, is_some, nat_lt, refl, sym, ap, ◌∙◌, inl, inr, arith}
use Rattle.exam_plan.proofs.Counting.{count_below, count_below-le-bound, sits_at, count_below-none}
use Rattle.exam_plan.proofs.Seatings.{length-occupants, size-count, below-member}
use Rattle.exam_plan.proofs.Optimality.{IsClosedSet, drawn_in, closed_is_greatest}
use Rattle.exam_plan.proofs.Moves.{lawful-moved, size-moved}
use Rattle.exam_plan.proofs.ShortOfDesks.{routed}
use Rattle.exam_plan.proofs.Contested.{IsClosure, closure, marks_of}

module _ (p : Problem) (good : IsProblem p) where
  -- a marked hall with a free desk
  abbrev is_free : Plan ℕ ℕ → List Bool → ℕ → Bool
  is_free q marks h = get_or marks h false && nat_lt (length (occupants (seating_of p) q h)) (get_or p.desk_counts h 0)

  same_drawn : (marks : List Bool) (o : Option ℕ) → is_drawn (marks_of marks) o ≡ drawn_in (λ h. get_or marks h false) o
  same_drawn marks None = refl
  same_drawn marks (Some h) = refl

  full_set : (q : Plan ℕ ℕ) (marks : List Bool) → IsClosure p good q marks
      → list_any (is_free q marks) (range_with_len 0 (length p.desk_counts)) ≡ false
      → IsClosedSet p q (λ h. get_or marks h false)
  full_set q marks closed none = record {
    full = λ h l t. elim (cases_lt (length (occupants (seating_of p) q h)) (get_or p.desk_counts h 0)) [
      | inl free ↦ (let m = below-member (length p.desk_counts) h l in
          let some : list_any (is_free q marks) (range_with_len 0 (length p.desk_counts)) ≡ true =
          list_any_at (is_free q marks) (range_with_len 0 (length p.desk_counts)) m.0 h m.1
          (ap (is_free q marks) m.2
          ∙ and_from (get_or marks h false)
          (nat_lt (length (occupants (seating_of p) q h)) (get_or p.desk_counts h 0)) t
          (lt-ltb (length (occupants (seating_of p) q h)) (get_or p.desk_counts h 0) free)) in
          absurd (let z : false ≡ true = sym none ∙ some in cc))
      | inr k ↦ k
    ];
    stays = λ c k t fit. closed.closed c k (same_drawn marks (q c) ∙ t) fit;
  }

  -- another lawful plan that seats one more
  abbrev IsBetter : Plan ℕ ℕ → Plan ℕ ℕ → Type 0
  IsBetter q r = IsLawful (seating_of p) r × (size (seating_of p) r ≡ size (seating_of p) q + 1)

  best_or_better : (q : Plan ℕ ℕ) → IsLawful (seating_of p) q
      → IsBest (seating_of p) q ⊎ ((r : Plan ℕ ℕ) × IsBetter q r)
  best_or_better q lawful =
      let found = closure p good q in
      elim (cases_Bool (list_any (is_free q found.0) (range_with_len 0 (length p.desk_counts)))) [
        | inl some ↦ (let a = Any-from_list_any (is_free q found.0) (range_with_len 0 (length p.desk_counts)) some in
            let b = and_parts (get_or found.0 a.1 false)
            (nat_lt (length (occupants (seating_of p) q a.1)) (get_or p.desk_counts a.1 0)) a.4 in
            let d = found.1.drawn a.1 b.0 in
            let r = routed p q d.0 a.1 d.1 in
            inr (
              augmented (seating_of p) q r.0 r.1 a.1,
              (
                lawful-moved p q lawful r.0 r.2 r.1 a.1 r.3 r.4
                    (ltb-true (length (occupants (seating_of p) q a.1)) (get_or p.desk_counts a.1 0) b.1),
                size-moved p q lawful r.0 r.2 r.1 a.1 r.3 r.4,
              ),
            ))
        | inr none ↦ inl (record {
          lawful = lawful;
          greatest =
              λ other also. closed_is_greatest p good q lawful (λ h. get_or found.0 h false)
              (full_set q found.0 found.1 none) other also;
        })
      ]

  -- so many more can be seated at most
  best_after : (rounds : ℕ) (q : Plan ℕ ℕ) → IsLawful (seating_of p) q → length p.fit ≤ size (seating_of p) q + rounds
      → (r : Plan ℕ ℕ) × IsBest (seating_of p) r
  best_after zero q lawful few = (
    q,
    record {
      lawful = lawful;
      greatest =
          λ other also. (let s = size-count p other in let b =
          count_below-le-bound (λ c. is_some (other c)) (length p.fit) in omega (arith, s, b, few));
    },
  )
  best_after (suc rounds) q lawful few = elim (best_or_better q lawful) [
    | inl best ↦ (q, best)
    | inr w ↦ best_after rounds w.0 w.1.0 (let more = w.1.1 in omega (arith, more, few))
  ]

  nobody : Plan ℕ ℕ
  nobody c = None

  nobody_lawful : IsLawful (seating_of p) nobody
  unfolding nobody
  nobody_lawful = record {
    members = λ c s. absurd (let z : false ≡ true = s in cc);
    fitting = λ c. tt;
    within_desks = λ h. (let e = length-occupants p nobody h in let z =
        count_below-none (λ c. false) (length p.fit) (λ c. refl) in
        let s : count_below (λ c. sits_at h (nobody c)) (length p.fit) ≡ count_below (λ c. false) (length p.fit) =
        refl in omega (arith, e, z, s));
  }

  pub some_best_plan : (q : Plan ℕ ℕ) × IsBest (seating_of p) q
  some_best_plan = best_after (length p.fit) nobody nobody_lawful (omega arith)
