-- The closed set of a best plan, found in the logic: those that some best plan leaves out, and their halls, are a
-- certificate of every best plan.
use Rattle.exam_plan.proofs.Words.{range_with_len, list_any, IsStrictlySortedBy, nat_cmp, cases_lt, cases_Bool}
use Rattle.exam_plan.proofs.Words.{or_cases, or_left, or_right, and_parts, and_from, get_or_past, get_or-replicate}
use Rattle.exam_plan.proofs.Words.{length-replicate, list_any_at, Any-from_list_any, Plan, IsBest, IsCertificate}
use Rattle.exam_plan.proofs.Words.{IsContested, Problem, IsProblem, seating_of, IsMarked, MarksAll, Draws, is_drawn}
use Rattle.std.proofs.Common.{◌≡◌, ◌⊎◌, ℕ, zero, suc, ◌<◌, ◌≤◌, ◌↔◌, Bool, true, false, not, ◌&&◌, ◌||◌, IsTrue, List}
use Rattle.std.proofs.Common.{map, length, get_or, count_by, refl, sym, ap, ◌∙◌, inl, inr, subst, arith}
use Rattle.std.specs.Prelude.{Contains, filter}
use Rattle.std.specs.Cmp.Lexicographic.{pointwise}
use Rattle.std.proofs.Math.Bool.{beq}
use Rattle.std.proofs.Math.ListN.{replicate}
use Rattle.std.proofs.lemmas.List.FromFn.{get_or-map-range_with_len, length-map-range_with_len}
use Rattle.exam_plan.proofs.Seatings.{below-member, fits_member, fits_below}
use Rattle.exam_plan.proofs.Marks.{unmarked-lt, marks_agree, marks_differ}
use Rattle.exam_plan.proofs.DrawLemmas.{draws_more, closed_after}
use Rattle.exam_plan.proofs.ShortOfDesks.{is_certificate, exactly_contested}
use Rattle.exam_plan.proofs.LawLemmas.{everybody}
use Rattle.exam_plan.proofs.Rising.{rising_are_same, same_tests}

-- ---- the search, in the logic

-- the halls that the list marks
abbrev pub marks_of : List Bool → ℕ → Bool
marks_of marks h = get_or marks h false

module _ (p : Problem) (good : IsProblem p) (q : Plan ℕ ℕ) where
  -- a candidate that the marks draw in and the hall fits
  abbrev draws_in : List Bool → ℕ → ℕ → Bool
  draws_in marks h c = is_drawn (marks_of marks) (q c) && (seating_of p).fits c h

  abbrev is_next : List Bool → ℕ → Bool
  is_next marks h = get_or marks h false || list_any (draws_in marks h) (range_with_len 0 (length p.fit))

  abbrev next_marks : List Bool → List Bool
  next_marks marks = map (is_next marks) (range_with_len 0 (length p.desk_counts))

  next_at : (marks : List Bool) (h : ℕ) → h < length p.desk_counts → get_or (next_marks marks) h false ≡ is_next marks h
  next_at marks h l = get_or-map-range_with_len (is_next marks) 0 (length p.desk_counts) h h false l (omega arith)

  marked_below : (marks : List Bool) (h : ℕ) → IsMarked (marks_of marks) h → h < length marks
  marked_below marks h t = elim (cases_lt h (length marks)) [
    | inl l ↦ l
    | inr g ↦ absurd (let z : false ≡ true = sym (get_or_past marks h false g) ∙ t in cc)
  ]

  next_exact : (marks : List Bool) → length marks ≡ length p.desk_counts
      → MarksAll (marks_of (next_marks marks))
      (λ h. IsMarked (marks_of marks) h
      ⊎ ((c : ℕ) × IsTrue (is_drawn (marks_of marks) (q c)) × IsTrue ((seating_of p).fits c h)))
  next_exact marks long h = (
    (λ t. let many = length-map-range_with_len (is_next marks) 0 (length p.desk_counts) in
        let below = marked_below (next_marks marks) h t in
        elim (or_cases (get_or marks h false) (list_any (draws_in marks h) (range_with_len 0 (length p.fit)))
        (sym (next_at marks h (omega (arith, many, below))) ∙ t)) [
          | inl m ↦ inl m
          | inr a ↦ inr (let w = Any-from_list_any (draws_in marks h) (range_with_len 0 (length p.fit)) a in let b =
              and_parts (is_drawn (marks_of marks) (q w.1)) ((seating_of p).fits w.1 h) w.4 in (w.1, b.0, b.1))
        ]),
    (λ s. elim s [
      | inl m ↦ next_at marks h (let l = marked_below marks h m in omega (arith, l, long))
          ∙ or_left (get_or marks h false) (list_any (draws_in marks h) (range_with_len 0 (length p.fit))) m
      | inr c ↦ next_at marks h (fits_below p good c.0 h c.2)
          ∙ or_right (get_or marks h false) (list_any (draws_in marks h) (range_with_len 0 (length p.fit)))
          (drawn_one marks h c.0 c.1 c.2)
    ]),
  )
    where
      drawn_one : (marks : List Bool) (h c : ℕ) → IsTrue (is_drawn (marks_of marks) (q c))
          → IsTrue ((seating_of p).fits c h) → list_any (draws_in marks h) (range_with_len 0 (length p.fit)) ≡ true
      drawn_one marks h c d f =
          let m = below-member (length p.fit) c (fits_member p c h f) in
          list_any_at (draws_in marks h) (range_with_len 0 (length p.fit)) m.0 c m.1
          (ap (draws_in marks h) m.2 ∙ and_from (is_drawn (marks_of marks) (q c)) ((seating_of p).fits c h) d f)

  -- marks of halls to which the unseated lead, and of all of them
  pub record IsClosure (marks : List Bool) : Type 0 where
    pub drawn : (h : ℕ) → IsMarked (marks_of marks) h → (j : ℕ) × Draws p q j h
    pub closed : (c h : ℕ) → IsTrue (is_drawn (marks_of marks) (q c)) → IsTrue ((seating_of p).fits c h)
        → IsMarked (marks_of marks) h

  abbrev AreReached : List Bool → Type 0
  AreReached marks = (h : ℕ) → IsMarked (marks_of marks) h → (j : ℕ) × Draws p q j h

  shut : (marks : List Bool) → length marks ≡ length p.desk_counts → AreReached marks
      → pointwise beq (next_marks marks) marks ≡ true → IsClosure marks
  shut marks long drawn same =
      record {
        drawn = drawn;
        closed =
            closed_after p q (marks_of marks) (marks_of (next_marks marks))
            (λ h t. ap (λ xs. get_or xs h false) (sym (marks_agree (next_marks marks) marks same)) ∙ t)
            (next_exact marks long);
      }

  long_next : (marks : List Bool) → length (next_marks marks) ≡ length p.desk_counts
  long_next marks = length-map-range_with_len (is_next marks) 0 (length p.desk_counts)

  fewer_left : (marks : List Bool) → length marks ≡ length p.desk_counts
      → pointwise beq (next_marks marks) marks ≡ false → count_by not (next_marks marks) < count_by not marks
  fewer_left marks long differ =
      unmarked-lt marks (next_marks marks) (long_next marks ∙ sym long) (λ h t. (next_exact marks long h).1 (inl t))
      (marks_differ (next_marks marks) marks differ)

  -- as many rounds as there are halls without a mark
  spread : (rounds : ℕ) (marks : List Bool) → length marks ≡ length p.desk_counts → AreReached marks
      → count_by not marks ≤ rounds → (found : List Bool) × IsClosure found
  spread zero marks long drawn few = elim (cases_Bool (pointwise beq (next_marks marks) marks)) [
    | inl same ↦ (marks, shut marks long drawn same)
    | inr differ ↦ absurd (let less = fewer_left marks long differ in omega (arith, less, few))
  ]
  spread (suc rounds) marks long drawn few = elim (cases_Bool (pointwise beq (next_marks marks) marks)) [
    | inl same ↦ (marks, shut marks long drawn same)
    | inr differ ↦ spread rounds (next_marks marks) (long_next marks)
        (draws_more p q (marks_of marks) (marks_of (next_marks marks)) drawn (next_exact marks long))
        (let less = fewer_left marks long differ in omega (arith, less, few))
  ]

  pub closure : (found : List Bool) × IsClosure found
  closure =
      let none = replicate (length p.desk_counts) false in
      spread (count_by not none) none (length-replicate (length p.desk_counts) false)
      (λ h t. absurd (let z : false ≡ true = sym (unmarked h (cases_lt h (length p.desk_counts))) ∙ t in cc))
      (omega arith)
    where
      unmarked : (h : ℕ) → (h < length p.desk_counts) ⊎ (length p.desk_counts ≤ h)
          → get_or (replicate (length p.desk_counts) false) h false ≡ false
      unmarked h (inl l) = get_or-replicate (length p.desk_counts) h false false l
      unmarked h (inr g) =
          get_or_past (replicate (length p.desk_counts) false) h false
          (let e = length-replicate (length p.desk_counts) false in omega (arith, e, g))

  -- one pair of lists for every best plan
  pub some_certificate : IsBest (seating_of p) q
      → (candidates : List ℕ) × (halls : List ℕ) × ((c : ℕ) → Contains candidates c ↔ IsContested (seating_of p) c)
      × ((r : Plan ℕ ℕ) → IsBest (seating_of p) r → IsCertificate (seating_of p) r candidates halls)
  some_certificate best = (
    candidates,
    halls,
    exactly_contested p good q best
        (marks_of closure.0) closure.1.drawn closure.1.closed candidates halls refl refl,
    of_every,
  )
    where
      candidates : List ℕ
      candidates = filter (λ c. is_drawn (marks_of closure.0) (q c)) (range_with_len 0 (length p.fit))

      halls : List ℕ
      halls = filter (λ h. get_or closure.0 h false) (range_with_len 0 (length p.desk_counts))

      of_every : (r : Plan ℕ ℕ) → IsBest (seating_of p) r → IsCertificate (seating_of p) r candidates halls
      of_every r also =
          let cert = is_certificate p good q best
          (marks_of closure.0) closure.1.drawn closure.1.closed candidates halls refl refl in
          let more = best.greatest r also.lawful in
          let fewer = also.greatest q best.lawful in
          let a = everybody p q in
          let b = everybody p r in
          let x = cert.excess in
          record {
            members = cert.members;
            rising = cert.rising;
            halls_rising = cert.halls_rising;
            halls_of = cert.halls_of;
            excess = omega (arith, more, fewer, a, b, x);
          }

pub every_certificate : (p : Problem) (q : Plan ℕ ℕ) (candidates halls : List ℕ) → IsProblem p → IsBest (seating_of p) q
    → IsStrictlySortedBy nat_cmp candidates → ((c : ℕ) → Contains candidates c ↔ IsContested (seating_of p) c)
    → IsStrictlySortedBy nat_cmp halls
    → ((h : ℕ) → Contains halls h ↔ ((c : ℕ) × Contains candidates c × IsTrue ((seating_of p).fits c h)))
    → IsCertificate (seating_of p) q candidates halls
every_certificate p q candidates halls good best rising are halls_rising halls_are =
    let w = some_certificate p good q best in
    let cert = w.3 q best in
    let one : w.0 ≡ candidates =
    rising_are_same w.0 candidates cert.rising rising
    (same_tests w.0 candidates (λ c m. (are c).1 ((w.2 c).0 m)) (λ c m. (w.2 c).1 ((are c).0 m))) in
    let R : List ℕ → Type 0 = λ xs. IsCertificate (seating_of p) q xs w.1 in
    let again = subst R one cert in
    let two : w.1 ≡ halls =
    rising_are_same w.1 halls again.halls_rising halls_rising
    (same_tests w.1 halls (λ h m. (halls_are h).1 ((again.halls_of h).0 m))
    (λ h m. (again.halls_of h).1 ((halls_are h).0 m))) in
    subst (λ (hs : List ℕ). IsCertificate (seating_of p) q candidates hs) two again
