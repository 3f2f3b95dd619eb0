-- The table of how many occupants of each hall each hall fits.
use Rattle.exam_plan.proofs.Words.{cases_eq, cases_lt, cases_Bool, and_parts, and_from, eq-eqb, ne_eqb, eqb-true}
use Rattle.exam_plan.proofs.Words.{or_cases, or_left, or_right, get_or-set_same, get_or-set_other, get_or_past}
use Rattle.exam_plan.proofs.Words.{length-set, same_Some, Tally, holds, one_if, tally_of, Plan, Problem, IsPlan}
use Rattle.exam_plan.proofs.Words.{plan_at, seating_of, IsMarked, AreInward, AreOnward, no_digits, tally_at}
use Rattle.std.proofs.Common.{◌≡◌, ◌≢◌, ℕ, zero, suc, ◌+◌, ◌<◌, ◌≤◌, ◌↔◌, Bool, true, false, not, ◌&&◌, ◌||◌, cond}
use Rattle.std.proofs.Common.{IsTrue, List, length, get_or, set, Option, None, Some, nat_eq, refl, sym, ap, ◌∙◌, inl}
use Rattle.std.proofs.Common.{inr, subst, arith}
use Rattle.std.specs.Option.{option_map_or}
use Rattle.std.proofs.Math.Bool.{and-true}
use Rattle.exam_plan.specs.declared.onward.Onward.{Onward}
use Rattle.exam_plan.specs.Tallies.{IsWhole}
use Rattle.exam_plan.specs.Searches.{IsShaped, IsTable, IsOnward, IsEntered, IsLeft, is_fitting_occupant, fitting_count}
use Rattle.exam_plan.proofs.Counting.{bit, count_below, count_by-range, count_below-more, count_below-le-bound}
use Rattle.exam_plan.proofs.Counting.{count_below-point}
use Rattle.exam_plan.proofs.HallBits.{holds_empty}
use Rattle.exam_plan.proofs.Steps.{plan_at-get_or, plan_at-set, one_gone, others_stay, sits_below}

-- ---- counts

module _ (p : Problem) where
  fitting_below : (q : Plan ℕ ℕ) (h k n : ℕ) → fitting_count p q h k n ≡ count_below (is_fitting_occupant p q h k) n
  fitting_below q h k n = count_by-range (is_fitting_occupant p q h k) n

  pub fitting_count-le : (q : Plan ℕ ℕ) (h k n : ℕ) → fitting_count p q h k n ≤ n
  fitting_count-le q h k n = let a = fitting_below q h k n in let b =
      count_below-le-bound (is_fitting_occupant p q h k) n in omega (arith, a, b)

  fitting_count-more : (q : Plan ℕ ℕ) (h k n : ℕ)
      → fitting_count p q h k (n + 1) ≡ fitting_count p q h k n + bit (is_fitting_occupant p q h k n)
  fitting_count-more q h k n =
      let a = fitting_below q h k n in let b = fitting_below q h k (n + 1) in let e =
      count_below-more (is_fitting_occupant p q h k) n in omega (arith, a, b, e)

  sits : (q : Plan ℕ ℕ) (h k c g : ℕ) → q c ≡ Some g
      → is_fitting_occupant p q h k c ≡ nat_eq h g && (seating_of p).fits c k
  sits q h k c g e = ap (λ o. option_map_or (nat_eq h) o false && (seating_of p).fits c k) e

  sits_nowhere : (q : Plan ℕ ℕ) (h k c : ℕ) → q c ≡ None → is_fitting_occupant p q h k c ≡ false
  sits_nowhere q h k c e = ap (λ o. option_map_or (nat_eq h) o false && (seating_of p).fits c k) e

  -- who is counted
  counted_who : (q : Plan ℕ ℕ) (h k n : ℕ) → 0 < fitting_count p q h k n
      → (d : ℕ) × (d < n) × (is_fitting_occupant p q h k d ≡ true)
  counted_who q h k n l = which n (let e = fitting_below q h k n in omega (arith, e, l))
    where
      which : (n : ℕ) → 0 < count_below (is_fitting_occupant p q h k) n
          → (d : ℕ) × (d < n) × (is_fitting_occupant p q h k d ≡ true)
      which zero l = absurd (omega arith)
      which (suc n) l = elim (cases_Bool (is_fitting_occupant p q h k n)) [
        | inl t ↦ (n, omega arith, t)
        | inr f ↦ (let z : bit (is_fitting_occupant p q h k n) ≡ 0 = ap bit f in
            let r = which n (omega (arith, z, l)) in (r.0, (let b : r.0 < n = r.1 in omega (arith, b)), r.2))
      ]

  pub is_counted : (q : Plan ℕ ℕ) (h k n d : ℕ) → d < n → is_fitting_occupant p q h k d ≡ true
      → 0 < fitting_count p q h k n
  is_counted q h k n d l t = let e = fitting_below q h k n in let f = has n l in omega (arith, e, f)
    where
      has : (n : ℕ) → d < n → 0 < count_below (is_fitting_occupant p q h k) n
      has zero l = absurd (omega arith)
      has (suc n) l = elim (cases_lt d n) [
        | inl b ↦ (let r = has n b in omega (arith, r))
        | inr g ↦ (let s : d ≡ n = omega arith in
            let one : bit (is_fitting_occupant p q h k n) ≡ 1 =
            ap bit (ap (is_fitting_occupant p q h k) (sym s) ∙ t) in omega (arith, one))
      ]

  pub fits_counted : (q : Plan ℕ ℕ) (h k n c : ℕ) → c < n → q c ≡ Some h → IsTrue ((seating_of p).fits c k)
      → 0 < fitting_count p q h k n
  fits_counted q h k n c l e f =
      is_counted q h k n c l (sits q h k c h e ∙ and_from (nat_eq h h) ((seating_of p).fits c k) (eq-eqb h h refl) f)

  -- who sits and is fitted
  who : (q : Plan ℕ ℕ) (h k d : ℕ) → is_fitting_occupant p q h k d ≡ true
      → (q d ≡ Some h) × IsTrue ((seating_of p).fits d k)
  who q h k d t = at (q d) refl
    where
      at : (o : Option ℕ) → q d ≡ o → (q d ≡ Some h) × IsTrue ((seating_of p).fits d k)
      at None e = absurd (let z : false ≡ true = sym (sits_nowhere q h k d e) ∙ t in cc)
      at (Some g) e = let parts =
          and_parts (nat_eq h g) ((seating_of p).fits d k) (sym (sits q h k d g e) ∙ t) in
          (e ∙ ap Some (sym (eqb-true h g parts.0)), parts.1)

  -- ---- the table of a plan

  table_onward : (m : List (Option ℕ)) (table : Onward) → length m ≡ length p.fit
      → IsTable p (plan_at m) (length p.fit) table → AreOnward p (plan_at m) table.sets.items
  table_onward m table whole t h k l = (
    (λ marked.
        let some : 0 < fitting_count p (plan_at m) h k (length p.fit) =
        (let a = (t.shaped.counted h k l).0 marked in let b = t.tallies h k l in omega (arith, a, b)) in
        let d = counted_who (plan_at m) h k (length p.fit) some in
        let w = who (plan_at m) h k d.0 d.2 in
        (d.0, w.0, w.1)),
    (λ d. (t.shaped.counted h k l).1 (
        let a = fits_counted (plan_at m) h k (length p.fit) d.0 (seated_below d.0 h d.1) d.1 d.2 in
        let b = t.tallies h k l in omega (arith, a, b))),
  )
    where
      seated_below : (d h : ℕ) → plan_at m d ≡ Some h → d < length p.fit
      seated_below d h e = elim (cases_lt d (length m)) [
        | inl b ↦ (omega (arith, b, whole))
        | inr g ↦ absurd (let z : None ≡ Some h = sym (get_or_past m d None g) ∙ sym (plan_at-get_or m d) ∙ e in cc)
      ]

  pub onward_of : (m : List (Option ℕ)) (table : Onward) → length m ≡ length p.fit → IsOnward p (plan_at m) table
      → table.is_noted ≡ true → AreOnward p (plan_at m) table.sets.items
  onward_of m table whole t noted =
      table_onward m table whole (subst (λ (b : Bool). IsTable p (plan_at m) (cond b (length p.fit) 0) table) noted t)

  -- the inward sets of the table
  pub inward_of : (m : List (Option ℕ)) (table : Onward) → IsPlan p m → IsOnward p (plan_at m) table
      → table.is_noted ≡ true → AreInward p (plan_at m) table.inward.items
  inward_of m table plan t noted h k l =
      let o = onward_of m table plan.whole t noted in (
        (λ marked. elim (cases_lt h (length p.desk_counts)) [
          | inl b ↦ (o h k b).0 (sym (t.shaped.turned h k l) ∙ marked)
          | inr g ↦ absurd (
              let past : get_or table.sets.items h 0 ≡ 0 =
              get_or_past table.sets.items h 0 (let e = t.shaped.sets in omega (arith, e, g)) in
              let z : false ≡ true =
              sym (holds_empty k) ∙ ap (λ s. holds s k) (sym past) ∙ sym (t.shaped.turned h k l) ∙ marked in cc)
        ]),
        (λ d. t.shaped.turned h k l ∙ (o h k (sits_below p m plan d.0 h d.1)).1 d),
      )

  pub noted_table : (q : Plan ℕ ℕ) (table : Onward) → IsOnward p q table → table.is_noted ≡ true
      → IsTable p q (length p.fit) table
  noted_table q table t noted = subst (λ (b : Bool). IsTable p q (cond b (length p.fit) 0) table) noted t

  pub kept_table : (q : Plan ℕ ℕ) (table : Onward) → IsTable p q (length p.fit) table → table.is_noted ≡ true
      → IsOnward p q table
  kept_table q table t noted = subst (λ (b : Bool). IsTable p q (cond b (length p.fit) 0) table) (sym noted) t

  -- nobody is in the table yet
  nobody_in : (q r : Plan ℕ ℕ) (table : Onward) → IsTable p q 0 table → IsTable p r 0 table
  nobody_in q r table t = record {
    shaped = t.shaped;
    tallies = λ h k l. t.tallies h k l;
    firsts = λ d h l e. absurd (let b : d < 0 = l in omega (arith, b));
  }

  pub blank_table : (q r : Plan ℕ ℕ) (table : Onward) → IsOnward p q table → table.is_noted ≡ false → IsOnward p r table
  blank_table q r table t blank = subst (λ (b : Bool). IsTable p r (cond b (length p.fit) 0) table) (sym blank)
      (nobody_in q r table (subst (λ (b : Bool). IsTable p q (cond b (length p.fit) 0) table) blank t))

  -- one more candidate is in the table, who sits in the hall, or nowhere
  pub one_in : (q : Plan ℕ ℕ) (table after : Onward) (i hall : ℕ) → IsTable p q i table → q i ≡ Some hall
      → IsEntered p table hall i after → IsTable p q (i + 1) after
  one_in q table after i hall t here entered = record {
    shaped = entered.shaped;
    tallies = λ h k l. (
        let a = entered.more h k l in
        let b = t.tallies h k l in
        let e = fitting_count-more q h k i in
        let f : bit (is_fitting_occupant p q h k i) ≡ one_if (nat_eq h hall && (seating_of p).fits i k) =
        ap bit (sits q h k i hall here) in
        omega (arith, a, b, e, f));
    firsts = λ d h l e. elim (cases_lt d i) [
      | inl b ↦ (let f = t.firsts d h b e in let g = entered.lower h in omega (arith, f, g))
      | inr g ↦ (let b : d < i + 1 = l in let s : d ≡ i = omega (arith, b, g) in
          let same : h ≡ hall = same_Some h hall (sym e ∙ ap q s ∙ here) in
          let f = entered.first in
          let z : get_or after.firsts.items h 0 ≡ get_or after.firsts.items hall 0 =
          ap (λ x. get_or after.firsts.items x 0) same in
          omega (arith, f, s, z))
    ];
  }

  pub none_in : (q : Plan ℕ ℕ) (table : Onward) (i : ℕ) → IsTable p q i table → q i ≡ None → IsTable p q (i + 1) table
  none_in q table i t here = record {
    shaped = t.shaped;
    tallies = λ h k l. (
        let b = t.tallies h k l in
        let e = fitting_count-more q h k i in
        let f : bit (is_fitting_occupant p q h k i) ≡ 0 = ap bit (sits_nowhere q h k i here) in
        omega (arith, b, e, f));
    firsts = λ d h l e. elim (cases_lt d i) [
      | inl b ↦ t.firsts d h b e
      | inr g ↦ absurd (let b : d < i + 1 = l in let s : d ≡ i = omega (arith, b, g) in
          let z : None ≡ Some h = sym here ∙ ap q (sym s) ∙ e in cc)
    ];
  }

  -- ---- one candidate moves to a hall

  module _ (m : List (Option ℕ)) (n c hall : ℕ) (below : c < n) (inside : c < length m) where
    abbrev moved : Plan ℕ ℕ
    moved = plan_at (set m c (Some hall))

    moved_here : moved c ≡ Some hall
    moved_here = plan_at-set m c c (Some hall) inside ∙ ap (λ t. cond t (Some hall) (plan_at m c)) (eq-eqb c c refl)

    moved_other : (d : ℕ) → d ≢ c → moved d ≡ plan_at m d
    moved_other d away =
        plan_at-set m c d (Some hall) inside
        ∙ ap (λ t. cond t (Some hall) (plan_at m d)) (ne_eqb c d (λ e. away (sym e)))

    -- the counts change by the one who moves
    one_moves : (h k : ℕ)
        → fitting_count p moved h k n + bit (is_fitting_occupant p (plan_at m) h k c)
        ≡ fitting_count p (plan_at m) h k n + one_if (nat_eq h hall && (seating_of p).fits c k)
    one_moves h k =
        let a = fitting_below moved h k n in
        let b = fitting_below (plan_at m) h k n in
        let e = count_below-point (is_fitting_occupant p moved h k) (is_fitting_occupant p (plan_at m) h k) n c below
        (λ d l away. ap (λ o. bit (option_map_or (nat_eq h) o false && (seating_of p).fits d k)) (moved_other d away))
        in
        let f : bit (is_fitting_occupant p moved h k c) ≡ one_if (nat_eq h hall && (seating_of p).fits c k) =
        ap bit (sits moved h k c hall moved_here) in
        omega (arith, a, b, e, f)

    -- a bound on who stands first stays one, with the one who moves
    firsts_moved : (before after : Onward) → IsTable p (plan_at m) n before
        → ((g : ℕ) → get_or after.firsts.items g 0 ≤ get_or before.firsts.items g 0)
        → get_or after.firsts.items hall 0 ≤ c
        → (d h : ℕ) → d < n → moved d ≡ Some h → get_or after.firsts.items h 0 ≤ d
    firsts_moved before after t lower first d h l e = elim (cases_eq d c) [
      | inl s ↦ (let same : h ≡ hall = same_Some h hall (sym e ∙ ap moved s ∙ moved_here) in
          let z : get_or after.firsts.items h 0 ≡ get_or after.firsts.items hall 0 =
          ap (λ x. get_or after.firsts.items x 0) same in
          omega (arith, first, s, z))
      | inr away ↦ (let f = t.firsts d h l (sym (moved_other d away) ∙ e) in let g = lower h in omega (arith, f, g))
    ]

    -- who sat nowhere
    pub seated_in : (before after : Onward) → plan_at m c ≡ None → IsTable p (plan_at m) n before
        → IsEntered p before hall c after → IsTable p (plan_at (set m c (Some hall))) n after
    seated_in before after nowhere t entered = record {
      shaped = entered.shaped;
      tallies = λ h k l. (
          let a = entered.more h k l in
          let b = t.tallies h k l in
          let e = one_moves h k in
          let f : bit (is_fitting_occupant p (plan_at m) h k c) ≡ 0 = ap bit (sits_nowhere (plan_at m) h k c nowhere) in
          omega (arith, a, b, e, f));
      firsts = firsts_moved before after t entered.lower entered.first;
    }

    -- who leaves a hall
    pub moved_in : (before mid after : Onward) (from : ℕ) → plan_at m c ≡ Some from → IsTable p (plan_at m) n before
        → IsLeft p before from c mid → IsEntered p mid hall c after
        → IsTable p (plan_at (set m c (Some hall))) n after
    moved_in before mid after from sat t left entered = record {
      shaped = entered.shaped;
      tallies = λ h k l. (
          let a = entered.more h k l in
          let g = left.less h k l in
          let b = t.tallies h k l in
          let e = one_moves h k in
          let f : bit (is_fitting_occupant p (plan_at m) h k c) ≡ one_if (nat_eq h from && (seating_of p).fits c k) =
          ap bit (sits (plan_at m) h k c from sat) in
          omega (arith, a, b, e, f, g));
      firsts = firsts_moved before after t
          (λ g. subst (λ (xs : List ℕ). get_or after.firsts.items g 0 ≤ get_or xs g 0) left.firsts (entered.lower g))
          entered.first;
    }

-- ---- sets that a hall is put into, or taken out of

-- the sets of these halls have the hall, or lack it, but those that are still to come
abbrev pub ArePut : List ℕ → ℕ → ℕ → Bool → ℕ → List ℕ → Type 0
ArePut before halls hall inside rest sets = (k h : ℕ)
    → holds (get_or sets k 0) h
    ≡ cond (nat_eq h hall && (holds halls k && not (holds rest k))) inside (holds (get_or before k 0) h)

pub put_none : (before : List ℕ) (halls hall : ℕ) (inside : Bool) → ArePut before halls hall inside halls before
put_none before halls hall inside k h =
    sym (ap (λ t. cond t inside (holds (get_or before k 0) h)) (at (nat_eq h hall) (holds halls k)))
  where
    at : (a b : Bool) → a && (b && not b) ≡ false
    at true true = refl
    at true false = refl
    at false b = refl

pub put_all : (before : List ℕ) (halls hall : ℕ) (inside : Bool) (rest : ℕ) (sets : List ℕ)
    → ((h : ℕ) → holds rest h ≡ false) → ArePut before halls hall inside rest sets
    → (k h : ℕ) → holds (get_or sets k 0) h ≡ cond (nat_eq h hall && holds halls k) inside (holds (get_or before k 0) h)
put_all before halls hall inside rest sets none w k h =
    w k h ∙ ap (λ t. cond (nat_eq h hall && t) inside (holds (get_or before k 0) h))
    (at (holds halls k) (holds rest k) (none k))
  where
    at : (a b : Bool) → b ≡ false → a && not b ≡ a
    at true true e = cc
    at true false e = refl
    at false b e = refl

pub put_more : (before : List ℕ) (halls hall : ℕ) (inside : Bool) (rest : ℕ) (sets : List ℕ) (i new less : ℕ)
    → ArePut before halls hall inside rest sets → i < length sets → holds halls i ≡ true → holds rest i ≡ true
    → ((h : ℕ) → holds new h ≡ cond (nat_eq h hall) inside (holds (get_or sets i 0) h))
    → ((h : ℕ) → holds less h ≡ cond (nat_eq h i) false (holds rest h))
    → ArePut before halls hall inside less (set sets i new)
put_more before halls hall inside rest sets i new less w below among held put gone k h = elim (cases_eq k i) [
  | inl e ↦ (
      let at : get_or (set sets i new) k 0 ≡ new =
      ap (λ t. get_or (set sets i new) t 0) e ∙ get_or-set_same sets i new 0 below in
      let was : holds (get_or sets i 0) h ≡ holds (get_or before k 0) h =
      w i h ∙ ap (λ t. cond (nat_eq h hall && (holds halls i && not t)) inside (holds (get_or before i 0) h)) held
      ∙ ap (λ t. cond t inside (holds (get_or before i 0) h)) (none (nat_eq h hall) (holds halls i))
      ∙ ap (λ j. holds (get_or before j 0) h) (sym e) in
      let now : nat_eq h hall && (holds halls k && not (holds less k)) ≡ nat_eq h hall =
      ap (λ j. nat_eq h hall && (holds halls j && not (holds less j))) e
      ∙ ap (λ t. nat_eq h hall && (t && not (holds less i))) among
      ∙ ap (λ t. nat_eq h hall && not t) (one_gone rest i less gone) ∙ and-true (nat_eq h hall) in
      ap (λ s. holds s h) at ∙ put h ∙ ap (λ t. cond (nat_eq h hall) inside t) was
      ∙ sym (ap (λ t. cond t inside (holds (get_or before k 0) h)) now))
  | inr away ↦ (
      let at : get_or (set sets i new) k 0 ≡ get_or sets k 0 = rw get_or-set_other refl in
      ap (λ s. holds s h) at ∙ w k h
      ∙ ap (λ t. cond (nat_eq h hall && (holds halls k && not t)) inside (holds (get_or before k 0) h))
      (sym (others_stay rest i less gone k away)))
]
  where
    none : (a b : Bool) → a && (b && not true) ≡ false
    none true true = refl
    none true false = refl
    none false b = refl

-- ---- one candidate more or less in a hall

set_here : {X : Type 0} (xs after : List X) (i g : ℕ) (new d : X) → after ≡ set xs i new → i < length xs → g ≡ i
    → get_or after g d ≡ new
set_here xs after i g new d is inside e =
    ap (λ ys. get_or ys g d) is ∙ ap (λ j. get_or (set xs i new) j d) e ∙ get_or-set_same xs i new d inside

set_there : {X : Type 0} (xs after : List X) (i g : ℕ) (new d : X) → after ≡ set xs i new → g ≢ i
    → get_or after g d ≡ get_or xs g d
set_there xs after i g new d is away =
    ap (λ ys. get_or ys g d) is ∙ (let e : get_or (set xs i new) g d ≡ get_or xs g d = rw get_or-set_other refl in e)

same_length : {X : Type 0} (xs after : List X) (i n : ℕ) (new : X) → after ≡ set xs i new → length xs ≡ n
    → length after ≡ n
same_length xs after i n new is long =
    ap length is ∙ (let e : length (set xs i new) ≡ length xs = simp length-set refl in e) ∙ long

-- the table with a new tally and a new set for the hall
module _ (p : Problem) (before after : Onward) (h : ℕ) (tally : Tally) (fitting : ℕ) (shaped : IsShaped p before)
    (inside : h < length p.desk_counts)
    (tallies_are : after.tallies.items ≡ set before.tallies.items h tally)
    (sets_are : after.sets.items ≡ set before.sets.items h fitting)
    (whole : IsWhole tally) (counted : (k : ℕ) → IsMarked (holds fitting) k ↔ 0 < tally_of tally k)
    (changed : ℕ) (inside_now : Bool) (inward_long : length after.inward.items ≡ length before.inward.items)
    (inward_is : (k g : ℕ)
    → holds (get_or after.inward.items k 0) g
    ≡ cond (nat_eq g h && holds changed k) inside_now (holds (get_or before.inward.items k 0) g))
    (changes : (k : ℕ) → k < length p.desk_counts
    → cond (holds changed k) inside_now (holds (get_or before.sets.items h 0) k) ≡ holds fitting k) where
  in_tallies : h < length before.tallies.items
  in_tallies = (let e = shaped.tallies in omega (arith, e, inside))

  tally_here : (g k : ℕ) → g ≡ h → tally_at after.tallies.items g k ≡ tally_of tally k
  tally_here g k e = ap (λ (t : Tally). tally_of t k)
      (set_here before.tallies.items after.tallies.items h g tally no_digits tallies_are in_tallies e)

  tally_there : (g k : ℕ) → g ≢ h → tally_at after.tallies.items g k ≡ tally_at before.tallies.items g k
  tally_there g k away =
      ap (λ (t : Tally). tally_of t k)
      (set_there before.tallies.items after.tallies.items h g tally no_digits tallies_are away)

  pub new_shaped : length after.firsts.items ≡ length p.desk_counts → IsShaped p after
  new_shaped long = record {
    tallies = same_length before.tallies.items after.tallies.items h
        (length p.desk_counts) tally tallies_are shaped.tallies;
    digits = λ g l. elim (cases_eq g h) [
      | inl e ↦ subst IsWhole
          (sym (set_here before.tallies.items after.tallies.items h g tally no_digits tallies_are in_tallies e)) whole
      | inr away ↦ subst IsWhole
          (sym (set_there before.tallies.items after.tallies.items h g tally no_digits tallies_are away))
          (shaped.digits g l)
    ];
    sets = same_length before.sets.items after.sets.items h (length p.desk_counts) fitting sets_are shaped.sets;
    firsts = long;
    counted = λ g k l. elim (cases_eq g h) [
      | inl e ↦ (let s = set_here before.sets.items after.sets.items h g fitting 0 sets_are
          (let t = shaped.sets in omega (arith, t, inside)) e in
          let t = tally_here g k e in (
            (λ m. let n = (counted k).0 (ap (λ x. holds x k) (sym s) ∙ m) in omega (arith, n, t)),
            (λ n. ap (λ x. holds x k) s ∙ (counted k).1 (omega (arith, n, t))),
          ))
      | inr away ↦ (let s = set_there before.sets.items after.sets.items h g fitting 0 sets_are away in
          let t = tally_there g k away in (
            (λ m. let n = (shaped.counted g k l).0 (ap (λ x. holds x k) (sym s) ∙ m) in omega (arith, n, t)),
            (λ n. ap (λ x. holds x k) s ∙ (shaped.counted g k l).1 (omega (arith, n, t))),
          ))
    ];
    inward = inward_long ∙ shaped.inward;
    turned = λ g k l. elim (cases_eq g h) [
      | inl e ↦ (let s = set_here before.sets.items after.sets.items h g fitting 0 sets_are
          (let t = shaped.sets in omega (arith, t, inside)) e in
          inward_is k g ∙ ap (λ t. cond (t && holds changed k) inside_now (holds (get_or before.inward.items k 0) g))
          (eq-eqb g h e) ∙ ap (λ t. cond (holds changed k) inside_now t) (shaped.turned g k l)
          ∙ ap (λ j. cond (holds changed k) inside_now (holds (get_or before.sets.items j 0) k)) e ∙ changes k l
          ∙ ap (λ x. holds x k) (sym s))
      | inr away ↦ (let s = set_there before.sets.items after.sets.items h g fitting 0 sets_are away in
          inward_is k g ∙ ap (λ t. cond (t && holds changed k) inside_now (holds (get_or before.inward.items k 0) g))
          (ne_eqb g h away) ∙ shaped.turned g k l ∙ ap (λ x. holds x k) (sym s))
    ];
  }

  one_if_here : (g k c : ℕ) → g ≡ h → one_if (nat_eq g h && (seating_of p).fits c k) ≡ one_if ((seating_of p).fits c k)
  one_if_here g k c e = ap (λ t. one_if (t && (seating_of p).fits c k)) (eq-eqb g h e)

  one_if_there : (g k c : ℕ) → g ≢ h → one_if (nat_eq g h && (seating_of p).fits c k) ≡ 0
  one_if_there g k c away = ap (λ t. one_if (t && (seating_of p).fits c k)) (ne_eqb g h away)

  pub entered : (c first : ℕ)
      → ((k : ℕ) → tally_of tally k ≡ tally_at before.tallies.items h k + one_if ((seating_of p).fits c k))
      → after.firsts.items ≡ set before.firsts.items h first → first ≤ get_or before.firsts.items h 0 → first ≤ c
      → after.is_noted ≡ before.is_noted → IsEntered p before h c after
  entered c first more firsts_are less also noted = record {
    shaped = new_shaped (same_length before.firsts.items after.firsts.items h
        (length p.desk_counts) first firsts_are shaped.firsts);
    noted = noted;
    more = λ g k l. elim (cases_eq g h) [
      | inl e ↦ (let t = tally_here g k e in let m = more k in let o = one_if_here g k c e in
          let s : tally_at before.tallies.items g k ≡ tally_at before.tallies.items h k =
          ap (λ x. tally_at before.tallies.items x k) e in
          omega (arith, t, m, o, s))
      | inr away ↦ (let t = tally_there g k away in let o = one_if_there g k c away in omega (arith, t, o))
    ];
    lower = λ g. elim (cases_eq g h) [
      | inl e ↦ (let t = set_here before.firsts.items after.firsts.items h g first 0 firsts_are in_firsts e in
          let s : get_or before.firsts.items g 0 ≡ get_or before.firsts.items h 0 =
          ap (λ x. get_or before.firsts.items x 0) e in
          omega (arith, t, s, less))
      | inr away ↦ (let t = set_there before.firsts.items after.firsts.items h g first 0 firsts_are away in
          omega (arith, t))
    ];
    first = (let t = set_here before.firsts.items after.firsts.items h h first 0 firsts_are in_firsts refl in
        omega (arith, t, also));
  }
    where
      in_firsts : h < length before.firsts.items
      in_firsts = (let e = shaped.firsts in omega (arith, e, inside))

  pub left_out : (c : ℕ)
      → ((k : ℕ) → tally_of tally k + one_if ((seating_of p).fits c k) ≡ tally_at before.tallies.items h k)
      → after.firsts.items ≡ before.firsts.items → after.is_noted ≡ before.is_noted → IsLeft p before h c after
  left_out c less firsts_are noted = record {
    shaped = new_shaped (ap length firsts_are ∙ shaped.firsts);
    noted = noted;
    less = λ g k l. elim (cases_eq g h) [
      | inl e ↦ (let t = tally_here g k e in let m = less k in let o = one_if_here g k c e in
          let s : tally_at before.tallies.items g k ≡ tally_at before.tallies.items h k =
          ap (λ x. tally_at before.tallies.items x k) e in
          omega (arith, t, m, o, s))
      | inr away ↦ (let t = tally_there g k away in let o = one_if_there g k c away in omega (arith, t, o))
    ];
    firsts = firsts_are;
  }

-- the set of a hall, once a candidate's halls are counted for it too
pub union_counted : (set_before row set_after : ℕ) (before after : ℕ → ℕ)
    → ((k : ℕ) → IsMarked (holds set_before) k ↔ 0 < before k)
    → ((k : ℕ) → holds set_after k ≡ holds set_before k || holds row k)
    → ((k : ℕ) → after k ≡ before k + one_if (holds row k)) → (k : ℕ) → IsMarked (holds set_after) k ↔ 0 < after k
union_counted set_before row set_after before after counted is more k = (
  (λ t. elim (or_cases (holds set_before k) (holds row k) (sym (is k) ∙ t)) [
    | inl a ↦ (let l = (counted k).0 a in let m = more k in omega (arith, l, m))
    | inr b ↦ (let m = more k in let o : one_if (holds row k) ≡ 1 = ap one_if b in omega (arith, m, o))
  ]),
  (λ l. is k ∙ elim (cases_Bool (holds row k)) [
    | inl b ↦ or_right (holds set_before k) (holds row k) b
    | inr f ↦ or_left (holds set_before k) (holds row k)
        ((counted k).1 (let m = more k in let o : one_if (holds row k) ≡ 0 = ap one_if f in omega (arith, l, m, o)))
  ]),
)

-- the changes of a set when a row is added, and when halls of a row are left out
pub changes_in : (before row gained after : ℕ) → ((k : ℕ) → holds gained k ≡ holds row k && not (holds before k))
    → ((k : ℕ) → holds after k ≡ holds before k || holds row k)
    → (k : ℕ) → cond (holds gained k) true (holds before k) ≡ holds after k
changes_in before row gained after is union k =
    ap (λ t. cond t true (holds before k)) (is k) ∙ at (holds before k) (holds row k) ∙ sym (union k)
  where
    at : (b r : Bool) → cond (r && not b) true b ≡ b || r
    at true true = refl
    at true false = refl
    at false true = refl
    at false false = refl

pub changes_out : (before row lost after : ℕ) (old new : ℕ → ℕ)
    → ((k : ℕ) → holds lost k ≡ holds row k && not (holds after k)) → ((k : ℕ) → IsMarked (holds before) k ↔ 0 < old k)
    → ((k : ℕ) → IsMarked (holds after) k ↔ 0 < new k)
    → ((k : ℕ) → new k + one_if (holds row k) ≡ old k) → (k : ℕ)
    → cond (holds lost k) false (holds before k) ≡ holds after k
changes_out before row lost after old new is was now less k =
    ap (λ t. cond t false (holds before k)) (is k) ∙ at (holds row k) (holds after k) (holds before k) refl refl refl
  where
    at : (r a b : Bool) → holds row k ≡ r → holds after k ≡ a → holds before k ≡ b → cond (r && not a) false b ≡ a
    at true false b e f g = refl
    at true true true e f g = refl
    at true true false e f g = absurd (
        let some = (now k).0 f in let l = less k in
        let z : false ≡ true = sym g ∙ (was k).1 (omega (arith, some, l)) in cc)
    at false true true e f g = refl
    at false false false e f g = refl
    at false true false e f g = absurd (
        let some = (now k).0 f in let l = less k in
        let z : false ≡ true = sym g ∙ (was k).1 (omega (arith, some, l)) in cc)
    at false false true e f g = absurd (
        let some = (was k).0 g in let l = less k in let o : one_if (holds row k) ≡ 0 = ap one_if e in
        let z : false ≡ true = sym f ∙ (now k).1 (omega (arith, some, l, o)) in cc)
