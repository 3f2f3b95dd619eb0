-- Which of the standing grants counts on a day: the last of those that are not later.
use Rattle.exam_rules.proofs.Words.{AllByRecursion, Ordering, Less, Equal, Greater, is_lt, ordering_reverse}
use Rattle.exam_rules.proofs.Words.{IsTotalOrder, nat_cmp_total, then_total, on_total, nat_list_cmp_total, tied_itself}
use Rattle.exam_rules.proofs.Words.{All-from_recursion, later_of}
use Rattle.std.proofs.Common.{◌≡◌, ◌⊎◌, ◌↔◌, ℕ, zero, suc, ◌<◌, ◌≤◌, Bool, true, false, cond, List, [], ◌∷◌, length}
use Rattle.std.proofs.Common.{filter, None, Some, inl, inr, refl, sym, ap, subst, ◌∙◌, arith}
use Rattle.std.specs.Prelude.{Contains, All, fold, nat_le}
use Rattle.std.specs.Ordering.{is_gt}
use Rattle.std.proofs.lemmas.Cmp.{upto}
use Rattle.std.proofs.lemmas.List.Elements.{recursion_from_All}
use Rattle.std.proofs.lemmas.Option.{same_Some}
use Rattle.exam_rules.specs.declared.standing.StandingGrant.{StandingGrant}
use Rattle.exam_rules.specs.Sessions.{last_until, standing_cmp}

grants_total : IsTotalOrder standing_cmp
grants_total = then_total (on_total (λ (g : StandingGrant). g.day) nat_cmp_total)
    (on_total (λ (g : StandingGrant). g.session) nat_list_cmp_total)

less_is_not_greater : (o : Ordering) → is_lt o ≡ true → is_gt o ≡ false
less_is_not_greater Less e = refl
less_is_not_greater Equal e = refl
less_is_not_greater Greater e = cc

turned_not_greater : (o : Ordering) → is_lt o ≡ false → is_gt (ordering_reverse o) ≡ false
turned_not_greater Less e = cc
turned_not_greater Equal e = refl
turned_not_greater Greater e = refl

here : (x : StandingGrant) (xs : List StandingGrant) → Contains (x ∷ xs) x
here x xs = (zero, omega arith, refl)

further : (x y : StandingGrant) (xs : List StandingGrant) → Contains xs y → Contains (x ∷ xs) y
further x y xs m = (suc m.0, (let l : m.0 < length xs = m.1 in omega arith), m.2)

module _ (day : ℕ) where
  abbrev in_time : StandingGrant → Bool
  in_time g = nat_le g.day day

  -- the grant, if it is in time, is at most g
  abbrev IsBounded : StandingGrant → StandingGrant → Type 0
  IsBounded g x = x.day ≤ day → is_gt (standing_cmp x g) ≡ false

  abbrev IsAmong : List StandingGrant → StandingGrant → Type 0
  IsAmong xs g = Contains xs g × (g.day ≤ day)

  among_further : (b g : StandingGrant) (xs : List StandingGrant) → IsAmong xs g → IsAmong (b ∷ xs) g
  among_further b g xs is = (further b g xs is.0, is.1)

  -- what is left of a fold that began with a
  abbrev IsLastFrom : StandingGrant → List StandingGrant → StandingGrant → Type 0
  IsLastFrom a xs g = ((g ≡ a) ⊎ IsAmong xs g) × (is_gt (standing_cmp a g) ≡ false) × AllByRecursion (IsBounded g) xs

  with_later : (a b g : StandingGrant) (xs : List StandingGrant) → b.day ≤ day → (u : Bool)
      → is_lt (standing_cmp a b) ≡ u → IsLastFrom (cond u b a) xs g → IsLastFrom a (b ∷ xs) g
  with_later a b g xs early true less r = (
    elim r.0 [
      | inl s ↦ inr (subst (λ (z : StandingGrant). IsAmong (b ∷ xs) z) (sym s) (here b xs, early))
      | inr is ↦ inr (among_further b g xs is)
    ],
    upto grants_total a b g (less_is_not_greater (standing_cmp a b) less) r.1,
    ((λ l. r.1), r.2),
  )
  with_later a b g xs early false less r = (
    elim r.0 [ inl s ↦ inl s | inr is ↦ inr (among_further b g xs is) ],
    r.1,
    (
      (λ l. upto grants_total b a g
          (ap is_gt (grants_total.antisymm b a) ∙ turned_not_greater (standing_cmp a b) less) r.1),
      r.2,
    ),
  )

  last_from : (xs : List StandingGrant) (a g : StandingGrant) → fold later_of (Some a) (filter in_time xs) ≡ Some g
      → IsLastFrom a xs g
  last_from [] a g e =
      let s : a ≡ g = same_Some a g e in (
        inl (sym s),
        subst (λ (z : StandingGrant). is_gt (standing_cmp a z) ≡ false) s
            (ap is_gt (tied_itself grants_total a)),
        tt,
      )
  last_from (b ∷ xs) a g e = inner (λ k. last_from xs k g) (in_time b) refl e
    where
      inner : ((k : StandingGrant) → fold later_of (Some k) (filter in_time xs) ≡ Some g → IsLastFrom k xs g)
          → (t : Bool) → in_time b ≡ t
          → fold later_of (Some a) (cond t (b ∷ filter in_time xs) (filter in_time xs)) ≡ Some g
          → IsLastFrom a (b ∷ xs) g
      inner rest true early e = let l : b.day ≤ day =
          grind arith in with_later a b g xs l (is_lt (standing_cmp a b)) refl
          (rest (cond (is_lt (standing_cmp a b)) b a) e)
      inner rest false late e =
          let r = rest a e in
          let away : day < b.day = grind arith in (
            elim r.0 [ inl s ↦ inl s | inr is ↦ inr (among_further b g xs is) ],
            r.1,
            ((λ (l : b.day ≤ day). absurd (omega arith)), r.2),
          )

  last_of : (xs : List StandingGrant) (g : StandingGrant) → fold later_of None (filter in_time xs) ≡ Some g
      → IsAmong xs g × AllByRecursion (IsBounded g) xs
  last_of [] g e = cc
  last_of (b ∷ xs) g e = inner (last_of xs g) (in_time b) refl e
    where
      inner : (fold later_of None (filter in_time xs) ≡ Some g → IsAmong xs g × AllByRecursion (IsBounded g) xs)
          → (t : Bool) → in_time b ≡ t
          → fold later_of None (cond t (b ∷ filter in_time xs) (filter in_time xs)) ≡ Some g
          → IsAmong (b ∷ xs) g × AllByRecursion (IsBounded g) (b ∷ xs)
      inner rest true early e =
          let l : b.day ≤ day = grind arith in
          let r = last_from xs b g e in (
            elim r.0 [
              | inl s ↦ subst (λ (z : StandingGrant). IsAmong (b ∷ xs) z) (sym s) (here b xs, l)
              | inr is ↦ among_further b g xs is
            ],
            ((λ k. r.1), r.2),
          )
      inner rest false late e =
          let r = rest e in
          let away : day < b.day = grind arith in
          (among_further b g xs r.0, ((λ (l : b.day ≤ day). absurd (omega arith)), r.1))

  pub last_counts : (xs : List StandingGrant) (g : StandingGrant) → last_until day xs ≡ Some g
      → Contains xs g × (g.day ≤ day)
      × All (λ (other : StandingGrant). other.day ≤ day → is_gt (standing_cmp other g) ≡ false) xs
  last_counts xs g e = let r = last_of xs g e in (r.0.0, r.0.1, All-from_recursion (IsBounded g) xs r.1)

  never_none : (ys : List StandingGrant) (a : StandingGrant) → fold later_of (Some a) ys ≡ None → ⊥
  never_none [] a e = cc
  never_none (b ∷ ys) a e = never_none ys (cond (is_lt (standing_cmp a b)) b a) e

  abbrev IsLate : StandingGrant → Type 0
  IsLate g = day < g.day

  all_late : (xs : List StandingGrant) → fold later_of None (filter in_time xs) ≡ None → AllByRecursion IsLate xs
  all_late [] e = tt
  all_late (b ∷ xs) e = inner (all_late xs) (in_time b) refl e
    where
      inner : (fold later_of None (filter in_time xs) ≡ None → AllByRecursion IsLate xs) → (t : Bool) → in_time b ≡ t
          → fold later_of None (cond t (b ∷ filter in_time xs) (filter in_time xs)) ≡ None
          → AllByRecursion IsLate (b ∷ xs)
      inner rest true early e = absurd (never_none (filter in_time xs) b e)
      inner rest false late e = let away : day < b.day = grind arith in (away, rest e)

  none_if_late : (xs : List StandingGrant) → AllByRecursion IsLate xs → fold later_of None (filter in_time xs) ≡ None
  none_if_late [] late = refl
  none_if_late (b ∷ xs) late =
      let l : day < b.day = late.0 in
      let out : in_time b ≡ false = grind arith in
      ap (λ t. fold later_of None (cond t (b ∷ filter in_time xs) (filter in_time xs))) out ∙ none_if_late xs late.1

  pub none_counts : (xs : List StandingGrant) → (last_until day xs ≡ None) ↔ All (λ (g : StandingGrant). day < g.day) xs
  none_counts xs = (
    (λ e. All-from_recursion IsLate xs (all_late xs e)),
    (λ late. none_if_late xs (recursion_from_All IsLate xs late)),
  )
