-- Who stays in a plan: the loops that put out, and that what stays is lawful.
use Rattle.exam_plan.proofs.Words.{range_with_len, nat_cmp, is_lt, nat_cmp_is, Less, Equal, Greater, cases_eq, cases_lt}
use Rattle.exam_plan.proofs.Words.{cases_Bool, cases_order, eq-eqb, ne_eqb, eqb-true, and_parts, lt-ltb, le-ltb}
use Rattle.exam_plan.proofs.Words.{ltb-true, get_or_past, Seating, Plan, is_hall, IsLawful, Problem, seating_of}
use Rattle.exam_plan.proofs.Words.{plan_at, where_fitting, fitting_part, lesser_occupants, where_room, room_part}
use Rattle.exam_plan.proofs.Words.{kept_part, count_at}
use Rattle.std.proofs.Common.{◌≡◌, ℕ, zero, suc, ◌+◌, ◌<◌, ◌≤◌, Bool, true, false, cond, ◌&&◌, IsTrue, List, length}
use Rattle.std.proofs.Common.{get_or, set, Option, None, Some, IfSome, nat_lt, refl, sym, ap, ◌∙◌, inl, inr, subst}
use Rattle.std.proofs.Common.{arith}
use Rattle.std.specs.Prelude.{All}
use Rattle.std.proofs.lemmas.Bool.{and_right}
use Rattle.std.proofs.lemmas.List.Elements.{All-set}
use Rattle.exam_plan.specs.Repair.{is_member}
use Rattle.exam_plan.proofs.Counting.{bit, count_below, count_below-same, count_by-range, sits_at}
use Rattle.exam_plan.proofs.Seatings.{is_hall-sits_at, length-occupants, below-member, member-below}
use Rattle.exam_plan.proofs.Steps.{plan_at-get_or, plan_at-set, count_at-below}
use Rattle.exam_plan.proofs.Small.{some_value}
use Rattle.exam_plan.proofs.Rising.{listed_in, in_listed}

-- the candidates below i went through the rule, and the others stand as they were
pub record IsFilteredBelow (R : ℕ → Option ℕ → Option ℕ) (before m : List (Option ℕ)) (i : ℕ) : Type 0 where
  pub done : (c : ℕ) → c < i → plan_at m c ≡ R c (plan_at before c)
  pub left : (c : ℕ) → i ≤ c → plan_at m c ≡ plan_at before c

module _ (R : ℕ → Option ℕ → Option ℕ) (before m : List (Option ℕ)) where
  pub below_stays : (i : ℕ) → IsFilteredBelow R before m i → R i (plan_at before i) ≡ plan_at before i
      → IsFilteredBelow R before m (i + 1)
  below_stays i f e = record {
    done = λ c l. elim (cases_lt c i) [
      | inl k ↦ f.done c k
      | inr g ↦
          (let s : i ≡ c = omega arith in
          f.left c g ∙ sym (subst (λ (z : ℕ). R z (plan_at before z) ≡ plan_at before z) s e))
    ];
    left = λ c l. f.left c (omega arith);
  }

  pub below_out : (i : ℕ) → i < length m → IsFilteredBelow R before m i → R i (plan_at before i) ≡ None
      → IsFilteredBelow R before (set m i None) (i + 1)
  below_out i inside f e = record {
    done = λ c l. plan_at-set m i c None inside ∙ elim (cases_eq i c) [
      | inl s ↦ ap (λ b. cond b None (plan_at m c)) (eq-eqb i c s)
          ∙ sym (subst (λ (z : ℕ). R z (plan_at before z) ≡ None) s e)
      | inr n ↦ ap (λ b. cond b None (plan_at m c)) (ne_eqb i c n) ∙ f.done c (omega arith)
    ];
    left = λ c l. plan_at-set m i c None inside
        ∙ ap (λ b. cond b None (plan_at m c)) (ne_eqb i c (λ s. absurd (omega arith))) ∙ f.left c (omega arith);
  }

  -- past the end of the list there is nobody, before and after
  pub below_all : (i : ℕ) → ((c : ℕ) → R c None ≡ None) → length before ≤ i → IsFilteredBelow R before m i → (c : ℕ)
      → plan_at m c ≡ R c (plan_at before c)
  below_all i none long f c = elim (cases_lt c i) [
    | inl l ↦ f.done c l
    | inr g ↦ (let e : plan_at before c ≡ None = plan_at-get_or before c ∙ get_or_past before c None (omega arith) in
        f.left c g ∙ e ∙ sym (none c) ∙ ap (R c) (sym e))
  ]

pub places_none : (m : List (Option ℕ)) (n c : ℕ) → All (λ place. IfSome place (λ k. k < n)) m
    → All (λ place. IfSome place (λ k. k < n)) (set m c None)
places_none m n c all = All-set (λ (o : Option ℕ). IfSome o (λ k. k < n)) m c None tt all

-- ---- the rules

pub member_is : (p : Problem) (c : ℕ) → c < length p.fit → is_member (seating_of p) c ≡ true
member_is p c l = listed_in (range_with_len 0 (length p.fit)) c (below-member (length p.fit) c l)

member_below : (p : Problem) (c : ℕ) → is_member (seating_of p) c ≡ true → c < length p.fit
member_below p c t = member-below (length p.fit) c (in_listed (range_with_len 0 (length p.fit)) c t)

pub fitting_stays : (p : Problem) (c h : ℕ) → c < length p.fit → (seating_of p).fits c h ≡ true
    → where_fitting (seating_of p) c (Some h) ≡ Some h
fitting_stays p c h l f =
    ap (λ b. cond (b && (seating_of p).fits c h) (Some h) None) (member_is p c l) ∙ ap (λ b. cond b (Some h) None) f

pub fitting_out : (p : Problem) (c h : ℕ) → (seating_of p).fits c h ≡ false
    → where_fitting (seating_of p) c (Some h) ≡ None
fitting_out p c h f =
    ap (λ b. cond b (Some h) None) (and_right (is_member (seating_of p) c) ((seating_of p).fits c h) f)

-- ---- lesser occupants

less_test : (d c : ℕ) → is_lt (nat_cmp d c) ≡ nat_lt d c
less_test d c = elim (cases_order d c) [
  | inl e ↦ ap is_lt (sym (nat_cmp_is d c Equal e)) ∙ sym (le-ltb d c (omega arith))
  | inr s ↦ elim s [
    | inl l ↦ ap is_lt (sym (nat_cmp_is d c Less l))
        ∙ sym (lt-ltb d c l)
    | inr g ↦ ap is_lt (sym (nat_cmp_is d c Greater g)) ∙ sym (le-ltb d c (omega arith))
  ]
]

count_lesser : (P : ℕ → Bool) (c n : ℕ) → c ≤ n → count_below (λ d. nat_lt d c && P d) n ≡ count_below P c
count_lesser P c zero l = (let e : c ≡ 0 = omega arith in ap (count_below P) (sym e))
count_lesser P c (suc n) l = elim (cases_lt n c) [
  | inl k ↦ (let e : c ≡ suc n = omega arith in
      count_below-same (λ d. nat_lt d c && P d) P (suc n) (λ d m. ap (λ b. bit (b && P d)) (lt-ltb d c (omega arith)))
      ∙ ap (count_below P) (sym e))
  | inr k ↦ (let ih = count_lesser P c n k in
      let z : bit (nat_lt n c && P n) ≡ 0 = ap (λ b. bit (b && P n)) (le-ltb n c k) in omega (arith, ih, z))
]

pub lesser_count : (p : Problem) (q : Plan ℕ ℕ) (c h : ℕ) → c ≤ length p.fit
    → lesser_occupants (seating_of p) q c h ≡ count_below (λ d. sits_at h (q d)) c
lesser_count p q c h l = count_by-range (λ d. is_lt (nat_cmp d c) && is_hall (seating_of p) h (q d)) (length p.fit)
    ∙ count_below-same (λ d. is_lt (nat_cmp d c) && is_hall (seating_of p) h (q d))
    (λ d. nat_lt d c && sits_at h (q d)) (length p.fit)
    (λ d m. ap (λ b. bit (b && is_hall (seating_of p) h (q d))) (less_test d c)
    ∙ ap (λ b. bit (nat_lt d c && b)) (is_hall-sits_at p h (q d)))
    ∙ count_lesser (λ d. sits_at h (q d)) c (length p.fit) l

-- the candidates met before one are those with a lesser number
pub counted_lesser : (p : Problem) (q : Plan ℕ ℕ) (c h x : ℕ) → c ≤ length p.fit → x ≡ count_at q h c
    → x ≡ lesser_occupants (seating_of p) q c h
counted_lesser p q c h x l counted = counted ∙ count_at-below q h c ∙ sym (lesser_count p q c h l)

pub room_out : (g : Seating ℕ ℕ) (q : Plan ℕ ℕ) (c h d x : ℕ) → d ≡ g.desks h → x ≡ lesser_occupants g q c h → d ≤ x
    → where_room g q c (Some h) ≡ None
room_out g q c h d x desks lesser l =
    ap (λ b. cond b (Some h) None) (le-ltb (lesser_occupants g q c h) (g.desks h) (omega (arith, desks, lesser, l)))

pub room_stays : (g : Seating ℕ ℕ) (q : Plan ℕ ℕ) (c h d x : ℕ) → d ≡ g.desks h → x ≡ lesser_occupants g q c h → x < d
    → where_room g q c (Some h) ≡ Some h
room_stays g q c h d x desks lesser l =
    ap (λ b. cond b (Some h) None) (lt-ltb (lesser_occupants g q c h) (g.desks h) (omega (arith, desks, lesser, l)))

-- ---- what stays is lawful

few_kept : (P K : ℕ → Bool) (desks n : ℕ) → ((c : ℕ) → c < n → K c ≡ true → (P c ≡ true) × (count_below P c < desks))
    → (count_below K n ≤ desks) × (count_below K n ≤ count_below P n)
few_kept P K desks zero h = (omega arith, omega arith)
few_kept P K desks (suc n) h = let ih = few_kept P K desks n (λ c l. h c (omega arith)) in elim (cases_Bool (K n)) [
  | inl t ↦ (let r = h n (omega arith) t in let one : bit (K n) ≡ 1 = ap bit t in
      let also : bit (P n) ≡ 1 = ap bit r.0 in let a = ih.0 in let b = ih.1 in let less =
      r.1 in (omega arith, omega arith))
  | inr t ↦ (let none : bit (K n) ≡ 0 = ap bit t in let a = ih.0 in let b = ih.1 in (omega arith, omega arith))
]

fitting_some : (p : Problem) (c k : ℕ) (o : Option ℕ) → where_fitting (seating_of p) c o ≡ Some k
    → (c < length p.fit) × IsTrue ((seating_of p).fits c k)
fitting_some p c k None e = absurd (let z : None ≡ Some k = e in cc)
fitting_some p c k (Some h) e = at (is_member (seating_of p) c && (seating_of p).fits c h) refl
  where
    at : (b : Bool) → (is_member (seating_of p) c && (seating_of p).fits c h) ≡ b
        → (c < length p.fit) × IsTrue ((seating_of p).fits c k)
    at true t = let r = and_parts (is_member (seating_of p) c) ((seating_of p).fits c h) t in
        let s : Some h ≡ Some k = sym (ap (λ b. cond b (Some h) None) t) ∙ e in let same : h ≡ k = cc in
        (member_below p c r.0, subst (λ (z : ℕ). IsTrue ((seating_of p).fits c z)) same r.1)
    at false t = absurd (let z : None ≡ Some k = sym (ap (λ b. cond b (Some h) None) t) ∙ e in cc)

room_some : (g : Seating ℕ ℕ) (q : Plan ℕ ℕ) (c k : ℕ) (o : Option ℕ) → where_room g q c o ≡ Some k
    → (o ≡ Some k) × (lesser_occupants g q c k < g.desks k)
room_some g q c k None e = absurd (let z : None ≡ Some k = e in cc)
room_some g q c k (Some h) e = at (nat_lt (lesser_occupants g q c h) (g.desks h)) refl
  where
    at : (b : Bool) → nat_lt (lesser_occupants g q c h) (g.desks h) ≡ b
        → (Some h ≡ Some k) × (lesser_occupants g q c k < g.desks k)
    at true t = let s : Some h ≡ Some k = sym (ap (λ b. cond b (Some h) None) t) ∙ e in let same : h ≡ k = cc in (
      s,
      subst (λ (z : ℕ). lesser_occupants g q c z < g.desks z) same
          (ltb-true (lesser_occupants g q c h) (g.desks h) t),
    )
    at false t = absurd (let z : None ≡ Some k = sym (ap (λ b. cond b (Some h) None) t) ∙ e in cc)

sits_some : (h : ℕ) (o : Option ℕ) → sits_at h o ≡ true → o ≡ Some h
sits_some h None t = absurd (let z : false ≡ true = t in cc)
sits_some h (Some k) t = ap Some (sym (eqb-true h k t))

if_some : (P : ℕ → Type 0) (o : Option ℕ) → ((h : ℕ) → o ≡ Some h → P h) → IfSome o P
if_some P None f = tt
if_some P (Some h) f = f h refl

pub kept_lawful : (p : Problem) (q : Plan ℕ ℕ) → IsLawful (seating_of p) (kept_part (seating_of p) q)
kept_lawful p q = record {
  members = λ c s. (let w = some_value (kept_part (seating_of p) q c) s in
      let r = room_some (seating_of p) (fitting_part (seating_of p) q) c w.0 (fitting_part (seating_of p) q c) w.1 in
      below-member (length p.fit) c (fitting_some p c w.0 (q c) r.0).0);
  fitting = λ c. if_some (λ h. IsTrue ((seating_of p).fits c h)) (kept_part (seating_of p) q c)
      (λ h e. (let r = room_some (seating_of p) (fitting_part (seating_of p) q) c h
      (fitting_part (seating_of p) q c) e in
      (fitting_some p c h (q c) r.0).1));
  within_desks = λ h. (let o = length-occupants p (kept_part (seating_of p) q) h in
      let f = few_kept (λ c. sits_at h (fitting_part (seating_of p) q c))
      (λ c. sits_at h (kept_part (seating_of p) q c)) (get_or p.desk_counts h 0) (length p.fit)
      (λ c l t. (let e : kept_part (seating_of p) q c ≡ Some h = sits_some h (kept_part (seating_of p) q c) t in
      let r = room_some (seating_of p) (fitting_part (seating_of p) q) c h (fitting_part (seating_of p) q c) e in (
        ap (sits_at h) r.0 ∙ eq-eqb h h refl,
        (let k = lesser_count p (fitting_part (seating_of p) q) c h (omega arith) in
            let less : lesser_occupants (seating_of p) (fitting_part (seating_of p) q) c h < get_or p.desk_counts h 0 =
            r.1 in omega (arith, k, less)),
      ))) in
      let g = f.0 in omega (arith, o, g));
}

-- ---- the steps, by what was read

module _ (R : ℕ → Option ℕ → Option ℕ) (before m : List (Option ℕ)) where
  pub below_read : (i : ℕ) (o : Option ℕ) → IsFilteredBelow R before m i → get_or m i None ≡ o → plan_at before i ≡ o
  below_read i o f e = sym (f.left i (omega arith)) ∙ plan_at-get_or m i ∙ e

  pub below_stays_at : (i : ℕ) (o : Option ℕ) → IsFilteredBelow R before m i → get_or m i None ≡ o → R i o ≡ o
      → IsFilteredBelow R before m (i + 1)
  below_stays_at i o f e r = below_stays R before m i f (let s = below_read i o f e in ap (R i) s ∙ r ∙ sym s)

  pub below_out_at : (i : ℕ) (o : Option ℕ) → i < length m → IsFilteredBelow R before m i → get_or m i None ≡ o
      → R i o ≡ None → IsFilteredBelow R before (set m i None) (i + 1)
  below_out_at i o inside f e r = below_out R before m i inside f (ap (R i) (below_read i o f e) ∙ r)

pub kept_after : (p : Problem) (before mid after : Plan ℕ ℕ) → ((c : ℕ) → mid c ≡ fitting_part (seating_of p) before c)
    → ((c : ℕ) → after c ≡ room_part (seating_of p) mid c) → (c : ℕ) → after c ≡ kept_part (seating_of p) before c
kept_after p before mid after fit room c =
    let same : mid ≡ fitting_part (seating_of p) before = λ i d. fit d i in
    room c ∙ ap (λ (q : Plan ℕ ℕ). room_part (seating_of p) q c) same

pub lawful_after : (p : Problem) (before after : Plan ℕ ℕ) → ((c : ℕ) → after c ≡ kept_part (seating_of p) before c)
    → IsLawful (seating_of p) after
lawful_after p before after kept = let same : kept_part (seating_of p) before ≡ after =
    λ i d. (sym (kept d)) i in subst (λ (q : Plan ℕ ℕ). IsLawful (seating_of p) q) same (kept_lawful p before)
