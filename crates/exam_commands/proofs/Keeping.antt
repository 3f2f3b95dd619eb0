-- Who stays if only one candidate's fits have changed: everybody else who was seated and is still a member.
use Rattle.std.proofs.Common.{◌≡◌, ℕ, ◌<◌, ◌≤◌, ◌&&◌, ◌||◌, Bool, true, false, cond, List, [], ◌∷◌, filter, length}
use Rattle.std.proofs.Common.{nat_eq, Contains, Option, None, Some, IsSome, IfSome, IsTrue, is_some, refl, ap, sym}
use Rattle.std.proofs.Common.{subst, ◌∙◌, arith}
use Rattle.std.specs.List.{list_any}
use Rattle.std.specs.Map.{keys_of}
use Rattle.std.specs.Ordering.{nat_cmp, is_lt}
use Rattle.std.specs.Cmp.{nat_cmp_is}
use Rattle.std.specs.declared.cmp.Ordering.TheVariants.{Equal}
use Rattle.std.proofs.lemmas.Bool.{and_parts, and_from, and_right, eqb-true, ne_eqb, lt-ltb}
use Rattle.std.proofs.lemmas.List.Sums.{length-filter}
use Rattle.exam_plan.specs.Matching.{Plan, IsLawful, Keeps, is_hall, occupants}
use Rattle.exam_plan.specs.Repair.{is_member as is_member_of, where_fitting, fitting_part, lesser_occupants, where_room}
use Rattle.exam_plan.specs.Repair.{kept_part, IsRepair}
use Rattle.exam_plan.proofs.Rising.{listed_in}
use Rattle.exam_rules.specs.Relations.{Code, Relations, same_code}
use Rattle.exam_rules.specs.Sessions.{members, has_live_entry}
use Rattle.exam_rules.specs.Seatings.{seating, fits, desks}
use Rattle.exam_rules.proofs.Naming.{same_code_itself}
use Rattle.exam_commands.proofs.Members.{kept_from, listed_member}
use Rattle.exam_commands.proofs.Staying.{kept_stays}

-- ---- counts

pub filtered : {A : Type 0} (m p : A → Bool) (xs : List A) → filter p (filter m xs) ≡ filter (λ x. m x && p x) xs
filtered m p [] = refl
filtered m p (x ∷ xs) = inner (m x) (filtered m p xs)
  where
    inner : (b : Bool) → filter p (filter m xs) ≡ filter (λ x. m x && p x) xs
        → filter p (cond b (x ∷ filter m xs) (filter m xs))
        ≡ cond (b && p x) (x ∷ filter (λ x. m x && p x) xs) (filter (λ x. m x && p x) xs)
    inner true rest = ap (λ ys. cond (p x) (x ∷ ys) ys) rest
    inner false rest = rest

module _ (p q : ℕ → Bool) (implied : (n : ℕ) → p n ≡ true → q n ≡ true) where
  pub no_more : (xs : List ℕ) → length (filter p xs) ≤ length (filter q xs)
  no_more [] = omega arith
  no_more (x ∷ xs) = inner (p x) (q x) refl refl (no_more xs)
    where
      inner : (a b : Bool) → p x ≡ a → q x ≡ b → length (filter p xs) ≤ length (filter q xs)
          → length (cond a (x ∷ filter p xs) (filter p xs)) ≤ length (cond b (x ∷ filter q xs) (filter q xs))
      inner true true is was rest = omega (arith, rest)
      inner true false is was rest = absurd (let differ : true ≡ false = sym (implied x is) ∙ was in cc)
      inner false true is was rest = omega (arith, rest)
      inner false false is was rest = rest

  module _ (c : ℕ) (out : p c ≡ false) (here : q c ≡ true) where
    fewer : (xs : List ℕ) → list_any (nat_eq c) xs ≡ true → length (filter p xs) < length (filter q xs)
    fewer [] among = absurd (let differ : false ≡ true = among in cc)
    fewer (x ∷ xs) among = inner (nat_eq c x) (p x) (q x) refl refl refl among (fewer xs) (no_more xs)
      where
        inner : (n a b : Bool) → nat_eq c x ≡ n → p x ≡ a → q x ≡ b → (n || list_any (nat_eq c) xs) ≡ true
            → (list_any (nat_eq c) xs ≡ true → length (filter p xs) < length (filter q xs))
            → length (filter p xs) ≤ length (filter q xs)
            → length (cond a (x ∷ filter p xs) (filter p xs)) < length (cond b (x ∷ filter q xs) (filter q xs))
        inner true true b at is was some rest most =
            absurd (let differ : true ≡ false = sym is ∙ ap p (sym (eqb-true c x at)) ∙ out in cc)
        inner true false true at is was some rest most = omega (arith, most)
        inner true false false at is was some rest most =
            absurd (let differ : true ≡ false = sym here ∙ ap q (eqb-true c x at) ∙ was in cc)
        inner false true true at is was some rest most = let less = rest some in omega (arith, less)
        inner false true false at is was some rest most =
            absurd (let differ : true ≡ false = sym (implied x is) ∙ was in cc)
        inner false false true at is was some rest most = omega (arith, most)
        inner false false false at is was some rest most = rest some

-- ---- one candidate's fits have changed

module _ (r t : Relations) (s : Code) (d : ℕ) (same_candidates : t.candidates ≡ r.candidates)
    (same_desks : (h : Code) → desks t s h ≡ desks r s h)
    (same_fits : (c : ℕ) → nat_eq d c ≡ false → (h : Code) → fits t s c h ≡ fits r s c h) where
  module _ (plan : Plan ℕ Code) (lawful : IsLawful (seating r s) plan) where
    -- who sits in a hall after those who do not fit were put out sat there before
    sat : (e : ℕ) (h : Code) (o : Option Code) → is_hall (seating t s) h (where_fitting (seating t s) e o) ≡ true
        → is_hall (seating r s) h o ≡ true
    sat e h None at = at
    sat e h (Some k) at = inner (is_member_of (seating t s) e && fits t s e k) at
      where
        inner : (b : Bool) → is_hall (seating t s) h (cond b (Some k) None) ≡ true → same_code h k ≡ true
        inner true at = at
        inner false at = absurd (let differ : false ≡ true = at in cc)

    sits : (h : Code) (o : Option Code) → is_hall (seating r s) h o ≡ true → IsSome o
    sits h None at = at
    sits h (Some k) at = refl

    -- the members with a lesser number who sit in the hall, as their places are left
    abbrev lesser : ℕ → Code → ℕ → Bool
    lesser c h e = is_lt (nat_cmp e c) && is_hall (seating t s) h (fitting_part (seating t s) plan e)

    abbrev sits_at : Code → ℕ → Bool
    sits_at h e = is_hall (seating r s) h (plan e)

    lesser_sat : (c : ℕ) (h : Code) (e : ℕ) → (has_live_entry t s e && lesser c h e) ≡ true
        → (has_live_entry r s e && sits_at h e) ≡ true
    lesser_sat c h e both =
        let at : is_hall (seating r s) h (plan e) ≡ true =
        sat e h (plan e) (and_parts (is_lt (nat_cmp e c))
        (is_hall (seating t s) h (fitting_part (seating t s) plan e))
        (and_parts (has_live_entry t s e) (lesser c h e) both).1).1 in
        and_from (has_live_entry r s e) (sits_at h e) (listed_member r s e (lawful.members e (sits h (plan e) at))) at

    lesser_few : (c : ℕ) (h : Code) → plan c ≡ Some h
        → lesser_occupants (seating t s) (fitting_part (seating t s) plan) c h < length (occupants (seating r s) plan h)
    lesser_few c h is =
        let member : Contains (members r s) c = lawful.members c (ap is_some is) in
        let itself : lesser c h c ≡ false =
        ap (λ b. b && is_hall (seating t s) h (fitting_part (seating t s) plan c))
        (ap is_lt (sym (nat_cmp_is c c Equal refl))) in
        let here : sits_at h c ≡ true = ap (is_hall (seating r s) h) is ∙ same_code_itself h in
        let less = fewer (λ e. has_live_entry t s e && lesser c h e) (λ e. has_live_entry r s e && sits_at h e)
        (lesser_sat c h) c
        (and_right (has_live_entry t s c) (lesser c h c) itself)
        (and_from (has_live_entry r s c) (sits_at h c) (listed_member r s c member) here)
        (keys_of r.candidates)
        (listed_in (keys_of r.candidates) c (kept_from (has_live_entry r s) (keys_of r.candidates) c member)) in
        let old : length (occupants (seating r s) plan h)
        ≡ length (filter (λ e. has_live_entry r s e && sits_at h e) (keys_of r.candidates)) =
        ap length (filtered (has_live_entry r s) (sits_at h) (keys_of r.candidates)) in
        let new : lesser_occupants (seating t s) (fitting_part (seating t s) plan) c h
        ≡ length (filter (λ e. has_live_entry t s e && lesser c h e) (keys_of r.candidates)) =
        sym (length-filter (lesser c h) (members t s))
        ∙ ap length (filtered (has_live_entry t s) (lesser c h) (keys_of t.candidates))
        ∙ ap (λ rows. length (filter (λ e. has_live_entry t s e && lesser c h e) (keys_of rows))) same_candidates in
        omega (arith, less, old, new)

    kept_at : (c : ℕ) (h : Code) → plan c ≡ Some h → Contains (members t s) c → nat_eq d c ≡ false
        → kept_part (seating t s) plan c ≡ Some h
    kept_at c h is member other =
        let fitting : fits r s c h ≡ true = subst (λ o. IfSome o (λ k. IsTrue (fits r s c k))) is (lawful.fitting c) in
        let fit : (is_member_of (seating t s) c && fits t s c h) ≡ true =
        and_from (is_member_of (seating t s) c) (fits t s c h) (listed_in (members t s) c member)
        (same_fits c other h ∙ fitting) in
        let stays : fitting_part (seating t s) plan c ≡ Some h =
        ap (where_fitting (seating t s) c) is ∙ ap (λ b. cond b (Some h) None) fit in
        let few = lesser_few c h is in
        let within : length (occupants (seating r s) plan h) ≤ desks r s h = lawful.within_desks h in
        let same = same_desks h in
        ap (where_room (seating t s) (fitting_part (seating t s) plan) c) stays
        ∙ ap (λ b. cond b (Some h) None)
        (lt-ltb (lesser_occupants (seating t s) (fitting_part (seating t s) plan) c h) (desks t s h)
        (omega (arith, few, within, same)))

    others_kept : (c : ℕ) → IsSome (plan c) → Contains (members t s) c → (d ≡ c → ⊥)
        → IsSome (kept_part (seating t s) plan c)
    others_kept c some member other = inner (plan c) refl some
      where
        inner : (o : Option Code) → plan c ≡ o → IsSome o → IsSome (kept_part (seating t s) plan c)
        inner None is none = absurd (let differ : false ≡ true = none in cc)
        inner (Some h) is here = ap is_some (kept_at c h is member (ne_eqb d c other))

  -- a repair of a lawful plan keeps everybody but this one
  pub others_stay : (first : Option ℕ) (before after : Plan ℕ Code) → IsLawful (seating r s) before
      → IsRepair (seating t s) first before after → Keeps (λ c. d ≡ c) (seating t s) before after
  others_stay first before after lawful repair =
      λ c some member other. kept_stays (seating t s) first before after repair c
      (others_kept before lawful c some member other)
