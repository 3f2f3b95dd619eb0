-- Tables hold one list of facts, and one of seats.
use Rattle.exam_tables.proofs.Words.{IsPermutation, IsStrictlySortedBy, keys_of, ordering_reverse, IsPermutation-sym}
use Rattle.exam_tables.proofs.Words.{IsPermutation-trans, Null, Row, Trees, features_sum, KeysRise, Code, Subject}
use Rattle.exam_tables.proofs.Words.{Status, HoldsTable, kind_number, state_number}
use Rattle.std.proofs.Common.{◌≡◌, ◌⊎◌, ◌==◌, if◌then◌else◌, ℕ, pos, Bool, true, false, Option, Some, None, List, []}
use Rattle.std.proofs.Common.{◌∷◌, map, inl, inr, Ordering, Less, Equal, Greater, refl, sym, ap, subst, ◌∙◌, arith}
use Rattle.std.specs.Ordering.{nat_cmp, ordering_then}
use Rattle.std.proofs.lemmas.Cmp.{nat_cmp_total, nat_list_cmp_total}
use Rattle.std.proofs.lemmas.List.Sorted.{Contains-permutation}
use Rattle.sqlite_rules.specs.Lists.{Has}
use Rattle.sqlite_rules.proofs.ListLemmas.{all_has, has_contained, contains_had}
use Rattle.sqlite_rules.proofs.ProbeLemmas.{mapped_has, has_mapped}
use Rattle.exam_types.specs.Days.{IsDay, IsSessionDay, day_text, year_of, month_of, month_day_of}
use Rattle.exam_types.specs.Features.{Features, summed_features}
use Rattle.exam_types.proofs.DayFacts.{number_of_civil}
use Rattle.exam_types.proofs.DayTexts.{day_text-is, parts_small, parts_of_text, only_parts}
use Rattle.exam_types.proofs.FeatureFacts.{set_of_sum}
use Rattle.exam_rules.specs.Relations.{Relations, code_cmp, pair_cmp}
use Rattle.exam_rules.specs.declared.rows.Subject.TheVariants as subject
use Rattle.exam_rules.specs.declared.rows.Status.TheVariants as status
use Rattle.exam_rules.specs.Tables as table
use Rattle.exam_tables.specs.Held.{HoldsRelations, HoldsSeats}
use Rattle.exam_tables.specs.Rows.{session_row, paper_row, hall_row, candidate_row, opening_row, entry_row}
use Rattle.exam_tables.specs.Rows.{arrangement_row, appeal_row, standing_row, seat_row}
use Rattle.exam_tables.specs.Stored.{target_of, needs_of, extra_of, answer_of, text_or_null}

-- ---- tables with the same rows

abbrev IsMirrored : {K : Type 0} → (K → K → Ordering) → Type 0
IsMirrored {K} cmp = (j k : K) → cmp j k ≡ ordering_reverse (cmp k j)

never_both : {K : Type 0} {cmp : K → K → Ordering} → IsMirrored cmp → (j k : K) → cmp j k ≡ Less → cmp k j ≡ Less → ⊥
never_both mirrored j k below above = let both : Less ≡ Greater =
    sym below ∙ mirrored j k ∙ ap ordering_reverse above in absurd cc

pairs_mirrored : {A B : Type 0} {P : A → A → Ordering} {Q : B → B → Ordering} → IsMirrored P → IsMirrored Q
    → IsMirrored (pair_cmp P Q)
pairs_mirrored {A} {B} {P} {Q} first second x y = rw (first x.0 y.0, second x.1 y.1) (both (P y.0 x.0) (Q y.1 x.1))
  where
    both : (a b : Ordering)
        → ordering_then (ordering_reverse a) (ordering_reverse b) ≡ ordering_reverse (ordering_then a b)
    both Less b = refl
    both Equal b = refl
    both Greater b = refl

module _ {K X : Type 0} {cmp : K → K → Ordering} (mirrored : IsMirrored cmp) where
  -- keys that rise are those of one list
  one_list : (xs ys : List (K × X)) → KeysRise cmp xs → KeysRise cmp ys → ((e : K × X) → Has xs e → Has ys e)
      → ((e : K × X) → Has ys e → Has xs e) → xs ≡ ys
  unfolding IsStrictlySortedBy
  one_list [] [] rise_x rise_y to back = refl
  one_list [] (y ∷ ys) rise_x rise_y to back = absurd (back y (inl refl))
  one_list (x ∷ xs) [] rise_x rise_y to back = absurd (to x (inl refl))
  one_list (x ∷ xs) (y ∷ ys) rise_x rise_y to back =
      let same : x ≡ y = first (to x (inl refl)) (back y (inl refl)) in
      let rest : xs ≡ ys =
      one_list xs ys rise_x.1 rise_y.1 (λ e has. later_y e has same (to e (inr has)))
      (λ e has. later_x e has same (back e (inr has))) in
      λ i. same i ∷ rest i
    where
      above_x : (e : K × X) → Has xs e → cmp x.0 e.0 ≡ Less
      above_x e has = all_has (λ k. cmp x.0 k ≡ Less) (keys_of xs) e.0 rise_x.0
          (mapped_has (λ (p : K × X). p.0) xs e has)

      above_y : (e : K × X) → Has ys e → cmp y.0 e.0 ≡ Less
      above_y e has = all_has (λ k. cmp y.0 k ≡ Less) (keys_of ys) e.0 rise_y.0
          (mapped_has (λ (p : K × X). p.0) ys e has)

      first : (x ≡ y) ⊎ Has ys x → (y ≡ x) ⊎ Has xs y → x ≡ y
      first (inl is) h = is
      first (inr after) (inl is) = sym is
      first (inr after) (inr before) = absurd (never_both mirrored x.0 y.0 (above_x y before) (above_y x after))

      later_y : (e : K × X) → Has xs e → x ≡ y → (e ≡ y) ⊎ Has ys e → Has ys e
      later_y e has same (inl is) = let below : cmp x.0 x.0 ≡ Less =
          ap (λ (p : K × X). cmp x.0 p.0) (same ∙ sym is) ∙ above_x e has in
          absurd (never_both mirrored x.0 x.0 below below)
      later_y e has same (inr there) = there

      later_x : (e : K × X) → Has ys e → x ≡ y → (e ≡ x) ⊎ Has xs e → Has xs e
      later_x e has same (inl is) = let below : cmp y.0 y.0 ≡ Less =
          ap (λ (p : K × X). cmp y.0 p.0) (sym same ∙ sym is) ∙ above_y e has in
          absurd (never_both mirrored y.0 y.0 below below)
      later_x e has same (inr there) = there

  module _ {IsRow : K → X → Type 0} {row : K → X → Row}
      (one : (a b : K × X) → IsRow a.0 a.1 → IsRow b.0 b.1 → row a.0 a.1 ≡ row b.0 b.1 → a ≡ b) where
    -- an entry of the one list has its row in the other, so it is there
    is_there : (meant : List Row) (xs ys : List (K × X)) → HoldsTable cmp IsRow row xs meant
        → HoldsTable cmp IsRow row ys meant → (e : K × X) → Has xs e → Has ys e
    is_there meant xs ys holds_x holds_y e has =
        let f = λ (p : K × X). Null ∷ row p.0 p.1 in
        let both : IsPermutation (map f xs) (map f ys) =
        IsPermutation-trans _ meant _ (IsPermutation-sym _ _ holds_x.same) holds_y.same in
        let stored : Has (map f ys) (f e) =
        has_contained (map f ys) (f e)
        (Contains-permutation (map f xs) (map f ys) (f e) both
        (contains_had (map f xs) (f e) (mapped_has f xs e has))) in
        let it = has_mapped f ys (f e) stored in
        let same : row e.0 e.1 ≡ row it.0.0 it.0.1 = let whole = it.2 in cc in
        let is : e ≡ it.0 = one e it.0 (all_has (λ (p : K × X). IsRow p.0 p.1) xs e holds_x.forms has)
        (all_has (λ (p : K × X). IsRow p.0 p.1) ys it.0 holds_y.forms it.1) same in
        subst (Has ys) (sym is) it.1

    one_table : (meant : List Row) (xs ys : List (K × X)) → HoldsTable cmp IsRow row xs meant
        → HoldsTable cmp IsRow row ys meant → xs ≡ ys
    one_table meant xs ys a b = one_list xs ys a.rises b.rises (is_there meant xs ys a b) (is_there meant ys xs b a)

-- ---- the stored forms of values

same_features : (f g : Features) → features_sum f ≡ features_sum g → f ≡ g
same_features f g is = sym (set_of_sum f (features_sum g) is) ∙ set_of_sum g (features_sum g) refl

some_same : {V : Type 0} {x y : V} → ◌≡◌ {A = Option V} (Some x) (Some y) → x ≡ y
some_same is = cc

pub same_day : (a b : ℕ) → IsDay a → IsDay b → day_text a ≡ day_text b → a ≡ b
same_day a b is_a is_b texts =
    let small = parts_small a is_a in
    let parts = only_parts (day_text a) (year_of a) (month_of a) (month_day_of a) small.0 small.1 small.2
    (sym (day_text-is a)) in
    let both : ◌≡◌ {A = Option (ℕ × ℕ × ℕ)} (Some (year_of a, month_of a, month_day_of a))
    (Some (year_of b, month_of b, month_day_of b)) =
    parts_of_text (day_text a) (Some (year_of a, month_of a, month_day_of a)) b parts is_b (sym texts) in
    let same = some_same both in
    let year : year_of a ≡ year_of b = ap (λ (t : ℕ × ℕ × ℕ). t.0) same in
    let month : month_of a ≡ month_of b = ap (λ (t : ℕ × ℕ × ℕ). t.1) same in
    let day : month_day_of a ≡ month_day_of b = ap (λ (t : ℕ × ℕ × ℕ). t.2) same in
    let number : pos a ≡ pos b = sym (number_of_civil a is_a) ∙ rw (year, month, day) (number_of_civil b is_b) in
    cc

same_flag : (a b : Bool) → ◌≡◌ {A = ℕ} (if a then 1 else 0) (if b then 1 else 0) → a ≡ b
same_flag true true is = refl
same_flag false false is = refl
same_flag true false is = absurd cc
same_flag false true is = absurd cc

subject_from : ℕ → List ℕ → ℕ → ℕ → Subject
subject_from kind target needs extra =
    if kind == 1 then subject.Hall target else
    (if kind == 2 then subject.Clash target else subject.Arrangement
    (record { needs = summed_features needs; extra = extra }))

subject_is : (s : Subject) → subject_from (kind_number s) (target_of s) (needs_of s) (extra_of s) ≡ s
unfolding subject_from
subject_is (subject.Hall hall) = refl
subject_is (subject.Clash paper) = refl
subject_is (subject.Arrangement wanted) =
    λ i. subject.Arrangement
    (record { needs = set_of_sum wanted.needs (features_sum wanted.needs) refl i; extra = wanted.extra })

same_subject : (s t : Subject) → kind_number s ≡ kind_number t → target_of s ≡ target_of t → needs_of s ≡ needs_of t
    → extra_of s ≡ extra_of t → s ≡ t
same_subject s t kind target needs extra =
    sym (subject_is s) ∙ (λ i. subject_from (kind i) (target i) (needs i) (extra i)) ∙ subject_is t

status_from : ℕ → Option (List ℕ) → Status
status_from n None = if n == 1 then status.Pending else status.Retracted
status_from n (Some answer) =
    if n == 2 then status.Granted answer else (if n == 3 then status.Refused answer else status.Superseded answer)

status_is : (s : Status) → status_from (state_number s) (answer_of s) ≡ s
unfolding status_from
status_is status.Pending = refl
status_is (status.Granted answer) = refl
status_is (status.Refused answer) = refl
status_is status.Retracted = refl
status_is (status.Superseded answer) = refl

same_answer : (a b : Option (List ℕ)) → text_or_null a ≡ text_or_null b → a ≡ b
same_answer None None is = refl
same_answer (Some a) (Some b) is = cc
same_answer None (Some b) is = absurd cc
same_answer (Some a) None is = absurd cc

same_status : (s t : Status) → state_number s ≡ state_number t
    → text_or_null (answer_of s) ≡ text_or_null (answer_of t) → s ≡ t
same_status s t state answer =
    sym (status_is s) ∙ (λ i. status_from (state i) (same_answer (answer_of s) (answer_of t) answer i)) ∙ status_is t

-- ---- the rows of the ten tables

-- the rows tell the entries apart, if these have days with texts of their own
abbrev pub Tells : {K X : Type 0} → (K → X → Row) → (K × X → Type 0) → Type 0
Tells {K} {X} row Dated = (a b : K × X) → Dated a → Dated b → row a.0 a.1 ≡ row b.0 b.1 → a ≡ b

abbrev pub any : {K X : Type 0} → K × X → Type 0
any e = Unit {0}

pub session_day : (n : ℕ) → IsSessionDay n → IsDay n
session_day n is = (omega (arith, is.0), is.1)

pub session_tells : Tells session_row (λ e. IsDay e.1.day)
session_tells a b day_a day_b is =
    let code : a.0 ≡ b.0 = cc in
    let text : day_text a.1.day ≡ day_text b.1.day = cc in
    let start : a.1.start ≡ b.1.start = cc in
    let day : a.1.day ≡ b.1.day = same_day a.1.day b.1.day day_a day_b text in
    λ i. (code i, record { day = day i; start = start i })

pub paper_tells : Tells paper_row any
paper_tells a b day_a day_b is =
    let code : a.0 ≡ b.0 = cc in
    let title : a.1.title ≡ b.1.title = cc in
    let session : a.1.session ≡ b.1.session = cc in
    let minutes : a.1.minutes ≡ b.1.minutes = cc in
    let sum : features_sum a.1.required ≡ features_sum b.1.required = cc in
    let required : a.1.required ≡ b.1.required = same_features _ _ sum in
    λ i. (code i, record { title = title i; session = session i; minutes = minutes i; required = required i })

pub hall_tells : Tells hall_row any
hall_tells a b day_a day_b is =
    let code : a.0 ≡ b.0 = cc in
    let title : a.1.title ≡ b.1.title = cc in
    let sum : features_sum a.1.features ≡ features_sum b.1.features = cc in
    let has : a.1.features ≡ b.1.features = same_features _ _ sum in
    λ i. (code i, record { title = title i; features = has i })

pub opening_tells : Tells opening_row any
opening_tells a b day_a day_b is =
    let session : a.0.0 ≡ b.0.0 = cc in
    let hall : a.0.1 ≡ b.0.1 = cc in
    let desks : a.1.desks ≡ b.1.desks = cc in
    let until : a.1.until ≡ b.1.until = cc in
    let kept : ◌≡◌ {A = ℕ} (if a.1.reserved then 1 else 0) (if b.1.reserved then 1 else 0) = cc in
    let reserved : a.1.reserved ≡ b.1.reserved = same_flag _ _ kept in
    λ i. ((session i, hall i), record { desks = desks i; until = until i; reserved = reserved i })

pub candidate_tells : Tells candidate_row any
candidate_tells a b day_a day_b is =
    let number : a.0 ≡ b.0 = cc in
    let name : a.1.name ≡ b.1.name = cc in
    let code : a.1.code ≡ b.1.code = cc in
    λ i. (number i, record { name = name i; code = code i })

pub entry_tells : Tells entry_row any
entry_tells a b day_a day_b is =
    let number : a.0.0 ≡ b.0.0 = cc in
    let paper : a.0.1 ≡ b.0.1 = cc in
    let kept : ◌≡◌ {A = ℕ} (if a.1.live then 1 else 0) (if b.1.live then 1 else 0) = cc in
    let live : a.1.live ≡ b.1.live = same_flag _ _ kept in
    λ i. ((number i, paper i), record { live = live i })

pub arrangement_tells : Tells arrangement_row any
arrangement_tells a b day_a day_b is =
    let number : a.0 ≡ b.0 = cc in
    let sum : features_sum a.1.needs ≡ features_sum b.1.needs = cc in
    let extra : a.1.extra ≡ b.1.extra = cc in
    let needs : a.1.needs ≡ b.1.needs = same_features _ _ sum in
    λ i. (number i, record { needs = needs i; extra = extra i })

pub appeal_tells : Tells appeal_row (λ e. IsDay e.1.lodged)
appeal_tells a b day_a day_b is =
    let number : a.0.0 ≡ b.0.0 = cc in
    let reference : a.0.1 ≡ b.0.1 = cc in
    let session : a.1.session ≡ b.1.session = cc in
    let kind : kind_number a.1.subject ≡ kind_number b.1.subject = cc in
    let target : target_of a.1.subject ≡ target_of b.1.subject = cc in
    let needs : needs_of a.1.subject ≡ needs_of b.1.subject = cc in
    let extra : extra_of a.1.subject ≡ extra_of b.1.subject = cc in
    let reason : a.1.reason ≡ b.1.reason = cc in
    let state : state_number a.1.status ≡ state_number b.1.status = cc in
    let answer : text_or_null (answer_of a.1.status) ≡ text_or_null (answer_of b.1.status) = cc in
    let text : day_text a.1.lodged ≡ day_text b.1.lodged = cc in
    let asked : a.1.subject ≡ b.1.subject = same_subject _ _ kind target needs extra in
    let stands : a.1.status ≡ b.1.status = same_status _ _ state answer in
    let lodged : a.1.lodged ≡ b.1.lodged = same_day _ _ day_a day_b text in
    λ i. (
      (number i, reference i),
      record { session = session i; subject = asked i; reason = reason i; status = stands i; lodged = lodged i },
    )

pub standing_tells : Tells standing_row any
standing_tells a b day_a day_b is =
    let number : a.0.0 ≡ b.0.0 = cc in
    let reference : a.0.1 ≡ b.0.1 = cc in
    λ i. ((number i, reference i), tt)

pub seat_tells : Tells seat_row any
seat_tells a b day_a day_b is =
    let session : a.0.0 ≡ b.0.0 = cc in
    let number : a.0.1 ≡ b.0.1 = cc in
    let hall : a.1 ≡ b.1 = cc in
    λ i. ((session i, number i), hall i)

-- ---- the orders of keys

codes_mirrored : IsMirrored code_cmp
codes_mirrored = nat_list_cmp_total.antisymm

numbers_mirrored : IsMirrored nat_cmp
numbers_mirrored = nat_cmp_total.antisymm

-- ---- the facts and the seats

pub one_facts : (all : Trees) (r s : Relations) → HoldsRelations all r → HoldsRelations all s → r ≡ s
one_facts all r s x y =
    let sessions = one_table codes_mirrored (λ a b x y. session_tells a b (session_day _ x.1) (session_day _ y.1))
    (all 1) _ _ (x table.Sessions) (y table.Sessions) in
    let papers = one_table codes_mirrored (λ a b x y. paper_tells a b tt tt) (all 3) _ _ (x table.Papers)
    (y table.Papers) in
    let halls = one_table codes_mirrored (λ a b x y. hall_tells a b tt tt) (all 5) _ _ (x table.Halls)
    (y table.Halls) in
    let openings = one_table (pairs_mirrored codes_mirrored codes_mirrored) (λ a b x y. opening_tells a b tt tt)
    (all 8) _ _ (x table.Openings) (y table.Openings) in
    let candidates = one_table numbers_mirrored (λ a b x y. candidate_tells a b tt tt) (all 7) _ _ (x table.Candidates)
    (y table.Candidates) in
    let entries = one_table (pairs_mirrored numbers_mirrored codes_mirrored) (λ a b x y. entry_tells a b tt tt)
    (all 10) _ _ (x table.Entries) (y table.Entries) in
    let arrangements = one_table numbers_mirrored (λ a b x y. arrangement_tells a b tt tt) (all 12) _ _
    (x table.Arrangements) (y table.Arrangements) in
    let appeals = one_table (pairs_mirrored numbers_mirrored codes_mirrored) (λ a b x y. appeal_tells a b x.6 y.6)
    (all 13) _ _ (x table.Appeals) (y table.Appeals) in
    let standing = one_table (pairs_mirrored numbers_mirrored codes_mirrored) (λ a b x y. standing_tells a b tt tt)
    (all 17) _ _ (x table.Standing) (y table.Standing) in
    λ i. record {
      sessions = sessions i;
      papers = papers i;
      halls = halls i;
      openings = openings i;
      candidates =
          candidates i;
      entries = entries i;
      arrangements = arrangements i;
      appeals = appeals i;
      standing = standing i;
    }

pub one_seats : (all : Trees) (p q : List ((Code × ℕ) × Code)) → HoldsSeats all p → HoldsSeats all q → p ≡ q
one_seats all p q = one_table (pairs_mirrored codes_mirrored numbers_mirrored) (λ a b x y. seat_tells a b tt tt)
    (all 15) p q
