-- Good facts stay good after a lodging and after a retraction, and everybody keeps their seat.
use Rattle.exam_laws.proofs.Words.{list_all, list_any, filter_map, keys_of, option_and_then, option_map_or, option_or}
use Rattle.exam_laws.proofs.Words.{nat_cmp, fun_ext, and_parts, and_from, not-false, Refusal, IsBest, Appeal, Paper}
use Rattle.exam_laws.proofs.Words.{Session, Status, Subject, AreInOrder, Code, Relations, appeal_cmp, code_cmp, has_row}
use Rattle.exam_laws.proofs.Words.{put_row, row_at, same_code, appeal_count, asked_arrangement, has_live_entry}
use Rattle.exam_laws.proofs.Words.{is_granted, is_live_paper, is_member, is_paper_of, fits, opened_room, plan_of}
use Rattle.exam_laws.proofs.Words.{seating, suits_opened, same_code_exact, all_at_row, appeals_exact, appeals_total}
use Rattle.exam_laws.proofs.Words.{Lodging, appeal_at, is_open, is_retracted, first_refusal, IsGood, appeal_refers}
use Rattle.exam_laws.proofs.Words.{marks_were_granted, refers, most_appeals, within_limits, sessions_within}
use Rattle.exam_laws.proofs.Words.{papers_within, halls_within, openings_within, candidates_within, members_within}
use Rattle.exam_laws.proofs.Words.{AreSingle, SingleKey, same_single_key, single_key, State, SameSeating, unborne}
use Rattle.exam_laws.proofs.Words.{passed, there}
use Rattle.std.proofs.Common.{◌≡◌, ℕ, ◌==◌, ◌&&◌, not, Bool, true, false, cond, [], ◌∷◌, ◌++◌, length, nat_le, Option}
use Rattle.std.proofs.Common.{None, Some, is_some, is_none, IsSome, IfSome, IsTrue, arith, refl, ap, sym, subst, ◌∙◌}
use Rattle.exam_types.specs.declared.refusal.Refusal.TheVariants as refusal
use Rattle.exam_plan.specs.Matching.{Keeps}
use Rattle.exam_rules.specs.declared.fit.Room.{Room}
use Rattle.exam_rules.specs.declared.fit.Terms.{Terms}
use Rattle.exam_rules.specs.declared.rows.Status.TheVariants as status
use Rattle.exam_rules.specs.declared.rows.Subject.TheVariants as subject
use Rattle.exam_rules.specs.Sessions.{barred_halls, clash_papers, is_live, sitting}
use Rattle.exam_rules.specs.Seatings.{sitting_terms}
use Rattle.exam_rules.specs.Tables as table
use Rattle.exam_commands.proofs.KeyedRows.{all_put, count_replaced}
use Rattle.exam_commands.specs.Appeals.{has_open_appeal}
use Rattle.exam_commands.specs.Good.{may_bear, subject_refers}
use Rattle.exam_commands.specs.Lodgings as spec
use Rattle.exam_laws.proofs.Appealing.{apart_from_all, open_as, open_key, put_seating_same, single_flips, with_appeals}
use Rattle.exam_laws.proofs.ByCase.{after_lodging, after_retraction}
use Rattle.exam_commands.proofs.Borne.{closed_unborne, put_borne}
use Rattle.exam_laws.proofs.Commanding.{ArePlansRepaired, DoListsRise}
use Rattle.exam_commands.proofs.LodgingChecks.{both_passed}
use Rattle.exam_commands.proofs.PutRows.{IsApartFrom, put_distinct}
use Rattle.exam_commands.proofs.Referring.{appeals_refer_so, stored_refer}
use Rattle.exam_commands.proofs.Staying.{best_stays}
use Rattle.exam_laws.proofs.Stepping.{same_seating}

one_value : (x y : SingleKey) → Some x ≡ Some y → x ≡ y
one_value x y is = cc

-- good facts stay good, and every session has the seating that it had
pub record IsSettled (r t : Relations) : Type 0 where
  pub refer : refers t ≡ true
  pub single : AreSingle t
  pub marks : marks_were_granted t ≡ true
  pub seated : (s : Code) → SameSeating (seating r s) (seating t s)

same_relations : (before : State) → IsGood before → IsSettled before.relations before.relations
same_relations before good = record {
  refer = good.refer;
  single = good.single;
  marks = good.marks;
  seated = λ s. record { members = refl; fits = λ c h. refl; desks = λ h. refl };
}

-- everybody keeps their place
module _ (before after : State) (good : IsGood before) (t : Relations)
    (same : (s : Code) → SameSeating (seating before.relations s) (seating t s)) where
  pub all_stay : DoListsRise t → ArePlansRepaired t before after → (N : ℕ → Type 0) (s : Code)
      → Keeps N (seating t s) (plan_of before.seats s) (plan_of after.seats s)
  all_stay up plans N s =
      let best : IsBest (seating t s) (plan_of before.seats s) =
      subst (λ g. IsBest g (plan_of before.seats s)) (same_seating before.relations t s (same s)) (good.best s) in
      λ c some member other. subst (λ (o : Option Code). IsSome o)
      (sym (best_stays t s (up s) None (plan_of before.seats s) (plan_of after.seats s) best (plans s).repair c))
      some

-- ---- what a lodging names is there

known_first : {X Y : Type 0} (f : X → Option Y) (o : Option X) → is_some (option_and_then f o) ≡ true → is_some o ≡ true
known_first f o at = grind arith

suits_some : (t : Option Terms) (o : Option Room) → suits_opened t o ≡ true → is_some o ≡ true
suits_some t o at = grind arith

paper_known : (r : Relations) (s : Code) (c : ℕ) (p : Code) → is_live_paper r s c p ≡ true
    → has_row code_cmp r.papers p ≡ true
paper_known r s c p at = inner (row_at code_cmp r.papers p) (and_parts (is_live r c p) (is_paper_of r s p) at).1
  where
    inner : (o : Option Paper) → option_map_or (λ (paper : Paper). same_code paper.session s) o false ≡ true
        → is_some o ≡ true
    inner o here = grind arith

module _ (before : State) (good : IsGood before) (today : ℕ) (l : Lodging) where
  hall_known : (h : Code) → option_map_or (same_code h) (plan_of before.seats l.session l.number) false ≡ true
      → has_row code_cmp before.relations.halls h ≡ true
  hall_known h at = inner (plan_of before.seats l.session l.number) refl at
    where
      inner : (o : Option Code) → plan_of before.seats l.session l.number ≡ o
          → option_map_or (same_code h) o false ≡ true → has_row code_cmp before.relations.halls h ≡ true
      inner None is here = absurd cc
      inner (Some k) is here =
          let r = before.relations in
          let s = l.session in
          let c = l.number in
          let barred = not (list_any (same_code k) (barred_halls r s c)) in
          let fitting : fits r s c k ≡ true =
          subst (λ (o : Option Code). IfSome o (λ k. IsTrue (fits r s c k))) is ((good.best s).lawful.fitting c) in
          let suits = and_parts (suits_opened (sitting_terms r s c) (opened_room r s k)) barred
          (and_parts (has_live_entry r s c)
          (suits_opened (sitting_terms r s c) (opened_room r s k) && barred) fitting).1 in
          let room : is_some (opened_room r s k) ≡ true =
          suits_some (sitting_terms r s c) (opened_room r s k) suits.0 in
          ap (λ q. has_row code_cmp r.halls q) (same_code_exact h k here)
          ∙ known_first _ (row_at code_cmp r.halls k) room

  subject_known : (asked : Subject)
      → first_refusal (spec.subject_checks before.relations before.seats l.session l.number asked) ≡ None
      → subject_refers before.relations asked ≡ true
  subject_known (subject.Hall h) ok =
      hall_known h (there (option_map_or (same_code h) (plan_of before.seats l.session l.number) false)
      refusal.NotSeatedThere [] ok)
  subject_known (subject.Clash p) ok =
      let r = before.relations in
      let sits : Bool × Refusal =
      (option_map_or (same_code p) (sitting r l.session l.number) false, refusal.NothingToChange) in
      let live : Bool × Refusal = (not (is_live_paper r l.session l.number p), refusal.NoEntry) in
      paper_known r l.session l.number p
      (there (is_live_paper r l.session l.number p) refusal.NoEntry (sits ∷ [])
      (passed (length (clash_papers r l.session l.number) == 0) refusal.NoClash (live ∷ sits ∷ []) ok).1)
  subject_known (subject.Arrangement a) ok = refl

  session_known : (o : Option Session) → (spec.closing_check l.subject today o).0 ≡ false → is_some o ≡ true
  session_known o past = grind arith

  record IsSound : Type 0 where
    candidate : has_row nat_cmp before.relations.candidates l.number ≡ true
    session : has_row code_cmp before.relations.sessions l.session ≡ true
    subject : subject_refers before.relations l.subject ≡ true
    alone : has_open_appeal before.relations l.number l.session l.subject ≡ false

  abbrev stored : Option Appeal
  stored = appeal_at before.relations l.number l.reference

  abbrev made : Appeal
  made = record { session = l.session; subject = l.subject; reason = l.reason; status = status.Pending; lodged = today }

  -- none of the checks fails
  abbrev pub IsChecked : Type 0
  IsChecked = spec.lodging_refusal_but_limits before.relations before.seats today l ≡ None

  sound : IsChecked → stored ≡ None → IsSound
  sound ok none =
      let r = before.relations in
      let asked = spec.subject_checks r before.seats l.session l.number l.subject in
      let first = passed (not (has_row nat_cmp r.candidates l.number)) refusal.UnknownCandidate
      (spec.lodging_checks r before.seats today l stored) ok in
      let checks : first_refusal (spec.lodging_checks r before.seats today l None) ≡ None =
      ap (λ o. first_refusal (spec.lodging_checks r before.seats today l o)) (sym none) ∙ first.1 in
      let member = passed (not (is_member r l.session l.number)) refusal.NotInSession
      (spec.past_closing r l.session l.subject today ∷ asked ++ spec.appeal_is_open r l ∷ []) checks in
      let day = passed (spec.past_closing r l.session l.subject today).0
      (spec.past_closing r l.session l.subject today).1 (asked ++ spec.appeal_is_open r l ∷ []) member.1 in
      let both = both_passed asked (spec.appeal_is_open r l ∷ []) day.1 in
      record {
        candidate = not-false (has_row nat_cmp r.candidates l.number) first.0;
        session = session_known (row_at code_cmp r.sessions l.session) day.0;
        subject = subject_known l.subject both.0;
        alone = (passed (has_open_appeal r l.number l.session l.subject) refusal.AppealStands [] both.1).0;
      }

  new_facts : stored ≡ None → spec.with_lodging before.relations today l ≡ spec.with_appeal before.relations today l
  new_facts none = ap (λ o. cond (is_none o) (spec.with_appeal before.relations today l) before.relations) none

  same_facts : (a : Appeal) → stored ≡ Some a → spec.with_lodging before.relations today l ≡ before.relations
  same_facts a at = ap (λ o. cond (is_none o) (spec.with_appeal before.relations today l) before.relations) at

  new_settled : IsSound → stored ≡ None → IsSettled before.relations (spec.with_appeal before.relations today l)
  new_settled s none =
      let r = before.relations in
      let k : ℕ × Code = (l.number, l.reference) in
      record {
        refer = appeals_refer_so r (put_row appeal_cmp r.appeals k made) good.refer
            (all_put appeal_cmp appeals_exact
            (λ x. has_row nat_cmp r.candidates x.0.0 && appeal_refers r x.1) r.appeals k made
            (stored_refer r good.refer)
            (and_from (has_row nat_cmp r.candidates l.number) (appeal_refers r made) s.candidate
            (and_from (has_row code_cmp r.sessions l.session) (subject_refers r l.subject) s.session s.subject)));
        single = put_distinct appeal_cmp appeals_exact single_key same_single_key single_flips r.appeals k made
            (λ x is. subst (λ y. IsApartFrom same_single_key y (filter_map single_key r.appeals))
            (one_value (l.session, l.number, open_as l.subject) x (sym (open_key k made refl) ∙ is))
            (apart_from_all l.session l.number l.subject r.appeals s.alone)) good.single;
        marks = put_borne r.appeals k made r.standing
            (unborne r.appeals r.standing k good.marks (ap (λ o. option_map_or may_bear o false) none)) good.marks;
        seated = put_seating_same r k made refl (λ b at. absurd cc);
      }

  pub lodging_settled : (t : Relations) → IsChecked → t ≡ spec.with_lodging before.relations today l
      → IsSettled before.relations t
  lodging_settled t ok is =
      subst (IsSettled before.relations) (sym is)
      (after_lodging before.relations (IsSettled before.relations) today l (λ none. new_settled (sound ok none) none)
      (λ a at. same_relations before good))

  -- ---- the limits

  pub limit_refusal : IsChecked → (b : Bool) → (spec.one_too_many before.relations today l).0 ≡ b
      → spec.lodging_refusal before.relations before.seats today l ≡ cond b (Some refusal.TooMany) None
  limit_refusal ok b e =
      ap (λ o. option_or o (first_refusal (spec.one_too_many before.relations today l ∷ []))) ok
      ∙ ap (λ x. cond x (Some refusal.TooMany) None) e

  pub within_as : (b : Bool) → within_limits (spec.with_lodging before.relations today l) ≡ b
      → (spec.one_too_many before.relations today l).0 ≡ not b
  within_as b within = inner stored refl b within
    where
      inner : (o : Option Appeal) → stored ≡ o → (b : Bool)
          → within_limits (spec.with_lodging before.relations today l) ≡ b
          → (is_none stored && not (within_limits (spec.with_appeal before.relations today l))) ≡ not b
      inner None none b within =
          ap (λ o. is_none o && not (within_limits (spec.with_appeal before.relations today l))) none
          ∙ ap not (sym (ap within_limits (new_facts none)) ∙ within)
      inner (Some a) at b within =
          ap (λ o. is_none o && not (within_limits (spec.with_appeal before.relations today l))) at
          ∙ ap not (sym good.limits ∙ sym (ap within_limits (same_facts a at)) ∙ within)

-- ---- a retraction

count_same : (r : Relations) (k : ℕ × Code) (a b : Appeal) → AreInOrder r → row_at appeal_cmp r.appeals k ≡ Some b
    → within_limits (with_appeals r (put_row appeal_cmp r.appeals k a)) ≡ within_limits r
count_same r k a b up at =
    let counts : appeal_count (with_appeals r (put_row appeal_cmp r.appeals k a)) ≡ appeal_count r =
    fun_ext (λ c. count_replaced appeal_cmp appeals_total
    (λ (key : ℕ × Code). key.0 == c) r.appeals k a b (up table.Appeals) at) in
    ap (λ (count : ℕ → ℕ). sessions_within r
    && (papers_within r &&
    (halls_within r && (openings_within r
    && (candidates_within r
    && (members_within r && list_all (λ c. nat_le (count c) most_appeals) (keys_of r.candidates))))))) counts

pub closed_granted : (st : Status) → (not (is_open st) && not (is_retracted st)) ≡ false → is_granted st ≡ false
closed_granted st ok = grind arith

module _ (before : State) (good : IsGood before) (c : ℕ) (reference : Code) where
  abbrev there_is : Option Appeal
  there_is = appeal_at before.relations c reference

  abbrev pub IsRetractable : Type 0
  IsRetractable = spec.retraction_refusal before.relations c reference ≡ None

  pub record IsSettledWithin (t : Relations) : Type 0 where
    pub settled : IsSettled before.relations t
    pub within : within_limits t ≡ true

  put_settled : AreInOrder before.relations → (a : Appeal) → there_is ≡ Some a
      → is_open a.status ≡ true
      → IsSettledWithin (spec.with_retracted_appeal before.relations c reference a)
  put_settled up a at open_yet =
      let r = before.relations in
      let k : ℕ × Code = (c, reference) in
      let closed : (not (is_open a.status) && not (is_retracted a.status)) ≡ false =
      ap (λ b. not b && not (is_retracted a.status)) open_yet in
      let new : Appeal = record a { status = status.Retracted } in
      let known : (has_row nat_cmp r.candidates c && appeal_refers r a) ≡ true =
      all_at_row appeal_cmp appeals_exact
      (λ x. has_row nat_cmp r.candidates x.0.0 && appeal_refers r x.1) r.appeals k a
      (stored_refer r good.refer) at in
      record {
        settled = record {
          refer = appeals_refer_so r (put_row appeal_cmp r.appeals k new) good.refer
              (all_put appeal_cmp appeals_exact
              (λ x. has_row nat_cmp r.candidates x.0.0 && appeal_refers r x.1) r.appeals k new
              (stored_refer r good.refer) known);
          single = put_distinct appeal_cmp appeals_exact single_key same_single_key single_flips r.appeals k new
              (λ x is. absurd cc)
              good.single;
          marks = put_borne r.appeals k new r.standing
              (unborne r.appeals r.standing k good.marks
              (ap (λ o. option_map_or may_bear o false) at
              ∙ closed_unborne a.status (is_some (asked_arrangement a.subject)) closed)) good.marks;
          seated = put_seating_same r k new refl
              (λ b is. let same : a ≡ b = cc in
              ap (λ (x : Appeal). is_granted x.status) (sym same) ∙ closed_granted a.status closed);
        };
        within = count_same r k new a up at ∙ good.limits;
      }

  pub retraction_within : AreInOrder before.relations → IsRetractable
      → IsSettledWithin (spec.with_retraction before.relations c reference)
  retraction_within up ok =
      after_retraction before.relations IsSettledWithin c reference ok
      (λ a at was. record { settled = same_relations before good; within = good.limits }) (put_settled up)

  abbrev pub IsWithout : Relations → Type 0
  IsWithout t = t ≡ spec.with_retraction before.relations c reference

  pub retraction_settled : (t : Relations) → AreInOrder before.relations → IsRetractable → IsWithout t
      → IsSettled before.relations t
  retraction_settled t up ok is = subst (IsSettled before.relations) (sym is) (retraction_within up ok).settled
