-- A session that a command does not touch keeps its seating.
use Rattle.exam_laws.proofs.Words.{filter_map, list_all, list_any, keys_of, option_map, option_map_or, is_at, Equal-is}
use Rattle.exam_laws.proofs.Words.{nat_cmp_total, nat_list_cmp_total, nat_cmp, and_from, and_parts}
use Rattle.exam_laws.proofs.Words.{exact_bytes}
use Rattle.exam_laws.proofs.Words.{exact_unsigned, SamePlan, Appeal, Entry, Paper, Session, Status, Subject, KeysRise}
use Rattle.exam_laws.proofs.Words.{Code, Relations, appeal_cmp, code_cmp, entry_cmp, opening_cmp, has_row, put_row}
use Rattle.exam_laws.proofs.Words.{row_at, same_code, arrangement_by, granted_subjects, has_live_entry, is_granted}
use Rattle.exam_laws.proofs.Words.{is_granted_appeal, is_live_entry, is_marked, is_member, is_paper_of, is_standing}
use Rattle.exam_laws.proofs.Words.{session_day, standing_grant, standing_grants, fits, opened_room, plan_of, seating}
use Rattle.exam_laws.proofs.Words.{suits_opened, same_code_exact, same_code_itself, appeals_exact, openings_exact}
use Rattle.exam_laws.proofs.Words.{put_found, put_passed_over, Command, Decision, Outcome, Reply, Row, appeal_at}
use Rattle.exam_laws.proofs.Words.{bears_mark, decided, is_grant, is_open, superseded, first_refusal, rows_refusal}
use Rattle.exam_laws.proofs.Words.{with_live, with_rows, without_opening, decision_refusal, gives_way}
use Rattle.exam_laws.proofs.Words.{giving_way}
use Rattle.exam_laws.proofs.Words.{with_decision, with_outcome, with_superseded, early_refusal}
use Rattle.exam_laws.proofs.Words.{facts_made, IsGood, marks_were_granted, refers, IsInOrder, State, SameSeating, Step}
use Rattle.exam_laws.proofs.Words.{StepTo, change, ends_standing, grant_reaches, touches, neither, there}
use Rattle.std.proofs.Common.{◌≡◌, ℕ, ◌==◌, ◌&&◌, ◌||◌, not, Bool, true, false, cond, List, [], ◌∷◌, map, filter}
use Rattle.std.proofs.Common.{inl, inr, arith, true≢false, nat_eq, Option, None, Some, Ok, is_some, refl, ap, sym}
use Rattle.std.proofs.Common.{subst, ◌∙◌}
use Rattle.std.proofs.lemmas.Bool.{and_left, and_right, cond_both, eqb-true, false_from_ne_true, or_cases, or_parts}
use Rattle.exam_types.specs.declared.refusal.Refusal.TheVariants as refusal
use Rattle.exam_rules.specs.declared.rows.Status.TheVariants as status
use Rattle.exam_rules.specs.Sessions.{barred_halls, granted_arrangement}
use Rattle.exam_rules.specs.Seatings.{sitting_terms}
use Rattle.exam_laws.proofs.Reaching.{untouched_is_unreached, untouched_is_unset}
use Rattle.exam_rules.specs.Tables as table
use Rattle.exam_rules.proofs.Relisting.{entries_exact, put_filtered}
use Rattle.exam_commands.proofs.KeyedRows.{key_apart, openings_total, put_by, put_elsewhere, put_keys}
use Rattle.exam_commands.proofs.KeyedRows.{removed_elsewhere}
use Rattle.exam_commands.specs.declared.command.Command.TheVariants as command
use Rattle.exam_commands.specs.declared.command.Outcome.TheVariants as outcome
use Rattle.exam_commands.specs.declared.import_row.Row.TheVariants as row
use Rattle.exam_commands.specs.Appeals.{supersedes}
use Rattle.exam_commands.specs.Changes.{no_hall, not_opened, row_checks, with_row}
use Rattle.exam_commands.specs.Decisions.{is_earlier, with_mark, without_mark}
use Rattle.exam_commands.specs.Lodgings as lodgings
use Rattle.exam_commands.specs.Touched.{decision_reaches, has_standing_member, is_ended}
use Rattle.exam_commands.specs.Touched.{is_of_sessions, is_set_by, names, reaches, row_reaches, sets_session, stands_in}
use Rattle.exam_commands.proofs.Alike.{SpeakAlike, alike_itself, alike_seating}
use Rattle.exam_laws.proofs.Appealing.{fits_same, never_marked, not_granted, put_seating_same, seating_by, with_appeals}
use Rattle.exam_laws.proofs.Appealing.{with_decisions}
use Rattle.exam_laws.proofs.ByCase.{after_decision, was_open}
use Rattle.exam_laws.proofs.AppealSteps.{lodging_settled, retraction_settled}
use Rattle.exam_commands.proofs.Borne.{unmarked_same}
use Rattle.exam_laws.proofs.DecidedFacts.{given_keyed, others_standing_grants, unmarked_open}
use Rattle.exam_laws.proofs.Accepted.{change_made}
use Rattle.exam_laws.proofs.Lasting.{new_facts}
use Rattle.exam_commands.proofs.PutRows.{mapped_filtered}
use Rattle.exam_commands.proofs.Referring.{Grows, appeals_row, grows_both, grows_none, grows_row, parted, standing_row}
use Rattle.exam_commands.proofs.Superseding.{superseded_ungranted}
use Rattle.exam_commands.proofs.Entering.{rows_with_by, table_in_order}

-- ---- rows at other keys

-- what is not beside something true does not hold
only_first : (x y : Bool) → y ≡ true → (x && y) ≡ false → x ≡ false
only_first x y on off = grind arith

-- the new number does not pass the filter
numbers_filtered : {X : Type 0} (p : ℕ → Bool) (rows : List (ℕ × X)) (c : ℕ) (x : X) → p c ≡ false
    → filter p (keys_of (put_row nat_cmp rows c x)) ≡ filter p (keys_of rows)
numbers_filtered p rows c x out =
    put_by nat_cmp c x (λ es fs. filter p (keys_of fs) ≡ filter p (keys_of es))
    (λ es is. ap (λ b. cond b (c ∷ filter p (keys_of es)) (filter p (keys_of es))) out)
    (λ e es is. refl)
    (λ e es is rest. ap (λ ns. cond (p e.0) (e.0 ∷ ns) ns) rest)
    rows

-- a code that does not name the session is another
other_code : (s t : Code) → same_code t s ≡ false → s ≡ t → ⊥
other_code s t away same = true≢false (sym (same_code_itself s) ∙ ap (λ z. same_code z s) same ∙ away)

-- a session that is there but not named is another
unnamed : (r : Relations) (s named : Code) → has_row code_cmp r.sessions named ≡ true → names r named s ≡ false
    → same_code named s ≡ false
unnamed r s named known out =
    false_from_ne_true (same_code named s) (λ same. true≢false (sym (and_from (same_code named s) _ same
    (ap (has_row code_cmp r.sessions) (sym (same_code_exact named s same)) ∙ known)) ∙ out))

-- ---- who has a live entry is a candidate

module _ (r : Relations)
    (good : list_all (λ (x : (ℕ × Code) × Entry). has_row nat_cmp r.candidates x.0.0
    && has_row code_cmp r.papers x.0.1) r.entries ≡ true) (s : Code) where
  entered_among : (c : ℕ) (es : List ((ℕ × Code) × Entry))
      → list_all (λ (x : (ℕ × Code) × Entry). has_row nat_cmp r.candidates x.0.0 && has_row code_cmp r.papers x.0.1) es
      ≡ true
      → list_any (is_live_entry r s c) es ≡ true → has_row nat_cmp r.candidates c ≡ true
  entered_among c [] every some = absurd cc
  entered_among c (e ∷ es) every some =
      let both = and_parts (has_row nat_cmp r.candidates e.0.0 && has_row code_cmp r.papers e.0.1)
      (list_all (λ (x : (ℕ × Code) × Entry). has_row nat_cmp r.candidates x.0.0 && has_row code_cmp r.papers x.0.1)
      es) every in
      elim (or_cases (is_live_entry r s c e) (list_any (is_live_entry r s c) es) some) [
        | inl is ↦ ap (has_row nat_cmp r.candidates)
            (sym (eqb-true e.0.0 c (and_parts (nat_eq e.0.0 c) (e.1.live && is_paper_of r s e.0.1) is).0))
            ∙ (and_parts (has_row nat_cmp r.candidates e.0.0) (has_row code_cmp r.papers e.0.1) both.0).0
        | inr later ↦ entered_among c es both.1 later
      ]

  entered_known : (c : ℕ) → has_live_entry r s c ≡ true → has_row nat_cmp r.candidates c ≡ true
  entered_known c some = entered_among c r.entries good some

-- a member of a session without standing grants has none
none_standing : (r : Relations) (s : Code) (c : ℕ) → is_member r s c ≡ true → (rows : List ((ℕ × Code) × Appeal))
    → list_any (stands_in r s) rows ≡ false → filter (is_standing r c) rows ≡ []
none_standing r s c member [] none = refl
none_standing r s c member (a ∷ rows) none =
    let parts = or_parts (stands_in r s a) (list_any (stands_in r s) rows) none in
    ap (λ b. cond b (a ∷ filter (is_standing r c) rows) (filter (is_standing r c) rows))
    (inner (nat_eq a.0.0 c) refl (is_granted a.1.status && is_marked r a.0) parts.0)
    ∙ none_standing r s c member rows parts.1
  where
    inner : (own : Bool) → nat_eq a.0.0 c ≡ own → (b : Bool) → (b && is_member r s a.0.0) ≡ false → (own && b) ≡ false
    inner true mine b out = only_first b (is_member r s a.0.0) (ap (is_member r s) (eqb-true a.0.0 c mine) ∙ member) out
    inner false mine b out = refl

-- ---- imports

module _ (r0 : Relations) (refer : refers r0 ≡ true) (s : Code) where
  -- after some rows that do not touch the session
  record IsSpared (r : Relations) : Type 0 where
    alike : SpeakAlike r0 r s
    grows : Grows r0 r
    rising : KeysRise nat_cmp r.candidates
    appeals : r.appeals ≡ r0.appeals
    standing : r.standing ≡ r0.standing

  known : (c : ℕ) → has_live_entry r0 s c ≡ true → has_row nat_cmp r0.candidates c ≡ true
  known = entered_known r0 (parted r0 refer table.Entries) s

  spared_row : (r : Relations) → IsSpared r → (x : Row) → sets_session s x ≡ false → row_reaches r0 x s ≡ false
      → first_refusal (row_checks r0 x) ≡ None → SpeakAlike r0 (with_row r x) s
  spared_row r so (row.OfSession named x) unset away ok = record {
    session = session_same;
    papers = so.alike.papers;
    paper_rows = so.alike.paper_rows;
    entries = so.alike.entries;
    openings = so.alike.openings;
    halls = so.alike.halls;
    candidates = so.alike.candidates;
    in_force = λ c entered.
        ap (λ day. arrangement_by (granted_arrangement r s c) day
        (standing_grants (with_row r (row.OfSession named x)) c) (row_at nat_cmp r.arrangements c))
        (ap (option_map (λ (y : Session). y.day)) kept)
        ∙ ap (λ grants. arrangement_by (granted_arrangement r s c) (session_day r s) grants
        (row_at nat_cmp r.arrangements c)) (none_stands c entered)
        ∙ so.alike.in_force c entered;
    granted = so.alike.granted;
  }
    where
      kept : row_at code_cmp (put_row code_cmp r.sessions named x) s ≡ row_at code_cmp r.sessions s
      kept = put_elsewhere code_cmp nat_list_cmp_total r.sessions named s x
          (key_apart code_cmp exact_bytes s named (other_code s named unset))

      session_same : row_at code_cmp (put_row code_cmp r.sessions named x) s ≡ row_at code_cmp r0.sessions s
      session_same = kept ∙ so.alike.session

      -- no member has a standing grant, so no other date counts
      none_stands : (c : ℕ) → has_live_entry r0 s c ≡ true
          → standing_grants (with_row r (row.OfSession named x)) c ≡ standing_grants r c
      none_stands c entered =
          let member : is_member r0 s c ≡ true = ap (λ b. b && has_live_entry r0 s c) (known c entered) ∙ entered in
          let none : filter (is_standing r c) r.appeals ≡ [] =
          ap (λ (rows : List ((ℕ × Code) × Appeal)). filter (is_standing r c) rows) so.appeals
          ∙ ap (λ (marks : List ((ℕ × Code) × Unit {0})). filter
          (λ (a : (ℕ × Code) × Appeal). (a.0.0 == c) && (is_granted a.1.status && has_row appeal_cmp marks a.0))
          r0.appeals) so.standing
          ∙ none_standing r0 s c member r0.appeals away in
          ap (filter_map (λ (a : (ℕ × Code) × Appeal). standing_grant (with_row r (row.OfSession named x)) a.1)) none
          ∙ sym (ap (filter_map (λ (a : (ℕ × Code) × Appeal). standing_grant r a.1)) none)
  spared_row r so (row.OfPaper p x) unset away ok = record {
    session = so.alike.session;
    papers = λ q. papers q (is_at (code_cmp q) p) refl;
    paper_rows = λ q of. put_elsewhere code_cmp nat_list_cmp_total r.papers p q x
        (key_apart code_cmp exact_bytes q p (other q of)) ∙ so.alike.paper_rows q of;
    entries = so.alike.entries;
    openings = so.alike.openings;
    halls = so.alike.halls;
    candidates = so.alike.candidates;
    in_force = so.alike.in_force;
    granted = so.alike.granted;
  }
    where
      parts : (is_paper_of r0 s p ≡ false) × (names r0 x.session s ≡ false)
      parts = or_parts (is_paper_of r0 s p) (names r0 x.session s) away

      other : (q : Code) → is_paper_of r0 s q ≡ true → q ≡ p → ⊥
      other q of same = true≢false (sym of ∙ ap (is_paper_of r0 s) same ∙ parts.0)

      -- the new session is there, and is another
      moved : same_code x.session s ≡ false
      moved = unnamed r0 s x.session (there (has_row code_cmp r0.sessions x.session) refusal.UnknownSession [] ok)
          parts.1

      papers : (q : Code) (b : Bool) → is_at (code_cmp q) p ≡ b
          → option_map_or (λ (paper : Paper). same_code paper.session s)
          (row_at code_cmp (put_row code_cmp r.papers p x) q) false ≡ is_paper_of r0 s q
      papers q true at =
          let same : q ≡ p = exact_bytes q p ((Equal-is (code_cmp q p)).0 at) in
          ap (λ z. option_map_or (λ (paper : Paper). same_code paper.session s)
          (row_at code_cmp (put_row code_cmp r.papers p x) z) false) same
          ∙ ap (λ (o : Option Paper). option_map_or (λ (paper : Paper). same_code paper.session s) o false)
          (put_found code_cmp nat_list_cmp_total r.papers p x) ∙ moved ∙ sym parts.0
          ∙ ap (is_paper_of r0 s) (sym same)
      papers q false at = ap
          (λ (o : Option Paper). option_map_or (λ (paper : Paper). same_code paper.session s) o false)
          (put_elsewhere code_cmp nat_list_cmp_total r.papers p q x at) ∙ so.alike.papers q
  spared_row r so (row.OfHall h x) unset away ok = record {
    session = so.alike.session;
    papers = so.alike.papers;
    paper_rows = so.alike.paper_rows;
    entries = so.alike.entries;
    openings = so.alike.openings;
    halls = λ k opened. put_elsewhere code_cmp nat_list_cmp_total r.halls h k x
        (key_apart code_cmp exact_bytes k h
        (λ same. true≢false (sym opened ∙ ap (λ z. has_row opening_cmp r0.openings (s, z)) same ∙ away)))
        ∙ so.alike.halls k opened;
    candidates = so.alike.candidates;
    in_force = so.alike.in_force;
    granted = so.alike.granted;
  }
  spared_row r so (row.OfOpening named h x) unset away ok = record {
    session = so.alike.session;
    papers = so.alike.papers;
    paper_rows = so.alike.paper_rows;
    entries = so.alike.entries;
    openings = λ k. put_elsewhere opening_cmp openings_total r.openings (named, h) (s, k) x
        (key_apart opening_cmp openings_exact (s, k) (named, h) (λ same. other (ap (λ (z : Code × Code). z.0) same)))
        ∙ so.alike.openings k;
    halls = so.alike.halls;
    candidates = so.alike.candidates;
    in_force = so.alike.in_force;
    granted = so.alike.granted;
  }
    where
      other : s ≡ named → ⊥
      other = other_code s named (unnamed r0 s named
          (there (has_row code_cmp r0.sessions named) refusal.UnknownSession (no_hall r0 h ∷ []) ok) away)
  spared_row r so (row.OfCandidate c x) unset away ok = record {
    session = so.alike.session;
    papers = so.alike.papers;
    paper_rows = so.alike.paper_rows;
    entries = so.alike.entries;
    openings = so.alike.openings;
    halls = so.alike.halls;
    candidates = candidates (has_live_entry r0 s c) refl ∙ so.alike.candidates;
    in_force = so.alike.in_force;
    granted = so.alike.granted;
  }
    where
      candidates : (b : Bool) → has_live_entry r0 s c ≡ b
          → filter (has_live_entry r0 s) (keys_of (put_row nat_cmp r.candidates c x))
          ≡ filter (has_live_entry r0 s) (keys_of r.candidates)
      candidates true entered =
          let stored = there_at (row_at nat_cmp r.candidates c) (so.grows.candidates c (known c entered)) in
          ap (filter (has_live_entry r0 s))
          (put_keys nat_cmp nat_cmp_total r.candidates c x stored.0 so.rising stored.1)
        where
          there_at : {A : Type 0} (o : Option A) → is_some o ≡ true → (a : A) × (o ≡ Some a)
          there_at (Some a) some = (a, refl)
          there_at None some = absurd cc
      candidates false out = numbers_filtered (has_live_entry r0 s) r.candidates c x out
  spared_row r so (row.OfEntry c p) unset away ok = record {
    session = so.alike.session;
    papers = so.alike.papers;
    paper_rows = so.alike.paper_rows;
    entries =
        rows_with_by table.Entries r.entries (c, p) (record { live = true })
        (λ es. of_session es ≡ of_session r.entries) refl
        (put_filtered entry_cmp entries_exact (λ (e : (ℕ × Code) × Entry). is_paper_of r0 s e.0.1) r.entries (c, p)
        (record { live = true }) (λ w. away)) ∙ so.alike.entries;
    openings = so.alike.openings;
    halls = so.alike.halls;
    candidates = so.alike.candidates;
    in_force = so.alike.in_force;
    granted = so.alike.granted;
  }
    where
      of_session : List ((ℕ × Code) × Entry) → List ((ℕ × Code) × Entry)
      of_session es = filter (λ (e : (ℕ × Code) × Entry). is_paper_of r0 s e.0.1) es
  spared_row r so (row.OfArrangement c x) unset away ok = record {
    session = so.alike.session;
    papers = so.alike.papers;
    paper_rows = so.alike.paper_rows;
    entries = so.alike.entries;
    openings = so.alike.openings;
    halls = so.alike.halls;
    candidates = so.alike.candidates;
    in_force = λ d entered.
        ap (arrangement_by (granted_arrangement r s d) (session_day r s) (standing_grants r d))
        (put_elsewhere nat_cmp nat_cmp_total r.arrangements c d x
        (key_apart nat_cmp exact_unsigned d c (other d entered)))
        ∙ so.alike.in_force d entered;
    granted = so.alike.granted;
  }
    where
      other : (d : ℕ) → has_live_entry r0 s d ≡ true → d ≡ c → ⊥
      other d entered same =
          let member : is_member r0 s d ≡ true = ap (λ b. b && has_live_entry r0 s d) (known d entered) ∙ entered in
          true≢false (sym member ∙ ap (is_member r0 s) same ∙ away)

  spared_rows : (r : Relations) → IsSpared r → (rows : List Row) → list_any (sets_session s) rows ≡ false
      → list_any (λ (x : Row). row_reaches r0 x s) rows ≡ false → rows_refusal r0 rows ≡ None
      → SpeakAlike r0 (with_rows r rows) s
  spared_rows r so [] unset away ok = so.alike
  spared_rows r so (x ∷ rows) unset away ok =
      let others = or_parts (sets_session s x) (list_any (sets_session s) rows) unset in
      let apart = or_parts (row_reaches r0 x s) (list_any (λ (x : Row). row_reaches r0 x s) rows) away in
      let checked = neither (first_refusal (row_checks r0 x)) (rows_refusal r0 rows) ok in
      let next : IsSpared (with_row r x) = record {
        alike = spared_row r so x others.0 apart.0 checked.0;
        grows = grows_both r0 r (with_row r x) so.grows (grows_row r x);
        rising = table_in_order r x table.Candidates so.rising;
        appeals = appeals_row r x ∙ so.appeals;
        standing = standing_row r x ∙ so.standing;
      } in
      spared_rows (with_row r x) next rows others.1 apart.1 checked.1

  pub import_spares : KeysRise nat_cmp r0.candidates → (rows : List Row) → list_any (sets_session s) rows ≡ false
      → list_any (λ (x : Row). row_reaches r0 x s) rows ≡ false → rows_refusal r0 rows ≡ None
      → SpeakAlike r0 (with_rows r0 rows) s
  import_spares up rows unset away ok =
      spared_rows r0 (record
      { alike = alike_itself r0 s; grows = grows_none r0; rising = up; appeals = refl; standing = refl }) rows unset
      away ok

-- ---- entries and openings

pub live_spares : (r : Relations) (c : ℕ) (p : Code) (live : Bool) (s : Code) → is_paper_of r s p ≡ false
    → SpeakAlike r (with_live r c p live) s
live_spares r c p live s away = record {
  session = refl;
  papers = λ q. refl;
  paper_rows = λ q of. refl;
  entries = put_filtered entry_cmp entries_exact (λ (e : (ℕ × Code) × Entry). is_paper_of r s e.0.1) r.entries (c, p)
      (record { live = live }) (λ w. away);
  openings = λ h. refl;
  halls = λ h opened. refl;
  candidates = refl;
  in_force = λ d entered. refl;
  granted = λ d. refl;
}

pub closing_spares : (r : Relations) (named h s : Code) → same_code named s ≡ false
    → SpeakAlike r (without_opening r named h) s
closing_spares r named h s away = record {
  session = refl;
  papers = λ q. refl;
  paper_rows = λ q of. refl;
  entries = refl;
  openings = λ k. removed_elsewhere opening_cmp openings_exact r.openings (named, h) (s, k)
      (key_apart opening_cmp openings_exact (s, k) (named, h)
      (λ same. other_code s named away (ap (λ (z : Code × Code). z.0) same)));
  halls = λ k opened. refl;
  candidates = refl;
  in_force = λ d entered. refl;
  granted = λ d. refl;
}

-- ---- decisions

open_ungranted : (st : Status) → is_open st ≡ true → is_granted st ≡ false
open_ungranted st open_yet = grind arith

module _ (c : ℕ) (own s : Code) (asked : Subject) (away : same_code own s ≡ false) where
  abbrev given : (ℕ × Code) × Appeal → (ℕ × Code) × Appeal
  given row = giving_way c own asked row

  -- an appeal for the session is not superseded
  kept : (n : ℕ) (row : (ℕ × Code) × Appeal) → is_granted_appeal s n row ≡ true → given row ≡ row
  kept n row is =
      ap (λ b. cond b (row.0, record row.1 { status = superseded row.1.status }) row)
      (and_right (nat_eq row.0.0 c) _ (and_left _ (supersedes asked row.1.subject) other))
    where
      here : same_code row.1.session s ≡ true
      here = (and_parts (same_code row.1.session s) (is_granted row.1.status)
          (and_parts (nat_eq row.0.0 n) (same_code row.1.session s && is_granted row.1.status) is).1).0

      other : same_code row.1.session own ≡ false
      other = false_from_ne_true (same_code row.1.session own)
          (λ same. true≢false (sym here ∙ ap (λ z. same_code z s) (same_code_exact row.1.session own same) ∙ away))

  out : (n : ℕ) (row : (ℕ × Code) × Appeal) → is_granted_appeal s n row ≡ false
      → is_granted_appeal s n (given row) ≡ false
  out n row is =
      cond_both (gives_way c own asked row) _ row (λ x. is_granted_appeal s n x ≡ false)
      (λ e. ap (λ g. nat_eq row.0.0 n && (same_code row.1.session s && g)) (superseded_ungranted row.1.status)
      ∙ not_granted (nat_eq row.0.0 n) (same_code row.1.session s)) (λ e. is)

  given_for : (row : (ℕ × Code) × Appeal) → (given row).1.session ≡ row.1.session
  given_for row = grind arith

  -- what is stored at the key is for the same session
  still_for : (rows : List ((ℕ × Code) × Appeal)) (k : ℕ × Code) (a b : Appeal) → row_at appeal_cmp rows k ≡ Some a
      → row_at appeal_cmp (map given rows) k ≡ Some b → b.session ≡ a.session
  still_for [] k a b at then = absurd cc
  still_for (row ∷ rows) k a b at then =
      inner (is_at (appeal_cmp k) row.0) at
      (ap (λ q. cond (is_at (appeal_cmp k) q) (Some (given row).1) (row_at appeal_cmp (map given rows) k))
      (sym (given_keyed c own asked row)) ∙ then) (still_for rows k a b)
    where
      inner : (here : Bool) → cond here (Some row.1) (row_at appeal_cmp rows k) ≡ Some a
          → cond here (Some (given row).1) (row_at appeal_cmp (map given rows) k) ≡ Some b
          → (row_at appeal_cmp rows k ≡ Some a → row_at appeal_cmp (map given rows) k ≡ Some b → b.session ≡ a.session)
          → b.session ≡ a.session
      inner true was is rest =
          let old : row.1 ≡ a = cc in
          let new : (given row).1 ≡ b = cc in
          ap (λ (x : Appeal). x.session) (sym new) ∙ given_for row ∙ ap (λ (x : Appeal). x.session) old
      inner false was is rest = rest was is

  -- a grant for another session leaves what was granted for this one
  grant_spares : (r : Relations) (k : ℕ × Code) (a v : Appeal) → row_at appeal_cmp r.appeals k ≡ Some a
      → a.session ≡ own → v.session ≡ own
      → (n : ℕ) → granted_subjects (put_row appeal_cmp (map given r.appeals) k v) s n ≡ granted_subjects r.appeals s n
  grant_spares r k a v at mine new n =
      ap (map (λ (x : (ℕ × Code) × Appeal). x.1.subject))
      (put_passed_over appeal_cmp appeals_exact (is_granted_appeal s n) (map given r.appeals) k v
      (elsewhere v (ap (λ z. same_code z s) new ∙ away))
      (λ b then. elsewhere b (ap (λ z. same_code z s) (still_for r.appeals k a b at then ∙ mine) ∙ away))
      ∙ mapped_filtered (is_granted_appeal s n) given (kept n) (out n) r.appeals)
    where
      elsewhere : (x : Appeal) → same_code x.session s ≡ false → is_granted_appeal s n (k, x) ≡ false
      elsewhere x other = and_right (nat_eq k.0 n) _ (and_left _ (is_granted x.status) other)

-- if no standing grant of another appeal is superseded, none is, since the appeal itself bears no mark
module _ (r : Relations) (d : Decision) (a : Appeal) (unmarked_own : is_marked r (d.number, d.reference) ≡ false) where
  no_other : (row : (ℕ × Code) × Appeal) → is_ended r d a row ≡ false
      → (is_earlier d.number a.session a.subject row && is_marked r row.0) ≡ false
  no_other row = by (same_code row.0.1 d.reference) refl
    where
      of_own : (b : Bool) → nat_eq row.0.0 d.number ≡ b → row.0.1 ≡ d.reference
          → (((b && (same_code row.1.session a.session && supersedes a.subject row.1.subject))
          && is_granted row.1.status) && is_marked r row.0) ≡ false
      of_own true mine same =
          and_right ((same_code row.1.session a.session && supersedes a.subject row.1.subject)
          && is_granted row.1.status) _
          (ap (λ (n : ℕ). is_marked r (n, row.0.1)) (eqb-true row.0.0 d.number mine)
          ∙ ap (λ (t : Code). is_marked r (d.number, t)) same ∙ unmarked_own)
      of_own false other same = refl

      by : (b : Bool) → same_code row.0.1 d.reference ≡ b
          → ((is_earlier d.number a.session a.subject row && is_marked r row.0) && not b) ≡ false
          → (is_earlier d.number a.session a.subject row && is_marked r row.0) ≡ false
      by true same is = of_own (nat_eq row.0.0 d.number) refl (same_code_exact row.0.1 d.reference same)
      by false other is = only_first (is_earlier d.number a.session a.subject row && is_marked r row.0) true refl is

  none_ended : (rows : List ((ℕ × Code) × Appeal)) → list_any (is_ended r d a) rows ≡ false
      → list_any (λ (e : (ℕ × Code) × Appeal). is_earlier d.number a.session a.subject e && is_marked r e.0) rows
      ≡ false
  none_ended [] none = refl
  none_ended (row ∷ rows) none =
      let parts = or_parts (is_ended r d a row) (list_any (is_ended r d a) rows) none in
      ap (λ b. b || list_any
      (λ (e : (ℕ × Code) × Appeal). is_earlier d.number a.session a.subject e && is_marked r e.0) rows)
      (no_other row parts.0) ∙ none_ended rows parts.1

-- if no standing grant is superseded, the appellant's are the same
module _ (r : Relations) (c : ℕ) (own : Code) (asked : Subject) where
  still_standing : (rows : List ((ℕ × Code) × Appeal))
      → list_any (λ (e : (ℕ × Code) × Appeal). is_earlier c own asked e && is_marked r e.0) rows ≡ false
      → filter (is_standing r c) (map (giving_way c own asked) rows) ≡ filter (is_standing r c) rows
  still_standing [] none = refl
  still_standing (row ∷ rows) none =
      let parts = or_parts (is_earlier c own asked row && is_marked r row.0)
      (list_any (λ (e : (ℕ × Code) × Appeal). is_earlier c own asked e && is_marked r e.0) rows) none in
      inner (gives_way c own asked row) refl parts.0 (still_standing rows parts.1)
    where
      Stays : (ℕ × Code) × Appeal → Type 0
      Stays changed = (cond (is_standing r c changed)
          (changed ∷ filter (is_standing r c) (map (giving_way c own asked) rows))
          (filter (is_standing r c) (map (giving_way c own asked) rows)))
          ≡ cond (is_standing r c row) (row ∷ filter (is_standing r c) rows) (filter (is_standing r c) rows)

      superseded_row : (ℕ × Code) × Appeal
      superseded_row = (row.0, record row.1 { status = superseded row.1.status })

      unmarked : (mine granted marked : Bool) → ((true && granted) && marked) ≡ false
          → (mine && (granted && marked)) ≡ false
      unmarked mine granted marked off = and_right mine (granted && marked) off

      inner : (b : Bool) → gives_way c own asked row ≡ b → ((b && is_granted row.1.status) && is_marked r row.0) ≡ false
          → filter (is_standing r c) (map (giving_way c own asked) rows) ≡ filter (is_standing r c) rows
          → Stays (cond b superseded_row row)
      inner true gives off rest =
          ap (λ b. cond b (superseded_row ∷ filter (is_standing r c) (map (giving_way c own asked) rows))
          (filter (is_standing r c) (map (giving_way c own asked) rows)))
          (ap (λ g. nat_eq row.0.0 c && (g && is_marked r row.0)) (superseded_ungranted row.1.status)
          ∙ never_marked (nat_eq row.0.0 c) (is_marked r row.0))
          ∙ rest
          ∙ sym (ap (λ b. cond b (row ∷ filter (is_standing r c) rows) (filter (is_standing r c) rows))
          (unmarked (nat_eq row.0.0 c) (is_granted row.1.status) (is_marked r row.0) off))
      inner false stays off rest = ap (λ t. cond (is_standing r c row) (row ∷ t) t) rest

-- nobody without a live entry fits anywhere
unentered_fits : (r : Relations) (s : Code) (c : ℕ) (h : Code) → has_live_entry r s c ≡ false → fits r s c h ≡ false
unentered_fits r s c h out =
    ap (λ b. b && (suits_opened (sitting_terms r s c) (opened_room r s h)
    && not (list_any (same_code h) (barred_halls r s c)))) out

module _ (r : Relations) (refer : refers r ≡ true) (stand : marks_were_granted r ≡ true) (d : Decision) (s : Code)
    (a : Appeal) (at : appeal_at r d.number d.reference ≡ Some a) (open_yet : is_open a.status ≡ true) where
  abbrev key : ℕ × Code
  key = (d.number, d.reference)

  abbrev given_rows : List ((ℕ × Code) × Appeal)
  given_rows = map (giving_way d.number a.session a.subject) r.appeals

  abbrev granted_row : Appeal
  granted_row = record a { status = status.Granted d.answer }

  unmarked : is_marked r key ≡ false
  unmarked = unmarked_open r d a stand at open_yet

  own_standing : ends_standing r d a ≡ false
      → standing_grants (with_decisions r (put_row appeal_cmp given_rows key granted_row) r.standing) d.number
      ≡ standing_grants r d.number
  own_standing none =
      ap (filter_map (λ (x : (ℕ × Code) × Appeal). standing_grant r x.1))
      (put_passed_over appeal_cmp appeals_exact (is_standing r d.number) given_rows key granted_row (never true)
      (λ b then. never (is_granted b.status))
      ∙ still_standing r d.number a.session a.subject r.appeals (none_ended r d a unmarked r.appeals none))
    where
      never : (g : Bool) → (nat_eq d.number d.number && (g && is_marked r key)) ≡ false
      never g = ap (λ m. nat_eq d.number d.number && (g && m)) unmarked ∙ not_granted (nat_eq d.number d.number) g

  -- a grant, which sets or ends a standing one or neither, leaves the seating of a session that it does not touch
  grant_seating : (o : Outcome) → d.outcome ≡ o → is_grant o ≡ true → grant_reaches r d a s ≡ false
      → SameSeating (seating r s)
      (seating (with_decisions r (put_row appeal_cmp given_rows key granted_row) (with_mark d r.standing)) s)
  grant_seating o is grants untouched =
      seating_by r (put_row appeal_cmp given_rows key granted_row) (with_mark d r.standing) s
      (λ n h. by_number n h (nat_eq d.number n) refl)
    where
      parts : (same_code a.session s ≡ false)
          × (((bears_mark d.outcome || ends_standing r d a) && is_member r s d.number) ≡ false)
      parts = or_parts (same_code a.session s)
          ((bears_mark d.outcome || ends_standing r d a) && is_member r s d.number) untouched

      t : Relations
      t = with_decisions r (put_row appeal_cmp given_rows key granted_row) (with_mark d r.standing)

      granted_same : (n : ℕ)
          → granted_subjects (put_row appeal_cmp given_rows key granted_row) s n ≡ granted_subjects r.appeals s n
      granted_same n = grant_spares d.number a.session s a.subject parts.0 r key a granted_row at refl refl n

      made_is : with_outcome r d a ≡ t
      made_is =
          ap (λ (u : Outcome). with_decisions r
          (put_row appeal_cmp (with_superseded d.number a u r.appeals) key
          (record a { status = decided u d.answer })) (with_mark d r.standing)) is
          ∙ by_outcome o grants
        where
          by_outcome : (u : Outcome) → is_grant u ≡ true
              → with_decisions r (put_row appeal_cmp (with_superseded d.number a u r.appeals) key
              (record a { status = decided u d.answer })) (with_mark d r.standing)
              ≡ with_decisions r (put_row appeal_cmp given_rows key granted_row) (with_mark d r.standing)
          by_outcome outcome.Refuse granting = absurd cc
          by_outcome _ granting = refl

      -- the appellant, if they are a member
      of_member : (h : Code) → has_live_entry r s d.number ≡ true → fits t s d.number h ≡ fits r s d.number h
      of_member h entered =
          let member : is_member r s d.number ≡ true =
          ap (λ b. b && has_live_entry r s d.number)
          (entered_known r (parted r refer table.Entries) s d.number entered) ∙ entered in
          let none = or_parts (bears_mark d.outcome) (ends_standing r d a)
          (only_first (bears_mark d.outcome || ends_standing r d a) (is_member r s d.number) member parts.1) in
          fits_same r (put_row appeal_cmp given_rows key granted_row) (with_mark d r.standing) s d.number
          (granted_same d.number)
          (ap (λ b. standing_grants
          (with_decisions r (put_row appeal_cmp given_rows key granted_row)
          (cond b (put_row appeal_cmp r.standing key tt) (without_mark key r.standing))) d.number) none.0
          ∙ ap (λ marks. standing_grants
          (with_decisions r (put_row appeal_cmp given_rows key granted_row) marks) d.number)
          (unmarked_same r.standing key unmarked)
          ∙ own_standing none.1) h

      of_appellant : (h : Code) (b : Bool) → has_live_entry r s d.number ≡ b → fits t s d.number h ≡ fits r s d.number h
      of_appellant h true entered = of_member h entered
      of_appellant h false out = unentered_fits t s d.number h out ∙ sym (unentered_fits r s d.number h out)

      by_number : (n : ℕ) (h : Code) (b : Bool) → nat_eq d.number n ≡ b → fits t s n h ≡ fits r s n h
      by_number n h true mine =
          subst (λ m. fits t s m h ≡ fits r s m h) (eqb-true d.number n mine)
          (of_appellant h (has_live_entry r s d.number) refl)
      by_number n h false other =
          fits_same r (put_row appeal_cmp given_rows key granted_row) (with_mark d r.standing) s n (granted_same n)
          (ap (λ u. standing_grants u n) (sym made_is) ∙ others_standing_grants r d a n other) h

  outcome_spares : (o : Outcome) → d.outcome ≡ o → (is_grant o && grant_reaches r d a s) ≡ false
      → SameSeating (seating r s) (seating (with_outcome r d a) s)
  outcome_spares outcome.Refuse is away =
      subst (λ (u : Relations). SameSeating (seating r s) (seating u s)) (sym made_as)
      (put_seating_same r key (record a { status = status.Refused d.answer }) refl
      (λ b there_is. let same : a ≡ b = cc in
      ap (λ (x : Appeal). is_granted x.status) (sym same) ∙ open_ungranted a.status open_yet) s)
    where
      made_as : with_outcome r d a
          ≡ with_appeals r (put_row appeal_cmp r.appeals key (record a { status = status.Refused d.answer }))
      made_as = ap (λ (u : Outcome). with_decisions r
          (put_row appeal_cmp (with_superseded d.number a u r.appeals) key (record a { status = decided u d.answer }))
          (cond (bears_mark u) (put_row appeal_cmp r.standing key tt) (without_mark key r.standing))) is
          ∙ ap (with_decisions r (put_row appeal_cmp r.appeals key (record a { status = status.Refused d.answer })))
          (unmarked_same r.standing key unmarked)
  outcome_spares o is away =
      subst (λ (u : Relations). SameSeating (seating r s) (seating u s))
      (sym (ap (λ (u : Outcome). with_decisions r
      (put_row appeal_cmp (with_superseded d.number a u r.appeals) key (record a { status = decided u d.answer }))
      (with_mark d r.standing)) is)) (grant_seating o is refl away)

module _ (r : Relations) (refer : refers r ≡ true) (stand : marks_were_granted r ≡ true) (today : ℕ) (d : Decision)
    (s : Code) where
  pub decision_spares : decision_refusal r today d ≡ None → decision_reaches r d s ≡ false
      → SameSeating (seating r s) (seating (with_decision r d) s)
  decision_spares ok away =
      let same : SameSeating (seating r s) (seating r s) =
      record { members = refl; fits = λ c h. refl; desks = λ h. refl } in
      after_decision r (λ t. SameSeating (seating r s) (seating t s)) today d ok (λ a at made. same)
      (λ a at passed. outcome_spares r refer stand d s a at (was_open r today d a passed) d.outcome refl
      (ap (λ o. is_grant d.outcome && option_map_or (λ (x : Appeal). grant_reaches r d x s) o false) (sym at) ∙ away))

-- ---- any command

module _ (before : State) (good : IsGood before) (up : IsInOrder before) (today : ℕ) (s : Code) where
  made_spares : (done : Command) → early_refusal done today before ≡ None → is_set_by done s ≡ false
      → reaches before.relations done s ≡ false
      → SameSeating (seating before.relations s) (seating (facts_made done today before) s)
  made_spares (command.Import import) ok unset away =
      let r = before.relations in
      alike_seating r (with_rows r import.rows) s
      (import_spares r good.refer s (up.tables table.Candidates) import.rows unset
      (or_parts (list_any (λ (x : Row). row_reaches r x s) import.rows)
      (is_of_sessions import.kind && has_standing_member r s) away).0 ok)
  made_spares (command.Withdraw c p) ok unset away =
      let r = before.relations in
      alike_seating r (with_live r c p false) s (live_spares r c p false s away)
  made_spares (command.Reinstate c p) ok unset away =
      let r = before.relations in
      alike_seating r (with_live r c p true) s (live_spares r c p true s away)
  made_spares (command.CloseHall named h) ok unset away =
      let r = before.relations in
      let known : has_row code_cmp r.sessions named ≡ true =
      there (has_row code_cmp r.sessions named) refusal.UnknownSession (no_hall r h ∷ not_opened r named h ∷ []) ok in
      alike_seating r (without_opening r named h) s
      (closing_spares r named h s (unnamed r s named known away))
  made_spares (command.Lodge l) ok unset away =
      (lodging_settled before good today l (lodgings.with_lodging before.relations today l) ok refl).seated s
  made_spares (command.Retract c reference) ok unset away =
      (retraction_settled before good c reference (lodgings.with_retraction before.relations c reference) up.tables
      ok refl).seated s
  made_spares (command.Decide d) ok unset away =
      decision_spares before.relations good.refer good.marks today d s ok away

  pub spared : (done : Command) (t : Relations) → change done today before ≡ Ok t
      → touches before.relations done s ≡ false → SameSeating (seating before.relations s) (seating t s)
  spared done t is away =
      let made = change_made done today before t is in
      subst (λ u. SameSeating (seating before.relations s) (seating u s)) (sym made.0)
      (made_spares done made.1 (untouched_is_unset before.relations good.refer s done away)
      (untouched_is_unreached before.relations good.refer s done away))

  -- and its plan
  pub untouched_stays : (done : Command) (after : State) (reply : Reply) → Step done today before (Ok reply) after
      → touches before.relations done s ≡ false
      → SameSeating (seating before.relations s) (seating after.relations s)
      × SamePlan (plan_of after.seats s) (plan_of before.seats s)
  untouched_stays done after reply step away =
      let changed = new_facts done today before reply after step in
      let same = spared done after.relations changed away in
      let to : StepTo done before (Ok reply) after (Ok after.relations) =
      subst (StepTo done before (Ok reply) after) changed step in
      (same, (to.1 s).untouched same)
