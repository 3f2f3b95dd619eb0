-- The candidate's own rows and the day decide what a lodging is answered.
use Rattle.exam_laws.proofs.Words.{list_all, list_any, keys_of, option_and_then, option_map, option_map_or, option_or}
use Rattle.exam_laws.proofs.Words.{nat_cmp, fun_ext, length-map, exact_unsigned_eq, Refusal, Appeal, Candidate, Session}
use Rattle.exam_laws.proofs.Words.{Subject, Code, Relations, appeal_cmp, code_cmp, has_row, is_row_of, row_at}
use Rattle.exam_laws.proofs.Words.{same_code, appeal_count, has_live_entry, is_member, appeals_exact, appeals_total}
use Rattle.exam_laws.proofs.Words.{put_found, put_passed_over, Lodging, Reply, appeal_at, stored_state, first_refusal}
use Rattle.exam_laws.proofs.Words.{unless, IsGood, most_appeals, within_limits, appeals_within, sessions_within}
use Rattle.exam_laws.proofs.Words.{papers_within, halls_within, openings_within, candidates_within, members_within}
use Rattle.exam_laws.proofs.Words.{IsInOrder, OwnRows, OwnSessionRow, own_of, own_rows, own_sessions, State, Step}
use Rattle.exam_laws.proofs.Words.{StepTo}
use Rattle.std.proofs.Common.{◌≡◌, ℕ, suc, ◌-◌, ◌==◌, ◌&&◌, not, Bool, true, false, cond, List, [], ◌∷◌, ◌++◌, filter}
use Rattle.std.proofs.Common.{length, map, nat_eq, nat_le, nat_lt, Option, None, Some, Result, Ok, IsSome, is_none}
use Rattle.std.proofs.Common.{is_some, eq-eqb, refl, ap, sym, ◌∙◌}
use Rattle.exam_types.specs.declared.refusal.Refusal.TheVariants as refusal
use Rattle.exam_rules.specs.declared.rows.Subject.TheVariants as subject
use Rattle.std.proofs.lemmas.Bool.{false_from_ne_true, true≢false}
use Rattle.exam_rules.specs.Sessions.{clash_papers, finish, live_papers}
use Rattle.exam_rules.specs.Sessions.{sitting}
use Rattle.exam_rules.proofs.Sitters.{known_listed}
use Rattle.exam_rules.specs.Tables as table
use Rattle.exam_commands.proofs.KeyedRows.{one_more}
use Rattle.exam_commands.specs.declared.command.AppealState.{AppealState}
use Rattle.exam_commands.specs.declared.command.AppealState.TheVariants as state
use Rattle.exam_commands.specs.declared.command.Command.TheVariants as command
use Rattle.exam_commands.specs.declared.command.Reply.TheVariants as reply
use Rattle.exam_commands.specs.Appeals.{notice_days, state_of}
use Rattle.exam_commands.specs.Lodgings as spec
use Rattle.exam_commands.specs.Own.{own_session, session_row}
use Rattle.exam_commands.specs.SameRows.{same_arrangement}
use Rattle.exam_commands.proofs.Members.{member_ends, member_sits}
use Rattle.exam_laws.proofs.OwnFacts.{all_but_one, appeal_found, is_own_open, live_found, open_found, own_among}
use Rattle.exam_laws.proofs.OwnFacts.{pair_of, pairs_own, session_at, session_found}
use Rattle.exam_laws.proofs.OwnRetracting.{answer_or, same_appeal}

-- ---- the refusal by what is shown

abbrev subject_shown : OwnSessionRow → Subject → List (Bool × Refusal)
subject_shown own (subject.Hall h) = (not (option_map_or (same_code h) own.hall false), refusal.NotSeatedThere) ∷ []
subject_shown own (subject.Clash p) =
    (length own.clashes == 0, refusal.NoClash) ∷ (not (list_any (same_code p) own.papers), refusal.NoEntry)
    ∷ (same_code p own.sitting, refusal.NothingToChange) ∷ []
subject_shown own (subject.Arrangement a) = (same_arrangement a own.arrangement, refusal.NothingToChange) ∷ []

abbrev limit_check : Bool → Option Refusal
limit_check within = first_refusal ((not within, refusal.TooMany) ∷ [])

-- the refusal of a new appeal in a session held on a day, by the checks on what it asks for, by whether one of its kind
-- is open, and by the limits
abbrev held_refusal : Lodging → ℕ → ℕ → List (Bool × Refusal) → Bool → Bool → Option Refusal
held_refusal l today held asked stands within =
    option_or (first_refusal
    ((nat_lt (held - notice_days l.subject) today, refusal.PastClosing (held - notice_days l.subject))
    ∷ asked ++ (stands, refusal.AppealStands) ∷ [])) (limit_check within)

abbrev new_shown : Lodging → ℕ → List (Code × Appeal) → Option OwnSessionRow → Option Refusal
new_shown l today appeals None = Some refusal.NotInSession
new_shown l today appeals (Some own) =
    held_refusal l today own.day (subject_shown own l.subject) (list_any (is_own_open l.session l.subject) appeals)
    (nat_le (suc (length appeals)) most_appeals)

abbrev known_shown : Lodging → ℕ → OwnRows → Option Appeal → Option Refusal
known_shown l today own None = new_shown l today (map pair_of own.appeals) (session_at l.session own.sessions)
known_shown l today own (Some a) = option_or (first_refusal (spec.other_appeal l a ∷ [])) None

abbrev refusal_shown : Lodging → ℕ → Option OwnRows → Option Refusal
refusal_shown l today None = Some refusal.UnknownCandidate
refusal_shown l today (Some own) = known_shown l today own (row_at code_cmp (map pair_of own.appeals) l.reference)

-- ---- the limits

number_flips : (n m : ℕ) → nat_eq n m ≡ false → nat_eq m n ≡ false
number_flips n m other =
    false_from_ne_true (nat_eq m n) (λ is. true≢false (sym (eq-eqb n m (sym (exact_unsigned_eq m n is))) ∙ other))

-- beside what holds, only the last counts
beside : (a x y q : Bool) → (a && x) ≡ true → (x ≡ true → y ≡ q) → (a && y) ≡ q
beside true x y q both last = last both
beside false x y q both last = absurd cc

module _ (r : Relations) (today : ℕ) (l : Lodging) (none : appeal_at r l.number l.reference ≡ None) where
  abbrev more : Relations
  more = spec.with_appeal r today l

  abbrev is_below : Bool
  is_below = nat_le (suc (length (own_among l.number r.appeals))) most_appeals

  pub own_more : appeal_count more l.number ≡ suc (length (own_among l.number r.appeals))
  own_more =
      one_more appeal_cmp (λ (k : ℕ × Code). nat_eq k.0 l.number) r.appeals (l.number, l.reference) _
      (eq-eqb l.number l.number refl) none
      ∙ ap (λ n. suc n) (sym
      (length-map (filter (is_row_of l.number) r.appeals) (λ (a : (ℕ × Code) × Appeal). (a.0.1, a.1))))

  counted : (d : ℕ) (b : Bool) → nat_eq d l.number ≡ b
      → nat_le (appeal_count more d) most_appeals ≡ cond b is_below (nat_le (appeal_count r d) most_appeals)
  counted d true own =
      ap (λ n. nat_le (appeal_count more n) most_appeals) (exact_unsigned_eq d l.number own)
      ∙ ap (λ n. nat_le n most_appeals) own_more
  counted d false other =
      ap (λ (rows : List ((ℕ × Code) × Appeal)). nat_le (length rows) most_appeals)
      (put_passed_over appeal_cmp appeals_exact (is_row_of d) r.appeals (l.number, l.reference) _
      (number_flips d l.number other)
      (λ b at. absurd cc))

  pub within_told : within_limits r ≡ true → has_row nat_cmp r.candidates l.number ≡ true
      → within_limits more ≡ is_below
  within_told within there =
      beside (sessions_within r) _ _ is_below within (λ papers.
      beside (papers_within r) _ _ is_below papers (λ halls.
      beside (halls_within r) _ _ is_below halls (λ openings.
      beside (openings_within r) _ _ is_below openings (λ candidates.
      beside (candidates_within r) _ _ is_below candidates (λ members.
      beside (members_within r) (appeals_within r) (appeals_within more) is_below members (λ appeals.
      ap (λ (p : ℕ → Bool). list_all p (keys_of r.candidates)) (fun_ext (λ d. counted d (nat_eq d l.number) refl))
      ∙ all_but_one (λ d. nat_le (appeal_count r d) most_appeals) is_below l.number r.candidates appeals
      ∙ ap (λ b. cond b is_below true) there))))))

-- ---- the session

module _ (office : State) (c : ℕ) where
  session_named : (held : Code × Session) (own : OwnSessionRow) → own_session office c held ≡ Some own
      → own.session ≡ held.0
  session_named held own = inner (sitting office.relations held.0 c) (finish office.relations held.0 c)
    where
      inner : (o : Option Code) (n : Option ℕ)
          → option_and_then (λ paper. option_map (session_row office c held paper) n) o ≡ Some own
          → own.session ≡ held.0
      inner (Some p) (Some n) is = let same : session_row office c held p n ≡ own =
          cc in ap (λ (x : OwnSessionRow). x.session) (sym same)
      inner _ _ is = absurd cc

  -- what a member sees of the session
  pub record IsSeen (s : Code) (x : Session) : Type 0 where
    pub paper : Code
    pub end : ℕ
    pub sits : sitting office.relations s c ≡ Some paper
    pub made : own_session office c (s, x) ≡ Some (session_row office c (s, x) paper end)

  pub member_sees : (s : Code) (x : Session) → has_row nat_cmp office.relations.candidates c ≡ true
      → has_row code_cmp office.relations.sessions s ≡ true → has_live_entry office.relations s c ≡ true → IsSeen s x
  member_sees s x there held live =
      let r = office.relations in
      let listed = (known_listed r s c (has_row nat_cmp r.candidates c) (has_live_entry r s c) refl there refl).0 live
      in
      inner (sitting r s c) refl (member_sits r s c listed) (finish r s c) refl (member_ends r s c held listed)
    where
      inner : (o : Option Code) → sitting office.relations s c ≡ o → IsSome o → (n : Option ℕ)
          → finish office.relations s c ≡ n → IsSome n → IsSeen s x
      inner (Some p) sits some (Some n) ends ended = record {
        paper = p;
        end = n;
        sits = sits;
        made =
            ap (λ (o : Option Code). option_and_then
            (λ paper. option_map (session_row office c (s, x) paper) (finish office.relations s c)) o) sits
            ∙ ap (λ (m : Option ℕ). option_map (session_row office c (s, x) p) m) ends;
      }
      inner _ sits some _ ends ended = absurd cc

-- ---- the refusal

module _ (office : State) (today : ℕ) (l : Lodging) (good : IsGood office) (up : IsInOrder office) where
  abbrev r : Relations
  r = office.relations

  abbrev s : Code
  s = l.session

  abbrev c : ℕ
  c = l.number

  abbrev within : Bool
  within = within_limits (spec.with_appeal office.relations today l)

  subject_told : (x : Session) (seen : IsSeen office c s x) (asked : Subject)
      → spec.subject_checks r office.seats s c asked
      ≡ subject_shown (session_row office c (s, x) seen.paper seen.end) asked
  subject_told x seen (subject.Hall h) = refl
  subject_told x seen (subject.Clash p) =
      ap (λ (b : Bool). (length (clash_papers r s c) == 0, refusal.NoClash) ∷ (not b, refusal.NoEntry)
      ∷ (option_map_or (same_code p) (sitting r s c) false, refusal.NothingToChange) ∷ [])
      (live_found r s c p r.entries (up.tables table.Entries))
      ∙ ap (λ (o : Option Code). (length (clash_papers r s c) == 0, refusal.NoClash)
      ∷ (not (list_any (same_code p) (live_papers r s c)), refusal.NoEntry)
      ∷ (option_map_or (same_code p) o false, refusal.NothingToChange) ∷ [])
      seen.sits
  subject_told x seen (subject.Arrangement a) = refl

  -- of a new appeal, whether or not the candidate is a member of the session and the session is there
  abbrev new_by : Bool → Option Session → Option Refusal
  new_by member held =
      option_or (first_refusal
      ((not member, refusal.NotInSession) ∷ spec.closing_check l.subject today held
      ∷ spec.subject_checks r office.seats s c l.subject ++ spec.appeal_is_open r l ∷ []))
      (limit_check within)

  abbrev seen_by : Bool → Option Session → Option OwnSessionRow
  seen_by member held = option_and_then (λ (x : Session). cond member (own_session office c (s, x)) None) held

  new_told : has_row nat_cmp r.candidates c ≡ true → appeal_at r c l.reference ≡ None
      → new_by (is_member r s c) (row_at code_cmp r.sessions s)
      ≡ new_shown l today (own_among c r.appeals) (session_at s (own_sessions office c))
  new_told there none =
      inner (is_member r s c) refl (row_at code_cmp r.sessions s) refl
      ∙ ap (new_shown l today (own_among c r.appeals))
      (sym (session_found (λ (t : Code). is_member r t c) (own_session office c)
      (session_named office c) s r.sessions (up.tables table.Sessions)))
    where
      inner : (b : Bool) → is_member r s c ≡ b → (o : Option Session) → row_at code_cmp r.sessions s ≡ o
          → new_by b o ≡ new_shown l today (own_among c r.appeals) (seen_by b o)
      inner true member (Some x) held =
          let live : has_live_entry r s c ≡ true = ap (λ (b : Bool). b && has_live_entry r s c) (sym there) ∙ member in
          let seen = member_sees office c s x there (ap (λ (o : Option Session). is_some o) held) live in
          ap (λ (checks : List (Bool × Refusal)). held_refusal l today x.day checks (spec.appeal_is_open r l).0 within)
          (subject_told x seen l.subject)
          ∙ ap (λ (b : Bool). held_refusal l today x.day
          (subject_shown (session_row office c (s, x) seen.paper seen.end) l.subject) b within)
          (open_found c s l.subject r.appeals)
          ∙ ap (λ (b : Bool). held_refusal l today x.day
          (subject_shown (session_row office c (s, x) seen.paper seen.end) l.subject)
          (list_any (is_own_open s l.subject) (own_among c r.appeals)) b)
          (within_told r today l none good.limits there)
          ∙ ap (new_shown l today (own_among c r.appeals)) (sym seen.made)
      inner true member None held = refl
      inner false member None held = refl
      inner false member (Some x) held = refl

  -- by the candidate's row and by the appeal that is stored under the reference
  abbrev refusal_by : Option Candidate → Option Appeal → Option Refusal
  refusal_by row stored =
      option_or (first_refusal
      ((not (is_some row), refusal.UnknownCandidate) ∷ spec.lodging_checks r office.seats today l stored))
      (first_refusal ((is_none stored && not within, refusal.TooMany) ∷ []))

  pub refusal_told : spec.lodging_refusal office.relations office.seats today l
      ≡ refusal_shown l today (own_of office l.number)
  refusal_told = inner (row_at nat_cmp r.candidates c) refl
    where
      by_stored : (row : Candidate) → row_at nat_cmp r.candidates c ≡ Some row → (o : Option Appeal)
          → appeal_at r c l.reference ≡ o
          → refusal_by (Some row) o ≡ known_shown l today (own_rows office c row) o
      by_stored row there None none =
          new_told (ap (λ (o : Option Candidate). is_some o) there) none
          ∙ ap (λ rows. new_shown l today rows (session_at s (own_sessions office c))) (sym (pairs_own r c))
      by_stored row there (Some a) at = refl

      inner : (o : Option Candidate) → row_at nat_cmp r.candidates c ≡ o
          → refusal_by (row_at nat_cmp r.candidates c) (appeal_at r c l.reference)
          ≡ refusal_shown l today (option_map (own_rows office c) o)
      inner None away = ap (λ (o : Option Candidate). refusal_by o (appeal_at r c l.reference)) away
      inner (Some row) there =
          ap (λ (o : Option Candidate). refusal_by o (appeal_at r c l.reference)) there
          ∙ by_stored row there (appeal_at r c l.reference) refl
          ∙ ap (known_shown l today (own_rows office c row))
          (appeal_found c l.reference r.appeals
          ∙ ap (λ rows. row_at code_cmp rows l.reference) (sym (pairs_own r c)))

pub same_lodging_refusal : (one other : State) (day : ℕ) (l : Lodging) → IsGood one → IsInOrder one → IsGood other
    → IsInOrder other → own_of one l.number ≡ own_of other l.number
    → spec.lodging_refusal one.relations one.seats day l ≡ spec.lodging_refusal other.relations other.seats day l
same_lodging_refusal one other day l good up sound rise same =
    refusal_told one day l good up ∙ ap (refusal_shown l day) same ∙ sym (refusal_told other day l sound rise)

-- ---- the answer

-- the state of the appeal once it is lodged
abbrev state_after : Option Appeal → AppealState
state_after stored = option_map_or (λ (a : Appeal). state_of a.status) stored state.Pending

state_told : (t : Relations) (day : ℕ) (l : Lodging)
    → stored_state (spec.with_lodging t day l) l.number l.reference ≡ state_after (appeal_at t l.number l.reference)
state_told t day l = inner (appeal_at t l.number l.reference) refl
  where
    inner : (o : Option Appeal) → appeal_at t l.number l.reference ≡ o
        → stored_state (cond (is_none o) (spec.with_appeal t day l) t) l.number l.reference ≡ state_after o
    inner None none = ap state_after (put_found appeal_cmp appeals_total t.appeals (l.number, l.reference) _)
    inner (Some a) at = ap state_after at

lodging_answered : (office after : State) (day : ℕ) (l : Lodging) (answer : Result Reply Refusal)
    → Step (command.Lodge l) day office answer after
    → answer ≡ answer_or (Ok (reply.Lodged (state_after (appeal_at office.relations l.number l.reference))))
    (spec.lodging_refusal office.relations office.seats day l)
lodging_answered office after day l answer = inner (spec.lodging_refusal office.relations office.seats day l)
  where
    inner : (o : Option Refusal)
        → StepTo (command.Lodge l) office answer after (unless o (spec.with_lodging office.relations day l))
        → answer ≡ answer_or (Ok (reply.Lodged (state_after (appeal_at office.relations l.number l.reference)))) o
    inner None step =
        step.2 ∙ ap (λ (t : Relations). Ok (reply.Lodged (stored_state t l.number l.reference))) step.0
        ∙ ap (λ (told : AppealState). Ok (reply.Lodged told)) (state_told office.relations day l)
    inner (Some e) step = step.0

pub same_lodging_answer : (one other one_after other_after : State) (day : ℕ) (l : Lodging)
    (first second : Result Reply Refusal) → IsGood one → IsInOrder one → IsGood other → IsInOrder other
    → own_of one l.number ≡ own_of other l.number → Step (command.Lodge l) day one first one_after
    → Step (command.Lodge l) day other second other_after → first ≡ second
same_lodging_answer one other one_after other_after day l first second good up sound rise same step again =
    lodging_answered one one_after day l first step
    ∙ ap (λ (o : Option Refusal). answer_or
    (Ok (reply.Lodged (state_after (appeal_at one.relations l.number l.reference)))) o)
    (same_lodging_refusal one other day l good up sound rise same)
    ∙ ap (λ (stored : Option Appeal). answer_or (Ok (reply.Lodged (state_after stored)))
    (spec.lodging_refusal other.relations other.seats day l))
    (same_appeal one other l.number l.reference good sound same)
    ∙ sym (lodging_answered other other_after day l second again)
