-- What a candidate sees after a lodging or a retraction: if the appeal is their own, it is put among theirs; otherwise
-- all is as it was.
use Rattle.exam_laws.proofs.Words.{filter_map, AllByRecursion, keys_of, option_and_then, option_map, option_map_or}
use Rattle.exam_laws.proofs.Words.{Status, option_or, nat_cmp, Ordering, Less, fun_ext, sorted_head, sorted_tail}
use Rattle.exam_laws.proofs.Words.{exact_unsigned, exact_unsigned_eq, Refusal, Appeal, Arrangement, Candidate, Paper}
use Rattle.exam_laws.proofs.Words.{Session, Subject, KeysRise, Code, Relations, appeal_cmp, code_cmp, is_row_of}
use Rattle.exam_laws.proofs.Words.{put_row, row_at, same_code, arrangement_by, asked_arrangement, granted_subjects}
use Rattle.exam_laws.proofs.Words.{is_granted, is_granted_appeal, is_live_paper, is_marked, is_member, option_filter}
use Rattle.exam_laws.proofs.Words.{session_day, standing_grants, plan_of, seating, appeals_exact, put_passed_over}
use Rattle.exam_laws.proofs.Words.{Lodging, Reply, appeal_at, is_open, is_retracted, unless, IsGood}
use Rattle.exam_laws.proofs.Words.{IsInOrder, OwnRows, OwnSessionRow, own_of, own_rows, own_sessions, Seats, State}
use Rattle.exam_laws.proofs.Words.{Step, StepTo, unborne}
use Rattle.std.proofs.Common.{◌≡◌, ℕ, ◌+◌, ◌<◌, ◌&&◌, not, Bool, true, false, cond, List, [], ◌∷◌, count_by, filter}
use Rattle.std.proofs.Common.{map, nat_eq, Option, None, Some, Result, is_some, eq-eqb, refl, ap, sym, subst}
use Rattle.std.proofs.Common.{◌∙◌, arith}
use Rattle.std.specs.BTreeMap.{insert_entry}
use Rattle.std.specs.Ordering.{is_lt, match_ordering, ordering_then}
use Rattle.std.specs.declared.cmp.Ordering.TheVariants.{Equal, Greater}
use Rattle.std.proofs.lemmas.Cmp.{ranked}
use Rattle.exam_plan.specs.Matching.{occupants}
use Rattle.exam_rules.specs.declared.rows.Status.TheVariants as status
use Rattle.exam_rules.specs.declared.standing.StandingGrant.{StandingGrant}
use Rattle.exam_rules.specs.Sessions.{asked_paper, end_of, head_of, is_clash, least_live_paper, live_papers}
use Rattle.exam_rules.specs.Seatings.{desk_cmp}
use Rattle.exam_rules.specs.Tables as table
use Rattle.exam_commands.specs.declared.command.Command.TheVariants as command
use Rattle.exam_commands.specs.Good.{may_bear}
use Rattle.exam_commands.specs.Lodgings as spec
use Rattle.exam_commands.specs.declared.own.OwnAppeal.{OwnAppeal}
use Rattle.exam_commands.specs.Own.{own_appeal}
use Rattle.exam_laws.proofs.Appealing.{not_granted, put_standing_same, with_appeals}
use Rattle.exam_commands.proofs.Borne.{closed_unborne}
use Rattle.exam_laws.proofs.Lasting.{lodging_moves_nobody, retraction_moves_nobody}
use Rattle.exam_laws.proofs.OwnFacts.{AppealRows, map_twice}
use Rattle.exam_laws.proofs.OwnLodging.{same_lodging_refusal}
use Rattle.exam_laws.proofs.OwnRetracting.{same_appeal, same_retraction_refusal}
use Rattle.exam_laws.proofs.AppealSteps.{closed_granted}
use Rattle.std.proofs.lemmas.Bool.{false_from_ne_true, ne_eqb}
use Rattle.exam_laws.proofs.ByCase.{after_lodging, after_retraction}

abbrev state_of : Relations → Seats → State
state_of r seats = record { relations = r; seats = seats }

-- ---- what is shown of sessions knows of appeals what the granted ones ask

abbrev Granted : Type 0
Granted = Code → ℕ → List Subject

module _ (r : Relations) (seats : Seats) where
  abbrev sitting_by : Granted → Code → ℕ → Option Code
  sitting_by asked s c =
      option_or (option_filter (is_live_paper r s c) (head_of (filter_map asked_paper (asked s c))))
      (least_live_paper r s c)

  abbrev in_force_by : Granted → List StandingGrant → Code → ℕ → Arrangement
  in_force_by asked grants s c =
      arrangement_by (head_of (filter_map asked_arrangement (asked s c))) (session_day r s) grants
      (row_at nat_cmp r.arrangements c)

  abbrev finish_by : Granted → List StandingGrant → Code → ℕ → Option ℕ
  finish_by asked grants s c =
      option_and_then (λ (session : Session). option_map
      (λ (paper : Paper). end_of session paper (in_force_by asked grants s c))
      (option_and_then (row_at code_cmp r.papers) (sitting_by asked s c)))
      (row_at code_cmp r.sessions s)

  abbrev desk_by : Granted → Code → ℕ → Option ℕ
  desk_by asked s c =
      option_map (λ (h : Code). count_by
      (λ (d : ℕ). is_lt (desk_cmp (sitting_by asked s d, d) (sitting_by asked s c, c)))
      (occupants (seating r s) (plan_of seats s) h) + 1) (plan_of seats s c)

  abbrev row_by : Granted → List StandingGrant → ℕ → Code × Session → Code → ℕ → OwnSessionRow
  row_by asked grants c held paper end = record {
    session = held.0;
    day = held.1.day;
    start = held.1.start;
    papers = live_papers r held.0 c;
    sitting = paper;
    clashes = filter (is_clash (sitting_by asked held.0 c)) (live_papers r held.0 c);
    arrangement = in_force_by asked grants held.0 c;
    finish = end;
    hall = plan_of seats held.0 c;
    desk = desk_by asked held.0 c;
  }

  abbrev sessions_by : ℕ → Granted → List StandingGrant → List OwnSessionRow
  sessions_by c asked grants =
      filter_map (λ (held : Code × Session). option_and_then
      (λ (paper : Code). option_map (row_by asked grants c held paper) (finish_by asked grants held.0 c))
      (sitting_by asked held.0 c))
      (filter (λ (held : Code × Session). is_member r held.0 c) r.sessions)

  pub sessions_stay : (rows : AppealRows) (c : ℕ) → granted_subjects rows ≡ granted_subjects r.appeals
      → standing_grants (with_appeals r rows) c ≡ standing_grants r c
      → own_sessions (state_of (with_appeals r rows) seats) c ≡ own_sessions (state_of r seats) c
  sessions_stay rows c same stand =
      ap (sessions_by c (granted_subjects rows)) stand ∙ ap (λ asked. sessions_by c asked (standing_grants r c)) same

-- the appeal is put in the place of none that is granted, and bears no mark
record IsPutUngranted (r : Relations) (k : ℕ × Code) (a : Appeal) : Type 0 where
  unmarked : is_marked r k ≡ false
  new : is_granted a.status ≡ false
  old : (b : Appeal) → row_at appeal_cmp r.appeals k ≡ Some b → is_granted b.status ≡ false

granted_stay : (r : Relations) (k : ℕ × Code) (a : Appeal) → IsPutUngranted r k a
    → granted_subjects (put_row appeal_cmp r.appeals k a) ≡ granted_subjects r.appeals
granted_stay r k a put = fun_ext (λ (s : Code). fun_ext (λ (c : ℕ).
    ap (map (λ (x : (ℕ × Code) × Appeal). x.1.subject))
    (put_passed_over appeal_cmp appeals_exact (is_granted_appeal s c) r.appeals k a
    (ap (λ g. nat_eq k.0 c && (same_code a.session s && g)) put.new
    ∙ not_granted (nat_eq k.0 c) (same_code a.session s))
    (λ b at. ap (λ g. nat_eq k.0 c && (same_code b.session s && g)) (put.old b at)
    ∙ not_granted (nat_eq k.0 c) (same_code b.session s)))))

-- ---- the candidate's appeals

above_not : (c n m : ℕ) (p q : Code) → nat_cmp c n ≡ Less → ordering_then (nat_cmp n m) (code_cmp p q) ≡ Less
    → nat_eq m c ≡ false
above_not c n m p q less rise =
    false_from_ne_true (nat_eq m c) (λ same. turn (nat_cmp n m) refl rise (exact_unsigned_eq m c same))
  where
    below : c < n
    below = ranked c n Less (sym less)

    turn : (o : Ordering) → nat_cmp n m ≡ o → ordering_then o (code_cmp p q) ≡ Less → m ≡ c → ⊥
    turn Less is up same = let above : n < m = ranked n m Less (sym is) in let first : c < n =
        below in omega (arith, same)
    turn Equal is up same = let one : n ≡ m = ranked n m Equal (sym is) in let first : c < n =
        below in omega (arith, same)
    turn Greater is up same = cc

-- no appeal of the candidate comes after a later candidate's
none_own : (c n : ℕ) (p : Code) (rows : AppealRows) → nat_cmp c n ≡ Less
    → AllByRecursion (λ (y : ℕ × Code). appeal_cmp (n, p) y ≡ Less) (keys_of rows) → filter (is_row_of c) rows ≡ []
none_own c n p [] less above = refl
none_own c n p (a ∷ rows) less above =
    ap (λ b. cond b (a ∷ filter (is_row_of c) rows) (filter (is_row_of c) rows))
    (above_not c n a.0.0 p a.0.1 less above.0)
    ∙ none_own c n p rows less above.1

module _ (r : Relations) (c : ℕ) where
  -- what is shown of an appeal, under its reference
  abbrev shown_under : (ℕ × Code) × Appeal → Code × OwnAppeal
  shown_under a = (a.0.1, own_appeal r a)

  abbrev keyed : AppealRows → List (Code × OwnAppeal)
  keyed rows = map shown_under (filter (is_row_of c) rows)

  module _ (reference : Code) (new : Appeal) where
    abbrev listed : Bool → (ℕ × Code) × Appeal → AppealRows → List (Code × OwnAppeal)
    listed own a rows = map shown_under (cond own (a ∷ filter (is_row_of c) rows) (filter (is_row_of c) rows))

    abbrev put_keyed : List (Code × OwnAppeal) → List (Code × OwnAppeal)
    put_keyed shown = put_row code_cmp shown reference (own_appeal r ((c, reference), new))

    -- an appeal of the candidate is put among theirs
    own_put : (rows : AppealRows) → KeysRise appeal_cmp rows
        → keyed (put_row appeal_cmp rows (c, reference) new) ≡ put_keyed (keyed rows)
    own_put [] up = ap (λ b. listed b ((c, reference), new) []) (eq-eqb c c refl)
    own_put (a ∷ rows) up = inner (nat_cmp c a.0.0) refl (own_put rows (sorted_tail appeal_cmp a.0 (keys_of rows) up))
      where
        later : keyed (put_row appeal_cmp rows (c, reference) new) ≡ put_keyed (keyed rows)
            → nat_eq a.0.0 c ≡ false
            → keyed (a ∷ put_row appeal_cmp rows (c, reference) new) ≡ put_keyed (keyed (a ∷ rows))
        later rest other = ap (λ t. listed t a (put_row appeal_cmp rows (c, reference) new)) other ∙ rest
            ∙ ap (λ t. put_keyed (listed t a rows)) (sym other)

        by_code : (o : Ordering) → code_cmp reference a.0.1 ≡ o → nat_cmp c a.0.0 ≡ Equal → nat_eq a.0.0 c ≡ true
            → keyed (put_row appeal_cmp rows (c, reference) new) ≡ put_keyed (keyed rows)
            → keyed (match_ordering o (((c, reference), new) ∷ a ∷ rows) ((a.0, new) ∷ rows)
            (a ∷ insert_entry appeal_cmp rows (c, reference) new))
            ≡ match_ordering o (shown_under ((c, reference), new) ∷ shown_under a ∷ keyed rows)
            ((a.0.1, own_appeal r ((c, reference), new)) ∷ keyed rows) (shown_under a ∷ put_keyed (keyed rows))
        by_code Less at is own rest =
            ap (λ t. listed t ((c, reference), new) (a ∷ rows)) (eq-eqb c c refl)
            ∙ ap (λ t. shown_under ((c, reference), new) ∷ listed t a rows) own
        by_code Equal at is own rest =
            let one : (c, reference) ≡ a.0 =
            appeals_exact (c, reference) a.0 (ap (λ o. ordering_then o (code_cmp reference a.0.1)) is ∙ at) in
            ap (λ t. listed t (a.0, new) rows) own
            ∙ ap (λ (k : ℕ × Code). (a.0.1, own_appeal r (k, new)) ∷ keyed rows) (sym one)
        by_code Greater at is own rest =
            ap (λ t. listed t a (put_row appeal_cmp rows (c, reference) new)) own ∙ ap (λ t. shown_under a ∷ t) rest

        inner : (o : Ordering) → nat_cmp c a.0.0 ≡ o
            → keyed (put_row appeal_cmp rows (c, reference) new) ≡ put_keyed (keyed rows)
            → keyed (match_ordering (ordering_then o (code_cmp reference a.0.1)) (((c, reference), new) ∷ a ∷ rows)
            ((a.0, new) ∷ rows) (a ∷ insert_entry appeal_cmp rows (c, reference) new))
            ≡ put_keyed (keyed (a ∷ rows))
        inner Less is rest =
            let none : keyed (a ∷ rows) ≡ [] =
            ap (λ t. listed t a rows)
            (ne_eqb a.0.0 c (λ one. let below : c < a.0.0 = ranked c a.0.0 Less (sym is) in omega (arith, one)))
            ∙ ap (map shown_under) (none_own c a.0.0 a.0.1 rows is (sorted_head appeal_cmp a.0 (keys_of rows) up)) in
            ap (λ t. listed t ((c, reference), new) (a ∷ rows)) (eq-eqb c c refl)
            ∙ ap (λ t. shown_under ((c, reference), new) ∷ t) none ∙ ap put_keyed (sym none)
        inner Equal is rest =
            let own : nat_eq a.0.0 c ≡ true = eq-eqb a.0.0 c (sym (exact_unsigned c a.0.0 is)) in
            by_code (code_cmp reference a.0.1) refl is own rest ∙ ap (λ t. put_keyed (listed t a rows)) (sym own)
        inner Greater is rest =
            later rest (ne_eqb a.0.0 c
            (λ one. let below : a.0.0 < c = ranked c a.0.0 Greater (sym is) in omega (arith, one)))

-- ---- all that is shown

-- the appeals that are shown, with this one among them by its reference
abbrev put_appeal : OwnAppeal → List OwnAppeal → List OwnAppeal
put_appeal new shown =
    map (λ (e : Code × OwnAppeal). e.1)
    (put_row code_cmp (map (λ (a : OwnAppeal). (a.reference, a)) shown) new.reference new)

-- an appeal without a mark
abbrev plain_appeal : Code → Appeal → OwnAppeal
plain_appeal reference a = record { reference = reference; appeal = a; standing = false }

-- with these as the candidate's appeals
abbrev with_own : List OwnAppeal → OwnRows → OwnRows
with_own appeals own = record own { appeals = appeals }

-- with this appeal among the candidate's
abbrev with_one : Code → Appeal → OwnRows → OwnRows
with_one reference a own = with_own (put_appeal (plain_appeal reference a) own.appeals) own

module _ (r : Relations) (seats : Seats) (k : ℕ × Code) (a : Appeal) (put : IsPutUngranted r k a) where
  abbrev after_put : State
  after_put = state_of (with_appeals r (put_row appeal_cmp r.appeals k a)) seats

  abbrev shown_among : ℕ → AppealRows → List OwnAppeal
  shown_among c rows = map (own_appeal r) (filter (is_row_of c) rows)

  put_shown : (c : ℕ) (row : Candidate)
      → own_rows after_put c row
      ≡ with_own (shown_among c (put_row appeal_cmp r.appeals k a)) (own_rows (state_of r seats) c row)
  put_shown c row =
      ap (λ (sessions : List OwnSessionRow). record {
        number = c;
        name = row.name;
        code = row.code;
        sessions = sessions;
        appeals = shown_among c (put_row appeal_cmp r.appeals k a);
      })
      (sessions_stay r seats (put_row appeal_cmp r.appeals k a) c (granted_stay r k a put)
      (put_standing_same r k a put.new put.old c))

  one_put : KeysRise appeal_cmp r.appeals
      → shown_among k.0 (put_row appeal_cmp r.appeals k a) ≡ put_appeal (plain_appeal k.1 a) (shown_among k.0 r.appeals)
  one_put up =
      sym (map_twice (shown_under r k.0) (λ (e : Code × OwnAppeal). e.1)
      (filter (is_row_of k.0) (put_row appeal_cmp r.appeals k a)))
      ∙ ap (map (λ (e : Code × OwnAppeal). e.1)) (own_put r k.0 k.1 a r.appeals up)
      ∙ ap (λ shown. map (λ (e : Code × OwnAppeal). e.1) (put_row code_cmp shown k.1 (own_appeal r (k, a))))
      (sym (map_twice (own_appeal r) (λ (x : OwnAppeal). (x.reference, x)) (filter (is_row_of k.0) r.appeals)))
      ∙ ap (λ marked. put_appeal (record { reference = k.1; appeal = a; standing = marked })
      (shown_among k.0 r.appeals)) put.unmarked

  -- to its candidate the appeal is put among theirs
  put_own : KeysRise appeal_cmp r.appeals
      → own_of after_put k.0 ≡ option_map (with_one k.1 a) (own_of (state_of r seats) k.0)
  put_own up = inner (row_at nat_cmp r.candidates k.0)
    where
      inner : (o : Option Candidate)
          → option_map (own_rows after_put k.0) o
          ≡ option_map (with_one k.1 a) (option_map (own_rows (state_of r seats) k.0) o)
      inner None = refl
      inner (Some row) =
          ap (λ (own : OwnRows). Some own) (put_shown k.0 row)
          ∙ ap (λ (appeals : List OwnAppeal). Some (with_own appeals (own_rows (state_of r seats) k.0 row)))
          (one_put up)

  -- to any other nothing changes
  put_other : (c : ℕ) → nat_eq k.0 c ≡ false → own_of after_put c ≡ own_of (state_of r seats) c
  put_other c other = inner (row_at nat_cmp r.candidates c)
    where
      inner : (o : Option Candidate)
          → option_map (own_rows after_put c) o ≡ option_map (own_rows (state_of r seats) c) o
      inner None = refl
      inner (Some row) =
          ap (λ (own : OwnRows). Some own) (put_shown c row)
          ∙ ap (λ (rows : AppealRows). Some (with_own (map (own_appeal r) rows) (own_rows (state_of r seats) c row)))
          (put_passed_over appeal_cmp appeals_exact (is_row_of c) r.appeals k a other (λ b at. other))

-- by an accepted command, or by none
abbrev view_or : Option OwnRows → Option OwnRows → Option Refusal → Option OwnRows
view_or new old None = new
view_or new old (Some e) = old

either_view : (own : Option OwnRows) (o : Option Refusal) → view_or own own o ≡ own
either_view own o = grind arith

-- ---- a lodging

abbrev made : Lodging → ℕ → Appeal
made l day = record {
  session = l.session;
  subject = l.subject;
  reason = l.reason;
  status = status.Pending;
  lodged = day;
}

-- of what is shown before, and of the appeal that is stored under the reference
abbrev lodged_view : Lodging → ℕ → Option Appeal → Option OwnRows → Option OwnRows
lodged_view l day None own = option_map (with_one l.reference (made l day)) own
lodged_view l day (Some a) own = own

module _ (office : State) (day : ℕ) (l : Lodging) (good : IsGood office) where
  abbrev lodged_office : State
  lodged_office = state_of (spec.with_lodging office.relations day l) office.seats

  lodging_put : appeal_at office.relations l.number l.reference ≡ None
      → IsPutUngranted office.relations (l.number, l.reference) (made l day)
  lodging_put none = record {
    unmarked = unborne office.relations.appeals office.relations.standing (l.number, l.reference) good.marks
        (ap (λ o. option_map_or may_bear o false) none);
    new = refl;
    old = λ b at. absurd cc;
  }

  lodged_own : IsInOrder office
      → own_of lodged_office l.number
      ≡ lodged_view l day (appeal_at office.relations l.number l.reference) (own_of office l.number)
  lodged_own up =
      let seen : Option Appeal → Option OwnRows = λ o. lodged_view l day o (own_of office l.number) in
      after_lodging office.relations
      (λ t. own_of (state_of t office.seats) l.number ≡ seen (appeal_at office.relations l.number l.reference)) day l
      (λ none. put_own office.relations office.seats (l.number, l.reference) (made l day) (lodging_put none)
      (up.tables table.Appeals) ∙ sym (ap seen none)) (λ a at. sym (ap seen at))

  lodged_other : (c : ℕ) → nat_eq l.number c ≡ false → own_of lodged_office c ≡ own_of office c
  lodged_other c other =
      after_lodging office.relations (λ t. own_of (state_of t office.seats) c ≡ own_of office c) day l
      (λ none. put_other office.relations office.seats (l.number, l.reference) (made l day) (lodging_put none) c other)
      (λ a at. refl)

  module _ (after : State) (answer : Result Reply Refusal) (up : IsInOrder office) (up_after : IsInOrder after)
      (step : Step (command.Lodge l) day office answer after) where
    -- the office after it
    lodging_led : (c : ℕ)
        → own_of after c ≡ view_or (own_of lodged_office c) (own_of office c)
        (spec.lodging_refusal office.relations office.seats day l)
    lodging_led c = inner (spec.lodging_refusal office.relations office.seats day l) step
      where
        inner : (o : Option Refusal)
            → StepTo (command.Lodge l) office answer after (unless o (spec.with_lodging office.relations day l))
            → own_of after c ≡ view_or (own_of lodged_office c) (own_of office c) o
        inner None to =
            let seats : after.seats ≡ office.seats =
            lodging_moves_nobody l day office after _ good up up_after
            (subst (λ (told : Result Reply Refusal). Step (command.Lodge l) day office told after) to.2 step) in
            ap (λ (t : Relations). own_of (state_of t after.seats) c) to.0
            ∙ ap (λ (places : Seats). own_of (state_of (spec.with_lodging office.relations day l) places) c) seats
        inner (Some e) to = ap (λ (x : State). own_of x c) to.1

    pub lodging_shows_others : (c : ℕ) → (l.number ≡ c → ⊥) → own_of after c ≡ own_of office c
    lodging_shows_others c other =
        lodging_led c ∙ ap (λ (v : Option OwnRows). view_or v (own_of office c)
        (spec.lodging_refusal office.relations office.seats day l)) (lodged_other c (ne_eqb l.number c other))
        ∙ either_view (own_of office c) (spec.lodging_refusal office.relations office.seats day l)

    lodging_shown : own_of after l.number
        ≡ view_or (lodged_view l day (appeal_at office.relations l.number l.reference) (own_of office l.number))
        (own_of office l.number) (spec.lodging_refusal office.relations office.seats day l)
    lodging_shown = lodging_led l.number
        ∙ ap (λ (v : Option OwnRows). view_or v (own_of office l.number)
        (spec.lodging_refusal office.relations office.seats day l)) (lodged_own up)

pub same_lodging_view : (one other one_after other_after : State) (day : ℕ) (l : Lodging)
    (first second : Result Reply Refusal) → IsGood one → IsInOrder one → IsGood other → IsInOrder other
    → IsInOrder one_after → IsInOrder other_after → own_of one l.number ≡ own_of other l.number
    → Step (command.Lodge l) day one first one_after → Step (command.Lodge l) day other second other_after
    → own_of one_after l.number ≡ own_of other_after l.number
same_lodging_view one other one_after other_after day l first second good up sound rise up_after rise_after same step
    again =
    lodging_shown one day l good one_after first up up_after step
    ∙ ap (λ (stored : Option Appeal). view_or (lodged_view l day stored (own_of one l.number)) (own_of one l.number)
    (spec.lodging_refusal one.relations one.seats day l))
    (same_appeal one other l.number l.reference good sound same)
    ∙ ap (λ (v : Option OwnRows). view_or (lodged_view l day (appeal_at other.relations l.number l.reference) v) v
    (spec.lodging_refusal one.relations one.seats day l)) same
    ∙ ap (view_or (lodged_view l day (appeal_at other.relations l.number l.reference) (own_of other l.number))
    (own_of other l.number)) (same_lodging_refusal one other day l good up sound rise same)
    ∙ sym (lodging_shown other day l sound other_after second rise rise_after again)

-- ---- a retraction

abbrev retracted_one : Appeal → Appeal
retracted_one a = record a { status = status.Retracted }

abbrev retracted_view : Code → Option Appeal → Option OwnRows → Option OwnRows
retracted_view reference None own = own
retracted_view reference (Some a) own =
    cond (is_retracted a.status) own (option_map (with_one reference (retracted_one a)) own)

module _ (office : State) (c : ℕ) (reference : Code) (good : IsGood office) where
  abbrev retracted_office : State
  retracted_office = state_of (spec.with_retraction office.relations c reference) office.seats

  abbrev IsRetractable : Type 0
  IsRetractable = spec.retraction_refusal office.relations c reference ≡ None

  retraction_put : (a : Appeal) → appeal_at office.relations c reference ≡ Some a → is_open a.status ≡ true
      → IsPutUngranted office.relations (c, reference) (retracted_one a)
  retraction_put a at open_yet =
      let free : (not (is_open a.status) && not (is_retracted a.status)) ≡ false =
      ap (λ b. not b && not (is_retracted a.status)) open_yet in
      let closed : is_granted a.status ≡ false = closed_granted a.status free in
      record {
        unmarked = unborne office.relations.appeals office.relations.standing (c, reference) good.marks
            (ap (λ o. option_map_or may_bear o false) at
            ∙ closed_unborne a.status (is_some (asked_arrangement a.subject)) free);
        new = refl;
        old = λ b is. let one : a ≡ b = cc in ap (λ (x : Appeal). is_granted x.status) (sym one) ∙ closed;
      }

  retracted_own : IsInOrder office → IsRetractable
      → own_of retracted_office c ≡ retracted_view reference (appeal_at office.relations c reference) (own_of office c)
  retracted_own up ok =
      after_retraction office.relations
      (λ t. own_of (state_of t office.seats) c
      ≡ retracted_view reference (appeal_at office.relations c reference) (own_of office c)) c reference ok
      (λ a at was. sym (seen a at true was))
      (λ a at open_yet. put_own office.relations office.seats (c, reference) (retracted_one a)
      (retraction_put a at open_yet) (up.tables table.Appeals) ∙ sym (seen a at false (unretracted a.status open_yet)))
    where
      unretracted : (st : Status) → is_open st ≡ true → is_retracted st ≡ false
      unretracted st open_yet = grind arith

      seen : (a : Appeal) → appeal_at office.relations c reference ≡ Some a → (b : Bool) → is_retracted a.status ≡ b
          → retracted_view reference (appeal_at office.relations c reference) (own_of office c)
          ≡ cond b (own_of office c) (option_map (with_one reference (retracted_one a)) (own_of office c))
      seen a at b was =
          ap (λ o. retracted_view reference o (own_of office c)) at
          ∙ ap (λ t. cond t (own_of office c) (option_map (with_one reference (retracted_one a)) (own_of office c))) was

  retracted_other : IsRetractable → (d : ℕ) → nat_eq c d ≡ false → own_of retracted_office d ≡ own_of office d
  retracted_other ok d other =
      after_retraction office.relations (λ t. own_of (state_of t office.seats) d ≡ own_of office d) c reference ok
      (λ a at was. refl)
      (λ a at open_yet. put_other office.relations office.seats (c, reference) (retracted_one a)
      (retraction_put a at open_yet) d other)

  module _ (day : ℕ) (after : State) (answer : Result Reply Refusal) (up : IsInOrder office)
      (up_after : IsInOrder after) (step : Step (command.Retract c reference) day office answer after) where
    -- what is shown to anybody after it, by what is shown if it is accepted
    retraction_led : (d : ℕ) (v : Option OwnRows) → (IsRetractable → own_of retracted_office d ≡ v)
        → own_of after d ≡ view_or v (own_of office d) (spec.retraction_refusal office.relations c reference)
    retraction_led d v then = inner (spec.retraction_refusal office.relations c reference) refl step
      where
        inner : (o : Option Refusal) → spec.retraction_refusal office.relations c reference ≡ o
            → StepTo (command.Retract c reference) office answer after
            (unless o (spec.with_retraction office.relations c reference))
            → own_of after d ≡ view_or v (own_of office d) o
        inner None ok to =
            let seats : after.seats ≡ office.seats =
            retraction_moves_nobody c reference day office after _ good up up_after
            (subst (λ (told : Result Reply Refusal). Step (command.Retract c reference) day office told after) to.2
            step) in
            ap (λ (t : Relations). own_of (state_of t after.seats) d) to.0
            ∙ ap (λ (places : Seats). own_of
            (state_of (spec.with_retraction office.relations c reference) places) d) seats ∙ then ok
        inner (Some e) ok to = ap (λ (x : State). own_of x d) to.1

    pub retraction_shows_others : (d : ℕ) → (c ≡ d → ⊥) → own_of after d ≡ own_of office d
    retraction_shows_others d other =
        retraction_led d (own_of office d) (λ ok. retracted_other ok d (ne_eqb c d other))
        ∙ either_view (own_of office d) (spec.retraction_refusal office.relations c reference)

    retraction_shown : own_of after c
        ≡ view_or (retracted_view reference (appeal_at office.relations c reference) (own_of office c))
        (own_of office c) (spec.retraction_refusal office.relations c reference)
    retraction_shown = retraction_led c
        (retracted_view reference (appeal_at office.relations c reference) (own_of office c)) (retracted_own up)

pub same_retraction_view : (one other one_after other_after : State) (c : ℕ) (reference : Code) (day later : ℕ)
    (first second : Result Reply Refusal) → IsGood one → IsInOrder one → IsGood other → IsInOrder other
    → IsInOrder one_after → IsInOrder other_after → own_of one c ≡ own_of other c
    → Step (command.Retract c reference) day one first one_after
    → Step (command.Retract c reference) later other second other_after → own_of one_after c ≡ own_of other_after c
same_retraction_view one other one_after other_after c reference day later first second good up sound rise up_after
    rise_after same step again =
    retraction_shown one c reference good day one_after first up up_after step
    ∙ ap (λ (stored : Option Appeal). view_or (retracted_view reference stored (own_of one c)) (own_of one c)
    (spec.retraction_refusal one.relations c reference)) (same_appeal one other c reference good sound same)
    ∙ ap (λ (v : Option OwnRows). view_or (retracted_view reference (appeal_at other.relations c reference) v) v
    (spec.retraction_refusal one.relations c reference)) same
    ∙ ap (view_or (retracted_view reference (appeal_at other.relations c reference) (own_of other c)) (own_of other c))
    (same_retraction_refusal one other c reference good sound same)
    ∙ sym (retraction_shown other c reference sound later other_after second rise rise_after again)
