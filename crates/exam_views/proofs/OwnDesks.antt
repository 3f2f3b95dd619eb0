-- The sessions of a candidate get their desks, one after the other.
use Rattle.std.proofs.Common.{◌≡◌, ℕ, zero, suc, ◌+◌, ◌<◌, ◌≤◌, Bool, true, false, cond, List, [], ◌∷◌, length, map}
use Rattle.std.proofs.Common.{filter, drop, get_or, set, arith, refl, ap, sym, ◌∙◌}
use Rattle.std.specs.Prelude.{Option, None, Some}
use Rattle.std.specs.BTreeMap.{is_at}
use Rattle.std.specs.Cmp.{tied_itself}
use Rattle.std.specs.Cmp.Lexicographic.{nat_list_cmp_total}
use Rattle.std.specs.List.{AllByRecursion, cons_option, filter_map}
use Rattle.std.specs.Option.{option_map, option_and_then, is_some}
use Rattle.std.specs.Ordering.{is_eq}
use Rattle.exam_rules.specs.declared.rows.Session.{Session}
use Rattle.exam_rules.specs.Relations.{Code, code_cmp, has_row, row_at}
use Rattle.exam_rules.specs.Seatings.{plan_of}
use Rattle.exam_rules.specs.Sessions.{finish, is_member, sitting}
use Rattle.exam_commands.specs.Headline.{desk_of}
use Rattle.exam_commands.specs.Own.{OwnSessionRow, own_session, own_sessions, session_row, shown_session}
use Rattle.exam_commands.specs.State.{State}
use Rattle.exam_commands.specs.declared.own.OwnSession.{OwnSession}
use Rattle.exam_views.specs.Desks.{session_without_desk}

-- the first of these rows with their desks, the others without
abbrev pub shown_to : ℕ → List OwnSessionRow → List OwnSessionRow
shown_to zero rows = map session_without_desk rows
shown_to (suc shown) [] = []
shown_to (suc shown) (row ∷ rows) = row ∷ shown_to shown rows

-- the row is of a session of the office, with the candidate's hall and desk in it
abbrev pub IsPlaced : State → ℕ → OwnSessionRow → Type 0
IsPlaced office c row =
    (has_row code_cmp office.relations.sessions row.session ≡ true)
    × ((row.hall ≡ plan_of office.seats row.session c) × (row.desk ≡ desk_of office row.session c))

-- the answered session with this desk
abbrev pub at_desk : Option ℕ → OwnSession → OwnSession
at_desk desk own = record {
  session = own.session;
  day = own.day;
  start = own.start;
  papers = own.papers;
  sitting = own.sitting;
  clashes = own.clashes;
  arrangement = own.arrangement;
  finish = own.finish;
  hall = own.hall;
  desk = desk;
}

-- the row with this desk
abbrev row_at_desk : Option ℕ → OwnSessionRow → OwnSessionRow
row_at_desk desk own = record {
  session = own.session;
  day = own.day;
  start = own.start;
  papers = own.papers;
  sitting = own.sitting;
  clashes = own.clashes;
  arrangement = own.arrangement;
  finish = own.finish;
  hall = own.hall;
  desk = desk;
}

has_first : (row : Code × Session) (rows : List (Code × Session)) → has_row code_cmp (row ∷ rows) row.0 ≡ true
has_first row rows = let at : is_at (code_cmp row.0) row.0 ≡ true =
    ap is_eq (tied_itself nat_list_cmp_total row.0) in rw at refl

has_later : (row : Code × Session) (rows : List (Code × Session)) (k : Code) → has_row code_cmp rows k ≡ true
    → has_row code_cmp (row ∷ rows) k ≡ true
has_later row rows k there = by (is_at (code_cmp k) row.0)
  where
    by : (b : Bool) → is_some (cond b (Some row.1) (row_at code_cmp rows k)) ≡ true
    by true = refl
    by false = there

module _ (office : State) (c : ℕ) where
  row_is : (held : Code × Session) (rest : List OwnSessionRow)
      → has_row code_cmp office.relations.sessions held.0 ≡ true
      → AllByRecursion (IsPlaced office c) rest
      → AllByRecursion (IsPlaced office c) (cons_option (own_session office c held) rest)
  row_is held rest there are = by (sitting office.relations held.0 c) (finish office.relations held.0 c)
    where
      by : (sits : Option Code) (ends : Option ℕ)
          → AllByRecursion (IsPlaced office c)
          (cons_option (option_and_then (λ paper. option_map (session_row office c held paper) ends) sits) rest)
      by None ends = are
      by (Some paper) None = are
      by (Some paper) (Some end) = ((there, (refl, refl)), are)

  rows_are : (held : List (Code × Session))
      → ((k : Code) → has_row code_cmp held k ≡ true → has_row code_cmp office.relations.sessions k ≡ true)
      → AllByRecursion (IsPlaced office c)
      (filter_map (own_session office c)
      (filter (λ (held : Code × Session). is_member office.relations held.0 c) held))
  rows_are [] known = tt
  rows_are (first ∷ rest) known =
      by (is_member office.relations first.0 c) (rows_are rest (λ k there. known k (has_later first rest k there)))
    where
      by : (b : Bool) → AllByRecursion (IsPlaced office c)
          (filter_map (own_session office c)
          (filter (λ (held : Code × Session). is_member office.relations held.0 c) rest))
          → AllByRecursion (IsPlaced office c) (filter_map (own_session office c)
          (cond b (first ∷ filter (λ (held : Code × Session). is_member office.relations held.0 c) rest)
          (filter (λ (held : Code × Session). is_member office.relations held.0 c) rest)))
      by true later = row_is first
          (filter_map (own_session office c)
          (filter (λ (held : Code × Session). is_member office.relations held.0 c) rest))
          (known first.0 (has_first first rest)) later
      by false later = later

  -- each of the candidate's rows is
  pub own_are : AllByRecursion (IsPlaced office c) (own_sessions office c)
  own_are = rows_are office.relations.sessions (λ k there. there)

  -- a session that has no desk yet is one of the office, with the candidate's hall in it
  pub left_at : (i : ℕ) (items : List OwnSession) (rows : List OwnSessionRow) (d : OwnSession)
      → AllByRecursion (IsPlaced office c) rows
      → map shown_session items ≡ shown_to i rows → i < length items
      → (has_row code_cmp office.relations.sessions (get_or items i d).session ≡ true)
      × ((get_or items i d).hall ≡ plan_of office.seats (get_or items i d).session c)
  left_at i [] rows d are is below = absurd (omega (arith, below))
  left_at zero (own ∷ items) [] d are is below =
      absurd (let none : suc (length (map shown_session items)) ≡ 0 = ap length is in omega (arith, none))
  left_at zero (own ∷ items) (row ∷ rows) d are is below =
      let session : own.session ≡ row.session = ap (λ (rows : List OwnSessionRow). (get_or rows 0 row).session) is in
      let hall : own.hall ≡ row.hall = ap (λ (rows : List OwnSessionRow). (get_or rows 0 row).hall) is in (
        ap (has_row code_cmp office.relations.sessions) session ∙ are.0.0,
        hall ∙ are.0.1.0 ∙ ap (λ s. plan_of office.seats s c) (sym session),
      )
  left_at (suc i) (own ∷ items) [] d are is below =
      absurd (let none : suc (length (map shown_session items)) ≡ 0 = ap length is in omega (arith, none))
  left_at (suc i) (own ∷ items) (row ∷ rows) d are is below =
      left_at i items rows d are.1 (ap (drop 1) is) (omega (arith, below))

  desk_next : (i : ℕ) (items : List OwnSession) (rows : List OwnSessionRow) (d : OwnSession) (desk : Option ℕ)
      → AllByRecursion (IsPlaced office c) rows
      → map shown_session items ≡ shown_to i rows → i < length items
      → desk ≡ desk_of office (get_or items i d).session c
      → map shown_session (set items i (at_desk desk (get_or items i d))) ≡ shown_to (suc i) rows
  desk_next i [] rows d desk are is below at = absurd (omega (arith, below))
  desk_next zero (own ∷ items) [] d desk are is below at =
      absurd (let none : suc (length (map shown_session items)) ≡ 0 = ap length is in omega (arith, none))
  desk_next zero (own ∷ items) (row ∷ rows) d desk are is below at =
      let session : own.session ≡ row.session = ap (λ (rows : List OwnSessionRow). (get_or rows 0 row).session) is in
      ap (λ n. row_at_desk n (shown_session own) ∷ map shown_session items)
      (at ∙ ap (λ s. desk_of office s c) session ∙ sym are.0.1.1)
      ∙ ap (λ (rows : List OwnSessionRow). row_at_desk row.desk (get_or rows 0 row) ∷ drop 1 rows) is
  desk_next (suc i) (own ∷ items) [] d desk are is below at =
      absurd (let none : suc (length (map shown_session items)) ≡ 0 = ap length is in omega (arith, none))
  desk_next (suc i) (own ∷ items) (row ∷ rows) d desk are is below at =
      ap (λ (rows : List OwnSessionRow). get_or rows 0 row
      ∷ map shown_session (set items i (at_desk desk (get_or items i d)))) is
      ∙ ap (λ rest. row ∷ rest) (desk_next i items rows d desk are.1 (ap (drop 1) is) (omega (arith, below)) at)

  -- after the session has got its desk
  pub desk_turn : (i : ℕ) (items : List OwnSession) (rows : List OwnSessionRow) (d : OwnSession) (desk : Option ℕ)
      → AllByRecursion (IsPlaced office c) rows
      → map shown_session items ≡ shown_to i rows → i < length items
      → desk ≡ desk_of office (get_or items i d).session c
      → map shown_session (set items i (at_desk desk (get_or items i d))) ≡ shown_to (i + 1) rows
  desk_turn i items rows d desk are is below at =
      let one_more : suc i ≡ i + 1 = omega arith in
      desk_next i items rows d desk are is below at ∙ ap (λ k. shown_to k rows) one_more

-- at the end all have theirs
pub all_desks : (i : ℕ) (items : List OwnSession) (rows : List OwnSessionRow)
    → map shown_session items ≡ shown_to i rows → length items ≤ i → map shown_session items ≡ rows
all_desks i [] [] is past = refl
all_desks zero [] (row ∷ rows) is past =
    absurd (let none : 0 ≡ suc (length (map session_without_desk rows)) = ap length is in omega (arith, none))
all_desks (suc i) [] (row ∷ rows) is past =
    absurd (let none : 0 ≡ suc (length (shown_to i rows)) = ap length is in omega (arith, none))
all_desks zero (own ∷ items) rows is past = absurd (omega (arith, past))
all_desks (suc i) (own ∷ items) [] is past =
    absurd (let none : suc (length (map shown_session items)) ≡ 0 = ap length is in omega (arith, none))
all_desks (suc i) (own ∷ items) (row ∷ rows) is past =
    ap (λ (rows : List OwnSessionRow). get_or rows 0 row ∷ map shown_session items) is
    ∙ ap (λ rest. row ∷ rest) (all_desks i items rows (ap (drop 1) is) (omega (arith, past)))
