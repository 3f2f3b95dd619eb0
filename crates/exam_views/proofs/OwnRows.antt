-- One turn of a loop over what is a candidate's own.
use Rattle.std.proofs.Common.{◌≡◌, ◌⊎◌, inl, inr, ℕ, Bool, true, false, Vec, List, [], ◌∷◌, ◌++◌, map, filter, refl, ap}
use Rattle.std.proofs.Common.{sym, ◌∙◌}
use Rattle.std.specs.Prelude.{Option, None, Some}
use Rattle.std.specs.Global.{Global}
use Rattle.std.specs.Map.{keys_of}
use Rattle.std.specs.List.{cons_option, filter_map}
use Rattle.std.specs.Option.{option_map, option_and_then}
use Rattle.std.proofs.lemmas.List.{map-append}
use Rattle.exam_rules.specs.declared.rows.Appeal.{Appeal}
use Rattle.exam_rules.specs.declared.rows.Arrangement.{Arrangement}
use Rattle.exam_rules.specs.declared.rows.Paper.{Paper}
use Rattle.exam_rules.specs.declared.rows.Session.{Session}
use Rattle.exam_rules.specs.Relations.{Code, Relations, code_cmp, row_at}
use Rattle.exam_rules.specs.Sessions.{arrangement_in_force, end_of, finish, is_marked, is_member, live_papers, sitting}
use Rattle.exam_rules.specs.Sessions.{sitting_row}
use Rattle.exam_rules.specs.Lists.{listed}
use Rattle.exam_rules.specs.Orders.{KeysRise}
use Rattle.exam_rules.proofs.Turns.{push_step}
use Rattle.exam_commands.specs.declared.own.OwnAppeal.{OwnAppeal}
use Rattle.exam_commands.specs.declared.own.OwnSession.{OwnSession}
use Rattle.exam_commands.specs.Own.{OwnSessionRow, own_appeal, own_session, own_sessions, shown_session}
use Rattle.exam_commands.specs.State.{State}
use Rattle.exam_views.specs.Desks.{session_without_desk}
use Rattle.exam_views.proofs.OwnEntered.{known_row, rows_of, same_sessions, unknown_row}

-- after an appeal has been appended
pub appeal_turn : (r : Relations) (k : ℕ × Code) (a copy : Appeal) (marked : Bool)
    (rows rest : List ((ℕ × Code) × Appeal)) (before after whole : List OwnAppeal) → copy ≡ a
    → marked ≡ is_marked r k → rows ≡ (k, a) ∷ rest
    → after ≡ before ++ record { reference = k.1; appeal = copy; standing = marked } ∷ []
    → before ++ map (own_appeal r) rows ≡ whole → after ++ map (own_appeal r) rest ≡ whole
appeal_turn r k a copy marked rows rest before after whole same bears split pushed so_far =
    push_step before after (map (own_appeal r) rest) whole (own_appeal r (k, a))
    (pushed ∙ ap (λ x. before ++ record { reference = k.1; appeal = x; standing = marked } ∷ []) same
    ∙ ap (λ m. before ++ record { reference = k.1; appeal = a; standing = m } ∷ []) bears)
    (ap (λ t. before ++ map (own_appeal r) t) (sym split) ∙ so_far)

-- the candidate's sessions among these, but for the desks
abbrev pub sessions_left : State → ℕ → List (Code × Session) → List OwnSessionRow
sessions_left office c rows =
    filter_map (λ (held : Code × Session). option_map session_without_desk (own_session office c held))
    (filter (λ (held : Code × Session). is_member office.relations held.0 c) rows)

mapped : {A B C : Type 0} (f : B → C) (g : A → Option B) (xs : List A)
    → filter_map (λ x. option_map f (g x)) xs ≡ map f (filter_map g xs)
mapped f g [] = refl
mapped {A} {B} f g (x ∷ xs) = ap (cons_option (option_map f (g x))) (mapped f g xs) ∙ onto (g x)
  where
    onto : (o : Option B)
        → cons_option (option_map f o) (map f (filter_map g xs)) ≡ map f (cons_option o (filter_map g xs))
    onto None = refl
    onto (Some y) = refl

-- at first all of them are left
pub all_left : (office : State) (c : ℕ) (held : List (Code × Vec Code Global))
    → ((s : Code) → listed held s ≡ live_papers office.relations s c)
    → KeysRise code_cmp held → KeysRise code_cmp office.relations.sessions
    → sessions_left office c (rows_of office.relations (keys_of held))
    ≡ map session_without_desk (own_sessions office c)
all_left office c held are up rise =
    ap (filter_map (λ (held : Code × Session). option_map session_without_desk (own_session office c held)))
    (same_sessions office.relations c held are up rise)
    ∙ mapped session_without_desk (own_session office c)
    (filter (λ (held : Code × Session). is_member office.relations held.0 c) office.relations.sessions)

-- after the row of a session that the candidate is a member of
pub member_turn : (office : State) (c : ℕ) (held : Code × Session) (own : OwnSession)
    (rows rest : List (Code × Session)) (before after : List OwnSession) (whole : List OwnSessionRow)
    → is_member office.relations held.0 c ≡ true
    → option_map session_without_desk (own_session office c held) ≡ Some (shown_session own) → rows ≡ held ∷ rest
    → after ≡ before ++ own ∷ []
    → map shown_session before ++ sessions_left office c rows ≡ whole
    → map shown_session after ++ sessions_left office c rest ≡ whole
member_turn office c held own rows rest before after whole member shows split pushed so_far =
    let first : sessions_left office c (held ∷ rest) ≡ shown_session own ∷ sessions_left office c rest =
    rw (member, shows) refl in
    push_step (map shown_session before) (map shown_session after) (sessions_left office c rest) whole
    (shown_session own)
    (ap (map shown_session) pushed ∙ map-append shown_session before (own ∷ []))
    (ap (λ t. map shown_session before ++ t) (sym first ∙ ap (sessions_left office c) (sym split)) ∙ so_far)

-- after a session that the candidate is no member of, or that does not exist
pub absent_turn : (office : State) (c : ℕ) (k : Code) (ks : List Code) (before whole : List OwnSessionRow)
    → (is_member office.relations k c ≡ false) ⊎ (row_at code_cmp office.relations.sessions k ≡ None)
    → before ++ sessions_left office c (rows_of office.relations (k ∷ ks)) ≡ whole
    → before ++ sessions_left office c (rows_of office.relations ks) ≡ whole
absent_turn office c k ks before whole why so_far = ap (λ t. before ++ t) (sym (same why)) ∙ so_far
  where
    r : Relations
    r = office.relations

    missing : row_at code_cmp r.sessions k ≡ None
        → sessions_left office c (rows_of r (k ∷ ks)) ≡ sessions_left office c (rows_of r ks)
    missing at = ap (sessions_left office c) (unknown_row r k ks at)

    absent : (o : Option Session) → row_at code_cmp r.sessions k ≡ o → is_member r k c ≡ false
        → sessions_left office c (rows_of r (k ∷ ks)) ≡ sessions_left office c (rows_of r ks)
    absent None at no_member = missing at
    absent (Some row) at no_member =
        let past : sessions_left office c ((k, row) ∷ rows_of r ks) ≡ sessions_left office c (rows_of r ks) =
        rw no_member refl in
        ap (sessions_left office c) (known_row r k ks row at) ∙ past

    same : (is_member r k c ≡ false) ⊎ (row_at code_cmp r.sessions k ≡ None)
        → sessions_left office c (rows_of r (k ∷ ks)) ≡ sessions_left office c (rows_of r ks)
    same (inl no_member) = absent (row_at code_cmp r.sessions k) refl no_member
    same (inr at) = missing at

-- when the member ends, by the row of the session, the paper that they sit and the arrangement in force
pub ends : (r : Relations) (s : Code) (c : ℕ) (row : Session) (sat : Option Code) (a : Arrangement)
    → row_at code_cmp r.sessions s ≡ Some row → sitting r s c ≡ sat → a ≡ arrangement_in_force r s c
    → finish r s c ≡ option_map (λ (paper : Paper). end_of row paper a) (option_and_then (row_at code_cmp r.papers) sat)
ends r s c row sat a known sits is =
    ap (option_and_then (λ (session : Session). option_map
    (λ (paper : Paper). end_of session paper (arrangement_in_force r s c)) (sitting_row r s c))) known
    ∙ ap (λ o. option_map (λ (paper : Paper). end_of row paper (arrangement_in_force r s c))
    (option_and_then (row_at code_cmp r.papers) o)) sits
    ∙ ap (λ b. option_map (λ (paper : Paper). end_of row paper b) (option_and_then (row_at code_cmp r.papers) sat))
    (sym is)
