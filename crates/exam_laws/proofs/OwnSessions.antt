-- A candidate's own rows leave out no session of theirs.
use Rattle.exam_laws.proofs.Words.{is_at, Equal-is, nat_list_cmp_total, cons_option, filter_map, keys_of, option_map}
use Rattle.exam_laws.proofs.Words.{nat_cmp, and_parts, length-map, exact_bytes, Candidate, Session, Code, Relations}
use Rattle.exam_laws.proofs.Words.{code_cmp, has_row, row_at, has_live_entry, is_member, IsGood, OwnRows, OwnSessionRow}
use Rattle.exam_laws.proofs.Words.{own_of, own_rows, own_sessions, State}
use Rattle.std.proofs.Common.{◌≡◌, ◌↔◌, ℕ, Bool, true, false, cond, List, [], ◌∷◌, map, filter, length, Contains}
use Rattle.std.proofs.Common.{Option, None, Some, arith, is_some, refl, ap, sym, subst, ◌∙◌}
use Rattle.std.specs.Cmp.{tied_itself}
use Rattle.std.specs.Ordering.{is_eq}
use Rattle.std.proofs.lemmas.Bool.{cond_both}
use Rattle.std.proofs.lemmas.Cmp.{eq_by_cmp_equiv}
use Rattle.std.proofs.lemmas.Map.Entries.{lookup-filter-keys}
use Rattle.std.proofs.lemmas.Map.Views.{Contains-keys_from_lookup, IsSome-lookup_from_Contains, tells_apart}
use Rattle.exam_commands.specs.Own.{own_session}
use Rattle.exam_laws.proofs.OwnLodging.{member_sees}
use Rattle.exam_laws.proofs.Reaching.{of_member}

has_first : (row : Code × Session) (rows : List (Code × Session)) → has_row code_cmp (row ∷ rows) row.0 ≡ true
has_first row rows = let at : is_at (code_cmp row.0) row.0 ≡ true =
    ap is_eq (tied_itself nat_list_cmp_total row.0) in rw at refl

has_later : (row : Code × Session) (rows : List (Code × Session)) (k : Code) → has_row code_cmp rows k ≡ true
    → has_row code_cmp (row ∷ rows) k ≡ true
has_later row rows k there =
    cond_both (is_at (code_cmp k) row.0) (Some row.1) (row_at code_cmp rows k) (λ o. is_some o ≡ true) (λ e. refl)
    (λ e. there)

module _ (office : State) (c : ℕ) where
  abbrev r : Relations
  r = office.relations

  -- the sessions among these that the candidate is a member of
  abbrev pub theirs : List (Code × Session) → List (Code × Session)
  theirs rows = filter (λ (held : Code × Session). is_member r held.0 c) rows

  abbrev pub named : List OwnSessionRow → List Code
  named rows = map (λ (own : OwnSessionRow). own.session) rows

  -- each of them has a row
  each_shown : has_row nat_cmp r.candidates c ≡ true → (rows : List (Code × Session))
      → ((k : Code) → has_row code_cmp rows k ≡ true → has_row code_cmp r.sessions k ≡ true)
      → named (filter_map (own_session office c) (theirs rows)) ≡ keys_of (theirs rows)
  each_shown there [] known = refl
  each_shown there (first ∷ rest) known =
      by (is_member r first.0 c) refl (each_shown there rest (λ k has. known k (has_later first rest k has)))
    where
      by : (b : Bool) → is_member r first.0 c ≡ b
          → named (filter_map (own_session office c) (theirs rest)) ≡ keys_of (theirs rest)
          → named (filter_map (own_session office c) (cond b (first ∷ theirs rest) (theirs rest)))
          ≡ keys_of (cond b (first ∷ theirs rest) (theirs rest))
      by true member later =
          let seen = member_sees office c first.0 first.1 there (known first.0 (has_first first rest))
          (and_parts (has_row nat_cmp r.candidates c) (has_live_entry r first.0 c) member).1 in
          ap (λ (o : Option OwnSessionRow). named (cons_option o (filter_map (own_session office c) (theirs rest))))
          seen.made ∙ ap (λ (codes : List Code). first.0 ∷ codes) later
      by false member later = later

  module _ (own : OwnRows) (is : own_of office c ≡ Some own) where
    -- the candidate has a row, and these are their rows
    found : (o : Option Candidate) → row_at nat_cmp r.candidates c ≡ o → option_map (own_rows office c) o ≡ Some own
        → (has_row nat_cmp r.candidates c ≡ true) × (own.sessions ≡ own_sessions office c)
    found None at shown = absurd cc
    found (Some row) at shown =
        let same : own_rows office c row ≡ own = cc in
        (ap is_some at, sym (ap (λ (rows : OwnRows). rows.sessions) same))

    pub sessions_shown : named own.sessions ≡ keys_of (theirs r.sessions)
    sessions_shown =
        let it = found (row_at nat_cmp r.candidates c) refl is in
        ap named it.1 ∙ each_shown it.0 r.sessions (λ k has. has)

    pub as_many : length own.sessions ≡ length (theirs r.sessions)
    as_many =
        sym (length-map own.sessions (λ (row : OwnSessionRow). row.session))
        ∙ ap length sessions_shown
        ∙ length-map (theirs r.sessions) (λ (held : Code × Session). held.0)

    kept : (s : Code) → row_at code_cmp (theirs r.sessions) s
        ≡ cond (is_member r s c) (row_at code_cmp r.sessions s) None
    kept s =
        lookup-filter-keys (is_at (code_cmp s)) (λ k. is_member r k c) (is_member r s c)
        (λ k at. ap (λ t. is_member r t c) (sym (exact_bytes s k ((Equal-is (code_cmp s k)).0 at)))) r.sessions

    pub shown_if_member : IsGood office → (s : Code) → is_member r s c ≡ true ↔ Contains (named own.sessions) s
    shown_if_member good s = (to, from)
      where
        to : is_member r s c ≡ true → Contains (named own.sessions) s
        to member =
            subst (λ (codes : List Code). Contains codes s) (sym sessions_shown)
            (Contains-keys_from_lookup (tells_apart exact_bytes) s (theirs r.sessions)
            (ap is_some (kept s ∙ ap (λ b. cond b (row_at code_cmp r.sessions s) None) member)
            ∙ of_member r good.refer s c member))

        inner : (b : Bool) → is_some (cond b (row_at code_cmp r.sessions s) None) ≡ true → b ≡ true
        inner b some = grind arith

        from : Contains (named own.sessions) s → is_member r s c ≡ true
        from among =
            inner (is_member r s c)
            (ap is_some (sym (kept s))
            ∙ IsSome-lookup_from_Contains (eq_by_cmp_equiv nat_list_cmp_total) s (theirs r.sessions)
            (subst (λ (codes : List Code). Contains codes s) sessions_shown among))
