-- The sessions that a command reaches, gathered row by row.
use Rattle.std.proofs.Common.{◌≡◌, ℕ, ◌&&◌, ◌||◌, Bool, true, false, cond, List, [], ◌∷◌, filter, nat_eq, Some, is_some}
use Rattle.std.proofs.Common.{refl, ap, sym, subst, inl, inr, ◌⊎◌, ◌∙◌}
use Rattle.std.specs.List.{list_any}
use Rattle.std.specs.BTreeMap.{is_at}
use Rattle.std.specs.Cmp.Lexicographic.{texts_ties}
use Rattle.exam_rules.specs.declared.rows.Entry.{Entry}
use Rattle.exam_rules.specs.declared.rows.Hall.{Hall}
use Rattle.exam_rules.specs.declared.rows.Opening.{Opening}
use Rattle.exam_rules.specs.Relations.{Code, Relations, code_cmp, opening_cmp, has_row, is_row_of, row_at, same_code}
use Rattle.exam_rules.specs.Sessions.{is_live_entry, is_paper_of}
use Rattle.std.proofs.lemmas.List.Elements.{All-head, All-tail}
use Rattle.exam_commands.specs.Imports.{AreOfKind, ImportRows, kind_of}
use Rattle.exam_commands.specs.declared.import_row.Kind.{Kind}
use Rattle.exam_commands.specs.declared.import_row.Kind.TheVariants as kind
use Rattle.exam_commands.specs.declared.import_row.Row.{Row}
use Rattle.exam_commands.specs.declared.import_row.Row.TheVariants as row
use Rattle.exam_commands.specs.Touched.{has_standing_member, import_reaches, is_of_sessions, names, names_hall}
use Rattle.exam_commands.specs.Touched.{names_session, row_reaches, sets_session}
use Rattle.exam_commands.proofs.ImportKeys.{code_flips}
use Rattle.exam_rules.proofs.Writing.{then_eq}

pub taken : (b x : Bool) → cond b true x ≡ (b || x)
taken true x = refl
taken false x = refl

pub or_same : (a b c : Bool) → (a || (b || c)) ≡ ((a || b) || c)
or_same true b c = refl
or_same false b c = refl

pub or_none : (b : Bool) → (b || false) ≡ b
or_none true = refl
or_none false = refl

-- ---- the openings of a hall

-- the hall is opened for the session
abbrev pub opens : Code → Code → (Code × Code) × Opening → Bool
opens s h o = same_code o.0.0 s && same_code o.0.1 h

at_opening : (s h : Code) (k : Code × Code) → is_at (opening_cmp (s, h)) k ≡ (same_code k.0 s && same_code k.1 h)
at_opening s h k =
    then_eq (code_cmp s k.0) (code_cmp h k.1)
    ∙ ap (λ b. b && is_at (code_cmp h) k.1) (sym (texts_ties s k.0) ∙ code_flips s k.0)
    ∙ ap (λ b. same_code k.0 s && b) (sym (texts_ties h k.1) ∙ code_flips h k.1)

pub opened_any : (s h : Code) (rows : List ((Code × Code) × Opening))
    → list_any (opens s h) rows ≡ has_row opening_cmp rows (s, h)
opened_any s h [] = refl
opened_any s h (row ∷ rows) =
    inner (opens s h row) (is_at (opening_cmp (s, h)) row.0) (sym (at_opening s h row.0)) (opened_any s h rows)
  where
    inner : (b a : Bool) → b ≡ a → list_any (opens s h) rows ≡ has_row opening_cmp rows (s, h)
        → (b || list_any (opens s h) rows) ≡ is_some (cond a (Some row.1) (row_at opening_cmp rows (s, h)))
    inner true true e rest = refl
    inner false false e rest = rest
    inner true false e rest = cc
    inner false true e rest = cc

-- ---- the openings of the halls that rows name

-- the session opens a hall that the rows name
abbrev pub opens_named : List Row → Code → (Code × Code) × Opening → Bool
opens_named rows s o = same_code o.0.0 s && list_any (λ (x : Row). names_hall x o.0.1) rows

none_opens : (s : Code) (os : List ((Code × Code) × Opening)) → list_any (opens_named [] s) os ≡ false
none_opens s [] = refl
none_opens s (o ∷ os) = inner (same_code o.0.0 s) (none_opens s os)
  where
    inner : (b : Bool) → list_any (opens_named [] s) os ≡ false
        → ((b && false) || list_any (opens_named [] s) os) ≡ false
    inner true rest = rest
    inner false rest = rest

-- the halls that rows name, by any other test
pub opens_found : (s : Code) (rows : List Row) (named : Code → Bool)
    → ((h : Code) → named h ≡ list_any (λ (x : Row). names_hall x h) rows) → (os : List ((Code × Code) × Opening))
    → list_any (λ (o : (Code × Code) × Opening). same_code o.0.0 s && named o.0.1) os ≡ list_any (opens_named rows s) os
opens_found s rows named same [] = refl
opens_found s rows named same (o ∷ os) =
    ap (λ b. (same_code o.0.0 s && b) || list_any
    (λ (p : (Code × Code) × Opening). same_code p.0.0 s && named p.0.1) os) (same o.0.1)
    ∙ ap (λ t. opens_named rows s o || t) (opens_found s rows named same os)

-- one hall more
more_opens : (s h : Code) (x : Hall) (rows : List Row) (os : List ((Code × Code) × Opening))
    → list_any (opens_named (row.OfHall h x ∷ rows) s) os
    ≡ (list_any (opens s h) os || list_any (opens_named rows s) os)
more_opens s h x rows [] = refl
more_opens s h x rows (o ∷ os) =
    ap (λ t. opens_named (row.OfHall h x ∷ rows) s o || t) (more_opens s h x rows os)
    ∙ inner (same_code o.0.0 s) (same_code h o.0.1) (same_code o.0.1 h) (code_flips h o.0.1)
    (list_any (λ (y : Row). names_hall y o.0.1) rows) (list_any (opens s h) os) (list_any (opens_named rows s) os)
  where
    inner : (a b c : Bool) → b ≡ c → (d p q : Bool)
        → ((a && (b || d)) || (p || q)) ≡ (((a && c) || p) || ((a && d) || q))
    inner a true true e d p q = by a d p q
      where
        by : (a d p q : Bool) → ((a && true) || (p || q)) ≡ (((a && true) || p) || ((a && d) || q))
        by true d p q = refl
        by false d p q = refl
    inner a false false e d p q = by a d p q
      where
        by : (a d p q : Bool) → ((a && d) || (p || q)) ≡ (((a && false) || p) || ((a && d) || q))
        by true true true q = refl
        by true true false q = refl
        by true false p q = refl
        by false d p q = refl
    inner a true false e d p q = cc
    inner a false true e d p q = cc

-- ---- the rows of an import, which are all of its kind

-- a test that says something else of no row of the kind
same_any : (f g : Row → Bool) (k : Kind) (rows : List Row) → AreOfKind k rows → ((x : Row) → kind_of x ≡ k → f x ≡ g x)
    → list_any f rows ≡ list_any g rows
same_any f g k [] of same = refl
same_any f g k (x ∷ rows) of same =
    ap (λ b. b || list_any f rows) (same x (All-head (λ y. kind_of y ≡ k) x rows of))
    ∙ ap (λ t. g x || t) (same_any f g k rows (All-tail (λ y. kind_of y ≡ k) x rows of) same)

any_none : (rows : List Row) → list_any (λ (x : Row). false) rows ≡ false
any_none [] = refl
any_none (x ∷ rows) = any_none rows

any_or_one : (b : Bool) (rows : List Row) → (list_any (λ (x : Row). b) rows || b) ≡ b
any_or_one b [] = refl
any_or_one true (x ∷ rows) = refl
any_or_one false (x ∷ rows) = any_or_one false rows

sets_none : (s : Code) (x : Row) → is_of_sessions (kind_of x) ≡ false → sets_session s x ≡ false
sets_none s (row.OfSession told z) is = cc
sets_none s (row.OfPaper p z) is = refl
sets_none s (row.OfHall h z) is = refl
sets_none s (row.OfOpening told h z) is = refl
sets_none s (row.OfCandidate c z) is = refl
sets_none s (row.OfEntry c p) is = refl
sets_none s (row.OfArrangement c z) is = refl

-- only rows of sessions set one
pub others_set_none : (s : Code) (k : Kind) (rows : List Row) → AreOfKind k rows → is_of_sessions k ≡ false
    → list_any (sets_session s) rows ≡ false
others_set_none s k rows of is =
    same_any (sets_session s) (λ x. false) k rows of (λ x same. sets_none s x (ap is_of_sessions same ∙ is))
    ∙ any_none rows

-- what rows of a kind reach is what they name, but for those of sessions and halls
abbrev pub names_all : Kind → Bool
names_all kind.Sessions = false
names_all kind.Papers = true
names_all kind.Halls = false
names_all kind.Openings = true
names_all kind.Candidates = true
names_all kind.Entries = true
names_all kind.Arrangements = true

pub names_only : (k : Kind) → (k ≡ kind.Papers) ⊎ ((k ≡ kind.Openings) ⊎ ((k ≡ kind.Entries) ⊎ (k ≡ kind.Arrangements)))
    → names_all k ≡ true
names_only k (inl is) = ap names_all is
names_only k (inr (inl is)) = ap names_all is
names_only k (inr (inr (inl is))) = ap names_all is
names_only k (inr (inr (inr is))) = ap names_all is

not_sessions : (k : Kind) → names_all k ≡ true → is_of_sessions k ≡ false
not_sessions kind.Sessions is = cc
not_sessions kind.Papers is = refl
not_sessions kind.Halls is = refl
not_sessions kind.Openings is = refl
not_sessions kind.Candidates is = refl
not_sessions kind.Entries is = refl
not_sessions kind.Arrangements is = refl

pub sets_no_session : (k : Kind) → (k ≡ kind.Papers) ⊎ ((k ≡ kind.Halls) ⊎ ((k ≡ kind.Openings)
    ⊎ ((k ≡ kind.Candidates) ⊎ ((k ≡ kind.Entries) ⊎ (k ≡ kind.Arrangements))))) → is_of_sessions k ≡ false
sets_no_session k (inl is) = ap is_of_sessions is
sets_no_session k (inr (inl is)) = ap is_of_sessions is
sets_no_session k (inr (inr (inl is))) = ap is_of_sessions is
sets_no_session k (inr (inr (inr (inl is)))) = ap is_of_sessions is
sets_no_session k (inr (inr (inr (inr (inl is))))) = ap is_of_sessions is
sets_no_session k (inr (inr (inr (inr (inr is))))) = ap is_of_sessions is

module _ (r : Relations) (s : Code) where
  reaches_named : (x : Row) → names_all (kind_of x) ≡ true → row_reaches r x s ≡ names_session r x s
  reaches_named (row.OfSession told z) is = cc
  reaches_named (row.OfPaper p z) is = refl
  reaches_named (row.OfHall h z) is = cc
  reaches_named (row.OfOpening told h z) is = refl
  reaches_named (row.OfCandidate c z) is = refl
  reaches_named (row.OfEntry c p) is = refl
  reaches_named (row.OfArrangement c z) is = refl

  reaches_standing : (x : Row) → is_of_sessions (kind_of x) ≡ true → row_reaches r x s ≡ has_standing_member r s
  reaches_standing (row.OfSession told z) is = refl
  reaches_standing (row.OfPaper p z) is = cc
  reaches_standing (row.OfHall h z) is = cc
  reaches_standing (row.OfOpening told h z) is = cc
  reaches_standing (row.OfCandidate c z) is = cc
  reaches_standing (row.OfEntry c p) is = cc
  reaches_standing (row.OfArrangement c z) is = cc

  -- rows of halls reach the sessions that open one of them
  hall_rows_reach : (rows : List Row) → AreOfKind kind.Halls rows
      → list_any (λ (x : Row). row_reaches r x s) rows ≡ list_any (opens_named rows s) r.openings
  hall_rows_reach [] of = sym (none_opens s r.openings)
  hall_rows_reach (x ∷ rows) of = inner x (All-head (λ y. kind_of y ≡ kind.Halls) x rows of)
      (hall_rows_reach rows (All-tail (λ y. kind_of y ≡ kind.Halls) x rows of))
    where
      inner : (y : Row) → kind_of y ≡ kind.Halls
          → list_any (λ (x : Row). row_reaches r x s) rows ≡ list_any (opens_named rows s) r.openings
          → (row_reaches r y s || list_any (λ (x : Row). row_reaches r x s) rows)
          ≡ list_any (opens_named (y ∷ rows) s) r.openings
      inner (row.OfHall h z) is rest =
          ap (λ b. b || list_any (λ (x : Row). row_reaches r x s) rows) (sym (opened_any s h r.openings))
          ∙ ap (λ t. list_any (opens s h) r.openings || t) rest
          ∙ sym (more_opens s h z rows r.openings)
      inner (row.OfSession told z) is rest = absurd (let differ : kind.Sessions ≡ kind.Halls = is in cc)
      inner (row.OfPaper p z) is rest = absurd (let differ : kind.Papers ≡ kind.Halls = is in cc)
      inner (row.OfOpening told h z) is rest = absurd (let differ : kind.Openings ≡ kind.Halls = is in cc)
      inner (row.OfCandidate c z) is rest = absurd (let differ : kind.Candidates ≡ kind.Halls = is in cc)
      inner (row.OfEntry c p) is rest = absurd (let differ : kind.Entries ≡ kind.Halls = is in cc)
      inner (row.OfArrangement c z) is rest = absurd (let differ : kind.Arrangements ≡ kind.Halls = is in cc)

  module _ (import : ImportRows) (of : AreOfKind import.kind import.rows) where
    abbrev reached : Bool
    reached = list_any (λ (x : Row). row_reaches r x s) import.rows

    no_sessions : is_of_sessions import.kind ≡ false → import_reaches r import s ≡ reached
    no_sessions is = ap (λ k. reached || (k && has_standing_member r s)) is ∙ or_none reached

    pub sessions_reach : is_of_sessions import.kind ≡ true → import_reaches r import s ≡ has_standing_member r s
    sessions_reach is =
        ap (λ k. reached || (k && has_standing_member r s)) is
        ∙ ap (λ b. b || has_standing_member r s)
        (same_any (λ (x : Row). row_reaches r x s) (λ x. has_standing_member r s)
        import.kind import.rows of (λ x same. reaches_standing x (ap is_of_sessions same ∙ is)))
        ∙ any_or_one (has_standing_member r s) import.rows

    pub halls_reach : import.kind ≡ kind.Halls
        → import_reaches r import s ≡ list_any (opens_named import.rows s) r.openings
    halls_reach is =
        no_sessions (ap is_of_sessions is)
        ∙ hall_rows_reach import.rows (subst (λ (k : Kind). AreOfKind k import.rows) is of)

    pub others_reach : names_all import.kind ≡ true
        → import_reaches r import s ≡ list_any (λ (x : Row). names_session r x s) import.rows
    others_reach all =
        no_sessions (not_sessions import.kind all)
        ∙ same_any (λ (x : Row). row_reaches r x s) (λ (x : Row). names_session r x s)
        import.kind import.rows of (λ x same. reaches_named x (ap names_all same ∙ all))

-- a row of a candidate names no session
names_none : (r : Relations) (s : Code) (x : Row) → kind_of x ≡ kind.Candidates → names_session r x s ≡ false
names_none r s (row.OfSession told z) is = refl
names_none r s (row.OfPaper p z) is = absurd (let differ : kind.Papers ≡ kind.Candidates = is in cc)
names_none r s (row.OfHall h z) is = refl
names_none r s (row.OfOpening told h z) is = absurd (let differ : kind.Openings ≡ kind.Candidates = is in cc)
names_none r s (row.OfCandidate c z) is = refl
names_none r s (row.OfEntry c p) is = absurd (let differ : kind.Entries ≡ kind.Candidates = is in cc)
names_none r s (row.OfArrangement c z) is = absurd (let differ : kind.Arrangements ≡ kind.Candidates = is in cc)

pub candidates_reach : (r : Relations) (s : Code) (import : ImportRows) → AreOfKind import.kind import.rows
    → import.kind ≡ kind.Candidates → import_reaches r import s ≡ false
candidates_reach r s import of is =
    others_reach r s import of (ap names_all is)
    ∙ same_any (λ (x : Row). names_session r x s) (λ x. false) import.kind import.rows of
    (λ x same. names_none r s x (same ∙ is))
    ∙ any_none import.rows

-- ---- the entries of a candidate

module _ (r : Relations) (s : Code) (c : ℕ) where
  -- only the candidate's own rows count
  pub own_any : (es : List ((ℕ × Code) × Entry))
      → list_any (is_live_entry r s c) (filter (is_row_of c) es) ≡ list_any (is_live_entry r s c) es
  own_any [] = refl
  own_any (e ∷ es) = inner (nat_eq e.0.0 c) refl (own_any es)
    where
      inner : (b : Bool) → nat_eq e.0.0 c ≡ b
          → list_any (is_live_entry r s c) (filter (is_row_of c) es) ≡ list_any (is_live_entry r s c) es
          → list_any (is_live_entry r s c) (cond b (e ∷ filter (is_row_of c) es) (filter (is_row_of c) es))
          ≡ (is_live_entry r s c e || list_any (is_live_entry r s c) es)
      inner true is rest = ap (λ t. is_live_entry r s c e || t) rest
      inner false is rest =
          rest ∙ sym (ap (λ b. (b && (e.1.live && is_paper_of r s e.0.1)) || list_any (is_live_entry r s c) es) is)

-- ---- the codes that exist

-- the set has a code that exists
pub names_any : (r : Relations) (s : Code) (ks : List Code)
    → list_any (λ (k : Code). names r k s) ks ≡ (has_row code_cmp r.sessions s && list_any (is_at (code_cmp s)) ks)
names_any r s [] = sym (and_none (has_row code_cmp r.sessions s))
  where
    and_none : (b : Bool) → (b && false) ≡ false
    and_none true = refl
    and_none false = refl
names_any r s (k ∷ ks) =
    ap (λ b. names r k s || b) (names_any r s ks)
    ∙ ap (λ b. (b && has_row code_cmp r.sessions s) ||
    (has_row code_cmp r.sessions s && list_any (is_at (code_cmp s)) ks)) (sym (code_flips s k) ∙ texts_ties s k)
    ∙ inner (is_at (code_cmp s) k) (has_row code_cmp r.sessions s) (list_any (is_at (code_cmp s)) ks)
  where
    inner : (a e b : Bool) → ((a && e) || (e && b)) ≡ (e && (a || b))
    inner true true b = refl
    inner true false b = refl
    inner false e b = refl
