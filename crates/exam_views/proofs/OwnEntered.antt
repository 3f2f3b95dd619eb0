-- A candidate's live papers by session: what they are, and the sessions that they make the candidate a member of.
use Rattle.std.proofs.Common.{◌≡◌, ◌∙◌, ℕ, ◌<◌, List, [], ◌∷◌, ◌++◌, map, filter, length, Option, None, Some, Bool}
use Rattle.std.proofs.Common.{true, false, cond, is_some, nat_eq, arith, refl, ap, subst, sym, Vec}
use Rattle.std.specs.Prelude.{Contains, IsTrue, ◌&&◌, ◌||◌, slice_index_or}
use Rattle.std.specs.BTreeMap.{is_at}
use Rattle.std.specs.Cmp.{Equal-is, tied_itself}
use Rattle.std.specs.Cmp.Lexicographic.{nat_list_cmp_total}
use Rattle.std.specs.Global.{Global}
use Rattle.std.specs.List.{AllByRecursion, cons_option, filter_map, list_any}
use Rattle.std.specs.List.Sorted.{IsStrictlySortedBy}
use Rattle.std.specs.Map.{keys_of}
use Rattle.std.specs.Ordering.{is_eq, nat_cmp}
use Rattle.std.specs.Option.{option_map, option_map_or}
use Rattle.std.proofs.lemmas.List.Kept.{IsStrictlySortedBy-filter}
use Rattle.std.proofs.lemmas.Map.Entries.{lookup-filter-keys}
use Rattle.std.proofs.lemmas.Map.Keys.{sorted_head, sorted_tail}
use Rattle.std.proofs.lemmas.Map.Lookups.{exact_bytes}
use Rattle.exam_rules.specs.declared.rows.Entry.{Entry}
use Rattle.exam_rules.specs.declared.rows.Session.{Session}
use Rattle.exam_rules.specs.Relations.{Code, Relations, code_cmp, has_row, row_at, same_code}
use Rattle.exam_rules.specs.Lists.{entered_session, listed}
use Rattle.exam_rules.specs.Orders.{KeysRise}
use Rattle.exam_rules.specs.Sessions.{has_live_entry, head_of, is_live_entry, is_member, is_paper_of, least_live_paper}
use Rattle.exam_rules.specs.Sessions.{live_papers, live_papers_in, members}
use Rattle.exam_rules.proofs.Listed.{counts_for}
use Rattle.exam_rules.proofs.Sitters.{known_listed}
use Rattle.exam_rules.proofs.Turns.{push_step}
use Rattle.exam_commands.proofs.KeyedRows.{past_all, same_rows}

-- ---- the lists, entry by entry

-- what is left makes of each list the live papers of the session
abbrev pub EnteredLeft : Relations → ℕ → List (Code × Vec Code Global) → List ((ℕ × Code) × Entry) → Type 0
EnteredLeft r c held rows = (s : Code) → listed held s ++ live_papers_in r rows s c ≡ live_papers r s c

module _ (r : Relations) (c : ℕ) (k : ℕ × Code) (e : Entry) (rows rest : List ((ℕ × Code) × Entry))
    (own : nat_eq k.0 c ≡ true) (split : rows ≡ (k, e) ∷ rest) where
  -- an entry of the candidate that counts for this session, or for none
  first_of : (s : Code) (b : Bool) (o : Option Code) → entered_session r k.1 e ≡ o
      → option_map_or (λ t. same_code t s) o false ≡ b
      → live_papers_in r rows s c ≡ cond b (k.1 ∷ live_papers_in r rest s c) (live_papers_in r rest s c)
  first_of s b o entered same = ap (λ xs. live_papers_in r xs s c) split ∙ by b (counts ∙ same)
    where
      counts : is_live_entry r s c (k, e) ≡ option_map_or (λ t. same_code t s) o false
      counts = ap (λ b. b && (e.live && is_paper_of r s k.1)) own ∙ counts_for r c s k.1 e o entered

      by : (b : Bool) → is_live_entry r s c (k, e) ≡ b
          → live_papers_in r ((k, e) ∷ rest) s c ≡ cond b (k.1 ∷ live_papers_in r rest s c) (live_papers_in r rest s c)
      by true is = rw is refl
      by false is = rw is refl

  pub entered_turn : (t : Code) (before after : List (Code × Vec Code Global)) → entered_session r k.1 e ≡ Some t
      → ((s : Code) → listed after s ≡ cond (same_code t s) (listed before s ++ k.1 ∷ []) (listed before s))
      → EnteredLeft r c before rows → EnteredLeft r c after rest
  entered_turn t before after entered appended so_far s = by (same_code t s) refl (appended s)
    where
      by : (b : Bool) → same_code t s ≡ b → listed after s ≡ cond b (listed before s ++ k.1 ∷ []) (listed before s)
          → listed after s ++ live_papers_in r rest s c ≡ live_papers r s c
      by true is one_more =
          push_step (listed before s) (listed after s) (live_papers_in r rest s c) (live_papers r s c) k.1 one_more
          (ap (λ xs. listed before s ++ xs) (sym (first_of s true (Some t) entered is)) ∙ so_far s)
      by false is same =
          ap (λ xs. xs ++ live_papers_in r rest s c) same
          ∙ ap (λ xs. listed before s ++ xs) (sym (first_of s false (Some t) entered is)) ∙ so_far s

-- ---- the lists, session by session

-- of each session with its list that is left, the list has the live papers
abbrev pub AreEntered : Relations → ℕ → List (Code × Vec Code Global) → Type 0
AreEntered r c rows = AllByRecursion (λ (row : Code × Vec Code Global). row.1.items ≡ live_papers r row.0 c) rows

pub are_entered : (r : Relations) (c : ℕ) (rows : List (Code × Vec Code Global)) → KeysRise code_cmp rows
    → ((s : Code) → has_row code_cmp rows s ≡ true → listed rows s ≡ live_papers r s c) → AreEntered r c rows
are_entered r c [] up is = tt
are_entered r c (row ∷ rows) up is = (
  sym (at_first row rows) ∙ is row.0 (has_first row rows),
  are_entered r c rows (sorted_tail code_cmp row.0 (keys_of rows) up) later,
)
  where
    first_at : (row : Code × Vec Code Global) → is_at (code_cmp row.0) row.0 ≡ true
    first_at row = ap is_eq (tied_itself nat_list_cmp_total row.0)

    at_first : (row : Code × Vec Code Global) (rows : List (Code × Vec Code Global))
        → listed (row ∷ rows) row.0 ≡ row.1.items
    at_first row rows = rw (first_at row) refl

    has_first : (row : Code × Vec Code Global) (rows : List (Code × Vec Code Global))
        → has_row code_cmp (row ∷ rows) row.0 ≡ true
    has_first row rows = rw (first_at row) refl

    later : (s : Code) → has_row code_cmp rows s ≡ true → listed rows s ≡ live_papers r s c
    later s there = by (is_at (code_cmp s) row.0) refl
      where
        by : (b : Bool) → is_at (code_cmp s) row.0 ≡ b → listed rows s ≡ live_papers r s c
        by true at =
            let none : row_at code_cmp rows s ≡ None =
            past_all code_cmp nat_list_cmp_total row.0 s rows ((Equal-is (code_cmp s row.0)).0 at)
            (sorted_head code_cmp row.0 (keys_of rows) up) in
            absurd (let differ : false ≡ true = sym (ap is_some none) ∙ there in cc)
        by false at =
            let past : row_at code_cmp (row ∷ rows) s ≡ row_at code_cmp rows s =
            ap (λ b. cond b (Some row.1) (row_at code_cmp rows s)) at in
            sym (ap (λ o. option_map_or (λ (list : Vec Code Global). list.items) o []) past)
            ∙ is s (ap is_some past ∙ there)

-- ---- the sessions that exist

-- the rows of these sessions
abbrev pub rows_of : Relations → List Code → List (Code × Session)
rows_of r ks = filter_map (λ k. option_map (λ (row : Session). (k, row)) (row_at code_cmp r.sessions k)) ks

pub known_row : (r : Relations) (k : Code) (ks : List Code) (row : Session) → row_at code_cmp r.sessions k ≡ Some row
    → rows_of r (k ∷ ks) ≡ (k, row) ∷ rows_of r ks
known_row r k ks row at = ap (λ o. cons_option (option_map (λ (row : Session). (k, row)) o) (rows_of r ks)) at

pub unknown_row : (r : Relations) (k : Code) (ks : List Code) → row_at code_cmp r.sessions k ≡ None
    → rows_of r (k ∷ ks) ≡ rows_of r ks
unknown_row r k ks at = ap (λ o. cons_option (option_map (λ (row : Session). (k, row)) o) (rows_of r ks)) at

keys_of_rows : (r : Relations) (ks : List Code) → keys_of (rows_of r ks) ≡ filter (has_row code_cmp r.sessions) ks
keys_of_rows r [] = refl
keys_of_rows r (k ∷ ks) = by (row_at code_cmp r.sessions k) (keys_of_rows r ks)
  where
    by : (o : Option Session) → keys_of (rows_of r ks) ≡ filter (has_row code_cmp r.sessions) ks
        → keys_of (cons_option (option_map (λ (row : Session). (k, row)) o) (rows_of r ks))
        ≡ cond (is_some o) (k ∷ filter (has_row code_cmp r.sessions) ks) (filter (has_row code_cmp r.sessions) ks)
    by None rest = rest
    by (Some row) rest = ap (λ xs. k ∷ xs) rest

keys_of_filter : (p : Code → Bool) (rows : List (Code × Session))
    → keys_of (filter (λ (row : Code × Session). p row.0) rows) ≡ filter p (keys_of rows)
keys_of_filter p [] = refl
keys_of_filter p (row ∷ rows) = by (p row.0) (keys_of_filter p rows)
  where
    by : (b : Bool) → keys_of (filter (λ (row : Code × Session). p row.0) rows) ≡ filter p (keys_of rows)
        → keys_of (cond b (row ∷ filter (λ (row : Code × Session). p row.0) rows)
        (filter (λ (row : Code × Session). p row.0) rows))
        ≡ cond b (row.0 ∷ filter p (keys_of rows)) (filter p (keys_of rows))
    by true rest = ap (λ xs. row.0 ∷ xs) rest
    by false rest = rest

row_found : (r : Relations) (q : Code) (ks : List Code)
    → row_at code_cmp (rows_of r ks) q ≡ cond (list_any (is_at (code_cmp q)) ks) (row_at code_cmp r.sessions q) None
row_found r q [] = refl
row_found r q (k ∷ ks) = by (is_at (code_cmp q) k) refl (row_at code_cmp r.sessions k) refl (row_found r q ks)
  where
    any : Bool
    any = list_any (is_at (code_cmp q)) ks

    none : (b : Bool) → cond {A = Option Session} b None None ≡ None
    none true = refl
    none false = refl

    by : (b : Bool) → is_at (code_cmp q) k ≡ b → (o : Option Session) → row_at code_cmp r.sessions k ≡ o
        → row_at code_cmp (rows_of r ks) q ≡ cond any (row_at code_cmp r.sessions q) None
        → row_at code_cmp (cons_option (option_map (λ (row : Session). (k, row)) o) (rows_of r ks)) q
        ≡ cond (b || any) (row_at code_cmp r.sessions q) None
    by true at None is rest =
        let same : q ≡ k = exact_bytes q k ((Equal-is (code_cmp q k)).0 at) in
        let missing : row_at code_cmp r.sessions q ≡ None = ap (row_at code_cmp r.sessions) same ∙ is in
        rest ∙ ap (λ o. cond any o None) missing ∙ none any ∙ sym missing
    by true at (Some row) is rest =
        let same : q ≡ k = exact_bytes q k ((Equal-is (code_cmp q k)).0 at) in
        ap (λ b. cond b (Some row) (row_at code_cmp (rows_of r ks) q)) at
        ∙ sym (ap (row_at code_cmp r.sessions) same ∙ is)
    by false at None is rest = rest
    by false at (Some row) is rest = ap (λ b. cond b (Some row) (row_at code_cmp (rows_of r ks) q)) at ∙ rest

-- ---- members

-- there is a live entry exactly if there is a live paper
any_entry : (r : Relations) (s : Code) (c : ℕ) (rows : List ((ℕ × Code) × Entry))
    → 0 < length (live_papers_in r rows s c) → list_any (is_live_entry r s c) rows ≡ true
any_entry r s c [] some = absurd (omega (arith, some))
any_entry r s c (e ∷ rows) some = by (is_live_entry r s c e) some (any_entry r s c rows)
  where
    by : (b : Bool) → 0 < length
        (map (λ (x : (ℕ × Code) × Entry). x.0.1)
        (cond b (e ∷ filter (is_live_entry r s c) rows) (filter (is_live_entry r s c) rows)))
        → (0 < length (live_papers_in r rows s c) → list_any (is_live_entry r s c) rows ≡ true)
        → (b || list_any (is_live_entry r s c) rows) ≡ true
    by true h more = refl
    by false h more = more h

no_entry : (r : Relations) (s : Code) (c : ℕ) (rows : List ((ℕ × Code) × Entry)) → live_papers_in r rows s c ≡ []
    → list_any (is_live_entry r s c) rows ≡ false
no_entry r s c [] none = refl
no_entry r s c (e ∷ rows) none = by (is_live_entry r s c e) none (no_entry r s c rows)
  where
    by : (b : Bool) → map (λ (x : (ℕ × Code) × Entry). x.0.1)
        (cond b (e ∷ filter (is_live_entry r s c) rows) (filter (is_live_entry r s c) rows)) ≡ []
        → (live_papers_in r rows s c ≡ [] → list_any (is_live_entry r s c) rows ≡ false)
        → (b || list_any (is_live_entry r s c) rows) ≡ false
    by true h more = absurd (let differ : e.0.1 ∷ live_papers_in r rows s c ≡ [] = h in cc)
    by false h more = more h

no_member : (r : Relations) (s : Code) (c : ℕ) → live_papers r s c ≡ [] → is_member r s c ≡ false
no_member r s c none =
    ap (λ b. has_row nat_cmp r.candidates c && b) (no_entry r s c r.entries none)
    ∙ and_false (has_row nat_cmp r.candidates c)
  where
    and_false : (b : Bool) → (b && false) ≡ false
    and_false true = refl
    and_false false = refl

-- with an empty list the candidate is no member
pub is_absent : (r : Relations) (s : Code) (c : ℕ) (papers : List Code) → papers ≡ live_papers r s c → papers ≡ []
    → is_member r s c ≡ false
is_absent r s c papers are none = no_member r s c (sym are ∙ none)

-- a candidate with these live papers in the session
module _ (r : Relations) (s : Code) (c : ℕ) (papers : List Code) (there : IsTrue (has_row nat_cmp r.candidates c))
    (are : papers ≡ live_papers r s c) (some : 0 < length papers) where
  live : has_live_entry r s c ≡ true
  live = any_entry r s c r.entries (subst (λ ps. 0 < length ps) are some)

  pub is_present : is_member r s c ≡ true
  is_present = ap (λ b. b && has_live_entry r s c) there ∙ live

  pub is_listed : Contains (members r s) c
  is_listed = (known_listed r s c (has_row nat_cmp r.candidates c) (has_live_entry r s c) refl there refl).0 live

  pub least_of : (d : Code) → least_live_paper r s c ≡ Some (slice_index_or papers 0 d)
  least_of d = ap head_of (sym are) ∙ first papers some
    where
      first : (ps : List Code) → 0 < length ps → head_of ps ≡ Some (slice_index_or ps 0 d)
      first [] e = absurd (omega (arith, e))
      first (p ∷ ps) e = refl

-- ---- the sessions that the candidate is a member of are among those that have lists

module _ (r : Relations) (c : ℕ) (held : List (Code × Vec Code Global))
    (are : (s : Code) → listed held s ≡ live_papers r s c) where
  abbrev pub belongs : Code → Bool
  belongs s = is_member r s c

  has_list : (q : Code) → belongs q ≡ true → list_any (is_at (code_cmp q)) (keys_of held) ≡ true
  has_list q member = by (row_at code_cmp held q) refl
    where
      any_key : (rows : List (Code × Vec Code Global))
          → is_some (row_at code_cmp rows q) ≡ list_any (is_at (code_cmp q)) (keys_of rows)
      any_key [] = refl
      any_key (row ∷ rows) = either (is_at (code_cmp q) row.0) (any_key rows)
        where
          either : (b : Bool) → is_some (row_at code_cmp rows q) ≡ list_any (is_at (code_cmp q)) (keys_of rows)
              → is_some (cond b (Some row.1) (row_at code_cmp rows q))
              ≡ (b || list_any (is_at (code_cmp q)) (keys_of rows))
          either true rest = refl
          either false rest = rest

      by : (o : Option (Vec Code Global)) → row_at code_cmp held q ≡ o
          → list_any (is_at (code_cmp q)) (keys_of held) ≡ true
      by None at =
          let none : live_papers r q c ≡ [] =
          sym (are q) ∙ ap (λ o. option_map_or (λ (list : Vec Code Global). list.items) o []) at in
          absurd (let differ : true ≡ false = sym member ∙ no_member r q c none in cc)
      by (Some list) at = sym (any_key held) ∙ ap is_some at

  same_at : (q : Code) → row_at code_cmp (filter (λ (row : Code × Session). belongs row.0) (rows_of r (keys_of held))) q
      ≡ row_at code_cmp (filter (λ (row : Code × Session). belongs row.0) r.sessions) q
  same_at q = passes (rows_of r (keys_of held)) ∙ ap (λ o. cond (belongs q) o None) (row_found r q (keys_of held))
      ∙ by (belongs q) refl ∙ sym (passes r.sessions)
    where
      tied : (k : Code) → is_at (code_cmp q) k ≡ true → belongs k ≡ belongs q
      tied k at = ap belongs (sym (exact_bytes q k ((Equal-is (code_cmp q k)).0 at)))

      passes : (rows : List (Code × Session))
          → row_at code_cmp (filter (λ (row : Code × Session). belongs row.0) rows) q
          ≡ cond (belongs q) (row_at code_cmp rows q) None
      passes rows = lookup-filter-keys (is_at (code_cmp q)) belongs (belongs q) tied rows

      by : (b : Bool) → belongs q ≡ b
          → cond b (cond (list_any (is_at (code_cmp q)) (keys_of held)) (row_at code_cmp r.sessions q) None) None
          ≡ cond b (row_at code_cmp r.sessions q) None
      by true is = ap (λ b. cond b (row_at code_cmp r.sessions q) None) (has_list q is)
      by false is = refl

  pub same_sessions : KeysRise code_cmp held → KeysRise code_cmp r.sessions
      → filter (λ (row : Code × Session). belongs row.0) (rows_of r (keys_of held))
      ≡ filter (λ (row : Code × Session). belongs row.0) r.sessions
  same_sessions up rise =
      same_rows code_cmp nat_list_cmp_total exact_bytes _ _
      (subst (IsStrictlySortedBy code_cmp)
      (sym (keys_of_filter belongs (rows_of r (keys_of held))
      ∙ ap (filter belongs) (keys_of_rows r (keys_of held))))
      (IsStrictlySortedBy-filter code_cmp belongs (filter (has_row code_cmp r.sessions) (keys_of held))
      (IsStrictlySortedBy-filter code_cmp (has_row code_cmp r.sessions) (keys_of held) up)))
      (subst (IsStrictlySortedBy code_cmp) (sym (keys_of_filter belongs r.sessions))
      (IsStrictlySortedBy-filter code_cmp belongs (keys_of r.sessions) rise))
      same_at
