-- In tables that hold a good office, each row has what it refers to.
use Rattle.std.proofs.Common.{◌≡◌, ◌&&◌, inl, inr, ℕ, pos, List, [], ◌∷◌, map, cond, Bool, true, false, Option, Some}
use Rattle.std.proofs.Common.{arith, is_some, option_map, option_and_then, IfSome, IsTrue, Ordering, refl, sym}
use Rattle.std.proofs.Common.{ap}
use Rattle.std.proofs.Common.{subst}
use Rattle.std.specs.BTreeMap.{is_at}
use Rattle.std.specs.Cmp.{Equal-is}
use Rattle.std.specs.Cmp.Derive.{both_true}
use Rattle.std.specs.List.{AllByRecursion, list_any}
use Rattle.std.specs.Map.{keys_of, lookup}
use Rattle.std.specs.Option.{option_map_or}
use Rattle.std.specs.Ordering.{is_eq, nat_cmp}
use Rattle.std.proofs.lemmas.Bool.{and_parts, cases_Bool, or_left, or_right}
use Rattle.std.proofs.lemmas.Cmp.{eq_by_cmp_equiv}
use Rattle.std.proofs.lemmas.List.Sorted.{IsPermutation-sym}
use Rattle.std.proofs.lemmas.Map.Keys.{IsDistinct-from_sorted}
use Rattle.std.proofs.lemmas.Map.Lookups.{exact_bytes, exact_unsigned}
use Rattle.std.proofs.lemmas.Map.Views.{lookup-from_Contains}
use Rattle.sqlite_value.specs.declared.value.Value.TheVariants.{Null, Text}
use Rattle.sqlite_value.specs.Order.{Row}
use Rattle.sqlite_value.specs.Keys.{plain, first_key}
use Rattle.sqlite_trees.specs.Tree.{Trees}
use Rattle.sqlite_schema.specs.Rules.{agree, equal}
use Rattle.sqlite_rules.specs.Lists.{Has}
use Rattle.sqlite_rules.proofs.ListLemmas.{all_from, test_has, some_from, some_has, has_contained, contains_had}
use Rattle.sqlite_rules.proofs.ProbeLemmas.{has_mapped, mapped_has}
use Rattle.exam_sql.proofs.Keys.{equal_itself, text_itself}
use Rattle.exam_sql.proofs.Queries.{has_permuted}
use Rattle.exam_sql.proofs.References.{AllRefer, LinkHolds, link}
use Rattle.exam_rules.specs.Orders.{KeysRise}
use Rattle.exam_rules.specs.Relations.{Code, Relations, appeal_cmp, code_cmp, opening_cmp, seat_cmp, has_row, row_at}
use Rattle.exam_rules.specs.Seatings.{plan_of, suits_opened, room_of, sitting_terms, fits}
use Rattle.exam_rules.specs.Sessions.{has_live_entry}
use Rattle.exam_rules.specs.declared.fit.Terms.{Terms}
use Rattle.exam_rules.specs.declared.rows.Appeal.{Appeal}
use Rattle.exam_rules.specs.declared.rows.Hall.{Hall}
use Rattle.exam_rules.specs.declared.rows.Opening.{Opening}
use Rattle.exam_rules.specs.declared.rows.Candidate.{Candidate}
use Rattle.exam_rules.specs.Tables as table
use Rattle.exam_commands.proofs.KeyedRows.{seats_total}
use Rattle.exam_commands.specs.Good.{IsGood, papers_refer, openings_refer, entries_refer, arrangements_refer}
use Rattle.exam_commands.specs.Good.{appeals_refer, may_bear}
use Rattle.exam_commands.specs.State.{State}
use Rattle.exam_commands.proofs.Members.{kept_from}
use Rattle.exam_tables.specs.Held.{HoldsRows}
use Rattle.exam_store.specs.Kept.{HoldsOffice}
use Rattle.exam_tables.specs.Rows.{session_row, paper_row, hall_row, candidate_row, opening_row, entry_row}
use Rattle.exam_tables.specs.Rows.{arrangement_row, appeal_row, standing_row, seat_row}
use Rattle.exam_tables.specs.Stored.{whole}
use Rattle.exam_tables.proofs.Exact.{appeals_exact, openings_exact}

-- a row that is looked up is among the rows
found : {K X : Type 0} (cmp : K → K → Ordering) (k : K) (stored : K × X → Row) (test : Row → Bool)
    → ((e : K × X) → is_eq (cmp k e.0) ≡ true → test (stored e) ≡ true) → (rows : List (K × X))
    → has_row cmp rows k ≡ true → list_any test (map stored rows) ≡ true
found cmp k stored test tells [] has = absurd cc
found cmp k stored test tells (e ∷ rows) has = elim (cases_Bool (is_eq (cmp k e.0))) [
  | inl is ↦ or_left _ _ (tells e is)
  | inr other ↦ or_right _ _
      (found cmp k stored test tells rows
      (subst (λ b. is_some (cond b (Some e.1) (lookup (is_at (cmp k)) rows)) ≡ true) other has))
]

by_code : {X : Type 0} (row : Code → X → Row) (k : Code) (test : Row → Bool)
    → ((e : Code × X) → test (Null ∷ row e.0 e.1) ≡ (equal (first_key plain).collation (Text e.0) (Text k) && true))
    → (rows : List (Code × X)) → has_row code_cmp rows k ≡ true
    → list_any test (map (λ e. Null ∷ row e.0 e.1) rows) ≡ true
by_code {X} row k test means rows has =
    found code_cmp k (λ (e : Code × X). Null ∷ row e.0 e.1) test
    (λ e is. subst (λ b. b ≡ true) (sym (means e))
    (subst (λ j. (equal (first_key plain).collation (Text j) (Text k) && true) ≡ true)
    (exact_bytes k e.0 ((Equal-is (code_cmp k e.0)).0 is)) (both_true (text_itself k) refl))) rows has

candidate_by : (k : ℕ) (test : Row → Bool)
    → ((e : ℕ × Candidate)
    → test (Null ∷ candidate_row e.0 e.1) ≡ (equal (first_key plain).collation (whole e.0) (whole k) && true))
    → (rows : List (ℕ × Candidate)) → has_row nat_cmp rows k ≡ true
    → list_any test (map (λ e. Null ∷ candidate_row e.0 e.1) rows) ≡ true
candidate_by k test means rows has =
    found nat_cmp k (λ (e : ℕ × Candidate). Null ∷ candidate_row e.0 e.1) test
    (λ e is. subst (λ b. b ≡ true) (sym (means e))
    (subst (λ j. (equal (first_key plain).collation (whole j) (whole k) && true) ≡ true)
    (exact_unsigned k e.0 ((Equal-is (nat_cmp k e.0)).0 is)) (both_true (equal_itself (pos k)) refl))) rows has

opening_by : (k : Code × Code) (test : Row → Bool)
    → ((e : (Code × Code) × Opening)
    → test (Null ∷ opening_row e.0 e.1)
    ≡ (equal (first_key plain).collation (Text e.0.0) (Text k.0)
    && (equal (first_key plain).collation (Text e.0.1) (Text k.1) && true)))
    → (rows : List ((Code × Code) × Opening)) → has_row opening_cmp rows k ≡ true
    → list_any test (map (λ e. Null ∷ opening_row e.0 e.1) rows) ≡ true
opening_by k test means rows has =
    found opening_cmp k (λ (e : (Code × Code) × Opening). Null ∷ opening_row e.0 e.1) test
    (λ e is. subst (λ b. b ≡ true) (sym (means e))
    (subst (λ (j : Code × Code).
    (equal (first_key plain).collation (Text j.0) (Text k.0)
    && (equal (first_key plain).collation (Text j.1) (Text k.1) && true)) ≡ true)
    (openings_exact.keys k e.0 ((Equal-is (opening_cmp k e.0)).0 is))
    (both_true (text_itself k.0) (both_true (text_itself k.1) refl)))) rows has

appeal_by : (k : ℕ × Code) (test : Row → Bool)
    → ((e : (ℕ × Code) × Appeal)
    → test (Null ∷ appeal_row e.0 e.1)
    ≡ (equal (first_key plain).collation (whole e.0.0) (whole k.0)
    && (equal (first_key plain).collation (Text e.0.1) (Text k.1) && true)))
    → (rows : List ((ℕ × Code) × Appeal)) → has_row appeal_cmp rows k ≡ true
    → list_any test (map (λ e. Null ∷ appeal_row e.0 e.1) rows) ≡ true
appeal_by k test means rows has =
    found appeal_cmp k (λ (e : (ℕ × Code) × Appeal). Null ∷ appeal_row e.0 e.1) test
    (λ e is. subst (λ b. b ≡ true) (sym (means e))
    (subst (λ (j : ℕ × Code).
    (equal (first_key plain).collation (whole j.0) (whole k.0)
    && (equal (first_key plain).collation (Text j.1) (Text k.1) && true)) ≡ true)
    (appeals_exact.keys k e.0 ((Equal-is (appeal_cmp k e.0)).0 is))
    (both_true (equal_itself (pos k.0)) (both_true (text_itself k.1) refl)))) rows has

-- rows refer as the entries do that they represent
module _ {K X L Y : Type 0} (child_row : K → X → Row) (parent_row : L → Y → Row) (children : List (K × X))
    (parents : List (L × Y)) (child parent : List Row) (held_child : HoldsRows child_row children child)
    (held_parent : HoldsRows parent_row parents parent) (test : Row → Row → Bool) where
  refer_by : ((x : K × X) → Has children x
      → list_any (λ p. test p (Null ∷ child_row x.0 x.1)) (map (λ e. Null ∷ parent_row e.0 e.1) parents) ≡ true)
      → AllByRecursion (λ r. list_any (λ p. test p r) parent ≡ true) child
  refer_by each = all_from _ child (λ r h.
      let x = has_mapped (λ (e : K × X). Null ∷ child_row e.0 e.1) children r (has_permuted _ _ r held_child h) in
      let p = some_has (λ p. test p (Null ∷ child_row x.0.0 x.0.1)) _ (each x.0 x.1) in
      some_from (λ p. test p r) parent p.0 (has_permuted _ _ p.0 (IsPermutation-sym _ _ held_parent) p.1)
      (subst (λ q. test p.0 q ≡ true) (sym x.2) p.2))

-- a hall that suits anybody is opened
opened : (terms : Option Terms) (hall : Option Hall) (opening : Option Opening)
    → suits_opened terms (option_and_then (λ hall. option_map (room_of hall) opening) hall) ≡ true
    → is_some opening ≡ true
opened terms hall opening suits = grind arith

-- what bears a mark is there
borne : (appeal : Option Appeal) → option_map_or may_bear appeal false ≡ true → is_some appeal ≡ true
borne appeal bears = grind arith

module _ (all : Trees) (office : State) (good : IsGood office) (rises : KeysRise seat_cmp office.seats)
    (held : HoldsOffice all office) where
  abbrev r : Relations
  r = office.relations

  refer : IsTrue (papers_refer r) × IsTrue (openings_refer r) × IsTrue (entries_refer r)
      × IsTrue (arrangements_refer r) × IsTrue (appeals_refer r)
  refer =
      let papers = and_parts _ _ good.refer in
      let openings = and_parts _ _ papers.1 in
      let entries = and_parts _ _ openings.1 in
      let others = and_parts _ _ entries.1 in
      (papers.0, openings.0, entries.0, others.0, others.1)

  paper_session : LinkHolds all (link 3 (3 ∷ []) 1 (1 ∷ []))
  paper_session = refer_by paper_row session_row r.papers r.sessions (all 3) (all 1) (held.facts table.Papers)
      (held.facts table.Sessions) (λ p c. agree plain (1 ∷ []) p (3 ∷ []) c)
      (λ x h. by_code session_row x.1.session _ (λ e. refl) r.sessions (test_has _ r.papers x refer.0 h))

  opening_session : LinkHolds all (link 8 (1 ∷ []) 1 (1 ∷ []))
  opening_session = refer_by opening_row session_row r.openings r.sessions (all 8) (all 1) (held.facts table.Openings)
      (held.facts table.Sessions) (λ p c. agree plain (1 ∷ []) p (1 ∷ []) c)
      (λ x h. by_code session_row x.0.0 _ (λ e. refl) r.sessions (and_parts _ _ (test_has _ r.openings x refer.1 h)).0)

  opening_hall : LinkHolds all (link 8 (2 ∷ []) 5 (1 ∷ []))
  opening_hall = refer_by opening_row hall_row r.openings r.halls (all 8) (all 5) (held.facts table.Openings)
      (held.facts table.Halls) (λ p c. agree plain (1 ∷ []) p (2 ∷ []) c)
      (λ x h. by_code hall_row x.0.1 _ (λ e. refl) r.halls (and_parts _ _ (test_has _ r.openings x refer.1 h)).1)

  entry_candidate : LinkHolds all (link 10 (1 ∷ []) 7 (1 ∷ []))
  entry_candidate = refer_by entry_row candidate_row r.entries r.candidates (all 10) (all 7) (held.facts table.Entries)
      (held.facts table.Candidates) (λ p c. agree plain (1 ∷ []) p (1 ∷ []) c)
      (λ x h. candidate_by x.0.0 _ (λ e. refl) r.candidates (and_parts _ _ (test_has _ r.entries x refer.2 h)).0)

  entry_paper : LinkHolds all (link 10 (2 ∷ []) 3 (1 ∷ []))
  entry_paper = refer_by entry_row paper_row r.entries r.papers (all 10) (all 3) (held.facts table.Entries)
      (held.facts table.Papers) (λ p c. agree plain (1 ∷ []) p (2 ∷ []) c)
      (λ x h. by_code paper_row x.0.1 _ (λ e. refl) r.papers (and_parts _ _ (test_has _ r.entries x refer.2 h)).1)

  arrangement_candidate : LinkHolds all (link 12 (1 ∷ []) 7 (1 ∷ []))
  arrangement_candidate =
      refer_by arrangement_row candidate_row r.arrangements r.candidates (all 12) (all 7)
      (held.facts table.Arrangements) (held.facts table.Candidates) (λ p c. agree plain (1 ∷ []) p (1 ∷ []) c)
      (λ x h. candidate_by x.0 _ (λ e. refl) r.candidates (test_has _ r.arrangements x refer.3 h))

  appeal_candidate : LinkHolds all (link 13 (1 ∷ []) 7 (1 ∷ []))
  appeal_candidate = refer_by appeal_row candidate_row r.appeals r.candidates (all 13) (all 7)
      (held.facts table.Appeals) (held.facts table.Candidates) (λ p c. agree plain (1 ∷ []) p (1 ∷ []) c)
      (λ x h. candidate_by x.0.0 _ (λ e. refl) r.candidates (and_parts _ _ (test_has _ r.appeals x refer.4 h)).0)

  appeal_session : LinkHolds all (link 13 (3 ∷ []) 1 (1 ∷ []))
  appeal_session = refer_by appeal_row session_row r.appeals r.sessions (all 13) (all 1) (held.facts table.Appeals)
      (held.facts table.Sessions) (λ p c. agree plain (1 ∷ []) p (3 ∷ []) c)
      (λ x h. by_code session_row x.1.session _ (λ e. refl) r.sessions
      (and_parts _ _ (and_parts _ _ (test_has _ r.appeals x refer.4 h)).1).0)

  standing_appeal : LinkHolds all (link 17 (1 ∷ 2 ∷ []) 13 (1 ∷ 2 ∷ []))
  standing_appeal = refer_by standing_row appeal_row r.standing r.appeals (all 17) (all 13) (held.facts table.Standing)
      (held.facts table.Appeals) (λ p c. agree plain (1 ∷ 2 ∷ []) p (1 ∷ 2 ∷ []) c)
      (λ x h. appeal_by x.0 _ (λ e. refl) r.appeals
      (borne (row_at appeal_cmp r.appeals x.0) (test_has _ r.standing x good.marks h)))

  -- a seat is where its candidate sits
  sits : (x : (Code × ℕ) × Code) → Has office.seats x → plan_of office.seats x.0.0 x.0.1 ≡ Some x.1
  sits x h = lookup-from_Contains (eq_by_cmp_equiv seats_total) x.0 x.1 office.seats
      (IsDistinct-from_sorted seat_cmp (keys_of office.seats) rises) (contains_had office.seats x h)

  -- who sits is a candidate
  seated : (x : (Code × ℕ) × Code) → Has office.seats x → Has (keys_of r.candidates) x.0.1
  seated x h = has_contained _ x.0.1
      (kept_from (has_live_entry r x.0.0) (keys_of r.candidates) x.0.1
      ((good.best x.0.0).lawful.members x.0.1 (ap is_some (sits x h))))

  -- in a hall that is opened
  sits_opened : (x : (Code × ℕ) × Code) → Has office.seats x → has_row opening_cmp r.openings (x.0.0, x.1) ≡ true
  sits_opened x h =
      let fitting : fits r x.0.0 x.0.1 x.1 ≡ true =
      subst (λ o. IfSome o (λ hall. IsTrue (fits r x.0.0 x.0.1 hall))) (sits x h)
      ((good.best x.0.0).lawful.fitting x.0.1) in
      opened (sitting_terms r x.0.0 x.0.1) (row_at code_cmp r.halls x.1) (row_at opening_cmp r.openings (x.0.0, x.1))
      (and_parts _ _ (and_parts _ _ fitting).1).0

  seat_candidate : LinkHolds all (link 15 (2 ∷ []) 7 (1 ∷ []))
  seat_candidate = refer_by seat_row candidate_row office.seats r.candidates (all 15) (all 7) held.seats
      (held.facts table.Candidates) (λ p c. agree plain (1 ∷ []) p (2 ∷ []) c)
      (λ x h.
      let e = has_mapped (λ (e : ℕ × Candidate). e.0) r.candidates x.0.1 (seated x h) in
      some_from _ _ (Null ∷ candidate_row e.0.0 e.0.1)
      (mapped_has (λ (e : ℕ × Candidate). Null ∷ candidate_row e.0 e.1) r.candidates e.0 e.1)
      (subst (λ m. (equal (first_key plain).collation (whole m) (whole x.0.1) && true) ≡ true) e.2
      (both_true (equal_itself (pos x.0.1)) refl)))

  seat_opening : LinkHolds all (link 15 (1 ∷ 3 ∷ []) 8 (1 ∷ 2 ∷ []))
  seat_opening = refer_by seat_row opening_row office.seats r.openings (all 15) (all 8) held.seats
      (held.facts table.Openings) (λ p c. agree plain (1 ∷ 2 ∷ []) p (1 ∷ 3 ∷ []) c)
      (λ x h. opening_by (x.0.0, x.1) _ (λ e. refl) r.openings (sits_opened x h))

  pub all_refer : AllRefer all
  all_refer = (
    paper_session,
    (
      opening_session,
      (
        opening_hall,
        (
          entry_candidate,
          (
            entry_paper,
            (
              arrangement_candidate,
              (appeal_candidate, (appeal_session, (seat_candidate, (seat_opening, (standing_appeal, tt))))),
            ),
          ),
        ),
      ),
    ),
  )
