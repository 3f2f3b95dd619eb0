-- What a decision leaves: references, limits, the appeals that a candidate may have only once, and the halls that fit
-- everybody else.
use Rattle.exam_laws.proofs.Words.{fun_ext, filter_map, list_all, keys_of, is_at, option_map, option_map_or, Ordering}
use Rattle.exam_laws.proofs.Words.{nat_cmp, and_parts, not-false, Appeal, Arrangement, Subject, KeysRise, Code}
use Rattle.exam_laws.proofs.Words.{Relations, appeal_cmp, has_row, is_row_of, put_row, row_at, same_code, appeal_count}
use Rattle.exam_laws.proofs.Words.{asked_arrangement, is_granted, is_granted_appeal, is_marked, is_standing}
use Rattle.exam_laws.proofs.Words.{standing_grant, standing_grants, fits, all_at_row, appeals_exact, appeals_total}
use Rattle.exam_laws.proofs.Words.{put_found, Decision, Outcome, appeal_at, bears_mark, decided, is_open, superseded}
use Rattle.exam_laws.proofs.Words.{decision_refusal, gives_way, giving_way}
use Rattle.exam_laws.proofs.Words.{grant_checks, is_made, is_too_late, not_arrangement, with_decision}
use Rattle.exam_laws.proofs.Words.{with_decided, with_outcome, with_superseded, most_appeals, within_limits}
use Rattle.exam_laws.proofs.Words.{sessions_within, papers_within, halls_within, openings_within, candidates_within}
use Rattle.exam_laws.proofs.Words.{members_within, AreSingle, SingleKey, same_single_key, single_key, unborne, passed}
use Rattle.std.proofs.Common.{◌≡◌, ℕ, ◌==◌, ◌&&◌, arith, Bool, true, false, cond, List, [], ◌∷◌, map, filter, length}
use Rattle.std.proofs.Common.{nat_eq, nat_le, not, is_some, Option, None, Some, refl, ap, sym, subst, ◌∙◌}
use Rattle.std.specs.List.{IsDistinct}
use Rattle.std.specs.List.Sorted.{IsStrictlySortedBy}
use Rattle.std.specs.Prelude.{is_none}
use Rattle.std.proofs.lemmas.Bool.{cond_both, eqb-true, false_from_ne_true, true≢false}
use Rattle.exam_rules.specs.declared.rows.Status.TheVariants as status
use Rattle.exam_types.specs.declared.refusal.Refusal.TheVariants as refusal
use Rattle.exam_rules.specs.Seatings.{desks}
use Rattle.exam_rules.proofs.Relisting.{put_filtered}
use Rattle.exam_commands.proofs.KeyedRows.{all_put, put_elsewhere}
use Rattle.exam_commands.proofs.KeyedRows.{put_keys}
use Rattle.exam_commands.specs.declared.command.Outcome.TheVariants as outcome
use Rattle.exam_commands.specs.declared.single.Single.{Single}
use Rattle.exam_commands.specs.Appeals.{supersedes}
use Rattle.exam_commands.specs.Decisions.{with_mark, without_mark}
use Rattle.exam_commands.specs.Good as good
use Rattle.exam_commands.specs.Singles.{single_as}
use Rattle.exam_laws.proofs.Appealing.{fits_same, single_flips}
use Rattle.exam_laws.proofs.ByCase.{after_decision}
use Rattle.exam_commands.proofs.Referring.{stored_refer}
use Rattle.exam_commands.proofs.Borne.{borne_in, key_elsewhere, mark_gone, open_unborne, other_mark_kept, put_borne}
use Rattle.exam_commands.proofs.Borne.{unmarked_same}
use Rattle.exam_commands.proofs.PutRows.{IsApartFrom, IsFresh, mapped_filtered, mapped_keys, put_distinct}
use Rattle.exam_commands.proofs.Superseding.{given_distinct, places_apart}

-- ---- rows

all_mapped : {R : Type 0} (p : R → Bool) (g : R → R) → ((row : R) → p (g row) ≡ p row) → (rows : List R)
    → list_all p (map g rows) ≡ list_all p rows
all_mapped p g same [] = refl
all_mapped p g same (d ∷ ds) =
    ap (λ b. b && list_all p (map g ds)) (same d) ∙ ap (λ b. p d && b) (all_mapped p g same ds)

-- a key that was there is there
mapped_there : {K X : Type 0} (cmp : K → K → Ordering) (g : K × X → K × X) → ((row : K × X) → (g row).0 ≡ row.0)
    → (rows : List (K × X)) (k : K) (x : X) → row_at cmp rows k ≡ Some x
    → (y : X) × (row_at cmp (map g rows) k ≡ Some y)
mapped_there cmp g keyed [] k x at = absurd cc
mapped_there {K} {X} cmp g keyed (d ∷ ds) k x at = inner (is_at (cmp k) d.0) refl at (mapped_there cmp g keyed ds k x)
  where
    head : (b : Bool) → is_at (cmp k) d.0 ≡ b
        → row_at cmp (g d ∷ map g ds) k ≡ cond b (Some (g d).1) (row_at cmp (map g ds) k)
    head b is = ap (λ q. cond (is_at (cmp k) q) (Some (g d).1) (row_at cmp (map g ds) k)) (keyed d)
        ∙ ap (λ t. cond t (Some (g d).1) (row_at cmp (map g ds) k)) is

    inner : (b : Bool) → is_at (cmp k) d.0 ≡ b → cond b (Some d.1) (row_at cmp ds k) ≡ Some x
        → (row_at cmp ds k ≡ Some x → (y : X) × (row_at cmp (map g ds) k ≡ Some y))
        → (y : X) × (row_at cmp (g d ∷ map g ds) k ≡ Some y)
    inner true here is rest = ((g d).1, head true here)
    inner false away is rest = let later = rest is in (later.0, head false away ∙ later.1)

-- how many rows a candidate has, by the keys alone
count_keys : {B X : Type 0} (c : ℕ) (rows : List ((ℕ × B) × X))
    → length (filter (is_row_of c) rows) ≡ length (filter (λ (k : ℕ × B). k.0 == c) (keys_of rows))
count_keys c [] = refl
count_keys {B} {X} c (d ∷ ds) = inner (d.0.0 == c) (count_keys c ds)
  where
    inner : (b : Bool) → length (filter (is_row_of c) ds) ≡ length (filter (λ (k : ℕ × B). k.0 == c) (keys_of ds))
        → length (cond b (d ∷ filter (is_row_of c) ds) (filter (is_row_of c) ds))
        ≡ length (cond b (d.0 ∷ filter (λ (k : ℕ × B). k.0 == c) (keys_of ds))
        (filter (λ (k : ℕ × B). k.0 == c) (keys_of ds)))
    inner true rest = omega (arith, rest)
    inner false rest = rest

-- ---- the appeals that gave way

-- which keep their keys
pub given_keyed : (c : ℕ) (s : Code) (asked : Subject) (row : (ℕ × Code) × Appeal)
    → (giving_way c s asked row).0 ≡ row.0
given_keyed c s asked row = grind arith

module _ (r : Relations) (c : ℕ) (a : Appeal) where
  abbrev given : (ℕ × Code) × Appeal → (ℕ × Code) × Appeal
  given row = giving_way c a.session a.subject row

  abbrev refers_at : (ℕ × Code) × Appeal → Bool
  refers_at x = has_row nat_cmp r.candidates x.0.0 && good.appeal_refers r x.1

  keyed : (row : (ℕ × Code) × Appeal) → (given row).0 ≡ row.0
  keyed row = given_keyed c a.session a.subject row

  given_refers : (row : (ℕ × Code) × Appeal) → refers_at (given row) ≡ refers_at row
  given_refers row =
      cond_both (gives_way c a.session a.subject row) _ row (λ x. refers_at x ≡ refers_at row) (λ e. refl) (λ e. refl)

  rows_refer : (o : Outcome) → list_all refers_at r.appeals ≡ true
      → list_all refers_at (with_superseded c a o r.appeals) ≡ true
  rows_refer outcome.Refuse every = every
  rows_refer _ every = all_mapped refers_at given given_refers r.appeals ∙ every

  rows_keyed : (o : Outcome) → keys_of (with_superseded c a o r.appeals) ≡ keys_of r.appeals
  rows_keyed outcome.Refuse = refl
  rows_keyed _ = mapped_keys given keyed r.appeals

  rows_there : (o : Outcome) (k : ℕ × Code) (x : Appeal) → row_at appeal_cmp r.appeals k ≡ Some x
      → (y : Appeal) × (row_at appeal_cmp (with_superseded c a o r.appeals) k ≡ Some y)
  rows_there outcome.Refuse k x at = (x, at)
  rows_there _ k x at = mapped_there appeal_cmp given keyed r.appeals k x at

  rows_distinct : (o : Outcome) → AreSingle r
      → IsDistinct same_single_key (filter_map single_key (with_superseded c a o r.appeals))
  rows_distinct outcome.Refuse distinct = distinct
  rows_distinct _ distinct = given_distinct c a.session a.subject r.appeals distinct

  -- the key of the decided appeal, if it has one
  abbrev single_if : Outcome → Code → Option SingleKey
  single_if o answer =
      option_map {U = SingleKey} (λ kind. (a.session, c, kind)) (single_as (decided o answer) a.subject)

  granted_fresh : (answer : Code)
      → IsFresh same_single_key (single_if outcome.Grant answer) (filter_map single_key (map given r.appeals))
  granted_fresh answer x is = inner (single_as (status.Granted answer) a.subject) refl is
    where
      inner : (o : Option Single) → single_as (status.Granted answer) a.subject ≡ o
          → option_map {U = SingleKey} (λ kind. (a.session, c, kind)) o ≡ Some x
          → IsApartFrom same_single_key x (filter_map single_key (map given r.appeals))
      inner None e at = absurd cc
      inner (Some kind) e at =
          let whole : SingleKey = (a.session, c, kind) in
          let one : whole ≡ x = cc in
          subst (λ z. IsApartFrom same_single_key z (filter_map single_key (map given r.appeals))) one
          (places_apart c a.session a.subject answer kind e r.appeals)

  rows_fresh : (o : Outcome) (answer : Code)
      → IsFresh same_single_key (single_if o answer) (filter_map single_key (with_superseded c a o r.appeals))
  rows_fresh outcome.Refuse answer x is = absurd cc
  rows_fresh _ answer x is = granted_fresh answer x is

  -- appeals of another candidate stay
  module _ (s : Code) (n : ℕ) (other : nat_eq c n ≡ false) where
    apart : (row : (ℕ × Code) × Appeal) → (row.0.0 == n) ≡ true → given row ≡ row
    apart row own = ap (λ b. cond (b && (same_code row.1.session a.session && supersedes a.subject row.1.subject))
        (row.0, record row.1 { status = superseded row.1.status }) row)
        (false_from_ne_true (row.0.0 == c)
        (λ here. true≢false (sym own ∙ ap (λ m. m == n) (eqb-true row.0.0 c here) ∙ other)))

    given_filtered : filter (is_granted_appeal s n) (map given r.appeals) ≡ filter (is_granted_appeal s n) r.appeals
    given_filtered = mapped_filtered (is_granted_appeal s n) given kept out r.appeals
      where
        kept : (row : (ℕ × Code) × Appeal) → is_granted_appeal s n row ≡ true → given row ≡ row
        kept row is = apart row (and_parts (row.0.0 == n) (same_code row.1.session s && is_granted row.1.status) is).0

        out : (row : (ℕ × Code) × Appeal) → is_granted_appeal s n row ≡ false
            → is_granted_appeal s n (given row) ≡ false
        out row is = inner (row.0.0 == n) refl
          where
            inner : (b : Bool) → (row.0.0 == n) ≡ b → is_granted_appeal s n (given row) ≡ false
            inner true own = ap (is_granted_appeal s n) (apart row own) ∙ is
            inner false away = ap
                (λ (k : ℕ × Code). (k.0 == n)
                && (same_code (given row).1.session s && is_granted (given row).1.status)) (keyed row)
                ∙ ap (λ b. b && (same_code (given row).1.session s && is_granted (given row).1.status)) away

    given_standing : filter (is_standing r n) (map given r.appeals) ≡ filter (is_standing r n) r.appeals
    given_standing = mapped_filtered (is_standing r n) given kept out r.appeals
      where
        kept : (row : (ℕ × Code) × Appeal) → is_standing r n row ≡ true → given row ≡ row
        kept row is = apart row (and_parts (row.0.0 == n) (is_granted row.1.status && is_marked r row.0) is).0

        out : (row : (ℕ × Code) × Appeal) → is_standing r n row ≡ false → is_standing r n (given row) ≡ false
        out row is = inner (row.0.0 == n) refl
          where
            inner : (b : Bool) → (row.0.0 == n) ≡ b → is_standing r n (given row) ≡ false
            inner true own = ap (is_standing r n) (apart row own) ∙ is
            inner false away = ap
                (λ (k : ℕ × Code). (k.0 == n) && (is_granted (given row).1.status && is_marked r (given row).0))
                (keyed row)
                ∙ ap (λ b. b && (is_granted (given row).1.status && is_marked r (given row).0)) away

    rows_filtered : (o : Outcome)
        → filter (is_granted_appeal s n) (with_superseded c a o r.appeals) ≡ filter (is_granted_appeal s n) r.appeals
    rows_filtered outcome.Refuse = refl
    rows_filtered _ = given_filtered

    -- nor do their standing grants change
    rows_standing : (o : Outcome)
        → filter (is_standing r n) (with_superseded c a o r.appeals) ≡ filter (is_standing r n) r.appeals
    rows_standing outcome.Refuse = refl
    rows_standing _ = given_standing

-- ---- marks

module _ (r : Relations) (d : Decision) where
  abbrev key : ℕ × Code
  key = (d.number, d.reference)

  -- a mark for another appeal
  pub marked_still : (k : ℕ × Code) → (k ≡ key → ⊥) → has_row appeal_cmp (with_mark d r.standing) k ≡ is_marked r k
  marked_still k apart = inner (bears_mark d.outcome)
    where
      inner : (b : Bool) → has_row appeal_cmp
          (cond b (put_row appeal_cmp r.standing key tt) (without_mark key r.standing)) k ≡ is_marked r k
      inner true = ap is_some (put_elsewhere appeal_cmp appeals_total r.standing key k tt (key_elsewhere key k apart))
      inner false = ap is_some (other_mark_kept r.standing key k apart)

  -- the decided appeal bears a mark exactly if the outcome gives it one
  pub marked_as_made : (a : Appeal) → is_marked (with_outcome r d a) key ≡ bears_mark d.outcome
  marked_as_made a = inner (bears_mark d.outcome)
    where
      inner : (b : Bool) → has_row appeal_cmp
          (cond b (put_row appeal_cmp r.standing key tt) (without_mark key r.standing)) key ≡ b
      inner true = ap is_some (put_found appeal_cmp appeals_total r.standing key tt)
      inner false = mark_gone r.standing key

  -- the standing grants of another candidate are the same
  pub others_standing_grants : (a : Appeal) (n : ℕ) → nat_eq d.number n ≡ false
      → standing_grants (with_outcome r d a) n ≡ standing_grants r n
  others_standing_grants a n other =
      ap (filter_map (λ (x : (ℕ × Code) × Appeal). standing_grant r x.1))
      (ap (λ p. filter p (put_row appeal_cmp rows key v)) (fun_ext same_test)
      ∙ put_filtered appeal_cmp appeals_exact (is_standing r n) rows key v
      (λ w. ap (λ b. b && (is_granted w.status && is_marked r key)) other)
      ∙ rows_standing r d.number a key.1 n other d.outcome)
    where
      rows : List ((ℕ × Code) × Appeal)
      rows = with_superseded d.number a d.outcome r.appeals

      v : Appeal
      v = record a { status = decided d.outcome d.answer }

      same_test : (x : (ℕ × Code) × Appeal) → is_standing (with_outcome r d a) n x ≡ is_standing r n x
      same_test x = inner (nat_eq x.0.0 n) refl
        where
          inner : (b : Bool) → nat_eq x.0.0 n ≡ b
              → (b && (is_granted x.1.status && has_row appeal_cmp (with_mark d r.standing) x.0))
              ≡ (b && (is_granted x.1.status && is_marked r x.0))
          inner true own = ap (λ m. is_granted x.1.status && m)
              (marked_still x.0 (λ same. true≢false (sym own ∙ ap (λ (k : ℕ × Code). nat_eq k.0 n) same ∙ other)))
          inner false away = refl

  pub unmarked_open : (a : Appeal) → good.marks_were_granted r ≡ true → appeal_at r d.number d.reference ≡ Some a
      → is_open a.status ≡ true → is_marked r key ≡ false
  unmarked_open a stand at open_yet =
      unborne r.appeals r.standing key stand
      (ap (λ o. option_map_or good.may_bear o false) at ∙ open_unborne a open_yet)

  -- what gave way may bear its mark as before
  given_bears : (c : ℕ) (s : Code) (asked : Subject) (row : (ℕ × Code) × Appeal)
      → good.may_bear (giving_way c s asked row).1 ≡ good.may_bear row.1
  given_bears c s asked row = grind arith

  mapped_borne : (c : ℕ) (a : Appeal) (rows : List ((ℕ × Code) × Appeal)) (m : (ℕ × Code) × Unit {0})
      → borne_in (map (giving_way c a.session a.subject) rows) m ≡ borne_in rows m
  mapped_borne c a [] m = refl
  mapped_borne c a (row ∷ rows) m =
      ap (λ k. option_map_or good.may_bear
      (cond (is_at (appeal_cmp m.0) k) (Some (giving_way c a.session a.subject row).1)
      (row_at appeal_cmp (map (giving_way c a.session a.subject) rows) m.0)) false)
      (given_keyed c a.session a.subject row)
      ∙ inner (is_at (appeal_cmp m.0) row.0) (mapped_borne c a rows m)
    where
      inner : (b : Bool) → borne_in (map (giving_way c a.session a.subject) rows) m ≡ borne_in rows m
          → option_map_or good.may_bear
          (cond b (Some (giving_way c a.session a.subject row).1)
          (row_at appeal_cmp (map (giving_way c a.session a.subject) rows) m.0)) false
          ≡ option_map_or good.may_bear (cond b (Some row.1) (row_at appeal_cmp rows m.0)) false
      inner true rest = given_bears c a.session a.subject row
      inner false rest = rest

  rows_borne : (a : Appeal) (o : Outcome) (m : (ℕ × Code) × Unit {0})
      → borne_in (with_superseded d.number a o r.appeals) m ≡ borne_in r.appeals m
  rows_borne a outcome.Refuse m = refl
  rows_borne a _ m = mapped_borne d.number a r.appeals m

  marks_after : (a : Appeal) → good.marks_were_granted r ≡ true → appeal_at r d.number d.reference ≡ Some a
      → is_open a.status ≡ true
      → (o : Outcome) → d.outcome ≡ o → (bears_mark o && is_none (asked_arrangement a.subject)) ≡ false
      → good.marks_were_granted (with_outcome r d a) ≡ true
  marks_after a stand at open_yet o is fits_mark = inner o is fits_mark
    where
      v : Appeal
      v = record a { status = decided d.outcome d.answer }

      after : (ℕ × Code) × Unit {0} → Bool
      after = borne_in (put_row appeal_cmp (with_superseded d.number a d.outcome r.appeals) key v)

      old : list_all after r.standing ≡ true
      old = put_borne (with_superseded d.number a d.outcome r.appeals) key v r.standing
          (unmarked_open a stand at open_yet)
          (ap (λ p. list_all p r.standing) (fun_ext (rows_borne a d.outcome)) ∙ stand)

      asked : (wanted : Option Arrangement) → (true && is_none wanted) ≡ false → (is_some wanted && true) ≡ true
      asked wanted off = grind arith

      inner : (o : Outcome) → d.outcome ≡ o → (bears_mark o && is_none (asked_arrangement a.subject)) ≡ false
          → good.marks_were_granted (with_outcome r d a) ≡ true
      inner outcome.Standing is fits_mark =
          ap (λ o. list_all after
          (cond (bears_mark o) (put_row appeal_cmp r.standing key tt) (without_mark key r.standing))) is
          ∙ all_put appeal_cmp appeals_exact after r.standing key tt old
          (ap (λ o. option_map_or good.may_bear o false)
          (put_found appeal_cmp appeals_total (with_superseded d.number a d.outcome r.appeals) key v)
          ∙ ap (λ o. is_some (asked_arrangement a.subject) && good.was_granted (decided o d.answer)) is
          ∙ asked (asked_arrangement a.subject) fits_mark)
      inner _ is fits_mark =
          ap (λ o. list_all after
          (cond (bears_mark o) (put_row appeal_cmp r.standing key tt) (without_mark key r.standing))) is
          ∙ ap (list_all after) (unmarked_same r.standing key (unmarked_open a stand at open_yet)) ∙ old

  pub decision_marks : (today : ℕ) → good.marks_were_granted r ≡ true → decision_refusal r today d ≡ None
      → good.marks_were_granted (with_decision r d) ≡ true
  decision_marks today stand ok =
      after_decision r (λ t. good.marks_were_granted t ≡ true) today d ok (λ a at made. stand)
      (λ a at checked.
      let opened = passed (not (is_open a.status)) refusal.NotOpenAppeal
      ((is_too_late r a.session today, refusal.TooLate) ∷ not_arrangement a d.outcome
      ∷ grant_checks r d.number a d.outcome) checked in
      let timely = passed (is_too_late r a.session today) refusal.TooLate
      (not_arrangement a d.outcome ∷ grant_checks r d.number a d.outcome) opened.1 in
      let suited = passed (not_arrangement a d.outcome).0 refusal.NotArrangement
      (grant_checks r d.number a d.outcome) timely.1 in
      marks_after a stand at (not-false (is_open a.status) opened.0) d.outcome refl suited.0)

-- ---- a decision

module _ (r : Relations) (d : Decision) where
  -- what holds before, and for each appeal with a new decision, holds after
  pub either : (P : Relations → Type 0) → P r
      → ((a : Appeal) → appeal_at r d.number d.reference ≡ Some a → P (with_outcome r d a)) → P (with_decision r d)
  either P before anew = inner (appeal_at r d.number d.reference) refl
    where
      inner : (o : Option Appeal) → appeal_at r d.number d.reference ≡ o → P (with_decided r d o)
      inner None is = before
      inner (Some a) is = by_case (is_made r d a)
        where
          by_case : (b : Bool) → P (cond b r (with_outcome r d a))
          by_case true = before
          by_case false = anew a is

  pub decision_refers : good.refers r ≡ true → good.refers (with_decision r d) ≡ true
  decision_refers every = either (λ t. good.refers t ≡ true) every anew
    where
      old : good.appeals_refer r ≡ true
      old = stored_refer r every

      anew : (a : Appeal) → appeal_at r d.number d.reference ≡ Some a → good.refers (with_outcome r d a) ≡ true
      anew a stored =
          let now : good.appeals_refer (with_outcome r d a) ≡ true =
          all_put appeal_cmp appeals_exact (refers_at r d.number a) (with_superseded d.number a d.outcome r.appeals)
          (d.number, d.reference) (record a { status = decided d.outcome d.answer })
          (rows_refer r d.number a d.outcome old)
          (all_at_row appeal_cmp appeals_exact (refers_at r d.number a) r.appeals
          (d.number, d.reference) a old stored) in
          ap (λ b. good.papers_refer r
          && (good.openings_refer r && (good.entries_refer r && (good.arrangements_refer r && b)))) (now ∙ sym old)
          ∙ every

  -- as many appeals of each candidate, and no other table changes
  pub decision_within : KeysRise appeal_cmp r.appeals → within_limits (with_decision r d) ≡ within_limits r
  decision_within up = either (λ t. within_limits t ≡ within_limits r) refl anew
    where
      anew : (a : Appeal) → appeal_at r d.number d.reference ≡ Some a
          → within_limits (with_outcome r d a) ≡ within_limits r
      anew a stored =
          let rows : List ((ℕ × Code) × Appeal) = with_superseded d.number a d.outcome r.appeals in
          let v : Appeal = record a { status = decided d.outcome d.answer } in
          let there = rows_there r d.number a d.outcome (d.number, d.reference) a stored in
          let keyed : keys_of rows ≡ keys_of r.appeals = rows_keyed r d.number a d.outcome in
          let keys : keys_of (put_row appeal_cmp rows (d.number, d.reference) v) ≡ keys_of r.appeals =
          put_keys appeal_cmp appeals_total rows (d.number, d.reference) v there.0
          (subst (λ ks. IsStrictlySortedBy appeal_cmp ks) (sym keyed) up) there.1 ∙ keyed in
          let counts : (c : ℕ) → appeal_count (with_outcome r d a) c ≡ appeal_count r c =
          λ c. count_keys c (put_row appeal_cmp rows (d.number, d.reference) v)
          ∙ ap (λ ks. length (filter (λ (k : ℕ × Code). k.0 == c) ks)) keys ∙ sym (count_keys c r.appeals) in
          ap (λ (n : ℕ → ℕ). sessions_within r
          && (papers_within r &&
          (halls_within r && (openings_within r
          && (candidates_within r
          && (members_within r && list_all (λ c. nat_le (n c) most_appeals) (keys_of r.candidates)))))))
          (fun_ext counts)

  pub decision_single : AreSingle r → AreSingle (with_decision r d)
  decision_single distinct = either AreSingle distinct anew
    where
      anew : (a : Appeal) → appeal_at r d.number d.reference ≡ Some a → AreSingle (with_outcome r d a)
      anew a stored =
          put_distinct appeal_cmp appeals_exact single_key same_single_key single_flips
          (with_superseded d.number a d.outcome r.appeals) (d.number, d.reference)
          (record a { status = decided d.outcome d.answer })
          (rows_fresh r d.number a d.outcome d.answer) (rows_distinct r d.number a d.outcome distinct)

  pub decision_fits : (s : Code) (c : ℕ) → nat_eq d.number c ≡ false → (h : Code)
      → fits (with_decision r d) s c h ≡ fits r s c h
  decision_fits s c other h = either (λ t. fits t s c h ≡ fits r s c h) refl anew
    where
      anew : (a : Appeal) → appeal_at r d.number d.reference ≡ Some a → fits (with_outcome r d a) s c h ≡ fits r s c h
      anew a stored =
          let rows : List ((ℕ × Code) × Appeal) = with_superseded d.number a d.outcome r.appeals in
          let v : Appeal = record a { status = decided d.outcome d.answer } in
          fits_same r (put_row appeal_cmp rows (d.number, d.reference) v) (with_mark d r.standing) s c
          (ap (map (λ (x : (ℕ × Code) × Appeal). x.1.subject))
          (put_filtered appeal_cmp appeals_exact (is_granted_appeal s c) rows (d.number, d.reference) v
          (λ w. ap (λ b. b && (same_code w.session s && is_granted w.status)) other)
          ∙ rows_filtered r d.number a s c other d.outcome))
          (others_standing_grants r d a c other) h

  pub decision_desks : (s h : Code) → desks (with_decision r d) s h ≡ desks r s h
  decision_desks s h = either (λ t. desks t s h ≡ desks r s h) refl (λ a stored. refl)

  pub decision_candidates : (with_decision r d).candidates ≡ r.candidates
  decision_candidates = either (λ t. t.candidates ≡ r.candidates) refl (λ a stored. refl)
