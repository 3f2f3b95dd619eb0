-- What a candidate sees of themselves determines what the office looks up about them: their appeal with a reference,
-- their session, their live papers, whether one of their appeals is open, and how many they have.
use Rattle.exam_laws.proofs.Words.{list_all, list_any, cons_option, filter_map, is_at, Equal-is, nat_cmp_total}
use Rattle.exam_laws.proofs.Words.{nat_list_cmp_total, keys_of, option_and_then, option_map_or, nat_cmp, Ordering}
use Rattle.exam_laws.proofs.Words.{and_parts, sorted_head, sorted_tail, exact_bytes, exact_unsigned, exact_unsigned_eq}
use Rattle.exam_laws.proofs.Words.{Appeal, Entry, Session, Subject, KeysRise, Code, Relations, appeal_cmp, code_cmp}
use Rattle.exam_laws.proofs.Words.{entry_cmp, has_row, is_row_of, row_at, same_code, is_live_entry, is_paper_of}
use Rattle.exam_laws.proofs.Words.{entries_total, is_open, OwnSessionRow}
use Rattle.std.proofs.Common.{◌≡◌, ℕ, ◌&&◌, ◌||◌, Bool, true, false, cond, List, [], ◌∷◌, filter, map, nat_eq, Option}
use Rattle.std.proofs.Common.{None, Some, arith, true≢false, is_some, eq-eqb, refl, ap, sym, ◌∙◌}
use Rattle.std.specs.Cmp.Lexicographic.{texts_ties}
use Rattle.std.specs.Ordering.{is_eq, ordering_then}
use Rattle.std.specs.declared.cmp.Ordering.TheVariants.{Equal}
use Rattle.std.proofs.lemmas.Cmp.{tied_itself}
use Rattle.exam_rules.specs.Sessions.{live_papers_in}
use Rattle.exam_commands.proofs.KeyedRows.{past_all}
use Rattle.exam_commands.specs.Appeals.{is_open_appeal, same_kind}
use Rattle.exam_commands.specs.declared.own.OwnAppeal.{OwnAppeal}
use Rattle.exam_commands.specs.Own.{own_appeal, own_appeals}

-- ---- looking up

-- the key of another candidate is another one
other_key : (c n : ℕ) (p q : Code) → nat_eq n c ≡ false → is_eq (ordering_then (nat_cmp c n) (code_cmp p q)) ≡ false
other_key c n p q other = inner (nat_cmp c n) refl
  where
    inner : (o : Ordering) → nat_cmp c n ≡ o → is_eq (ordering_then o (code_cmp p q)) ≡ false
    inner Equal is = absurd (true≢false (sym (eq-eqb n c (sym (exact_unsigned c n is))) ∙ other))
    inner _ is = refl

-- of keys of one candidate the second parts decide
own_key : (c n : ℕ) (p q : Code) → nat_eq n c ≡ true
    → is_eq (ordering_then (nat_cmp c n) (code_cmp p q)) ≡ is_eq (code_cmp p q)
own_key c n p q own =
    let same : n ≡ c = exact_unsigned_eq n c own in
    ap (λ o. is_eq (ordering_then o (code_cmp p q))) (ap (nat_cmp c) same ∙ tied_itself nat_cmp_total c)

-- ---- appeals

abbrev pub AppealRows : Type 0
AppealRows = List ((ℕ × Code) × Appeal)

-- the candidate's appeals among these
abbrev pub own_among : ℕ → AppealRows → List (Code × Appeal)
own_among c rows = map (λ (a : (ℕ × Code) × Appeal). (a.0.1, a.1)) (filter (is_row_of c) rows)

pub map_twice : {X Y Z : Type 0} (f : X → Y) (g : Y → Z) (xs : List X) → map g (map f xs) ≡ map (λ x. g (f x)) xs
map_twice f g [] = refl
map_twice f g (x ∷ xs) = ap (λ t. g (f x) ∷ t) (map_twice f g xs)

-- the reference of an appeal that is shown, and its row
abbrev pub pair_of : OwnAppeal → Code × Appeal
pair_of a = (a.reference, a.appeal)

pub pairs_own : (r : Relations) (c : ℕ) → map pair_of (own_appeals r c) ≡ own_among c r.appeals
pairs_own r c = map_twice (own_appeal r) pair_of (filter (is_row_of c) r.appeals)

pub appeal_found : (c : ℕ) (reference : Code) (rows : AppealRows)
    → row_at appeal_cmp rows (c, reference) ≡ row_at code_cmp (own_among c rows) reference
appeal_found c reference [] = refl
appeal_found c reference (a ∷ rows) = inner (nat_eq a.0.0 c) refl (appeal_found c reference rows)
  where
    inner : (b : Bool) → nat_eq a.0.0 c ≡ b
        → row_at appeal_cmp rows (c, reference) ≡ row_at code_cmp (own_among c rows) reference
        → row_at appeal_cmp (a ∷ rows) (c, reference)
        ≡ row_at code_cmp (map (λ (a : (ℕ × Code) × Appeal). (a.0.1, a.1))
        (cond b (a ∷ filter (is_row_of c) rows) (filter (is_row_of c) rows))) reference
    inner true own rest =
        ap (λ b. cond b (Some a.1) (row_at appeal_cmp rows (c, reference))) (own_key c a.0.0 reference a.0.1 own)
        ∙ ap (λ o. cond (is_eq (code_cmp reference a.0.1)) (Some a.1) o) rest
    inner false other rest =
        ap (λ b. cond b (Some a.1) (row_at appeal_cmp rows (c, reference))) (other_key c a.0.0 reference a.0.1 other)
        ∙ rest

-- an open appeal for the session, of the kind
abbrev pub is_own_open : Code → Subject → Code × Appeal → Bool
is_own_open s asked a = same_code a.1.session s && (same_kind a.1.subject asked && is_open a.1.status)

pub open_found : (c : ℕ) (s : Code) (asked : Subject) (rows : AppealRows)
    → list_any (is_open_appeal c s asked) rows ≡ list_any (is_own_open s asked) (own_among c rows)
open_found c s asked [] = refl
open_found c s asked (a ∷ rows) = inner (nat_eq a.0.0 c) (open_found c s asked rows)
  where
    inner : (b : Bool) → list_any (is_open_appeal c s asked) rows ≡ list_any (is_own_open s asked) (own_among c rows)
        → ((b && is_own_open s asked (a.0.1, a.1)) || list_any (is_open_appeal c s asked) rows)
        ≡ list_any (is_own_open s asked)
        (map (λ (a : (ℕ × Code) × Appeal). (a.0.1, a.1))
        (cond b (a ∷ filter (is_row_of c) rows) (filter (is_row_of c) rows)))
    inner true rest = ap (λ b. is_own_open s asked (a.0.1, a.1) || b) rest
    inner false rest = rest

-- ---- live papers

pub live_found : (r : Relations) (s : Code) (c : ℕ) (p : Code) (es : List ((ℕ × Code) × Entry)) → KeysRise entry_cmp es
    → (option_map_or (λ (entry : Entry). entry.live) (row_at entry_cmp es (c, p)) false && is_paper_of r s p)
    ≡ list_any (same_code p) (live_papers_in r es s c)
live_found r s c p [] up = refl
live_found r s c p (e ∷ es) up =
    by_owner (nat_eq e.0.0 c) refl (live_found r s c p es (sorted_tail entry_cmp e.0 (keys_of es) up))
  where
    rest_found : Bool
    rest_found = option_map_or (λ (entry : Entry). entry.live) (row_at entry_cmp es (c, p)) false && is_paper_of r s p

    papers_with : Bool → List Code
    papers_with b = map (λ (x : (ℕ × Code) × Entry). x.0.1)
        (cond b (e ∷ filter (is_live_entry r s c) es) (filter (is_live_entry r s c) es))

    found_with : Bool → Bool
    found_with b = option_map_or (λ (entry : Entry). entry.live) (cond b (Some e.1) (row_at entry_cmp es (c, p))) false
        && is_paper_of r s p

    -- a paper that is not the entry's is found among the others
    passed_over : (b : Bool) → same_code p e.0.1 ≡ false
        → list_any (same_code p) (papers_with b) ≡ list_any (same_code p) (live_papers_in r es s c)
    passed_over true other = ap (λ t. t || list_any (same_code p) (live_papers_in r es s c)) other
    passed_over false other = refl

    -- the entry's own paper
    at_live : (live of : Bool) → list_any (same_code p) (live_papers_in r es s c) ≡ false → same_code p e.0.1 ≡ true
        → is_paper_of r s p ≡ of
        → (live && is_paper_of r s p) ≡ list_any (same_code p) (papers_with (live && of))
    at_live true true none same is = is ∙ sym (ap (λ t. t || list_any (same_code p) (live_papers_in r es s c)) same)
    at_live true false none same is = is ∙ sym none
    at_live false of none same is = sym none

    same_key : is_eq (code_cmp p e.0.1) ≡ true → nat_eq e.0.0 c ≡ true → entry_cmp (c, p) e.0 ≡ Equal
    same_key here own = (Equal-is (entry_cmp (c, p) e.0)).0 (own_key c e.0.0 p e.0.1 own ∙ here)

    by_paper : (t : Bool) → is_eq (code_cmp p e.0.1) ≡ t → nat_eq e.0.0 c ≡ true
        → rest_found ≡ list_any (same_code p) (live_papers_in r es s c)
        → found_with t ≡ list_any (same_code p) (papers_with (e.1.live && is_paper_of r s e.0.1))
    by_paper true here own rest =
        let same : p ≡ e.0.1 = exact_bytes p e.0.1 ((Equal-is (code_cmp p e.0.1)).0 here) in
        let gone : row_at entry_cmp es (c, p) ≡ None =
        past_all entry_cmp entries_total e.0 (c, p) es (same_key here own)
        (sorted_head entry_cmp e.0 (keys_of es) up) in
        let none : list_any (same_code p) (live_papers_in r es s c) ≡ false =
        sym rest ∙ ap (λ o. option_map_or (λ (entry : Entry). entry.live) o false && is_paper_of r s p) gone in
        at_live e.1.live (is_paper_of r s e.0.1) none (texts_ties p e.0.1 ∙ here) (ap (is_paper_of r s) same)
    by_paper false away own rest =
        rest ∙ sym (passed_over (e.1.live && is_paper_of r s e.0.1) (texts_ties p e.0.1 ∙ away))

    by_owner : (b : Bool) → nat_eq e.0.0 c ≡ b → rest_found ≡ list_any (same_code p) (live_papers_in r es s c)
        → found_with (is_at (entry_cmp (c, p)) e.0)
        ≡ list_any (same_code p) (papers_with (b && (e.1.live && is_paper_of r s e.0.1)))
    by_owner true own rest =
        ap found_with (own_key c e.0.0 p e.0.1 own) ∙ by_paper (is_eq (code_cmp p e.0.1)) refl own rest
    by_owner false other rest = ap found_with (other_key c e.0.0 p e.0.1 other) ∙ rest

-- ---- sessions

-- the first of these that is of the session
abbrev pub session_at : Code → List OwnSessionRow → Option OwnSessionRow
session_at s [] = None
session_at s (own ∷ rest) = cond (same_code s own.session) (Some own) (session_at s rest)

module _ (q : Code → Bool) (f : Code × Session → Option OwnSessionRow)
    (named : (held : Code × Session) (own : OwnSessionRow) → f held ≡ Some own → own.session ≡ held.0) (s : Code) where
  abbrev listed : List (Code × Session) → List OwnSessionRow
  listed rows = filter_map f (filter (λ (held : Code × Session). q held.0) rows)

  -- of those that pass, what is made of the session's row is found
  pub session_found : (rows : List (Code × Session)) → KeysRise code_cmp rows
      → session_at s (listed rows) ≡ option_and_then (λ x. cond (q s) (f (s, x)) None) (row_at code_cmp rows s)
  session_found [] up = refl
  session_found (e ∷ es) up =
      inner (is_at (code_cmp s) e.0) refl (session_found es (sorted_tail code_cmp e.0 (keys_of es) up))
    where
      rest_is : Option Session → Type 0
      rest_is o = session_at s (listed es) ≡ option_and_then (λ x. cond (q s) (f (s, x)) None) o

      skipped : (o : Option OwnSessionRow) → f e ≡ o → same_code s e.0 ≡ false
          → session_at s (cons_option o (listed es)) ≡ session_at s (listed es)
      skipped None is other = refl
      skipped (Some own) is other =
          ap (λ b. cond b (Some own) (session_at s (listed es))) (ap (same_code s) (named e own is) ∙ other)

      away : (b : Bool) → same_code s e.0 ≡ false
          → session_at s (filter_map f
          (cond b (e ∷ filter (λ (held : Code × Session). q held.0) es)
          (filter (λ (held : Code × Session). q held.0) es))) ≡ session_at s (listed es)
      away true other = skipped (f e) refl other
      away false other = refl

      first : (o : Option OwnSessionRow) → f e ≡ o → same_code s e.0 ≡ true → session_at s (listed es) ≡ None
          → session_at s (cons_option o (listed es)) ≡ o
      first None is same none = none
      first (Some own) is same none =
          ap (λ b. cond b (Some own) (session_at s (listed es))) (ap (same_code s) (named e own is) ∙ same)

      here : (b : Bool) → same_code s e.0 ≡ true → session_at s (listed es) ≡ None
          → session_at s (filter_map f
          (cond b (e ∷ filter (λ (held : Code × Session). q held.0) es)
          (filter (λ (held : Code × Session). q held.0) es))) ≡ cond b (f e) None
      here true same none = first (f e) refl same none
      here false same none = none

      inner : (b : Bool) → is_at (code_cmp s) e.0 ≡ b → rest_is (row_at code_cmp es s)
          → session_at s (listed (e ∷ es))
          ≡ option_and_then (λ x. cond (q s) (f (s, x)) None) (cond b (Some e.1) (row_at code_cmp es s))
      inner true at rest =
          let tied : code_cmp s e.0 ≡ Equal = (Equal-is (code_cmp s e.0)).0 at in
          let key : s ≡ e.0 = exact_bytes s e.0 tied in
          let gone : row_at code_cmp es s ≡ None =
          past_all code_cmp nat_list_cmp_total e.0 s es tied (sorted_head code_cmp e.0 (keys_of es) up) in
          let none : session_at s (listed es) ≡ None =
          rest ∙ ap (λ o. option_and_then (λ x. cond (q s) (f (s, x)) None) o) gone in
          here (q e.0) (texts_ties s e.0 ∙ at) none ∙ ap (λ k. cond (q k) (f (k, e.1)) None) (sym key)
      inner false at rest = away (q e.0) (texts_ties s e.0 ∙ at) ∙ rest

-- ---- how many appeals

-- if a test holds for all keys, a test that differs only at one key holds for all exactly if it holds there
pub all_but_one : {X : Type 0} (p : ℕ → Bool) (b : Bool) (c : ℕ) (rows : List (ℕ × X))
    → list_all p (keys_of rows) ≡ true
    → list_all (λ d. cond (nat_eq d c) b (p d)) (keys_of rows) ≡ cond (has_row nat_cmp rows c) b true
all_but_one p b c [] every = refl
all_but_one {X} p b c (e ∷ es) every =
    let parts = and_parts (p e.0) (list_all p (keys_of es)) every in
    inner (nat_eq e.0 c) refl parts.0 (all_but_one p b c es parts.1)
  where
    all_others : Bool
    all_others = list_all (λ d. cond (nat_eq d c) b (p d)) (keys_of es)

    with_it : (t : Bool) → all_others ≡ cond t b true → (b && all_others) ≡ b
    with_it t rest = ap (λ x. b && x) rest ∙ twice t b
      where
        twice : (t x : Bool) → (x && cond t x true) ≡ x
        twice t x = grind arith

    inner : (t : Bool) → nat_eq e.0 c ≡ t → p e.0 ≡ true → all_others ≡ cond (has_row nat_cmp es c) b true
        → (cond t b (p e.0) && all_others) ≡ cond (has_row nat_cmp (e ∷ es) c) b true
    inner true own passes rest =
        let tied : nat_cmp c e.0 ≡ Equal = ap (nat_cmp c) (exact_unsigned_eq e.0 c own) ∙ tied_itself nat_cmp_total c in
        with_it (has_row nat_cmp es c) rest
        ∙ sym (ap (λ r. cond (is_some (cond (is_eq r) (Some e.1) (row_at nat_cmp es c))) b true) tied)
    inner false other passes rest = ap (λ x. x && all_others) passes ∙ rest ∙ sym (turn (nat_cmp c e.0) refl)
      where
        turn : (r : Ordering) → nat_cmp c e.0 ≡ r
            → cond (is_some (cond (is_eq r) (Some e.1) (row_at nat_cmp es c))) b true
            ≡ cond (has_row nat_cmp es c) b true
        turn Equal is = absurd (true≢false (sym (eq-eqb e.0 c (sym (exact_unsigned c e.0 is))) ∙ other))
        turn _ is = refl
