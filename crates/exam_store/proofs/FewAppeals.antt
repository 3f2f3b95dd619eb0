-- A good office has so few appeals that their count fits into 32 bits.
use Rattle.std.proofs.Common.{◌≡◌, ℕ, ◌*◌, ◌^◌, ◌<◌, ◌≤◌, ◌&&◌, not, Bool, true, false, cond, List, [], ◌∷◌}
use Rattle.std.proofs.Common.{length, filter, refl, sym, ap, ◌∙◌, arith}
use Rattle.std.specs.Prelude.{nat_eq, nat_le}
use Rattle.std.specs.List.{AllByRecursion, list_all}
use Rattle.std.specs.Map.{keys_of}
use Rattle.std.specs.Ordering.{is_eq, nat_cmp}
use Rattle.std.proofs.lemmas.Bool.{and_parts}
use Rattle.std.proofs.lemmas.List.{length-map}
use Rattle.std.proofs.lemmas.List.Filters.{length-filter_both}
use Rattle.std.proofs.lemmas.Map.Lookups.{exact_unsigned}
use Rattle.std.specs.Cmp.{Equal-is}
use Rattle.std.proofs.lemmas.Bool.{eq-eqb, false_from_ne_true, true≢false}
use Rattle.exam_rules.specs.declared.rows.Candidate.{Candidate}
use Rattle.exam_rules.specs.Relations.{Code, Relations, has_row, is_row_of, same_code}
use Rattle.exam_rules.specs.Sessions.{appeal_count}
use Rattle.exam_commands.specs.Good.{IsGood, appeal_refers, appeals_refer, arrangements_refer, entries_refer}
use Rattle.exam_commands.specs.Good.{openings_refer, papers_refer}
use Rattle.exam_commands.specs.Limits.{appeals_within, candidates_within, halls_within, members_within, most_appeals}
use Rattle.exam_commands.specs.Limits.{openings_within, papers_within, sessions_within}
use Rattle.exam_commands.specs.State.{State}
use Rattle.exam_views.specs.Views.{appeal_row, appeals_of}
use Rattle.exam_tables.specs.Appeals.{KeyedAppeal}

fewer : {A : Type 0} (p q : A → Bool) (xs : List A) → length (filter p (filter q xs)) ≤ length (filter p xs)
fewer p q [] = omega arith
fewer {A} p q (x ∷ xs) = by (q x) (p x) refl (fewer p q xs)
  where
    by : (kept passes : Bool) → p x ≡ passes → length (filter p (filter q xs)) ≤ length (filter p xs)
        → length (filter p (cond kept (x ∷ filter q xs) (filter q xs))) ≤ length
        (cond passes (x ∷ filter p xs) (filter p xs))
    by kept passes is less = grind arith

-- as many as one candidate may have, for each of these numbers
abbrev HaveFew : List KeyedAppeal → List ℕ → Type 0
HaveFew appeals numbers = AllByRecursion (λ n. length (filter (is_row_of n) appeals) ≤ 64) numbers

few_kept : (q : KeyedAppeal → Bool) (appeals : List KeyedAppeal) (numbers : List ℕ) → HaveFew appeals numbers
    → HaveFew (filter q appeals) numbers
few_kept q appeals [] few = tt
few_kept q appeals (n ∷ numbers) few =
    let less = fewer (is_row_of n) q appeals in
    let own = few.0 in
    (omega (arith, less, own), few_kept q appeals numbers few.1)

module _ (c : ℕ) (x : Candidate) (rows : List (ℕ × Candidate)) where
  -- a number that is another one
  other_row : (n : ℕ) → nat_eq n c ≡ false → has_row nat_cmp ((c, x) ∷ rows) n ≡ has_row nat_cmp rows n
  other_row n other =
      let apart : is_eq (nat_cmp n c) ≡ false = false_from_ne_true (is_eq (nat_cmp n c))
      (λ same. true≢false (sym (eq-eqb n c (exact_unsigned n c ((Equal-is (nat_cmp n c)).0 same))) ∙ other)) in
      rw apart refl

  others_refer : (appeals : List KeyedAppeal)
      → list_all (λ (a : KeyedAppeal). has_row nat_cmp ((c, x) ∷ rows) a.0.0) appeals ≡ true
      → list_all (λ (a : KeyedAppeal). has_row nat_cmp rows a.0.0)
      (filter (λ (a : KeyedAppeal). not (is_row_of c a)) appeals) ≡ true
  others_refer [] all = refl
  others_refer (a ∷ appeals) all =
      let parts = and_parts (has_row nat_cmp ((c, x) ∷ rows) a.0.0)
      (list_all (λ (b : KeyedAppeal). has_row nat_cmp ((c, x) ∷ rows) b.0.0) appeals) all in
      by (filter (λ (b : KeyedAppeal). not (is_row_of c b)) appeals) (is_row_of c a) refl parts.0
      (others_refer appeals parts.1)
    where
      by : (left : List KeyedAppeal) (own : Bool) → is_row_of c a ≡ own → has_row nat_cmp ((c, x) ∷ rows) a.0.0 ≡ true
          → list_all (λ (b : KeyedAppeal). has_row nat_cmp rows b.0.0) left ≡ true
          → list_all (λ (b : KeyedAppeal). has_row nat_cmp rows b.0.0) (cond (not (is_row_of c a)) (a ∷ left) left)
          ≡ true
      by left true own known rest =
          ap (λ b. list_all (λ (d : KeyedAppeal). has_row nat_cmp rows d.0.0) (cond (not b) (a ∷ left) left)) own ∙ rest
      by left false own known rest =
          ap (λ b. list_all (λ (d : KeyedAppeal). has_row nat_cmp rows d.0.0) (cond (not b) (a ∷ left) left)) own
          ∙ ap (λ b. b && list_all (λ (d : KeyedAppeal). has_row nat_cmp rows d.0.0) left)
          (sym (other_row a.0.0 own) ∙ known) ∙ rest

bounded : (rows : List (ℕ × Candidate)) (appeals : List KeyedAppeal)
    → list_all (λ (a : KeyedAppeal). has_row nat_cmp rows a.0.0) appeals ≡ true → HaveFew appeals (keys_of rows)
    → length appeals ≤ length rows * 64
bounded [] [] refer few = omega arith
bounded [] (a ∷ appeals) refer few = absurd cc
bounded ((c, x) ∷ rows) appeals refer few =
    let others = filter (λ (a : KeyedAppeal). not (is_row_of c a)) appeals in
    let both = length-filter_both (λ (a : KeyedAppeal). is_row_of c a) (λ (a : KeyedAppeal). not (is_row_of c a))
    (λ a. refl) appeals in
    let own : length (filter (λ (a : KeyedAppeal). is_row_of c a) appeals) ≤ 64 = few.0 in
    let rest = bounded rows others (others_refer c x rows appeals refer)
    (few_kept (λ (a : KeyedAppeal). not (is_row_of c a)) appeals (keys_of rows) few.1) in
    omega (arith, both, own, rest)

module _ (r : Relations) where
  all_few : (list : List ℕ) → list_all (λ n. nat_le (appeal_count r n) most_appeals) list ≡ true
      → HaveFew r.appeals list
  all_few [] all = tt
  all_few (n ∷ list) all =
      let parts = and_parts (nat_le (appeal_count r n) most_appeals)
      (list_all (λ m. nat_le (appeal_count r m) most_appeals) list) all in
      let own = parts.0 in
      (grind (arith, own), all_few list parts.1)

refer_all : (r : Relations) (appeals : List KeyedAppeal)
    → list_all (λ (a : KeyedAppeal). has_row nat_cmp r.candidates a.0.0 && appeal_refers r a.1) appeals ≡ true
    → list_all (λ (a : KeyedAppeal). has_row nat_cmp r.candidates a.0.0) appeals ≡ true
refer_all r [] all = refl
refer_all r (a ∷ appeals) all =
    let parts = and_parts (has_row nat_cmp r.candidates a.0.0 && appeal_refers r a.1)
    (list_all (λ (b : KeyedAppeal). has_row nat_cmp r.candidates b.0.0 && appeal_refers r b.1) appeals) all in
    let own = and_parts (has_row nat_cmp r.candidates a.0.0) (appeal_refers r a.1) parts.0 in
    ap (λ b. b && list_all (λ (b : KeyedAppeal). has_row nat_cmp r.candidates b.0.0) appeals) own.0
    ∙ refer_all r appeals parts.1

module _ (office : State) (good : IsGood office) where
  abbrev r : Relations
  r = office.relations

  refers : appeals_refer r ≡ true
  refers =
      let last = arrangements_refer r && appeals_refer r in
      let openings = (and_parts (papers_refer r) (openings_refer r && (entries_refer r && last)) good.refer).1 in
      let entries = (and_parts (openings_refer r) (entries_refer r && last) openings).1 in
      let rest = (and_parts (entries_refer r) last entries).1 in
      (and_parts (arrangements_refer r) (appeals_refer r) rest).1

  within : (candidates_within r ≡ true) × (appeals_within r ≡ true)
  within =
      let last = members_within r && appeals_within r in
      let from_openings = openings_within r && (candidates_within r && last) in
      let papers = (and_parts (sessions_within r) (papers_within r && (halls_within r && from_openings)) good.limits).1
      in
      let halls = (and_parts (papers_within r) (halls_within r && from_openings) papers).1 in
      let openings = (and_parts (halls_within r) from_openings halls).1 in
      let candidates = (and_parts (openings_within r) (candidates_within r && last) openings).1 in
      let parts = and_parts (candidates_within r) last candidates in
      (parts.0, (and_parts (members_within r) (appeals_within r) parts.1).1)

  pub few_appeals : (s : Code) → length (appeals_of r s) < 2 ^ 32
  few_appeals s =
      let all = bounded r.candidates r.appeals (refer_all r r.appeals refers)
      (all_few r (keys_of r.candidates) within.1) in
      let of_candidates = within.0 in
      let few : length r.candidates ≤ 20000 = grind (arith, of_candidates) in
      let mine = kept (λ (a : KeyedAppeal). same_code a.1.session s) r.appeals in
      let listed : length (appeals_of r s) ≡ length (filter (λ (a : KeyedAppeal). same_code a.1.session s) r.appeals) =
      length-map (filter (λ (a : KeyedAppeal). same_code a.1.session s) r.appeals) appeal_row in
      omega (arith, all, few, mine, listed)
    where
      kept : (p : KeyedAppeal → Bool) (xs : List KeyedAppeal) → length (filter p xs) ≤ length xs
      kept p xs = omega (arith, length-filter_both p (λ x. not (p x)) (λ x. refl) xs)
