-- What a reading says of the target's text.
use Rattle.std.proofs.Common.{◌≡◌, inl, inr, ℕ, ◌<◌, List, [], ◌∷◌, ◌++◌, length, Option, Some, None, Bool, true, false}
use Rattle.std.proofs.Common.{cond, refl, ap, ◌∙◌, arith, ◌==◌, ◌||◌, true≢false, codes}
use Rattle.std.specs.Prelude.{option_and_then}
use Rattle.std.specs.Str.{bytes_eq}
use Rattle.std.specs.Cmp.Lexicographic.{bytes_decides}
use Rattle.std.proofs.lemmas.Bool.Decides.{nat_tests}
use Rattle.matchit.specs.Seek.{has_slash}
use Rattle.exam_request.specs.Targets.{HasParts, IsPart, IsReferenceOf, Target, at_candidates, at_number, at_reference}
use Rattle.exam_request.specs.Targets.{behind, behind_number, is_empty, part, reading, rest_after, target_text}
use Rattle.exam_request.specs.declared.routes.Route.{Route}
use Rattle.exam_request.specs.declared.routes.Route.TheVariants.{Appeal, Appeals, Clashes, Seats}
use Rattle.exam_request.proofs.Cuts.{Cut, cut}

-- ---- from the text to the reading

pub part_ends : (n rest : List ℕ) → has_slash n ≡ false
    → (part (n ++ 47 ∷ rest) ≡ n) × (behind (n ++ 47 ∷ rest) ≡ Some rest)
part_ends [] rest h = (refl, refl)
part_ends (b ∷ n) rest h = by (b == 47) h (part_ends n rest)
  where
    by : (v : Bool) → cond v true (has_slash n) ≡ false
        → (has_slash n ≡ false → (part (n ++ 47 ∷ rest) ≡ n) × (behind (n ++ 47 ∷ rest) ≡ Some rest))
        → (cond v [] (b ∷ part (n ++ 47 ∷ rest)) ≡ b ∷ n)
        × (cond v (Some (n ++ 47 ∷ rest)) (behind (n ++ 47 ∷ rest)) ≡ Some rest)
    by true h later = absurd (true≢false h)
    by false h later = let r = later h in (ap (λ x. b ∷ x) r.0, r.1)

pub part_all : (n : List ℕ) → has_slash n ≡ false → part n ≡ n
part_all [] h = refl
part_all (b ∷ n) h = by (b == 47) h (part_all n)
  where
    by : (v : Bool) → cond v true (has_slash n) ≡ false → (has_slash n ≡ false → part n ≡ n)
        → cond v [] (b ∷ part n) ≡ b ∷ n
    by true h later = absurd (true≢false h)
    by false h later = ap (λ x. b ∷ x) (later h)

not_empty : (n : List ℕ) → 0 < length n → is_empty n ≡ false
not_empty [] h = absurd (omega arith)
not_empty (b ∷ n) h = refl

-- a number and a slash are read off
number_read : (n rest : List ℕ) → IsPart n → at_candidates (n ++ 47 ∷ rest) ≡ at_number n rest
number_read n rest h =
    let e = part_ends n rest h.1 in
    rw (e.0, e.1, not_empty n h.0) refl

reference_read : (n r : List ℕ) → IsPart r
    → at_reference n r ≡ Some (record { route = Appeal; number = n; reference = r })
reference_read n r h = rw (not_empty r h.0, h.1) refl

text_read : (route : Route) (n r : List ℕ) → IsPart n → IsReferenceOf route r
    → reading (codes "/candidates/" ++ n ++ behind_number route r)
    ≡ Some (record { route = route; number = n; reference = r })
text_read Seats n r h e = number_read n (codes "seats") h ∙ rw e refl
text_read Clashes n r h e = number_read n (codes "clashes") h ∙ rw e refl
text_read Appeals n r h e = number_read n (codes "appeals") h ∙ rw e refl
text_read Appeal n r h e = number_read n (codes "appeals/" ++ r) h ∙ reference_read n r e

pub text_reads : (t : Target) → HasParts t → reading (target_text t) ≡ Some t
text_reads t h = text_read t.route t.number t.reference h.0 h.1

-- ---- from the reading to the text

begins : (w text rest : List ℕ) → rest_after w text ≡ Some rest → text ≡ w ++ rest
begins [] text rest e = cc e
begins (b ∷ w) [] rest e = cc e
begins (b ∷ w) (x ∷ text) rest e = by (x == b) refl e (begins w text rest)
  where
    by : (v : Bool) → (x == b) ≡ v → cond v (rest_after w text) None ≡ Some rest
        → (rest_after w text ≡ Some rest → text ≡ w ++ rest) → x ∷ text ≡ b ∷ (w ++ rest)
    by true q e later =
        let is : x ≡ b = grind (arith, nat_tests) in
        rw (is, later e) refl
    by false q e later = cc e

part_has_none : (text : List ℕ) → has_slash (part text) ≡ false
part_has_none [] = refl
part_has_none (b ∷ text) = by (b == 47) refl (part_has_none text)
  where
    by : (v : Bool) → (b == 47) ≡ v → has_slash (part text) ≡ false → has_slash (cond v [] (b ∷ part text)) ≡ false
    by true q later = refl
    by false q later = rw q later

is_part : (text : List ℕ) → is_empty text ≡ false → has_slash text ≡ false → IsPart text
is_part [] e h = absurd (true≢false e)
is_part (b ∷ text) e h = (omega arith, h)

reference_says : (n r : List ℕ) (t : Target) → IsPart n → at_reference n r ≡ Some t
    → HasParts t × (n ++ 47 ∷ (codes "appeals/" ++ r) ≡ t.number ++ behind_number t.route t.reference)
reference_says n r t h e = by (is_empty r) refl (has_slash r) refl e
  where
    by : (a : Bool) → is_empty r ≡ a → (b : Bool) → has_slash r ≡ b
        → cond (a || b) None (Some (record { route = Appeal; number = n; reference = r })) ≡ Some t
        → HasParts t × (n ++ 47 ∷ (codes "appeals/" ++ r) ≡ t.number ++ behind_number t.route t.reference)
    by true qa b qb e = cc e
    by false qa true qb e = cc e
    by false qa false qb e =
        let is : t ≡ record { route = Appeal; number = n; reference = r } = cc e in
        rw is ((h, is_part r qa qb), refl)

number_says : (n rest : List ℕ) (t : Target) → IsPart n → at_number n rest ≡ Some t
    → HasParts t × (n ++ 47 ∷ rest ≡ t.number ++ behind_number t.route t.reference)
number_says n rest t h e =
    by (bytes_eq rest (codes "seats")) refl (bytes_eq rest (codes "clashes")) refl
    (bytes_eq rest (codes "appeals")) refl e
  where
    last : (r : Option (List ℕ)) → rest_after (codes "appeals/") rest ≡ r → option_and_then (at_reference n) r ≡ Some t
        → HasParts t × (n ++ 47 ∷ rest ≡ t.number ++ behind_number t.route t.reference)
    last None q e = cc e
    last (Some r) q e = let is : rest ≡ codes "appeals/" ++ r =
        begins (codes "appeals/") rest r q in rw is (reference_says n r t h e)

    by : (s : Bool) → bytes_eq rest (codes "seats") ≡ s → (c : Bool) → bytes_eq rest (codes "clashes") ≡ c → (a : Bool)
        → bytes_eq rest (codes "appeals") ≡ a
        → cond s (Some (record { route = Seats; number = n; reference = [] }))
        (cond c (Some (record { route = Clashes; number = n; reference = [] }))
        (cond a (Some (record { route = Appeals; number = n; reference = [] }))
        (option_and_then (at_reference n) (rest_after (codes "appeals/") rest)))) ≡ Some t
        → HasParts t × (n ++ 47 ∷ rest ≡ t.number ++ behind_number t.route t.reference)
    by true q c qc a qa e =
        let is : t ≡ record { route = Seats; number = n; reference = [] } = cc e in
        rw (is, (bytes_decides rest (codes "seats")).0 q) ((h, refl), refl)
    by false q true qc a qa e =
        let is : t ≡ record { route = Clashes; number = n; reference = [] } = cc e in
        rw (is, (bytes_decides rest (codes "clashes")).0 qc) ((h, refl), refl)
    by false q false qc true qa e =
        let is : t ≡ record { route = Appeals; number = n; reference = [] } = cc e in
        rw (is, (bytes_decides rest (codes "appeals")).0 qa) ((h, refl), refl)
    by false q false qc false qa e = last (rest_after (codes "appeals/") rest) refl e

candidates_say : (text : List ℕ) (t : Target) → at_candidates text ≡ Some t
    → HasParts t × (text ≡ t.number ++ behind_number t.route t.reference)
candidates_say text t e = by (is_empty (part text)) refl (cut text) e
  where
    by : (v : Bool) → is_empty (part text) ≡ v → Cut text
        → cond v None (option_and_then (at_number (part text)) (behind text)) ≡ Some t
        → HasParts t × (text ≡ t.number ++ behind_number t.route t.reference)
    by true q c e = cc e
    by false q (inl w) e = let none = rw w.behind_is at e in cc none
    by false q (inr (rest, w)) e =
        let said = number_says (part text) rest t (is_part (part text) q (part_has_none text)) (rw w.behind_is at e) in
        (said.0, w.text ∙ said.1)

pub reading_says : (target : List ℕ) (t : Target) → reading target ≡ Some t → HasParts t × (target ≡ target_text t)
reading_says target t e = by (rest_after (codes "/candidates/") target) refl e
  where
    by : (r : Option (List ℕ)) → rest_after (codes "/candidates/") target ≡ r
        → option_and_then at_candidates r ≡ Some t → HasParts t × (target ≡ target_text t)
    by None q e = cc e
    by (Some text) q e =
        let said = candidates_say text t e in
        (said.0, begins (codes "/candidates/") target text q ∙ ap (λ x. codes "/candidates/" ++ x) said.1)
