-- A member has a row, a sitting paper and a finish.
use Rattle.std.proofs.Common.{◌≡◌, ℕ, ◌==◌, ◌&&◌, Bool, true, false, cond, List, [], ◌∷◌, filter, map, Contains, Option}
use Rattle.std.proofs.Common.{None, Some, IsSome, IsTrue, Bor, refl, ap, sym, ◌∙◌}
use Rattle.std.specs.Map.{keys_of}
use Rattle.std.specs.Option.{option_map, option_map_or, option_and_then, option_or, option_copied}
use Rattle.std.specs.Ordering.{nat_cmp}
use Rattle.std.proofs.lemmas.Bool.{and_parts}
use Rattle.std.proofs.lemmas.Cmp.{eq_by_cmp_equiv, nat_cmp_total}
use Rattle.std.specs.List.{All, flat_map}
use Rattle.std.proofs.lemmas.List.Elements.{All-nil, All-append, All-map, All-head, All-tail, All-weaker, All-contains}
use Rattle.std.proofs.lemmas.List.Elements.{All-contains_itself, All-filter, filter_passes}
use Rattle.std.proofs.lemmas.Map.Views.{IsSome-lookup_from_Contains}
use Rattle.exam_rules.specs.declared.rows.Candidate.{Candidate}
use Rattle.exam_rules.specs.declared.rows.Entry.{Entry}
use Rattle.exam_rules.specs.declared.rows.Paper.{Paper}
use Rattle.exam_rules.specs.declared.rows.Session.{Session}
use Rattle.exam_rules.specs.Relations.{Code, Relations, code_cmp, same_code, row_at, has_row}
use Rattle.exam_rules.specs.Sessions.{members, has_live_entry, sitting, finish, sitting_row, end_of}
use Rattle.exam_rules.specs.Sessions.{arrangement_in_force, is_paper_of, is_live, is_live_paper, is_live_entry}
use Rattle.exam_rules.specs.Sessions.{live_papers_in, granted_paper, least_live_paper, head_of, option_filter, clashes}
use Rattle.exam_rules.specs.Sessions.{clashes_of, clash_papers}
use Rattle.exam_rules.proofs.Sitters.{members_sit}

none_some : {A : Type 0} (x : A) → None ≡ Some x → ⊥
none_some x e = cc

no_true : false ≡ true → ⊥
no_true e = cc

pub copied_some : {A : Type 0} (o : Option (Bor A)) → IsSome (option_copied o) → IsSome o
copied_some None e = e
copied_some (Some x) e = refl

-- what a filter keeps of a list is in the list
pub kept_from : {A : Type 0} (p : A → Bool) (xs : List A) (x : A) → Contains (filter p xs) x → Contains xs x
kept_from p xs x m =
    All-contains (Contains xs) (filter p xs) x (All-filter p (Contains xs) xs (All-contains_itself xs)) m

module _ (r : Relations) (s : Code) where
  -- a sitting paper is a paper of the session
  least_of : (c : ℕ) (p : Code) (es : List ((ℕ × Code) × Entry)) → head_of (live_papers_in r es s c) ≡ Some p
      → is_paper_of r s p ≡ true
  least_of c p [] e = absurd (none_some p e)
  least_of c p (entry ∷ es) e = inner (is_live_entry r s c entry) refl (least_of c p es) e
    where
      inner : (b : Bool) → is_live_entry r s c entry ≡ b
          → (head_of (live_papers_in r es s c) ≡ Some p → is_paper_of r s p ≡ true)
          → head_of (map (λ (x : (ℕ × Code) × Entry). x.0.1)
          (cond b (entry ∷ filter (is_live_entry r s c) es) (filter (is_live_entry r s c) es))) ≡ Some p
          → is_paper_of r s p ≡ true
      inner true live rest is =
          let same : entry.0.1 ≡ p = cc in
          ap (is_paper_of r s) (sym same)
          ∙ (and_parts entry.1.live (is_paper_of r s entry.0.1)
          (and_parts (entry.0.0 == c) (entry.1.live && is_paper_of r s entry.0.1) live).1).1
      inner false live rest is = rest is

  pub sitting_paper : (c : ℕ) (p : Code) → sitting r s c ≡ Some p → is_paper_of r s p ≡ true
  sitting_paper c p = inner (granted_paper r s c)
    where
      passed : (q : Code) (b : Bool) → is_live_paper r s c q ≡ b
          → option_or (cond b (Some q) None) (least_live_paper r s c) ≡ Some p → is_paper_of r s p ≡ true
      passed q true live e =
          let same : q ≡ p = cc in
          ap (is_paper_of r s) (sym same) ∙ (and_parts (is_live r c q) (is_paper_of r s q) live).1
      passed q false live e = least_of c p r.entries e

      inner : (g : Option Code) → option_or (option_filter (is_live_paper r s c) g) (least_live_paper r s c) ≡ Some p
          → is_paper_of r s p ≡ true
      inner None e = least_of c p r.entries e
      inner (Some q) e = passed q (is_live_paper r s c q) refl e

  paper_row : (p : Code) → is_paper_of r s p ≡ true → IsSome (row_at code_cmp r.papers p)
  paper_row p e = inner (row_at code_cmp r.papers p) e
    where
      inner : (o : Option Paper) → option_map_or (λ (paper : Paper). same_code paper.session s) o false ≡ true
          → IsSome o
      inner None e = absurd (no_true e)
      inner (Some paper) e = refl

  -- a listed number is a member's
  pub listed_member : (c : ℕ) → Contains (members r s) c → has_live_entry r s c ≡ true
  listed_member c m = All-contains (λ n. has_live_entry r s n ≡ true) (members r s) c
      (filter_passes (has_live_entry r s) (keys_of r.candidates)) m

  pub member_sits : (c : ℕ) → Contains (members r s) c → IsSome (sitting r s c)
  member_sits c m = members_sit r s c ∙ listed_member c m

  -- every clash is of somebody who sits a paper
  sitters : (ms : List ℕ) → All (λ (c : ℕ). IsSome (sitting r s c)) ms
      → All (λ (x : ℕ × Code). IsSome (sitting r s x.0)) (flat_map (clashes_of r s) ms)
  sitters [] all = All-nil (λ (x : ℕ × Code). IsSome (sitting r s x.0))
  sitters (c ∷ ms) all =
      All-append (λ (x : ℕ × Code). IsSome (sitting r s x.0)) (clashes_of r s c) (flat_map (clashes_of r s) ms)
      (All-map (λ (x : ℕ × Code). IsSome (sitting r s x.0)) (λ (p : Code). (c, p)) (clash_papers r s c)
      (λ k d below. All-head (λ (n : ℕ). IsSome (sitting r s n)) c ms all))
      (sitters ms (All-tail (λ (n : ℕ). IsSome (sitting r s n)) c ms all))

  pub clash_sits : (x : ℕ × Code) → Contains (clashes r s) x → IsSome (sitting r s x.0)
  clash_sits x m =
      All-contains (λ (y : ℕ × Code). IsSome (sitting r s y.0)) (clashes r s) x
      (sitters (members r s)
      (All-weaker (Contains (members r s)) (λ (n : ℕ). IsSome (sitting r s n)) member_sits (members r s)
      (All-contains_itself (members r s)))) m

  pub member_ends : (c : ℕ) → IsTrue (has_row code_cmp r.sessions s) → Contains (members r s) c → IsSome (finish r s c)
  member_ends c known m = with_session (row_at code_cmp r.sessions s) known
    where
      with_paper : (session : Session) (o : Option Paper) → IsSome o
          → IsSome (option_map (λ (paper : Paper). end_of session paper (arrangement_in_force r s c)) o)
      with_paper session None e = absurd (no_true e)
      with_paper session (Some paper) e = refl

      row_there : (o : Option Code) → sitting r s c ≡ o → IsSome o
          → IsSome (option_and_then (row_at code_cmp r.papers) o)
      row_there None is e = absurd (no_true e)
      row_there (Some p) is e = paper_row p (sitting_paper c p is)

      with_session : (o : Option Session) → IsSome o
          → IsSome (option_and_then
          (λ (session : Session). option_map (λ (paper : Paper). end_of session paper (arrangement_in_force r s c))
          (sitting_row r s c)) o)
      with_session None e = absurd (no_true e)
      with_session (Some session) e =
          with_paper session (sitting_row r s c) (row_there (sitting r s c) refl (member_sits c m))

  candidate_at : (c : ℕ) (es : List (ℕ × Candidate)) → Contains (keys_of es) c → IsSome (row_at nat_cmp es c)
  candidate_at c es m = IsSome-lookup_from_Contains (eq_by_cmp_equiv nat_cmp_total) c es m

  pub member_known : (c : ℕ) → Contains (members r s) c → IsSome (row_at nat_cmp r.candidates c)
  member_known c m = candidate_at c r.candidates (kept_from (has_live_entry r s) (keys_of r.candidates) c m)
