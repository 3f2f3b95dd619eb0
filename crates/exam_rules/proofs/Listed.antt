-- Lists by session: what appending to one of them makes of all.
use Rattle.exam_rules.proofs.Words.{Global, option_map, option_map_or, option_or, All, cons_option, is_at, keys_of}
use Rattle.exam_rules.proofs.Words.{texts_ties, length-map, get_or-map, Less, nat_cmp, IsStrictlySortedBy, ranked}
use Rattle.exam_rules.proofs.Words.{IsStrictlySortedBy-filter, Less-from_sorted, ne_eqb, Entry, Paper, Code, Relations}
use Rattle.exam_rules.proofs.Words.{code_cmp, same_code, row_at, head_of, is_live_entry, has_live_entry, is_paper_of}
use Rattle.exam_rules.proofs.Words.{live_papers_in, least_live_paper, members, Entrant, listed, with_last, with_member}
use Rattle.exam_rules.proofs.Words.{entrant, entrants}
use Rattle.std.proofs.Common.{◌≡◌, ℕ, ◌<◌, ◌-◌, ◌&&◌, Bool, true, false, cond, List, [], ◌∷◌, ◌++◌, length, filter, map}
use Rattle.std.proofs.Common.{nat_eq, Option, None, Some, Vec, refl, ap, sym, subst, ◌∙◌, arith, append-nil, get_or}
use Rattle.std.proofs.Common.{eq-eqb, ◌+◌, is_some}
use Rattle.std.specs.Prelude.{slice_get}
use Rattle.std.specs.List.{filter_map}
use Rattle.std.proofs.lemmas.List.{length-append}
use Rattle.std.proofs.lemmas.Option.{slice_get_read, slice_get-get_or}
use Rattle.std.proofs.Math.Seq.{get_or-append_seam}
use Rattle.std.proofs.lemmas.List.{get_or_append_left}
use Rattle.std.proofs.lemmas.List.Elements.{All-cons, filter-append, filter_map-append, filter_agree}
use Rattle.exam_rules.proofs.Together.{any_is}
use Rattle.exam_rules.specs.Lists.{ends_with, entered_session}
use Rattle.exam_rules.proofs.Naming.{same_code_exact}

-- after one list has been set to what a change makes of the old one
pub changed : {A : Type 0} (change : List A → List A) (old new : List (Code × Vec A Global)) (list : Vec A Global)
    (s : Code) → ((t : Code) → row_at code_cmp new t ≡ cond (is_at (code_cmp s) t) (Some list) (row_at code_cmp old t))
    → list.items ≡ change (listed old s) → (t : Code)
    → listed new t ≡ cond (same_code s t) (change (listed old t)) (listed old t)
changed {A} change old new list s at items t =
    inner (same_code s t) refl (ap (λ b. cond b (Some list) (row_at code_cmp old t)) (sym (texts_ties s t)))
  where
    inner : (b : Bool) → same_code s t ≡ b
        → cond (is_at (code_cmp s) t) (Some list) (row_at code_cmp old t) ≡ cond b (Some list) (row_at code_cmp old t)
        → listed new t ≡ cond b (change (listed old t)) (listed old t)
    inner true e same = ap (λ (o : Option (Vec A Global)). option_map_or (λ (v : Vec A Global). v.items) o [])
        (at t ∙ same) ∙ items ∙ ap (λ u. change (listed old u)) (same_code_exact s t e)
    inner false e same =
        ap (λ (o : Option (Vec A Global)). option_map_or (λ (v : Vec A Global). v.items) o []) (at t ∙ same)

-- the items of a list that is there, and of one that is not
pub items_at : {A : Type 0} (rows : List (Code × Vec A Global)) (s : Code) (o : Option (Vec A Global))
    → row_at code_cmp rows s ≡ o → option_map_or (λ (v : Vec A Global). v.items) o [] ≡ listed rows s
items_at {A} rows s o at =
    ap (λ (o : Option (Vec A Global)). option_map_or (λ (v : Vec A Global). v.items) o []) (sym at)

-- a candidate who is the last is not appended again
pub with_last-again : (n : ℕ) (p q : Code) (list : List Entrant)
    → with_last (entrant n q) (with_last (entrant n p) list) ≡ with_last (entrant n p) list
with_last-again n p q list = inner (ends_with list n) refl
  where
    inner : (b : Bool) → ends_with list n ≡ b
        → with_last (entrant n q) (cond b list (list ++ entrant n p ∷ [])) ≡ cond b list (list ++ entrant n p ∷ [])
    inner true e = ap (λ t. cond t list (list ++ entrant n q ∷ [])) e
    inner false e = ap (λ t. cond t (list ++ entrant n p ∷ []) ((list ++ entrant n p ∷ []) ++ entrant n q ∷ []))
        (ends_pushed list)
      where
        at_end : (list : List Entrant)
            → slice_get (list ++ entrant n p ∷ []) (length (list ++ entrant n p ∷ []) - 1) ≡ Some (entrant n p)
        at_end list =
            let long : length (list ++ entrant n p ∷ []) ≡ length list + 1 = length-append list (entrant n p ∷ []) in
            let last : length (list ++ entrant n p ∷ []) - 1 ≡ length list = omega arith in
            rw last (slice_get_read (list ++ entrant n p ∷ []) (length (list ++ entrant n p ∷ [])) (length list)
            (entrant n p) refl (omega arith) (sym (get_or-append_seam list (entrant n p) [] (entrant n p))))

        ends_pushed : (list : List Entrant) → ends_with (list ++ entrant n p ∷ []) n ≡ true
        ends_pushed list = ap (λ o. option_map_or (λ (e : Entrant). nat_eq e.number n) o false) (at_end list)
            ∙ eq-eqb n n refl

-- who is appended now, or later, is appended with the first paper
pub marked_once : (n : ℕ) (now later : Option Code) (old new : List Entrant) → new ≡ with_member n now old
    → with_member n later new ≡ with_member n (option_or now later) old
marked_once n (Some p) (Some q) old new e = ap (with_last (entrant n q)) e ∙ with_last-again n p q old
marked_once n (Some p) None old new e = e
marked_once n None (Some q) old new e = ap (with_last (entrant n q)) e
marked_once n None None old new e = e

module _ (r : Relations) (n : ℕ) where
  -- the first paper for which one of these rows counts for the session
  abbrev pub first_in : Code → List ((ℕ × Code) × Entry) → Option Code
  first_in s rows = head_of (live_papers_in r rows s n)

  -- which session a row counts for
  pub counts_for : (s p : Code) (e : Entry) (o : Option Code) → entered_session r p e ≡ o
      → (e.live && is_paper_of r s p) ≡ option_map_or (λ t. same_code t s) o false
  counts_for s p e o is =
      subst (λ o. (e.live && is_paper_of r s p) ≡ option_map_or (λ t. same_code t s) o false) is
      (outer e.live (row_at code_cmp r.papers p))
    where
      inner : (row : Option Paper)
          → option_map_or (λ (paper : Paper). same_code paper.session s) row false
          ≡ option_map_or (λ t. same_code t s) (option_map (λ (paper : Paper). paper.session) row) false
      inner None = refl
      inner (Some paper) = refl

      outer : (live : Bool) (row : Option Paper)
          → (live && option_map_or (λ (paper : Paper). same_code paper.session s) row false)
          ≡ option_map_or (λ t. same_code t s)
          (cond live (option_map (λ (paper : Paper). paper.session) row) None) false
      outer true row = inner row
      outer false row = refl

  -- the paper of a row that counts for this session, if it is the one
  abbrev pub paper_for : Code → Option Code → Code → Option Code
  paper_for s o p = option_map_or (λ t. cond (same_code t s) (Some p) None) o None

  -- one more row of the candidate, which counts for a session or for none
  pub first_in_row : (s : Code) (k : ℕ × Code) (e : Entry) (rest : List ((ℕ × Code) × Entry)) (o : Option Code)
      → nat_eq k.0 n ≡ true → entered_session r k.1 e ≡ o
      → first_in s ((k, e) ∷ rest) ≡ option_or (paper_for s o k.1) (first_in s rest)
  first_in_row s k e rest o own is =
      rw own (ap (λ b. head_of
      (map (λ (e : (ℕ × Code) × Entry). e.0.1)
      (cond b ((k, e) ∷ filter (is_live_entry r s n) rest)
      (filter (is_live_entry r s n) rest)))) (counts_for s k.1 e o is) ∙ split o)
    where
      inner : (b : Bool) → head_of
          (map (λ (e : (ℕ × Code) × Entry). e.0.1)
          (cond b ((k, e) ∷ filter (is_live_entry r s n) rest)
          (filter (is_live_entry r s n) rest)))
          ≡ option_or (cond b (Some k.1) None) (first_in s rest)
      inner true = refl
      inner false = refl

      split : (o : Option Code)
          → head_of (map (λ (e : (ℕ × Code) × Entry). e.0.1)
          (cond (option_map_or (λ t. same_code t s) o false)
          ((k, e) ∷ filter (is_live_entry r s n) rest)
          (filter (is_live_entry r s n) rest)))
          ≡ option_or (paper_for s o k.1) (first_in s rest)
      split None = refl
      split (Some t) = inner (same_code t s)

below_is_other : (m n : ℕ) → nat_cmp m n ≡ Less → nat_eq m n ≡ false
below_is_other m n less = ne_eqb m n (λ s. let l : m < n = ranked m n Less (sym less) in omega arith)

-- if numbers rise, one that comes later is not the last so far
ends_before : (xs : List Entrant) (rest : List ℕ) (n : ℕ)
    → IsStrictlySortedBy nat_cmp (map (λ (e : Entrant). e.number) xs ++ n ∷ rest) → ends_with xs n ≡ false
ends_before [] rest n up = refl
ends_before (x ∷ ys) rest n up =
    let numbers : List ℕ = map (λ (e : Entrant). e.number) (x ∷ ys) in
    let last : ℕ = length (x ∷ ys) - 1 in
    let within : last < length (x ∷ ys) = omega arith in
    let same : length numbers ≡ length (x ∷ ys) = length-map (x ∷ ys) (λ (e : Entrant). e.number) in
    let inside : last < length numbers = omega arith in
    let long : length (numbers ++ n ∷ rest) ≡ length numbers + length (n ∷ rest) = length-append numbers (n ∷ rest) in
    let less : nat_cmp (get_or (numbers ++ n ∷ rest) last n) (get_or (numbers ++ n ∷ rest) (length numbers) n) ≡ Less =
    Less-from_sorted nat_cmp (numbers ++ n ∷ rest) last (length numbers) n up inside (omega arith) in
    ap (λ o. option_map_or (λ (e : Entrant). nat_eq e.number n) o false) (slice_get-get_or (x ∷ ys) last x within)
    ∙ below_is_other (get_or (x ∷ ys) last x).number n
    (ap (λ k. nat_cmp k n)
    (sym (get_or-map (λ (e : Entrant). e.number) (x ∷ ys) last x n within)
    ∙ sym (get_or_append_left numbers (n ∷ rest) n last inside))
    ∙ ap (nat_cmp (get_or (numbers ++ n ∷ rest) last n)) (sym (get_or-append_seam numbers n rest n)) ∙ less)

-- the candidates who have a paper, each with it
module _ (least : ℕ → Option Code) where
  abbrev pub listed_with : List ℕ → List Entrant
  listed_with numbers = filter_map (λ c. option_map (entrant c) (least c)) numbers

  pub listed_numbers : (cs : List ℕ)
      → map (λ (e : Entrant). e.number) (listed_with cs) ≡ filter (λ c. is_some (least c)) cs
  listed_numbers [] = refl
  listed_numbers (c ∷ cs) = inner (least c) (listed_numbers cs)
    where
      inner : (o : Option Code) → map (λ (e : Entrant). e.number) (listed_with cs) ≡ filter (λ c. is_some (least c)) cs
          → map (λ (e : Entrant). e.number) (cons_option (option_map (entrant c) o) (listed_with cs))
          ≡ cond (is_some o) (c ∷ filter (λ c. is_some (least c)) cs) (filter (λ c. is_some (least c)) cs)
      inner (Some p) rest = ap (λ t. c ∷ t) rest
      inner None rest = rest

  pub listed_papers : (cs : List ℕ) → All (λ (e : Entrant). least e.number ≡ Some e.paper) (listed_with cs)
  listed_papers [] = λ k d h. absurd (omega arith)
  listed_papers (c ∷ cs) = inner (least c) refl (listed_papers cs)
    where
      inner : (o : Option Code) → least c ≡ o → All (λ (e : Entrant). least e.number ≡ Some e.paper) (listed_with cs)
          → All (λ (e : Entrant). least e.number ≡ Some e.paper)
          (cons_option (option_map (entrant c) o) (listed_with cs))
      inner None is rest = rest
      inner (Some p) is rest =
          All-cons (λ (e : Entrant). least e.number ≡ Some e.paper) (entrant c p) (listed_with cs) is rest

  -- one more candidate, who is appended if there is a paper
  pub members_more : (done rest : List ℕ) (old new : List Entrant) (n : ℕ)
      → IsStrictlySortedBy nat_cmp (done ++ n ∷ rest) → old ≡ listed_with done → new ≡ with_member n (least n) old
      → new ≡ listed_with (done ++ n ∷ [])
  members_more done rest old new n up is step =
      inner (least n) refl step ∙ sym (filter_map-append (λ c. option_map (entrant c) (least c)) done (n ∷ []))
    where
      parted : (b : Bool) → is_some (least n) ≡ b
          → filter (λ c. is_some (least c)) (done ++ n ∷ rest) ≡ filter (λ c. is_some (least c)) done
          ++ cond b (n ∷ filter (λ c. is_some (least c)) rest) (filter (λ c. is_some (least c)) rest)
      parted b e = filter-append (λ c. is_some (least c)) done (n ∷ rest)
          ∙ ap (λ t. filter (λ c. is_some (least c)) done
          ++ cond t (n ∷ filter (λ c. is_some (least c)) rest) (filter (λ c. is_some (least c)) rest)) e

      inner : (o : Option Code) → least n ≡ o → new ≡ with_member n o old
          → new ≡ listed_with done ++ cons_option (option_map (entrant n) (least n)) []
      inner (Some p) e step =
          let other : ends_with (listed_with done) n ≡ false =
          ends_before (listed_with done) (filter (λ c. is_some (least c)) rest) n
          (subst (λ t. IsStrictlySortedBy nat_cmp (t ++ n ∷ filter (λ c. is_some (least c)) rest))
          (sym (listed_numbers done))
          (subst (IsStrictlySortedBy nat_cmp) (parted true (ap is_some e))
          (IsStrictlySortedBy-filter nat_cmp (λ c. is_some (least c)) (done ++ n ∷ rest) up))) in
          step ∙ ap (with_last (entrant n p)) is
          ∙ ap (λ t. cond t (listed_with done) (listed_with done ++ entrant n p ∷ [])) other
          ∙ ap (λ o. listed_with done ++ cons_option (option_map (entrant n) o) []) (sym e)
      inner None e step = step ∙ is ∙ sym (append-nil (listed_with done))
          ∙ ap (λ o. listed_with done ++ cons_option (option_map (entrant n) o) []) (sym e)

-- the numbers of those who are listed are the members
pub entrants_are_members : (r : Relations) (s : Code) → map (λ (e : Entrant). e.number) (entrants r s) ≡ members r s
entrants_are_members r s =
    listed_numbers (least_live_paper r s) (keys_of r.candidates)
    ∙ filter_agree (λ c. is_some (least_live_paper r s c)) (has_live_entry r s)
    (λ c. sym (any_is (is_live_entry r s c) (λ (e : (ℕ × Code) × Entry). e.0.1) r.entries)) (keys_of r.candidates)

-- and each is listed with the least of their live papers
pub entrants_sit : (r : Relations) (s : Code)
    → All (λ (e : Entrant). least_live_paper r s e.number ≡ Some e.paper) (entrants r s)
entrants_sit r s = listed_papers (least_live_paper r s) (keys_of r.candidates)
