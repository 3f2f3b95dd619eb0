-- What an entry that is set changes in the lists: the place of its candidate in the list of its session.
use Rattle.exam_rules.proofs.Words.{Global, option_map, option_map_or, AllByRecursion, cons_option, IsStrictlySortedBy}
use Rattle.exam_rules.proofs.Words.{keys_of, is_at, texts_ties, nat_cmp_is, Ordering, Less, Equal, Greater, nat_cmp}
use Rattle.exam_rules.proofs.Words.{MatchOrdering, is_eq, le-ltb, lt-ltb, ne_eqb, ranked, sorted_head, sorted_tail}
use Rattle.exam_rules.proofs.Words.{exact_pairs, exact_bytes, exact_unsigned, Entry, Paper, Opening, Entrant}
use Rattle.exam_rules.proofs.Words.{SessionLists, Code, Relations, code_cmp, same_code, entry_cmp, row_at, has_row}
use Rattle.exam_rules.proofs.Words.{head_of, is_live_entry, is_paper_of, least_live_paper, ListsRise, AreInOrder}
use Rattle.exam_rules.proofs.Words.{Candidates, listed, entrant, entrants, AreListsOf}
use Rattle.std.proofs.Common.{◌≡◌, ℕ, ◌<◌, ◌≤◌, ◌&&◌, Bool, true, false, cond, List, [], ◌∷◌, ◌++◌, filter, map, nat_eq}
use Rattle.std.proofs.Common.{nat_lt, Option, None, Some, Vec, is_some, refl, ap, sym, ◌∙◌, arith}
use Rattle.std.specs.BTreeMap.{insert_entry}
use Rattle.std.specs.Ordering.{match_ordering}
use Rattle.std.proofs.lemmas.Bool.{and_right}
use Rattle.std.proofs.lemmas.Map.Lookups.{CmpEqualImpliesEq}
use Rattle.exam_rules.specs.declared.rows.Candidate.{Candidate}
use Rattle.exam_rules.specs.Relations.{put_row}
use Rattle.exam_rules.specs.Lists.{placed, listed_paper, SetsEntry}
use Rattle.exam_rules.proofs.InOrder.{lists_rise}
use Rattle.exam_rules.proofs.Listed.{listed_with, entrants_are_members}
use Rattle.exam_rules.proofs.Naming.{same_code_exact}

-- ---- a row that is put

module _ {K X : Type 0} (cmp : K → K → Ordering) (exact : CmpEqualImpliesEq cmp) where
  -- rows among which none has the key are the same
  pub put_filtered : (p : K × X → Bool) (rows : List (K × X)) (k : K) (v : X) → ((w : X) → p (k, w) ≡ false)
      → filter p (put_row cmp rows k v) ≡ filter p rows
  put_filtered p [] k v none = ap (λ b. cond b ((k, v) ∷ []) []) (none v)
  put_filtered p (e ∷ es) k v none = inner (cmp k e.0) refl (put_filtered p es k v none)
    where
      inner : (o : Ordering) → cmp k e.0 ≡ o → filter p (put_row cmp es k v) ≡ filter p es
          → filter p (match_ordering o ((k, v) ∷ e ∷ es) ((e.0, v) ∷ es) (e ∷ insert_entry cmp es k v))
          ≡ filter p (e ∷ es)
      inner Less is rest = ap (λ b. cond b ((k, v) ∷ filter p (e ∷ es)) (filter p (e ∷ es))) (none v)
      inner Equal is rest =
          let now : p (e.0, v) ≡ false = ap (λ z. p (z, v)) (sym (exact k e.0 is)) ∙ none v in
          let then : p e ≡ false = ap (λ z. p (z, e.1)) (sym (exact k e.0 is)) ∙ none e.1 in
          ap (λ b. cond b ((e.0, v) ∷ filter p es) (filter p es)) now
          ∙ sym (ap (λ b. cond b (e ∷ filter p es) (filter p es)) then)
      inner Greater is rest = ap (λ fs. cond (p e) (e ∷ fs) fs) rest

pub entries_exact : CmpEqualImpliesEq entry_cmp
entries_exact = exact_pairs nat_cmp code_cmp exact_unsigned exact_bytes

-- a paper is of no other session
of_one_session : (r : Relations) (s t p : Code) → is_paper_of r s p ≡ true → same_code s t ≡ false
    → is_paper_of r t p ≡ false
of_one_session r s t p of other = inner (row_at code_cmp r.papers p) of
  where
    inner : (o : Option Paper) → option_map_or (λ (paper : Paper). same_code paper.session s) o false ≡ true
        → option_map_or (λ (paper : Paper). same_code paper.session t) o false ≡ false
    inner None of = refl
    inner (Some paper) of = ap (λ u. same_code u t) (same_code_exact paper.session s of) ∙ other

module _ (before after : Relations) (s : Code) (c : ℕ) (sets : SetsEntry before after s c) where
  -- if the entry does not count, the least live paper is the same
  least_same : (t : Code) (d : ℕ) → ((w : Entry) → is_live_entry before t d ((c, sets.paper), w) ≡ false)
      → least_live_paper after t d ≡ least_live_paper before t d
  least_same t d none =
      ap (λ es. head_of (map (λ (e : (ℕ × Code) × Entry). e.0.1) (filter (is_live_entry after t d) es))) sets.entries
      ∙ ap (λ (papers : List (Code × Paper)). head_of (map (λ (e : (ℕ × Code) × Entry). e.0.1)
      (filter (λ (e : (ℕ × Code) × Entry). nat_eq e.0.0 d
      && (e.1.live && option_map_or (λ (paper : Paper). same_code paper.session t)
      (row_at code_cmp papers e.0.1) false))
      (put_row entry_cmp before.entries (c, sets.paper) sets.entry)))) sets.papers
      ∙ ap (λ es. head_of (map (λ (e : (ℕ × Code) × Entry). e.0.1) es))
      (put_filtered entry_cmp entries_exact (is_live_entry before t d) before.entries
      (c, sets.paper) sets.entry none)

  -- of another candidate
  pub least_of_other : (t : Code) (d : ℕ) → nat_eq c d ≡ false
      → least_live_paper after t d ≡ least_live_paper before t d
  least_of_other t d other = least_same t d (λ w. ap (λ b. b && (w.live && is_paper_of before t sets.paper)) other)

  -- in another session
  least_elsewhere : (t : Code) → same_code s t ≡ false → (d : ℕ)
      → least_live_paper after t d ≡ least_live_paper before t d
  least_elsewhere t other d =
      least_same t d (λ w. and_right (nat_eq c d) _
      (and_right w.live _ (of_one_session before s t sets.paper sets.of_session other)))

-- ---- one list among others

-- after one list has been put in the place of another
pub exchanged : {A : Type 0} (old new : List (Code × Vec A Global)) (list : Vec A Global) (s t : Code)
    → row_at code_cmp new t ≡ cond (is_at (code_cmp s) t) (Some list) (row_at code_cmp old t)
    → listed new t ≡ cond (same_code s t) list.items (listed old t)
exchanged {A} old new list s t at =
    ap (λ (o : Option (Vec A Global)). option_map_or (λ (v : Vec A Global). v.items) o [])
    (at ∙ ap (λ b. cond b (Some list) (row_at code_cmp old t)) (sym (texts_ties s t)))
    ∙ split (same_code s t)
  where
    split : (b : Bool) → option_map_or (λ (v : Vec A Global). v.items) (cond b (Some list) (row_at code_cmp old t)) []
        ≡ cond b list.items (listed old t)
    split true = refl
    split false = refl

-- an empty list reads like no list
pub empty_unseen : {A : Type 0} (old : List (Code × Vec A Global)) (s t : Code) → has_row code_cmp old s ≡ false
    → cond (same_code s t) [] (listed old t) ≡ listed old t
empty_unseen {A} old s t none = inner (same_code s t) refl
  where
    nothing : (o : Option (Vec A Global)) → is_some o ≡ false → [] ≡ option_map_or (λ (v : Vec A Global). v.items) o []
    nothing None none = refl
    nothing (Some v) none = absurd (let differ : true ≡ false = none in cc)

    inner : (b : Bool) → same_code s t ≡ b → cond b [] (listed old t) ≡ listed old t
    inner true same = nothing (row_at code_cmp old s) none ∙ ap (listed old) (same_code_exact s t same)
    inner false same = refl

-- ---- who is listed

listed_same : (f g : ℕ → Option Code) → ((d : ℕ) → g d ≡ f d) → (cs : List ℕ) → listed_with g cs ≡ listed_with f cs
listed_same f g same [] = refl
listed_same f g same (d ∷ cs) =
    ap (λ o. cons_option (option_map (entrant d) o) (listed_with g cs)) (same d)
    ∙ ap (cons_option (option_map (entrant d) (f d))) (listed_same f g same cs)

-- numbers after one that is no less are greater
pub raised : (n m : ℕ) → n ≤ m → (cs : List ℕ) → AllByRecursion (λ d. nat_cmp m d ≡ Less) cs
    → AllByRecursion (λ d. n < d) cs
raised n m low [] up = tt
raised n m low (d ∷ cs) up = ((let l : m < d = ranked m d Less (sym up.0) in omega arith), raised n m low cs up.1)

-- another paper of one number changes that number's place alone
module _ (f g : ℕ → Option Code) (n : ℕ) (same : (d : ℕ) → nat_eq n d ≡ false → g d ≡ f d) where
  abbrev lesser : List Entrant → List Entrant
  lesser es = filter (λ (e : Entrant). nat_lt e.number n) es

  abbrev greater : List Entrant → List Entrant
  greater es = filter (λ (e : Entrant). nat_lt n e.number) es

  -- of greater numbers
  pub above_same : (cs : List ℕ) → AllByRecursion (λ d. n < d) cs → listed_with g cs ≡ listed_with f cs
  above_same [] up = refl
  above_same (d ∷ cs) up =
      ap (λ o. cons_option (option_map (entrant d) o) (listed_with g cs))
      (same d (ne_eqb n d (λ s. let l : n < d = up.0 in omega arith)))
      ∙ ap (cons_option (option_map (entrant d) (f d))) (above_same cs up.1)

  none_lesser : (cs : List ℕ) → AllByRecursion (λ d. n < d) cs → lesser (listed_with f cs) ≡ []
  none_lesser [] up = refl
  none_lesser (d ∷ cs) up = inner (f d) (le-ltb d n (let k : n < d = up.0 in omega arith)) (none_lesser cs up.1)
    where
      inner : (o : Option Code) → nat_lt d n ≡ false → lesser (listed_with f cs) ≡ []
          → lesser (cons_option (option_map (entrant d) o) (listed_with f cs)) ≡ []
      inner None after rest = rest
      inner (Some p) after rest =
          ap (λ b. cond b (entrant d p ∷ lesser (listed_with f cs)) (lesser (listed_with f cs))) after ∙ rest

  all_greater : (cs : List ℕ) → AllByRecursion (λ d. n < d) cs → greater (listed_with f cs) ≡ listed_with f cs
  all_greater [] up = refl
  all_greater (d ∷ cs) up = inner (f d) (lt-ltb n d up.0) (all_greater cs up.1)
    where
      inner : (o : Option Code) → nat_lt n d ≡ true → greater (listed_with f cs) ≡ listed_with f cs
          → greater (cons_option (option_map (entrant d) o) (listed_with f cs))
          ≡ cons_option (option_map (entrant d) o) (listed_with f cs)
      inner None after rest = rest
      inner (Some p) after rest =
          ap (λ b. cond b (entrant d p ∷ greater (listed_with f cs)) (greater (listed_with f cs))) after
          ∙ ap (λ es. entrant d p ∷ es) rest

  -- which are placed behind it
  placed_first : (o : Option Code) (cs : List ℕ) → AllByRecursion (λ d. n < d) cs
      → cons_option (option_map (entrant n) o) (listed_with g cs) ≡ placed n o (listed_with f cs)
  placed_first o cs up =
      ap (cons_option (option_map (entrant n) o)) (above_same cs up ∙ sym (all_greater cs up))
      ∙ ap (λ es. es ++ cons_option (option_map (entrant n) o) (greater (listed_with f cs))) (sym (none_lesser cs up))

  -- it makes no difference who was listed with this number
  placed_over : (o old : Option Code) (es : List Entrant)
      → placed n o es ≡ placed n o (cons_option (option_map (entrant n) old) es)
  placed_over o None es = refl
  placed_over o (Some p) es =
      ap (λ b. cond b (entrant n p ∷ lesser es) (lesser es) ++ cons_option (option_map (entrant n) o) (greater es))
      (sym (le-ltb n n (omega arith)))
      ∙ ap (λ b. lesser (entrant n p ∷ es)
      ++ cons_option (option_map (entrant n) o) (cond b (entrant n p ∷ greater es) (greater es)))
      (sym (le-ltb n n (omega arith)))

  -- a lesser number comes before
  placed_behind : (o old : Option Code) (d : ℕ) (es : List Entrant) → d < n
      → cons_option (option_map (entrant d) old) (placed n o es)
      ≡ placed n o (cons_option (option_map (entrant d) old) es)
  placed_behind o None d es less = refl
  placed_behind o (Some p) d es less =
      ap (λ b. cond b (entrant d p ∷ lesser es) (lesser es) ++ cons_option (option_map (entrant n) o) (greater es))
      (sym (lt-ltb d n less))
      ∙ ap (λ b. lesser (entrant d p ∷ es)
      ++ cons_option (option_map (entrant n) o) (cond b (entrant d p ∷ greater es) (greater es)))
      (sym (le-ltb n d (omega arith)))

  module _ {X : Type 0} where
    none_above : (rows : List (ℕ × X)) → AllByRecursion (λ d. n < d) (keys_of rows) → has_row nat_cmp rows n ≡ false
    none_above [] up = refl
    none_above (e ∷ rows) up =
        ap (λ o. is_some (cond (is_eq o) (Some e.1) (row_at nat_cmp rows n))) (sym (nat_cmp_is n e.0 Less up.0))
        ∙ none_above rows up.1

    pub relisted : (rows : List (ℕ × X)) → IsStrictlySortedBy nat_cmp (keys_of rows)
        → listed_with g (keys_of rows)
        ≡ placed n (cond (has_row nat_cmp rows n) (g n) None) (listed_with f (keys_of rows))
    relisted [] up = refl
    relisted (e ∷ rows) up =
        inner (nat_cmp n e.0) refl (ranked n e.0 (nat_cmp n e.0) refl)
        (relisted rows (sorted_tail nat_cmp e.0 (keys_of rows) up))
      where
        ks : List ℕ
        ks = keys_of rows

        later : (m : ℕ) → m ≤ e.0 → AllByRecursion (λ d. m < d) (keys_of rows)
        later m low = raised m e.0 low (keys_of rows) (sorted_head nat_cmp e.0 (keys_of rows) up)

        at : (o : Ordering) → Option Code
        at o = cond (is_some (cond (is_eq o) (Some e.1) (row_at nat_cmp rows n))) (g n) None

        inner : (o : Ordering) → nat_cmp n e.0 ≡ o → MatchOrdering o (n < e.0) (n ≡ e.0) (e.0 < n)
            → listed_with g (keys_of rows)
            ≡ placed n (cond (has_row nat_cmp rows n) (g n) None) (listed_with f (keys_of rows))
            → listed_with g (e.0 ∷ keys_of rows)
            ≡ placed n (cond (is_some (cond (is_eq (nat_cmp n e.0)) (Some e.1) (row_at nat_cmp rows n)))
            (g n) None) (listed_with f (e.0 ∷ keys_of rows))
        inner Less is w rest =
            let up : AllByRecursion (λ d. n < d) (e.0 ∷ keys_of rows) = (w, later n (omega arith)) in
            placed_first None (e.0 ∷ keys_of rows) up
            ∙ ap (λ b. placed n (cond b (g n) None) (listed_with f (e.0 ∷ keys_of rows)))
            (sym (none_above (e ∷ rows) up))
        inner Equal is w rest =
            let up : AllByRecursion (λ d. n < d) (keys_of rows) = later n (omega arith) in
            ap (λ d. cons_option (option_map (entrant d) (g d)) (listed_with g (keys_of rows))) (sym w)
            ∙ placed_first (g n) (keys_of rows) up
            ∙ placed_over (g n) (f n) (listed_with f (keys_of rows))
            ∙ ap (λ d. placed n (g n) (cons_option (option_map (entrant d) (f d)) (listed_with f (keys_of rows)))) w
            ∙ ap (λ o. placed n (cond (is_some (cond (is_eq o) (Some e.1) (row_at nat_cmp rows n))) (g n) None)
            (listed_with f (e.0 ∷ keys_of rows))) (sym is)
        inner Greater is w rest =
            ap (λ o. cons_option (option_map (entrant e.0) o) (listed_with g (keys_of rows)))
            (same e.0 (ne_eqb n e.0 (λ s. omega arith)))
            ∙ ap (cons_option (option_map (entrant e.0) (f e.0))) rest
            ∙ placed_behind (cond (has_row nat_cmp rows n) (g n) None) (f e.0) e.0 (listed_with f (keys_of rows)) w
            ∙ ap (λ o. placed n (cond (is_some (cond (is_eq o) (Some e.1) (row_at nat_cmp rows n))) (g n) None)
            (listed_with f (e.0 ∷ keys_of rows))) (sym is)

-- ---- the lists

module _ (before after : Relations) (s : Code) (c : ℕ) (sets : SetsEntry before after s c) where
  -- in another session the same are listed
  listed_elsewhere : (t : Code) → same_code s t ≡ false → entrants after t ≡ entrants before t
  listed_elsewhere t other =
      ap (λ (rows : List (ℕ × Candidate)). listed_with (least_live_paper after t) (keys_of rows)) sets.candidates
      ∙ listed_same (least_live_paper before t) (least_live_paper after t)
      (least_elsewhere before after s c sets t other) (keys_of before.candidates)

  -- and in the session the others
  listed_anew : IsStrictlySortedBy nat_cmp (keys_of after.candidates)
      → entrants after s ≡ placed c (listed_paper after s c) (entrants before s)
  listed_anew up =
      relisted (least_live_paper before s) (least_live_paper after s) c
      (λ d other. least_of_other before after s c sets s d other) after.candidates up
      ∙ ap (λ (rows : List (ℕ × Candidate)). placed c (listed_paper after s c)
      (listed_with (least_live_paper before s) (keys_of rows))) sets.candidates

  -- one list is what it is to be, and the others stay
  pub lists_with : (old new : SessionLists) (list : List Entrant) → ((t : Code) → ListsRise after t)
      → AreListsOf before old → list ≡ entrants after s
      → ((t : Code) → listed new.members.entries t ≡ cond (same_code s t) list (listed old.members.entries t))
      → new.halls.entries ≡ old.halls.entries → AreListsOf after new
  lists_with old new list up are made put halls = record {
    numbers = entrants_are_members after;
    members = λ t. put t ∙ inner t (same_code s t) refl;
    halls = λ t. ap (λ (rows : List (Code × Vec Code Global)). listed rows t) halls ∙ are.halls t
        ∙ ap (λ (rows : List ((Code × Code) × Opening)). map (λ (o : (Code × Code) × Opening). o.0.1)
        (filter (λ (o : (Code × Code) × Opening). same_code o.0.0 t) rows)) (sym sets.openings);
    rising = up;
  }
    where
      inner : (t : Code) (b : Bool) → same_code s t ≡ b → cond b list (listed old.members.entries t) ≡ entrants after t
      inner t true same = made ∙ ap (entrants after) (same_code_exact s t same)
      inner t false other = are.members t ∙ sym (listed_elsewhere t other)

  pub relisted_lists : (old new : SessionLists) (list : List Entrant) → AreInOrder after → AreListsOf before old
      → list ≡ placed c (listed_paper after s c) (listed old.members.entries s)
      → ((t : Code) → listed new.members.entries t ≡ cond (same_code s t) list (listed old.members.entries t))
      → new.halls.entries ≡ old.halls.entries → AreListsOf after new
  relisted_lists old new list up are made put halls =
      lists_with old new list (λ t. lists_rise after t up) are
      (made ∙ ap (placed c (listed_paper after s c)) (are.members s) ∙ sym (listed_anew (up Candidates))) put halls
