-- What an entry that is made live changes in the lists: its candidate is in the list of its session, with the lesser
-- paper.
use Rattle.exam_rules.proofs.Words.{option_map, option_map_or, AllByRecursion, cons_option, IsNonDecreasingBy}
use Rattle.exam_rules.proofs.Words.{IsStrictlySortedBy, keys_of, Ordering, Less, Equal, Greater, IsTotalOrder}
use Rattle.exam_rules.proofs.Words.{nat_cmp_total, then_total, on_total, nat_list_cmp_total, nat_cmp, MatchOrdering}
use Rattle.exam_rules.proofs.Words.{ordering_then, is_eq, is_lt, nat_tests, and_parts, ranked, tied_itself, get_or-map}
use Rattle.exam_rules.proofs.Words.{length-map, IsStrictlySortedBy-filter, Less-from_sorted, sorted_head, sorted_tail}
use Rattle.exam_rules.proofs.Words.{exact_unsigned_eq, Entry, Paper, Entrant, SessionLists, Code, Relations, code_cmp}
use Rattle.exam_rules.proofs.Words.{same_code, entry_cmp, opening_cmp, row_at, has_row, has_live_entry, head_of}
use Rattle.exam_rules.proofs.Words.{is_live_entry, is_paper_of, least_live_paper, ListsRise, AreInOrder, Candidates}
use Rattle.exam_rules.proofs.Words.{Openings, listed, entrant, entrants, entered, AreListsOf}
use Rattle.std.proofs.Common.{◌≡◌, ℕ, zero, suc, ◌<◌, ◌≤◌, ◌&&◌, Bool, true, false, cond, List, [], ◌∷◌, length, filter}
use Rattle.std.proofs.Common.{map, get_or, set, nat_eq, nat_lt, Option, None, Some, is_some, eq-eqb, refl, ap, sym}
use Rattle.std.proofs.Common.{subst, ◌∙◌, arith}
use Rattle.std.specs.List.{insert}
use Rattle.std.specs.List.Sorted.{IsPartitionPoint}
use Rattle.std.specs.BTreeMap.{insert_entry}
use Rattle.std.specs.Cmp.{unsigned_ties}
use Rattle.std.specs.Ordering.{match_ordering}
use Rattle.exam_rules.specs.declared.rows.Candidate.{Candidate}
use Rattle.exam_rules.specs.Relations.{put_row}
use Rattle.exam_rules.specs.Orders.{KeysRise}
use Rattle.exam_rules.specs.Tables.{Entries}
use Rattle.exam_rules.specs.Lists.{lesser_paper, SetsEntry, MakesLive}
use Rattle.exam_rules.proofs.Listed.{listed_with}
use Rattle.exam_rules.proofs.Naming.{halls_rise}
use Rattle.exam_rules.proofs.Relisting.{above_same, entries_exact, least_of_other, lists_with, raised}

-- the paper, or the one that there is already, if that is less
abbrev lowered : Code → Option Code → Code
lowered p least = option_map_or (lesser_paper p) least p

entries_total : IsTotalOrder entry_cmp
entries_total = then_total (on_total (λ (k : ℕ × Code). k.0) nat_cmp_total)
    (on_total (λ (k : ℕ × Code). k.1) nat_list_cmp_total)

-- what is above a key is above a lesser one
all_above : {K : Type 0} (cmp : K → K → Ordering) → IsTotalOrder cmp → (k e : K) (ks : List K) → cmp k e ≡ Less
    → AllByRecursion (λ y. cmp e y ≡ Less) ks → AllByRecursion (λ y. cmp k y ≡ Less) ks
all_above cmp o k e [] less above = tt
all_above cmp o k e (y ∷ ks) less above = (o.trans k e y less above.0, all_above cmp o k e ks less above.1)

-- ---- the least live paper

module _ (c : ℕ) (p : Code) (counts : Code → Bool) (here : counts p ≡ true) where
  abbrev passes : (ℕ × Code) × Entry → Bool
  passes e = nat_eq e.0.0 c && (e.1.live && counts e.0.1)

  abbrev papers : List ((ℕ × Code) × Entry) → List Code
  papers rows = map (λ (e : (ℕ × Code) × Entry). e.0.1) rows

  abbrev first_paper : List ((ℕ × Code) × Entry) → Option Code
  first_paper rows = head_of (papers (filter passes rows))

  abbrev now_live : Entry
  now_live = record { live = true }

  passes_now : passes ((c, p), now_live) ≡ true
  passes_now = ap (λ b. b && counts p) (eq-eqb c c refl) ∙ here

  -- of one candidate the papers decide
  by_paper : (e : (ℕ × Code) × Entry) → passes e ≡ true → entry_cmp (c, p) e.0 ≡ code_cmp p e.0.1
  by_paper e own =
      let same : e.0.0 ≡ c = exact_unsigned_eq e.0.0 c (and_parts (nat_eq e.0.0 c) (e.1.live && counts e.0.1) own).0 in
      ap (λ o. ordering_then o (code_cmp p e.0.1)) (ap (nat_cmp c) same ∙ tied_itself nat_cmp_total c)

  lesser_at : (q : Code) (o : Ordering) → code_cmp p q ≡ o → lesser_paper p q ≡ cond (is_lt o) p q
  lesser_at q o is = ap (λ o. cond (is_lt o) p q) is

  -- papers of greater keys are greater
  above_all : (rows : List ((ℕ × Code) × Entry)) → AllByRecursion (λ k. entry_cmp (c, p) k ≡ Less) (keys_of rows)
      → lowered p (first_paper rows) ≡ p
  above_all [] up = refl
  above_all (e ∷ es) up = inner (passes e) refl (above_all es up.1)
    where
      inner : (b : Bool) → passes e ≡ b → lowered p (first_paper es) ≡ p
          → lowered p (head_of (papers (cond b (e ∷ filter passes es) (filter passes es)))) ≡ p
      inner true own rest = lesser_at e.0.1 Less (sym (by_paper e own) ∙ up.0)
      inner false other rest = rest

  pub least_put : (rows : List ((ℕ × Code) × Entry)) → IsStrictlySortedBy entry_cmp (keys_of rows)
      → first_paper (put_row entry_cmp rows (c, p) now_live) ≡ Some (lowered p (first_paper rows))
  least_put [] up = ap (λ b. head_of (papers (cond b (((c, p), now_live) ∷ []) []))) passes_now
  least_put (e ∷ es) up = outer (entry_cmp (c, p) e.0) refl (least_put es (sorted_tail entry_cmp e.0 (keys_of es) up))
    where
      put : List ((ℕ × Code) × Entry)
      put = put_row entry_cmp es (c, p) now_live

      later : AllByRecursion (λ k. entry_cmp e.0 k ≡ Less) (keys_of es)
      later = sorted_head entry_cmp e.0 (keys_of es) up

      tied : entry_cmp (c, p) e.0 ≡ Equal → (b : Bool) → passes e ≡ b
          → lowered p (head_of (papers (cond b (e ∷ filter passes es) (filter passes es)))) ≡ p
      tied is true own = lesser_at e.0.1 Equal (sym (by_paper e own) ∙ is)
          ∙ sym (ap (λ (k : ℕ × Code). k.1) (entries_exact (c, p) e.0 is))
      tied is false other =
          above_all es (subst (λ (k : ℕ × Code). AllByRecursion (λ q. entry_cmp k q ≡ Less) (keys_of es))
          (sym (entries_exact (c, p) e.0 is)) later)

      behind : entry_cmp (c, p) e.0 ≡ Greater → (b : Bool) → passes e ≡ b
          → first_paper put ≡ Some (lowered p (first_paper es))
          → head_of (papers (cond b (e ∷ filter passes put) (filter passes put)))
          ≡ Some (lowered p (head_of (papers (cond b (e ∷ filter passes es) (filter passes es)))))
      behind is true own rest = ap Some (sym (lesser_at e.0.1 Greater (sym (by_paper e own) ∙ is)))
      behind is false other rest = rest

      outer : (o : Ordering) → entry_cmp (c, p) e.0 ≡ o → first_paper put ≡ Some (lowered p (first_paper es))
          → first_paper (match_ordering o (((c, p), now_live) ∷ e ∷ es) ((e.0, now_live) ∷ es)
          (e ∷ insert_entry entry_cmp es (c, p) now_live)) ≡ Some (lowered p (first_paper (e ∷ es)))
      outer Less is rest =
          ap (λ b. head_of (papers (cond b (((c, p), now_live) ∷ filter passes (e ∷ es)) (filter passes (e ∷ es)))))
          passes_now
          ∙ ap Some (sym (above_all (e ∷ es) (is, all_above entry_cmp entries_total (c, p) e.0 (keys_of es) is later)))
      outer Equal is rest =
          let same : (c, p) ≡ e.0 = entries_exact (c, p) e.0 is in
          ap (λ b. head_of (papers (cond b ((e.0, now_live) ∷ filter passes es) (filter passes es))))
          (ap (λ (k : ℕ × Code). passes (k, now_live)) (sym same) ∙ passes_now)
          ∙ ap (λ (k : ℕ × Code). Some k.1) (sym same)
          ∙ ap Some (sym (tied is (passes e) refl))
      outer Greater is rest = behind is (passes e) refl rest

-- ---- the list

module _ (f g : ℕ → Option Code) (n : ℕ) (p : Code) (same : (d : ℕ) → nat_eq n d ≡ false → g d ≡ f d)
    (here : g n ≡ Some (lowered p (f n))) where
  entered_first : (cs : List ℕ) → AllByRecursion (λ d. nat_cmp n d ≡ Less) cs
      → entered n p (listed_with f cs) ≡ entrant n p ∷ listed_with f cs
  entered_first [] up = refl
  entered_first (d ∷ cs) up = inner (f d) (entered_first cs up.1)
    where
      inner : (o : Option Code) → entered n p (listed_with f cs) ≡ entrant n p ∷ listed_with f cs
          → entered n p (cons_option (option_map (entrant d) o) (listed_with f cs)) ≡ entrant n p
          ∷ cons_option (option_map (entrant d) o) (listed_with f cs)
      inner None rest = rest
      inner (Some q) rest =
          ap (λ o. match_ordering o (entrant n p ∷ entrant d q ∷ listed_with f cs)
          (entrant n (lesser_paper p q) ∷ listed_with f cs) (entrant d q ∷ entered n p (listed_with f cs))) up.0

  entered_here : (cs : List ℕ) → AllByRecursion (λ d. nat_cmp n d ≡ Less) cs → (o : Option Code)
      → entrant n (lowered p o)
      ∷ listed_with f cs ≡ entered n p (cons_option (option_map (entrant n) o) (listed_with f cs))
  entered_here cs up None = sym (entered_first cs up)
  entered_here cs up (Some q) =
      sym (ap (λ o. match_ordering o (entrant n p ∷ entrant n q ∷ listed_with f cs)
      (entrant n (lesser_paper p q) ∷ listed_with f cs) (entrant n q ∷ entered n p (listed_with f cs)))
      (tied_itself nat_cmp_total n))

  entered_behind : (d : ℕ) → nat_cmp n d ≡ Greater → (es : List Entrant) (o : Option Code)
      → cons_option (option_map (entrant d) o) (entered n p es)
      ≡ entered n p (cons_option (option_map (entrant d) o) es)
  entered_behind d is es None = refl
  entered_behind d is es (Some q) =
      sym (ap (λ o. match_ordering o (entrant n p ∷ entrant d q ∷ es) (entrant n (lesser_paper p q) ∷ es)
      (entrant d q ∷ entered n p es)) is)

  module _ {X : Type 0} where
    none_there : (rows : List (ℕ × X)) → AllByRecursion (λ d. nat_cmp n d ≡ Less) (keys_of rows)
        → has_row nat_cmp rows n ≡ false
    none_there [] up = refl
    none_there (e ∷ rows) up =
        ap (λ o. is_some (cond (is_eq o) (Some e.1) (row_at nat_cmp rows n))) up.0 ∙ none_there rows up.1

    pub entered_lists : (rows : List (ℕ × X)) → IsStrictlySortedBy nat_cmp (keys_of rows)
        → has_row nat_cmp rows n ≡ true → listed_with g (keys_of rows) ≡ entered n p (listed_with f (keys_of rows))
    entered_lists [] up has = absurd (let differ : false ≡ true = has in cc)
    entered_lists (e ∷ rows) up has =
        inner (nat_cmp n e.0) refl (entered_lists rows (sorted_tail nat_cmp e.0 (keys_of rows) up))
      where
        later : AllByRecursion (λ d. nat_cmp e.0 d ≡ Less) (keys_of rows)
        later = sorted_head nat_cmp e.0 (keys_of rows) up

        inner : (o : Ordering) → nat_cmp n e.0 ≡ o
            → (has_row nat_cmp rows n ≡ true
            → listed_with g (keys_of rows) ≡ entered n p (listed_with f (keys_of rows)))
            → listed_with g (e.0 ∷ keys_of rows) ≡ entered n p (listed_with f (e.0 ∷ keys_of rows))
        inner Less is rest =
            absurd (let differ : true ≡ false = sym has
            ∙ none_there (e ∷ rows) (is, all_above nat_cmp nat_cmp_total n e.0 (keys_of rows) is later) in cc)
        inner Equal is rest =
            let own : n ≡ e.0 = exact_unsigned_eq n e.0 (unsigned_ties n e.0 ∙ ap is_eq is) in
            let up : AllByRecursion (λ d. nat_cmp n d ≡ Less) (keys_of rows) =
            subst (λ m. AllByRecursion (λ d. nat_cmp m d ≡ Less) (keys_of rows)) (sym own) later in
            ap (λ d. cons_option (option_map (entrant d) (g d)) (listed_with g (keys_of rows))) (sym own)
            ∙ ap (λ o. cons_option (option_map (entrant n) o) (listed_with g (keys_of rows))) here
            ∙ ap (λ es. entrant n (lowered p (f n)) ∷ es)
            (above_same f g n same (keys_of rows) (raised n n (omega arith) (keys_of rows) up))
            ∙ entered_here (keys_of rows) up (f n)
            ∙ ap (λ d. entered n p (cons_option (option_map (entrant d) (f d)) (listed_with f (keys_of rows)))) own
        inner Greater is rest =
            let there : has_row nat_cmp rows n ≡ true =
            sym (ap (λ o. is_some (cond (is_eq o) (Some e.1) (row_at nat_cmp rows n))) is) ∙ has in
            ap (λ o. cons_option (option_map (entrant e.0) o) (listed_with g (keys_of rows)))
            (same e.0 (unsigned_ties n e.0 ∙ ap is_eq is))
            ∙ ap (cons_option (option_map (entrant e.0) (f e.0))) (rest there)
            ∙ entered_behind e.0 is (listed_with f (keys_of rows)) (f e.0)

-- ---- the lists

entry_set : (before after : Relations) (s : Code) (c : ℕ) (p : Code) → MakesLive before after s c p
    → SetsEntry before after s c
entry_set before after s c p made = record {
  paper = p;
  entry = record { live = true };
  of_session = made.of_session;
  entries = made.entries;
  candidates = made.candidates;
  papers = made.papers;
  openings = made.openings;
}

module _ (before after : Relations) (s : Code) (c : ℕ) (p : Code) (made : MakesLive before after s c p) where
  sets : SetsEntry before after s c
  sets = entry_set before after s c p made

  -- the paper is among the candidate's live ones
  least_lowered : KeysRise entry_cmp before.entries
      → least_live_paper after s c ≡ Some (lowered p (least_live_paper before s c))
  least_lowered up =
      ap (λ es. head_of (map (λ (e : (ℕ × Code) × Entry). e.0.1) (filter (is_live_entry after s c) es))) made.entries
      ∙ ap (λ (papers : List (Code × Paper)). head_of (map (λ (e : (ℕ × Code) × Entry). e.0.1)
      (filter (λ (e : (ℕ × Code) × Entry). nat_eq e.0.0 c
      && (e.1.live && option_map_or (λ (paper : Paper). same_code paper.session s)
      (row_at code_cmp papers e.0.1) false))
      (put_row entry_cmp before.entries (c, p) (record { live = true }))))) made.papers
      ∙ least_put c p (is_paper_of before s) made.of_session before.entries up

  pub entered_list : AreInOrder before → entrants after s ≡ entered c p (entrants before s)
  entered_list up =
      ap (λ (rows : List (ℕ × Candidate)). listed_with (least_live_paper after s) (keys_of rows)) made.candidates
      ∙ entered_lists (least_live_paper before s) (least_live_paper after s) c p
      (λ d other. least_of_other before after s c sets s d other)
      (least_lowered (up Entries)) before.candidates (up Candidates) made.candidate

  -- entered in the list of the session
  pub entered_all : (old new : SessionLists) (list : List Entrant) → AreInOrder before → AreListsOf before old
      → list ≡ entered c p (listed old.members.entries s)
      → ((t : Code) → listed new.members.entries t ≡ cond (same_code s t) list (listed old.members.entries t))
      → new.halls.entries ≡ old.halls.entries → AreListsOf after new
  entered_all old new list up are is put halls =
      lists_with before after s c sets old new list (λ t. lists_rise_on t) are
      (is ∙ ap (entered c p) (are.members s) ∙ sym (entered_list up)) put halls
    where
      lists_rise_on : (t : Code) → ListsRise after t
      lists_rise_on t = record {
        numbers = IsStrictlySortedBy-filter nat_cmp (has_live_entry after t) (keys_of after.candidates)
            (subst (KeysRise nat_cmp) (sym made.candidates) (up Candidates));
        codes = halls_rise t after.openings (subst (KeysRise opening_cmp) (sym made.openings) (up Openings));
      }

-- ---- the place in a list

module _ (n : ℕ) (p : Code) where
  abbrev pub IsPlace : List Entrant → ℕ → Type 0
  IsPlace xs i = IsPartitionPoint (λ (e : Entrant). nat_lt e.number n ≡ true)
      (λ (e : Entrant). nat_lt e.number n ≡ false) xs i

  less_from : (m : ℕ) → nat_lt m n ≡ false → nat_eq m n ≡ false → nat_cmp n m ≡ Less
  less_from m lower same = grind (arith, nat_tests)

  equal_from : (m : ℕ) → nat_eq m n ≡ true → nat_cmp n m ≡ Equal
  equal_from m same = grind (arith, nat_tests)

  greater_from : (m : ℕ) → nat_lt m n ≡ true → nat_cmp n m ≡ Greater
  greater_from m lower = grind (arith, nat_tests)

  later_place : (e : Entrant) (es : List Entrant) (i : ℕ) → IsPlace (e ∷ es) (suc i) → IsPlace es i
  later_place e es i place = (
    λ k d low below. place.0 (suc k) d (omega arith) (omega arith),
    λ k d low inside. place.1 (suc k) d (omega arith) (omega arith),
  )

  by_cmp : (e : Entrant) (es : List Entrant) (o : Ordering) → nat_cmp n e.number ≡ o
      → entered n p (e ∷ es)
      ≡ match_ordering o (entrant n p ∷ e ∷ es) (entrant n (lesser_paper p e.paper) ∷ es) (e ∷ entered n p es)
  by_cmp e es o is = ap
      (λ o. match_ordering o (entrant n p ∷ e ∷ es) (entrant n (lesser_paper p e.paper) ∷ es) (e ∷ entered n p es)) is

  -- nobody at the place has the number
  pub entered_new : (xs : List Entrant) (i : ℕ) → IsPlace xs i → i ≤ length xs
      → ((d : Entrant) → i < length xs → nat_eq (get_or xs i d).number n ≡ false)
      → entered n p xs ≡ insert xs i (entrant n p)
  entered_new [] zero place within other = refl
  entered_new [] (suc i) place within other = absurd (omega arith)
  entered_new (e ∷ es) zero place within other =
      by_cmp e es Less (less_from e.number (place.1 0 e (omega arith) (omega arith)) (other e (omega arith)))
  entered_new (e ∷ es) (suc i) place within other =
      by_cmp e es Greater (greater_from e.number (place.0 0 e (omega arith) (omega arith)))
      ∙ ap (λ ys. e ∷ ys) (entered_new es i (later_place e es i place) (omega arith)
      (λ d inside. other d (omega arith)))

  -- the candidate is there
  entered_again : (xs : List Entrant) (i : ℕ) (d : Entrant) → IsPlace xs i → i < length xs
      → nat_eq (get_or xs i d).number n ≡ true
      → entered n p xs ≡ set xs i (entrant n (lesser_paper p (get_or xs i d).paper))
  entered_again [] i d place inside own = absurd (omega arith)
  entered_again (e ∷ es) zero d place inside own = by_cmp e es Equal (equal_from e.number own)
  entered_again (e ∷ es) (suc i) d place inside own =
      by_cmp e es Greater (greater_from e.number (place.0 0 e (omega arith) (omega arith)))
      ∙ ap (λ ys. e ∷ ys) (entered_again es i d (later_place e es i place) (omega arith) own)

  pub entered_there : (xs : List Entrant) (i : ℕ) (q : Code) → IsPlace xs i → i < length xs
      → get_or xs i (entrant n q) ≡ entrant n q → entered n p xs ≡ set xs i (entrant n (lesser_paper p q))
  entered_there xs i q place inside at =
      entered_again xs i (entrant n q) place inside (ap (λ (e : Entrant). nat_eq e.number n) at ∙ eq-eqb n n refl)
      ∙ ap (λ (e : Entrant). set xs i (entrant n (lesser_paper p e.paper))) at

rising_numbers : (xs : List Entrant) → IsStrictlySortedBy nat_cmp (map (λ (e : Entrant). e.number) xs)
    → IsNonDecreasingBy (λ (e : Entrant). e.number) xs
rising_numbers xs up i j d low inside = by_order (nat_cmp i j) (ranked i j (nat_cmp i j) refl)
  where
    numbers : List ℕ
    numbers = map (λ (e : Entrant). e.number) xs

    long : length numbers ≡ length xs
    long = length-map xs (λ (e : Entrant). e.number)

    at : (k : ℕ) → k < length xs → get_or numbers k 0 ≡ (get_or xs k d).number
    at k within = get_or-map (λ (e : Entrant). e.number) xs k d 0 within

    by_order : (o : Ordering) → MatchOrdering o (i < j) (i ≡ j) (j < i)
        → (get_or xs i d).number ≤ (get_or xs j d).number
    by_order Less w =
        let less : (get_or xs i d).number < (get_or xs j d).number =
        ranked (get_or xs i d).number (get_or xs j d).number Less
        (sym (ap (λ k. nat_cmp k (get_or xs j d).number) (sym (at i (omega arith)))
        ∙ ap (nat_cmp (get_or numbers i 0)) (sym (at j inside))
        ∙ Less-from_sorted nat_cmp numbers i j 0 up w (subst (λ k. j < k) (sym long) inside))) in
        omega arith
    by_order Equal w = let same : get_or xs i d ≡ get_or xs j d =
        ap (λ k. get_or xs k d) w in let numbers_same : (get_or xs i d).number ≡ (get_or xs j d).number =
        ap (λ (e : Entrant). e.number) same in omega arith
    by_order Greater w = absurd (omega arith)

-- numbers rise in each list
pub numbers_rise : (r : Relations) (lists : SessionLists) (s : Code) → AreListsOf r lists
    → IsNonDecreasingBy (λ (e : Entrant). e.number) (listed lists.members.entries s)
numbers_rise r lists s are =
    rising_numbers (listed lists.members.entries s)
    (subst (IsStrictlySortedBy nat_cmp)
    (sym (ap (λ es. map (λ (e : Entrant). e.number) es) (are.members s) ∙ are.numbers s)) (are.rising s).numbers)
