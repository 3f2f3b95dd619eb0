-- In a table whose keys begin with a candidate's number the rows of one candidate are together, from the first key that
-- is not less than the number with the least second part.
use Rattle.exam_rules.proofs.Words.{AllByRecursion, list_any, IsStrictlySortedBy, keys_of, Ordering, Less, Equal}
use Rattle.exam_rules.proofs.Words.{Greater, nat_cmp, ordering_then, MatchOrdering, ranked, sorted_head, sorted_tail}
use Rattle.exam_rules.proofs.Words.{IsStrictlySortedBy-filter, nat_tests, and_parts, ne_eqb, code_cmp, is_row_of}
use Rattle.exam_rules.proofs.Words.{leading, head_of}
use Rattle.std.proofs.Common.{◌≡◌, ℕ, ◌<◌, ◌≤◌, Bool, true, false, cond, not, ◌&&◌, ◌||◌, is_some, IsTrue, List, []}
use Rattle.std.proofs.Common.{◌∷◌, ◌++◌, length, filter, map, nat_eq, refl, sym, ap, subst, ◌∙◌, arith}
use Rattle.std.specs.Prelude.{nat_le}
use Rattle.std.specs.List.{list_all}
use Rattle.std.specs.declared.ops.Bound.TheVariants.{Included, Excluded, Unbounded}
use Rattle.std.specs.Ordering.{is_le}
use Rattle.std.specs.BTreeMap.Range.{entries_between}
use Rattle.std.proofs.lemmas.Bool.{eqb-false}
use Rattle.exam_types.specs.Codes.{is_code, is_dashed, is_capital_or_digit}
use Rattle.exam_rules.specs.Relations.{pair_cmp}

then_le : (m n : ℕ) (o : Ordering) → is_le (ordering_then (nat_cmp m n) o) ≡ true → m ≤ n
then_le m n o h = inner (nat_cmp m n) (ranked m n (nat_cmp m n) refl) h
  where
    inner : (r : Ordering) → MatchOrdering r (m < n) (m ≡ n) (n < m) → is_le (ordering_then r o) ≡ true → m ≤ n
    inner Less w h = omega arith
    inner Equal w h = omega arith
    inner Greater w h = absurd (let e : false ≡ true = h in cc)

then_less : (m n : ℕ) (o : Ordering) → ordering_then (nat_cmp m n) o ≡ Less → m ≤ n
then_less m n o h = then_le m n o (ap is_le h)

pub filter_and : {A : Type 0} (q r : A → Bool) (es : List A)
    → filter (λ e. q e && r e) (filter q es) ≡ filter (λ e. q e && r e) es
filter_and q r [] = refl
filter_and {A} q r (e ∷ es) = inner (q e) refl (filter_and q r es)
  where
    P : A → Bool
    P x = q x && r x

    inner : (b : Bool) → q e ≡ b → filter (λ e. q e && r e) (filter q es) ≡ filter (λ e. q e && r e) es
        → filter (λ e. q e && r e) (cond b (e ∷ filter q es) (filter q es))
        ≡ cond (b && r e) (e ∷ filter (λ e. q e && r e) es) (filter (λ e. q e && r e) es)
    inner true h rest = rw h (ap (λ t. cond (r e) (e ∷ t) t) rest)
    inner false h rest = rest

keys_of-filter : {K X : Type 0} (p : K → Bool) (es : List (K × X))
    → keys_of (filter (λ e. p e.0) es) ≡ filter p (keys_of es)
keys_of-filter p [] = refl
keys_of-filter {K} {X} p (e ∷ es) = inner (p e.0) (keys_of-filter p es)
  where
    inner : (b : Bool) → keys_of (filter (λ (e : K × X). p e.0) es) ≡ filter p (keys_of es)
        → keys_of (cond b (e ∷ filter (λ (e : K × X). p e.0) es) (filter (λ (e : K × X). p e.0) es))
        ≡ cond b (e.0 ∷ filter p (keys_of es)) (filter p (keys_of es))
    inner true rest = ap (λ t. e.0 ∷ t) rest
    inner false rest = rest

-- a row before the number's least key has a lesser number, if no second part is less than the least
pub lesser_before : {B : Type 0} (cmp : B → B → Ordering) (c : ℕ) (k : ℕ × B) (least : B)
    → pair_cmp nat_cmp cmp k (c, least) ≡ Less → (cmp k.1 least ≡ Less → ⊥) → k.0 < c
lesser_before cmp c k least h none = inner (nat_cmp k.0 c) (ranked k.0 c (nat_cmp k.0 c) refl) h
  where
    inner : (r : Ordering) → MatchOrdering r (k.0 < c) (k.0 ≡ c) (c < k.0) → ordering_then r (cmp k.1 least) ≡ Less
        → k.0 < c
    inner Less w h = w
    inner Equal w h = absurd (none h)
    inner Greater w h = absurd (let e : Greater ≡ Less = h in cc)

module _ {B X : Type 0} (cmp : B → B → Ordering) (c : ℕ) where
  later_none : (es : List ((ℕ × B) × X)) → AllByRecursion (λ e. c < e.0.0) es → filter (is_row_of c) es ≡ []
  later_none [] a = refl
  later_none (e ∷ es) a = rw (ne_eqb e.0.0 c (λ s. let l : c < e.0.0 = a.0 in omega arith)) (later_none es a.1)

  above : (k : ℕ × B) (es : List ((ℕ × B) × X)) → AllByRecursion (λ y. pair_cmp nat_cmp cmp k y ≡ Less) (keys_of es)
      → c < k.0 → AllByRecursion (λ e. c < e.0.0) es
  above k [] a lt = tt
  above k (e ∷ es) a lt =
      (let h : k.0 ≤ e.0.0 = then_less k.0 e.0.0 (cmp k.1 e.0.1) a.0 in omega arith, above k es a.1 lt)

  leading_is : (es : List ((ℕ × B) × X)) → IsStrictlySortedBy (pair_cmp nat_cmp cmp) (keys_of es)
      → AllByRecursion (λ e. c ≤ e.0.0) es → leading (is_row_of c) es ≡ filter (is_row_of c) es
  leading_is [] s a = refl
  leading_is (e ∷ es) s a =
      inner (nat_eq e.0.0 c) refl (leading_is es (sorted_tail (pair_cmp nat_cmp cmp) e.0 (keys_of es) s) a.1)
    where
      inner : (b : Bool) → nat_eq e.0.0 c ≡ b → leading (is_row_of c) es ≡ filter (is_row_of c) es
          → cond b (e ∷ leading (is_row_of c) es) [] ≡ cond b (e ∷ filter (is_row_of c) es) (filter (is_row_of c) es)
      inner true h rest = ap (λ t. e ∷ t) rest
      inner false h rest =
          sym (later_none es (above e.0 es (sorted_head (pair_cmp nat_cmp cmp) e.0 (keys_of es) s)
          (strict (eqb-false e.0.0 c h))))
        where
          strict : (e.0.0 ≡ c → ⊥) → c < e.0.0
          strict n = omega arith

  module _ (least : B) where
    abbrev is_upper : (ℕ × B) × X → Bool
    is_upper e = is_le (pair_cmp nat_cmp cmp (c, least) e.0) && not false

    abbrev is_lower : (ℕ × B) × X → Bool
    is_lower e = true && not (is_le (pair_cmp nat_cmp cmp (c, least) e.0))

    uppers : (es : List ((ℕ × B) × X)) → AllByRecursion (λ e. c ≤ e.0.0) (filter is_upper es)
    uppers [] = tt
    uppers (e ∷ es) = inner (is_le (pair_cmp nat_cmp cmp (c, least) e.0)) refl (uppers es)
      where
        inner : (b : Bool) → is_le (pair_cmp nat_cmp cmp (c, least) e.0) ≡ b
            → AllByRecursion (λ e. c ≤ e.0.0) (filter is_upper es)
            → AllByRecursion (λ e. c ≤ e.0.0) (cond (b && not false) (e ∷ filter is_upper es) (filter is_upper es))
        inner true h rest = (then_le c e.0.0 (cmp least e.0.1) h, rest)
        inner false h rest = rest

    again : (es : List ((ℕ × B) × X)) → filter (is_row_of c) (filter is_lower es) ≡ []
        → filter (is_row_of c) (filter is_upper es) ≡ filter (is_row_of c) es
    again [] a = refl
    again (e ∷ es) a = inner (is_le (pair_cmp nat_cmp cmp (c, least) e.0)) a (again es)
      where
        skip : (b : Bool) → nat_eq e.0.0 c ≡ b
            → cond b (e ∷ filter (is_row_of c) (filter is_lower es)) (filter (is_row_of c) (filter is_lower es)) ≡ []
            → (filter (is_row_of c) (filter is_lower es) ≡ []
            → filter (is_row_of c) (filter is_upper es) ≡ filter (is_row_of c) es)
            → filter (is_row_of c) (filter is_upper es) ≡ cond b (e ∷ filter (is_row_of c) es) (filter (is_row_of c) es)
        skip true h a rest = absurd (cc)
        skip false h a rest = rest a

        inner : (b : Bool) → filter (is_row_of c) (cond (true && not b) (e ∷ filter is_lower es) (filter is_lower es))
            ≡ []
            → (filter (is_row_of c) (filter is_lower es) ≡ []
            → filter (is_row_of c) (filter is_upper es) ≡ filter (is_row_of c) es)
            → filter (is_row_of c) (cond (b && not false) (e ∷ filter is_upper es) (filter is_upper es))
            ≡ cond (nat_eq e.0.0 c) (e ∷ filter (is_row_of c) es) (filter (is_row_of c) es)
        inner true a rest = ap (λ t. cond (nat_eq e.0.0 c) (e ∷ t) t) (rest a)
        inner false a rest = skip (nat_eq e.0.0 c) refl a rest

    -- the rows from the least key on begin with all of the candidate, if none comes before
    pub rows_from : (es : List ((ℕ × B) × X)) → IsStrictlySortedBy (pair_cmp nat_cmp cmp) (keys_of es)
        → filter (is_row_of c) (entries_between (pair_cmp nat_cmp cmp) Unbounded (Excluded (c, least)) es) ≡ []
        → leading (is_row_of c) (entries_between (pair_cmp nat_cmp cmp) (Included (c, least)) Unbounded es)
        ≡ filter (is_row_of c) es
    rows_from es s none =
        leading_is (filter is_upper es)
        (rw (keys_of-filter (λ k. is_le (pair_cmp nat_cmp cmp (c, least) k) && not false) es)
        (IsStrictlySortedBy-filter (pair_cmp nat_cmp cmp)
        (λ k. is_le (pair_cmp nat_cmp cmp (c, least) k) && not false) (keys_of es) s)) (uppers es)
        ∙ again es none

  last_of : (P : ℕ × B → Type 0) (t : List ((ℕ × B) × X)) (e : (ℕ × B) × X) → AllByRecursion P (keys_of (t ++ e ∷ []))
      → P e.0
  last_of P [] e a = a.0
  last_of P (x ∷ t) e a = last_of P t e a.1

  -- if the last row has a lesser number, so have all
  pub none_up_to : (t : List ((ℕ × B) × X)) (e : (ℕ × B) × X)
      → IsStrictlySortedBy (pair_cmp nat_cmp cmp) (keys_of (t ++ e ∷ [])) → e.0.0 < c
      → filter (is_row_of c) (t ++ e ∷ []) ≡ []
  none_up_to [] e s lt = rw (ne_eqb e.0.0 c (λ s. omega arith)) refl
  none_up_to (x ∷ t) e s lt =
      let h : x.0.0 ≤ e.0.0 =
      then_less x.0.0 e.0.0 (cmp x.0.1 e.0.1)
      (last_of (λ y. pair_cmp nat_cmp cmp x.0 y ≡ Less) t e
      (sorted_head (pair_cmp nat_cmp cmp) x.0 (keys_of (t ++ e ∷ [])) s)) in
      let k : x.0.0 < c = omega arith in
      rw (ne_eqb x.0.0 c (λ s. omega arith))
      (none_up_to t e (sorted_tail (pair_cmp nat_cmp cmp) x.0 (keys_of (t ++ e ∷ [])) s) lt)

  -- no row of the number comes before its least key, if the last row before it is of another
  pub none_before : (least : B) (es lower t : List ((ℕ × B) × X)) (e : (ℕ × B) × X)
      → IsStrictlySortedBy (pair_cmp nat_cmp cmp) (keys_of es)
      → lower ≡ entries_between (pair_cmp nat_cmp cmp) Unbounded (Excluded (c, least)) es → lower ≡ t ++ e ∷ []
      → pair_cmp nat_cmp cmp e.0 (c, least) ≡ Less → (cmp e.0.1 least ≡ Less → ⊥)
      → filter (is_row_of c) (entries_between (pair_cmp nat_cmp cmp) Unbounded (Excluded (c, least)) es) ≡ []
  none_before least es lower t e s is split less none =
      let Sorted : List ((ℕ × B) × X) → Type 0 = λ l. IsStrictlySortedBy (pair_cmp nat_cmp cmp) (keys_of l) in
      let whole : Sorted (filter (is_lower least) es) =
      rw (keys_of-filter (λ k. true && not (is_le (pair_cmp nat_cmp cmp (c, least) k))) es)
      (IsStrictlySortedBy-filter (pair_cmp nat_cmp cmp)
      (λ k. true && not (is_le (pair_cmp nat_cmp cmp (c, least) k))) (keys_of es) s) in
      ap (filter (is_row_of c)) (sym is ∙ split)
      ∙ none_up_to t e (subst Sorted (sym is ∙ split) whole) (lesser_before cmp c e.0 least less none)

-- no code of such bytes is less than the one of the least byte
pub no_code_less : (allowed : ℕ → Bool) (high least : ℕ) → ((b : ℕ) → allowed b ≡ true → least ≤ b) → (text : List ℕ)
    → IsTrue (is_code allowed 1 high text) → code_cmp text (least ∷ []) ≡ Less → ⊥
no_code_less allowed high least from [] form less = let e : false ≡ true = form in cc
no_code_less allowed high least from (b ∷ text) form less =
    inner (nat_cmp b least) (ranked b least (nat_cmp b least) refl) less
  where
    head_allowed : allowed b ≡ true
    head_allowed = (and_parts (allowed b) (list_all allowed text)
        (and_parts (nat_le 1 (length (b ∷ text)) && nat_le (length (b ∷ text)) high)
        (list_all allowed (b ∷ text)) form).1).0

    longer : (t : List ℕ) → code_cmp t [] ≡ Less → ⊥
    longer [] h = cc
    longer (x ∷ t) h = cc

    inner : (r : Ordering) → MatchOrdering r (b < least) (b ≡ least) (least < b)
        → ordering_then r (code_cmp text []) ≡ Less → ⊥
    inner Less w h = let k : least ≤ b = from b head_allowed in omega arith
    inner Equal w h = longer text h
    inner Greater w h = let e : Greater ≡ Less = h in cc

-- the bytes of a paper code are not less than a dash, and those of a reference not less than a zero
pub dash_is_least : (b : ℕ) → is_dashed b ≡ true → 45 ≤ b
dash_is_least b h = grind (arith, nat_tests)

pub zero_is_least : (b : ℕ) → is_capital_or_digit b ≡ true → 48 ≤ b
zero_is_least b h = grind (arith, nat_tests)

-- some element passes exactly if there is a first that does
pub any_is : {A Y : Type 0} (p : A → Bool) (f : A → Y) (es : List A)
    → list_any p es ≡ is_some (head_of (map f (filter p es)))
any_is p f [] = refl
any_is p f (e ∷ es) = inner (p e) (any_is p f es)
  where
    inner : (b : Bool) → list_any p es ≡ is_some (head_of (map f (filter p es)))
        → (b || list_any p es) ≡ is_some (head_of (map f (cond b (e ∷ filter p es) (filter p es))))
    inner true rest = refl
    inner false rest = rest
