-- Rows that are those of no table.
use Rattle.exam_tables.proofs.Words.{IsTotalOrder, AllByRecursion, IsPermutation, IsStrictlySortedBy, keys_of, lookup}
use Rattle.exam_tables.proofs.Words.{is_at, is_eq, ordering_reverse, IsPermutation-map, IsPermutation-sym}
use Rattle.exam_tables.proofs.Words.{IsPermutation-trans, length_permutation, Null, Row, IsPermutation-filter, map-map}
use Rattle.exam_tables.proofs.Words.{Refusal, KeysRise, HoldsTable, KeysMatch}
use Rattle.std.proofs.Common.{◌≡◌, ◌+◌, ◌<◌, ◌≤◌, ℕ, zero, suc, Bool, true, false, cond, List, [], ◌∷◌, ◌++◌, map}
use Rattle.std.proofs.Common.{filter, length, get_or, drop, Some, IsSome, inl, inr, Ordering, Less, Equal, Greater}
use Rattle.std.proofs.Common.{refl, sym, ap, subst, ◌∙◌, arith, length-append}
use Rattle.std.specs.Cmp.{tied_itself}
use Rattle.std.specs.List.{All}
use Rattle.std.proofs.lemmas.List.Elements.{filter-append}
use Rattle.std.proofs.lemmas.List.Sorted.{All-permutation}
use Rattle.exam_sql.specs.Content.{same_key}
use Rattle.exam_tables.specs.Loaded.{AreRowsOf, IsLoadRefusal}
use Rattle.exam_tables.proofs.Inserting.{shown_entries}

module _ {E R : Type 0} (f : E → R) (IsOne : E → Type 0) where
  none_is : (r : R) (entries : List E) → ((e : E) → IsOne e → r ≡ f e → ⊥) → AllByRecursion IsOne entries
      → All (λ z. r ≡ z → ⊥) (map f entries)
  none_is r [] none all k d below = absurd (omega arith)
  none_is r (e ∷ entries) none all zero d below = none e all.0
  none_is r (e ∷ entries) none all (suc k) d below = none_is r entries none all.1 k d (omega arith)

  -- a row with no form is among the rows of no table
  pub no_form : (rows : List R) (entries : List E) (i : ℕ) (r : R) → i < length rows → r ≡ get_or rows i r
      → ((e : E) → IsOne e → r ≡ f e → ⊥) → AllByRecursion IsOne entries → IsPermutation rows (map f entries) → ⊥
  no_form rows entries i r below is none all same =
      All-permutation (λ z. r ≡ z → ⊥) (map f entries) rows (IsPermutation-sym _ _ same)
      (none_is r entries none all) i r below is

module _ {K X : Type 0} {cmp : K → K → Ordering} (total : IsTotalOrder cmp) {key : List ℕ} {row : K → X → Row}
    (match : KeysMatch cmp key row) (k : K) (v : X) where
  abbrev stored : K × X → Row
  stored e = row e.0 e.1

  -- the row has the key k
  abbrev has_key : Row → Bool
  has_key r = same_key key (Null ∷ r) (Null ∷ row k v)

  abbrev with_key : List Row → ℕ
  with_key rows = length (filter has_key rows)

  with_key-append : (a b : List Row) → with_key (a ++ b) ≡ with_key a + with_key b
  with_key-append a b = ap length (filter-append has_key a b) ∙ length-append (filter has_key a) (filter has_key b)

  with_key-same : (rows other : List Row) → IsPermutation rows other → with_key other ≡ with_key rows
  with_key-same rows other same = length_permutation _ _ (IsPermutation-filter has_key _ _ same)

  counted : (e : K × X) (b : Bool) (entries : List (K × X)) → is_eq (cmp e.0 k) ≡ b
      → with_key (map stored (e ∷ entries)) ≡ cond b (1 + with_key (map stored entries)) (with_key (map stored entries))
  counted e true entries is =
      ap (λ c. length (cond c (stored e ∷ filter has_key (map stored entries)) (filter has_key (map stored entries))))
      (match.rows e (k, v) ∙ is) ∙ omega arith
  counted e false entries is =
      ap (λ c. length (cond c (stored e ∷ filter has_key (map stored entries)) (filter has_key (map stored entries))))
      (match.rows e (k, v) ∙ is)

  -- past a key that is k there is no other
  none_after : (j : K) (entries : List (K × X)) → cmp j k ≡ Equal
      → AllByRecursion (λ y. cmp j y ≡ Less) (keys_of entries) → with_key (map stored entries) ≡ 0
  none_after j [] tied above = refl
  none_after j (e ∷ entries) tied above =
      let less : cmp k e.0 ≡ Less = sym (total.congr j k e.0 tied) ∙ above.0 in
      counted e false entries (ap is_eq (total.antisymm e.0 k ∙ ap ordering_reverse less))
      ∙ none_after j entries tied above.1

  at_most_one : (entries : List (K × X)) → KeysRise cmp entries → with_key (map stored entries) ≤ 1
  unfolding IsStrictlySortedBy
  at_most_one [] rises = omega arith
  at_most_one (e ∷ entries) rises = inner (cmp e.0 k) refl (at_most_one entries rises.1)
    where
      inner : (o : Ordering) → cmp e.0 k ≡ o → with_key (map stored entries) ≤ 1
          → with_key (map stored (e ∷ entries)) ≤ 1
      inner Less is later = omega (arith, counted e false entries (ap is_eq is))
      inner Equal is later = omega (arith, counted e true entries (ap is_eq is), none_after e.0 entries is rises.0)
      inner Greater is later = omega (arith, counted e false entries (ap is_eq is))

  at_least_one : (entries : List (K × X)) → IsSome (lookup (is_at (cmp k)) entries) → 1 ≤ with_key (map stored entries)
  at_least_one [] found = absurd cc
  at_least_one (e ∷ entries) found = inner (cmp k e.0) refl found (at_least_one entries)
    where
      inner : (o : Ordering) → cmp k e.0 ≡ o → IsSome (cond (is_eq o) (Some e.1) (lookup (is_at (cmp k)) entries))
          → (IsSome (lookup (is_at (cmp k)) entries) → 1 ≤ with_key (map stored entries))
          → 1 ≤ with_key (map stored (e ∷ entries))
      inner Less is found later = let n =
          later found in omega
          (arith, counted e false entries (ap is_eq (total.antisymm e.0 k ∙ ap ordering_reverse is)))
      inner Equal is found later =
          omega (arith, counted e true entries (ap is_eq (total.antisymm e.0 k ∙ ap ordering_reverse is)))
      inner Greater is found later = let n =
          later found in omega
          (arith, counted e false entries (ap is_eq (total.antisymm e.0 k ∙ ap ordering_reverse is)))

  -- no table has rows in which a key comes twice
  pub no_twice : (rows done left : List Row) (read entries : List (K × X)) → rows ≡ (done ++ row k v ∷ []) ++ left
      → IsPermutation done (map stored read) → IsSome (lookup (is_at (cmp k)) read)
      → KeysRise cmp entries → IsPermutation rows (map stored entries) → ⊥
  no_twice rows done left read entries is so_far found rises same =
      let one : with_key (row k v ∷ []) ≡ 1 =
      ap (λ c. length (cond c (row k v ∷ []) [])) (match.rows (k, v) (k, v) ∙ ap is_eq (tied_itself total k)) in
      let all = with_key-same rows (map stored entries) same in
      let parts : with_key rows ≡ (with_key done + with_key (row k v ∷ [])) + with_key left =
      ap with_key is ∙ with_key-append (done ++ row k v ∷ []) left
      ∙ ap (λ n. n + with_key left) (with_key-append done (row k v ∷ [])) in
      omega (arith, at_most_one entries rises, at_least_one read found, with_key-same done (map stored read) so_far)

-- what a query shows of a table that holds entries are their rows
pub rows_shown : {K X : Type 0} {cmp : K → K → Ordering} {IsRow : K → X → Type 0} {row : K → X → Row}
    (rows meant : List Row) (entries : List (K × X)) → IsPermutation meant (map (λ r. Null ∷ r) rows)
    → HoldsTable cmp IsRow row entries meant → AreRowsOf cmp IsRow row rows entries
rows_shown {K} {X} {cmp} {IsRow} {row} rows meant entries shown holds = record {
  rises = holds.rises;
  forms = holds.forms;
  same = subst (λ l. IsPermutation l (map (λ e. row e.0 e.1) entries)) (bare rows)
      (subst (IsPermutation (map (drop 1) (map (λ r. Null ∷ r) rows)))
      (map-map (drop 1) (λ (e : K × X). Null ∷ row e.0 e.1) entries)
      (IsPermutation-map (drop 1) _ _ (IsPermutation-trans _ meant _ (IsPermutation-sym _ _ shown) holds.same)));
}
  where
    bare : (rows : List Row) → map (drop 1) (map (λ r. Null ∷ r) rows) ≡ rows
    bare [] = refl
    bare (r ∷ rows) = ap (λ l. r ∷ l) (bare rows)

-- the table holds the entries that have the rows which a query shows
pub rows_held : {K X : Type 0} {cmp : K → K → Ordering} {IsRow : K → X → Type 0} {row : K → X → Row}
    (rows meant : List Row) (entries : List (K × X)) → IsPermutation meant (map (λ r. Null ∷ r) rows)
    → AreRowsOf cmp IsRow row rows entries → HoldsTable cmp IsRow row entries meant
rows_held {K} {X} {cmp} {IsRow} {row} rows meant entries shown read =
    record {
      rises = read.rises;
      forms = read.forms;
      same =
          shown_entries (λ (e : K × X). row e.0 e.1) meant rows entries shown read.same;
    }

-- why a part is not loaded is why the whole is not
pub part_failed : {A B P Q : Type 0} (e : Refusal) → (A → B) → (P → Q) → IsLoadRefusal (λ _. A) P e
    → IsLoadRefusal (λ _. B) Q e
part_failed e fails none (inl lacks) = inl lacks
part_failed e fails none (inr (inl told)) = inr (inl (fails told))
part_failed e fails none (inr (inr bad)) = inr (inr (bad.0, none bad.1))
