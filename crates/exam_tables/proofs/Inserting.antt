-- A new key in an ordered table is one more entry.
use Rattle.exam_tables.proofs.Words.{IsPermutation, is_eq, lookup, is_at, IsPermutation-refl, IsPermutation-cons}
use Rattle.exam_tables.proofs.Words.{IsPermutation-trans, IsPermutation-map, Null, Row, map-map}
use Rattle.std.proofs.Common.{◌≡◌, List, [], ◌∷◌, ◌++◌, map, sym, subst, Some, None, Ordering, Less, Equal, Greater}
use Rattle.std.proofs.Common.{cond}
use Rattle.std.specs.Ordering.{match_ordering}
use Rattle.std.specs.BTreeMap.{insert_entry}
use Rattle.std.proofs.lemmas.List.Sorted.{IsPermutation-append_comm}
use Rattle.exam_sql.proofs.RowLemmas.{swapped}

pub inserted : {K X : Type 0} (cmp : K → K → Ordering) (k : K) (v : X) (es : List (K × X))
    → lookup (is_at (cmp k)) es ≡ None → IsPermutation ((k, v) ∷ es) (insert_entry cmp es k v)
inserted cmp k v [] none = IsPermutation-refl _
inserted {K} {X} cmp k v (e ∷ es) none = go (cmp k e.0) none (inserted cmp k v es)
  where
    go : (o : Ordering) → cond (is_eq o) (Some e.1) (lookup (is_at (cmp k)) es) ≡ None
        → (lookup (is_at (cmp k)) es ≡ None → IsPermutation ((k, v) ∷ es) (insert_entry cmp es k v))
        → IsPermutation ((k, v) ∷ e ∷ es)
        (match_ordering o ((k, v) ∷ e ∷ es) ((e.0, v) ∷ es) (e ∷ insert_entry cmp es k v))
    go Less none later = IsPermutation-refl _
    go Equal none later = absurd cc
    go Greater none later =
        IsPermutation-trans _ (e ∷ (k, v) ∷ es) _ (swapped (k, v) e es) (IsPermutation-cons e _ _ (later none))

-- one more row was read, and is one more entry
pub one_read : {E R : Type 0} (f : E → R) (done all : List R) (row : R) (e : E) (old new : List E)
    → all ≡ done ++ row ∷ [] → row ≡ f e → IsPermutation done (map f old) → IsPermutation (e ∷ old) new
    → IsPermutation all (map f new)
one_read f done all row e old new more is before after =
    subst (λ l. IsPermutation l (map f new)) (sym more)
    (IsPermutation-trans _ (row ∷ done) _ (IsPermutation-append_comm done (row ∷ []))
    (IsPermutation-trans _ (row ∷ map f old) _ (IsPermutation-cons row _ _ before)
    (subst (λ r. IsPermutation (r ∷ map f old) (map f new)) (sym is) (IsPermutation-map f _ _ after))))

-- the rows read by columns are those of the entries
pub shown_entries : {E : Type 0} (f : E → Row) (meant rows : List Row) (entries : List E)
    → IsPermutation meant (map (λ r. Null ∷ r) rows) → IsPermutation rows (map f entries)
    → IsPermutation meant (map (λ e. Null ∷ f e) entries)
shown_entries f meant rows entries shown read =
    IsPermutation-trans _ _ _ shown
    (subst (IsPermutation (map (λ r. Null ∷ r) rows)) (map-map (λ r. Null ∷ r) f entries)
    (IsPermutation-map (λ r. Null ∷ r) _ _ read))
