-- The rows of a table after what differs was put and deleted.
use Rattle.exam_tables.proofs.Words.{AllByRecursion, IsPermutation, IsStrictlySortedBy, deref_pair, is_eq, map-append}
use Rattle.exam_tables.proofs.Words.{IsPermutation-map, IsPermutation-trans, Null, Row, IsPermutation-filter, map-map}
use Rattle.exam_tables.proofs.Words.{KeysRise, has_key, is_one_of, Turns, KeysMatch, opening_key, seat_key}
use Rattle.std.proofs.Common.{◌≡◌, ◌||◌, ℕ, Bool, true, false, not, cond, List, [], ◌∷◌, ◌++◌, map, filter, Bor}
use Rattle.std.proofs.Common.{Ordering, refl, ap, ap₂, subst, subst₂, ◌∙◌}
use Rattle.std.proofs.lemmas.List.Sorted.{IsPermutation-append_right}
use Rattle.exam_sql.specs.Content.{same_key}
use Rattle.exam_sql.specs.Changes.{put_all, delete_all, is_among, AreApart}
use Rattle.exam_sql.proofs.Changes.{differs_by}
use Rattle.exam_rules.specs.Relations.{opening_cmp, seat_cmp}
use Rattle.exam_tables.specs.Held.{HoldsRows}
use Rattle.exam_tables.specs.Rows.{opening_row, seat_row}
use Rattle.exam_tables.proofs.Differing.{absent_key}
use Rattle.exam_tables.specs.OurTables.{text_key, two_parts, whole_key}

-- the columns of a key name the row that has it
pub record AreNamed {K X : Type 0} (cmp : K → K → Ordering) (key : List ℕ) (row : K → X → Row)
    (key_of : K → Row) : Type 0 where
  pub keys : (a : K × X) (k : K) → same_key key (Null ∷ row a.0 a.1) (Null ∷ key_of k) ≡ is_eq (cmp a.0 k)

module _ {K X : Type 0} {cmp : K → K → Ordering} {key : List ℕ} {row : K → X → Row}
    (match : KeysMatch cmp key row) where
  abbrev stored : K × X → Row
  stored e = Null ∷ row e.0 e.1

  among_rows : (e : K × X) (puts : List (K × X)) → is_among key (map stored puts) (stored e) ≡ has_key cmp puts e.0
  among_rows e [] = refl
  among_rows e (p ∷ puts) = ap₂ ◌||◌ (match.rows e p) (among_rows e puts)

  apart : (puts : List (K × X)) → KeysRise cmp puts → AreApart key (map stored puts)
  unfolding IsStrictlySortedBy
  apart [] rises = tt
  apart (p ∷ puts) rises = (among_rows p puts ∙ absent_key cmp p.0 puts rises.0, apart puts rises.1)

  -- with keys to delete, and their rows
  module _ (deletes : List K) (gone : List Row)
      (among_gone : (e : K × X) → is_among key gone (stored e) ≡ is_one_of cmp deletes e.0) where
    spared : (puts : List (K × X)) → AllByRecursion (λ n. is_one_of cmp deletes n.0 ≡ false) puts
        → AllByRecursion (λ r. is_among key gone r ≡ false) (map stored puts)
    spared [] h = tt
    spared (p ∷ puts) h = (among_gone p ∙ h.0, spared puts h.1)

    -- what neither a put nor a delete takes out
    abbrev outlasts : List (K × X) → Row → Bool
    outlasts puts r = not (is_among key (map stored puts) r || is_among key gone r)

    abbrev stays : List (K × X) → K × X → Bool
    stays puts e = not (has_key cmp puts e.0 || is_one_of cmp deletes e.0)

    left : (puts : List (K × X)) (old : List (K × X))
        → filter (outlasts puts) (map stored old) ≡ map stored (filter (stays puts) old)
    left puts [] = refl
    left puts (e ∷ old) =
        ap₂ (λ a b. cond (not (a || b)) (stored e ∷ filter (outlasts puts) (map stored old))
        (filter (outlasts puts) (map stored old))) (among_rows e puts) (among_gone e)
        ∙ inner (stays puts e) _ _ (left puts old)
      where
        inner : (b : Bool) (l : List Row) (m : List (K × X)) → l ≡ map stored m
            → cond b (stored e ∷ l) l ≡ map stored (cond b (e ∷ m) m)
        inner true l m is = ap (λ r. stored e ∷ r) is
        inner false l m is = is

    -- After the puts and then the deletes the rows of the old table are those of the new one.
    rows_saved : (old new puts : List (K × X)) (rows : List Row) → Turns cmp old new puts deletes
        → HoldsRows row old rows → HoldsRows row new (delete_all key gone (put_all key (map stored puts) rows))
    rows_saved old new puts rows turns holds =
        let news = map stored puts in
        let kept_rows = map stored (filter (stays puts) old) in
        let kept : IsPermutation (filter (outlasts puts) rows) kept_rows =
        subst (IsPermutation (filter (outlasts puts) rows)) (left puts old)
        (IsPermutation-filter (outlasts puts) _ _ holds) in
        let made : IsPermutation (news ++ kept_rows) (map stored new) =
        subst (λ l. IsPermutation l (map stored new)) (map-append stored puts (filter (stays puts) old))
        (IsPermutation-map stored _ _ turns.made) in
        differs_by key rows (map stored new) news gone (apart puts turns.rises) (spared puts turns.spared)
        (IsPermutation-trans _ _ _ (IsPermutation-append_right news _ _ kept) made)

  -- puts through references, where no row is deleted
  pub table_put : (old new : List (K × X)) (puts : List (Bor K × Bor X)) (rows : List Row)
      → Turns cmp old new (map deref_pair puts) [] → HoldsRows row old rows
      → HoldsRows row new (put_all key (map (λ r. Null ∷ row r.0.now r.1.now) puts) rows)
  table_put old new puts rows turns holds =
      subst (λ l. HoldsRows row new (put_all key l rows)) (map-map stored deref_pair puts)
      (rows_saved [] [] (λ e. refl) old new (map deref_pair puts) rows turns holds)

  -- and where some are
  pub table_saved : {key_of : K → Row} → AreNamed cmp key row key_of
      → (old new : List (K × X)) (puts : List (Bor K × Bor X)) (deletes : List (Bor K)) (rows : List Row)
      → Turns cmp old new (map deref_pair puts) (map (λ k. k.now) deletes) → HoldsRows row old rows
      → HoldsRows row new (delete_all key (map (λ k. Null ∷ key_of k.now) deletes)
      (put_all key (map (λ r. Null ∷ row r.0.now r.1.now) puts) rows))
  table_saved {key_of} named old new puts deletes rows turns holds =
      subst₂ (λ gone l. HoldsRows row new (delete_all key gone (put_all key l rows)))
      (map-map (λ k. Null ∷ key_of k) (λ (k : Bor K). k.now) deletes) (map-map stored deref_pair puts)
      (rows_saved (map (λ (k : Bor K). k.now) deletes)
      (map (λ k. Null ∷ key_of k) (map (λ (k : Bor K). k.now) deletes))
      (λ e. among e (map (λ (k : Bor K). k.now) deletes)) old new (map deref_pair puts) rows turns holds)
    where
      among : (e : K × X) (keys : List K)
          → is_among key (map (λ k. Null ∷ key_of k) keys) (stored e) ≡ is_one_of cmp keys e.0
      among e [] = refl
      among e (k ∷ keys) = ap₂ ◌||◌ (named.keys e k) (among e keys)

-- ---- the keys of the rows that are deleted

pub openings_named : AreNamed opening_cmp (1 ∷ 2 ∷ []) opening_row opening_key
openings_named = record { keys = λ a k. two_parts _ _ _ _ (text_key a.0.0 k.0) (text_key a.0.1 k.1) }

pub seats_named : AreNamed seat_cmp (1 ∷ 2 ∷ []) seat_row seat_key
seats_named = record { keys = λ a k. two_parts _ _ _ _ (text_key a.0.0 k.0) (whole_key a.0.1 k.1) }
