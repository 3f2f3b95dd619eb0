-- Some rows have a value that no other row may have. If one row is put, or each is changed at its place, the keys stay,
-- and the values stay distinct.
use Rattle.std.proofs.Common.{◌≡◌, ◌⊎◌, inl, inr, Bool, true, false, cond, List, [], ◌∷◌, map, filter, Option, None}
use Rattle.std.proofs.Common.{Some, refl, ap, sym, ◌∙◌}
use Rattle.std.specs.Cmp.{IsTotalOrder, tied_itself}
use Rattle.std.specs.List.{AllByRecursion, IsDistinct, cons_option, filter_map, find}
use Rattle.std.specs.Map.{keys_of}
use Rattle.std.specs.BTreeMap.{insert_entry}
use Rattle.std.specs.declared.cmp.Ordering.{Ordering}
use Rattle.std.specs.declared.cmp.Ordering.TheVariants.{Less, Equal}
use Rattle.std.specs.Ordering.{match_ordering, ordering_reverse}
use Rattle.std.proofs.lemmas.Map.Keys.{IsDistinct-cons, IsDistinct-head, IsDistinct-tail, sorted_head, sorted_tail}
use Rattle.std.proofs.lemmas.Map.Lookups.{CmpEqualImpliesEq}
use Rattle.exam_rules.specs.Orders.{KeysRise}
use Rattle.exam_rules.specs.Relations.{put_row}
use Rattle.exam_commands.proofs.KeyedRows.{put_by}

-- ---- rows with greater keys

module _ {K X : Type 0} (cmp : K → K → Ordering) where
  -- what is found among rows with greater keys has a greater key
  found_above : (p : K × X → Bool) (k : K) (e : K × X) (es : List (K × X)) → find p es ≡ Some e
      → AllByRecursion (λ y. cmp k y ≡ Less) (keys_of es) → cmp k e.0 ≡ Less
  found_above p k e [] is above = absurd (let differ : None ≡ Some e = is in cc)
  found_above p k e (c ∷ cs) is above = inner (p c) is (λ later. found_above p k e cs later above.1)
    where
      inner : (b : Bool) → cond b (Some c) (find p cs) ≡ Some e → (find p cs ≡ Some e → cmp k e.0 ≡ Less)
          → cmp k e.0 ≡ Less
      inner true here rest = let one : c ≡ e = cc in ap (λ (z : K × X). cmp k z.0) (sym one) ∙ above.0
      inner false later rest = rest later

-- ---- distinct values

-- no y is the same as x
abbrev pub IsApartFrom : {A : Type 0} → (A → A → Bool) → A → List A → Type 0
IsApartFrom same x ys = AllByRecursion (λ y. same x y ≡ false) ys

-- the value of the row, if it has one, differs from these
abbrev pub IsFresh : {A : Type 0} → (A → A → Bool) → Option A → List A → Type 0
IsFresh {A} same what ys = (x : A) → what ≡ Some x → IsApartFrom same x ys

module _ {A : Type 0} (same : A → A → Bool) where
  apart_more : (x : A) (what : Option A) (ys : List A) → ((y : A) → what ≡ Some y → same x y ≡ false)
      → IsApartFrom same x ys → IsApartFrom same x (cons_option what ys)
  apart_more x None ys other apart = apart
  apart_more x (Some y) ys other apart = (other y refl, apart)

  apart_less : (x : A) (what : Option A) (ys : List A) → IsApartFrom same x (cons_option what ys)
      → IsApartFrom same x ys
  apart_less x None ys apart = apart
  apart_less x (Some y) ys apart = apart.1

  apart_here : (x y : A) (what : Option A) (ys : List A) → what ≡ Some y → IsApartFrom same x (cons_option what ys)
      → same x y ≡ false
  apart_here x y None ys is apart = absurd (let differ : None ≡ Some y = is in cc)
  apart_here x y (Some z) ys is apart = let one : z ≡ y = cc in ap (same x) (sym one) ∙ apart.0

  distinct_more : (what : Option A) (ys : List A) → IsFresh same what ys → IsDistinct same ys
      → IsDistinct same (cons_option what ys)
  distinct_more None ys fresh distinct = distinct
  distinct_more (Some y) ys fresh distinct = IsDistinct-cons same y ys (fresh y refl) distinct

  distinct_less : (what : Option A) (ys : List A) → IsDistinct same (cons_option what ys) → IsDistinct same ys
  distinct_less None ys distinct = distinct
  distinct_less (Some y) ys distinct = IsDistinct-tail same y ys distinct

  distinct_here : (what : Option A) (ys : List A) → IsDistinct same (cons_option what ys) → IsFresh same what ys
  distinct_here None ys distinct x is = absurd (let differ : None ≡ Some x = is in cc)
  distinct_here (Some y) ys distinct x is = let one : y ≡ x = cc in elim_at one (IsDistinct-head same y ys distinct)
    where
      elim_at : y ≡ x → IsApartFrom same y ys → IsApartFrom same x ys
      elim_at one apart = rw (← one) apart

module _ {K X A : Type 0} (cmp : K → K → Ordering) (exact : CmpEqualImpliesEq cmp) (f : K × X → Option A)
    (same : A → A → Bool) where
  -- a row with another value
  put_apart : (x : A) (rows : List (K × X)) (k : K) (v : X) → ((y : A) → f (k, v) ≡ Some y → same x y ≡ false)
      → IsApartFrom same x (filter_map f rows) → IsApartFrom same x (filter_map f (put_row cmp rows k v))
  put_apart x rows k v other =
      put_by cmp k v (λ es fs. IsApartFrom same x (filter_map f es) → IsApartFrom same x (filter_map f fs))
      (λ es is. apart_more same x (f (k, v)) (filter_map f es) other)
      (λ e es is apart. apart_more same x (f (e.0, v)) (filter_map f es)
      (λ y at. other y (ap (λ q. f (q, v)) (exact k e.0 is) ∙ at))
      (apart_less same x (f e) (filter_map f es) apart))
      (λ e es is rest apart. apart_more same x (f e) (filter_map f (put_row cmp es k v))
      (λ y at. apart_here same x y (f e) (filter_map f es) at apart)
      (rest (apart_less same x (f e) (filter_map f es) apart)))
      rows

  module _ (flips : (x y : A) → same x y ≡ same y x) where
    -- a row without a value, or with one that no row has
    pub put_distinct : (rows : List (K × X)) (k : K) (v : X) → IsFresh same (f (k, v)) (filter_map f rows)
        → IsDistinct same (filter_map f rows) → IsDistinct same (filter_map f (put_row cmp rows k v))
    put_distinct rows k v =
        put_by cmp k v (λ es fs. IsFresh same (f (k, v)) (filter_map f es) → IsDistinct same (filter_map f es)
        → IsDistinct same (filter_map f fs))
        (λ es is. distinct_more same (f (k, v)) (filter_map f es))
        (λ e es is fresh distinct. distinct_more same (f (e.0, v)) (filter_map f es)
        (λ y at. apart_less same y (f e) (filter_map f es) (fresh y (ap (λ q. f (q, v)) (exact k e.0 is) ∙ at)))
        (distinct_less same (f e) (filter_map f es) distinct))
        (λ e es is rest fresh distinct. distinct_more same (f e) (filter_map f (put_row cmp es k v))
        (λ z at. put_apart z es k v
        (λ y here. flips z y ∙ apart_here same y z (f e) (filter_map f es) at (fresh y here))
        (distinct_here same (f e) (filter_map f es) distinct z at))
        (rest (λ y at. apart_less same y (f e) (filter_map f es) (fresh y at))
        (distinct_less same (f e) (filter_map f es) distinct)))
        rows

-- ---- each row changed at its place

module _ {R A : Type 0} (f : R → Option A) (same : A → A → Bool) (g : R → R) where
  -- x differs from the values that the rows have now
  pub mapped_apart : (x : A) → ((row : R) (y : A) → f (g row) ≡ Some y → same x y ≡ false) → (rows : List R)
      → IsApartFrom same x (filter_map f (map g rows))
  mapped_apart x other [] = tt
  mapped_apart x other (d ∷ ds) =
      apart_more same x (f (g d)) (filter_map f (map g ds)) (other d) (mapped_apart x other ds)

  module _ (fewer : (row : R) → (f (g row) ≡ None) ⊎ (f (g row) ≡ f row)) where
    apart_still : (x : A) (rows : List R) → IsApartFrom same x (filter_map f rows)
        → IsApartFrom same x (filter_map f (map g rows))
    apart_still x [] apart = tt
    apart_still x (d ∷ ds) apart = inner (fewer d) (apart_still x ds (apart_less same x (f d) (filter_map f ds) apart))
      where
        inner : (f (g d) ≡ None) ⊎ (f (g d) ≡ f d) → IsApartFrom same x (filter_map f (map g ds))
            → IsApartFrom same x (cons_option (f (g d)) (filter_map f (map g ds)))
        inner (inl none) rest =
            apart_more same x (f (g d)) (filter_map f (map g ds))
            (λ y at. absurd (let differ : None ≡ Some y = sym none ∙ at in cc)) rest
        inner (inr kept) rest =
            apart_more same x (f (g d)) (filter_map f (map g ds))
            (λ y at. apart_here same x y (f d) (filter_map f ds) (sym kept ∙ at) apart) rest

    -- if each has the value that it had, or none
    pub mapped_distinct : (rows : List R) → IsDistinct same (filter_map f rows)
        → IsDistinct same (filter_map f (map g rows))
    mapped_distinct [] distinct = distinct
    mapped_distinct (d ∷ ds) distinct =
        inner (fewer d) (mapped_distinct ds (distinct_less same (f d) (filter_map f ds) distinct))
      where
        inner : (f (g d) ≡ None) ⊎ (f (g d) ≡ f d) → IsDistinct same (filter_map f (map g ds))
            → IsDistinct same (cons_option (f (g d)) (filter_map f (map g ds)))
        inner (inl none) rest =
            distinct_more same (f (g d)) (filter_map f (map g ds))
            (λ y at. absurd (let differ : None ≡ Some y = sym none ∙ at in cc)) rest
        inner (inr kept) rest =
            distinct_more same (f (g d)) (filter_map f (map g ds))
            (λ y at. apart_still y ds (distinct_here same (f d) (filter_map f ds) distinct y (sym kept ∙ at))) rest

-- rows that pass are the same, if the others change among themselves
pub mapped_filtered : {R : Type 0} (p : R → Bool) (g : R → R) → ((row : R) → p row ≡ true → g row ≡ row)
    → ((row : R) → p row ≡ false → p (g row) ≡ false) → (rows : List R) → filter p (map g rows) ≡ filter p rows
mapped_filtered p g kept out [] = refl
mapped_filtered {R} p g kept out (d ∷ ds) = inner (p d) refl (mapped_filtered p g kept out ds)
  where
    inner : (b : Bool) → p d ≡ b → filter p (map g ds) ≡ filter p ds
        → cond (p (g d)) (g d ∷ filter p (map g ds)) (filter p (map g ds)) ≡ cond b (d ∷ filter p ds) (filter p ds)
    inner true is rest =
        ap (λ (z : R). cond (p z) (z ∷ filter p (map g ds)) (filter p (map g ds))) (kept d is)
        ∙ ap (λ b. cond b (d ∷ filter p (map g ds)) (filter p (map g ds))) is ∙ ap (λ t. d ∷ t) rest
    inner false is rest = ap (λ b. cond b (g d ∷ filter p (map g ds)) (filter p (map g ds))) (out d is) ∙ rest

pub mapped_keys : {K X : Type 0} (g : K × X → K × X) → ((row : K × X) → (g row).0 ≡ row.0) → (rows : List (K × X))
    → keys_of (map g rows) ≡ keys_of rows
mapped_keys g keyed [] = refl
mapped_keys {K} g keyed (d ∷ ds) =
    ap (λ (k : K). k ∷ keys_of (map g ds)) (keyed d) ∙ ap (λ ks. d.0 ∷ ks) (mapped_keys g keyed ds)

-- ---- one row changed

module _ {K X : Type 0} (cmp : K → K → Ordering) (o : IsTotalOrder cmp) (p : K × X → Bool) (g : K × X → K × X)
    (kept : (row : K × X) → p row ≡ false → g row ≡ row) where
  -- if none passes
  pub none_changed : (rows : List (K × X)) → find p rows ≡ None → map g rows ≡ rows
  none_changed [] none = refl
  none_changed (d ∷ ds) none = inner (p d) refl none (none_changed ds)
    where
      inner : (b : Bool) → p d ≡ b → cond b (Some d) (find p ds) ≡ None → (find p ds ≡ None → map g ds ≡ ds)
          → g d ∷ map g ds ≡ d ∷ ds
      inner true here is rest = absurd (let differ : Some d ≡ None = is in cc)
      inner false away is rest = ap (λ z. z ∷ map g ds) (kept d away) ∙ ap (λ t. d ∷ t) (rest is)

  module _ {A : Type 0} (f : K × X → Option A) (same : A → A → Bool) (x : A) (itself : same x x ≡ true)
      (stands : (row : K × X) → p row ≡ true → f row ≡ Some x) where
    -- no other passes if no other has the value x
    none_found : (rows : List (K × X)) → IsApartFrom same x (filter_map f rows) → find p rows ≡ None
    none_found [] apart = refl
    none_found (d ∷ ds) apart = inner (p d) refl (none_found ds (apart_less same x (f d) (filter_map f ds) apart))
      where
        inner : (b : Bool) → p d ≡ b → find p ds ≡ None → cond b (Some d) (find p ds) ≡ None
        inner true here rest =
            absurd (let differ : true ≡ false = sym itself
            ∙ apart_here same x x (f d) (filter_map f ds) (stands d here) apart in cc)
        inner false away rest = rest

    -- if one passes, and no other has its value
    pub one_changed : (rows : List (K × X)) (e : K × X) (v : X) → KeysRise cmp rows
        → IsDistinct same (filter_map f rows) → find p rows ≡ Some e → g e ≡ (e.0, v)
        → map g rows ≡ put_row cmp rows e.0 v
    one_changed [] e v up distinct found now = absurd (let differ : None ≡ Some e = found in cc)
    one_changed (d ∷ ds) e v up distinct found now =
        inner (p d) refl found
        (one_changed ds e v (sorted_tail cmp d.0 (keys_of ds) up)
        (distinct_less same (f d) (filter_map f ds) distinct))
      where
        tied : d ≡ e → map g ds ≡ ds
            → g d ∷ map g ds ≡ match_ordering Equal ((e.0, v) ∷ d ∷ ds) ((d.0, v) ∷ ds) (d ∷ insert_entry cmp ds e.0 v)
        tied one rest = ap (λ z. z ∷ map g ds) (ap g one ∙ now ∙ ap (λ (z : K × X). (z.0, v)) (sym one))
            ∙ ap (λ t. (d.0, v) ∷ t) rest

        inner : (b : Bool) → p d ≡ b → cond b (Some d) (find p ds) ≡ Some e
            → (find p ds ≡ Some e → g e ≡ (e.0, v) → map g ds ≡ put_row cmp ds e.0 v)
            → g d ∷ map g ds ≡ put_row cmp (d ∷ ds) e.0 v
        inner true here is rest =
            let one : d ≡ e = cc in
            tied one (none_changed ds
            (none_found ds (distinct_here same (f d) (filter_map f ds) distinct x (stands d here))))
            ∙ ap (λ r. match_ordering r ((e.0, v) ∷ d ∷ ds) ((d.0, v) ∷ ds) (d ∷ insert_entry cmp ds e.0 v))
            (sym (ap (λ (z : K × X). cmp z.0 d.0) (sym one) ∙ tied_itself o d.0))
        inner false away is rest =
            ap (λ z. z ∷ map g ds) (kept d away) ∙ ap (λ t. d ∷ t) (rest is now)
            ∙ ap (λ r. match_ordering r ((e.0, v) ∷ d ∷ ds) ((d.0, v) ∷ ds) (d ∷ insert_entry cmp ds e.0 v))
            (sym (o.antisymm e.0 d.0
            ∙ ap ordering_reverse (found_above cmp p d.0 e ds is (sorted_head cmp d.0 (keys_of ds) up))))
