-- A table as the list of its rows, in the order of their keys: what is found in it, and what a row that is put or taken
-- away makes of it. A row is put by one walk (`put_by`): the rows of lesser keys are passed; then it stands before the
-- rest, or in place of the row of its key. What holds in these three cases holds of every table.
use Rattle.std.proofs.Common.{◌≡◌, suc, ◌||◌, Bool, true, false, cond, List, [], ◌∷◌, filter, length, None, Some}
use Rattle.std.proofs.Common.{is_some, refl, ap, sym, ◌∙◌}
use Rattle.std.specs.Cmp.{Equal-is, IsTotalOrder, alike_right, nat_cmp_total, on_total, then_total, tied_itself}
use Rattle.std.specs.Cmp.Lexicographic.{nat_list_cmp_total}
use Rattle.std.specs.List.{AllByRecursion, list_all, list_any}
use Rattle.std.specs.List.Sorted.{IsStrictlySortedBy}
use Rattle.std.specs.Map.{keys_of}
use Rattle.std.specs.BTreeMap.{is_at}
use Rattle.std.specs.declared.cmp.Ordering.{Ordering}
use Rattle.std.specs.declared.cmp.Ordering.TheVariants.{Less, Equal, Greater}
use Rattle.std.specs.Ordering.{eq_by_cmp, is_eq, match_ordering, nat_cmp, ordering_reverse}
use Rattle.std.proofs.lemmas.Bool.{and_from, and_parts, or_right}
use Rattle.std.proofs.lemmas.Map.Keys.{sorted_head, sorted_tail}
use Rattle.std.proofs.lemmas.Map.Lookups.{CmpEqualImpliesEq, exact_bytes, exact_pairs, exact_unsigned}
use Rattle.exam_rules.specs.Orders.{KeysRise}
use Rattle.exam_rules.specs.Relations.{appeal_cmp, code_cmp, entry_cmp, has_row, opening_cmp, pair_cmp, put_row}
use Rattle.exam_rules.specs.Relations.{remove_row, row_at, seat_cmp}
use Rattle.exam_rules.specs.Tables.{Table, cmp_of}
use Rattle.exam_rules.specs.Tables as table
use Rattle.exam_rules.proofs.Relisting.{entries_exact}

-- ---- keys in order

pub sorted_from : {K : Type 0} (cmp : K → K → Ordering) (k : K) (ks : List K) → AllByRecursion (λ y. cmp k y ≡ Less) ks
    → IsStrictlySortedBy cmp ks → IsStrictlySortedBy cmp (k ∷ ks)
unfolding IsStrictlySortedBy
sorted_from cmp k ks above up = (above, up)

-- what is above a key is above a lesser one
pub all_above : {K : Type 0} (cmp : K → K → Ordering) → IsTotalOrder cmp → (k e : K) (ks : List K) → cmp k e ≡ Less
    → AllByRecursion (λ y. cmp e y ≡ Less) ks → AllByRecursion (λ y. cmp k y ≡ Less) ks
all_above cmp o k e [] less above = tt
all_above cmp o k e (y ∷ ks) less above = (o.trans k e y less above.0, all_above cmp o k e ks less above.1)

-- equal keys are so either way
pub flips : {K : Type 0} (cmp : K → K → Ordering) → IsTotalOrder cmp → (x y : K) → eq_by_cmp cmp x y ≡ eq_by_cmp cmp y x
flips cmp o x y = rw (o.antisymm x y) (inner (cmp y x))
  where
    inner : (r : Ordering) → is_eq (ordering_reverse r) ≡ is_eq r
    inner Less = refl
    inner Equal = refl
    inner Greater = refl

-- ---- the keys of the tables

pairs_total : {A B : Type 0} {P : A → A → Ordering} {Q : B → B → Ordering} → IsTotalOrder P → IsTotalOrder Q
    → IsTotalOrder (pair_cmp P Q)
pairs_total {A} {B} p q = then_total (on_total (λ (k : A × B). k.0) p) (on_total (λ (k : A × B). k.1) q)

pub openings_total : IsTotalOrder opening_cmp
openings_total = pairs_total nat_list_cmp_total nat_list_cmp_total

pub openings_exact : CmpEqualImpliesEq opening_cmp
openings_exact = exact_pairs code_cmp code_cmp exact_bytes exact_bytes

pub entries_total : IsTotalOrder entry_cmp
entries_total = pairs_total nat_cmp_total nat_list_cmp_total

pub appeals_total : IsTotalOrder appeal_cmp
appeals_total = entries_total

pub appeals_exact : CmpEqualImpliesEq appeal_cmp
appeals_exact = entries_exact

pub seats_total : IsTotalOrder seat_cmp
seats_total = pairs_total nat_list_cmp_total nat_cmp_total

pub seats_exact : CmpEqualImpliesEq seat_cmp
seats_exact = exact_pairs code_cmp nat_cmp exact_bytes exact_unsigned

pub keys_total : (t : Table) → IsTotalOrder (cmp_of t)
keys_total table.Sessions = nat_list_cmp_total
keys_total table.Papers = nat_list_cmp_total
keys_total table.Halls = nat_list_cmp_total
keys_total table.Openings = openings_total
keys_total table.Candidates = nat_cmp_total
keys_total table.Entries = entries_total
keys_total table.Arrangements = nat_cmp_total
keys_total table.Appeals = appeals_total
keys_total table.Standing = appeals_total

pub keys_exact : (t : Table) → CmpEqualImpliesEq (cmp_of t)
keys_exact table.Sessions = exact_bytes
keys_exact table.Papers = exact_bytes
keys_exact table.Halls = exact_bytes
keys_exact table.Openings = openings_exact
keys_exact table.Candidates = exact_unsigned
keys_exact table.Entries = entries_exact
keys_exact table.Arrangements = exact_unsigned
keys_exact table.Appeals = appeals_exact
keys_exact table.Standing = appeals_exact

-- ---- the walk to the place of a key

put_first : {K X : Type 0} (cmp : K → K → Ordering) (k : K) (v : X) (e : K × X) (es : List (K × X)) (r : Ordering)
    → cmp k e.0 ≡ r
    → put_row cmp (e ∷ es) k v ≡ match_ordering r ((k, v) ∷ e ∷ es) ((e.0, v) ∷ es) (e ∷ put_row cmp es k v)
put_first cmp k v e es r is = ap (λ r. match_ordering r ((k, v) ∷ e ∷ es) ((e.0, v) ∷ es) (e ∷ put_row cmp es k v)) is

module _ {K X : Type 0} (cmp : K → K → Ordering) (k : K) (v : X) where
  pub put_by : (P : List (K × X) → List (K × X) → Type 0)
      → ((es : List (K × X)) → ((w : X) → put_row cmp es k w ≡ (k, w) ∷ es) → P es ((k, v) ∷ es))
      → ((e : K × X) (es : List (K × X)) → cmp k e.0 ≡ Equal → P (e ∷ es) ((e.0, v) ∷ es))
      → ((e : K × X) (es : List (K × X)) → cmp k e.0 ≡ Greater → P es (put_row cmp es k v)
      → P (e ∷ es) (e ∷ put_row cmp es k v))
      → (rows : List (K × X)) → P rows (put_row cmp rows k v)
  put_by P before instead behind [] = before [] (λ w. refl)
  put_by P before instead behind (e ∷ es) = inner (cmp k e.0) refl (put_by P before instead behind es)
    where
      inner : (r : Ordering) → cmp k e.0 ≡ r → P es (put_row cmp es k v)
          → P (e ∷ es) (match_ordering r ((k, v) ∷ e ∷ es) ((e.0, v) ∷ es) (e ∷ put_row cmp es k v))
      inner Less is rest = before (e ∷ es) (λ w. put_first cmp k w e es Less is)
      inner Equal is rest = instead e es is
      inner Greater is rest = behind e es is rest

  -- in a table in order all that it is put before has greater keys
  pub put_by_order : IsTotalOrder cmp → (P : List (K × X) → List (K × X) → Type 0)
      → ((es : List (K × X)) → AllByRecursion (λ y. cmp k y ≡ Less) (keys_of es) → KeysRise cmp es → P es ((k, v) ∷ es))
      → ((e : K × X) (es : List (K × X)) → cmp k e.0 ≡ Equal → KeysRise cmp (e ∷ es) → P (e ∷ es) ((e.0, v) ∷ es))
      → ((e : K × X) (es : List (K × X)) → cmp k e.0 ≡ Greater → KeysRise cmp (e ∷ es) → P es (put_row cmp es k v)
      → P (e ∷ es) (e ∷ put_row cmp es k v))
      → (rows : List (K × X)) → KeysRise cmp rows → P rows (put_row cmp rows k v)
  put_by_order o P before instead behind [] up = before [] tt up
  put_by_order o P before instead behind (e ∷ es) up =
      inner (cmp k e.0) refl (put_by_order o P before instead behind es (sorted_tail cmp e.0 (keys_of es) up))
    where
      inner : (r : Ordering) → cmp k e.0 ≡ r → P es (put_row cmp es k v)
          → P (e ∷ es) (match_ordering r ((k, v) ∷ e ∷ es) ((e.0, v) ∷ es) (e ∷ put_row cmp es k v))
      inner Less is rest =
          before (e ∷ es) (is, all_above cmp o k e.0 (keys_of es) is (sorted_head cmp e.0 (keys_of es) up)) up
      inner Equal is rest = instead e es is up
      inner Greater is rest = behind e es is up rest

-- ---- what is found

module _ {K X : Type 0} (cmp : K → K → Ordering) where
  -- the first row, or one of the others
  pub row_first : (k : K) (e : K × X) (es : List (K × X)) (r : Ordering) → cmp k e.0 ≡ r
      → row_at cmp (e ∷ es) k ≡ cond (is_eq r) (Some e.1) (row_at cmp es k)
  row_first k e es r is = ap (λ r. cond (is_eq r) (Some e.1) (row_at cmp es k)) is

  -- among greater keys
  pub none_greater : (k : K) (es : List (K × X)) → AllByRecursion (λ y. cmp k y ≡ Less) (keys_of es)
      → row_at cmp es k ≡ None
  none_greater k [] above = refl
  none_greater k (e ∷ es) above = row_first k e es Less above.0 ∙ none_greater k es above.1

module _ {K X : Type 0} (cmp : K → K → Ordering) (o : IsTotalOrder cmp) where
  -- a row that is put is found at its key, and at the other keys what was there
  pub put_at : (rows : List (K × X)) (k q : K) (v : X)
      → row_at cmp (put_row cmp rows k v) q ≡ cond (is_at (cmp q) k) (Some v) (row_at cmp rows q)
  put_at rows k q v =
      put_by cmp k v (λ es fs. row_at cmp fs q ≡ cond (is_at (cmp q) k) (Some v) (row_at cmp es q))
      (λ es is. refl)
      (λ e es is. twice e es (is_at (cmp q) e.0)
      ∙ sym (ap (λ r. cond (is_eq r) (Some v) (row_at cmp (e ∷ es) q)) (alike_right o k e.0 q is)))
      (λ e es is rest. ap (cond (is_at (cmp q) e.0) (Some e.1)) rest
      ∙ past e es is (is_at (cmp q) e.0) refl (is_at (cmp q) k) refl)
      rows
    where
      twice : (e : K × X) (es : List (K × X)) (b : Bool)
          → cond b (Some v) (row_at cmp es q) ≡ cond b (Some v) (cond b (Some e.1) (row_at cmp es q))
      twice e es true = refl
      twice e es false = refl

      past : (e : K × X) (es : List (K × X)) → cmp k e.0 ≡ Greater → (a : Bool) → is_at (cmp q) e.0 ≡ a → (b : Bool)
          → is_at (cmp q) k ≡ b
          → cond a (Some e.1) (cond b (Some v) (row_at cmp es q))
          ≡ cond b (Some v) (cond a (Some e.1) (row_at cmp es q))
      past e es is true at true here = absurd (let differ : Equal ≡ Greater =
          sym ((Equal-is (cmp q e.0)).0 at) ∙ o.congr q k e.0 ((Equal-is (cmp q k)).0 here) ∙ is in cc)
      past e es is true at false here = refl
      past e es is false at b here = refl

  pub put_found : (rows : List (K × X)) (k : K) (v : X) → row_at cmp (put_row cmp rows k v) k ≡ Some v
  put_found rows k v = put_at rows k k v ∙ ap (λ r. cond (is_eq r) (Some v) (row_at cmp rows k)) (tied_itself o k)

  pub put_elsewhere : (rows : List (K × X)) (k q : K) (v : X) → is_at (cmp q) k ≡ false
      → row_at cmp (put_row cmp rows k v) q ≡ row_at cmp rows q
  put_elsewhere rows k q v away = put_at rows k q v ∙ ap (λ b. cond b (Some v) (row_at cmp rows q)) away

  -- what is at a key stays, if the row that is put has another key or is the same
  pub put_stays : (rows : List (K × X)) (k q : K) (v x : X) → (is_at (cmp k) q ≡ true → v ≡ x)
      → row_at cmp rows q ≡ Some x → row_at cmp (put_row cmp rows k v) q ≡ Some x
  put_stays rows k q v x agrees at = put_at rows k q v ∙ inner (is_at (cmp q) k) refl
    where
      inner : (b : Bool) → is_at (cmp q) k ≡ b → cond b (Some v) (row_at cmp rows q) ≡ Some x
      inner true here = ap Some (agrees (flips cmp o k q ∙ here))
      inner false away = at

  pub has_put : (rows : List (K × X)) (k q : K) (v : X) → has_row cmp rows q ≡ true
      → has_row cmp (put_row cmp rows k v) q ≡ true
  has_put rows k q v has = ap is_some (put_at rows k q v) ∙ inner (is_at (cmp q) k)
    where
      inner : (b : Bool) → is_some (cond b (Some v) (row_at cmp rows q)) ≡ true
      inner true = refl
      inner false = has

  -- a key that ties with one below all of these
  pub past_all : (k q : K) (es : List (K × X)) → cmp q k ≡ Equal → AllByRecursion (λ y. cmp k y ≡ Less) (keys_of es)
      → row_at cmp es q ≡ None
  past_all k q [] tied above = refl
  past_all k q (e ∷ es) tied above =
      row_first cmp q e es Less (o.congr q k e.0 tied ∙ above.0) ∙ past_all k q es tied above.1

  -- ---- keys

  all_keys_put : (P : K → Type 0) (es : List (K × X)) (k : K) (v : X) → P k → AllByRecursion P (keys_of es)
      → AllByRecursion P (keys_of (put_row cmp es k v))
  all_keys_put P es k v here =
      put_by cmp k v (λ es fs. AllByRecursion P (keys_of es) → AllByRecursion P (keys_of fs))
      (λ es is every. (here, every)) (λ e es is every. every) (λ e es is rest every. (every.0, rest every.1)) es

  -- keys rise on
  pub put_rises : (rows : List (K × X)) (k : K) (v : X) → KeysRise cmp rows → KeysRise cmp (put_row cmp rows k v)
  put_rises rows k v =
      put_by_order cmp k v o (λ es fs. KeysRise cmp fs)
      (λ es above up. sorted_from cmp k (keys_of es) above up)
      (λ e es is up. up)
      (λ e es is up rest. sorted_from cmp e.0 (keys_of (put_row cmp es k v))
      (all_keys_put (λ y. cmp e.0 y ≡ Less) es k v (o.antisymm e.0 k ∙ ap ordering_reverse is)
      (sorted_head cmp e.0 (keys_of es) up)) rest)
      rows

  -- they stay if a row is there already
  pub put_keys : (rows : List (K × X)) (k : K) (v x : X) → KeysRise cmp rows → row_at cmp rows k ≡ Some x
      → keys_of (put_row cmp rows k v) ≡ keys_of rows
  put_keys rows k v x =
      put_by_order cmp k v o (λ es fs. row_at cmp es k ≡ Some x → keys_of fs ≡ keys_of es)
      (λ es above up at. absurd (let differ : None ≡ Some x = sym (none_greater cmp k es above) ∙ at in cc))
      (λ e es is up at. refl)
      (λ e es is up rest at. ap (λ ks. e.0 ∷ ks) (rest (sym (row_first cmp k e es Greater is) ∙ at)))
      rows

  -- a row that is there already
  pub put_same : (rows : List (K × X)) (k : K) (v : X) → KeysRise cmp rows → row_at cmp rows k ≡ Some v
      → put_row cmp rows k v ≡ rows
  put_same rows k v =
      put_by_order cmp k v o (λ es fs. row_at cmp es k ≡ Some v → fs ≡ es)
      (λ es above up at. absurd (let differ : None ≡ Some v = sym (none_greater cmp k es above) ∙ at in cc))
      (λ e es is up at. let one : Some e.1 ≡ Some v = sym (row_first cmp k e es Equal is) ∙ at in let same : e.1 ≡ v =
      cc in ap (λ x. (e.0, x) ∷ es) (sym same))
      (λ e es is up rest at. ap (λ t. e ∷ t) (rest (sym (row_first cmp k e es Greater is) ∙ at)))
      rows

  -- of two rows at one key, one after the other, the second counts
  pub put_again : (rows : List (K × X)) (k : K) (x y : X)
      → put_row cmp (put_row cmp rows k x) k y ≡ put_row cmp rows k y
  put_again rows k x y =
      put_by cmp k x (λ es fs. put_row cmp fs k y ≡ put_row cmp es k y)
      (λ es is. put_first cmp k y (k, x) es Equal (tied_itself o k) ∙ sym (is y))
      (λ e es is. put_first cmp k y (e.0, x) es Equal is ∙ sym (put_first cmp k y e es Equal is))
      (λ e es is rest. put_first cmp k y e (put_row cmp es k x) Greater is ∙ ap (λ t. e ∷ t) rest
      ∙ sym (put_first cmp k y e es Greater is))
      rows

  -- a new row goes again
  pub put_removed : (rows : List (K × X)) (k : K) (x : X) → row_at cmp rows k ≡ None
      → remove_row cmp (put_row cmp rows k x) k ≡ rows
  put_removed rows k x =
      put_by cmp k x (λ es fs. row_at cmp es k ≡ None → remove_row cmp fs k ≡ es)
      (λ es is none. ap (λ r. cond (is_eq r) es ((k, x) ∷ remove_row cmp es k)) (tied_itself o k))
      (λ e es is none. absurd (let differ : Some e.1 ≡ None = sym (row_first cmp k e es Equal is) ∙ none in cc))
      (λ e es is rest none. ap (λ r. cond (is_eq r) (put_row cmp es k x) (e ∷ remove_row cmp (put_row cmp es k x) k)) is
      ∙ ap (λ t. e ∷ t) (rest (sym (row_first cmp k e es Greater is) ∙ none)))
      rows

  -- ---- rows in order

  at_head : (e : K × X) (es : List (K × X)) → row_at cmp (e ∷ es) e.0 ≡ Some e.1
  at_head e es = row_first cmp e.0 e es Equal (tied_itself o e.0)

  below_head : (k : K) (e : K × X) (es : List (K × X)) → KeysRise cmp (e ∷ es) → cmp k e.0 ≡ Less
      → row_at cmp (e ∷ es) k ≡ None
  below_head k e es up less =
      none_greater cmp k (e ∷ es) (less, all_above cmp o k e.0 (keys_of es) less (sorted_head cmp e.0 (keys_of es) up))

  -- later rows have nothing at the key of the first
  pub none_later : (e : K × X) (es : List (K × X)) (q : K) → KeysRise cmp (e ∷ es) → is_at (cmp q) e.0 ≡ true
      → row_at cmp es q ≡ None
  none_later e es q up at = past_all e.0 q es ((Equal-is (cmp q e.0)).0 at) (sorted_head cmp e.0 (keys_of es) up)

  -- rows are the same if each key has the same
  pub same_rows : CmpEqualImpliesEq cmp → (es fs : List (K × X)) → KeysRise cmp es → KeysRise cmp fs
      → ((q : K) → row_at cmp es q ≡ row_at cmp fs q) → es ≡ fs
  same_rows exact [] [] up vp same = refl
  same_rows exact [] (f ∷ fs) up vp same = absurd (let differ : None ≡ Some f.1 = same f.0 ∙ at_head f fs in cc)
  same_rows exact (e ∷ es) [] up vp same = absurd (let differ : Some e.1 ≡ None = sym (at_head e es) ∙ same e.0 in cc)
  same_rows exact (e ∷ es) (f ∷ fs) up vp same =
      inner (cmp e.0 f.0) refl
      (same_rows exact es fs (sorted_tail cmp e.0 (keys_of es) up) (sorted_tail cmp f.0 (keys_of fs) vp))
    where
      heads : (r : Ordering) → cmp e.0 f.0 ≡ r → r ≡ Equal
      heads Less is = absurd
          (let differ : Some e.1 ≡ None = sym (at_head e es) ∙ same e.0 ∙ below_head e.0 f fs vp is in cc)
      heads Equal is = refl
      heads Greater is = absurd
          (let differ : Some f.1 ≡ None =
          sym (at_head f fs) ∙ sym (same f.0) ∙ below_head f.0 e es up (o.antisymm f.0 e.0 ∙ ap ordering_reverse is) in
          cc)

      tails : e.0 ≡ f.0 → (q : K) (b : Bool) → is_at (cmp q) e.0 ≡ b → row_at cmp es q ≡ row_at cmp fs q
      tails one q true here =
          none_later e es q up here ∙ sym (none_later f fs q vp (ap (λ k. is_at (cmp q) k) (sym one) ∙ here))
      tails one q false away =
          ap (λ b. cond b (Some e.1) (row_at cmp es q)) (sym away) ∙ same q
          ∙ ap (λ b. cond b (Some f.1) (row_at cmp fs q)) (ap (λ k. is_at (cmp q) k) (sym one) ∙ away)

      inner : (r : Ordering) → cmp e.0 f.0 ≡ r → (((q : K) → row_at cmp es q ≡ row_at cmp fs q) → es ≡ fs)
          → e ∷ es ≡ f ∷ fs
      inner r is rest =
          let tied : cmp e.0 f.0 ≡ Equal = is ∙ heads r is in
          let key : e.0 ≡ f.0 = exact e.0 f.0 tied in
          let value : Some e.1 ≡ Some f.1 = sym (at_head e es) ∙ same e.0 ∙ row_first cmp e.0 f fs Equal tied in
          let content : e.1 ≡ f.1 = cc in
          ap (λ k. (k, e.1) ∷ es) key ∙ ap (λ x. (f.0, x) ∷ es) content
          ∙ ap (λ t. f ∷ t) (rest (λ q. tails key q (is_at (cmp q) e.0) refl))

  -- ---- a row that is taken away

  all_keys_removed : (P : K → Type 0) (rows : List (K × X)) (k : K) → AllByRecursion P (keys_of rows)
      → AllByRecursion P (keys_of (remove_row cmp rows k))
  all_keys_removed P [] k every = tt
  all_keys_removed P (e ∷ es) k every = inner (is_at (cmp k) e.0) (all_keys_removed P es k every.1)
    where
      inner : (b : Bool) → AllByRecursion P (keys_of (remove_row cmp es k))
          → AllByRecursion P (keys_of (cond b es (e ∷ remove_row cmp es k)))
      inner true rest = every.1
      inner false rest = (every.0, rest)

  pub removed_rises : (rows : List (K × X)) (k : K) → KeysRise cmp rows → KeysRise cmp (remove_row cmp rows k)
  removed_rises [] k up = up
  removed_rises (e ∷ es) k up = inner (is_at (cmp k) e.0) (removed_rises es k (sorted_tail cmp e.0 (keys_of es) up))
    where
      inner : (b : Bool) → KeysRise cmp (remove_row cmp es k) → KeysRise cmp (cond b es (e ∷ remove_row cmp es k))
      inner true rest = sorted_tail cmp e.0 (keys_of es) up
      inner false rest = sorted_from cmp e.0 (keys_of (remove_row cmp es k))
          (all_keys_removed (λ y. cmp e.0 y ≡ Less) es k (sorted_head cmp e.0 (keys_of es) up)) rest

  pub removed_here : (rows : List (K × X)) (k : K) → KeysRise cmp rows → row_at cmp (remove_row cmp rows k) k ≡ None
  removed_here [] k up = refl
  removed_here (e ∷ es) k up = inner (is_at (cmp k) e.0) refl (removed_here es k (sorted_tail cmp e.0 (keys_of es) up))
    where
      inner : (b : Bool) → is_at (cmp k) e.0 ≡ b → row_at cmp (remove_row cmp es k) k ≡ None
          → row_at cmp (cond b es (e ∷ remove_row cmp es k)) k ≡ None
      inner true at rest = none_later e es k up at
      inner false away rest = ap (λ b. cond b (Some e.1) (row_at cmp (remove_row cmp es k) k)) away ∙ rest

-- ---- rows that pass a test

pub key_apart : {K : Type 0} (cmp : K → K → Ordering) → CmpEqualImpliesEq cmp → (k q : K) → (k ≡ q → ⊥)
    → is_at (cmp k) q ≡ false
key_apart cmp exact k q apart = inner (is_at (cmp k) q) refl
  where
    inner : (b : Bool) → is_at (cmp k) q ≡ b → b ≡ false
    inner true at = absurd (apart (exact k q ((Equal-is (cmp k q)).0 at)))
    inner false at = refl

module _ {K X : Type 0} (cmp : K → K → Ordering) (exact : CmpEqualImpliesEq cmp) where
  -- what is at other keys once a row is taken away
  pub removed_elsewhere : (rows : List (K × X)) (k q : K) → is_at (cmp q) k ≡ false
      → row_at cmp (remove_row cmp rows k) q ≡ row_at cmp rows q
  removed_elsewhere [] k q away = refl
  removed_elsewhere (e ∷ es) k q away = inner (is_at (cmp k) e.0) refl (removed_elsewhere es k q away)
    where
      inner : (b : Bool) → is_at (cmp k) e.0 ≡ b → row_at cmp (remove_row cmp es k) q ≡ row_at cmp es q
          → row_at cmp (cond b es (e ∷ remove_row cmp es k)) q ≡ row_at cmp (e ∷ es) q
      inner true here rest =
          let past : is_at (cmp q) e.0 ≡ false =
          ap (λ z. is_at (cmp q) z) (sym (exact k e.0 ((Equal-is (cmp k e.0)).0 here))) ∙ away in
          sym (ap (λ b. cond b (Some e.1) (row_at cmp es q)) past)
      inner false here rest = ap (λ o. cond (is_at (cmp q) e.0) (Some e.1) o) rest

  -- what holds of all rows holds of the one at a key
  pub all_at_row : (p : K × X → Bool) (rows : List (K × X)) (k : K) (x : X) → list_all p rows ≡ true
      → row_at cmp rows k ≡ Some x → p (k, x) ≡ true
  all_at_row p [] k x every at = absurd (let no_row : None ≡ Some x = at in cc)
  all_at_row p (e ∷ es) k x every at =
      inner (is_at (cmp k) e.0) refl at (all_at_row p es k x (and_parts (p e) (list_all p es) every).1)
    where
      inner : (b : Bool) → is_at (cmp k) e.0 ≡ b → cond b (Some e.1) (row_at cmp es k) ≡ Some x
          → (row_at cmp es k ≡ Some x → p (k, x) ≡ true) → p (k, x) ≡ true
      inner true here is rest =
          let key : k ≡ e.0 = exact k e.0 ((Equal-is (cmp k e.0)).0 here) in
          let content : e.1 ≡ x = cc in
          ap (λ q. p (q, x)) key ∙ ap (λ y. p (e.0, y)) (sym content) ∙ (and_parts (p e) (list_all p es) every).0
      inner false away is rest = rest is

  -- and is kept by one of which it holds
  pub all_put : (p : K × X → Bool) (rows : List (K × X)) (k : K) (v : X) → list_all p rows ≡ true → p (k, v) ≡ true
      → list_all p (put_row cmp rows k v) ≡ true
  all_put p rows k v every here =
      put_by cmp k v (λ es fs. list_all p es ≡ true → list_all p fs ≡ true)
      (λ es is all. and_from (p (k, v)) (list_all p es) here all)
      (λ e es is all. and_from (p (e.0, v)) (list_all p es) (ap (λ q. p (q, v)) (sym (exact k e.0 is)) ∙ here)
      (and_parts (p e) (list_all p es) all).1)
      (λ e es is rest all. let parts =
      and_parts (p e) (list_all p es) all in
      and_from (p e) (list_all p (put_row cmp es k v)) parts.0 (rest parts.1))
      rows every

  -- if neither the row nor the one before it at the key passes, the same rows pass
  pub put_passed_over : (p : K × X → Bool) (rows : List (K × X)) (k : K) (v : X) → p (k, v) ≡ false
      → ((x : X) → row_at cmp rows k ≡ Some x → p (k, x) ≡ false) → filter p (put_row cmp rows k v) ≡ filter p rows
  put_passed_over p rows k v none =
      put_by cmp k v (λ es fs. ((x : X) → row_at cmp es k ≡ Some x → p (k, x) ≡ false) → filter p fs ≡ filter p es)
      (λ es is old. out (k, v) es none)
      (λ e es is old. let one = exact k e.0 is in
      out (e.0, v) es (ap (λ z. p (z, v)) (sym one) ∙ none)
      ∙ sym (out e es (ap (λ z. p (z, e.1)) (sym one) ∙ old e.1 (row_first cmp k e es Equal is))))
      (λ e es is rest old. ap (λ fs. cond (p e) (e ∷ fs) fs)
      (rest (λ x at. old x (row_first cmp k e es Greater is ∙ at))))
      rows
    where
      out : (e : K × X) (es : List (K × X)) → p e ≡ false → filter p (e ∷ es) ≡ filter p es
      out e es is = ap (λ b. cond b (e ∷ filter p es) (filter p es)) is

-- a row that does not pass makes none pass
pub put_none : {K X : Type 0} (cmp : K → K → Ordering) (p : K × X → Bool) (rows : List (K × X)) (k : K) (v : X)
    → ((q : K) → p (q, v) ≡ false) → list_any p (put_row cmp rows k v) ≡ true → list_any p rows ≡ true
put_none {K} {X} cmp p rows k v none =
    put_by cmp k v (λ es fs. list_any p fs ≡ true → list_any p es ≡ true)
    (λ es is any. ap (λ b. b || list_any p es) (sym (none k)) ∙ any)
    (λ e es is any. or_right (p e) (list_any p es) (ap (λ b. b || list_any p es) (sym (none e.0)) ∙ any))
    (λ e es is rest any. later (p e) (list_any p es) any rest)
    rows
  where
    later : (b c : Bool) {d : Bool} → (b || d) ≡ true → (d ≡ true → c ≡ true) → (b || c) ≡ true
    later true c any rest = refl
    later false c any rest = rest any

-- ---- how many rows have a key that passes

module _ {K X : Type 0} (cmp : K → K → Ordering) (q : K → Bool) where
  abbrev passing : List (K × X) → List (K × X)
  passing rows = filter (λ (e : K × X). q e.0) rows

  -- as many as there are such keys
  by_keys : (rows : List (K × X)) → length (passing rows) ≡ length (filter q (keys_of rows))
  by_keys [] = refl
  by_keys (e ∷ es) = inner (q e.0) (by_keys es)
    where
      inner : (b : Bool) → length (passing es) ≡ length (filter q (keys_of es))
          → length (cond b (e ∷ passing es) (passing es))
          ≡ length (cond b (e.0 ∷ filter q (keys_of es)) (filter q (keys_of es)))
      inner true rest = ap (λ n. suc n) rest
      inner false rest = rest

  -- a row under a new key is one more
  pub one_more : (rows : List (K × X)) (k : K) (v : X) → q k ≡ true → row_at cmp rows k ≡ None
      → length (passing (put_row cmp rows k v)) ≡ suc (length (passing rows))
  one_more rows k v own =
      put_by cmp k v (λ es fs. row_at cmp es k ≡ None → length (passing fs) ≡ suc (length (passing es)))
      (λ es is none. ap (λ b. length (cond b ((k, v) ∷ passing es) (passing es))) own)
      (λ e es is none. absurd (let differ : Some e.1 ≡ None = sym (row_first cmp k e es Equal is) ∙ none in cc))
      (λ e es is rest none. later e (q e.0) (passing (put_row cmp es k v)) (passing es)
      (rest (sym (row_first cmp k e es Greater is) ∙ none)))
      rows
    where
      later : (e : K × X) (b : Bool) (fs gs : List (K × X)) → length fs ≡ suc (length gs)
          → length (cond b (e ∷ fs) fs) ≡ suc (length (cond b (e ∷ gs) gs))
      later e true fs gs more = ap (λ n. suc n) more
      later e false fs gs more = more

-- a row in the place of another leaves as many
pub count_replaced : {K X : Type 0} (cmp : K → K → Ordering) → IsTotalOrder cmp
    → (q : K → Bool) (rows : List (K × X)) (k : K) (v x : X) → KeysRise cmp rows → row_at cmp rows k ≡ Some x
    → length (passing cmp q (put_row cmp rows k v)) ≡ length (passing cmp q rows)
count_replaced cmp o q rows k v x up at =
    by_keys cmp q (put_row cmp rows k v) ∙ ap (λ ks. length (filter q ks)) (put_keys cmp o rows k v x up at)
    ∙ sym (by_keys cmp q rows)
