-- The appeals of a session from a key on: the first of them, and those after it.
use Rattle.exam_tables.proofs.Words.{IsTotalOrder, AllByRecursion, IsStrictlySortedBy, keys_of, deref_pair}
use Rattle.exam_tables.proofs.Words.{ordering_reverse, Appeal, KeysRise, Code, appeal_cmp, same_code, KeyedAppeal}
use Rattle.std.proofs.Common.{◌≡◌, ◌⊎◌, ℕ, Bool, true, false, cond, ◌&&◌, List, [], ◌∷◌, ◌++◌, filter, Bor, inl, inr}
use Rattle.std.proofs.Common.{Ordering, Less, Equal, Greater, refl, sym, ap, subst, ◌∙◌, append_assoc}
use Rattle.std.specs.Cmp.{nat_cmp_total, then_total, on_total}
use Rattle.std.specs.Cmp.Lexicographic.{nat_list_cmp_total}
use Rattle.std.specs.BTreeMap.Range.{entries_between, range_contains}
use Rattle.std.specs.Ordering.{is_le, is_lt}
use Rattle.std.specs.declared.ops.Bound.{Bound}
use Rattle.std.specs.declared.ops.Bound.TheVariants.{Included, Excluded, Unbounded}
use Rattle.std.proofs.lemmas.Cmp.{tied_itself}
use Rattle.std.proofs.lemmas.List.Elements.{filter-append}
use Rattle.exam_tables.specs.Appeals.{appeals_from, appeals_in}

abbrev Key : Type 0
Key = ℕ × Code

total : IsTotalOrder appeal_cmp
total = then_total (on_total (λ (k : Key). k.0) nat_cmp_total) (on_total (λ (k : Key). k.1) nat_list_cmp_total)

-- ---- keys from a key on

is_less : (o : Ordering) → is_lt o && true ≡ true → o ≡ Less
is_less Less h = refl
is_less Equal h = absurd cc
is_less Greater h = absurd cc

is_least : (o : Ordering) → is_le o && true ≡ true → (o ≡ Less) ⊎ (o ≡ Equal)
is_least Less h = inl refl
is_least Equal h = inr refl
is_least Greater h = absurd cc

abbrev is_in : Bound Key → Key → Bool
is_in from k = range_contains appeal_cmp from Unbounded k

later : (from : Bound Key) (j k : Key) → is_in from j ≡ true → appeal_cmp j k ≡ Less → is_in from k ≡ true
later Unbounded j k h less = refl
later (Excluded a) j k h less = ap (λ o. is_lt o && true) (total.trans a j k (is_less (appeal_cmp a j) h) less)
later (Included a) j k h less = by (is_least (appeal_cmp a j) h)
  where
    by : (appeal_cmp a j ≡ Less) ⊎ (appeal_cmp a j ≡ Equal) → is_in (Included a) k ≡ true
    by (inl below) = ap (λ o. is_le o && true) (total.trans a j k below less)
    by (inr at) = ap (λ o. is_le o && true) (total.congr a j k at ∙ less)

-- those after a key leave it out, and those before it
not_after : (e x : Key) → appeal_cmp x e ≡ Less → is_in (Excluded e) x ≡ false
not_after e x less = ap (λ o. is_lt o && true) (total.antisymm e x ∙ ap ordering_reverse less)

not_itself : (e : Key) → is_in (Excluded e) e ≡ false
not_itself e = ap (λ o. is_lt o && true) (tied_itself total e)

-- ---- lists

abbrev from_on : Bound Key → List KeyedAppeal → List KeyedAppeal
from_on from rows = entries_between appeal_cmp from Unbounded rows

module _ (P : Key → Type 0) where
  all_kept : (p : KeyedAppeal → Bool) (rows : List KeyedAppeal) → AllByRecursion P (keys_of rows)
      → AllByRecursion P (keys_of (filter p rows))
  all_kept p [] all = tt
  all_kept p (x ∷ rows) all = by (p x) (all_kept p rows all.1)
    where
      by : (b : Bool) → AllByRecursion P (keys_of (filter p rows))
          → AllByRecursion P (keys_of (cond b (x ∷ filter p rows) (filter p rows)))
      by true rest = (all.0, rest)
      by false rest = rest

  at_place : (done : List KeyedAppeal) (e : KeyedAppeal) (post : List KeyedAppeal)
      → AllByRecursion P (keys_of (done ++ e ∷ post)) → P e.0
  at_place [] e post all = all.0
  at_place (d ∷ done) e post all = at_place done e post all.1

-- where all are later than a key that is in, all are in
all_in : (from : Bound Key) (k : Key) (rows : List KeyedAppeal) → is_in from k ≡ true
    → AllByRecursion (λ j. appeal_cmp k j ≡ Less) (keys_of rows) → from_on from rows ≡ rows
all_in from k [] h all = refl
all_in from k (x ∷ rows) h all =
    ap (λ c. cond c (x ∷ from_on from rows) (from_on from rows)) (later from k x.0 h all.0)
    ∙ ap (λ l. x ∷ l) (all_in from k rows h all.1)

all_after : (k : Key) (rows : List KeyedAppeal) → AllByRecursion (λ j. appeal_cmp k j ≡ Less) (keys_of rows)
    → from_on (Excluded k) rows ≡ rows
all_after k [] all = refl
all_after k (x ∷ rows) all =
    ap (λ c. cond c (x ∷ from_on (Excluded k) rows) (from_on (Excluded k) rows)) (ap (λ o. is_lt o && true) all.0)
    ∙ ap (λ l. x ∷ l) (all_after k rows all.1)

none_at : {P : Type 0} (done : List KeyedAppeal) (e : KeyedAppeal) (post : List KeyedAppeal) → [] ≡ done ++ e ∷ post → P
none_at [] e post is = absurd cc
none_at (d ∷ done) e post is = absurd cc

-- what follows an appeal are those after its key
pub after_it : (from : Bound Key) (rows : List KeyedAppeal) → KeysRise appeal_cmp rows
    → (done : List KeyedAppeal) (e : KeyedAppeal) (post : List KeyedAppeal)
    → from_on from rows ≡ done ++ e ∷ post → from_on (Excluded e.0) rows ≡ post
unfolding IsStrictlySortedBy
after_it from [] rises done e post is = none_at done e post is
after_it from (x ∷ rows) rises done e post is =
    by (λ ds rest. after_it from rows rises.1 ds e post rest) (is_in from x.0) refl
  where
    -- an appeal before it is left out
    left_out : ((ds : List KeyedAppeal) → from_on from rows ≡ ds ++ e ∷ post → from_on (Excluded e.0) rows ≡ post)
        → (ds : List KeyedAppeal) → from_on from rows ≡ ds ++ e ∷ post → from_on (Excluded e.0) (x ∷ rows) ≡ post
    left_out later ds rest =
        let below = at_place (λ k. appeal_cmp x.0 k ≡ Less) ds e post
        (subst (λ (l : List KeyedAppeal). AllByRecursion (λ k. appeal_cmp x.0 k ≡ Less) (keys_of l)) rest
        (all_kept (λ k. appeal_cmp x.0 k ≡ Less) (λ a. is_in from a.0) rows rises.0)) in
        ap (λ c. cond c (x ∷ from_on (Excluded e.0) rows) (from_on (Excluded e.0) rows)) (not_after e.0 x.0 below)
        ∙ later ds rest

    first : ((ds : List KeyedAppeal) → from_on from rows ≡ ds ++ e ∷ post → from_on (Excluded e.0) rows ≡ post)
        → is_in from x.0 ≡ true → (ds : List KeyedAppeal) → x ∷ from_on from rows ≡ ds ++ e ∷ post
        → from_on (Excluded e.0) (x ∷ rows) ≡ post
    first later is_first [] whole =
        let same : x ≡ e = cc in
        let rest : from_on from rows ≡ post = cc in
        let out = ap (λ c. cond c (x ∷ from_on (Excluded x.0) rows) (from_on (Excluded x.0) rows)) (not_itself x.0) in
        subst (λ (a : KeyedAppeal). from_on (Excluded a.0) (x ∷ rows) ≡ post) same
        (out ∙ all_after x.0 rows rises.0 ∙ sym (all_in from x.0 rows is_first rises.0) ∙ rest)
    first later is_first (d ∷ ds) whole = left_out later ds (let rest : from_on from rows ≡ ds ++ e ∷ post = cc in rest)

    by : ((ds : List KeyedAppeal) → from_on from rows ≡ ds ++ e ∷ post → from_on (Excluded e.0) rows ≡ post)
        → (b : Bool) → is_in from x.0 ≡ b → from_on (Excluded e.0) (x ∷ rows) ≡ post
    by later true here =
        first later here done (sym (ap (λ c. cond c (x ∷ from_on from rows) (from_on from rows)) here) ∙ is)
    by later false here =
        left_out later done (sym (ap (λ c. cond c (x ∷ from_on from rows) (from_on from rows)) here) ∙ is)

-- ---- the search

-- none of those that were passed is of the session, and the others are left
pub record HasPassed (s : Code) (from : Bound Key) (all left : List KeyedAppeal) : Type 0 where
  pub passed : List KeyedAppeal
  pub parts : entries_between appeal_cmp from Unbounded all ≡ passed ++ left
  pub none : appeals_in passed s ≡ []

module _ (s : Code) (from : Bound Key) (all old new : List KeyedAppeal) (x : Bor Key × Bor Appeal)
    (has : HasPassed s from all old) (is : old ≡ deref_pair x ∷ new) where
  parts_then : from_on from all ≡ has.passed ++ deref_pair x ∷ new
  parts_then = has.parts ∙ ap (λ (l : List KeyedAppeal). has.passed ++ l) is

  pub one_passed : same_code x.1.now.session s ≡ false → HasPassed s from all new
  one_passed other = record {
    passed = has.passed ++ deref_pair x ∷ [];
    parts = parts_then ∙ sym (append_assoc has.passed (deref_pair x ∷ []) new);
    none = filter-append (λ (a : KeyedAppeal). same_code a.1.session s) has.passed (deref_pair x ∷ [])
        ∙ ap (λ l. l ++ appeals_in (deref_pair x ∷ []) s) has.none
        ∙ ap (λ c. cond c (deref_pair x ∷ []) []) other;
  }

  pub one_found : KeysRise appeal_cmp all → same_code x.1.now.session s ≡ true
      → appeals_from all s from ≡ deref_pair x ∷ appeals_from all s (Excluded x.0.now)
  one_found rises here =
      ap (λ (l : List KeyedAppeal). appeals_in l s) parts_then
      ∙ filter-append (λ (a : KeyedAppeal). same_code a.1.session s) has.passed (deref_pair x ∷ new)
      ∙ ap (λ l. l ++ appeals_in (deref_pair x ∷ new) s) has.none
      ∙ ap (λ c. cond c (deref_pair x ∷ appeals_in new s) (appeals_in new s)) here
      ∙ ap (λ (l : List KeyedAppeal). deref_pair x ∷ appeals_in l s)
      (sym (after_it from all rises has.passed (deref_pair x) new parts_then))
