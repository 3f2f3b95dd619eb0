-- One walk over two tables in the order of their keys finds what differs.
use Rattle.exam_tables.proofs.Words.{IsTotalOrder, AllByRecursion, filter, IsStrictlySortedBy, keys_of, deref_pair}
use Rattle.exam_tables.proofs.Words.{is_eq, ordering_reverse, take_all, map-append, KeysRise, has_key}
use Rattle.std.proofs.Common.{◌≡◌, ◌<◌, ◌-◌, ◌&&◌, ◌||◌, Bool, true, false, not, cond, List, [], ◌∷◌, ◌++◌, map, length}
use Rattle.std.proofs.Common.{get_or, take, drop, Bor, arith, Ordering, Less, Equal, Greater, refl, sym, ap, ap₂, subst}
use Rattle.std.proofs.Common.{◌∙◌, append_assoc}
use Rattle.std.specs.Cmp.{tied_back}
use Rattle.exam_tables.specs.Differences.{first_cmp, has_entry, to_put, to_delete}
use Rattle.std.proofs.lemmas.Bool.{not-false, not-true}

or_false : (b : Bool) → (b || false) ≡ b
or_false true = refl
or_false false = refl

pub filter_alike : {X : Type 0} (p q : X → Bool) (xs : List X) → AllByRecursion (λ x. p x ≡ q x) xs
    → filter p xs ≡ filter q xs
filter_alike p q [] h = refl
filter_alike p q (x ∷ xs) h = ap₂ (λ b l. cond b (x ∷ l) l) h.0 (filter_alike p q xs h.1)

-- a key before all others of a table is none of them
pub absent_key : {K X : Type 0} (cmp : K → K → Ordering) (k : K) (rows : List (K × X))
    → AllByRecursion (λ y. cmp k y ≡ Less) (keys_of rows) → has_key cmp rows k ≡ false
absent_key cmp k [] below = refl
absent_key cmp k (r ∷ rows) below = ap₂ (λ o b. is_eq o || b) below.0 (absent_key cmp k rows below.1)

module _ {K X : Type 0} {cmp : K → K → Ordering} (total : IsTotalOrder cmp) (same : X → X → Bool) where
  pub flipped : (j k : K) → cmp j k ≡ Less → cmp k j ≡ Greater
  flipped j k less = total.antisymm k j ∙ ap ordering_reverse less

  pub absent_entry : (n : K × X) (rows : List (K × X)) → AllByRecursion (λ y. cmp n.0 y ≡ Less) (keys_of rows)
      → has_entry cmp same rows n ≡ false
  absent_entry n [] below = refl
  absent_entry n (r ∷ rows) below = ap₂ (λ o b. (is_eq o && same r.1 n.1) || b) below.0 (absent_entry n rows below.1)

  -- a key below the first is below them all
  pub below_all : (k : K) (rows : List K) (j : K) → cmp k j ≡ Less → AllByRecursion (λ y. cmp j y ≡ Less) rows
      → AllByRecursion (λ y. cmp k y ≡ Less) rows
  below_all k [] j less above = tt
  below_all k (r ∷ rows) j less above = (total.trans k j r less above.0, below_all k rows j less above.1)

  pub alike_all : (k : K) (rows : List K) (j : K) → cmp k j ≡ Equal → AllByRecursion (λ y. cmp j y ≡ Less) rows
      → AllByRecursion (λ y. cmp k y ≡ Less) rows
  alike_all k [] j tied above = tt
  alike_all k (r ∷ rows) j tied above = (total.congr k j r tied ∙ above.0, alike_all k rows j tied above.1)

  -- an entry with a key before all of the new table changes none of its puts
  pub same_puts : (e : K × X) (old new : List (K × X)) → AllByRecursion (λ y. cmp e.0 y ≡ Less) (keys_of new)
      → to_put cmp same (e ∷ old) new ≡ to_put cmp same old new
  same_puts e old new below = filter_alike _ _ new (each new below)
    where
      each : (rows : List (K × X)) → AllByRecursion (λ y. cmp e.0 y ≡ Less) (keys_of rows)
          → AllByRecursion (λ n. not (has_entry cmp same (e ∷ old) n) ≡ not (has_entry cmp same old n)) rows
      each [] below = tt
      each (n ∷ rows) below = (
        ap (λ o. not ((is_eq o && same e.1 n.1) || has_entry cmp same old n)) (flipped e.0 n.0 below.0),
        each rows below.1,
      )

  pub same_deletes : (n : K × X) (old new : List (K × X)) → AllByRecursion (λ y. cmp n.0 y ≡ Less) (keys_of old)
      → to_delete cmp old (n ∷ new) ≡ to_delete cmp old new
  same_deletes n old new below = filter_alike _ _ (keys_of old) (each (keys_of old) below)
    where
      each : (keys : List K) → AllByRecursion (λ y. cmp n.0 y ≡ Less) keys
          → AllByRecursion (λ k. not (has_key cmp (n ∷ new) k) ≡ not (has_key cmp new k)) keys
      each [] below = tt
      each (k ∷ keys) below = (ap (λ o. not (is_eq o || has_key cmp new k)) (flipped n.0 k below.0), each keys below.1)

  -- where the first key of the old table comes first, the new one does not have it
  pub old_first : (e : K × X) (more new : List (K × X)) → first_cmp cmp (e ∷ more) new ≡ Less → KeysRise cmp new
      → AllByRecursion (λ y. cmp e.0 y ≡ Less) (keys_of new)
  unfolding IsStrictlySortedBy
  old_first e more [] less rises = tt
  old_first e more (n ∷ new) less rises = (less, below_all e.0 (keys_of new) n.0 less rises.0)

  pub new_first : (n : K × X) (more old : List (K × X)) → first_cmp cmp old (n ∷ more) ≡ Greater → KeysRise cmp old
      → AllByRecursion (λ y. cmp n.0 y ≡ Less) (keys_of old)
  unfolding IsStrictlySortedBy
  new_first n more [] greater rises = tt
  new_first n more (e ∷ old) greater rises =
      let less : cmp n.0 e.0 ≡ Less = total.antisymm n.0 e.0 ∙ ap ordering_reverse greater in
      (less, below_all n.0 (keys_of old) e.0 less rises.0)

  pub rest_rises : (e : K × X) (more : List (K × X)) → KeysRise cmp (e ∷ more) → KeysRise cmp more
  unfolding IsStrictlySortedBy
  rest_rises e more rises = rises.1

  pub first_below : (e : K × X) (more : List (K × X)) → KeysRise cmp (e ∷ more)
      → AllByRecursion (λ y. cmp e.0 y ≡ Less) (keys_of more)
  unfolding IsStrictlySortedBy
  first_below e more rises = rises.0

  pub deleted : (e : K × X) (more new : List (K × X)) → AllByRecursion (λ y. cmp e.0 y ≡ Less) (keys_of new)
      → to_delete cmp (e ∷ more) new ≡ e.0 ∷ to_delete cmp more new
  deleted e more new below =
      ap (λ b. cond (not b) (e.0 ∷ to_delete cmp more new) (to_delete cmp more new)) (absent_key cmp e.0 new below)

  pub added : (n : K × X) (more old : List (K × X)) → AllByRecursion (λ y. cmp n.0 y ≡ Less) (keys_of old)
      → to_put cmp same old (n ∷ more) ≡ n ∷ to_put cmp same old more
  added n more old below =
      ap (λ b. cond (not b) (n ∷ to_put cmp same old more) (to_put cmp same old more)) (absent_entry n old below)

  -- both have the key: it is not deleted
  pub both_deletes : (e n : K × X) (old new : List (K × X)) → cmp e.0 n.0 ≡ Equal → KeysRise cmp (e ∷ old)
      → to_delete cmp (e ∷ old) (n ∷ new) ≡ to_delete cmp old new
  both_deletes e n old new tied rises =
      ap (λ o. cond (not (is_eq o || has_key cmp new e.0)) (e.0 ∷ to_delete cmp old (n ∷ new))
      (to_delete cmp old (n ∷ new))) tied
      ∙ same_deletes n old new
      (alike_all n.0 (keys_of old) e.0 (tied_back total e.0 n.0 tied) (first_below e old rises))

  -- and the entry is put where its value is another
  pub both_puts : (e n : K × X) (old new : List (K × X)) → cmp e.0 n.0 ≡ Equal → KeysRise cmp (e ∷ old)
      → KeysRise cmp (n ∷ new)
      → to_put cmp same (e ∷ old) (n ∷ new)
      ≡ cond (not (same e.1 n.1)) (n ∷ to_put cmp same old new) (to_put cmp same old new)
  both_puts e n old new tied old_rises new_rises =
      let back = tied_back total e.0 n.0 tied in
      let absent = absent_entry n old (alike_all n.0 (keys_of old) e.0 back (first_below e old old_rises)) in
      let rest = same_puts e old new (alike_all e.0 (keys_of new) n.0 tied (first_below n new new_rises)) in
      ap₂ (λ o b. cond (not ((is_eq o && same e.1 n.1) || b)) (n ∷ to_put cmp same (e ∷ old) new)
      (to_put cmp same (e ∷ old) new)) back absent
      ∙ ap₂ (λ b l. cond (not b) (n ∷ l) l) (or_false (same e.1 n.1)) rest

-- What was found so far, and what is left to be walked through.
pub record IsWalked {K X : Type 0} (cmp : K → K → Ordering) (same : X → X → Bool)
    (old new old_left new_left puts : List (K × X)) (deletes : List K) : Type 0 where
  pub old_rises : KeysRise cmp old_left
  pub new_rises : KeysRise cmp new_left
  pub puts_are : to_put cmp same old new ≡ puts ++ to_put cmp same old_left new_left
  pub deletes_are : to_delete cmp old new ≡ deletes ++ to_delete cmp old_left new_left

module _ {K X : Type 0} {cmp : K → K → Ordering} (total : IsTotalOrder cmp) (same : X → X → Bool)
    (old new : List (K × X)) where
  pub walk_deletes : (e : K × X) (more old_left new_left puts : List (K × X)) (deletes : List K) → old_left ≡ e ∷ more
      → first_cmp cmp old_left new_left ≡ Less
      → IsWalked cmp same old new old_left new_left puts deletes
      → IsWalked cmp same old new more new_left puts (deletes ++ e.0 ∷ [])
  walk_deletes e more old_left new_left puts deletes is less walked =
      step (subst (λ l. first_cmp cmp l new_left ≡ Less) is less)
      (subst (λ l. IsWalked cmp same old new l new_left puts deletes) is walked)
    where
      step : first_cmp cmp (e ∷ more) new_left ≡ Less → IsWalked cmp same old new (e ∷ more) new_left puts deletes
          → IsWalked cmp same old new more new_left puts (deletes ++ e.0 ∷ [])
      step first w =
          let below = old_first total same e more new_left first w.new_rises in
          record {
            old_rises = rest_rises total same e more w.old_rises;
            new_rises = w.new_rises;
            puts_are = w.puts_are ∙ ap (λ l. puts ++ l) (same_puts total same e more new_left below);
            deletes_are = w.deletes_are ∙ ap (λ l. deletes ++ l) (deleted total same e more new_left below)
                ∙ sym (append_assoc deletes (e.0 ∷ []) (to_delete cmp more new_left));
          }

  pub walk_puts : (n : K × X) (more old_left new_left puts : List (K × X)) (deletes : List K) → new_left ≡ n ∷ more
      → first_cmp cmp old_left new_left ≡ Greater
      → IsWalked cmp same old new old_left new_left puts deletes
      → IsWalked cmp same old new old_left more (puts ++ n ∷ []) deletes
  walk_puts n more old_left new_left puts deletes is greater walked =
      step (subst (λ l. first_cmp cmp old_left l ≡ Greater) is greater)
      (subst (λ l. IsWalked cmp same old new old_left l puts deletes) is walked)
    where
      step : first_cmp cmp old_left (n ∷ more) ≡ Greater → IsWalked cmp same old new old_left (n ∷ more) puts deletes
          → IsWalked cmp same old new old_left more (puts ++ n ∷ []) deletes
      step first w =
          let below = new_first total same n more old_left first w.old_rises in
          record {
            old_rises = w.old_rises;
            new_rises = rest_rises total same n more w.new_rises;
            puts_are = w.puts_are ∙ ap (λ l. puts ++ l) (added total same n more old_left below)
                ∙ sym (append_assoc puts (n ∷ []) (to_put cmp same old_left more));
            deletes_are = w.deletes_are ∙ ap (λ l. deletes ++ l) (same_deletes total same n old_left more below);
          }

  -- both tables have the key
  module _ (e n : K × X) (old_more new_more old_left new_left puts : List (K × X)) (deletes : List K)
      (old_is : old_left ≡ e ∷ old_more) (new_is : new_left ≡ n ∷ new_more)
      (tied : first_cmp cmp old_left new_left ≡ Equal)
      (walked : IsWalked cmp same old new old_left new_left puts deletes) where
    split : IsWalked cmp same old new (e ∷ old_more) (n ∷ new_more) puts deletes
    split = subst (λ l. IsWalked cmp same old new l (n ∷ new_more) puts deletes) old_is
        (subst (λ l. IsWalked cmp same old new old_left l puts deletes) new_is walked)

    heads : cmp e.0 n.0 ≡ Equal
    heads = subst (λ l. first_cmp cmp l (n ∷ new_more) ≡ Equal) old_is
        (subst (λ l. first_cmp cmp old_left l ≡ Equal) new_is tied)

    found : to_put cmp same old new ≡ puts
        ++ cond (not (same e.1 n.1)) (n ∷ to_put cmp same old_more new_more) (to_put cmp same old_more new_more)
    found = split.puts_are
        ∙ ap (λ l. puts ++ l) (both_puts total same e n old_more new_more heads split.old_rises split.new_rises)

    kept : to_delete cmp old new ≡ deletes ++ to_delete cmp old_more new_more
    kept = split.deletes_are
        ∙ ap (λ l. deletes ++ l) (both_deletes total same e n old_more new_more heads split.old_rises)

    pub walk_passes : same e.1 n.1 ≡ true → IsWalked cmp same old new old_more new_more puts deletes
    walk_passes alike = record {
      old_rises = rest_rises total same e old_more split.old_rises;
      new_rises = rest_rises total same n new_more split.new_rises;
      puts_are = found ∙ ap
          (λ b. puts ++ cond (not b) (n ∷ to_put cmp same old_more new_more) (to_put cmp same old_more new_more)) alike;
      deletes_are = kept;
    }

    pub walk_changes : same e.1 n.1 ≡ false → IsWalked cmp same old new old_more new_more (puts ++ n ∷ []) deletes
    walk_changes unlike = record {
      old_rises = rest_rises total same e old_more split.old_rises;
      new_rises = rest_rises total same n new_more split.new_rises;
      puts_are = found ∙ ap
          (λ b. puts ++ cond (not b) (n ∷ to_put cmp same old_more new_more) (to_put cmp same old_more new_more))
          unlike ∙ sym (append_assoc puts (n ∷ []) (to_put cmp same old_more new_more));
      deletes_are = kept;
    }

-- the first of a list that is not empty, and the rest as a slice has it
split_first : {P E : Type 0} (f : P → E) (l : List P) (d : P) → 0 < length l
    → map f l ≡ f (get_or l 0 d) ∷ map f (take (length l - 1) (drop 1 l))
split_first f [] d some = absurd (omega arith)
split_first f (x ∷ l) d some = ap (λ r. f x ∷ map f r) (sym (take_all (length (x ∷ l) - 1) l (omega arith)))

one_first : {P : Type 0} (l : List P) (d e : P) → 0 < length l → get_or l 0 d ≡ get_or l 0 e
one_first [] d e some = absurd (omega arith)
one_first (x ∷ l) d e some = refl

-- the steps over the values that references point to
module _ {K X : Type 0} {cmp : K → K → Ordering} (total : IsTotalOrder cmp) (same : X → X → Bool)
    (old new : List (K × X)) (old_left new_left puts more : List (Bor K × Bor X)) (deletes fewer : List (Bor K))
    (x : Bor K × Bor X) where
  abbrev pub Walked : List (Bor K × Bor X) → List (Bor K × Bor X) → List (Bor K × Bor X) → List (Bor K) → Type 0
  Walked o n p d = IsWalked cmp same old new (map deref_pair o) (map deref_pair n) (map deref_pair p)
      (map (λ key. key.now) d)

  pub refs_delete : 0 < length old_left → Less ≡ first_cmp cmp (map deref_pair old_left) (map deref_pair new_left)
      → fewer ≡ deletes ++ (get_or old_left 0 x).0 ∷ [] → Walked old_left new_left puts deletes
      → Walked (take (length old_left - 1) (drop 1 old_left)) new_left puts fewer
  refs_delete some less is walked =
      subst (λ d. IsWalked cmp same old new (map deref_pair (take (length old_left - 1) (drop 1 old_left)))
      (map deref_pair new_left) (map deref_pair puts) d)
      (sym (ap (map (λ key. key.now)) is
      ∙ map-append (λ (key : Bor K). key.now) deletes ((get_or old_left 0 x).0 ∷ [])))
      (walk_deletes total same old new (deref_pair (get_or old_left 0 x)) _ _ _ _ _
      (split_first deref_pair old_left x some) (sym less) walked)

  pub refs_put : 0 < length new_left → Greater ≡ first_cmp cmp (map deref_pair old_left) (map deref_pair new_left)
      → x ≡ get_or new_left 0 x → more ≡ puts ++ x ∷ [] → Walked old_left new_left puts deletes
      → Walked old_left (take (length new_left - 1) (drop 1 new_left)) more deletes
  refs_put some greater first is walked =
      subst (λ p. IsWalked cmp same old new (map deref_pair old_left)
      (map deref_pair (take (length new_left - 1) (drop 1 new_left))) p (map (λ key. key.now) deletes))
      (sym (ap (map deref_pair) (is ∙ ap (λ z. puts ++ z ∷ []) first)
      ∙ map-append deref_pair puts (get_or new_left 0 x ∷ [])))
      (walk_puts total same old new (deref_pair (get_or new_left 0 x)) _ _ _ _ _
      (split_first deref_pair new_left x some) (sym greater) walked)

  module _ (y : Bor K × Bor X) (old_some : 0 < length old_left) (new_some : 0 < length new_left)
      (tied : Equal ≡ first_cmp cmp (map deref_pair old_left) (map deref_pair new_left))
      (walked : Walked old_left new_left puts deletes) where
    pub refs_pass : not (same (get_or old_left 0 x).1.now (get_or new_left 0 y).1.now) ≡ false → more ≡ puts
        → Walked (take (length old_left - 1) (drop 1 old_left))
        (take (length new_left - 1) (drop 1 new_left)) more deletes
    refs_pass alike is =
        subst (λ p. IsWalked cmp same old new (map deref_pair (take (length old_left - 1) (drop 1 old_left)))
        (map deref_pair (take (length new_left - 1) (drop 1 new_left))) p (map (λ key. key.now) deletes))
        (sym (ap (map deref_pair) is))
        (walk_passes total same old new _ _ _ _ _ _ _ _ (split_first deref_pair old_left x old_some)
        (split_first deref_pair new_left y new_some) (sym tied) walked (not-false _ alike))

    pub refs_change : not (same (get_or old_left 0 x).1.now (get_or new_left 0 y).1.now) ≡ true → (z : Bor K × Bor X)
        → z ≡ get_or new_left 0 z → more ≡ puts ++ z ∷ []
        → Walked (take (length old_left - 1) (drop 1 old_left))
        (take (length new_left - 1) (drop 1 new_left)) more deletes
    refs_change unlike z first is =
        subst (λ p. IsWalked cmp same old new (map deref_pair (take (length old_left - 1) (drop 1 old_left)))
        (map deref_pair (take (length new_left - 1) (drop 1 new_left))) p (map (λ key. key.now) deletes))
        (sym (ap (map deref_pair) (is ∙ ap (λ r. puts ++ r ∷ []) (first ∙ one_first new_left z y new_some))
        ∙ map-append deref_pair puts (get_or new_left 0 y ∷ [])))
        (walk_changes total same old new _ _ _ _ _ _ _ _ (split_first deref_pair old_left x old_some)
        (split_first deref_pair new_left y new_some) (sym tied) walked (not-true _ unlike))
