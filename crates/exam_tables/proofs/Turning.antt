-- What differs turns the old table into the new one.
use Rattle.exam_tables.proofs.Words.{IsTotalOrder, AllByRecursion, filter, IsPermutation, IsStrictlySortedBy, keys_of}
use Rattle.exam_tables.proofs.Words.{is_eq, IsPermutation-refl, IsPermutation-cons, IsPermutation-trans, KeysRise}
use Rattle.exam_tables.proofs.Words.{has_key, is_one_of, Turns}
use Rattle.std.proofs.Common.{◌≡◌, ◌||◌, Bool, true, false, not, cond, List, [], ◌∷◌, ◌++◌, Ordering, Less, Equal}
use Rattle.std.proofs.Common.{Greater, refl, sym, ap, ap₂, subst, subst₂}
use Rattle.std.specs.Cmp.{tied_back, tied_itself}
use Rattle.std.proofs.lemmas.List.Sorted.{IsPermutation-middle}
use Rattle.exam_tables.specs.Differences.{first_cmp, to_put, to_delete, Differs, AreExact}
use Rattle.exam_tables.proofs.Differing.{filter_alike, flipped, alike_all, absent_key, old_first, new_first, rest_rises}
use Rattle.exam_tables.proofs.Differing.{first_below, deleted, added, same_puts, same_deletes, both_deletes, both_puts}

module _ {K X : Type 0} {cmp : K → K → Ordering} (total : IsTotalOrder cmp) (same : X → X → Bool) where
  abbrev Below : K → List K → Type 0
  Below k keys = AllByRecursion (λ y. cmp k y ≡ Less) keys

  -- no entry that is put or deleted
  abbrev stays : List (K × X) → List K → K × X → Bool
  stays puts deletes e = not (has_key cmp puts e.0 || is_one_of cmp deletes e.0)

  -- a key before all of these is none of them
  absent : (k : K) (keys : List K) → Below k keys → is_one_of cmp keys k ≡ false
  absent k [] below = refl
  absent k (j ∷ keys) below = ap₂ (λ o b. is_eq o || b) below.0 (absent k keys below.1)

  below_kept : (k : K) (p : K × X → Bool) (rows : List (K × X)) → Below k (keys_of rows)
      → Below k (keys_of (filter p rows))
  below_kept k p [] below = tt
  below_kept k p (r ∷ rows) below = inner (p r) (below_kept k p rows below.1)
    where
      inner : (b : Bool) → Below k (keys_of (filter p rows))
          → Below k (keys_of (cond b (r ∷ filter p rows) (filter p rows)))
      inner true later = (below.0, later)
      inner false later = later

  below_keys : (k : K) (p : K → Bool) (keys : List K) → Below k keys → Below k (filter p keys)
  below_keys k p [] below = tt
  below_keys k p (j ∷ keys) below = inner (p j) (below_keys k p keys below.1)
    where
      inner : (b : Bool) → Below k (filter p keys) → Below k (cond b (j ∷ filter p keys) (filter p keys))
      inner true later = (below.0, later)
      inner false later = later

  -- a table that was walked past an entry which is deleted
  turns_delete : (e : K × X) (old new puts : List (K × X)) (deletes : List K) → Below e.0 (keys_of old)
      → Below e.0 (keys_of puts) → Turns cmp old new puts deletes → Turns cmp (e ∷ old) new puts (e.0 ∷ deletes)
  turns_delete e old new puts deletes above_old above_puts turns = record {
    rises = turns.rises;
    spared = spare puts above_puts turns.spared;
    made = subst (λ l. IsPermutation (puts ++ l) new)
        (sym (ap₂ (λ b l. cond (not b) (e ∷ l) l) gone (filter_alike _ _ old (each old above_old)))) turns.made;
  }
    where
      gone : (has_key cmp puts e.0 || (is_eq (cmp e.0 e.0) || is_one_of cmp deletes e.0)) ≡ true
      gone = ap₂ (λ b o. b || (is_eq o || is_one_of cmp deletes e.0)) (absent_key cmp e.0 puts above_puts)
          (tied_itself total e.0)

      spare : (rows : List (K × X)) → Below e.0 (keys_of rows)
          → AllByRecursion (λ n. is_one_of cmp deletes n.0 ≡ false) rows
          → AllByRecursion (λ n. is_one_of cmp (e.0 ∷ deletes) n.0 ≡ false) rows
      spare [] above h = tt
      spare (n ∷ rows) above h =
          (ap₂ (λ o b. is_eq o || b) (flipped total same e.0 n.0 above.0) h.0, spare rows above.1 h.1)

      each : (rows : List (K × X)) → Below e.0 (keys_of rows)
          → AllByRecursion (λ x. stays puts (e.0 ∷ deletes) x ≡ stays puts deletes x) rows
      each [] above = tt
      each (x ∷ rows) above = (
        ap (λ o. not (has_key cmp puts x.0 || (is_eq o || is_one_of cmp deletes x.0)))
            (flipped total same e.0 x.0 above.0),
        each rows above.1,
      )

  -- with one more entry that is put
  others_stay : (n : K × X) (puts : List (K × X)) (deletes : List K) (rows : List (K × X)) → Below n.0 (keys_of rows)
      → filter (stays (n ∷ puts) deletes) rows ≡ filter (stays puts deletes) rows
  others_stay n puts deletes rows above = filter_alike _ _ rows (each rows above)
    where
      each : (rows : List (K × X)) → Below n.0 (keys_of rows)
          → AllByRecursion (λ x. stays (n ∷ puts) deletes x ≡ stays puts deletes x) rows
      each [] above = tt
      each (x ∷ rows) above = (
        ap (λ o. not ((is_eq o || has_key cmp puts x.0) || is_one_of cmp deletes x.0))
            (flipped total same n.0 x.0 above.0),
        each rows above.1,
      )

  rises_more : (n : K × X) (puts : List (K × X)) → Below n.0 (keys_of puts) → KeysRise cmp puts
      → KeysRise cmp (n ∷ puts)
  unfolding IsStrictlySortedBy
  rises_more n puts above rises = (above, rises)

  turns_put : (n : K × X) (old new puts : List (K × X)) (deletes : List K) → Below n.0 (keys_of old)
      → Below n.0 (keys_of puts) → Below n.0 deletes → Turns cmp old new puts deletes
      → Turns cmp old (n ∷ new) (n ∷ puts) deletes
  turns_put n old new puts deletes above_old above_puts above_deletes turns = record {
    rises = rises_more n puts above_puts turns.rises;
    spared = (absent n.0 deletes above_deletes, turns.spared);
    made = subst (λ l. IsPermutation (n ∷ (puts ++ l)) (n ∷ new)) (sym (others_stay n puts deletes old above_old))
        (IsPermutation-cons n _ _ turns.made);
  }

  -- with an entry that is put in place of one with its key
  turns_replace : (e n : K × X) (old new puts : List (K × X)) (deletes : List K) → cmp e.0 n.0 ≡ Equal
      → Below n.0 (keys_of old) → Below n.0 (keys_of puts) → Below n.0 deletes
      → Turns cmp old new puts deletes → Turns cmp (e ∷ old) (n ∷ new) (n ∷ puts) deletes
  turns_replace e n old new puts deletes tied above_old above_puts above_deletes turns =
      let more = turns_put n old new puts deletes above_old above_puts above_deletes turns in
      record {
        rises = more.rises;
        spared = more.spared;
        made = subst (λ o. IsPermutation
            (n ∷ (puts ++ cond (not ((is_eq o || has_key cmp puts e.0) || is_one_of cmp deletes e.0))
            (e ∷ filter (stays (n ∷ puts) deletes) old) (filter (stays (n ∷ puts) deletes) old))) (n ∷ new))
            (sym tied) more.made;
      }

  -- with one that both tables have
  turns_keep : (e : K × X) (old new puts : List (K × X)) (deletes : List K) → Below e.0 (keys_of puts)
      → Below e.0 deletes → Turns cmp old new puts deletes → Turns cmp (e ∷ old) (e ∷ new) puts deletes
  turns_keep e old new puts deletes above_puts above_deletes turns = record {
    rises = turns.rises;
    spared = turns.spared;
    made =
        subst (λ b. IsPermutation
        (puts ++ cond (not b) (e ∷ filter (stays puts deletes) old) (filter (stays puts deletes) old)) (e ∷ new))
        (sym (ap₂ ◌||◌ (absent_key cmp e.0 puts above_puts) (absent e.0 deletes above_deletes)))
        (IsPermutation-trans _ _ _ (IsPermutation-middle puts e (filter (stays puts deletes) old))
        (IsPermutation-cons e _ _ turns.made));
  }

  abbrev Found : List (K × X) → List (K × X) → Type 0
  Found old new = Turns cmp old new (to_put cmp same old new) (to_delete cmp old new)

  step_less : (e : K × X) (old new : List (K × X)) → first_cmp cmp (e ∷ old) new ≡ Less → KeysRise cmp (e ∷ old)
      → KeysRise cmp new → Found old new → Found (e ∷ old) new
  step_less e old new first old_rises new_rises found =
      let below = old_first total same e old new first new_rises in
      subst₂ (Turns cmp (e ∷ old) new) (sym (same_puts total same e old new below))
      (sym (deleted total same e old new below))
      (turns_delete e old new _ _ (first_below total same e old old_rises) (below_kept e.0 _ new below) found)

  step_greater : (n : K × X) (old new : List (K × X)) → first_cmp cmp old (n ∷ new) ≡ Greater → KeysRise cmp old
      → KeysRise cmp (n ∷ new) → Found old new → Found old (n ∷ new)
  step_greater n old new first old_rises new_rises found =
      let below = new_first total same n new old first old_rises in
      subst₂ (Turns cmp old (n ∷ new)) (sym (added total same n new old below))
      (sym (same_deletes total same n old new below))
      (turns_put n old new _ _ below (below_kept n.0 _ new (first_below total same n new new_rises))
      (below_keys n.0 _ (keys_of old) below) found)

  step_equal : (e n : K × X) (old new : List (K × X)) → AreExact cmp same → cmp e.0 n.0 ≡ Equal
      → KeysRise cmp (e ∷ old) → KeysRise cmp (n ∷ new) → Found old new → Found (e ∷ old) (n ∷ new)
  step_equal e n old new exact tied old_rises new_rises found =
      subst₂ (Turns cmp (e ∷ old) (n ∷ new)) (sym (both_puts total same e n old new tied old_rises new_rises))
      (sym (both_deletes total same e n old new tied old_rises)) (inner (same e.1 n.1) refl)
    where
      old_above : Below n.0 (keys_of old)
      old_above = alike_all total same n.0 (keys_of old) e.0 (tied_back total e.0 n.0 tied)
          (first_below total same e old old_rises)

      inner : (b : Bool) → same e.1 n.1 ≡ b
          → Turns cmp (e ∷ old) (n ∷ new) (cond (not b) (n ∷ to_put cmp same old new) (to_put cmp same old new))
          (to_delete cmp old new)
      inner false unlike =
          turns_replace e n old new _ _ tied old_above (below_kept n.0 _ new (first_below total same n new new_rises))
          (below_keys n.0 _ (keys_of old) old_above) found
      inner true alike =
          let is : e ≡ n = ap₂ (λ k v. (k, v)) (exact.keys e.0 n.0 tied) (exact.values e.1 n.1 alike) in
          let above = alike_all total same e.0 (keys_of new) n.0 tied (first_below total same n new new_rises) in
          subst (λ m. Turns cmp (e ∷ old) (m ∷ new) (to_put cmp same old new) (to_delete cmp old new)) is
          (turns_keep e old new _ _ (below_kept e.0 _ new above)
          (below_keys e.0 _ (keys_of old) (first_below total same e old old_rises)) found)

  over_new : AreExact cmp same → (e : K × X) (old : List (K × X)) → KeysRise cmp (e ∷ old)
      → ((new : List (K × X)) → KeysRise cmp new → Found old new) → (new : List (K × X)) → KeysRise cmp new
      → Found (e ∷ old) new
  over_new exact e old old_rises found [] new_rises = step_less e old [] refl old_rises new_rises (found [] new_rises)
  over_new exact e old old_rises found (n ∷ new) new_rises =
      inner (cmp e.0 n.0) refl (over_new exact e old old_rises found new (rest_rises total same n new new_rises))
    where
      inner : (o : Ordering) → cmp e.0 n.0 ≡ o → Found (e ∷ old) new → Found (e ∷ old) (n ∷ new)
      inner Less first later = step_less e old (n ∷ new) first old_rises new_rises (found (n ∷ new) new_rises)
      inner Greater first later = step_greater n (e ∷ old) new first old_rises new_rises later
      inner Equal tied later =
          step_equal e n old new exact tied old_rises new_rises (found new (rest_rises total same n new new_rises))

  nothing_rises : KeysRise {X = X} cmp []
  unfolding IsStrictlySortedBy
  nothing_rises = tt

  from_nothing : (new : List (K × X)) → KeysRise cmp new → Found [] new
  from_nothing [] new_rises = record { rises = nothing_rises; spared = tt; made = IsPermutation-refl [] }
  from_nothing (n ∷ new) new_rises =
      step_greater n [] new refl nothing_rises new_rises (from_nothing new (rest_rises total same n new new_rises))

  found_turns : AreExact cmp same → (old new : List (K × X)) → KeysRise cmp old → KeysRise cmp new → Found old new
  found_turns exact [] new old_rises new_rises = from_nothing new new_rises
  found_turns exact (e ∷ old) new old_rises new_rises =
      over_new exact e old old_rises
      (λ later. found_turns exact old later (rest_rises total same e old old_rises)) new new_rises

  -- what differs turns the old table into the new one
  pub differs_turns : AreExact cmp same → (old new puts : List (K × X)) (deletes : List K) → KeysRise cmp old
      → KeysRise cmp new → Differs cmp same old new puts deletes → Turns cmp old new puts deletes
  differs_turns exact old new puts deletes old_rises new_rises differs =
      subst₂ (Turns cmp old new) (sym differs.puts_are) (sym differs.deletes_are)
      (found_turns exact old new old_rises new_rises)
