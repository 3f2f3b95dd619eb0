-- What turns a part of a table into another turns the whole table too, where the rest of it stays.
use Rattle.std.proofs.Common.{map, Ok, Err, Result, IfOk, OnOk, ◌≡◌, ℕ, ◌||◌, Bool, true, false, not, cond, List, []}
use Rattle.std.proofs.Common.{◌∷◌, ◌++◌, Option, None, Some, Ordering, refl, sym, ap, ap₂, subst, subst₂, ◌∙◌}
use Rattle.std.proofs.Common.{append_assoc, arith}
use Rattle.std.specs.Prelude.{is_some}
use Rattle.std.specs.Cmp.{Equal-is, IsTotalOrder}
use Rattle.std.specs.List.{filter, list_any}
use Rattle.std.specs.List.Sorted.{IsPermutation, IsStrictlySortedBy}
use Rattle.std.specs.Map.{keys_of}
use Rattle.std.specs.Map.Iter.{deref_pair}
use Rattle.std.specs.BTreeMap.{is_at}
use Rattle.std.specs.Ordering.{is_eq}
use Rattle.std.proofs.lemmas.Bool.{or_parts}
use Rattle.std.proofs.lemmas.List.Elements.{filter-append}
use Rattle.std.proofs.lemmas.List.Kept.{IsStrictlySortedBy-filter}
use Rattle.std.proofs.lemmas.List.Sorted.{IsPermutation-sym, IsPermutation-trans, IsPermutation-append_left}
use Rattle.std.proofs.lemmas.List.Sorted.{IsPermutation-append_right, IsPermutation-filter_both}
use Rattle.std.proofs.lemmas.Map.Entries.{lookup-filter-keys}
use Rattle.std.proofs.lemmas.Map.Lookups.{CmpEqualImpliesEq}
use Rattle.sqlite_trees.proofs.ListLemmas.{IsPermutation-filter}
use Rattle.exam_rules.specs.Orders.{KeysRise}
use Rattle.exam_rules.specs.Relations.{Code, has_row, row_at, seat_cmp}
use Rattle.exam_commands.proofs.KeyedRows.{same_rows, seats_exact, seats_total}
use Rattle.exam_commands.specs.State.{Seats}
use Rattle.exam_changes.specs.TablesBefore.{AreOf}
use Rattle.exam_tables.specs.declared.differences.Difference.{Difference}
use Rattle.exam_tables.specs.Differences.{has_key, is_one_of, Differs, Turns}
use Rattle.exam_tables.proofs.RowTurning.{stays}
use Rattle.exam_store.specs.Saves.{TurnsTable}

-- what no element passes none of those that are left passes
none_left : {A : Type 0} (q p : A → Bool) (xs : List A) → list_any q xs ≡ false → list_any q (filter p xs) ≡ false
none_left q p [] none = refl
none_left q p (x ∷ xs) none = let parts =
    or_parts (q x) (list_any q xs) none in inner (p x) parts.0 (none_left q p xs parts.1)
  where
    inner : (b : Bool) → q x ≡ false → list_any q (filter p xs) ≡ false
        → list_any q (cond b (x ∷ filter p xs) (filter p xs)) ≡ false
    inner true here rest = ap (λ c. c || list_any q (filter p xs)) here ∙ rest
    inner false here rest = rest

filtered_keys : {K X : Type 0} (p : K → Bool) (rows : List (K × X))
    → filter p (keys_of rows) ≡ keys_of (filter (λ e. p e.0) rows)
filtered_keys p [] = refl
filtered_keys p (e ∷ rows) = inner (p e.0) (filtered_keys p rows)
  where
    inner : (b : Bool) → filter p (keys_of rows) ≡ keys_of (filter (λ e. p e.0) rows)
        → cond b (e.0 ∷ filter p (keys_of rows)) (filter p (keys_of rows))
        ≡ keys_of (cond b (e ∷ filter (λ e. p e.0) rows) (filter (λ e. p e.0) rows))
    inner true rest = ap (λ l. e.0 ∷ l) rest
    inner false rest = rest

absent : {X : Type 0} (o : Option X) → is_some o ≡ false → o ≡ None
absent o is = grind arith

module _ {K X : Type 0} {cmp : K → K → Ordering} (total : IsTotalOrder cmp) (exact : CmpEqualImpliesEq cmp) where
  pub key_is_row : (rows : List (K × X)) (k : K) → has_key cmp rows k ≡ has_row cmp rows k
  key_is_row [] k = refl
  key_is_row (e ∷ rows) k = inner (is_eq (cmp k e.0)) (key_is_row rows k)
    where
      inner : (b : Bool) → has_key cmp rows k ≡ has_row cmp rows k
          → (b || has_key cmp rows k) ≡ is_some (cond b (Some e.1) (row_at cmp rows k))
      inner true rest = refl
      inner false rest = rest

  key_is_one : (rows : List (K × X)) (k : K) → is_one_of cmp (keys_of rows) k ≡ has_key cmp rows k
  key_is_one [] k = refl
  key_is_one (e ∷ rows) k = ap (λ b. is_eq (cmp k e.0) || b) (key_is_one rows k)

  pub rises_left : (p : K → Bool) (rows : List (K × X)) → KeysRise cmp rows → KeysRise cmp (filter (λ e. p e.0) rows)
  rises_left p rows up =
      subst (IsStrictlySortedBy cmp) (filtered_keys p rows) (IsStrictlySortedBy-filter cmp p (keys_of rows) up)

  pub row_left : (p : K → Bool) (rows : List (K × X)) (k : K)
      → row_at cmp (filter (λ e. p e.0) rows) k ≡ cond (p k) (row_at cmp rows k) None
  row_left p rows k = lookup-filter-keys (is_at (cmp k)) p (p k)
      (λ j at. ap p (sym (exact k j ((Equal-is (cmp k j)).0 at)))) rows

  module _ (old new before after : List (K × X)) (old_rises : KeysRise cmp old) (new_rises : KeysRise cmp new)
      (before_rises : KeysRise cmp before) (after_rises : KeysRise cmp after)
      (was : (k : K) → (has_row cmp old k || has_row cmp new k) ≡ true → row_at cmp before k ≡ row_at cmp old k)
      (is_now : (k : K) → (has_row cmp old k || has_row cmp new k) ≡ true → row_at cmp after k ≡ row_at cmp new k)
      (others : (k : K) → (has_row cmp old k || has_row cmp new k) ≡ false → row_at cmp after k ≡ row_at cmp before k)
    where
      abbrev inside : K → Bool
      inside k = has_row cmp old k || has_row cmp new k

      abbrev outside : List (K × X) → List (K × X)
      outside rows = filter (λ e. not (inside e.0)) rows

      -- the rows inside are the part
      part_is : (rows part : List (K × X)) → KeysRise cmp rows → KeysRise cmp part
          → ((k : K) → inside k ≡ true → row_at cmp rows k ≡ row_at cmp part k)
          → ((k : K) → inside k ≡ false → row_at cmp part k ≡ None)
          → filter (λ e. inside e.0) rows ≡ part
      part_is rows part rises part_rises same none =
          same_rows cmp total exact _ part (rises_left inside rows rises) part_rises
          (λ k. row_left inside rows k ∙ at k (inside k) refl)
        where
          at : (k : K) (b : Bool) → inside k ≡ b → cond b (row_at cmp rows k) None ≡ row_at cmp part k
          at k true is = same k is
          at k false is = sym (none k is)

      before_inside : filter (λ e. inside e.0) before ≡ old
      before_inside = part_is before old before_rises old_rises was
          (λ k is. absent (row_at cmp old k) (or_parts (has_row cmp old k) (has_row cmp new k) is).0)

      after_inside : filter (λ e. inside e.0) after ≡ new
      after_inside = part_is after new after_rises new_rises is_now
          (λ k is. absent (row_at cmp new k) (or_parts (has_row cmp old k) (has_row cmp new k) is).1)

      same_outside : outside before ≡ outside after
      same_outside = same_rows cmp total exact _ _ (rises_left (λ k. not (inside k)) before before_rises)
          (rises_left (λ k. not (inside k)) after after_rises)
          (λ k. row_left (λ j. not (inside j)) before k ∙ at k (inside k) refl
          ∙ sym (row_left (λ j. not (inside j)) after k))
        where
          at : (k : K) (b : Bool) → inside k ≡ b
              → cond (not b) (row_at cmp before k) None ≡ cond (not b) (row_at cmp after k) None
          at k true is = refl
          at k false is = sym (others k is)

      module _ (same : X → X → Bool) (puts : List (K × X)) (deletes : List K)
          (differs : Differs cmp same old new puts deletes) where
        -- outside nothing is put, and nothing deleted
        stays_outside : (k : K) → inside k ≡ false → (has_key cmp puts k || is_one_of cmp deletes k) ≡ false
        stays_outside k is =
            let parts = or_parts (has_row cmp old k) (has_row cmp new k) is in
            let not_put : has_key cmp puts k ≡ false =
            ap (λ l. has_key cmp l k) differs.puts_are
            ∙ none_left (λ e. is_eq (cmp k e.0)) _ new (key_is_row new k ∙ parts.1) in
            let not_deleted : is_one_of cmp deletes k ≡ false =
            ap (λ l. is_one_of cmp l k) differs.deletes_are
            ∙ none_left (λ j. is_eq (cmp k j)) _ (keys_of old) (key_is_one old k ∙ key_is_row old k ∙ parts.0) in
            ap₂ ◌||◌ not_put not_deleted

        all_stay : (rows : List (K × X)) → filter (stays cmp puts deletes) (outside rows) ≡ outside rows
        all_stay [] = refl
        all_stay (e ∷ rows) = inner (inside e.0) refl (all_stay rows)
          where
            inner : (b : Bool) → inside e.0 ≡ b → filter (stays cmp puts deletes) (outside rows) ≡ outside rows
                → filter (stays cmp puts deletes) (cond (not b) (e ∷ outside rows) (outside rows))
                ≡ cond (not b) (e ∷ outside rows) (outside rows)
            inner true is rest = rest
            inner false is rest =
                ap (λ b. cond (not b) (e ∷ filter (stays cmp puts deletes) (outside rows))
                (filter (stays cmp puts deletes) (outside rows))) (stays_outside e.0 is)
                ∙ ap (λ l. e ∷ l) rest

        pub part_turns : Turns cmp old new puts deletes → Turns cmp before after puts deletes
        part_turns turns =
            let left = filter (stays cmp puts deletes) in
            let split : IsPermutation before (old ++ outside before) =
            subst (λ l. IsPermutation before (l ++ outside before)) before_inside
            (IsPermutation-filter_both (λ e. inside e.0) (λ e. not (inside e.0)) (λ _. refl) before) in
            let kept : IsPermutation (left before) (left old ++ outside before) =
            subst (IsPermutation (left before))
            (filter-append (stays cmp puts deletes) old (outside before) ∙ ap (λ l. left old ++ l) (all_stay before))
            (IsPermutation-filter (stays cmp puts deletes) before (old ++ outside before) split) in
            let joined : IsPermutation (puts ++ left before) ((puts ++ left old) ++ outside before) =
            subst (IsPermutation (puts ++ left before)) (sym (append_assoc puts (left old) (outside before)))
            (IsPermutation-append_right puts _ _ kept) in
            let whole : IsPermutation after (new ++ outside before) =
            subst₂ (λ l m. IsPermutation after (l ++ m)) after_inside (sym same_outside)
            (IsPermutation-filter_both (λ e. inside e.0) (λ e. not (inside e.0)) (λ _. refl) after) in
            record {
              rises = turns.rises;
              spared = turns.spared;
              made = IsPermutation-trans _ _ _ joined
                  (IsPermutation-trans _ _ _ (IsPermutation-append_left (outside before) _ _ turns.made)
                  (IsPermutation-sym _ _ whole));
            }

-- What turns the plans that a command may have changed into those after it turns all seats.
pub seats_turn : {E : Type 0} (same : Code → Code → Bool) (old new before after : Seats) → KeysRise seat_cmp before
    → KeysRise seat_cmp after → AreOf old new before after → (result : Result (Difference (Code × ℕ) Code) E)
    → IfOk result (λ d. Differs seat_cmp same old new (map deref_pair d.put.items) (map (λ k. k.now) d.delete.items))
    → IfOk result (TurnsTable seat_cmp old new) → OnOk result (KeysRise seat_cmp old × KeysRise seat_cmp new)
    → IfOk result (TurnsTable seat_cmp before after)
seats_turn same old new before after before_rises after_rises are (Ok d) differs turns rise =
    part_turns seats_total seats_exact old new before after rise.0 rise.1 before_rises after_rises are.told_before
    are.told_after are.others same
    (map deref_pair d.put.items) (map (λ k. k.now) d.delete.items) differs turns
seats_turn same old new before after before_rises after_rises are (Err e) differs turns rise = tt
