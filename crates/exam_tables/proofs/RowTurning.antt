-- No change leaves a table as it is, and one row that is put turns it into the table that has the row.
use Rattle.exam_tables.proofs.Words.{IsTotalOrder, AllByRecursion, filter, IsPermutation, IsStrictlySortedBy, keys_of}
use Rattle.exam_tables.proofs.Words.{is_eq, ordering_reverse, IsPermutation-refl, IsPermutation-sym, IsPermutation-cons}
use Rattle.exam_tables.proofs.Words.{IsPermutation-trans, KeysRise, has_key, is_one_of, Turns}
use Rattle.std.proofs.Common.{◌≡◌, ◌||◌, Bool, false, not, cond, List, [], ◌∷◌, None, Some, Ordering, Less, Equal}
use Rattle.std.proofs.Common.{Greater, refl, sym, ap, ap₂, subst, ◌∙◌}
use Rattle.std.proofs.lemmas.List.Sorted.{IsPermutation-middle}
use Rattle.std.proofs.lemmas.Map.Keys.{sorted_head, sorted_tail}
use Rattle.std.proofs.lemmas.Map.Lookups.{CmpEqualImpliesEq}
use Rattle.exam_rules.specs.Relations.{row_at, remove_row}

none_rise : {K : Type 0} (cmp : K → K → Ordering) → IsStrictlySortedBy cmp []
unfolding IsStrictlySortedBy
none_rise cmp = tt

module _ {K X : Type 0} (cmp : K → K → Ordering) where
  -- no entry that is put or deleted
  abbrev pub stays : List (K × X) → List K → K × X → Bool
  stays puts deletes e = not (has_key cmp puts e.0 || is_one_of cmp deletes e.0)

  every_stays : (rows : List (K × X)) → filter (stays [] []) rows ≡ rows
  every_stays [] = refl
  every_stays (e ∷ rows) = ap (λ l. e ∷ l) (every_stays rows)

  -- what is the same is turned into itself by nothing
  pub nothing_turns : (rows : List (K × X)) → Turns cmp rows rows [] []
  nothing_turns rows = record {
    rises = none_rise cmp;
    spared = tt;
    made = subst (λ l. IsPermutation l rows) (sym (every_stays rows)) (IsPermutation-refl rows);
  }

module _ {K X : Type 0} {cmp : K → K → Ordering} (total : IsTotalOrder cmp) (k : K) (x : X) where
  abbrev others : List (K × X) → List (K × X)
  others rows = filter (stays cmp ((k, x) ∷ []) []) rows

  abbrev next : K × X → Ordering → List (K × X) → List (K × X)
  next e o rows = cond (not ((is_eq o || false) || false)) (e ∷ rows) rows

  -- past an entry with the key all stay
  rest_stays : (e : K × X) (rows : List (K × X)) → cmp k e.0 ≡ Equal
      → AllByRecursion (λ y. cmp e.0 y ≡ Less) (keys_of rows) → others rows ≡ rows
  rest_stays e [] tied above = refl
  rest_stays e (f ∷ rows) tied above =
      let after : cmp f.0 k ≡ Greater =
      total.antisymm f.0 k ∙ ap ordering_reverse (total.congr k e.0 f.0 tied ∙ above.0) in
      ap (λ o. next f o (others rows)) after ∙ ap (λ l. f ∷ l) (rest_stays e rows tied above.1)

  -- what stays is the table without the row at the key
  others_are : (rows : List (K × X)) → KeysRise cmp rows → others rows ≡ remove_row cmp rows k
  others_are [] up = refl
  others_are (e ∷ rows) up = inner (cmp k e.0) refl (others_are rows (sorted_tail cmp e.0 (keys_of rows) up))
    where
      at : (o : Ordering) → cmp k e.0 ≡ o → others rows ≡ remove_row cmp rows k
          → next e (ordering_reverse o) (others rows) ≡ cond (is_eq o) rows (e ∷ remove_row cmp rows k)
      at Less is rest = ap (λ l. e ∷ l) rest
      at Equal is rest = rest_stays e rows is (sorted_head cmp e.0 (keys_of rows) up)
      at Greater is rest = ap (λ l. e ∷ l) rest

      inner : (o : Ordering) → cmp k e.0 ≡ o → others rows ≡ remove_row cmp rows k
          → next e (cmp e.0 k) (others rows) ≡ cond (is_eq o) rows (e ∷ remove_row cmp rows k)
      inner o is rest = ap (λ r. next e r (others rows)) (total.antisymm e.0 k ∙ ap ordering_reverse is) ∙ at o is rest

  -- the row at the key, and the table without it, are the table
  row_back : CmpEqualImpliesEq cmp → (rows : List (K × X)) → row_at cmp rows k ≡ Some x
      → IsPermutation ((k, x) ∷ remove_row cmp rows k) rows
  row_back exact [] at = absurd (let differ : None ≡ Some x = at in cc)
  row_back exact (e ∷ rows) at = inner (cmp k e.0) refl at (row_back exact rows)
    where
      later : (row_at cmp rows k ≡ Some x → IsPermutation ((k, x) ∷ remove_row cmp rows k) rows)
          → row_at cmp rows k ≡ Some x → IsPermutation ((k, x) ∷ e ∷ remove_row cmp rows k) (e ∷ rows)
      later rest at =
          IsPermutation-trans _ _ _
          (IsPermutation-sym _ _ (IsPermutation-middle (e ∷ []) (k, x) (remove_row cmp rows k)))
          (IsPermutation-cons e _ _ (rest at))

      inner : (o : Ordering) → cmp k e.0 ≡ o → cond (is_eq o) (Some e.1) (row_at cmp rows k) ≡ Some x
          → (row_at cmp rows k ≡ Some x → IsPermutation ((k, x) ∷ remove_row cmp rows k) rows)
          → IsPermutation ((k, x) ∷ cond (is_eq o) rows (e ∷ remove_row cmp rows k)) (e ∷ rows)
      inner Less is at rest = later rest at
      inner Greater is at rest = later rest at
      inner Equal is at rest =
          let value : e.1 ≡ x = cc in
          let one : e ≡ (k, x) = ap₂ (λ a b. (a, b)) (sym (exact k e.0 is)) value in
          subst (λ f. IsPermutation (f ∷ rows) (e ∷ rows)) one (IsPermutation-refl (e ∷ rows))

  one_rises : KeysRise cmp ((k, x) ∷ [])
  unfolding IsStrictlySortedBy
  one_rises = (tt, tt)

  -- a table that is the same but for the row at this key
  pub row_turns : CmpEqualImpliesEq cmp → (old new : List (K × X)) → KeysRise cmp old
      → remove_row cmp old k ≡ remove_row cmp new k → row_at cmp new k ≡ Some x → Turns cmp old new ((k, x) ∷ []) []
  row_turns exact old new up same at = record {
    rises = one_rises;
    spared = (refl, tt);
    made = subst (λ l. IsPermutation ((k, x) ∷ l) new) (sym (others_are old up ∙ same)) (row_back exact new at);
  }
