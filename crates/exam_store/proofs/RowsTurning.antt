-- The rows that a table has at some keys, put, turn it into itself from what it was at these keys.
use Rattle.std.proofs.Common.{◌≡◌, ◌||◌, Bool, true, false, not, cond, List, [], ◌∷◌, ◌++◌, Option, None, Some}
use Rattle.std.proofs.Common.{Ordering, arith, is_some, refl, sym, ap, subst, ◌∙◌, append_assoc}
use Rattle.std.specs.Cmp.{Equal-is, IsTotalOrder}
use Rattle.std.specs.List.{AllByRecursion, cons_option, filter}
use Rattle.std.specs.List.Sorted.{IsPermutation, IsStrictlySortedBy}
use Rattle.std.specs.Map.{keys_of}
use Rattle.std.specs.Option.{option_map}
use Rattle.std.specs.BTreeMap.{is_at}
use Rattle.std.proofs.lemmas.List.Sorted.{IsPermutation-sym, IsPermutation-filter_both}
use Rattle.std.proofs.lemmas.Map.Keys.{sorted_tail}
use Rattle.std.proofs.lemmas.Map.Lookups.{CmpEqualImpliesEq}
use Rattle.exam_rules.specs.Orders.{KeysRise}
use Rattle.exam_rules.specs.Relations.{has_row, row_at}
use Rattle.exam_commands.proofs.KeyedRows.{same_rows}
use Rattle.exam_commands.specs.Exchanges.{HasRows, put_back}
use Rattle.exam_changes.proofs.Exchanges.{has_first, has_later}
use Rattle.exam_changes.proofs.GoingBack.{or_row, put_back_at}
use Rattle.exam_tables.specs.Differences.{has_key, Turns}
use Rattle.exam_tables.proofs.RowTurning.{stays}
use Rattle.exam_store.proofs.PlansTurning.{key_is_row, rises_left, row_left}

-- none of these is among no keys
pub none_deleted : {E : Type 0} (rows : List E) → AllByRecursion (λ n. false ≡ false) rows
none_deleted [] = tt
none_deleted (e ∷ rows) = (refl, none_deleted rows)

-- the rows at the keys of others, of those that are there
abbrev pub rows_at : {K X Y : Type 0} → (K → K → Ordering) → List (K × X) → List (K × Y) → List (K × X)
rows_at cmp after [] = []
rows_at cmp after (e ∷ es) = cons_option (option_map (λ x. (e.0, x)) (row_at cmp after e.0)) (rows_at cmp after es)

module _ {K X Y : Type 0} (cmp : K → K → Ordering) (after : List (K × X)) where
  -- of the rows so far and those at the other keys, one more is so far
  pub more_put : (so_far : List (K × X)) (e : K × Y) (es : List (K × Y)) (x : X) → row_at cmp after e.0 ≡ Some x
      → (so_far ++ (e.0, x) ∷ []) ++ rows_at cmp after es ≡ so_far ++ rows_at cmp after (e ∷ es)
  more_put so_far e es x at =
      append_assoc so_far ((e.0, x) ∷ []) (rows_at cmp after es)
      ∙ ap (λ o. so_far ++ cons_option (option_map (λ v. (e.0, v)) o) (rows_at cmp after es)) (sym at)

  pub none_put : (so_far : List (K × X)) (e : K × Y) (es : List (K × Y)) → row_at cmp after e.0 ≡ None
      → so_far ++ rows_at cmp after es ≡ so_far ++ rows_at cmp after (e ∷ es)
  none_put so_far e es none =
      ap (λ o. so_far ++ cons_option (option_map (λ v. (e.0, v)) o) (rows_at cmp after es)) (sym none)

module _ {K X : Type 0} {cmp : K → K → Ordering} (total : IsTotalOrder cmp) (exact : CmpEqualImpliesEq cmp)
    (was : List (K × Option X)) (before after : List (K × X))
    (was_rises : KeysRise cmp was) (before_rises : KeysRise cmp before) (after_rises : KeysRise cmp after)
    (there : HasRows cmp was after) (back : before ≡ put_back cmp after was) where
  abbrev inside : K → Bool
  inside k = has_row cmp was k

  some_row : (o : Option X) → is_some o ≡ true → (x : X) × (o ≡ Some x)
  some_row None is = cc
  some_row (Some x) is = (x, refl)

  keys_are : (es : List (K × Option X)) → HasRows cmp es after → keys_of (rows_at cmp after es) ≡ keys_of es
  keys_are [] has = refl
  keys_are (e ∷ es) has =
      let here = some_row (row_at cmp after e.0) (has e.0 (has_first cmp total exact e es)) in
      ap (λ o. keys_of (cons_option (option_map (λ x. (e.0, x)) o) (rows_at cmp after es))) here.1
      ∙ ap (λ ks. e.0 ∷ ks) (keys_are es (λ k known. has k (has_later cmp total exact e es k known)))

  put_at : (es : List (K × Option X)) (q : K) → KeysRise cmp es → HasRows cmp es after
      → row_at cmp (rows_at cmp after es) q ≡ cond (has_row cmp es q) (row_at cmp after q) None
  put_at [] q up has = refl
  put_at (e ∷ es) q up has =
      let here = some_row (row_at cmp after e.0) (has e.0 (has_first cmp total exact e es)) in
      ap (λ o. row_at cmp (cons_option (option_map (λ x. (e.0, x)) o) (rows_at cmp after es)) q) here.1
      ∙ ap (λ o. cond (is_at (cmp q) e.0) (Some here.0) o)
      (put_at es q (sorted_tail cmp e.0 (keys_of es) up)
      (λ k known. has k (has_later cmp total exact e es k known)))
      ∙ inner (is_at (cmp q) e.0) refl here.0 here.1
    where
      inner : (b : Bool) → is_at (cmp q) e.0 ≡ b → (x : X) → row_at cmp after e.0 ≡ Some x
          → cond b (Some x) (cond (has_row cmp es q) (row_at cmp after q) None)
          ≡ cond (is_some (cond b (Some e.1) (row_at cmp es q))) (row_at cmp after q) None
      inner true at x is = sym (ap (row_at cmp after) (exact q e.0 ((Equal-is (cmp q e.0)).0 at)) ∙ is)
      inner false away x is = refl

  puts_rise : KeysRise cmp (rows_at cmp after was)
  puts_rise = subst (IsStrictlySortedBy cmp) (sym (keys_are was there)) was_rises

  puts_are : rows_at cmp after was ≡ filter (λ e. inside e.0) after
  puts_are =
      same_rows cmp total exact (rows_at cmp after was) (filter (λ e. inside e.0) after) puts_rise
      (rises_left total exact inside after after_rises)
      (λ q. put_at was q was_rises there ∙ sym (row_left total exact inside after q))

  is_put : (k : K) → has_key cmp (rows_at cmp after was) k ≡ inside k
  is_put k = key_is_row total exact (rows_at cmp after was) k ∙ ap is_some (put_at was k was_rises there)
      ∙ inner (inside k) refl
    where
      inner : (b : Bool) → inside k ≡ b → is_some (cond b (row_at cmp after k) None) ≡ b
      inner true known = there k known
      inner false unknown = refl

  left_are : (rows : List (K × X))
      → filter (stays cmp (rows_at cmp after was) []) rows ≡ filter (λ e. not (inside e.0)) rows
  left_are [] = refl
  left_are (e ∷ rows) =
      ap (λ b. cond (not (b || false)) (e ∷ filter (stays cmp (rows_at cmp after was) []) rows)
      (filter (stays cmp (rows_at cmp after was) []) rows)) (is_put e.0)
      ∙ inner (inside e.0) (left_are rows)
    where
      inner : (b : Bool) → filter (stays cmp (rows_at cmp after was) []) rows ≡ filter (λ e. not (inside e.0)) rows
          → cond (not (b || false)) (e ∷ filter (stays cmp (rows_at cmp after was) []) rows)
          (filter (stays cmp (rows_at cmp after was) []) rows)
          ≡ cond (not b) (e ∷ filter (λ e. not (inside e.0)) rows) (filter (λ e. not (inside e.0)) rows)
      inner true rest = rest
      inner false rest = ap (λ l. e ∷ l) rest

  same_outside : filter (λ e. not (inside e.0)) before ≡ filter (λ e. not (inside e.0)) after
  same_outside =
      same_rows cmp total exact _ _ (rises_left total exact (λ k. not (inside k)) before before_rises)
      (rises_left total exact (λ k. not (inside k)) after after_rises)
      (λ k. row_left total exact (λ j. not (inside j)) before k ∙ inner k (inside k) refl
      ∙ sym (row_left total exact (λ j. not (inside j)) after k))
    where
      no_row : (o : Option (Option X)) (x : Option X) → is_some o ≡ false → or_row o x ≡ x
      no_row o x away = grind arith

      inner : (k : K) (b : Bool) → inside k ≡ b
          → cond (not b) (row_at cmp before k) None ≡ cond (not b) (row_at cmp after k) None
      inner k true known = refl
      inner k false unknown =
          ap (λ (rows : List (K × X)). row_at cmp rows k) back
          ∙ put_back_at cmp total exact was after k was_rises after_rises
          ∙ no_row (row_at cmp was k) (row_at cmp after k) unknown

  pub rows_turn : Turns cmp before after (rows_at cmp after was) []
  rows_turn = record {
    rises = puts_rise;
    spared = none_deleted (rows_at cmp after was);
    made =
        subst (λ l. IsPermutation l after)
        (ap (λ l. l ++ filter (λ e. not (inside e.0)) after) (sym puts_are)
        ∙ ap (λ l. rows_at cmp after was ++ l) (sym (left_are before ∙ same_outside)))
        (IsPermutation-sym _ _ (IsPermutation-filter_both (λ e. inside e.0) (λ e. not (inside e.0)) (λ _. refl) after));
  }
