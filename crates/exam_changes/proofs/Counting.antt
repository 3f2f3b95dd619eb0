-- Counting the distinct rows of an import, row by row.
use Rattle.std.proofs.Common.{◌≡◌, ℕ, suc, ◌+◌, ◌<◌, ◌≤◌, ◌||◌, ◌&&◌, not, Bool, true, false, cond, List, [], ◌∷◌, ◌++◌}
use Rattle.std.proofs.Common.{length, filter, Option, None, is_none, nat_eq, get_or, take, drop, Some, eq-eqb, refl, ap}
use Rattle.std.proofs.Common.{sym, ◌∙◌, arith, add-one, drop-cons}
use Rattle.std.proofs.Math.ListN.{drop_of_length-le}
use Rattle.std.proofs.Math.Seq.{take-suc}
use Rattle.std.proofs.lemmas.List.{length-take-le, take-append-drop}
use Rattle.std.proofs.lemmas.List.Folds.{list_any-append}
use Rattle.std.specs.List.{list_any, position_from}
use Rattle.std.specs.Option.{option_map_or, option_or}
use Rattle.exam_rules.specs.Relations.{Relations}
use Rattle.exam_changes.specs.declared.importing.Counts.{Counts}
use Rattle.exam_commands.specs.declared.command.Reply.TheVariants as reply
use Rattle.exam_commands.specs.declared.import_row.Row.{Row}
use Rattle.exam_commands.specs.Imports.{distinct_rows, has_key, key_of, place_of}
use Rattle.exam_commands.specs.Changes.{first_refusal, row_checks, rows_refusal}
use Rattle.exam_commands.specs.Replies.{import_reply, is_changed, is_new, is_same, is_stored}
use Rattle.exam_commands.proofs.ImportKeys.{key_flips, key_itself}
use Rattle.std.proofs.lemmas.Bool.{ne_eqb}

-- no row before has the key of this one
abbrev pub is_fresh : List Row → Row → Bool
is_fresh before row = not (list_any (has_key (key_of row)) before)

-- the distinct rows that are left behind these
abbrev pub left : List Row → List Row → List Row
left before rest = filter (is_fresh before) (distinct_rows rest)

pub left_start : (rows : List Row) → left [] rows ≡ distinct_rows rows
left_start rows = all (distinct_rows rows)
  where
    all : (xs : List Row) → filter (is_fresh []) xs ≡ xs
    all [] = refl
    all (x ∷ xs) = ap (λ ys. x ∷ ys) (all xs)

nat_eq_is : (a b : ℕ) → a ≡ b → nat_eq a b ≡ true
nat_eq_is a b = eq-eqb a b

filter_twice : (p q r : Row → Bool) → ((x : Row) → r x ≡ (q x && p x)) → (xs : List Row)
    → filter p (filter q xs) ≡ filter r xs
filter_twice p q r same [] = refl
filter_twice p q r same (x ∷ xs) = inner (q x) (r x) (same x) (filter_twice p q r same xs)
  where
    inner : (a c : Bool) → c ≡ (a && p x) → filter p (filter q xs) ≡ filter r xs
        → filter p (cond a (x ∷ filter q xs) (filter q xs)) ≡ cond c (x ∷ filter r xs) (filter r xs)
    inner true c e rest =
        ap (λ ys. cond (p x) (x ∷ ys) ys) rest ∙ ap (λ b. cond b (x ∷ filter r xs) (filter r xs)) (sym e)
    inner false c e rest = rest ∙ ap (λ b. cond b (x ∷ filter r xs) (filter r xs)) (sym e)

-- behind one more row
fresh_more : (before : List Row) (row other : Row)
    → is_fresh (before ++ row ∷ []) other ≡ (not (has_key (key_of row) other) && is_fresh before other)
fresh_more before row other =
    ap not (list_any-append (has_key (key_of other)) before (row ∷ []))
    ∙ ap (λ b. not (list_any (has_key (key_of other)) before || (b || false)))
    (key_flips (key_of row) (key_of other))
    ∙ inner (list_any (has_key (key_of other)) before) (has_key (key_of row) other)
  where
    inner : (a b : Bool) → not (a || (b || false)) ≡ (not b && not a)
    inner true true = refl
    inner true false = refl
    inner false true = refl
    inner false false = refl

module _ (before : List Row) (row : Row) (rest : List Row) where
  left_more : left before (row ∷ rest)
      ≡ cond (is_fresh before row) (row ∷ left (before ++ row ∷ []) rest) (left (before ++ row ∷ []) rest)
  left_more =
      ap (λ rows. cond (is_fresh before row) (row ∷ rows) rows)
      (filter_twice (is_fresh before) (λ other. not (has_key (key_of row) other)) (is_fresh (before ++ row ∷ []))
      (fresh_more before row) (distinct_rows rest))

  -- a row with a new key
  pub count_fresh : (p : Row → Bool) (n m all : ℕ) → is_fresh before row ≡ true
      → n + length (filter p (left before (row ∷ rest))) ≡ all → m ≡ n + cond (p row) 1 0
      → m + length (filter p (left (before ++ row ∷ []) rest)) ≡ all
  count_fresh p n m all fresh so_far step =
      inner (p row) (sym (ap (λ rows. n + length (filter p rows))
      (left_more ∙ ap (λ b. cond b (row ∷ left (before ++ row ∷ []) rest) (left (before ++ row ∷ []) rest)) fresh))
      ∙ so_far) step
    where
      inner : (b : Bool) → n + length
          (cond b (row ∷ filter p (left (before ++ row ∷ []) rest)) (filter p (left (before ++ row ∷ []) rest))) ≡ all
          → m ≡ n + cond b 1 0
          → m + length (filter p (left (before ++ row ∷ []) rest)) ≡ all
      inner true e f = omega arith
      inner false e f = omega arith

  -- a row with an earlier one's key
  pub count_repeated : (p : Row → Bool) (n all : ℕ) → is_fresh before row ≡ false
      → n + length (filter p (left before (row ∷ rest))) ≡ all
      → n + length (filter p (left (before ++ row ∷ []) rest)) ≡ all
  count_repeated p n all old so_far =
      sym (ap (λ rows. n + length (filter p rows))
      (left_more ∙ ap (λ b. cond b (row ∷ left (before ++ row ∷ []) rest) (left (before ++ row ∷ []) rest)) old))
      ∙ so_far

-- the first place with a key is the row's own if no row before has the key
at_own_place : (t : Row → Bool) (n : ℕ) (before rest : List Row) (row : Row) → t row ≡ true
    → option_map_or (λ first. nat_eq first (n + length before)) (position_from t n (before ++ row ∷ rest)) false
    ≡ not (list_any t before)
at_own_place t n [] rest row own = rw own (nat_eq_is n (n + 0) (omega arith))
at_own_place t n (x ∷ before) rest row own = inner (t x) (at_own_place t (n + 1) before rest row own)
  where
    inner : (b : Bool) → option_map_or (λ first. nat_eq first (n + 1 + length before))
        (position_from t (n + 1) (before ++ row ∷ rest)) false ≡ not (list_any t before)
        → option_map_or (λ first. nat_eq first (n + length (x ∷ before)))
        (cond b (Some n) (position_from t (n + 1) (before ++ row ∷ rest))) false ≡ not (b || list_any t before)
    inner true h = ne_eqb n (n + length (x ∷ before)) (λ e. omega arith)
    inner false h = let e : n + length (x ∷ before) ≡ n + 1 + length before = omega arith in rw e h

module _ (i : ℕ) (rows : List Row) (row : Row) (here : i < length rows) (is : row ≡ get_or rows i row) where
  -- the rows behind this place
  pub drop_here : drop i rows ≡ row ∷ drop (i + 1) rows
  drop_here = drop-cons rows i row here ∙ ap (λ z. z ∷ drop (suc i) rows) (sym is)
      ∙ ap (λ j. row ∷ drop j rows) (sym (add-one i))

  -- the rows up to this place
  pub take_here : take (i + 1) rows ≡ take i rows ++ row ∷ []
  take_here = ap (λ j. take j rows) (add-one i) ∙ take-suc rows i row here ∙ ap (λ z. take i rows ++ z ∷ []) (sym is)

  pub first_here : option_map_or (λ first. nat_eq first i) (place_of row rows) false ≡ is_fresh (take i rows) row
  first_here =
      let split : rows ≡ take i rows ++ row ∷ drop (i + 1) rows =
      sym (take-append-drop i rows) ∙ ap (λ rest. take i rows ++ rest) drop_here in
      let long : 0 + length (take i rows) ≡ i = let l : length (take i rows) ≡ i =
      length-take-le i rows (omega arith) in omega arith in
      ap (λ j. option_map_or (λ first. nat_eq first j) (place_of row rows) false) (sym long)
      ∙ ap (λ all. option_map_or (λ first. nat_eq first (0 + length (take i rows))) (place_of row all) false) split
      ∙ at_own_place (has_key (key_of row)) 0 (take i rows) (drop (i + 1) rows) row (key_itself (key_of row))

  -- of the rows from this place on this one decides first
  pub refusal_here : (r : Relations)
      → rows_refusal r (drop i rows) ≡ option_or (first_refusal (row_checks r row)) (rows_refusal r (drop (i + 1) rows))
  refusal_here r = ap (rows_refusal r) drop_here

-- the keys of the rows before a place are counted
pub record AreCounted (r : Relations) (rows : List Row) (place : ℕ) (counts : Counts) : Type 0 where
  pub added : counts.added + length (filter (is_new r) (left (take place rows) (drop place rows)))
      ≡ length (filter (is_new r) (distinct_rows rows))
  pub changed : counts.changed + length (filter (is_changed r) (left (take place rows) (drop place rows)))
      ≡ length (filter (is_changed r) (distinct_rows rows))
  pub same : counts.same + length (filter (is_same r) (left (take place rows) (drop place rows)))
      ≡ length (filter (is_same r) (distinct_rows rows))
  pub few : counts.added + counts.changed + counts.same ≤ place

pub counted_none : (r : Relations) (rows : List Row) → AreCounted r rows 0 (record { added = 0; changed = 0; same = 0 })
counted_none r rows =
    record { added = none (is_new r); changed = none (is_changed r); same = none (is_same r); few = omega arith }
  where
    none : (p : Row → Bool)
        → 0 + length (filter p (left (take 0 rows) (drop 0 rows))) ≡ length (filter p (distinct_rows rows))
    none p = let e : length (filter p (left [] rows)) ≡ length (filter p (distinct_rows rows)) =
        ap (λ xs. length (filter p xs)) (left_start rows) in omega arith

pub counted_all : (r : Relations) (rows : List Row) (place : ℕ) (counts : Counts) → length rows ≤ place
    → AreCounted r rows place counts
    → reply.Imported counts.added counts.changed counts.same ≡ import_reply r rows
counted_all r rows place counts end so_far =
    ap (λ n. reply.Imported n counts.changed counts.same) (all (is_new r) counts.added _ so_far.added)
    ∙ ap (λ n. reply.Imported (length (filter (is_new r) (distinct_rows rows))) n counts.same)
    (all (is_changed r) counts.changed _ so_far.changed)
    ∙ ap (λ n. reply.Imported (length (filter (is_new r) (distinct_rows rows)))
    (length (filter (is_changed r) (distinct_rows rows))) n) (all (is_same r) counts.same _ so_far.same)
  where
    all : (p : Row → Bool) (n m : ℕ) → n + length (filter p (left (take place rows) (drop place rows))) ≡ m → n ≡ m
    all p n m e = let f : n + 0 ≡ m =
        ap (λ rest. n + length (filter p (left (take place rows) rest))) (sym (drop_of_length-le rows end)) ∙ e in
        omega arith

module _ (r : Relations) (rows : List Row) (place : ℕ) (counts : Counts) (row : Row) (here : place < length rows)
    (is : row ≡ get_or rows place row) where
  -- the rows that are left, by the one at this place
  split : (p : Row → Bool) (n all : ℕ) → n + length (filter p (left (take place rows) (drop place rows))) ≡ all
      → n + length (filter p (left (take place rows) (row ∷ drop (place + 1) rows))) ≡ all
  split p n all e = ap (λ rest. n + length (filter p (left (take place rows) rest)))
      (sym (drop_here place rows row here is)) ∙ e

  join : (p : Row → Bool) (n all : ℕ)
      → n + length (filter p (left (take place rows ++ row ∷ []) (drop (place + 1) rows))) ≡ all
      → n + length (filter p (left (take (place + 1) rows) (drop (place + 1) rows))) ≡ all
  join p n all e = ap (λ before. n + length (filter p (left before (drop (place + 1) rows))))
      (take_here place rows row here is) ∙ e

  pub counted_repeated : is_fresh (take place rows) row ≡ false → AreCounted r rows place counts
      → AreCounted r rows (place + 1) counts
  counted_repeated old so_far = record {
    added = still (is_new r) counts.added _ so_far.added;
    changed = still (is_changed r) counts.changed _ so_far.changed;
    same = still (is_same r) counts.same _ so_far.same;
    few = let few = so_far.few in omega arith;
  }
    where
      still : (p : Row → Bool) (n all : ℕ) → n + length (filter p (left (take place rows) (drop place rows))) ≡ all
          → n + length (filter p (left (take (place + 1) rows) (drop (place + 1) rows))) ≡ all
      still p n all e = join p n all
          (count_repeated (take place rows) row (drop (place + 1) rows) p n all old (split p n all e))

  pub counted_fresh : (next : Counts) → is_fresh (take place rows) row ≡ true
      → next.added ≡ counts.added + cond (is_none (is_stored r row)) 1 0
      → next.changed ≡ counts.changed + cond (option_map_or not (is_stored r row) false) 1 0
      → next.same ≡ counts.same + cond (option_map_or (λ same. same) (is_stored r row) false) 1 0
      → AreCounted r rows place counts → AreCounted r rows (place + 1) next
  counted_fresh next fresh added changed same so_far = record {
    added = more (is_new r) counts.added next.added _ added so_far.added;
    changed = more (is_changed r) counts.changed next.changed _ changed so_far.changed;
    same = more (is_same r) counts.same next.same _ same so_far.same;
    few = one_more (is_stored r row) _ _ _ _ _ _ _ added changed same so_far.few;
  }
    where
      more : (p : Row → Bool) (n m all : ℕ) → m ≡ n + cond (p row) 1 0
          → n + length (filter p (left (take place rows) (drop place rows))) ≡ all
          → m + length (filter p (left (take (place + 1) rows) (drop (place + 1) rows))) ≡ all
      more p n m all step e =
          join p m all (count_fresh (take place rows) row (drop (place + 1) rows) p n m all fresh
          (split p n all e) step)

      one_more : (o : Option Bool) (a b d x y z i : ℕ) → x ≡ a + cond (is_none o) 1 0
          → y ≡ b + cond (option_map_or not o false) 1 0 → z ≡ d + cond (option_map_or (λ same. same) o false) 1 0
          → a + b + d ≤ i → x + y + z ≤ i + 1
      one_more None a b d x y z i e f g le = omega arith
      one_more (Some true) a b d x y z i e f g le = omega arith
      one_more (Some false) a b d x y z i e f g le = omega arith
