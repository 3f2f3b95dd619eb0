-- What is at each key once rows have taken the place of others; and put back, they are the rows that were there.
use Rattle.std.proofs.Common.{◌≡◌, ◌&&◌, not, Bool, true, false, cond, List, [], ◌∷◌, is_some, Option, None, Some, refl}
use Rattle.std.proofs.Common.{ap, sym, ◌∙◌}
use Rattle.std.specs.Option.{option_or}
use Rattle.std.specs.Map.{keys_of}
use Rattle.std.specs.BTreeMap.{is_at}
use Rattle.std.specs.Cmp.{Equal-is, IsTotalOrder, tied_itself}
use Rattle.std.specs.declared.cmp.Ordering.{Ordering}
use Rattle.std.specs.Ordering.{is_eq}
use Rattle.std.proofs.lemmas.Map.Keys.{sorted_tail}
use Rattle.std.proofs.lemmas.Map.Lookups.{CmpEqualImpliesEq}
use Rattle.exam_rules.specs.Orders.{KeysRise}
use Rattle.exam_rules.specs.Relations.{has_row, put_row, remove_row, row_at}
use Rattle.exam_commands.proofs.KeyedRows.{none_later, put_at, put_elsewhere, put_rises, removed_elsewhere}
use Rattle.exam_commands.proofs.KeyedRows.{removed_here, removed_rises, same_rows}
use Rattle.exam_commands.specs.Exchanges.{all_put, set_row, taken_back, without_old}

and_false : (b : Bool) → (b && false) ≡ false
and_false true = refl
and_false false = refl

pub same_key : {K : Type 0} (cmp : K → K → Ordering) → CmpEqualImpliesEq cmp → (k q : K) → is_at (cmp q) k ≡ true
    → q ≡ k
same_key cmp exact k q at = exact q k ((Equal-is (cmp q k)).0 at)

module _ {K X : Type 0} (cmp : K → K → Ordering) (total : IsTotalOrder cmp) (exact : CmpEqualImpliesEq cmp) where
  -- ---- a row that is set

  pub set_at : (rows : List (K × X)) (k q : K) (o : Option X) → KeysRise cmp rows
      → row_at cmp (set_row cmp rows k o) q ≡ cond (is_at (cmp q) k) o (row_at cmp rows q)
  set_at rows k q (Some x) up = put_at cmp total rows k q x
  set_at rows k q None up = inner (is_at (cmp q) k) refl
    where
      inner : (b : Bool) → is_at (cmp q) k ≡ b → row_at cmp (remove_row cmp rows k) q ≡ cond b None (row_at cmp rows q)
      inner true at = ap (row_at cmp (remove_row cmp rows k)) (same_key cmp exact k q at)
          ∙ removed_here cmp total rows k up
      inner false away = removed_elsewhere cmp exact rows k q away

  pub set_rises : (rows : List (K × X)) (k : K) (o : Option X) → KeysRise cmp rows → KeysRise cmp (set_row cmp rows k o)
  set_rises rows k (Some x) up = put_rises cmp total rows k x up
  set_rises rows k None up = removed_rises cmp total rows k up

  -- with the row at a key put or taken away the other rows are the same
  either_way : (k q : K) (o p : Option X) (b : Bool) → cond b None (cond b o p) ≡ cond b None p
  either_way k q o p true = refl
  either_way k q o p false = refl

  pub set_others : (rows : List (K × X)) (k : K) (o : Option X) → KeysRise cmp rows
      → remove_row cmp (set_row cmp rows k o) k ≡ remove_row cmp rows k
  set_others rows k o up =
      same_rows cmp total exact (remove_row cmp (set_row cmp rows k o) k) (remove_row cmp rows k)
      (removed_rises cmp total (set_row cmp rows k o) k (set_rises rows k o up)) (removed_rises cmp total rows k up)
      (λ q. set_at (set_row cmp rows k o) k q None (set_rises rows k o up)
      ∙ ap (cond (is_at (cmp q) k) None) (set_at rows k q o up)
      ∙ either_way k q o (row_at cmp rows q) (is_at (cmp q) k)
      ∙ sym (set_at rows k q None up))

  -- what the old rows have stays there, if it is put at its key
  pub set_keeps : (old rows : List (K × X)) (k q : K) → KeysRise cmp rows → has_row cmp old q ≡ true
      → has_row cmp rows q ≡ true → has_row cmp (set_row cmp rows k (row_at cmp old k)) q ≡ true
  set_keeps old rows k q up was is = ap is_some (set_at rows k q (row_at cmp old k) up) ∙ inner (is_at (cmp q) k) refl
    where
      inner : (b : Bool) → is_at (cmp q) k ≡ b → is_some (cond b (row_at cmp old k) (row_at cmp rows q)) ≡ true
      inner true at = ap (has_row cmp old) (sym (same_key cmp exact k q at)) ∙ was
      inner false away = is

  -- one of the rows is put: it is there, and so are the others
  pub has_first : (e : K × X) (es : List (K × X)) → has_row cmp (e ∷ es) e.0 ≡ true
  has_first e es = ap (λ r. is_some (cond (is_eq r) (Some e.1) (row_at cmp es e.0))) (tied_itself total e.0)

  pub has_later : (e : K × X) (es : List (K × X)) (q : K) → has_row cmp es q ≡ true → has_row cmp (e ∷ es) q ≡ true
  has_later e es q has = inner (is_at (cmp q) e.0)
    where
      inner : (b : Bool) → is_some (cond b (Some e.1) (row_at cmp es q)) ≡ true
      inner true = refl
      inner false = has

  -- a row that is put leaves the keys that new rows, among which it is, do not have
  pub others_put : (new rows : List (K × X)) (e : K × X) (q : K) → has_row cmp new e.0 ≡ true
      → has_row cmp new q ≡ false → row_at cmp (put_row cmp rows e.0 e.1) q ≡ row_at cmp rows q
  others_put new rows e q here away = inner (is_at (cmp q) e.0) refl
    where
      inner : (b : Bool) → is_at (cmp q) e.0 ≡ b → row_at cmp (put_row cmp rows e.0 e.1) q ≡ row_at cmp rows q
      inner true at = absurd
          (let differ : true ≡ false = sym here ∙ ap (has_row cmp new) (sym (same_key cmp exact e.0 q at)) ∙ away in cc)
      inner false other = put_elsewhere cmp total rows e.0 q e.1 other

  -- ---- many rows

  pub all_put_at : (new rows : List (K × X)) (q : K) → KeysRise cmp new
      → row_at cmp (all_put cmp rows new) q ≡ option_or (row_at cmp new q) (row_at cmp rows q)
  all_put_at [] rows q up = refl
  all_put_at (e ∷ es) rows q up =
      all_put_at es (put_row cmp rows e.0 e.1) q (sorted_tail cmp e.0 (keys_of es) up)
      ∙ ap (option_or (row_at cmp es q)) (put_at cmp total rows e.0 q e.1) ∙ inner (is_at (cmp q) e.0) refl
    where
      inner : (b : Bool) → is_at (cmp q) e.0 ≡ b
          → option_or (row_at cmp es q) (cond b (Some e.1) (row_at cmp rows q))
          ≡ option_or (cond b (Some e.1) (row_at cmp es q)) (row_at cmp rows q)
      inner true at = ap (λ o. option_or o (Some e.1)) (none_later cmp total e es q up at)
      inner false away = refl

  pub all_put_rises : (new rows : List (K × X)) → KeysRise cmp rows → KeysRise cmp (all_put cmp rows new)
  all_put_rises [] rows up = up
  all_put_rises (e ∷ es) rows up = all_put_rises es (put_row cmp rows e.0 e.1) (put_rises cmp total rows e.0 e.1 up)

  pub taken_back_rises : (old new rows : List (K × X)) → KeysRise cmp rows → KeysRise cmp (taken_back cmp rows old new)
  taken_back_rises old [] rows up = up
  taken_back_rises old (e ∷ es) rows up =
      taken_back_rises old es (set_row cmp rows e.0 (row_at cmp old e.0)) (set_rises rows e.0 (row_at cmp old e.0) up)

  pub taken_back_at : (old new rows : List (K × X)) (q : K) → KeysRise cmp rows
      → row_at cmp (taken_back cmp rows old new) q ≡ cond (has_row cmp new q) (row_at cmp old q) (row_at cmp rows q)
  taken_back_at old [] rows q up = refl
  taken_back_at old (e ∷ es) rows q up =
      let next = set_row cmp rows e.0 (row_at cmp old e.0) in
      taken_back_at old es next q (set_rises rows e.0 (row_at cmp old e.0) up)
      ∙ ap (cond (has_row cmp es q) (row_at cmp old q)) (set_at rows e.0 q (row_at cmp old e.0) up)
      ∙ inner (is_at (cmp q) e.0) refl
    where
      either : (b : Bool) (o : Option X) → cond b o o ≡ o
      either true o = refl
      either false o = refl

      inner : (b : Bool) → is_at (cmp q) e.0 ≡ b
          → cond (has_row cmp es q) (row_at cmp old q) (cond b (row_at cmp old e.0) (row_at cmp rows q))
          ≡ cond (is_some (cond b (Some e.1) (row_at cmp es q))) (row_at cmp old q) (row_at cmp rows q)
      inner true at = ap (λ k. cond (has_row cmp es q) (row_at cmp old q) (row_at cmp old k))
          (sym (same_key cmp exact e.0 q at)) ∙ either (has_row cmp es q) (row_at cmp old q)
      inner false away = refl

  pub without_old_rises : (old new rows : List (K × X)) → KeysRise cmp rows
      → KeysRise cmp (without_old cmp rows old new)
  without_old_rises [] new rows up = up
  without_old_rises (e ∷ es) new rows up =
      without_old_rises es new (cond (has_row cmp new e.0) rows (remove_row cmp rows e.0)) (inner (has_row cmp new e.0))
    where
      inner : (b : Bool) → KeysRise cmp (cond b rows (remove_row cmp rows e.0))
      inner true = up
      inner false = removed_rises cmp total rows e.0 up

  pub without_old_at : (old new rows : List (K × X)) (q : K) → KeysRise cmp rows
      → row_at cmp (without_old cmp rows old new) q
      ≡ cond (has_row cmp old q && not (has_row cmp new q)) None (row_at cmp rows q)
  without_old_at [] new rows q up = refl
  without_old_at (e ∷ es) new rows q up =
      without_old_at es new (next (has_row cmp new e.0)) q (rises (has_row cmp new e.0))
      ∙ inner (is_at (cmp q) e.0) refl (has_row cmp new e.0) refl
    where
      next : Bool → List (K × X)
      next b = cond b rows (remove_row cmp rows e.0)

      rises : (b : Bool) → KeysRise cmp (next b)
      rises true = up
      rises false = removed_rises cmp total rows e.0 up

      none_either : (b : Bool) → cond b None None ≡ (let none : Option X = None in none)
      none_either true = refl
      none_either false = refl

      inner : (a : Bool) → is_at (cmp q) e.0 ≡ a → (b : Bool) → has_row cmp new e.0 ≡ b
          → cond (has_row cmp es q && not (has_row cmp new q)) None (row_at cmp (next b) q)
          ≡ cond (is_some (cond a (Some e.1) (row_at cmp es q)) && not (has_row cmp new q)) None (row_at cmp rows q)
      inner true at true here =
          let known : has_row cmp new q ≡ true = ap (has_row cmp new) (same_key cmp exact e.0 q at) ∙ here in
          ap (λ b. cond (has_row cmp es q && not b) None (row_at cmp rows q)) known
          ∙ ap (λ b. cond b None (row_at cmp rows q)) (and_false (has_row cmp es q))
          ∙ sym (ap (λ b. cond (not b) None (row_at cmp rows q)) known)
      inner true at false gone =
          let unknown : has_row cmp new q ≡ false = ap (has_row cmp new) (same_key cmp exact e.0 q at) ∙ gone in
          ap (cond (has_row cmp es q && not (has_row cmp new q)) None)
          (ap (row_at cmp (remove_row cmp rows e.0)) (same_key cmp exact e.0 q at)
          ∙ removed_here cmp total rows e.0 up)
          ∙ none_either (has_row cmp es q && not (has_row cmp new q))
          ∙ sym (ap (λ b. cond (not b) None (row_at cmp rows q)) unknown)
      inner false away true here = refl
      inner false away false gone =
          ap (cond (has_row cmp es q && not (has_row cmp new q)) None) (removed_elsewhere cmp exact rows e.0 q away)

  -- rows that differ from these at the keys of new ones alone are these again once the new ones are taken back
  pub back_again : (old new rows changed : List (K × X)) → KeysRise cmp rows → KeysRise cmp changed
      → ((q : K) → has_row cmp new q ≡ true → row_at cmp old q ≡ row_at cmp rows q)
      → ((q : K) → has_row cmp new q ≡ false → row_at cmp changed q ≡ row_at cmp rows q)
      → taken_back cmp changed old new ≡ rows
  back_again old new rows changed up up_changed was elsewhere =
      same_rows cmp total exact (taken_back cmp changed old new) rows (taken_back_rises old new changed up_changed) up
      (λ q. taken_back_at old new changed q up_changed ∙ inner q (has_row cmp new q) refl)
    where
      inner : (q : K) (b : Bool) → has_row cmp new q ≡ b
          → cond b (row_at cmp old q) (row_at cmp changed q) ≡ row_at cmp rows q
      inner q true here = was q here
      inner q false away = elsewhere q away
