-- Rows that are put while those that they replace are kept: put back, they are the rows that were there.
use Rattle.std.proofs.Common.{◌≡◌, Bool, true, false, cond, List, [], ◌∷◌, is_some, Option, None, Some, Result, Ok, Err}
use Rattle.std.proofs.Common.{OnOk, OnErr, refl, ap, sym, subst, ◌∙◌}
use Rattle.std.specs.BTreeMap.{is_at}
use Rattle.std.specs.Cmp.{Equal-is, IsTotalOrder}
use Rattle.std.specs.Map.{keys_of}
use Rattle.std.specs.declared.cmp.Ordering.{Ordering}
use Rattle.std.proofs.lemmas.Map.Keys.{sorted_head, sorted_tail}
use Rattle.std.proofs.lemmas.Map.Lookups.{CmpEqualImpliesEq}
use Rattle.exam_rules.specs.Orders.{KeysRise}
use Rattle.exam_rules.specs.Relations.{has_row, put_row, row_at}
use Rattle.exam_commands.proofs.KeyedRows.{past_all, put_at, put_rises, same_rows}
use Rattle.exam_commands.specs.Exchanges.{GoBack, HasRows, put_back, set_row}
use Rattle.exam_changes.proofs.Exchanges.{same_key, set_at, set_rises}

-- of what is accepted or refused
pub either : {A E P Q R : Type 0} (o : Result A E) → OnOk o P → OnErr o Q → (P → R) → (Q → R) → R
either (Ok x) ok err f g = f ok
either (Err e) ok err f g = g err

-- a row as it was, or else this one
abbrev pub or_row : {X : Type 0} → Option (Option X) → Option X → Option X
or_row None o = o
or_row (Some was) o = was

module _ {K X : Type 0} (cmp : K → K → Ordering) (total : IsTotalOrder cmp) (exact : CmpEqualImpliesEq cmp) where
  pub put_back_rises : (was : List (K × Option X)) (rows : List (K × X)) → KeysRise cmp rows
      → KeysRise cmp (put_back cmp rows was)
  put_back_rises [] rows up = up
  put_back_rises (e ∷ es) rows up =
      put_back_rises es (set_row cmp rows e.0 e.1) (set_rises cmp total exact rows e.0 e.1 up)

  pub put_back_at : (was : List (K × Option X)) (rows : List (K × X)) (q : K) → KeysRise cmp was → KeysRise cmp rows
      → row_at cmp (put_back cmp rows was) q ≡ or_row (row_at cmp was q) (row_at cmp rows q)
  put_back_at [] rows q up_was up = refl
  put_back_at (e ∷ es) rows q up_was up =
      put_back_at es (set_row cmp rows e.0 e.1) q (sorted_tail cmp e.0 (keys_of es) up_was)
      (set_rises cmp total exact rows e.0 e.1 up)
      ∙ ap (or_row (row_at cmp es q)) (set_at cmp total exact rows e.0 q e.1 up) ∙ inner (is_at (cmp q) e.0) refl
    where
      inner : (b : Bool) → is_at (cmp q) e.0 ≡ b
          → or_row (row_at cmp es q) (cond b e.1 (row_at cmp rows q))
          ≡ or_row (cond b (Some e.1) (row_at cmp es q)) (row_at cmp rows q)
      inner true at = ap (λ o. or_row o e.1)
          (past_all cmp total e.0 q es ((Equal-is (cmp q e.0)).0 at) (sorted_head cmp e.0 (keys_of es) up_was))
      inner false away = refl

  -- past a row that is put back the later ones are there still
  pub there_later : (e : K × Option X) (es : List (K × Option X)) (rows : List (K × X)) → KeysRise cmp (e ∷ es)
      → KeysRise cmp rows → HasRows cmp (e ∷ es) rows → HasRows cmp es (set_row cmp rows e.0 e.1)
  there_later e es rows up_was up there q has =
      ap is_some (set_at cmp total exact rows e.0 q e.1 up) ∙ inner (is_at (cmp q) e.0) refl
    where
      was : (b : Bool) → is_some (cond b (Some e.1) (row_at cmp es q)) ≡ true
      was true = refl
      was false = has

      inner : (b : Bool) → is_at (cmp q) e.0 ≡ b → is_some (cond b e.1 (row_at cmp rows q)) ≡ true
      inner true at =
          let none : row_at cmp es q ≡ None =
          past_all cmp total e.0 q es ((Equal-is (cmp q e.0)).0 at) (sorted_head cmp e.0 (keys_of es) up_was) in
          absurd (let differ : false ≡ true = sym (ap is_some none) ∙ has in cc)
      inner false away = there q (was (is_at (cmp q) e.0))

  module _ (was : List (K × Option X)) (rows first : List (K × X)) (k : K) (x : X) (up_was : KeysRise cmp was)
      (up : KeysRise cmp rows) (back : GoBack cmp was rows first) where
    up_first : KeysRise cmp first
    up_first = subst (KeysRise cmp) back.back (put_back_rises was rows up)

    -- at each key the first rows have what was kept, or what is there
    at_first : (q : K) → row_at cmp first q ≡ or_row (row_at cmp was q) (row_at cmp rows q)
    at_first q = ap (λ (t : List (K × X)). row_at cmp t q) (sym back.back) ∙ put_back_at was rows q up_was up

    -- a row whose key has been changed before
    pub changed_again : has_row cmp was k ≡ true → GoBack cmp was (put_row cmp rows k x) first
    changed_again known = record {
      there = λ q has. ap is_some (put_at cmp total rows k q x) ∙ there q has (is_at (cmp q) k);
      back =
          same_rows cmp total exact (put_back cmp (put_row cmp rows k x) was) first
          (put_back_rises was (put_row cmp rows k x) up_put) up_first
          (λ q. put_back_at was (put_row cmp rows k x) q up_was up_put
          ∙ ap (or_row (row_at cmp was q)) (put_at cmp total rows k q x) ∙ at q (is_at (cmp q) k) refl
          ∙ sym (at_first q));
    }
      where
        up_put : KeysRise cmp (put_row cmp rows k x)
        up_put = put_rises cmp total rows k x up

        there : (q : K) → has_row cmp was q ≡ true → (b : Bool) → is_some (cond b (Some x) (row_at cmp rows q)) ≡ true
        there q has true = refl
        there q has false = back.there q has

        known_or : (o : Option (Option X)) (n m : Option X) → is_some o ≡ true → or_row o n ≡ or_row o m
        known_or None n m has = cc
        known_or (Some w) n m has = refl

        at : (q : K) (b : Bool) → is_at (cmp q) k ≡ b
            → or_row (row_at cmp was q) (cond b (Some x) (row_at cmp rows q))
            ≡ or_row (row_at cmp was q) (row_at cmp rows q)
        at q true here = known_or (row_at cmp was q) (Some x) (row_at cmp rows q)
            (ap (has_row cmp was) (same_key cmp exact k q here) ∙ known)
        at q false away = refl

    -- a row whose key has not
    pub changed_first : has_row cmp was k ≡ false
        → GoBack cmp (put_row cmp was k (row_at cmp rows k)) (put_row cmp rows k x) first
    changed_first new = record {
      there = λ q has. ap is_some (put_at cmp total rows k q x)
          ∙ there q (is_at (cmp q) k) (sym (ap is_some (put_at cmp total was k q (row_at cmp rows k))) ∙ has);
      back =
          same_rows cmp total exact (put_back cmp (put_row cmp rows k x) (put_row cmp was k (row_at cmp rows k))) first
          (put_back_rises (put_row cmp was k (row_at cmp rows k)) (put_row cmp rows k x) up_put) up_first
          (λ q.
          put_back_at (put_row cmp was k (row_at cmp rows k)) (put_row cmp rows k x) q
          (put_rises cmp total was k (row_at cmp rows k) up_was) up_put
          ∙ ap (λ o. or_row o (row_at cmp (put_row cmp rows k x) q)) (put_at cmp total was k q (row_at cmp rows k))
          ∙ ap (or_row (cond (is_at (cmp q) k) (Some (row_at cmp rows k)) (row_at cmp was q)))
          (put_at cmp total rows k q x)
          ∙ at q (is_at (cmp q) k) refl ∙ sym (at_first q));
    }
      where
        up_put : KeysRise cmp (put_row cmp rows k x)
        up_put = put_rises cmp total rows k x up

        there : (q : K) (b : Bool) → is_some (cond b (Some (row_at cmp rows k)) (row_at cmp was q)) ≡ true
            → is_some (cond b (Some x) (row_at cmp rows q)) ≡ true
        there q true has = refl
        there q false has = back.there q has

        new_or : (o : Option (Option X)) (n : Option X) → is_some o ≡ false → n ≡ or_row o n
        new_or None n away = refl
        new_or (Some w) n away = cc

        at : (q : K) (b : Bool) → is_at (cmp q) k ≡ b
            → or_row (cond b (Some (row_at cmp rows k)) (row_at cmp was q)) (cond b (Some x) (row_at cmp rows q))
            ≡ or_row (row_at cmp was q) (row_at cmp rows q)
        at q true here =
            ap (row_at cmp rows) (sym (same_key cmp exact k q here))
            ∙ new_or (row_at cmp was q) (row_at cmp rows q) (ap (has_row cmp was) (same_key cmp exact k q here) ∙ new)
        at q false away = refl

  -- a row that is put goes again
  pub set_again : (rows : List (K × X)) (k : K) (x : X) → KeysRise cmp rows
      → set_row cmp (put_row cmp rows k x) k (row_at cmp rows k) ≡ rows
  set_again rows k x up =
      same_rows cmp total exact (set_row cmp (put_row cmp rows k x) k (row_at cmp rows k)) rows
      (set_rises cmp total exact (put_row cmp rows k x) k (row_at cmp rows k) up_put) up
      (λ q. set_at cmp total exact (put_row cmp rows k x) k q (row_at cmp rows k) up_put
      ∙ ap (cond (is_at (cmp q) k) (row_at cmp rows k)) (put_at cmp total rows k q x)
      ∙ at q (is_at (cmp q) k) refl)
    where
      up_put : KeysRise cmp (put_row cmp rows k x)
      up_put = put_rises cmp total rows k x up

      at : (q : K) (b : Bool) → is_at (cmp q) k ≡ b
          → cond b (row_at cmp rows k) (cond b (Some x) (row_at cmp rows q)) ≡ row_at cmp rows q
      at q true here = ap (row_at cmp rows) (sym (same_key cmp exact k q here))
      at q false away = refl
