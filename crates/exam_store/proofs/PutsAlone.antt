-- What is put turns a table that loses no key: nothing is deleted of it.
use Rattle.std.proofs.Common.{◌≡◌, ◌||◌, Bool, true, false, not, cond, List, [], ◌∷◌, ◌++◌, None, Ordering, is_some}
use Rattle.std.proofs.Common.{refl, sym, true≢false, ap, ap₂, subst, ◌∙◌}
use Rattle.std.specs.Cmp.{IsTotalOrder}
use Rattle.std.specs.List.{filter}
use Rattle.std.specs.List.Sorted.{IsPermutation}
use Rattle.std.specs.Ordering.{is_eq}
use Rattle.std.proofs.lemmas.List.Folds.{list_any-append}
use Rattle.std.proofs.lemmas.List.Sorted.{list_any-IsPermutation}
use Rattle.std.proofs.lemmas.Map.Lookups.{CmpEqualImpliesEq}
use Rattle.exam_rules.specs.Relations.{has_row, row_at}
use Rattle.exam_commands.specs.KeptRows.{KeepsKeys}
use Rattle.exam_changes.proofs.Exchanges.{has_first, has_later}
use Rattle.exam_tables.specs.Differences.{has_key, is_one_of, Turns}
use Rattle.exam_tables.proofs.RowTurning.{stays}
use Rattle.exam_store.proofs.PlansTurning.{key_is_row, row_left}
use Rattle.exam_store.proofs.RowsTurning.{none_deleted}

module _ {K X : Type 0} {cmp : K → K → Ordering} (total : IsTotalOrder cmp) (exact : CmpEqualImpliesEq cmp)
    (old new puts : List (K × X)) (deletes : List K) (turns : Turns cmp old new puts deletes) where
  abbrev left : List (K × X)
  left = filter (stays cmp puts deletes) old

  -- a key of the new table is put or not deleted
  not_gone : (k : K) → has_row cmp new k ≡ true
      → (has_key cmp puts k || is_one_of cmp deletes k) ≡ (has_key cmp puts k || false)
  not_gone k has = inner (has_key cmp puts k) refl (is_one_of cmp deletes k) refl
    where
      here : has_key cmp (puts ++ left) k ≡ true
      here = list_any-IsPermutation (λ (e : K × X). is_eq (cmp k e.0)) _ _ turns.made ∙ key_is_row total exact new k
          ∙ has

      gone : has_key cmp puts k ≡ false → is_one_of cmp deletes k ≡ true → has_key cmp left k ≡ false
      gone away is =
          key_is_row total exact left k
          ∙ ap is_some (row_left total exact (λ j. not (has_key cmp puts j || is_one_of cmp deletes j)) old k)
          ∙ ap₂ (λ a b. is_some (cond (not (a || b)) (row_at cmp old k) None)) away is

      inner : (b : Bool) → has_key cmp puts k ≡ b → (d : Bool) → is_one_of cmp deletes k ≡ d → (b || d) ≡ (b || false)
      inner false away true is = absurd (true≢false (sym here
          ∙ list_any-append (λ (e : K × X). is_eq (cmp k e.0)) puts left ∙ ap₂ ◌||◌ away (gone away is)))
      inner _ put _ is = refl

  same_left : (rows : List (K × X)) → KeepsKeys cmp rows new
      → filter (stays cmp puts deletes) rows ≡ filter (stays cmp puts []) rows
  same_left [] keeps = refl
  same_left (e ∷ rows) keeps =
      ap₂ (λ b l. cond (not b) (e ∷ l) l) (not_gone e.0 (keeps e.0 (has_first cmp total exact e rows)))
      (same_left rows (λ k has. keeps k (has_later cmp total exact e rows k has)))

  pub puts_alone : KeepsKeys cmp old new → Turns cmp old new puts []
  puts_alone keeps = record {
    rises = turns.rises;
    spared = none_deleted puts;
    made = subst (λ l. IsPermutation (puts ++ l) new) (same_left old keeps) turns.made;
  }
