-- Rows that tables hold in their stored forms have the forms of their columns.
use Rattle.std.proofs.Common.{All, ◌≡◌, List, [], ◌∷◌, map, inl, inr, Ordering, refl, subst}
use Rattle.std.specs.List.{AllByRecursion}
use Rattle.std.specs.Map.{values_of}
use Rattle.std.proofs.lemmas.List.Elements.{recursion_from_All}
use Rattle.std.specs.List.Sorted.{IsPermutation}
use Rattle.std.proofs.lemmas.List.Sorted.{IsPermutation-sym, IsPermutation-trans}
use Rattle.exam_rules.specs.Tables as table
use Rattle.sqlite_value.specs.declared.value.Value.TheVariants.{Null}
use Rattle.sqlite_value.specs.Order.{Row}
use Rattle.sqlite_trees.specs.Tree.{Trees}
use Rattle.sqlite_rules.specs.Lists.{Has}
use Rattle.sqlite_rules.proofs.ListLemmas.{all_has}
use Rattle.sqlite_rules.proofs.ProbeLemmas.{has_mapped, mapped_has}
use Rattle.exam_types.specs.Days.{IsDay}
use Rattle.exam_sql.proofs.Queries.{has_permuted}
use Rattle.exam_commands.specs.Orders.{IsInOrder}
use Rattle.exam_commands.specs.State.{State}
use Rattle.exam_tables.specs.Held.{HoldsRows}
use Rattle.exam_tables.specs.Loaded.{HoldsTable}
use Rattle.exam_tables.proofs.OneTable.{Tells, session_day, session_tells, paper_tells, hall_tells, opening_tells}
use Rattle.exam_tables.proofs.OneTable.{candidate_tells, entry_tells, arrangement_tells, appeal_tells, standing_tells}
use Rattle.exam_tables.proofs.OneTable.{seat_tells}
use Rattle.exam_store.specs.Kept.{HoldsOffice}
use Rattle.exam_store.specs.Refused.{HoldsFormed}
use Rattle.exam_store.specs.Stops.{HasDays}
use Rattle.exam_store.proofs.Unique.{one_office}

each_has : {A : Type 0} (P : A → Type 0) (xs : List A) → ((x : A) → Has xs x → P x) → AllByRecursion P xs
each_has P [] all = tt
each_has P (x ∷ xs) all = (all x (inl refl), each_has P xs (λ y has. all y (inr has)))

each_value : {K X : Type 0} (P : X → Type 0) (es : List (K × X)) → All P (values_of es) → (e : K × X) → Has es e → P e.1
each_value {K} {X} P es all e has =
    all_has P (values_of es) e.1 (recursion_from_All P (values_of es) all) (mapped_has (λ (p : K × X). p.1) es e has)

-- the entries have the forms of the table, where those of another list with the same rows do
forms : {K X : Type 0} {cmp : K → K → Ordering} {IsRow : K → X → Type 0} {row : K → X → Row} (Dated : K × X → Type 0)
    → Tells row Dated → ((k : K) (x : X) → IsRow k x → Dated (k, x)) → (meant : List Row) (xs ys : List (K × X))
    → HoldsTable cmp IsRow row xs meant → HoldsRows row ys meant → ((e : K × X) → Has ys e → Dated e)
    → AllByRecursion (λ e. IsRow e.0 e.1) ys
forms {K} {X} {cmp} {IsRow} {row} Dated tells formed meant xs ys holds same dated =
    each_has (λ e. IsRow e.0 e.1) ys (λ e has.
    let f = λ (p : K × X). Null ∷ row p.0 p.1 in
    let both : IsPermutation (map f ys) (map f xs) =
    IsPermutation-trans _ meant _ (IsPermutation-sym _ _ same) holds.same in
    let it = has_mapped f xs (f e) (has_permuted (map f ys) (map f xs) (f e) both (mapped_has f ys e has)) in
    let is : row it.0.0 it.0.1 ≡ row e.0 e.1 = let whole = it.2 in cc in
    let form : IsRow it.0.0 it.0.1 = all_has (λ (p : K × X). IsRow p.0 p.1) xs it.0 holds.forms it.1 in
    subst (λ (p : K × X). IsRow p.0 p.1) (tells it.0 e (formed it.0.0 it.0.1 form) (dated e has) is) form)

-- tables that hold an office in the forms of their columns hold no other one whose days are days
pub same_office : (all : Trees) (found office : State) → HoldsFormed all found → HoldsOffice all office
    → IsInOrder office → HasDays office.relations → found ≡ office
same_office all found office formed held order days =
    let f = formed.0 in
    let h = held.facts in
    let up = order.tables in
    one_office all found office formed (
      elim [
        | table.Sessions ↦ record {
          rises = up table.Sessions;
          forms =
              forms _ session_tells (λ k x is. session_day _ is.1) _ _ _ (f table.Sessions) (h table.Sessions)
              (each_value (λ x. IsDay x.day) office.relations.sessions days.sessions);
          same = h table.Sessions;
        }
        | table.Papers ↦ record {
          rises = up table.Papers;
          forms = forms _ paper_tells (λ k x is. tt) _ _ _ (f table.Papers) (h table.Papers) (λ e has. tt);
          same =
              h table.Papers;
        }
        | table.Halls ↦ record {
          rises = up table.Halls;
          forms = forms _ hall_tells (λ k x is. tt) _ _ _ (f table.Halls) (h table.Halls) (λ e has. tt);
          same =
              h table.Halls;
        }
        | table.Openings ↦ record {
          rises = up table.Openings;
          forms = forms _ opening_tells (λ k x is. tt) _ _ _ (f table.Openings) (h table.Openings) (λ e has. tt);
          same = h table.Openings;
        }
        | table.Candidates ↦ record {
          rises = up table.Candidates;
          forms =
              forms _ candidate_tells (λ k x is. tt) _ _ _ (f table.Candidates) (h table.Candidates) (λ e has. tt);
          same = h table.Candidates;
        }
        | table.Entries ↦ record {
          rises = up table.Entries;
          forms = forms _ entry_tells (λ k x is. tt) _ _ _ (f table.Entries) (h table.Entries) (λ e has. tt);
          same =
              h table.Entries;
        }
        | table.Arrangements ↦ record {
          rises = up table.Arrangements;
          forms =
              forms _ arrangement_tells (λ k x is. tt) _ _ _ (f table.Arrangements) (h table.Arrangements)
              (λ e has. tt);
          same = h table.Arrangements;
        }
        | table.Appeals ↦ record {
          rises = up table.Appeals;
          forms =
              forms _ appeal_tells (λ k a is. is.6) _ _ _ (f table.Appeals) (h table.Appeals)
              (each_value (λ a. IsDay a.lodged) office.relations.appeals days.appeals);
          same = h table.Appeals;
        }
        | table.Standing ↦ record {
          rises = up table.Standing;
          forms = forms _ standing_tells (λ k x is. tt) _ _ _ (f table.Standing) (h table.Standing) (λ e has. tt);
          same = h table.Standing;
        }
      ],
      record {
        rises = order.seats;
        forms = forms _ seat_tells (λ k x is. tt) _ _ _ formed.1 held.seats (λ e has. tt);
        same = held.seats;
      },
    )
