-- What changes of openings change in the lists: those of halls alone. That of the session of a hall that is closed is
-- without it.
use Rattle.exam_rules.proofs.Words.{Global, is_at, IsTotalOrder, on_total, then_total, nat_list_cmp_total}
use Rattle.exam_rules.proofs.Words.{AllByRecursion, IsStrictlySortedBy, keys_of, Less, is_eq, nat_cmp, tied_itself}
use Rattle.exam_rules.proofs.Words.{IsStrictlySortedBy-filter, sorted_head, sorted_tail, exact_bytes, exact_pairs}
use Rattle.exam_rules.proofs.Words.{Entrant, SessionLists, Opening, AreListsOf, entrants, listed, AreInOrder, Openings}
use Rattle.exam_rules.proofs.Words.{Code, Relations, code_cmp, opening_cmp, same_code, open_halls}
use Rattle.std.proofs.Common.{◌≡◌, not, Bool, true, false, cond, List, [], ◌∷◌, filter, map, Vec, refl, ap, sym, subst}
use Rattle.std.proofs.Common.{◌∙◌}
use Rattle.std.specs.BTreeMap.{BTreeMap}
use Rattle.std.specs.Cmp.{Equal-is}
use Rattle.std.proofs.lemmas.Map.Lookups.{CmpEqualImpliesEq}
use Rattle.exam_rules.specs.Lists.{closed, without_hall}
use Rattle.exam_rules.specs.Relations.{remove_row}
use Rattle.exam_rules.specs.Sessions as sessions
use Rattle.exam_rules.proofs.Listed.{entrants_are_members}
use Rattle.exam_rules.proofs.Naming.{halls_rise, later_is_other, same_code_exact, same_code_itself}

openings_exact : CmpEqualImpliesEq opening_cmp
openings_exact = exact_pairs code_cmp code_cmp exact_bytes exact_bytes

openings_total : IsTotalOrder opening_cmp
openings_total = then_total (on_total (λ (k : Code × Code). k.0) nat_list_cmp_total)
    (on_total (λ (k : Code × Code). k.1) nat_list_cmp_total)

abbrev Rows : Type 0
Rows = List ((Code × Code) × Opening)

abbrev codes_of : Rows → List Code
codes_of rows = map (λ (o : (Code × Code) × Opening). o.0.1) rows

abbrev halls_in : Code → Rows → List Code
halls_in t rows = codes_of (filter (λ o. same_code o.0.0 t) rows)

module _ (s h : Code) where
  -- greater codes all stay
  all_stay : (xs : List Code) → AllByRecursion (λ k. code_cmp h k ≡ Less) xs → without_hall h xs ≡ xs
  all_stay [] up = refl
  all_stay (k ∷ xs) up =
      ap (λ b. cond (not b) (k ∷ without_hall h xs) (without_hall h xs))
      (later_is_other same_code same_code_exact code_cmp nat_list_cmp_total h k up.0)
      ∙ ap (λ ys. k ∷ ys) (all_stay xs up.1)

  key_of : (e : (Code × Code) × Opening) → is_at (opening_cmp (s, h)) e.0 ≡ true → (s, h) ≡ e.0
  key_of e at = openings_exact (s, h) e.0 ((Equal-is (opening_cmp (s, h) e.0)).0 at)

  -- in the session
  removed_here : (rows : Rows) → IsStrictlySortedBy opening_cmp (keys_of rows)
      → halls_in s (remove_row opening_cmp rows (s, h)) ≡ without_hall h (halls_in s rows)
  removed_here [] up = refl
  removed_here (e ∷ es) up =
      inner (is_at (opening_cmp (s, h)) e.0) refl (removed_here es (sorted_tail opening_cmp e.0 (keys_of es) up))
    where
      left : Rows
      left = remove_row opening_cmp es (s, h)

      own_of : (s, h) ≡ e.0 → same_code e.0.0 s ≡ true
      own_of same = ap (λ (k : Code × Code). same_code k.0 s) (sym same) ∙ same_code_itself s

      gone : (s, h) ≡ e.0 → halls_in s es ≡ without_hall h (halls_in s (e ∷ es))
      gone same =
          let rising : IsStrictlySortedBy code_cmp (e.0.1 ∷ halls_in s es) =
          subst (λ b. IsStrictlySortedBy code_cmp
          (codes_of (cond b (e ∷ filter (λ o. same_code o.0.0 s) es) (filter (λ o. same_code o.0.0 s) es))))
          (own_of same) (halls_rise s (e ∷ es) up) in
          let above : AllByRecursion (λ k. code_cmp h k ≡ Less) (halls_in s es) =
          subst (λ (k : Code × Code). AllByRecursion (λ q. code_cmp k.1 q ≡ Less) (halls_in s es)) (sym same)
          (sorted_head code_cmp e.0.1 (halls_in s es) rising) in
          sym
          (ap (λ b. without_hall h
          (codes_of (cond b (e ∷ filter (λ o. same_code o.0.0 s) es) (filter (λ o. same_code o.0.0 s) es))))
          (own_of same)
          ∙ ap (λ b. cond (not b) (e.0.1 ∷ without_hall h (halls_in s es)) (without_hall h (halls_in s es)))
          (ap (λ (k : Code × Code). same_code k.1 h) (sym same) ∙ same_code_itself h)
          ∙ all_stay (halls_in s es) above)

      other_hall : is_at (opening_cmp (s, h)) e.0 ≡ false → same_code e.0.0 s ≡ true → (b : Bool)
          → same_code e.0.1 h ≡ b → b ≡ false
      other_hall other own true same =
          let here : e.0 ≡ (s, h) =
          ap (λ (k : Code). (k, e.0.1)) (same_code_exact e.0.0 s own)
          ∙ ap (λ (k : Code). (s, k)) (same_code_exact e.0.1 h same) in
          absurd (let differ : true ≡ false =
          sym (ap (is_at (opening_cmp (s, h))) here ∙ ap is_eq (tied_itself openings_total (s, h))) ∙ other in cc)
      other_hall other own false same = refl

      stays : is_at (opening_cmp (s, h)) e.0 ≡ false → halls_in s left ≡ without_hall h (halls_in s es) → (b : Bool)
          → same_code e.0.0 s ≡ b
          → codes_of (cond b (e ∷ filter (λ o. same_code o.0.0 s) left) (filter (λ o. same_code o.0.0 s) left))
          ≡ without_hall h (codes_of
          (cond b (e ∷ filter (λ o. same_code o.0.0 s) es) (filter (λ o. same_code o.0.0 s) es)))
      stays other rest true own =
          ap (λ xs. e.0.1 ∷ xs) rest
          ∙ sym (ap (λ b. cond (not b) (e.0.1 ∷ without_hall h (halls_in s es)) (without_hall h (halls_in s es)))
          (other_hall other own (same_code e.0.1 h) refl))
      stays other rest false own = rest

      inner : (b : Bool) → is_at (opening_cmp (s, h)) e.0 ≡ b → halls_in s left ≡ without_hall h (halls_in s es)
          → halls_in s (cond b es (e ∷ left)) ≡ without_hall h (halls_in s (e ∷ es))
      inner true at rest = gone (key_of e at)
      inner false other rest = stays other rest (same_code e.0.0 s) refl

  removed_elsewhere : (t : Code) → same_code s t ≡ false → (rows : Rows)
      → halls_in t (remove_row opening_cmp rows (s, h)) ≡ halls_in t rows
  removed_elsewhere t away [] = refl
  removed_elsewhere t away (e ∷ es) = inner (is_at (opening_cmp (s, h)) e.0) refl (removed_elsewhere t away es)
    where
      left : Rows
      left = remove_row opening_cmp es (s, h)

      stays : halls_in t left ≡ halls_in t es → (b : Bool)
          → codes_of (cond b (e ∷ filter (λ o. same_code o.0.0 t) left) (filter (λ o. same_code o.0.0 t) left))
          ≡ codes_of (cond b (e ∷ filter (λ o. same_code o.0.0 t) es) (filter (λ o. same_code o.0.0 t) es))
      stays rest true = ap (λ xs. e.0.1 ∷ xs) rest
      stays rest false = rest

      inner : (b : Bool) → is_at (opening_cmp (s, h)) e.0 ≡ b → halls_in t left ≡ halls_in t es
          → halls_in t (cond b es (e ∷ left)) ≡ halls_in t (e ∷ es)
      inner true at rest =
          sym (ap (λ b. codes_of
          (cond b (e ∷ filter (λ o. same_code o.0.0 t) es) (filter (λ o. same_code o.0.0 t) es)))
          (ap (λ (k : Code × Code). same_code k.0 t) (sym (key_of e at)) ∙ away))
      inner false other rest = stays rest (same_code e.0.0 t)

  pub closed_all : (r : Relations) (old new : SessionLists) (list : List Code) → AreInOrder r → AreListsOf r old
      → list ≡ without_hall h (listed old.halls.entries s)
      → ((t : Code) → listed new.halls.entries t ≡ cond (same_code s t) list (listed old.halls.entries t))
      → new.members.entries ≡ old.members.entries → AreListsOf (closed r s h) new
  closed_all r old new list up are is put members = record {
    numbers = entrants_are_members (closed r s h);
    members = λ t. ap (λ (rows : List (Code × Vec Entrant Global)). listed rows t) members ∙ are.members t;
    halls = λ t. put t ∙ halls t (same_code s t) refl;
    rising = λ t. record { numbers = (are.rising t).numbers; codes = codes t (same_code s t) refl };
  }
    where
      here : open_halls (closed r s h) s ≡ without_hall h (open_halls r s)
      here = removed_here r.openings (up Openings)

      halls : (t : Code) (b : Bool) → same_code s t ≡ b
          → cond b list (listed old.halls.entries t) ≡ open_halls (closed r s h) t
      halls t true same = is ∙ ap (without_hall h) (are.halls s) ∙ sym here
          ∙ ap (open_halls (closed r s h)) (same_code_exact s t same)
      halls t false other = are.halls t ∙ sym (removed_elsewhere t other r.openings)

      codes : (t : Code) (b : Bool) → same_code s t ≡ b → IsStrictlySortedBy code_cmp (open_halls (closed r s h) t)
      codes t true same =
          subst (λ u. IsStrictlySortedBy code_cmp (open_halls (closed r s h) u)) (same_code_exact s t same)
          (subst (IsStrictlySortedBy code_cmp) (sym here)
          (IsStrictlySortedBy-filter code_cmp (λ k. not (same_code k h)) (open_halls r s) (are.rising s).codes))
      codes t false other =
          subst (IsStrictlySortedBy code_cmp) (sym (removed_elsewhere t other r.openings)) (are.rising t).codes

-- ---- all halls

pub halls_anew : (r t : Relations) (old new : SessionLists) → AreListsOf r old → t ≡ record r { openings = t.openings }
    → ((s : Code) → listed new.halls.entries s ≡ open_halls t s)
    → ((s : Code) → IsStrictlySortedBy code_cmp (open_halls t s)) → new.members ≡ old.members → AreListsOf t new
halls_anew r t old new are only halls up members = record {
  numbers = entrants_are_members t;
  members = λ s. ap (λ (rows : BTreeMap Code (Vec Entrant Global)). listed rows.entries s) members ∙ are.members s
      ∙ sym (ap (λ (u : Relations). entrants u s) only);
  halls = halls;
  rising = λ s. record {
    numbers = subst (λ (u : Relations). IsStrictlySortedBy nat_cmp (sessions.members u s)) (sym only)
        (are.rising s).numbers;
    codes = up s;
  };
}
