-- The lists of some sessions, kept and put back.
use Rattle.std.proofs.Common.{◌≡◌, Bool, true, false, cond, IsTrue, List, ◌∷◌, Option, None, Some, Vec, is_some, refl}
use Rattle.std.proofs.Common.{ap, sym, ◌∙◌}
use Rattle.std.specs.Global.{Global}
use Rattle.std.specs.BTreeMap.{BTreeMap, is_at}
use Rattle.std.specs.Cmp.{Equal-is}
use Rattle.std.specs.Cmp.Lexicographic.{nat_list_cmp_total, texts_ties}
use Rattle.std.specs.Map.{keys_of}
use Rattle.std.specs.Option.{option_map_or}
use Rattle.std.proofs.lemmas.Map.Keys.{sorted_head}
use Rattle.exam_rules.specs.declared.listing.Entrant.{Entrant}
use Rattle.exam_rules.specs.declared.listing.SessionLists.{SessionLists}
use Rattle.exam_rules.specs.Lists.{AreListsOf, listed}
use Rattle.exam_rules.specs.Orders.{KeysRise}
use Rattle.exam_rules.specs.Relations.{Code, Relations, code_cmp, has_row, row_at, same_code}
use Rattle.exam_rules.proofs.Naming.{same_code_exact, same_code_itself}
use Rattle.exam_commands.proofs.KeyedRows.{past_all}
use Rattle.exam_office.specs.declared.relisting.ListUndo.TheVariants as undo
use Rattle.exam_office.specs.Relisting.{ListsBack, SameLists, list_before}

abbrev Rows : Type 0
Rows = List (Code × Vec Entrant Global)

abbrev Kept : Type 0
Kept = BTreeMap Code (Vec Entrant Global)

-- the session's list, or this one
abbrev list_or : Option (Vec Entrant Global) → List Entrant → List Entrant
list_or o es = option_map_or (λ (list : Vec Entrant Global). list.items) o es

-- ---- put back, one by one

pub back_more : (rest : Rows) (t : Code) (list : Vec Entrant Global) (lists new : SessionLists)
    → KeysRise code_cmp ((t, list) ∷ rest)
    → ((s : Code) → listed new.members.entries s ≡ cond (same_code t s) list.items (listed lists.members.entries s))
    → (s : Code) → list_before rest new s ≡ list_before ((t, list) ∷ rest) lists s
back_more rest t list lists new up put s = inner (is_at (code_cmp s) t) refl
  where
    inner : (b : Bool) → is_at (code_cmp s) t ≡ b
        → list_before rest new s
        ≡ list_or (cond b (Some list) (row_at code_cmp rest s)) (listed lists.members.entries s)
    inner true same =
        let none : row_at code_cmp rest s ≡ None =
        past_all code_cmp nat_list_cmp_total t s rest ((Equal-is (code_cmp s t)).0 same)
        (sorted_head code_cmp t (keys_of rest) up) in
        let own : same_code t s ≡ true =
        ap (same_code t) (same_code_exact s t (texts_ties s t ∙ same)) ∙ same_code_itself t in
        ap (λ o. list_or o (listed new.members.entries s)) none ∙ put s
        ∙ ap (λ b. cond b list.items (listed lists.members.entries s)) own
    inner false other = ap (list_or (row_at code_cmp rest s))
        (put s ∙ ap (λ b. cond b list.items (listed lists.members.entries s)) (apart (same_code t s) refl))
      where
        apart : (b : Bool) → same_code t s ≡ b → b ≡ false
        apart true same = absurd
            (let differ : true ≡ false =
            sym (ap (λ u. is_at (code_cmp u) t) (sym (same_code_exact t s same)) ∙ sym (texts_ties t t)
            ∙ same_code_itself t) ∙ other in cc)
        apart false same = refl

-- ---- kept

-- one more is kept
pub more_back : (before kept : Kept) (session : Code) (copy : Vec Entrant Global) (lists new was : SessionLists)
    → has_row code_cmp before.entries session ≡ false
    → ((s : Code) → row_at code_cmp kept.entries s
    ≡ cond (is_at (code_cmp session) s) (Some copy) (row_at code_cmp before.entries s))
    → copy.items ≡ listed new.members.entries session → SameLists lists new
    → IsTrue (has_row code_cmp new.members.entries session)
    → ((s : Code) → IsTrue (has_row code_cmp lists.members.entries s)
    → IsTrue (has_row code_cmp new.members.entries s))
    → ListsBack (undo.Several before) lists was → ListsBack (undo.Several kept) new was
more_back before kept session copy lists new was none put is same own stay back = record {
  there = λ s has. there s (is_at (code_cmp session) s) refl (sym (ap is_some (put s)) ∙ has);
  members = λ s. ap (λ o. list_or o (listed new.members.entries s)) (put s)
      ∙ members s (is_at (code_cmp session) s) refl;
  halls = λ s. same.halls s ∙ back.halls s;
}
  where
    the_same : (s : Code) → is_at (code_cmp session) s ≡ true → session ≡ s
    the_same s at = same_code_exact session s (texts_ties session s ∙ at)

    there : (s : Code) (b : Bool) → is_at (code_cmp session) s ≡ b
        → is_some (cond b (Some copy) (row_at code_cmp before.entries s)) ≡ true
        → IsTrue (has_row code_cmp new.members.entries s)
    there s true at has = ap (has_row code_cmp new.members.entries) (sym (the_same s at)) ∙ own
    there s false at has = stay s (back.there s has)

    nothing : (o : Option (Vec Entrant Global)) → is_some o ≡ false → o ≡ None
    nothing None gone = refl
    nothing (Some list) gone = cc

    members : (s : Code) (b : Bool) → is_at (code_cmp session) s ≡ b
        → list_or (cond b (Some copy) (row_at code_cmp before.entries s)) (listed new.members.entries s)
        ≡ listed was.members.entries s
    members s true at =
        let at_own : list_before before.entries lists session ≡ listed lists.members.entries session =
        ap (λ o. list_or o (listed lists.members.entries session))
        (nothing (row_at code_cmp before.entries session) none) in
        is ∙ same.members session ∙ sym at_own ∙ back.members session ∙ ap (listed was.members.entries) (the_same s at)
    members s false at = ap (list_or (row_at code_cmp before.entries s)) (same.members s) ∙ back.members s

-- the list of one session, which is kept, has changed
pub changed_back : (before : Kept) (session : Code) (lists new was : SessionLists)
    → IsTrue (has_row code_cmp before.entries session)
    → ((s : Code) → same_code session s ≡ false → listed new.members.entries s ≡ listed lists.members.entries s)
    → new.halls.entries ≡ lists.halls.entries
    → ((s : Code) → IsTrue (has_row code_cmp lists.members.entries s)
    → IsTrue (has_row code_cmp new.members.entries s)) → ListsBack (undo.Several before) lists was
    → ListsBack (undo.Several before) new was
changed_back before session lists new was own others halls stay back = record {
  there = λ s has. stay s (back.there s has);
  members = λ s. members s (same_code session s) refl ∙ back.members s;
  halls = λ s. ap (λ (rows : List (Code × Vec Code Global)). listed rows s) halls ∙ back.halls s;
}
  where
    kept_is : (o : Option (Vec Entrant Global)) (a b : List Entrant) → is_some o ≡ true → list_or o a ≡ list_or o b
    kept_is None a b has = absurd (let differ : false ≡ true = has in cc)
    kept_is (Some list) a b has = refl

    members : (s : Code) (b : Bool) → same_code session s ≡ b
        → list_before before.entries new s ≡ list_before before.entries lists s
    members s true same =
        kept_is (row_at code_cmp before.entries s) (listed new.members.entries s) (listed lists.members.entries s)
        (ap (has_row code_cmp before.entries) (sym (same_code_exact session s same)) ∙ own)
    members s false other = ap (list_or (row_at code_cmp before.entries s)) (others s other)

-- lists that are the same are lists of the same
pub same_are : (r : Relations) (lists new : SessionLists) → SameLists lists new → AreListsOf r lists → AreListsOf r new
same_are r lists new same are = record {
  numbers = are.numbers;
  members = λ s. same.members s ∙ are.members s;
  halls = λ s. same.halls s ∙ are.halls s;
  rising = are.rising;
}
