-- The rows of one table after many puts and deletes.
use Rattle.exam_sql.proofs.Words.{AllByRecursion, IsPermutation, cases_Bool, eqb-true, eq-eqb, IsPermutation-refl}
use Rattle.exam_sql.proofs.Words.{IsPermutation-trans, Row, Trees, with_tree, filter_all, all_of, IsPermutation-filter}
use Rattle.exam_sql.proofs.Words.{Schema, Table, Database, places, Holds, ContainsIn, put, delete, same_key}
use Rattle.std.proofs.Common.{◌≡◌, inl, inr, ℕ, true, false, not, ◌||◌, ◌==◌, List, [], ◌∷◌, ◌++◌, filter, refl, sym}
use Rattle.std.proofs.Common.{ap, ap₂, subst, ◌∙◌, append_assoc}
use Rattle.std.proofs.lemmas.List.Elements.{filter-append}
use Rattle.std.proofs.lemmas.List.Sorted.{IsPermutation-append_left, IsPermutation-append_comm}
use Rattle.exam_sql.specs.Changes.{put_all, delete_all, with_puts, with_deletes, is_among, AreApart}
use Rattle.exam_sql.proofs.RowLemmas.{twice}

-- a database holds its rows in any order
pub contains_same : (schema : Schema) (db : Database) (all more : Trees) → ContainsIn schema db all
    → AllByRecursion (λ t. IsPermutation (all t.tree) (more t.tree)) schema.tables → ContainsIn schema db more
contains_same schema db all more was same =
    record { schema_is = was.schema_is; rows = each schema.tables was.rows same }
  where
    each : (tables : List Table) → AllByRecursion (λ t. Holds (places t) (db.trees t.tree) (all t.tree)) tables
        → AllByRecursion (λ t. IsPermutation (all t.tree) (more t.tree)) tables
        → AllByRecursion (λ t. Holds (places t) (db.trees t.tree) (more t.tree)) tables
    each [] held same = tt
    each (t ∷ tables) held same = (
      record { shaped = held.0.shaped; same = IsPermutation-trans _ _ _ held.0.same same.0 },
      each tables held.1 same.1,
    )

set_twice : (all : Trees) (tree u : ℕ) (one two : List Row)
    → with_tree (with_tree all tree one) tree two u ≡ with_tree all tree two u
set_twice all tree u one two = elim (cases_Bool (u == tree)) [ inl is ↦ rw is | inr other ↦ rw other ]

set_same : (all : Trees) (tree u : ℕ) → with_tree all tree (all tree) u ≡ all u
set_same all tree u =
    elim (cases_Bool (u == tree)) [ inl is ↦ rw is (ap all (sym (eqb-true u tree is))) | inr other ↦ rw other ]

pub set_here : (all : Trees) (tree : ℕ) (rows : List Row) → with_tree all tree rows tree ≡ rows
set_here all tree rows = rw (eq-eqb tree tree refl)

-- many puts of one table set it once
pub with_puts_is : (tree : ℕ) (key : List ℕ) (rows : List Row) (all : Trees) (u : ℕ)
    → with_puts tree key rows all u ≡ with_tree all tree (put_all key rows (all tree)) u
with_puts_is tree key [] all u = sym (set_same all tree u)
with_puts_is tree key (r ∷ more) all u =
    let mid = with_tree all tree (put key r (all tree)) in
    with_puts_is tree key more mid u
    ∙ ap (λ rows. with_tree mid tree (put_all key more rows) u) (set_here all tree (put key r (all tree)))
    ∙ set_twice all tree u (put key r (all tree)) _

-- many deletes of one table set it once
pub with_deletes_is : (tree : ℕ) (key : List ℕ) (rows : List Row) (all : Trees) (u : ℕ)
    → with_deletes tree key rows all u ≡ with_tree all tree (delete_all key rows (all tree)) u
with_deletes_is tree key [] all u = sym (set_same all tree u)
with_deletes_is tree key (r ∷ more) all u =
    let mid = with_tree all tree (delete key r (all tree)) in
    with_deletes_is tree key more mid u
    ∙ ap (λ rows. with_tree mid tree (delete_all key more rows) u) (set_here all tree (delete key r (all tree)))
    ∙ set_twice all tree u (delete key r (all tree)) _

-- the rows that are put, and those of the old ones with other keys
pub put_all_is : (key : List ℕ) (news rows : List Row) → AreApart key news
    → IsPermutation (put_all key news rows) (news ++ filter (λ r. not (is_among key news r)) rows)
put_all_is key [] rows apart =
    subst (IsPermutation rows) (sym (filter_all (λ _. true) rows (all_of _ (λ _. refl) rows))) (IsPermutation-refl rows)
put_all_is key (r ∷ news) rows apart =
    let left = filter (λ x. not (is_among key (r ∷ news) x)) rows in
    let kept : filter (λ x. not (is_among key news x)) (put key r rows) ≡ r ∷ left =
    rw apart.0 (ap (λ l. r ∷ l) (twice (λ x. same_key key x r) (is_among key news) rows)) in
    let first = subst (λ l. IsPermutation (put_all key news (put key r rows)) (news ++ l)) kept
    (put_all_is key news (put key r rows) apart.1) in
    let moved : IsPermutation (news ++ (r ∷ left)) (r ∷ (news ++ left)) =
    subst (λ l. IsPermutation l (r ∷ (news ++ left))) (append_assoc news (r ∷ []) left)
    (IsPermutation-append_left left (news ++ r ∷ []) (r ∷ news) (IsPermutation-append_comm news (r ∷ []))) in
    IsPermutation-trans _ _ _ first moved

-- the rows with other keys
pub delete_all_is : (key : List ℕ) (gone rows : List Row)
    → delete_all key gone rows ≡ filter (λ r. not (is_among key gone r)) rows
delete_all_is key [] rows = sym (filter_all (λ _. true) rows (all_of _ (λ _. refl) rows))
delete_all_is key (k ∷ gone) rows =
    delete_all_is key gone (delete key k rows) ∙ twice (λ r. same_key key r k) (is_among key gone) rows

all_not : (key : List ℕ) (gone news : List Row) → AllByRecursion (λ r. is_among key gone r ≡ false) news
    → AllByRecursion (λ r. not (is_among key gone r) ≡ true) news
all_not key gone [] h = tt
all_not key gone (r ∷ news) h = (ap not h.0, all_not key gone news h.1)

-- The rows that are put and those of the old ones with keys that are neither put nor deleted are the new ones: so the
-- puts and then the deletes make the new rows of the old.
pub differs_by : (key : List ℕ) (old new news gone : List Row) → AreApart key news
    → AllByRecursion (λ r. is_among key gone r ≡ false) news
    → IsPermutation (news ++ filter (λ r. not (is_among key news r || is_among key gone r)) old) new
    → IsPermutation (delete_all key gone (put_all key news old)) new
differs_by key old new news gone apart spared same =
    let test = λ (r : Row). not (is_among key gone r) in
    let left = filter (λ r. not (is_among key news r)) old in
    let all : IsPermutation (filter test (put_all key news old)) (filter test (news ++ left)) =
    IsPermutation-filter test _ _ (put_all_is key news old apart) in
    let parts : filter test (news ++ left) ≡ news
    ++ filter (λ r. not (is_among key news r || is_among key gone r)) old =
    filter-append test news left
    ∙ ap₂ ◌++◌ (filter_all test news (all_not key gone news spared))
    (twice (is_among key news) (is_among key gone) old) in
    IsPermutation-trans _ _ _
    (subst (λ l. IsPermutation l (news ++ filter (λ r. not (is_among key news r || is_among key gone r)) old))
    (sym (delete_all_is key gone (put_all key news old)))
    (subst (IsPermutation (filter test (put_all key news old))) parts all)) same
