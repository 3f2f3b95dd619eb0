-- What the rows of the eleven tables refer to: if each has it, no foreign key forbids a statement.
use Rattle.exam_sql.proofs.Words.{both_true, AllByRecursion, list_any, IsPermutation-sym, Row, plain, Trees, Refers}
use Rattle.exam_sql.proofs.Words.{agree, Has, all_has, all_from, some_from, some_has, has_mapped, mapped_has, Database}
use Rattle.exam_sql.proofs.Words.{ContainsIn, Holds, places, bare, Described, store_schema}
use Rattle.std.proofs.Common.{◌||◌, ◌≡◌, ℕ, List, [], ◌∷◌, Bool, true, refl, subst, ◌∙◌}
use Rattle.std.proofs.lemmas.Bool.{or_right}
use Rattle.sqlite_value.specs.Keys.{joined}
use Rattle.sqlite_schema.specs.declared.schema.Among.TheVariants as among
use Rattle.sqlite_schema.specs.Names.{same_name}
use Rattle.exam_sql.specs.Tables as tables
use Rattle.sqlite_rules.proofs.ListLemmas.{has_got}
use Rattle.exam_sql.proofs.EachTable.{keyed}
use Rattle.exam_sql.proofs.Names.{Name, of, Session, Paper, Hall, Candidate, Opening, Entry, Arrangement, Appeal, Seat}
use Rattle.exam_sql.proofs.Names.{Standing}
use Rattle.exam_sql.proofs.Queries.{has_permuted}

-- a foreign key: the tree of the rows that refer to others, the places of their columns, and the tree and the key of
-- those others
pub record Link : Type 0 where
  pub child : ℕ
  pub columns : List ℕ
  pub parent : ℕ
  pub key : List ℕ

abbrev pub link : ℕ → List ℕ → ℕ → List ℕ → Link
link child columns parent key = record { child = child; columns = columns; parent = parent; key = key }

-- from these columns of the one table to the key of the other
abbrev pub link_to : Described → List ℕ → Described → Link
link_to child columns parent = link child.table.tree columns parent.table.tree parent.key

-- the foreign keys of the eleven tables, by their rows read by columns
abbrev pub links : List Link
links =
    link_to tables.paper (3 ∷ []) tables.session ∷ link_to tables.opening (1 ∷ []) tables.session
    ∷ link_to tables.opening (2 ∷ []) tables.hall
    ∷ link_to tables.entry (1 ∷ []) tables.candidate ∷ link_to tables.entry (2 ∷ []) tables.paper
    ∷ link_to tables.arrangement (1 ∷ []) tables.candidate
    ∷ link_to tables.appeal (1 ∷ []) tables.candidate ∷ link_to tables.appeal (3 ∷ []) tables.session
    ∷ link_to tables.seat (2 ∷ []) tables.candidate ∷ link_to tables.seat (1 ∷ 3 ∷ []) tables.opening
    ∷ link_to tables.standing (1 ∷ 2 ∷ []) tables.appeal ∷ []

-- one of these rows is the one that the row refers to
abbrev pub has_parent : Link → List Row → Row → Bool
has_parent l parents row = list_any (λ p. agree plain l.key p l.columns row) parents

-- each row has what it refers to
abbrev pub LinkHolds : Trees → Link → Type 0
LinkHolds all l = AllByRecursion (λ r. has_parent l (all l.parent) r ≡ true) (all l.child)

abbrev pub AllRefer : Trees → Type 0
AllRefer all = AllByRecursion (LinkHolds all) links

module _ {child_places parent_places : List ℕ} {kept_child child kept_parent parent : List Row}
    (children : Holds child_places kept_child child) (parents : Holds parent_places kept_parent parent)
    (test kept_test : Row → Row → Bool)
    (same : (p r : Row) → kept_test p r ≡ test (bare parent_places p) (bare child_places r))
    (refers_all : AllByRecursion (λ r. list_any (λ p. test p r) parent ≡ true) child) where
  -- stored rows refer as the rows read by columns do, unless it is skipped
  kept : (skipped : Bool) (r : Row) → Has kept_child r → (skipped || list_any (λ p. kept_test p r) kept_parent) ≡ true
  kept skipped r h =
      let meant : list_any (λ p. test p (bare child_places r)) parent ≡ true =
      all_has _ child (bare child_places r) refers_all
      (has_permuted _ _ _ children.same (mapped_has (bare child_places) kept_child r h)) in
      let p = some_has (λ p. test p (bare child_places r)) parent meant in
      let k = has_mapped (bare parent_places) kept_parent p.0
      (has_permuted _ _ _ (IsPermutation-sym _ _ parents.same) p.1) in
      or_right _ _ (some_from (λ p. kept_test p r) kept_parent k.0 k.1
      (same k.0 r ∙ subst (λ q. test q (bare child_places r) ≡ true) k.2 p.2))

module _ (db all : Trees) where
  at : AllByRecursion (λ t. Holds (places t) (db t.tree) (all t.tree)) store_schema.tables → (n : Name)
      → Holds (places (of n).table) (db (of n).table.tree) (all (of n).table.tree)
  at rows n = all_has _ store_schema.tables (of n).table rows
      (has_got store_schema.tables (of n).at (of n).table (keyed n).place)

  from_rows : ((n : Name) → Holds (places (of n).table) (db (of n).table.tree) (all (of n).table.tree)) → AllRefer all
      → Refers among.All store_schema db
  unfolding store_schema same_name joined
  from_rows at all_refer = (
    all_from _ (db 0) (λ r h. refl),
    (
      all_from _ (db 1) (λ r h. refl),
      (
        all_from _ (db 3) (λ r h. both_true (kept (at Paper) (at Session) _ _ (λ p r. refl) (all_refer.0) _ r h) refl),
        (
          all_from _ (db 5) (λ r h. refl),
          (
            all_from _ (db 7) (λ r h. refl),
            (
              all_from _ (db 8) (λ r h. both_true
                  (kept (at Opening) (at Session) _ _ (λ p r. refl) (all_refer.1.0) _ r h)
                  (both_true (kept (at Opening) (at Hall) _ _ (λ p r. refl) (all_refer.1.1.0) _ r h) refl)),
              (
                all_from _ (db 10) (λ r h. both_true
                    (kept (at Entry) (at Candidate) _ _ (λ p r. refl) (all_refer.1.1.1.0) _ r h)
                    (both_true (kept (at Entry) (at Paper) _ _ (λ p r. refl) (all_refer.1.1.1.1.0) _ r h) refl)),
                (
                  all_from _ (db 12) (λ r h. both_true
                      (kept (at Arrangement) (at Candidate) _ _ (λ p r. refl) (all_refer.1.1.1.1.1.0) _ r h) refl),
                  (
                    all_from _ (db 13) (λ r h. both_true
                        (kept (at Appeal) (at Candidate) _ _ (λ p r. refl) (all_refer.1.1.1.1.1.1.0) _ r h)
                        (both_true (kept (at Appeal) (at Session) _ _ (λ p r. refl) (all_refer.1.1.1.1.1.1.1.0) _ r h)
                        refl)),
                    (
                      all_from _ (db 15) (λ r h. both_true
                          (kept (at Seat) (at Candidate) _ _ (λ p r. refl) (all_refer.1.1.1.1.1.1.1.1.0) _ r h)
                          (both_true (kept (at Seat) (at Opening) _ _ (λ p r. refl)
                          (all_refer.1.1.1.1.1.1.1.1.1.0) _ r h) refl)),
                      (
                        all_from _ (db 17) (λ r h. both_true
                            (kept (at Standing) (at Appeal) _ _ (λ p r. refl) (all_refer.1.1.1.1.1.1.1.1.1.1.0) _ r h)
                            refl),
                        tt,
                      ),
                    ),
                  ),
                ),
              ),
            ),
          ),
        ),
      ),
    ),
  )

-- If what each row refers to exists, the foreign keys hold.
pub refers : (db : Database) (all : Trees) → ContainsIn store_schema db all → AllRefer all
    → Refers among.All store_schema db.trees
refers db all was all_refer = from_rows db.trees all (at db.trees all was.rows) all_refer
