-- What the tests of keys say of rows.
use Rattle.exam_sql.proofs.Words.{is_eq, list_any, both_true, and_parts, eq-eqb, Value, Null, Int, Text, Row, value_cmp}
use Rattle.exam_sql.proofs.Words.{plain, first_key, Trees, rowid, IsShaped, Unique, Schema, Table, equal, passes, cast}
use Rattle.exam_sql.proofs.Words.{Has, id_in, all_has, some_from, int_is, tied_same, places, bare, same_key, same_rowid}
use Rattle.std.proofs.Common.{◌≡◌, ℕ, ℤ, Bool, true, false, not, ◌&&◌, ◌||◌, ◌==◌, bytes_eq, cond, if◌then◌else◌, List}
use Rattle.std.proofs.Common.{Some, Ordering, Less, Equal, Greater, refl, sym, ap, subst, subst₂, ◌∙◌, arith}
use Rattle.std.proofs.Common.{true≢false}
use Rattle.std.specs.Ordering.{is_ne}
use Rattle.std.specs.FinMap.{nat_cmp-IsAntisymmetric, slice_cmp-IsAntisymmetric}
use Rattle.std.proofs.lemmas.Cmp.{tied_itself}
use Rattle.std.proofs.lemmas.Bool.Decides.{nat_tests}
use Rattle.std.proofs.lemmas.Int.{ints}
use Rattle.std.proofs.lemmas.Slice.Eq.{bytes_eq-Decides}
use Rattle.sqlite_value.proofs.OrderLemmas.{value_cmp-Int, value_cmp-Text, value_cmp_total}
use Rattle.sqlite_value.proofs.KeyLemmas.{class_tied}
use Rattle.sqlite_trees.specs.declared.store.Shape.TheVariants.{Table as TableShape}
use Rattle.sqlite_sql.specs.Ops.{unary, binary, is_true, from_truth}
use Rattle.sqlite_schema.specs.declared.schema.Kind.TheVariants.{Integer}
use Rattle.sqlite_schema.specs.Rules.{differ}
use Rattle.exam_sql.specs.Keyed.{IsAlone}

either : (b : Bool) (x : Value) → cond b x x ≡ x
either true x = refl
either false x = refl

pub cast_int : (n : ℤ) → cast Integer (Int n) ≡ Int n
unfolding unary
cast_int n = either _ (Int n)

pub cast_null : cast Integer Null ≡ Null
unfolding unary
cast_null = either _ Null

said : (b : Bool) → is_true (from_truth (Some b)) ≡ b
said true = refl
said false = refl

pub equal_is : (o : Ordering) → is_eq o ≡ true → o ≡ Equal
equal_is Less h = absurd cc
equal_is Equal h = refl
equal_is Greater h = absurd cc

tied_unless : (c : Bool) (o : Ordering) → is_true (if c then Null else from_truth (Some (is_eq o))) ≡ true → o ≡ Equal
tied_unless true o h = absurd cc
tied_unless false o h = equal_is o (sym (said _) ∙ h)

-- what SQL takes for equal is tied in the order of values
pub tied_from : (a b : Value) → equal (first_key plain).collation a b ≡ true → value_cmp a b ≡ Equal
unfolding binary first_key
tied_from a b h = tied_unless _ _ h

pub equal_itself : (n : ℤ) → equal (first_key plain).collation (Int n) (Int n) ≡ true
unfolding binary first_key
equal_itself n = said _ ∙ ap is_eq (tied_itself value_cmp_total (Int n))

pub same_ints : (m n : ℤ) → value_cmp (Int m) (Int n) ≡ Equal → m ≡ n
same_ints m n tie = let e = sym (value_cmp-Int m n) ∙ tie in grind (arith, ints, nat_tests)

pub text_itself : (t : List ℕ) → equal (first_key plain).collation (Text t) (Text t) ≡ true
unfolding binary first_key
text_itself t = said _ ∙ ap is_eq (tied_itself value_cmp_total (Text t))

-- numbers that SQL takes for equal are one
pub int_same : (m n : ℤ) → equal (first_key plain).collation (Int m) (Int n) ≡ true → m ≡ n
int_same m n h = same_ints m n (tied_from (Int m) (Int n) h)

-- what SQL takes for equal to a text is the text
pub text_same : (v : Value) (t : List ℕ) → equal (first_key plain).collation v (Text t) ≡ true → v ≡ Text t
text_same (Text s) t h =
    ap Text (slice_cmp-IsAntisymmetric nat_cmp-IsAntisymmetric s t
    (sym (value_cmp-Text s t) ∙ tied_from (Text s) (Text t) h))
text_same v t h = absurd (let class = class_tied v (Text t) (tied_from v (Text t) h) in cc)

differ_ints : (m n : ℤ) → differ (Int m) (Int n) ≡ is_ne (value_cmp (Int m) (Int n))
unfolding binary
differ_ints m n = said _

pub same_place : (a b : ℕ) (xs ys : List ℕ) → (not (a == b) || bytes_eq xs ys) ≡ true → a ≡ b → xs ≡ ys
same_place a b xs ys h e = (bytes_eq-Decides xs ys).0 (rw (eq-eqb a b e) at h)

-- rows of a table with the same rowid are one
pub tied_rows : (rows : List Row) (r s : Row) → IsShaped TableShape rows → Has rows r → Has rows s
    → same_rowid r s ≡ true → r ≡ s
tied_rows rows r s shaped h k same =
    let a = int_is (rowid r) (all_has _ rows r shaped.1 h) in
    let b = int_is (rowid s) (all_has _ rows s shaped.1 k) in
    let numbers : equal (first_key plain).collation (Int (id_in (rowid r))) (Int (id_in (rowid s))) ≡ true =
    subst₂ (λ x y. equal (first_key plain).collation x y ≡ true) a b (and_parts _ _ same).0 in
    tied_same rows r s shaped.0 h k (subst₂ (λ x y. value_cmp x y ≡ Equal) (sym a) (sym b) (tied_from _ _ numbers))

-- a row has its own rowid
pub ties_itself : (rows : List Row) (r : Row) → IsShaped TableShape rows → Has rows r → same_rowid r r ≡ true
ties_itself rows r shaped h =
    let whole = int_is (rowid r) (all_has _ rows r shaped.1 h) in
    subst (λ v. (equal (first_key plain).collation v v && true) ≡ true) (sym whole) (both_true (equal_itself _) refl)

tie_from : (o : Ordering) → (is_ne o ≡ true → ⊥) → o ≡ Equal
tie_from Less h = absurd (h refl)
tie_from Equal h = refl
tie_from Greater h = absurd (h refl)

-- A unique index has each key once.
pub alone_by_index : (schema : Schema) (table : Table) (key : List ℕ)
    → ((db : Trees) (s : Row) → passes Unique schema db table s ≡ true
    → list_any (λ r. same_key key (bare (places table) r) (bare (places table) s) && differ (rowid r) (rowid s))
    (db table.tree) ≡ false)
    → IsAlone schema table key
alone_by_index schema table key none db shaped unique r s h k same =
    let a = int_is (rowid r) (all_has _ (db table.tree) r shaped.1 h) in
    let b = int_is (rowid s) (all_has _ (db table.tree) s shaped.1 k) in
    let apart : is_ne (value_cmp (Int (id_in (rowid r))) (Int (id_in (rowid s)))) ≡ true → ⊥ = λ ne.
    let other : differ (rowid r) (rowid s) ≡ true =
    subst₂ (λ x y. differ x y ≡ true) (sym a) (sym b) (differ_ints _ _ ∙ ne) in
    true≢false (sym (some_from _ (db table.tree) r h (both_true same other))
    ∙ none db s (all_has _ (db table.tree) s unique k)) in
    tied_same (db table.tree) r s shaped.0 h k
    (subst₂ (λ x y. value_cmp x y ≡ Equal) (sym a) (sym b) (tie_from _ apart))

-- The rowids are the keys.
pub alone_by_rowid : (schema : Schema) (table : Table) (key : List ℕ)
    → ((a b : Row) → same_key key (bare (places table) a) (bare (places table) b) ≡ same_rowid a b)
    → IsAlone schema table key
alone_by_rowid schema table key is db shaped unique r s h k same =
    tied_rows (db table.tree) r s shaped h k (sym (is r s) ∙ same)
