-- What the check computes of each of the ten tables: how it is made, that it has one key, and how it is loaded.
use Rattle.exam_sql.proofs.Words.{and_parts, not-true, value_cmp, everything, understood, encode, begins, fits_kind}
use Rattle.exam_sql.proofs.Words.{table_defined_by}
use Rattle.exam_sql.proofs.Words.{is_free_name, same_name, same_rowid, IsLoad, made_schema, first_schema, made}
use Rattle.exam_sql.proofs.Words.{store_schema, IsKeyed, list_all, holds, Row, Null, bare, places, same_key, first_key}
use Rattle.std.proofs.Common.{Bool, Ok, [], ap, false, lit<, lit≤, refl, true, ◌||◌, ◌∷◌, ◌≡◌}
use Rattle.exam_sql.proofs.Names.{Name, each, of, target, Session, Candidate, Arrangement, Standing}
use Rattle.exam_sql.proofs.Loads.{load_of}
use Rattle.exam_sql.proofs.Keying.{by_index, by_rowid, or_false, or_twice}
use Rattle.exam_sql.proofs.Making.{Adds, IsCreate, adds_by, unplaced}
use Rattle.exam_sql.proofs.Quiet.{IsQuery}
use Rattle.exam_sql.proofs.Terms.{key_terms}

-- the text that makes it is understood, and nothing forbids the table
create : (n : Name) → IsCreate (made (of n).at) (of n).create
unfolding understood everything made
create = each (λ n. IsCreate (made (of n).at) (of n).create)
    (refl, refl, (refl, refl), (lit≤ tt, refl)) (refl, refl, (refl, refl), (lit≤ tt, refl))
    (refl, refl, (refl, refl), (lit≤ tt, refl)) (refl, refl, (refl, refl), (lit≤ tt, refl))
    (refl, refl, (refl, refl), (lit≤ tt, refl)) (refl, refl, (refl, refl), (lit≤ tt, refl))
    (refl, refl, (refl, refl), (lit≤ tt, refl)) (refl, refl, (refl, refl), (lit≤ tt, refl))
    (refl, refl, (refl, refl), (lit≤ tt, refl)) (refl, refl, (refl, refl), (lit≤ tt, refl))

-- it defines the table
defined : (n : Name) → table_defined_by (of n).create ≡ Ok (unplaced (of n))
unfolding everything encode value_cmp fits_kind is_free_name same_name begins lib.Ieee.is_nan lib.Ieee.lt
defined = each (λ n. table_defined_by (of n).create ≡ Ok (unplaced (of n))) refl refl refl refl refl refl refl refl refl
    refl

pub adds : (n : Name) → Adds (of n)
unfolding everything encode value_cmp fits_kind is_free_name same_name begins lib.Ieee.is_nan lib.Ieee.lt made
adds Session =
    adds_by (of Session) (create Session) (defined Session) refl refl refl refl refl refl
    ((of Session).create, (refl, refl))
    ((of Session).table.name, (refl, refl)) refl (lit< tt) (lit< tt) refl refl refl (lit< tt)
adds n =
    adds_by (of n) (create n) (defined n) refl refl refl refl refl refl ((of n).create, (refl, refl))
    ((of n).table.name, (refl, refl)) refl (lit< tt) (lit< tt) refl refl refl (lit< tt)

-- it has one key, and no foreign key acts on its rows
pub keyed : (n : Name) → IsKeyed store_schema (of n).at (of n).table (of n).key (target n)
unfolding store_schema
keyed Candidate = by_rowid (of Candidate) refl refl refl refl (λ a b. or_twice _) (λ a b. or_false _) (λ a b. refl)
keyed Arrangement = by_rowid (of Arrangement) refl refl refl refl (λ a b. or_twice _) (λ a b. or_false _) (λ a b. refl)
keyed n = by_index (of n) refl refl refl refl (λ a b. ap (λ x. same_rowid a b || x) (or_false _)) (λ a b. or_false _)
    (λ db s h. not-true _ (and_parts _ _ h).0)

-- the terms that ask for the row with a key ask what the tables' keys do
pub key_means : (n : Name) (params r : Row)
    → list_all (holds (params ∷ r ∷ [])) (key_terms (of n).table)
    ≡ same_key (of n).key (bare (places (of n).table) r) (Null ∷ params)
unfolding first_key
key_means Session params r = refl
key_means n params r = refl

-- the text that loads shows each column, with the table of marks or without it
abbrev pub Loads : Name → Type 0
Loads Standing = IsLoad store_schema (of Standing).table.tree (of Standing).load
Loads n = (has_marks : Bool) → IsLoad (made_schema has_marks) (of n).table.tree (of n).load

pub loads : (n : Name) → Loads n
unfolding understood everything store_schema first_schema
loads Standing = load_of store_schema (of Standing) refl refl (refl, refl) refl (λ db. refl) (λ r. refl)
loads n = elim [
  | true ↦ load_of (made_schema true) (of n) refl refl (refl, refl) refl (λ db. refl) (λ r. refl)
  | false ↦ load_of (made_schema false) (of n) refl refl (refl, refl) refl (λ db. refl) (λ r. refl)
]

pub is_query : (n : Name) → IsQuery (of n).load
unfolding everything
is_query Session schema base = refl
is_query n schema base = refl
